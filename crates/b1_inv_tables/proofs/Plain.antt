-- What every event but a RECV, a release and a flush leaves of the records: their numbers, and how often each node is held.
use Rattle.std.proofs.Common.{◌≡◌, refl, sym, ap, subst, Bool, true}
use Rattle.b1_model.specs.declared.naming.Opening.{Opening}
use Rattle.b1_model.specs.declared.events.Action.{Action}
use Rattle.b1_model.specs.declared.events.Action.TheVariants as act
use Rattle.b1_model.specs.declared.events.Doing.{Doing}
use Rattle.b1_model.specs.MachineParts.{PeerPart, DriverPart}
use Rattle.b1_model.specs.MachineEvents.{happens}
use Rattle.b1_step.specs.Rights.{may_be_elsewhere}
use Rattle.b1_step.proofs.Changed.{changes}
use Rattle.b1_step.proofs.Kept.{keeps}
use Rattle.b1_inv_tables.proofs.Agrees.{LinesKept, lines_same, lines_of_kept}
use Rattle.b1_inv_tables.proofs.Deeds.{is_plain}

-- the same records as a table sees them, and as many numbers given
abbrev pub SameTable : PeerPart → PeerPart → Type 0
SameTable x y = (y.given ≡ x.given) × LinesKept x.handles y.handles

-- a part is as itself
pub same_table : (x : PeerPart) → SameTable x x
same_table x = (refl, lines_same x.handles)

module _ (o : Opening) (memory : Bool) (d : DriverPart) (doing : Doing) (x : PeerPart) where
  -- an event that may be at another peer
  pub other_event : (action : Action) → may_be_elsewhere action ≡ true → SameTable x (happens o memory d doing action x).1
  other_event action is = let k = keeps o memory d doing action x is in (k.given, lines_of_kept x.handles (happens o memory d doing action x).1.handles k.handles)

  -- an event that leaves records and given numbers
  by_fields : (action : Action) → (happens o memory d doing action x).1.given ≡ x.given → (happens o memory d doing action x).1.handles ≡ x.handles → SameTable x (happens o memory d doing action x).1
  by_fields action given handles = (given, subst (LinesKept x.handles) (sym handles) (lines_same x.handles))

  -- every plain event
  pub plain_event : (action : Action) → is_plain action ≡ true → SameTable x (happens o memory d doing action x).1
  plain_event act.Recv is = absurd (cc is)
  plain_event act.Release is = absurd (cc is)
  plain_event act.Flush is = absurd (cc is)
  plain_event act.Rest is = same_table x
  plain_event act.Stamp is = same_table x
  plain_event act.Reap is = same_table x
  plain_event act.Begin is = let e = changes o memory d doing act.Begin x in by_fields act.Begin (ap (λ y. y.given) e) (ap (λ y. y.handles) e)
  plain_event act.BeginDestroy is = let e = changes o memory d doing act.BeginDestroy x in by_fields act.BeginDestroy (ap (λ y. y.given) e) (ap (λ y. y.handles) e)
  plain_event act.StampDestroy is = let e = changes o memory d doing act.StampDestroy x in by_fields act.StampDestroy (ap (λ y. y.given) e) (ap (λ y. y.handles) e)
  plain_event act.Local is = let e = changes o memory d doing act.Local x in by_fields act.Local (ap (λ y. y.given) e) (ap (λ y. y.handles) e)
  plain_event (act.Stage peer place) is = other_event (act.Stage peer place) refl
  plain_event (act.Unstage peer place) is = other_event (act.Unstage peer place) refl
  plain_event (act.Attach peer serial dest) is = other_event (act.Attach peer serial dest) refl
  plain_event (act.Sync peer stamp) is = other_event (act.Sync peer stamp) refl
  plain_event (act.Commit peer place stamp) is = other_event (act.Commit peer place stamp) refl
  plain_event (act.CommitNotices peer stamp) is = other_event (act.CommitNotices peer stamp) refl
  plain_event (act.DropRefs peer serial holder k clock) is = other_event (act.DropRefs peer serial holder k clock) refl
  plain_event (act.Visit peer) is = other_event (act.Visit peer) refl
