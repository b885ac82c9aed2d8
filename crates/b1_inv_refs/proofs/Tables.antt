-- A fact of a part's records and given numbers that each small change keeps is kept by every event.
use Rattle.std.proofs.Common.{◌≡◌, refl, sym, ap, inl, inr, subst, ℕ, ◌+◌, Bool, true, false, List, [], ◌∷◌, fold, zip, drop, length, Option, Some, None}
use Rattle.b1_model.specs.declared.naming.Key.{Key}
use Rattle.b1_model.specs.declared.naming.NodeRef.{NodeRef}
use Rattle.b1_model.specs.declared.naming.Opening.{Opening}
use Rattle.b1_model.specs.declared.parts.Slot.{Slot}
use Rattle.b1_model.specs.declared.parts.Slot.TheVariants as slot
use Rattle.b1_model.specs.declared.entries.Entry.{Entry}
use Rattle.b1_model.specs.declared.entries.Entry.TheVariants.{Message, OwnNotice, ForeignNotice, ReleaseNotice}
use Rattle.b1_model.specs.declared.answers.Reason.{Reason}
use Rattle.b1_model.specs.declared.events.Action.{Action}
use Rattle.b1_model.specs.declared.events.Action.TheVariants as act
use Rattle.b1_model.specs.declared.events.Doing.{Doing}
use Rattle.b1_model.specs.Names.{is_given}
use Rattle.b1_model.specs.MachineParts.{PeerPart, DriverPart, is_staged, record_or_none, carried}
use Rattle.b1_model.specs.MachineTables.{changed, changed_or_made, more_flight, less_flight, more_held, less_held, noticed, made_dead, expected, unexpected, foreign, next_number, held_node}
use Rattle.b1_model.specs.MachineSend.{unstaged_by, find_stage}
use Rattle.b1_model.specs.MachineReceive.{Arriving, discards, discarded, cleared, reference_by, slot_arrives, taken_entry, front_by, front_taken, received_part, given_up}
use Rattle.b1_model.specs.MachineDestroy.{needs_notice, notice_by, with_foreign_notice, visited_from}
use Rattle.b1_model.specs.MachineEvents.{happens, stage_by, doomed_of, begun_of, number_of}
use Rattle.b1_step.specs.Rights.{Has}
use Rattle.b1_step.proofs.Changed.{changes}
use Rattle.b1_inv_refs.proofs.Views.{Handles}
use Rattle.b1_inv_refs.proofs.Numbered.{given_then}

-- what the small changes keep; a record is made for a node of which more is known
pub record Closed (T : ℕ → Handles → Type 0) (New : NodeRef → Type 0) : Type 0 where
  pub none : (g : ℕ) → T g []
  pub more : (g : ℕ) (m : NodeRef) (hs : Handles) → New m → T g hs → T g (changed_or_made m more_flight hs)
  pub less : (g : ℕ) (m : NodeRef) (hs : Handles) → T g hs → T g (changed m less_flight hs)
  pub noticed : (g : ℕ) (m : NodeRef) (hs : Handles) → T g hs → T g (changed m noticed hs)
  pub dead : (g : ℕ) (m : NodeRef) (hs : Handles) → T g hs → T g (changed m made_dead hs)
  pub released : (g : ℕ) (m : NodeRef) (hs : Handles) → T g hs → T g (changed m less_held hs)
  pub come : (g : ℕ) (m : NodeRef) (hs : Handles) → T g hs → T (given_then g (record_or_none m hs).held) (changed m (λ r. more_held (next_number g) (less_flight r)) hs)

module _ (T : ℕ → Handles → Type 0) (New : NodeRef → Type 0) (c : Closed T New) where
  -- the fact of a part
  abbrev Holds : PeerPart → Type 0
  Holds x = T x.given x.handles

  all_expected : (g : ℕ) (nodes : List NodeRef) (hs : Handles) → ((n : NodeRef) → Has nodes n → New n) → T g hs → T g (expected nodes hs)
  all_expected g [] hs new t = t
  all_expected g (m ∷ rest) hs new t = all_expected g rest (changed_or_made m more_flight hs) (λ n h. new n (inr h)) (c.more g m hs (new m (inl refl)) t)

  all_unexpected : (g : ℕ) (nodes : List NodeRef) (hs : Handles) → T g hs → T g (unexpected nodes hs)
  all_unexpected g [] hs t = t
  all_unexpected g (m ∷ rest) hs t = all_unexpected g rest (changed m less_flight hs) (c.less g m hs t)

  -- ---- receiving

  at_discard : (e : Entry) (x : PeerPart) → Holds x → Holds (discarded x e)
  at_discard (Message origin user index serial offset len nodes slots handles payload) x t = all_unexpected x.given (foreign x.me nodes) x.handles t
  at_discard (OwnNotice serial index) x t = t
  at_discard (ForeignNotice node index) x t = c.dead x.given node x.handles t
  at_discard (ReleaseNotice serial) x t = t

  pub at_discards : (es : List (Key × Entry)) (x : PeerPart) → Holds x → Holds (fold (λ z f. discarded z f.1) x es)
  at_discards [] x t = t
  at_discards (f ∷ rest) x t = at_discards rest (discarded x f.1) (at_discard f.1 x t)

  at_reference : (b : Bool) (a : Arriving) (node : NodeRef) → Holds a.part → Holds (reference_by b a node).part
  at_reference true a node t = c.less a.part.given node a.part.handles t
  at_reference false a node t = c.come a.part.given node a.part.handles t

  at_slot : (a : Arriving) (node : NodeRef) (s : Slot) → Holds a.part → Holds (slot_arrives a (node, s)).part
  at_slot a node slot.Unattached t = all_unexpected a.part.given (foreign a.part.me (node ∷ [])) a.part.handles t
  at_slot a node slot.Attached t = at_reference (record_or_none node a.part.handles).dead a node t
  at_slot a node slot.Own t = t
  at_slot a node slot.Void t = all_unexpected a.part.given (foreign a.part.me (node ∷ [])) a.part.handles t

  at_slots : (ss : List (NodeRef × Slot)) (a : Arriving) → Holds a.part → Holds (fold slot_arrives a ss).part
  at_slots [] a t = t
  at_slots ((node, s) ∷ rest) a t = at_slots rest (slot_arrives a (node, s)) (at_slot a node s t)

  at_taken : (e : Entry) (k : Key) (x : PeerPart) → Holds x → Holds (taken_entry x k e).1
  at_taken (Message origin user index serial offset len nodes slots handles payload) k x t = at_slots (zip nodes slots) _ t
  at_taken (OwnNotice serial index) k x t = t
  at_taken (ForeignNotice node index) k x t = c.dead x.given node x.handles t
  at_taken (ReleaseNotice serial) k x t = t

  at_front : (b : Bool) (x : PeerPart) (f : Key × Entry) (rest : List (Key × Entry)) → Holds x → Holds (front_by b x f rest).1
  at_front true x f rest t = t
  at_front false x f rest t = at_taken f.1 f.0 (record x { queue = rest }) t

  at_front_taken : (queue : List (Key × Entry)) (x : PeerPart) → Holds x → Holds (front_taken x queue).1
  at_front_taken [] x t = t
  at_front_taken (f ∷ rest) x t = at_front (is_staged f) x f rest t

  at_recv : (x : PeerPart) → Holds x → Holds (received_part x)
  at_recv x t = at_front_taken (cleared x).queue (cleared x) (at_discards (discards x) (record x { queue = drop (length (discards x)) x.queue }) t)

  -- ---- the other events that change records

  at_stage : (r : Option Reason) (memory : Bool) (origin user place serial : ℕ) (payload : List ℕ) (nodes : List NodeRef) (x : PeerPart) → ((n : NodeRef) → Has (foreign x.me nodes) n → New n) → Holds x → Holds (stage_by r memory origin user place serial payload nodes x).1
  at_stage (Some r) memory origin user place serial payload nodes x new t = t
  at_stage None true origin user place serial payload nodes x new t = t
  at_stage None false origin user place serial payload nodes x new t = all_expected x.given (foreign x.me nodes) x.handles new t

  at_unstage : (f : Option (Key × Entry)) (x : PeerPart) (origin index : ℕ) → Holds x → Holds (unstaged_by f x origin index)
  at_unstage None x origin index t = t
  at_unstage (Some f) x origin index t = all_unexpected x.given (foreign x.me (carried f.1)) x.handles t

  at_release : (b : Bool) (held : Option NodeRef) (x : PeerPart) → Holds x → Holds (given_up b held x)
  at_release false held x t = t
  at_release true None x t = t
  at_release true (Some node) x t = c.released x.given node x.handles t

  at_notice : (b : Bool) (origin : ℕ) (x : PeerPart) (index : ℕ) (node : NodeRef) → Holds x → Holds (notice_by b origin x index node)
  at_notice false origin x index node t = t
  at_notice true origin x index node t = c.noticed x.given node x.handles t

  at_visit : (doomed : List ℕ) (origin index : ℕ) (x : PeerPart) → Holds x → Holds (visited_from origin index doomed x)
  at_visit [] origin index x t = t
  at_visit (serial ∷ rest) origin index x t =
      at_visit rest origin (index + 1) (with_foreign_notice origin x index (record { owner = origin; serial = serial }))
      (at_notice (needs_notice x (record { owner = origin; serial = serial })) origin x index (record { owner = origin; serial = serial }) t)

  by_change : (x y : PeerPart) → y.given ≡ x.given → y.handles ≡ x.handles → Holds x → Holds y
  by_change x y given handles t = subst (λ g. T g y.handles) (sym given) (subst (λ hs. T x.given hs) (sym handles) t)

  -- by its change of a part's fields, an event leaves records and given numbers
  by_event : (o : Opening) (memory : Bool) (d : DriverPart) (doing : Doing) (action : Action) (x : PeerPart) → (happens o memory d doing action x).1.given ≡ x.given → (happens o memory d doing action x).1.handles ≡ x.handles → Holds x → Holds (happens o memory d doing action x).1
  by_event o memory d doing action x given handles t = by_change x (happens o memory d doing action x).1 given handles t

  -- each event keeps it
  pub table_after : (o : Opening) (memory : Bool) (d : DriverPart) (doing : Doing) (action : Action) (x : PeerPart) → ((n : NodeRef) → Has (foreign x.me (begun_of doing.phase).with) n → New n) → T x.given x.handles → T (happens o memory d doing action x).1.given (happens o memory d doing action x).1.handles
  table_after o memory d doing (act.Stage peer place) x new t = at_stage _ memory _ _ _ _ _ (begun_of doing.phase).with x new t
  table_after o memory d doing (act.Unstage peer place) x new t = at_unstage (find_stage x d.me place) x d.me place t
  table_after o memory d doing act.Recv x new t = at_recv x t
  table_after o memory d doing act.Release x new t = at_release (is_given (number_of doing.command)) (held_node (number_of doing.command) x.handles) x t
  table_after o memory d doing (act.Visit peer) x new t = at_visit (doomed_of doing.phase) d.me 0 x t
  table_after o memory d doing act.Flush x new t = c.none x.given
  table_after o memory d doing act.Rest x new t = t
  table_after o memory d doing act.Begin x new t = let e = changes o memory d doing act.Begin x in by_event o memory d doing act.Begin x (ap (λ y. y.given) e) (ap (λ y. y.handles) e) t
  table_after o memory d doing (act.Attach peer serial dest) x new t = let e = changes o memory d doing (act.Attach peer serial dest) x in by_event o memory d doing (act.Attach peer serial dest) x (ap (λ y. y.given) e) (ap (λ y. y.handles) e) t
  table_after o memory d doing act.Stamp x new t = t
  table_after o memory d doing (act.Sync peer stamp) x new t = t
  table_after o memory d doing (act.Commit peer place stamp) x new t = let e = changes o memory d doing (act.Commit peer place stamp) x in by_event o memory d doing (act.Commit peer place stamp) x (ap (λ y. y.given) e) (ap (λ y. y.handles) e) t
  table_after o memory d doing (act.CommitNotices peer stamp) x new t = t
  table_after o memory d doing act.Reap x new t = t
  table_after o memory d doing (act.DropRefs peer serial holder k clock) x new t = let e = changes o memory d doing (act.DropRefs peer serial holder k clock) x in by_event o memory d doing (act.DropRefs peer serial holder k clock) x (ap (λ y. y.given) e) (ap (λ y. y.handles) e) t
  table_after o memory d doing act.BeginDestroy x new t = let e = changes o memory d doing act.BeginDestroy x in by_event o memory d doing act.BeginDestroy x (ap (λ y. y.given) e) (ap (λ y. y.handles) e) t
  table_after o memory d doing act.StampDestroy x new t = let e = changes o memory d doing act.StampDestroy x in by_event o memory d doing act.StampDestroy x (ap (λ y. y.given) e) (ap (λ y. y.handles) e) t
  table_after o memory d doing act.Local x new t = let e = changes o memory d doing act.Local x in by_event o memory d doing act.Local x (ap (λ y. y.given) e) (ap (λ y. y.handles) e) t
