-- Every queued foreign notice is of a peer that there is.
use Rattle.std.proofs.Common.{cond, ◌≡◌, refl, sym, ◌∙◌, arith, inl, inr, subst, ℕ, ◌<◌, Bool, true, false, List, [], length, Option}
use Rattle.b1_model.specs.declared.naming.Opening.{Opening}
use Rattle.b1_model.specs.declared.naming.Key.{Key}
use Rattle.b1_model.specs.declared.commands.Command.{Command}
use Rattle.b1_model.specs.declared.entries.Entry.{Entry}
use Rattle.b1_model.specs.declared.entries.Entry.TheVariants.{Message, OwnNotice, ForeignNotice, ReleaseNotice}
use Rattle.b1_model.specs.declared.parts.Slot.{Slot}
use Rattle.b1_model.specs.declared.events.Action.{Action}
use Rattle.b1_model.specs.declared.events.Action.TheVariants as act
use Rattle.b1_model.specs.declared.events.Doing.{Doing}
use Rattle.b1_model.specs.MachineParts.{PeerPart, DriverPart, State}
use Rattle.b1_model.specs.MachineTables.{is_stage, with_made}
use Rattle.b1_model.specs.Names.{is_own}
use Rattle.b1_play_end.proofs.Holds.{driver_there}
use Rattle.b1_model.specs.MachineSend.{with_slots}
use Rattle.b1_model.specs.MachineEvents.{happens}
use Rattle.b1_model.specs.MachineStep.{Step, opening_state, wire_made}
use Rattle.b1_step.specs.Rights.{Has}
use Rattle.b1_step.specs.Fixed.{IsNumbered}
use Rattle.b1_step.proofs.Orders.{find_has}
use Rattle.b1_step.proofs.Locality.{as_many_drivers}
use Rattle.b1_inv_tools.proofs.Leaves.{Did, step_did, peer_cases}
use Rattle.b1_inv_tools.proofs.Comes.{Comes, queue_comes}
use Rattle.b1_inv_tools.proofs.Openings.{opening_each}
use Rattle.b1_play_end.specs.Course.{HasOwner, OwnersThere}

-- slots don't matter
with_slots_owner : (n : ℕ) (slots : List Slot) (e : Entry) → HasOwner n e → HasOwner n (with_slots slots e)
with_slots_owner n slots (Message origin user index serial offset len nodes old handles payload) has = tt
with_slots_owner n slots (OwnNotice serial index) has = tt
with_slots_owner n slots (ForeignNotice node index) has = has
with_slots_owner n slots (ReleaseNotice serial) has = tt

module _ (o : Opening) (d : DriverPart) (doing : Doing) (x : PeerPart) (n : ℕ) (here : d.me < n) (old : (f : Key × Entry) → Has x.queue f → HasOwner n f.1) where
  comes_owner : (action : Action) (f : Key × Entry) → Comes o d doing x action f → HasOwner n f.1
  comes_owner (act.Stage peer place) f is = subst (λ g. HasOwner n g.1) (sym is) tt
  comes_owner (act.Commit peer place stamp) f (g, found, is) = subst (λ h. HasOwner n h.1) (sym is) (with_slots_owner n _ g.1 (old g (find_has (is_stage d.me place) x.queue g found).0))
  comes_owner (act.CommitNotices peer stamp) f (g, has, staged, is) = subst (λ h. HasOwner n h.1) (sym is) (old g has)
  comes_owner (act.DropRefs peer serial holder k clock) f is = subst (λ h. HasOwner n h.1) (sym is.0) tt
  comes_owner act.BeginDestroy f is = subst (λ h. HasOwner n h.1) (sym is.3) tt
  comes_owner (act.Visit peer) f is = subst (λ h. HasOwner n h.1) (sym is.3) here
  comes_owner action f is = absurd is

  pub event_owner : (memory : Bool) (action : Action) (f : Key × Entry) → Has (happens o memory d doing action x).1.queue f → HasOwner n f.1
  event_owner memory action f has = elim (queue_comes o d doing f memory action x has) [ inl was ↦ old f was.0 | inr new ↦ comes_owner action f new ]

module _ {o : Opening} {s : State} {p : ℕ} {command : Option Command} {t : State} (numbered : IsNumbered o s) (owners : OwnersThere s) (step : Step o s p command t) where
  k : Did o step.local.memory step.driver command step.peer step.action step.at step.new_driver step.new_peer
  k = step_did step

  here : k.e.me < length s.drivers
  here = omega (arith, driver_there s.drivers p step.driver step.is_driver, k.opened.me, numbered.drivers p step.driver step.is_driver)

  pub owners_kept : OwnersThere t
  owners_kept q y f is_y has = subst (λ n. HasOwner n f.1) (sym (as_many_drivers step)) (elim (peer_cases step q y is_y) [
    | inl at ↦ event_owner o k.e k.doing step.peer (length s.drivers) here (λ g there. owners step.at step.peer g step.is_peer there) step.local.memory step.action f (subst (λ z. Has z.queue f) (at.1 ∙ k.peer) has)
    | inr elsewhere ↦ owners q y f elsewhere.1 has
  ])

abbrev Unqueued : PeerPart → Type 0
Unqueued x = x.queue ≡ []

made_unqueued : (number : ℕ) (x : PeerPart) → Unqueued x → Unqueued (wire_made number x)
made_unqueued number x none = elim (is_own number) as (λ b. Unqueued (cond b (record x { nodes = with_made x.peers number x.nodes }) x)) [ true ↦ none | false ↦ none ]

pub opening_owners : (o : Opening) → OwnersThere (opening_state o)
opening_owners o q x f is_x has = absurd (subst (λ queue. Has queue f) (opening_each Unqueued made_unqueued (λ node dest y none. none) (λ node y none. none) o (λ me spec. refl) q x is_x) has)
