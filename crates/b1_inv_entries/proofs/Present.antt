-- Queued messages are for nodes of the epoch of their peer's part.
use Rattle.std.proofs.Common.{◌≡◌, refl, sym, ap, subst, ◌∙◌, inl, inr, ℕ, ◌≤◌, Bool, true, false, cond, List, [], Option, Some, None}
use Rattle.std.proofs.lemmas.Option.{slice_get_within}
use native.Mathlib.Omega.{arith}
use Rattle.b1_model.specs.declared.commands.Command.{Command}
use Rattle.b1_model.specs.declared.naming.Key.{Key}
use Rattle.b1_model.specs.declared.naming.Opening.{Opening}
use Rattle.b1_model.specs.declared.parts.Slot.{Slot}
use Rattle.b1_model.specs.declared.entries.Entry.{Entry}
use Rattle.b1_model.specs.declared.entries.Entry.TheVariants.{Message, OwnNotice, ForeignNotice, ReleaseNotice}
use Rattle.b1_model.specs.declared.events.Action.{Action}
use Rattle.b1_model.specs.declared.events.Action.TheVariants as act
use Rattle.b1_model.specs.declared.events.Doing.{Doing}
use Rattle.b1_model.specs.declared.events.Phase.{Phase}
use Rattle.b1_model.specs.declared.events.Phase.TheVariants.{SyncingNotices, CommittingOwn, CommittingNotices, Flushing}
use Rattle.b1_model.specs.MachineParts.{PeerPart, DriverPart, State, node_at, is_live}
use Rattle.b1_model.specs.MachineTables.{is_stage}
use Rattle.b1_model.specs.MachineDriver.{peer_of, node_of_place, is_flushing}
use Rattle.b1_model.specs.MachineTook.{driver_calls}
use Rattle.b1_model.specs.MachineSend.{with_slots}
use Rattle.b1_model.specs.MachineEvents.{happens}
use Rattle.b1_model.specs.MachineStep.{Step, opening_state}
use Rattle.b1_step.specs.Rights.{Has}
use Rattle.b1_step.proofs.Orders.{find_has}
use Rattle.b1_inv.specs.Words.{IsPeer, IsDriver}
use Rattle.b1_inv.specs.Sound.{IsSound}
use Rattle.b1_inv_record.specs.Dooming.{is_ending}
use Rattle.b1_inv_record.specs.Entries.{IsPresent, QueuedIsPresent}
use Rattle.b1_inv_record.specs.Epochs.{awaits_flush, in_gap, made_before, flushed_calls, first_now, first_done}
use Rattle.b1_inv_record.specs.Right.{IsRight}
use Rattle.b1_inv_tools.proofs.Leaves.{peer_cases}
use Rattle.b1_inv_sends.proofs.StagesKept.{opening_queue}
use Rattle.b1_inv_notices.proofs.Turns.{parts, going, going_doing, going_action, get_there}
use Rattle.b1_inv_destroys.proofs.Recorded.{calls_by, recorded, as_many}
use Rattle.b1_inv_destroys.proofs.Taken.{number}
use Rattle.b1_inv_destroys.proofs.FirstNode.{is_flush_action, first_other, first_same}
use Rattle.b1_inv_destroys.proofs.Present.{live_present}
use Rattle.b1_inv_entries.proofs.Sources.{Stages, Commits, Notices, Drops, Dooms, Visits, Brought, entry_source}

ending : (s : State) (p : ℕ) (d : DriverPart) (doing : Doing) (phase : Phase) → ((stamp : Option ℕ) → phase ≡ Flushing stamp → is_flushing doing.command ≡ true) → awaits_flush doing.command phase ≡ true → (is_flushing doing.command ≡ true) × (is_ending phase ≡ true)
ending s p d doing (SyncingNotices destruction stamp at) flushes is = (is, refl)
ending s p d doing (CommittingOwn destruction stamp) flushes is = (is, refl)
ending s p d doing (CommittingNotices destruction stamp at) flushes is = (is, refl)
ending s p d doing (Flushing stamp) flushes is = (flushes stamp refl, refl)
ending s p d doing phase flushes is = absurd (cc is)

same_slots : (first : ℕ) (slots : List Slot) (e : Entry) → IsPresent first e → IsPresent first (with_slots slots e)
same_slots first slots (Message origin user index serial offset len nodes old handles payload) low = low
same_slots first slots (OwnNotice serial index) low = tt
same_slots first slots (ForeignNotice node index) low = tt
same_slots first slots (ReleaseNotice serial) low = tt

module _ {o : Opening} {s : State} {p : ℕ} {c : Option Command} {t : State} (sound : IsSound o s) (right : IsRight o s) (step : Step o s p c t) where
  -- in the gap of a reset no node is live
  gap_dead : (q serial : ℕ) (x : PeerPart) (d : DriverPart) → IsPeer s q x → IsDriver s q d → (doing : Option Doing) → d.doing ≡ doing → in_gap d ≡ true → is_live (node_at x serial).state ≡ true → ⊥
  gap_dead q serial x d is_peer is_driver None open_is gap live = let no : false ≡ true = ap (λ z. elim z [ None ↦ false | Some one ↦ awaits_flush one.command one.phase ]) (sym open_is) ∙ gap in cc no
  gap_dead q serial x d is_peer is_driver (Some doing) open_is gap live =
      let awaits : awaits_flush doing.command doing.phase ≡ true = ap (λ z. elim z [ None ↦ false | Some one ↦ awaits_flush one.command one.phase ]) (sym open_is) ∙ gap in
      let k = ending s q d doing doing.phase (λ stamp is. right.destructions.flushes.flushes q stamp d doing is_driver open_is is) awaits in
      let none : is_live (node_at x serial).state ≡ false = right.destructions.all.none q d x doing is_driver is_peer open_is k.0 k.1 serial in
      let both : false ≡ true = sym none ∙ live in cc both

  no_gap : (q : ℕ) (d : DriverPart) → IsDriver s q d → in_gap d ≡ false → first_done o s q ≡ first_now o s q
  no_gap q d is gap =
      ap (λ z. elim z [ None ↦ 0 | Some e ↦ made_before o.wires q (flushed_calls e) ]) is
      ∙ ap (λ b. made_before o.wires q (cond b d.calls (driver_calls d))) gap
      ∙ ap (λ z. made_before o.wires q (calls_by z)) (sym is)
      ∙ ap (made_before o.wires q) (sym (recorded s q (as_many sound step)))

  driver_at : (q : ℕ) (x : PeerPart) → IsPeer s q x → (d : DriverPart) × IsDriver s q d
  driver_at q x is = get_there s.drivers q (let within = slice_get_within s.peers q x is in omega (arith, within, as_many sound step))

  -- a live node is of the epoch of its peer's part
  pub live_done : (q serial : ℕ) (x : PeerPart) → IsPeer s q x → is_live (node_at x serial).state ≡ true → first_done o s q ≤ serial
  live_done q serial x is live = by (in_gap d) refl
    where
      d : DriverPart
      d = (driver_at q x is).0

      by : (b : Bool) → in_gap d ≡ b → first_done o s q ≤ serial
      by true gap = absurd (gap_dead q serial x d is (driver_at q x is).1 d.doing refl gap live)
      by false gap = let low = live_present sound right step q serial x is live in let same = no_gap q d (driver_at q x is).1 gap in omega (arith, low, same)

  old_present : (f : Key × Entry) → Has step.peer.queue f → IsPresent (first_done o s step.at) f.1
  old_present f has = right.entries.present.present step.at step.peer f step.is_peer has

  new_present : (f : Key × Entry) → Brought step f → IsPresent (first_done o s step.at) f.1
  new_present f (Stages begun places collected phase owed live answered is) =
      subst {A = Key × Entry} (λ g. IsPresent (first_done o s step.at) g.1) (sym is) (live_done step.at (node_of_place begun.to _).serial step.peer step.is_peer live)
  new_present f (Commits sending stamp place g phase owed found is) =
      let there = find_has (is_stage step.driver.me place) step.peer.queue g found in
      subst {A = Key × Entry} (λ h. IsPresent (first_done o s step.at) h.1) (sym is) (same_slots (first_done o s step.at) _ g.1 (old_present g there.0))
  new_present f (Notices stamp g phase has notice is) = subst {A = Key × Entry} (λ h. IsPresent (first_done o s step.at) h.1) (sym is) (old_present g has)
  new_present f (Drops one has is) = subst {A = Key × Entry} (λ g. IsPresent (first_done o s step.at) g.1) (sym is) tt
  new_present f (Dooms index serial starting at is) = subst {A = Key × Entry} (λ g. IsPresent (first_done o s step.at) g.1) (sym is) tt
  new_present f (Visits index serial at is) = subst {A = Key × Entry} (λ g. IsPresent (first_done o s step.at) g.1) (sym is) tt

  before_present : (q : ℕ) (y : PeerPart) (f : Key × Entry) → IsPeer t q y → Has y.queue f → IsPresent (first_done o s q) f.1
  before_present q y f is has = elim (peer_cases step q y is) [
    | inr other ↦ right.entries.present.present q y f other.1 has
    | inl here ↦ subst (λ r. IsPresent (first_done o s r) f.1) (sym here.0) (elim (entry_source step f (subst (λ z. Has z.queue f) here.1 has)) [ inl old ↦ old_present f old.0 | inr new ↦ new_present f new ])
  ]

  -- a flush is at its driver's peer, and leaves no entry
  flush_at : (action : Action) → is_flush_action action ≡ true → peer_of step.driver.me action ≡ step.at → step.at ≡ p
  flush_at act.Flush is at = sym at ∙ number sound right step
  flush_at action is at = absurd (cc is)

  flush_empty : (action : Action) → is_flush_action action ≡ true → (happens o step.local.memory (going step) (going_doing step) action step.peer).1.queue ≡ []
  flush_empty act.Flush is = refl
  flush_empty action is = absurd (cc is)

  flushed_first : is_flush_action (going_action step) ≡ true → (q : ℕ) (y : PeerPart) (f : Key × Entry) → IsPeer t q y → Has y.queue f → first_done o t q ≡ first_done o s q
  flushed_first flush q y f is has = elim (peer_cases step q y is) [
    | inr other ↦ first_other step q (λ same. other.0 (same ∙ sym (flush_at (going_action step) flush (parts step).is_at)))
    | inl here ↦ absurd (subst (λ queue. Has queue f) (ap (λ z. z.queue) (here.1 ∙ sym (parts step).is_peer) ∙ flush_empty (going_action step) flush) has)
  ]

  -- where an entry is queued, a step leaves the first node of the epoch
  pub first_stays : (q : ℕ) (y : PeerPart) (f : Key × Entry) → IsPeer t q y → Has y.queue f → first_done o t q ≡ first_done o s q
  first_stays q y f is has = by (is_flush_action (going_action step)) refl
    where
      by : (b : Bool) → is_flush_action (going_action step) ≡ b → first_done o t q ≡ first_done o s q
      by true flush = flushed_first flush q y f is has
      by false calm = first_same step calm q

  pub queued_present : QueuedIsPresent o t
  queued_present = record { present = λ q y f is has. subst (λ n. IsPresent n f.1) (sym (first_stays q y f is has)) (before_present q y f is has) }

pub queued_begins : (o : Opening) → QueuedIsPresent o (opening_state o)
queued_begins o = record { present = λ q x f is has. absurd (subst (λ queue. Has queue f) (opening_queue o q x is) has) }
