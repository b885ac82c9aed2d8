-- Own notices that are staged when their destruction has a stamp are staged below it.
use Rattle.std.proofs.Common.{◌≡◌, ◌≢◌, ◌⊎◌, refl, sym, ap, subst, ◌∙◌, inl, inr, ℕ, ◌+◌, ◌%◌, ◌≤◌, ◌<◌, max, true, false, List, Option, Some, None}
use native.Mathlib.Omega.{arith}
use Rattle.b1_model.specs.declared.commands.Command.{Command}
use Rattle.b1_model.specs.declared.naming.Key.{Key}
use Rattle.b1_model.specs.declared.naming.Opening.{Opening}
use Rattle.b1_model.specs.declared.parts.Slot.{Slot}
use Rattle.b1_model.specs.declared.entries.Entry.{Entry}
use Rattle.b1_model.specs.declared.entries.Entry.TheVariants.{Message, OwnNotice, ForeignNotice, ReleaseNotice}
use Rattle.b1_model.specs.declared.events.Action.{Action}
use Rattle.b1_model.specs.declared.events.Action.TheVariants as act
use Rattle.b1_model.specs.MachineParts.{PeerPart, DriverPart, State, is_staged, is_odd, is_data}
use Rattle.b1_model.specs.MachineTables.{is_stage}
use Rattle.b1_model.specs.MachineSend.{with_slots}
use Rattle.b1_model.specs.MachineDriver.{peer_of}
use Rattle.b1_model.specs.MachineEvents.{slots_at, collected_of}
use Rattle.b1_model.specs.MachineStep.{Step, opening_state}
use Rattle.b1_step.specs.Rights.{Has}
use Rattle.b1_step.proofs.Orders.{find_has}
use Rattle.b1_inv.specs.Words.{IsPeer, IsDriver, stamp_of_phase, fixed_stamp}
use Rattle.b1_inv.specs.Sound.{IsSound}
use Rattle.b1_inv_record.specs.Clocks.{is_own_notice}
use Rattle.b1_inv_record.specs.Entries.{NoticesBelowStamp}
use Rattle.b1_inv_record.specs.Right.{IsRight}
use Rattle.b1_inv_tools.proofs.Comes.{Comes}
use Rattle.b1_inv_tools.proofs.Facts.{even_is}
use Rattle.b1_inv_tools.proofs.Leaves.{driver_cases, peer_cases}
use Rattle.b1_inv_sends.proofs.StagesKept.{opening_queue}
use Rattle.b1_inv_notices.proofs.Stamped.{gives, gave_is}
use Rattle.b1_inv_notices.proofs.StampTurns.{Gave}
use Rattle.b1_inv_notices.proofs.StampsLaw.{fixed_before, stamp_after, given_at}
use Rattle.b1_inv_notices.proofs.Turns.{ActionStamp, action_stamp, parts, going, going_doing, going_action, going_answer}
use Rattle.b1_inv_destroys.proofs.Keyed.{stage_is_message}
use Rattle.b1_inv_destroys.proofs.Taken.{is_starting, BeginPhase, starting_is, number, came, begins_here}

not_own : (slots : List Slot) (e : Entry) → is_data e ≡ true → is_own_notice (with_slots slots e) ≡ false
not_own slots (Message origin user index serial offset len nodes old handles payload) is = refl
not_own slots (OwnNotice serial index) is = absurd (cc is)
not_own slots (ForeignNotice node index) is = refl
not_own slots (ReleaseNotice serial) is = refl

module _ {o : Opening} {s : State} {p : ℕ} {c : Option Command} {t : State} (sound : IsSound o s) (right : IsRight o s) (step : Step o s p c t) where
  no_even : (f : Key × Entry) (stamp : ℕ) → is_staged f ≡ true → f.0.stamp ≡ stamp → stamp % 2 ≡ 0 → ⊥
  no_even f stamp odd same is = let both : true ≡ false = sym odd ∙ ap is_odd same ∙ even_is stamp is in cc both

  apart : (f : Key × Entry) (e : Entry) → is_own_notice f.1 ≡ true → f.1 ≡ e → is_own_notice e ≡ false → ⊥
  apart f e own same none = let both : true ≡ false = sym own ∙ ap is_own_notice same ∙ none in cc both

  -- a staged own notice that comes is of a destruction that begins
  fresh : (action : Action) (f : Key × Entry) → BeginPhase (parts step).phase action → peer_of step.driver.me action ≡ step.at → ActionStamp (parts step).phase step.driver.owed action → is_staged f ≡ true → is_own_notice f.1 ≡ true
      → Comes o (going step) (going_doing step) step.peer action f → (is_starting (parts step).phase ≡ true) × (step.at ≡ p)
  fresh (act.Stage peer place) f begins at stamps odd own comes = absurd (apart f _ own (ap (λ z. z.1) comes) refl)
  fresh (act.Commit peer place stamp) f begins at stamps odd own (g, found, same) =
      let message = stage_is_message step.driver.me place g (find_has (is_stage step.driver.me place) step.peer.queue g found).1 in
      absurd (apart f _ own (ap (λ z. z.1) same) (not_own (slots_at (parts step).phase place) g.1 message))
  fresh (act.CommitNotices peer stamp) f begins at stamps odd own (g, there, staged, same) =
      absurd (no_even f stamp odd (ap (λ z. z.0.stamp) same) (sound.clocks.stamp p step.driver stamp step.is_driver (fixed_before sound step stamp stamps)).0)
  fresh (act.DropRefs peer serial holder k clock) f begins at stamps odd own comes = absurd (apart f _ own (ap (λ z. z.1) comes.0) refl)
  fresh act.BeginDestroy f begins at stamps odd own comes = (begins, sym at ∙ number sound right step)
  fresh (act.Visit peer) f begins at stamps odd own (index, serial, is, same) = absurd (apart f _ own (ap (λ z. z.1) same) refl)
  fresh action f begins at stamps odd own comes = absurd comes

  -- a staged own notice at the event's peer stood there, or its destruction begins
  old_or_begins : (f : Key × Entry) → Has step.new_peer.queue f → is_staged f ≡ true → is_own_notice f.1 ≡ true → Has step.peer.queue f ⊎ ((is_starting (parts step).phase ≡ true) × (step.at ≡ p))
  old_or_begins f has odd own = elim (came sound right step f has) [
    | inl old ↦ inl old.0
    | inr new ↦ inr (fresh (going_action step) f (begins_here sound right step) (parts step).is_at (action_stamp step.driver (parts step).command (parts step).phase step.driver.owed) odd own new)
  ]

  -- a stamp that is given is two above the clock at least
  given_above : (stamp : ℕ) → Gave (going_answer step) stamp → step.peer.clock + 2 ≤ stamp
  given_above stamp gave =
      let k = gave_is o step.local.memory (going step) (going_doing step) (going_action step) step.peer stamp gave in
      let same : max step.peer.clock (collected_of (parts step).phase) + 2 ≡ stamp = k.1 in omega (arith, same)

  never_both : (stamp : ℕ) → Gave (going_answer step) stamp → is_starting (parts step).phase ≡ true → (f : Key × Entry) → Comes o (going step) (going_doing step) step.peer (going_action step) f → ⊥
  never_both stamp gave starting f comes =
      by (going_action step) (gave_is o step.local.memory (going step) (going_doing step) (going_action step) step.peer stamp gave).0 comes
    where
      by : (action : Action) → gives action ≡ true → Comes o (going step) (going_doing step) step.peer action f → ⊥
      by act.Stamp is h = h
      by act.StampDestroy is h = h
      by action is h = absurd (cc is)

  own_below : (stamp : ℕ) (y : PeerPart) (f : Key × Entry) → IsPeer t p y → fixed_stamp step.new_driver ≡ Some stamp → Has y.queue f → is_staged f ≡ true → is_own_notice f.1 ≡ true → f.0.stamp < stamp
  own_below stamp y f is_peer fixed has odd own = elim (stamp_after sound step stamp fixed) [
    | inl same ↦ elim (peer_cases step p y is_peer) [
      | inr other ↦ right.entries.noticed.below p stamp step.driver y f step.is_driver other.1 (fixed_before sound step stamp same) has odd own
      | inl here ↦ elim (old_or_begins f (subst (λ z. Has z.queue f) here.1 has) odd own) [
        | inl old ↦ right.entries.noticed.below p stamp step.driver step.peer f step.is_driver (subst (λ q. IsPeer s q step.peer) (sym here.0) step.is_peer) (fixed_before sound step stamp same) old odd own
        | inr begins ↦ let none : None ≡ Some stamp = ap stamp_of_phase (sym (starting_is (parts step).phase begins.0)) ∙ same in absurd (cc none)
      ]
    ]
    | inr gave ↦ elim (peer_cases step p y is_peer) [
      | inr other ↦ absurd (other.0 (sym (given_at sound step stamp gave).0))
      | inl here ↦ elim (came sound right step f (subst (λ z. Has z.queue f) here.1 has)) [
        | inl old ↦ let low = right.clocks.staged.clock step.at step.peer f step.is_peer old.0 odd in let high = given_above stamp gave in omega (arith, low, high)
        | inr new ↦ absurd (never_both stamp gave (fresh (going_action step) f (begins_here sound right step) (parts step).is_at (action_stamp step.driver (parts step).command (parts step).phase step.driver.owed) odd own new).0 f new)
      ]
    ]
  ]

  other_below : (r stamp : ℕ) (d : DriverPart) (y : PeerPart) (f : Key × Entry) → r ≢ p → IsDriver s r d → IsPeer t r y → fixed_stamp d ≡ Some stamp → Has y.queue f → is_staged f ≡ true → is_own_notice f.1 ≡ true → f.0.stamp < stamp
  other_below r stamp d y f other is_driver is_peer fixed has odd own = elim (peer_cases step r y is_peer) [
    | inr away ↦ right.entries.noticed.below r stamp d y f is_driver away.1 fixed has odd own
    | inl here ↦ elim (old_or_begins f (subst (λ z. Has z.queue f) here.1 has) odd own) [
      | inl old ↦ right.entries.noticed.below r stamp d step.peer f is_driver (subst (λ q. IsPeer s q step.peer) (sym here.0) step.is_peer) fixed old odd own
      | inr begins ↦ absurd (other (here.0 ∙ begins.1))
    ]
  ]

  pub notices_below_stamp : NoticesBelowStamp t
  notices_below_stamp = record {
    below = λ r stamp d y f is_driver is_peer fixed has odd own. elim (driver_cases step r d is_driver) [
      | inl mine ↦ own_below stamp y f (subst (λ q. IsPeer t q y) mine.0 is_peer) (ap fixed_stamp (sym mine.1) ∙ fixed) has odd own
      | inr other ↦ other_below r stamp d y f other.0 other.1 is_peer fixed has odd own
    ];
  }

pub below_stamp_begins : (o : Opening) → NoticesBelowStamp (opening_state o)
below_stamp_begins o = record { below = λ p stamp d x f is_driver is_peer fixed has odd own. absurd (subst (λ queue. Has queue f) (opening_queue o p x is_peer) has) }
