-- Where a filled slot of an entry comes from: it was filled so before the step, or the event filled it.
use Rattle.std.proofs.Common.{◌≡◌, ◌≢◌, ◌⊎◌, refl, sym, ap, subst, ◌∙◌, inl, inr, ℕ, Bool, true, false, [], Option, Some, None}
use Rattle.std.specs.Prelude.{slice_get}
use Rattle.b1_model.specs.declared.commands.Command.{Command}
use Rattle.b1_model.specs.declared.naming.Key.{Key}
use Rattle.b1_model.specs.declared.naming.Opening.{Opening}
use Rattle.b1_model.specs.declared.parts.Slot.{Slot}
use Rattle.b1_model.specs.declared.parts.Slot.TheVariants as slot
use Rattle.b1_model.specs.declared.entries.Entry.{Entry}
use Rattle.b1_model.specs.declared.events.Doing.{Doing}
use Rattle.b1_model.specs.declared.events.Phase.TheVariants.{Starting}
use Rattle.b1_model.specs.MachineParts.{DriverPart, State, is_staged, slots_of}
use Rattle.b1_model.specs.MachineEvents.{slots_at, collected_of}
use Rattle.b1_model.specs.MachineStep.{Step}
use Rattle.b1_inv.specs.Words.{IsDriver}
use Rattle.b1_inv_record.specs.Holders.{slots_now}
use Rattle.b1_inv_tools.proofs.Leaves.{driver_cases}
use Rattle.b1_inv_notices.proofs.Turns.{took_leaves, parts, going_answer}
use Rattle.b1_inv_holders.proofs.Counted.{driver_slots, cond_true, cond_false}
use Rattle.b1_inv_holders.proofs.SlotTurns.{IsSlot, NewSlot, SlotIn, in_none, slot_turn}

module _ (v : Slot) (other : slot.Unattached ≢ v) {o : Opening} {s : State} {p : ℕ} {c : Option Command} {t : State} (step : Step o s p c t) where
  turned_slot : (at j : ℕ) → SlotIn v other (parts step).command (parts step).phase (going_answer step) at j step.new_driver.doing
  turned_slot at j =
      subst (λ e. SlotIn v other (parts step).command (parts step).phase (going_answer step) at j e.doing) (parts step).is_driver
      (took_leaves (SlotIn v other (parts step).command (parts step).phase (going_answer step) at j) (parts step).command (λ phase may h. in_none v other (parts step).command (parts step).phase (going_answer step) at j) step.driver (parts step).phase step.driver.owed (going_answer step)
      (slot_turn v other (parts step).command at j step.driver.me (parts step).phase (going_answer step)))

  abbrev Before : ℕ → ℕ → ℕ → Type 0
  Before origin at j = IsSlot v (driver_slots (slice_get s.drivers origin) at) j ⊎ ((origin ≡ p) × (collected : ℕ) × NewSlot v other (parts step).phase (going_answer step) at j collected)

  open_slots : (origin at j : ℕ) → origin ≡ p → IsSlot v (slots_at (parts step).phase at) j → IsSlot v (driver_slots (slice_get s.drivers origin) at) j
  open_slots origin at j here is =
      elim (parts step).was [
        | inl open_is ↦ ap (λ z. slice_get (driver_slots z at) j) (subst (λ r. IsDriver s r step.driver) (sym here) step.is_driver) ∙ ap (λ z. slice_get (elim z [ None ↦ [] | Some doing ↦ slots_at doing.phase at ]) j) open_is ∙ is
        | inr new ↦ let never : slice_get (slots_at Starting at) j ≡ Some v = ap (λ phase. slice_get (slots_at phase at) j) (sym new.1) ∙ is in absurd (cc never)
      ]

  by_doing : (origin at j : ℕ) (doing : Option Doing) → origin ≡ p → step.new_driver.doing ≡ doing → IsSlot v (elim doing [ None ↦ [] | Some one ↦ slots_at one.phase at ]) j → Before origin at j
  by_doing origin at j None here is slot_is = absurd (cc slot_is)
  by_doing origin at j (Some one) here is slot_is = elim (turned_slot at j one is slot_is).2 [ inl old ↦ inl (open_slots origin at j here old) | inr new ↦ inr (here, collected_of one.phase, new) ]

  by_driver : (origin at j : ℕ) (found : Option DriverPart) → slice_get t.drivers origin ≡ found → IsSlot v (driver_slots found at) j → Before origin at j
  by_driver origin at j None is slot_is = absurd (cc slot_is)
  by_driver origin at j (Some e) is slot_is =
      elim (driver_cases step origin e is) [
        | inr same ↦ inl (ap (λ z. slice_get (driver_slots z at) j) same.1 ∙ slot_is)
        | inl own ↦ by_doing origin at j step.new_driver.doing own.0 refl (subst (λ d. IsSlot v (driver_slots (Some d) at) j) own.1 slot_is)
      ]

  -- a slot of an entry that is filled so was so before, or the event filled it
  pub filled_from : (f : Key × Entry) (j : ℕ) → IsSlot v (slots_now t f) j → IsSlot v (slots_now s f) j ⊎ ((is_staged f ≡ true) × (f.0.origin ≡ p) × (collected : ℕ) × NewSlot v other (parts step).phase (going_answer step) f.0.index j collected)
  filled_from f j is = by (is_staged f) refl
    where
      by : (b : Bool) → is_staged f ≡ b → IsSlot v (slots_now s f) j ⊎ ((is_staged f ≡ true) × (f.0.origin ≡ p) × (collected : ℕ) × NewSlot v other (parts step).phase (going_answer step) f.0.index j collected)
      by false even =
          inl (ap (λ l. slice_get l j) (cond_false (is_staged f) (driver_slots (slice_get s.drivers f.0.origin) f.0.index) (slots_of f.1) even ∙ sym (cond_false (is_staged f) (driver_slots (slice_get t.drivers f.0.origin) f.0.index) (slots_of f.1) even)) ∙ is)
      by true odd =
          elim (by_driver f.0.origin f.0.index j (slice_get t.drivers f.0.origin) refl (ap (λ l. slice_get l j) (sym (cond_true (is_staged f) (driver_slots (slice_get t.drivers f.0.origin) f.0.index) (slots_of f.1) odd)) ∙ is)) [
            | inl old ↦ inl (ap (λ l. slice_get l j) (cond_true (is_staged f) (driver_slots (slice_get s.drivers f.0.origin) f.0.index) (slots_of f.1) odd) ∙ old)
            | inr new ↦ inr (odd, new.0, new.1, new.2)
          ]
