-- The calls of a record after a step, each with its epoch: those of before, and the new one.
use Rattle.std.proofs.Common.{◌≡◌, ◌⊎◌, sym, ap, subst, ◌∙◌, inl, inr, ℕ, ◌≤◌, List, [], ◌∷◌, ◌++◌, length, take, Option, Some}
use Rattle.std.specs.Prelude.{slice_get}
use Rattle.std.proofs.lemmas.Bool.{cases_eq}
use Rattle.std.proofs.lemmas.List.{take-append-le}
use Rattle.std.proofs.lemmas.Option.{slice_get_within}
use native.Mathlib.Omega.{arith}
use Rattle.b1_model.specs.declared.commands.Command.{Command}
use Rattle.b1_model.specs.declared.naming.Opening.{Opening}
use Rattle.b1_model.specs.declared.records.Call.{Call}
use Rattle.b1_model.specs.Names.{calls_of, epoch_in, epoch_at}
use Rattle.b1_model.specs.MachineParts.{State}
use Rattle.b1_model.specs.MachineStep.{Step, record_of_state}
use Rattle.b1_inv.specs.Sound.{IsSound}
use Rattle.b1_ledger.proofs.Sequences.{slice_get-more, take-end}
use Rattle.b1_inv_record.specs.Epochs.{epoch_now}
use Rattle.b1_inv_entries.proofs.NewCalls.{NewCall, new_call}

module _ {o : Opening} {s : State} {p : ℕ} {c : Option Command} {t : State} (step : Step o s p c t) where
  -- a call of before, in the same epoch
  abbrev pub IsOldCall : ℕ → ℕ → Call → Type 0
  IsOldCall q k d = (slice_get (calls_of (record_of_state s) q) k ≡ Some d) × (epoch_at (record_of_state t) q k ≡ epoch_at (record_of_state s) q k)

  -- the new call, of the present epoch before it
  abbrev pub IsNewCall : ℕ → ℕ → Call → Type 0
  IsNewCall q k d = (new : NewCall step) × (q ≡ p) × (d ≡ new.call) × (epoch_at (record_of_state t) q k ≡ epoch_now s p)

  old_epoch : (q k : ℕ) (d : Call) (more : List Call) → calls_of (record_of_state t) q ≡ calls_of (record_of_state s) q ++ more → slice_get (calls_of (record_of_state s) q) k ≡ Some d → epoch_at (record_of_state t) q k ≡ epoch_at (record_of_state s) q k
  old_epoch q k d more same at =
      let low = slice_get_within (calls_of (record_of_state s) q) k d at in
      ap (λ calls. epoch_in 0 (take k calls)) same ∙ ap (epoch_in 0) (take-append-le k (calls_of (record_of_state s) q) more (omega (arith, low)))

  by_new : (new : NewCall step) (q k : ℕ) (d : Call) → slice_get (calls_of (record_of_state t) q) k ≡ Some d → IsOldCall q k d ⊎ IsNewCall q k d
  by_new new q k d at = elim (cases_eq q p) [
    | inr apart ↦
        let same = new.appends.there q apart in
        inl (sym (ap (λ calls. slice_get calls k) same) ∙ at, ap (λ calls. epoch_in 0 (take k calls)) same)
    | inl here ↦
        let own : calls_of (record_of_state t) q ≡ calls_of (record_of_state s) q ++ new.call ∷ [] = subst (λ r. calls_of (record_of_state t) r ≡ calls_of (record_of_state s) r ++ new.call ∷ []) (sym here) new.appends.here in
        elim (slice_get-more (calls_of (record_of_state s) q) new.call k d (sym (ap (λ calls. slice_get calls k) own) ∙ at)) [
          | inl old ↦ inl (old, old_epoch q k d (new.call ∷ []) own old)
          | inr last ↦
              let low : k ≤ length (calls_of (record_of_state s) q) = let same = last.0 in omega (arith, same) in
              inr (
                new,
                here,
                last.1,
                ap (λ calls. epoch_in 0 (take k calls)) own
                    ∙ ap (epoch_in 0) (take-append-le k (calls_of (record_of_state s) q) (new.call ∷ []) low)
                    ∙ ap (λ n. epoch_in 0 (take n (calls_of (record_of_state s) q))) last.0
                    ∙ ap (epoch_in 0) (take-end (calls_of (record_of_state s) q))
                    ∙ ap (epoch_now s) here,
              )
        ]
  ]

  -- a call after the step is one of before, or the new one
  pub call_cases : IsSound o s → (q k : ℕ) (d : Call) → slice_get (calls_of (record_of_state t) q) k ≡ Some d → IsOldCall q k d ⊎ IsNewCall q k d
  call_cases sound q k d at = elim (new_call sound step) [
    | inl same ↦ inl (sym (ap (λ calls. slice_get calls k) (same q)) ∙ at, ap (λ calls. epoch_in 0 (take k calls)) (same q))
    | inr new ↦ by_new new q k d at
  ]
