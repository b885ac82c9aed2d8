-- The record of a state after a step: each peer's calls, with at most one more behind them.
use Rattle.std.proofs.Common.{◌≡◌, ◌≢◌, refl, sym, ap, subst, ◌∙◌, inl, inr, ℕ, zero, suc, ◌⊎◌, List, [], ◌∷◌, ◌++◌, length, Option, Some, None, append-nil}
use Rattle.std.specs.Prelude.{slice_get}
use Rattle.std.proofs.lemmas.Bool.{cases_eq}
use native.Mathlib.Omega.{arith}
use Rattle.b1_model.specs.declared.commands.Command.{Command}
use Rattle.b1_model.specs.declared.naming.Opening.{Opening}
use Rattle.b1_model.specs.declared.records.Call.{Call}
use Rattle.b1_model.specs.Names.{calls_in, calls_of}
use Rattle.b1_model.specs.MachineParts.{PeerPart, DriverPart, State}
use Rattle.b1_model.specs.MachineTook.{driver_calls}
use Rattle.b1_model.specs.MachineStep.{Step, peer_records, record_of_state}
use Rattle.b1_step.specs.Fixed.{AtMostOneMore}
use Rattle.b1_step.proofs.Locality.{own_driver, other_driver, as_many_drivers, as_many_peers, step_adds}
use Rattle.b1_inv.specs.Sound.{IsSound}

-- the calls of a driver that is there, or none
abbrev pub calls_by : Option DriverPart → List Call
calls_by None = []
calls_by (Some d) = driver_calls d

recorded_in : (xs : List PeerPart) (ds : List DriverPart) (p : ℕ) → length xs ≡ length ds → calls_in (slice_get (peer_records xs ds) p) ≡ calls_by (slice_get ds p)
recorded_in [] [] p same = refl
recorded_in [] (e ∷ ds) p same = absurd (omega (arith, same))
recorded_in (y ∷ xs) [] p same = absurd (omega (arith, same))
recorded_in (y ∷ xs) (e ∷ ds) zero same = refl
recorded_in (y ∷ xs) (e ∷ ds) (suc p) same = recorded_in xs ds p (omega (arith, same))

pub recorded : (s : State) (p : ℕ) → length s.peers ≡ length s.drivers → calls_of (record_of_state s) p ≡ calls_by (slice_get s.drivers p)
recorded s p same = recorded_in s.peers s.drivers p same

-- some calls, and maybe more behind them
abbrev pub MoreCalls : List Call → List Call → Type 0
MoreCalls old new = (more : List Call) × (new ≡ old ++ more)

at_most : (old new : List Call) → AtMostOneMore old new → MoreCalls old new
at_most old new (inl same) = ([], same ∙ sym (append-nil old))
at_most old new (inr (c, same)) = (c ∷ [], same)

module _ {o : Opening} {s : State} {p : ℕ} {c : Option Command} {t : State} (sound : IsSound o s) (step : Step o s p c t) where
  pub as_many : length s.peers ≡ length s.drivers
  as_many = sound.numbered.as_many_peers ∙ sym sound.numbered.as_many_drivers

  pub as_many_after : length t.peers ≡ length t.drivers
  as_many_after = as_many_peers step ∙ as_many ∙ sym (as_many_drivers step)

  by_driver : (q : ℕ) → (q ≡ p) ⊎ (q ≢ p) → MoreCalls (calls_by (slice_get s.drivers q)) (calls_by (slice_get t.drivers q))
  by_driver q (inl here) =
      subst (λ r. MoreCalls (calls_by (slice_get s.drivers r)) (calls_by (slice_get t.drivers r))) (sym here)
      (subst (λ d. MoreCalls (calls_by d) (calls_by (slice_get t.drivers p))) (sym step.is_driver)
      (subst (λ e. MoreCalls (driver_calls step.driver) (calls_by e)) (sym (own_driver step)) (at_most (driver_calls step.driver) (driver_calls step.new_driver) (step_adds step))))
  by_driver q (inr apart) = ([], ap calls_by (other_driver step q apart) ∙ sym (append-nil (calls_by (slice_get s.drivers q))))

  -- each peer's calls of the record, with at most one more
  pub record_grows : (q : ℕ) → MoreCalls (calls_of (record_of_state s) q) (calls_of (record_of_state t) q)
  record_grows q =
      subst (λ calls. MoreCalls calls (calls_of (record_of_state t) q)) (sym (recorded s q as_many))
      (subst (λ calls. MoreCalls (calls_by (slice_get s.drivers q)) calls) (sym (recorded t q as_many_after)) (by_driver q (cases_eq q p)))
