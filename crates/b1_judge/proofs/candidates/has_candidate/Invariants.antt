-- None of the stamped calls so far has an entry that may be received next.
use Rattle.std.proofs.Common.{◌≡◌, ℕ, ◌<◌, slice_get, Some}
use Rattle.b1_model.specs.declared.records.Stamp.{Stamp}
use Rattle.b1_judge.specs.Candidates.{HasCandidateOf}
use Rattle.b1_judge.proofs.candidates.has_candidate.Given as goal

abbrev pub invariant-loop-place : goal.invariant-loop-place
invariant-loop-place l = (i : ℕ) (s : Stamp) → i < l.place → slice_get l.stamps i ≡ Some s → ¬ HasCandidateOf l.walk s l.limit
