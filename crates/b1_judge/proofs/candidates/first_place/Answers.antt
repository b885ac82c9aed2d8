use Rattle.std.proofs.Common.{Some, sym, subst, ◌∙◌}
use Rattle.b1_judge.specs.Candidates.{HasNoneBefore}
use Rattle.b1_judge.proofs.CandidateLemmas.{none_before}
use Rattle.b1_judge.proofs.candidates.first_place.Goals as goal

pub returns-in-Some : goal.returns-in-Some
returns-in-Some c = none_before c.args.walk.now c.args.stamps.now c.passed_calls.result (Some c.in-Some.key) (sym c.in-Some.is ∙ c.last_key.ensures) c.passed_calls.ensures

pub returns-in-None : goal.returns-in-None
returns-in-None c = subst (λ l. HasNoneBefore c.args.walk.now l c.earlier_calls.result) (sym c.requires.order) c.earlier_calls.ensures
