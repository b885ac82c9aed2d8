use Rattle.b1_judge.proofs.CandidateLemmas.{least_by}
use Rattle.b1_judge.proofs.prefix.is_least.Goals as goal

pub returns : goal.returns
returns c = least_by c.args.walk.now c.args.key.now c.has_candidate.result c.has_candidate.ensures
