use Rattle.b1_judge.proofs.CandidateLemmas.{prefix_by}
use Rattle.b1_judge.proofs.prefix.keeps_prefix.Goals as goal

pub returns : goal.returns
returns c = prefix_by c.args.walk.now c.args.call.now c.requires.call c.is_next_answer.result c.is_next_answer.ensures
