-- An entry is a message or a notice.
use Rattle.std.proofs.Common.{false}
use Rattle.b1_judge.proofs.CandidateLemmas.{candidate_by}
use Rattle.b1_judge.proofs.candidates.has_candidate_of.Goals as goal

pub returns-else-has_message_of : goal.returns-else-has_message_of
returns-else-has_message_of c =
    candidate_by c.args.walk.now c.args.stamp.now c.args.limit false c.has_notice_of.result (c.if-has_message_of.ensures) c.has_notice_of.ensures
