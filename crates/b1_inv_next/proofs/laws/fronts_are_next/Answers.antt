use Rattle.b1_inv_next.proofs.FrontNext.{front_is_next}
use Rattle.b1_inv_next.proofs.Notices.{candidate_queued}
use Rattle.b1_inv_next.proofs.laws.fronts_are_next.Goals as goal

pub returns-clause-next : goal.returns-clause-next
returns-clause-next c = λ o s sound right. front_is_next sound right

pub returns-clause-queued : goal.returns-clause-queued
returns-clause-queued c = λ o s p d x key sound right is_driver is_peer idle is. candidate_queued sound right p d x is_driver is_peer idle key is
