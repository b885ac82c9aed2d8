use Rattle.b1_inv_ends.proofs.Needed.{queues_need_all}
use Rattle.b1_inv_ends.proofs.Refused.{refused_leaves_nothing}
use Rattle.b1_inv_ends.proofs.laws.a_refused_send_leaves_nothing.Goals as goal

pub returns-clause-entries : goal.returns-clause-entries
returns-clause-entries c = λ o s sound right. refused_leaves_nothing sound right

pub returns-clause-needed : goal.returns-clause-needed
returns-clause-needed c = λ o s sound right. queues_need_all sound right
