use Rattle.b1_peer_queue.proofs.RowLemmas.{shown_ascending}
use Rattle.b1_peer_queue.proofs.commits.commit_notices_in.Goals as goal

pub returns-clause-ascending : goal.returns-clause-ascending
returns-clause-ascending g c = shown_ascending c.restamp_first.new.rows.entries.slots _ (g.met.Q.QueueKind.in_order c.restamp_first.new.rows.queue).ascending
