use Rattle.b1_peer_queue.specs.declared.wanted.Wanted.TheVariants.{Stage, Notice, Release}
use Rattle.b1_peer_queue.proofs.TiedLemmas.{found_listed, found_shown}
use Rattle.b1_peer_queue.proofs.rows.wanted_at.Goals as goal

pub returns-in-Stage-clause-found : goal.returns-in-Stage-clause-found
returns-in-Stage-clause-found g c = rw c.in-Stage.is (found_shown c.requires (g.met.Q.QueueKind.in_order c.args.rows.now.queue) (Stage c.in-Stage.origin c.in-Stage.index) _ c.stage_at.ensures)

pub returns-in-Stage-clause-there : goal.returns-in-Stage-clause-there
returns-in-Stage-clause-there g c = found_listed c.requires (g.met.Q.QueueKind.in_order c.args.rows.now.queue) (Stage c.in-Stage.origin c.in-Stage.index) c.stage_at.result c.stage_at.ensures

pub returns-in-Notice-clause-found : goal.returns-in-Notice-clause-found
returns-in-Notice-clause-found g c = rw c.in-Notice.is (found_shown c.requires (g.met.Q.QueueKind.in_order c.args.rows.now.queue) (Notice c.in-Notice.origin) _ c.notice_at.ensures)

pub returns-in-Notice-clause-there : goal.returns-in-Notice-clause-there
returns-in-Notice-clause-there g c = found_listed c.requires (g.met.Q.QueueKind.in_order c.args.rows.now.queue) (Notice c.in-Notice.origin) c.notice_at.result c.notice_at.ensures

pub returns-in-Release-clause-found : goal.returns-in-Release-clause-found
returns-in-Release-clause-found g c = rw c.in-Release.is (found_shown c.requires (g.met.Q.QueueKind.in_order c.args.rows.now.queue) (Release c.in-Release.serial) _ c.release_at.ensures)

pub returns-in-Release-clause-there : goal.returns-in-Release-clause-there
returns-in-Release-clause-there g c = found_listed c.requires (g.met.Q.QueueKind.in_order c.args.rows.now.queue) (Release c.in-Release.serial) c.release_at.result c.release_at.ensures
