use Rattle.b1_driver.specs.Stages.{phase_of}
use Rattle.b1_driver.proofs.events.answered.Goals as goal

pub returns-in-Commit-clause-owed : goal.returns-in-Commit-clause-owed
returns-in-Commit-clause-owed c = rw c.in-Commit.is (c.commit_answered.ensures.owed c.args.me c.args.doomed.now.items)

pub returns-in-Reap-clause-owed : goal.returns-in-Reap-clause-owed
returns-in-Reap-clause-owed c = rw c.in-Reap.is (c.owe_item.ensures.owed (phase_of c.args.doomed.now.items c.args.stage) c.in-Reap.dead)

pub returns-in-Release-clause-owed : goal.returns-in-Release-clause-owed
returns-in-Release-clause-owed c = rw c.in-Release.is (c.release_answered.ensures.owed c.args.doomed.now.items)
