use Rattle.std.proofs.Common.{◌-◌, length}
use Rattle.b1_run.specs.Workers.{IsAt}
use Rattle.b1_run.proofs.worker.work.Given as goal

abbrev pub invariant-loop-alloc : goal.invariant-loop-alloc
invariant-loop-alloc g l = IsAt l.bus l.commands l.fn.worker.driver.own.part.me l.worker.driver

abbrev pub decreases-loop-alloc : goal.decreases-loop-alloc
decreases-loop-alloc g l = length l.commands - length l.worker.driver.own.part.calls
