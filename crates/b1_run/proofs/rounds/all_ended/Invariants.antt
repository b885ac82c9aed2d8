use Rattle.std.proofs.Common.{ℕ, ◌≡◌, ◌<◌, slice_get, Some}
use Rattle.b1_model.specs.Script.{commands_of}
use Rattle.b1_run.specs.Workers.{HasEnded}
use Rattle.b1_run.specs.declared.worker.Worker.{Worker}
use Rattle.b1_run.proofs.rounds.all_ended.Given as goal

abbrev pub invariant-loop-p : goal.invariant-loop-p
invariant-loop-p l = (p : ℕ) (w : Worker) → p < l.p → slice_get l.workers p ≡ Some w → HasEnded (commands_of l.lists p) w.driver.own
