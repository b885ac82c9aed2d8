-- The numbers so far are those that are found.
use Rattle.std.proofs.Common.{◌≡◌, map, take}
use Rattle.b1_model.specs.Script.{resolved_handle}
use Rattle.b1_judge.specs.Behind.{behind}
use Rattle.b1_judge.proofs.commands.are_resolved.Given as goal

abbrev pub invariant-loop-index : goal.invariant-loop-index
invariant-loop-index l = take l.index l.made ≡ map (resolved_handle (behind l.before)) (take l.index l.numbers)
