use Rattle.std.proofs.Common.{◌≡◌, length, sum_by, take}
use Rattle.b1_upgrade.proofs.command_count.Given as goal

abbrev pub invariant-loop-commands : goal.invariant-loop-commands
invariant-loop-commands l = l.count ≡ sum_by length (take l.commands-index l.lists)
