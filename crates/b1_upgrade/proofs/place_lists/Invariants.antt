use Rattle.std.proofs.Common.{◌≡◌, map, take}
use Rattle.b1_upgrade.specs.Upgraded.{places}
use Rattle.b1_upgrade.proofs.place_lists.Given as goal

abbrev pub invariant-loop-commands : goal.invariant-loop-commands
invariant-loop-commands l = l.items.items ≡ map places (take l.commands-index l.lists)
