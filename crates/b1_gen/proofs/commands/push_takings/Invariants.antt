use Rattle.std.proofs.Common.{◌≡◌, ◌++◌, ◌-◌}
use Rattle.std.specs.List.{flat_map, range_with_len}
use Rattle.b1_gen.specs.Generated.{taking}
use Rattle.b1_gen.proofs.commands.push_takings.Given as goal

abbrev pub invariant-loop-receipt : goal.invariant-loop-receipt
invariant-loop-receipt l = l.commands.items ≡ l.initial.commands.items ++ flat_map taking (range_with_len l.first (l.receipt - l.first))
