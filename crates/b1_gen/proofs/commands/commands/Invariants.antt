use Rattle.std.proofs.Common.{◌≡◌, ◌*◌, ◌≤◌}
use Rattle.b1_gen.specs.Generated.{commands_before, taken_before}
use Rattle.b1_gen.proofs.commands.commands.Given as goal

abbrev pub invariant-loop-phase : goal.invariant-loop-phase
invariant-loop-phase l =
    (l.commands.items ≡ commands_before l.number l.peer l.phase)
    × (l.taken ≡ taken_before l.number l.peer l.phase)
    × (l.taken ≤ 8 * l.phase)
