-- The commands up to here are copied.
use Rattle.std.proofs.Common.{◌≡◌, take}
use Rattle.b1_play.proofs.copying.copy_commands.Given as goal

abbrev pub invariant-loop-command : goal.invariant-loop-command
invariant-loop-command l = l.copies.items ≡ take l.command-index l.command-items
