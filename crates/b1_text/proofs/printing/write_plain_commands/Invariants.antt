-- What is written so far: a line for each.
use Rattle.std.proofs.Common.{◌≡◌, ◌++◌, string_bytes, take}
use Rattle.std.specs.List.{flat_map}
use Rattle.b1_text.specs.declared.statement.Statement.TheVariants as says
use Rattle.b1_text.specs.Texts.{line_text, plain}
use Rattle.b1_text.proofs.printing.write_plain_commands.Given as goal

abbrev pub invariant-loop-command : goal.invariant-loop-command
invariant-loop-command l = string_bytes l.out ≡ string_bytes l.initial.out ++ flat_map (λ c. line_text (says.Command (plain c))) (take l.command-index l.commands)
