-- What is written so far: a line for each.
use Rattle.std.proofs.Common.{◌≡◌, ◌++◌, string_bytes, take}
use Rattle.std.specs.List.{flat_map}
use Rattle.b1_text.specs.declared.statement.Statement.TheVariants as says
use Rattle.b1_text.specs.Texts.{line_text}
use Rattle.b1_text.proofs.printing.write_wires.Given as goal

abbrev pub invariant-loop-wire : goal.invariant-loop-wire
invariant-loop-wire l = string_bytes l.out ≡ string_bytes l.initial.out ++ flat_map (λ x. line_text (says.Wire x)) (take l.wire-index l.wires)
