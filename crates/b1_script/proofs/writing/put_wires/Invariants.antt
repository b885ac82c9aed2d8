use Rattle.std.proofs.Common.{◌≡◌, ◌++◌, take}
use Rattle.std.specs.List.{flat_map}
use Rattle.b1_script.specs.Spelling.{wire_spelling}
use Rattle.b1_script.proofs.writing.put_wires.Given as goal

abbrev pub invariant-loop-wire : goal.invariant-loop-wire
invariant-loop-wire l = l.out.items ≡ l.fn.out.items ++ flat_map wire_spelling (take l.wire-index l.wires)
