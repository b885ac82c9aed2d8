use Rattle.std.proofs.Common.{◌≡◌, ◌++◌, take}
use Rattle.std.specs.Prelude.{zip}
use Rattle.std.specs.List.{flat_map}
use Rattle.b1_script.specs.Spelling.{entry_spelling}
use Rattle.b1_script.proofs.writing.put_entry_records.Given as goal

abbrev pub invariant-loop-place : goal.invariant-loop-place
invariant-loop-place l = l.out.items ≡ l.fn.out.items ++ flat_map entry_spelling (take l.place (zip l.cookies l.commands))
