use Rattle.std.proofs.Common.{◌≡◌, ◌++◌, take}
use Rattle.std.specs.List.{flat_map}
use Rattle.b1_script.specs.Spelling.{entries_of, entries_spelling}
use Rattle.b1_script.proofs.writing.put_entry_lists.Given as goal

abbrev pub invariant-loop-place : goal.invariant-loop-place
invariant-loop-place l = l.out.items ≡ l.fn.out.items ++ flat_map entries_spelling (take l.place (entries_of l.cookies l.lists))
