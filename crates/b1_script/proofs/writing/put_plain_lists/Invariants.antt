use Rattle.std.proofs.Common.{◌≡◌, ◌++◌, take}
use Rattle.std.specs.List.{flat_map}
use Rattle.b1_script.specs.Spelling.{commands_spelling}
use Rattle.b1_script.proofs.writing.put_plain_lists.Given as goal

abbrev pub invariant-loop-commands : goal.invariant-loop-commands
invariant-loop-commands l = l.out.items ≡ l.fn.out.items ++ flat_map commands_spelling (take l.commands-index l.lists)
