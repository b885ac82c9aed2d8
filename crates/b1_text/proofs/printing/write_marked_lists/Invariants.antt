-- What is written so far: each peer's commands.
use Rattle.std.proofs.Common.{◌≡◌, ◌++◌, map, string_bytes, take}
use Rattle.std.specs.List.{flat_map, enumerate_from}
use Rattle.b1_script.specs.Spelling.{entries_of}
use Rattle.b1_text.specs.Texts.{line_text, list_statements, marked_entries}
use Rattle.b1_text.proofs.printing.write_marked_lists.Given as goal

abbrev pub invariant-loop-number : goal.invariant-loop-number
invariant-loop-number l =
    string_bytes l.out ≡ string_bytes l.initial.out ++ flat_map (λ x. flat_map line_text (list_statements x)) (enumerate_from 0 (take l.number (map marked_entries (entries_of l.cookies l.lists))))
