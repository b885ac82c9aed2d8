-- What was moved so far, and what is left to move.
use Rattle.b1_text.proofs.Entries.{AreSplit}
use Rattle.b1_text.proofs.draft.split_lists.Given as goal

abbrev pub invariant-loop-entries : goal.invariant-loop-entries
invariant-loop-entries l = AreSplit l.fn.lists l.commands.items l.cookies.items l.entries-iterator.rest.items
