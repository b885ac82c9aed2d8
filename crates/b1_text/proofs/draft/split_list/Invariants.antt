-- What was moved so far, and what is left to move.
use Rattle.b1_text.proofs.Entries.{IsSplit}
use Rattle.b1_text.proofs.draft.split_list.Given as goal

abbrev pub invariant-loop-entry : goal.invariant-loop-entry
invariant-loop-entry l = IsSplit l.fn.entries l.commands.items l.cookies.items l.entry-iterator.rest.items
