use Rattle.b1_inv_entries.proofs.SomewhereKept.{entries_somewhere, somewhere_begins}
use Rattle.b1_inv_entries.proofs.laws.entries_stay_somewhere.Goals as goal

pub returns-clause-opening_EntryIsSomewhere : goal.returns-clause-opening_EntryIsSomewhere
returns-clause-opening_EntryIsSomewhere c = λ o is. somewhere_begins o

pub returns-clause-kept_EntryIsSomewhere : goal.returns-clause-kept_EntryIsSomewhere
returns-clause-kept_EntryIsSomewhere c = λ o s p command t sound right step. entries_somewhere sound right step
