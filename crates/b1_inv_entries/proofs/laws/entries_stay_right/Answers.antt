use Rattle.b1_inv_entries.proofs.Together.{entries_kept, entries_begin}
use Rattle.b1_inv_entries.proofs.laws.entries_stay_right.Goals as goal

pub returns-clause-opening_EntriesRight : goal.returns-clause-opening_EntriesRight
returns-clause-opening_EntriesRight c = λ o is. entries_begin o

pub returns-clause-kept_EntriesRight : goal.returns-clause-kept_EntriesRight
returns-clause-kept_EntriesRight c = λ o s p command t sound right step. entries_kept sound right step
