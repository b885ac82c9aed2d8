use Rattle.b1_inv_entries.proofs.AboveTaken.{above_taken, above_begins}
use Rattle.b1_inv_entries.proofs.laws.waiting_places_stay_above.Goals as goal

pub returns-clause-opening_PendingAboveTaken : goal.returns-clause-opening_PendingAboveTaken
returns-clause-opening_PendingAboveTaken c = λ o is. above_begins o

pub returns-clause-kept_PendingAboveTaken : goal.returns-clause-kept_PendingAboveTaken
returns-clause-kept_PendingAboveTaken c = λ o s p command t sound right step. above_taken sound right step
