use Rattle.b1_progress.proofs.Attempts.{begins_lower, goes_on_lower}
use Rattle.b1_progress.proofs.levels.an_attempt_lowers_the_level.Goals as goal

pub returns-clause-begins : goal.returns-clause-begins
returns-clause-begins c = begins_lower

pub returns-clause-goes_on : goal.returns-clause-goes_on
returns-clause-goes_on c = goes_on_lower
