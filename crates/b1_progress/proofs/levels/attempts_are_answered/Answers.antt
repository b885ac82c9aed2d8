use Rattle.b1_progress.proofs.Attempts.{starts_answered, stays_answered}
use Rattle.b1_progress.proofs.levels.attempts_are_answered.Goals as goal

pub returns-clause-starts : goal.returns-clause-starts
returns-clause-starts c = starts_answered

pub returns-clause-goes_on : goal.returns-clause-goes_on
returns-clause-goes_on c = stays_answered
