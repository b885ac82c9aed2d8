use Rattle.b1_legal_runs.proofs.Once.{once}
use Rattle.b1_legal_runs.proofs.laws.notices_come_once.Goals as goal

pub returns : goal.returns
returns x = once
