use Rattle.b1_legal_runs.proofs.Visits.{visits}
use Rattle.b1_legal_runs.proofs.laws.attaches_bring_visits.Goals as goal

pub returns : goal.returns
returns x = visits
