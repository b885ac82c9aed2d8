use Rattle.b1_gen_runs.proofs.Reached.{to_all}
use Rattle.b1_gen_runs.proofs.laws.generated_sends_are_accepted.Goals as goal

pub returns : goal.returns
returns c = λ number p k s call run is. to_all number s run p k call is
