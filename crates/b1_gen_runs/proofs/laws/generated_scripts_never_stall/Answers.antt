use Rattle.b1_gen_runs.proofs.Stalls.{never}
use Rattle.b1_gen_runs.proofs.laws.generated_scripts_never_stall.Goals as goal

pub returns : goal.returns
returns c = never
