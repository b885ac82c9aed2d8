use Rattle.b1_inv_names.proofs.Begun.{begun_begins, begun_kept}
use Rattle.b1_inv_names.proofs.laws.begun_names_stay_right.Goals as goal

pub returns-clause-opening_BegunNames : goal.returns-clause-opening_BegunNames
returns-clause-opening_BegunNames c = λ o is. begun_begins o

pub returns-clause-kept_BegunNames : goal.returns-clause-kept_BegunNames
returns-clause-kept_BegunNames c = λ o s p command t sound right step. begun_kept sound right.names.begun step
