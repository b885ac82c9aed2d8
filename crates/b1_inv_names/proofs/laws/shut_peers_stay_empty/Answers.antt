use Rattle.b1_inv_names.proofs.ShutKept.{shut_begins, shut_kept}
use Rattle.b1_inv_names.proofs.laws.shut_peers_stay_empty.Goals as goal

pub returns-clause-opening_ShutIsEmpty : goal.returns-clause-opening_ShutIsEmpty
returns-clause-opening_ShutIsEmpty c = λ o is. shut_begins o

pub returns-clause-kept_ShutIsEmpty : goal.returns-clause-kept_ShutIsEmpty
returns-clause-kept_ShutIsEmpty c = λ o s p command t sound right step. shut_kept sound right step
