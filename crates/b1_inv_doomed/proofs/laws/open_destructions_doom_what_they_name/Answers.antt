use Rattle.b1_inv_doomed.proofs.DoomedKept.{dooms_begin, dooms_kept}
use Rattle.b1_inv_doomed.proofs.laws.open_destructions_doom_what_they_name.Goals as goal

pub returns-clause-opening_DoomsItsNodes : goal.returns-clause-opening_DoomsItsNodes
returns-clause-opening_DoomsItsNodes c = λ o is. dooms_begin o

pub returns-clause-kept_DoomsItsNodes : goal.returns-clause-kept_DoomsItsNodes
returns-clause-kept_DoomsItsNodes c = λ o s p command t sound right step. dooms_kept sound right.destructions.doomed step
