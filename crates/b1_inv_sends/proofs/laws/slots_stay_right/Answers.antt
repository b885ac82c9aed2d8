use Rattle.b1_inv_sends.proofs.SlotsKept.{opening_slots, slots_kept}
use Rattle.b1_inv_sends.proofs.laws.slots_stay_right.Goals as goal

pub returns-clause-opening : goal.returns-clause-opening
returns-clause-opening c = λ o valid. opening_slots o

pub returns-clause-kept : goal.returns-clause-kept
returns-clause-kept c = λ o s p command t sound step. slots_kept sound step
