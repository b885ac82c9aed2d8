use Rattle.b1_inv_taken.proofs.OwnSlots.{own_slots_begin, own_slots_kept}
use Rattle.b1_inv_taken.proofs.laws.own_slots_stay_present.Goals as goal

pub returns-clause-opening_OwnSlotsPresent : goal.returns-clause-opening_OwnSlotsPresent
returns-clause-opening_OwnSlotsPresent c = λ o is. own_slots_begin o

pub returns-clause-kept_OwnSlotsPresent : goal.returns-clause-kept_OwnSlotsPresent
returns-clause-kept_OwnSlotsPresent c = λ o s p command t sound right step. own_slots_kept sound right step
