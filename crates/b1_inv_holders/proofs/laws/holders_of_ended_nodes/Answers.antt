use Rattle.b1_inv_holders.proofs.Carries.{carried_kept}
use Rattle.b1_inv_holders.proofs.CoverBegins.{covered_begins}
use Rattle.b1_inv_holders.proofs.Held.{held_kept}
use Rattle.b1_inv_holders.proofs.Void.{void_begins, void_kept}
use Rattle.b1_inv_holders.proofs.laws.holders_of_ended_nodes.Goals as goal

pub returns-clause-opening_HolderCovered : goal.returns-clause-opening_HolderCovered
returns-clause-opening_HolderCovered c = λ o valid. covered_begins o valid

pub returns-clause-kept_HolderCovered : goal.returns-clause-kept_HolderCovered
returns-clause-kept_HolderCovered c = λ o s p command t sound right step. record { held = held_kept sound right.holders.covered step; carried = carried_kept sound right.holders.covered step }

pub returns-clause-opening_VoidRight : goal.returns-clause-opening_VoidRight
returns-clause-opening_VoidRight c = λ o valid. void_begins o

pub returns-clause-kept_VoidRight : goal.returns-clause-kept_VoidRight
returns-clause-kept_VoidRight c = λ o s p command t sound right step. void_kept sound right.clocks.above right.holders.void step
