use Rattle.b1_inv_clocks.proofs.ClocksBegin.{clocks_begin}
use Rattle.b1_inv_clocks.proofs.ClocksLaw.{clocks_kept}
use Rattle.b1_inv_clocks.proofs.laws.clocks_stay_right.Goals as goal

pub returns-clause-opening : goal.returns-clause-opening
returns-clause-opening c = λ o valid. clocks_begin o valid

pub returns-clause-kept : goal.returns-clause-kept
returns-clause-kept c = λ o s p command t sound step. clocks_kept sound step
