use Rattle.b1_inv_cover.proofs.Given.{given_rises}
use Rattle.b1_inv_cover.proofs.GivenRuns.{numbers_stay}
use Rattle.b1_law.proofs.Reached.{reached_sound}
use Rattle.b1_inv_cover.proofs.laws.given_numbers_are_new.Goals as goal

pub returns-clause-step : goal.returns-clause-step
returns-clause-step c = λ o s p command t step. given_rises step

pub returns-clause-node : goal.returns-clause-node
returns-clause-node c = numbers_stay

pub returns-clause-reached : goal.returns-clause-reached
returns-clause-reached c = λ o s steps t valid r. numbers_stay o s steps t (reached_sound o s valid r)
