use Rattle.b1_inv_destroys.proofs.Before.{own_keyed, own_keyed_begins}
use Rattle.b1_inv_destroys.proofs.Taken.{own_once, once_begins, own_untaken, untaken_begins, taken_destroyed, taken_begins}
use Rattle.b1_inv_destroys.proofs.Present.{own_present, present_begins}
use Rattle.b1_inv_destroys.proofs.StagedKept.{own_staged, staged_begins}
use Rattle.b1_inv_destroys.proofs.laws.own_notices_stay_right.Goals as goal

pub returns-clause-opening_OwnKeyed : goal.returns-clause-opening_OwnKeyed
returns-clause-opening_OwnKeyed c = λ o valid. own_keyed_begins o

pub returns-clause-kept_OwnKeyed : goal.returns-clause-kept_OwnKeyed
returns-clause-kept_OwnKeyed c = λ o s p command t sound right step. own_keyed sound right step

pub returns-clause-opening_OwnOnce : goal.returns-clause-opening_OwnOnce
returns-clause-opening_OwnOnce c = λ o valid. once_begins o

pub returns-clause-kept_OwnOnce : goal.returns-clause-kept_OwnOnce
returns-clause-kept_OwnOnce c = λ o s p command t sound right step. own_once sound right step

pub returns-clause-opening_OwnUntaken : goal.returns-clause-opening_OwnUntaken
returns-clause-opening_OwnUntaken c = λ o valid. untaken_begins o

pub returns-clause-kept_OwnUntaken : goal.returns-clause-kept_OwnUntaken
returns-clause-kept_OwnUntaken c = λ o s p command t sound right step. own_untaken sound right step

pub returns-clause-opening_TakenDestroyed : goal.returns-clause-opening_TakenDestroyed
returns-clause-opening_TakenDestroyed c = λ o valid. taken_begins o

pub returns-clause-kept_TakenDestroyed : goal.returns-clause-kept_TakenDestroyed
returns-clause-kept_TakenDestroyed c = λ o s p command t sound right step. taken_destroyed sound right step

pub returns-clause-opening_OwnPresent : goal.returns-clause-opening_OwnPresent
returns-clause-opening_OwnPresent c = λ o valid. present_begins o

pub returns-clause-kept_OwnPresent : goal.returns-clause-kept_OwnPresent
returns-clause-kept_OwnPresent c = λ o s p command t sound right step. own_present sound right step

pub returns-clause-opening_OwnStaged : goal.returns-clause-opening_OwnStaged
returns-clause-opening_OwnStaged c = λ o valid. staged_begins o

pub returns-clause-kept_OwnStaged : goal.returns-clause-kept_OwnStaged
returns-clause-kept_OwnStaged c = λ o s p command t sound right step. own_staged sound right step
