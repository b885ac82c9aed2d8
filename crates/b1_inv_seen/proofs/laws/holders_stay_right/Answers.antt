use Rattle.b1_inv_seen.proofs.Groups.{holders_begin, holders_kept}
use Rattle.b1_inv_seen.proofs.laws.holders_stay_right.Goals as goal

pub returns-clause-opening_HoldersRight : goal.returns-clause-opening_HoldersRight
returns-clause-opening_HoldersRight c = λ o valid. holders_begin o valid

pub returns-clause-kept_HoldersRight : goal.returns-clause-kept_HoldersRight
returns-clause-kept_HoldersRight c = λ o s p command t sound right step. holders_kept sound right step
