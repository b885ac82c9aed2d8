use Rattle.b1_inv_destroys.proofs.Before.{keyed_before, keyed_after}
use Rattle.b1_inv_destroys.proofs.Foreign.{foreign_begins, foreign_kept}
use Rattle.b1_inv_destroys.proofs.laws.notices_of_others_stay_right.Goals as goal

pub returns-clause-opening_ForeignNoticeRight : goal.returns-clause-opening_ForeignNoticeRight
returns-clause-opening_ForeignNoticeRight c = λ o valid. foreign_begins o

pub returns-clause-kept_ForeignNoticeRight : goal.returns-clause-kept_ForeignNoticeRight
returns-clause-kept_ForeignNoticeRight c = λ o s p command t sound right step. foreign_kept sound right.destructions.dying step right.destructions.foreign (keyed_before o s right) right.destructions.numbers (keyed_after sound right step)
