use Rattle.b1_inv_cover.proofs.Bounded.{clocks_bounded}
use Rattle.b1_law.proofs.Reached.{reached_sound}
use Rattle.b1_inv_cover.proofs.laws.clocks_stay_bounded.Goals as goal

pub returns-clause-sound : goal.returns-clause-sound
returns-clause-sound c = λ o s sound. clocks_bounded o s sound

pub returns-clause-reached : goal.returns-clause-reached
returns-clause-reached c = λ o s valid r. clocks_bounded o s (reached_sound o s valid r)
