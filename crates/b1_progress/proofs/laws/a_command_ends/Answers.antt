use Rattle.std.proofs.Common.{subst, sym, ap, ◌∙◌, ◌<◌}
use Rattle.b1_step.proofs.Locality.{own_driver}
use Rattle.b1_progress.specs.Work.{work}
use Rattle.b1_progress.proofs.Ends.{work_falls, same_part}
use Rattle.b1_progress.proofs.laws.a_command_ends.Goals as goal

pub returns : goal.returns
returns c = λ o s p t d e x y sound step is_d is_e is_x is_y opened.
    let new = same_part t.drivers p e step.new_driver is_e (own_driver step) in
    let old = same_part s.drivers p d step.driver is_d step.is_driver in
    subst (λ f. work f y < work d x) (sym new) (subst (λ f. work step.new_driver y < work f x) (sym old) (work_falls sound.numbered sound.sends sound.notices step x y is_x is_y (λ is. opened (ap (λ f. f.doing) new ∙ is))))
