-- A command of one step is whole behind it.
use Rattle.std.proofs.Common.{◌≡◌, refl, sym, ap, ◌∙◌, ℕ, zero, suc, None}
use Rattle.std.proofs.lemmas.Option.{same_Some}
use Rattle.b1_model.specs.declared.naming.Opening.{Opening}
use Rattle.b1_model.specs.declared.commands.Command.{Command}
use Rattle.b1_model.specs.MachineParts.{State}
use Rattle.b1_step.proofs.Locality.{own_driver}
use Rattle.b1_serial_whole.proofs.Whole.{GoesOn, Whole}
use Rattle.b1_serial_own.proofs.Moved.{no_further}

module _ {o : Opening} {s : State} {p : ℕ} {command : Command} {t : State} (whole : Whole o s p command t) (ends : whole.begins.new_driver.doing ≡ None) where
  pub first_is : whole.first ≡ t
  first_is = by whole.further whole.goes_on
    where
      by : (n : ℕ) → GoesOn o p n whole.first t → whole.first ≡ t
      by zero same = same
      by (suc n) run =
          let same = same_Some run.1.driver whole.begins.new_driver (sym run.1.is_driver ∙ own_driver whole.begins) in
          absurd (no_further run.1 refl (ap (λ z. z.doing) same ∙ ends))
