-- A reached state in which no command is open is at rest, and stands for the bus that its parts show, where its boxes are right.
use Rattle.std.proofs.Common.{◌≡◌, ◌≢◌, sym, ap, ◌∙◌, subst, inl, inr, ℕ, zero, suc, Some, None}
use Rattle.std.specs.Prelude.{slice_get}
use Rattle.std.proofs.lemmas.Bool.{cases_eq}
use Rattle.b1_model.specs.declared.naming.Opening.{Opening}
use Rattle.b1_model.specs.declared.commands.Command.{Command}
use Rattle.b1_model.specs.Opening.{IsOpening}
use Rattle.b1_model.specs.MachineParts.{DriverPart, State}
use Rattle.b1_model.specs.MachineStep.{Reached}
use Rattle.b1_step.proofs.Steps.{reached_more}
use Rattle.b1_step.proofs.Locality.{other_driver}
use Rattle.b1_inv.specs.Words.{IsDriver}
use Rattle.b1_serial_bus.specs.Parts.{Bus}
use Rattle.b1_serial_rest.specs.Standing.{bus_of}
use Rattle.b1_serial_rest.specs.Rest.{IsQuiet, BoxesRight, AtRest}
use Rattle.b1_serial_whole.proofs.Whole.{GoesOn, Whole}
use Rattle.b1_serial_whole.proofs.Quiet.{sound, is_quiet}
use Rattle.b1_serial_whole.proofs.Counted.{is_counted}

-- at rest, where no command is open
pub rests_by : (o : Opening) (t : State) (bus : Bus) → IsOpening o → Reached o t → ((p : ℕ) (d : DriverPart) → IsDriver t p d → d.doing ≡ None) → bus ≡ bus_of t → BoxesRight bus → AtRest o t bus
rests_by o t bus opens reached idle is_bus boxes =
    let quiet = is_quiet opens reached idle in
    let valid = sound opens reached idle in
    record {
      numbered = valid.numbered;
      quiet = quiet;
      is_bus = is_bus;
      counts = λ x q y is. is_counted valid quiet x q y (ap (λ b. slice_get b q) (sym is_bus) ∙ is);
      boxes = boxes;
    }

-- ---- the steps of a whole command

module _ (o : Opening) (p : ℕ) where
  -- other drivers stay
  pub others_stay : (n : ℕ) (s t : State) → GoesOn o p n s t → (r : ℕ) → r ≢ p → slice_get t.drivers r ≡ slice_get s.drivers r
  others_stay zero s t same r apart = ap (λ u. slice_get u.drivers r) (sym same)
  others_stay (suc n) s t run r apart = others_stay n run.0 t run.2 r apart ∙ other_driver run.1 r apart

  -- what they lead to is reached
  pub goes_reached : (n : ℕ) (s t : State) → Reached o s → GoesOn o p n s t → Reached o t
  goes_reached zero s t reached same = subst (Reached o) same reached
  goes_reached (suc n) s t reached run = goes_reached n run.0 t (reached_more o s run.0 p None reached run.1) run.2

module _ {o : Opening} {s : State} {p : ℕ} {command : Command} {t : State} (whole : Whole o s p command t) where
  pub first_reached : Reached o s → Reached o whole.first
  first_reached reached = reached_more o s whole.first p (Some command) reached whole.begins

  pub end_reached : Reached o s → Reached o t
  end_reached reached = goes_reached o p whole.further whole.first t (first_reached reached) whole.goes_on

  -- no command is open in the end
  pub end_idle : IsQuiet s → (r : ℕ) (d : DriverPart) → IsDriver t r d → d.doing ≡ None
  end_idle quiet r d is = elim (cases_eq r p) [
    | inl same ↦ whole.ends d (ap (slice_get t.drivers) (sym same) ∙ is)
    | inr apart ↦ quiet.idle r d (sym (others_stay o p whole.further whole.first t whole.goes_on r apart ∙ other_driver whole.begins r apart) ∙ is)
  ]

  -- at rest again, where the bus is what the parts show, and its boxes are right
  pub whole_rests : (before after : Bus) → IsOpening o → Reached o s → AtRest o s before → after ≡ bus_of t → BoxesRight after → AtRest o t after
  whole_rests before after opens reached rest is_bus boxes = rests_by o t after opens (end_reached reached) (end_idle rest.quiet) is_bus boxes
