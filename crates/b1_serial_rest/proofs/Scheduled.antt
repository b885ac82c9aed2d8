-- A schedule's step at a state at rest does such a command whole, with its references resolved.
use Rattle.std.proofs.Common.{◌≡◌, sym, ap, ◌∙◌, subst, ℕ, true, Some, None}
use Rattle.std.specs.Prelude.{slice_get}
use Rattle.b1_model.specs.declared.naming.Opening.{Opening}
use Rattle.b1_model.specs.declared.commands.Command.{Command}
use Rattle.b1_model.specs.MachineParts.{DriverPart, State}
use Rattle.b1_model.specs.Script.{resolved}
use Rattle.b1_schedule.specs.Shortage.{Shortage, is_short}
use Rattle.b1_schedule.specs.Schedule.{beginning, with_step}
use Rattle.b1_inv.specs.Words.{IsDriver}
use Rattle.b1_serial_bus.specs.Parts.{Part, Bus}
use Rattle.b1_serial_bus.specs.Commands.{after_command, after_command_of}
use Rattle.b1_serial_rest.specs.Rest.{AtRest}
use Rattle.b1_serial_rest.specs.Alone.{is_alone}
use Rattle.b1_serial_rest.proofs.Own.{Parts, parts_at}
use Rattle.b1_serial_rest.proofs.Done.{done}
use Rattle.std.proofs.lemmas.Option.{same_Some}

module _ (o : Opening) (s : State) (bus : Bus) (p : ℕ) (y : Part) (d : DriverPart) (command : Command) (m : Shortage)
    (rest : AtRest o s bus) (is : slice_get bus p ≡ Some y) (is_driver : IsDriver s p d) (alone : is_alone (resolved command y.calls) y ≡ true) where
  here : Parts s.peers s.drivers p y
  here = parts_at s.peers s.drivers p y (ap (λ b. slice_get b p) (sym rest.is_bus) ∙ is)

  calls_are : y.calls ≡ d.calls
  calls_are = ap (λ z. z.calls) here.4 ∙ ap (λ z. z.calls) (same_Some here.1 d (sym here.3 ∙ is_driver))

  abbrev whole : Command
  whole = resolved command y.calls

  begins : beginning (Some command) d ≡ Some whole
  begins = ap (λ r. elim r [ Some doing ↦ None | None ↦ Some (resolved command d.calls) ]) (rest.quiet.idle p d is_driver) ∙ ap (λ calls. Some (resolved command calls)) (sym calls_are)

  bus_is : after_command_of m p command bus ≡ after_command m whole y bus
  bus_is = ap (λ r. elim r [ None ↦ bus | Some x ↦ after_command m (resolved command x.calls) x bus ]) is

  -- the state after the schedule's step is at rest
  pub scheduled : AtRest o (with_step o m p (beginning (Some command) d) d s) (after_command_of m p command bus)
  scheduled =
      let t = done o s bus p y whole m (is_short m d (Some whole)) rest is alone in
      let state_is : with_step o m p (Some whole) d s ≡ t.0 = ap (λ r. elim r [ None ↦ s | Some u ↦ u ]) t.1 in
      subst (λ u. AtRest o u (after_command_of m p command bus)) (sym (ap (λ c. with_step o m p c d s) begins ∙ state_is))
      (subst (λ b. AtRest o t.0 b) (sym bus_is) t.2)
