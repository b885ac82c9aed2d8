-- In a state at rest the machine does such a command: its step is there.
use Rattle.std.proofs.Common.{◌≡◌, sym, ap, ◌∙◌, ℕ, Bool, true, ◌||◌, Some}
use Rattle.std.specs.Prelude.{slice_get}
use Rattle.b1_model.specs.declared.naming.Opening.{Opening}
use Rattle.b1_model.specs.declared.commands.Command.{Command}
use Rattle.b1_model.specs.MachineParts.{PeerPart, DriverPart, State}
use Rattle.b1_model.specs.MachineStep.{stepped, stepped_by, stepped_to, stepped_at, with_parts, effect}
use Rattle.b1_schedule.specs.Shortage.{Shortage}
use Rattle.b1_step.proofs.Steps.{step_of}
use Rattle.b1_serial_bus.specs.Parts.{Part, Bus}
use Rattle.b1_serial_bus.specs.Commands.{after_command}
use Rattle.b1_serial_rest.specs.Rest.{AtRest}
use Rattle.b1_serial_rest.specs.Alone.{is_small, is_alone}
use Rattle.b1_serial_rest.proofs.Local.{local_target}
use Rattle.b1_serial_rest.proofs.Own.{Parts, parts_at}
use Rattle.b1_serial_rest.proofs.Kept.{rests}

module _ (o : Opening) (s : State) (bus : Bus) (p : ℕ) (y : Part) (command : Command) (m : Shortage) (memory : Bool)
    (rest : AtRest o s bus) (is : slice_get bus p ≡ Some y) (alone : is_alone command y ≡ true) where
  here : Parts s.peers s.drivers p y
  here = parts_at s.peers s.drivers p y (ap (λ b. slice_get b p) (sym rest.is_bus) ∙ is)

  abbrev x : PeerPart
  x = here.0

  abbrev d : DriverPart
  d = here.1

  me_is : d.me ≡ p
  me_is = rest.numbered.drivers p d here.3

  small : d.shut || is_small command ≡ true
  small = ap (λ b. b || is_small command) (sym (ap (λ z. z.shut) here.4)) ∙ alone

  abbrev after : State
  after = with_parts s p p (effect o memory d (Some command) x)

  does : stepped o memory p (Some command) s ≡ Some after
  does =
      ap (stepped_by o memory p (Some command) s) here.3
      ∙ ap (stepped_to o memory p (Some command) s d) (local_target d command (rest.quiet.idle p d here.3) (rest.quiet.paid p d here.3) small)
      ∙ ap (λ q. stepped_at o memory p (Some command) s d q (slice_get s.peers q)) me_is
      ∙ ap (stepped_at o memory p (Some command) s d p) here.2

  -- the state after it is at rest
  pub done : (t : State) × (stepped o memory p (Some command) s ≡ Some t) × AtRest o t (after_command m command y bus)
  done = (after, does, rests o s bus p y command m after rest is alone (step_of o memory p (Some command) s after does))
