-- What is so of a command's whole steps is so of the state to which a schedule runs it.
use Rattle.std.proofs.Common.{◌≡◌, refl, sym, ap, ◌∙◌, subst, ℕ, Bool, true, false, cond, Option, Some, None, is_none}
use Rattle.std.specs.Prelude.{slice_get}
use Rattle.b1_model.specs.declared.naming.NodeRef.{NodeRef}
use Rattle.b1_model.specs.declared.naming.Opening.{Opening}
use Rattle.b1_model.specs.Opening.{IsOpening}
use Rattle.b1_model.specs.declared.commands.Command.{Command}
use Rattle.b1_model.specs.declared.commands.Command.TheVariants as cmd
use Rattle.b1_model.specs.MachineParts.{DriverPart, State}
use Rattle.b1_model.specs.MachineStep.{Reached}
use Rattle.b1_model.specs.Names.{is_given}
use Rattle.b1_model.specs.Script.{resolved}
use Rattle.b1_schedule.specs.Shortage.{Shortage}
use Rattle.b1_step.proofs.Locality.{own_driver}
use Rattle.b1_serial_bus.specs.Parts.{Part, Bus}
use Rattle.b1_serial_bus.specs.Named.{held_node}
use Rattle.b1_serial_bus.specs.Commands.{after_command, after_command_of}
use Rattle.b1_serial_rest.specs.Rest.{AtRest}
use Rattle.b1_serial_rest.specs.Alone.{is_alone}
use Rattle.b1_serial_rest.specs.Unheld.{releasable}
use Rattle.b1_serial_rest.specs.Whole.{RunsWhole}
use Rattle.b1_serial_rest.proofs.Own.{Parts, parts_at}
use Rattle.b1_serial_rest.proofs.Kept.{rests}
use Rattle.b1_serial_rest.proofs.Refused.{refused_rests}
use Rattle.b1_serial_whole.proofs.Whole.{Whole}
use Rattle.b1_serial_own.proofs.OneStep.{first_is}
use Rattle.b1_serial_own.proofs.Release.{release_rests}
use Rattle.b1_serial_own.proofs.Runs.{RunsSo, runs_so}

module _ (o : Opening) (s : State) (bus : Bus) (p : ℕ) (y : Part) (command : Command) (m : Shortage) (opens : IsOpening o) (reached : Reached o s) (rest : AtRest o s bus) (is : slice_get bus p ≡ Some y) where
  here : Parts s.peers s.drivers p y
  here = parts_at s.peers s.drivers p y (ap (λ b. slice_get b p) (sym rest.is_bus) ∙ is)

  abbrev d : DriverPart
  d = here.1

  run : RunsSo o m p command s d
  run = runs_so o m p command s d opens reached here.3 (rest.quiet.idle p d here.3) (rest.quiet.paid p d here.3)

  bus_is : after_command_of m p command bus ≡ after_command m (resolved command y.calls) y bus
  bus_is = ap (λ r. elim r [ None ↦ bus | Some x ↦ after_command m (resolved command x.calls) x bus ]) is

  calls_are : d.calls ≡ y.calls
  calls_are = sym (ap (λ z. z.calls) here.4)

  -- the steps are whole, for the command with its references resolved
  whole : Whole o s p (resolved command y.calls) run.end
  whole = subst (λ cs. Whole o s p (resolved command cs) run.end) calls_are run.whole

  -- to a state of which something is so for every whole command
  pub led_to : (P : State → Type 0) → ((t : State) → Whole o s p (resolved command y.calls) t → P t) → (t : State) × RunsWhole o m p command s t × P t
  led_to P holds = (run.end, run.runs, holds run.end whole)

  -- to rest
  pub led : ((t : State) → Whole o s p (resolved command y.calls) t → AtRest o t (after_command m (resolved command y.calls) y bus)) → (t : State) × RunsWhole o m p command s t × AtRest o t (after_command_of m p command bus)
  led holds = led_to (λ t. AtRest o t (after_command_of m p command bus)) (λ t steps. subst (AtRest o t) (sym bus_is) (holds t steps))

  -- the same, where it is another command with its references resolved
  pub led_as : (one : Command) → resolved command y.calls ≡ one → ((t : State) → Whole o s p one t → AtRest o t (after_command m one y bus)) → (t : State) × RunsWhole o m p command s t × AtRest o t (after_command_of m p command bus)
  led_as one same holds = led (subst (λ c. (t : State) → Whole o s p c t → AtRest o t (after_command m c y bus)) (sym same) holds)

-- a first step that leads to rest is the whole command
module _ {o : Opening} {s : State} {p : ℕ} {command : Command} {t : State} (whole : Whole o s p command t) where
  pub first_rests : (after : Bus) → AtRest o whole.first after → AtRest o t after
  first_rests after rest = subst (λ u. AtRest o u after) (first_is whole (rest.quiet.idle p whole.begins.new_driver (own_driver whole.begins))) rest

module _ (o : Opening) (s : State) (bus : Bus) (p : ℕ) (y : Part) (m : Shortage) (t : State) (opens : IsOpening o) (reached : Reached o s) (rest : AtRest o s bus) (is : slice_get bus p ≡ Some y) where
  -- a command of one step that touches its own peer alone
  pub alone_whole : (command : Command) → is_alone command y ≡ true → Whole o s p command t → AtRest o t (after_command m command y bus)
  alone_whole command alone whole = first_rests whole (after_command m command y bus) (rests o s bus p y command m whole.first rest is alone whole.begins)

  -- any HANDLE_RELEASE
  pub release_whole : (number : ℕ) → y.shut ≡ false → Whole o s p (cmd.Release number) t → AtRest o t (after_command m (cmd.Release number) y bus)
  release_whole number is_open whole = by (is_given number) refl (held_node y number) refl
    where
      unheld : is_none (releasable y number) ≡ true → AtRest o t (after_command m (cmd.Release number) y bus)
      unheld none = first_rests whole (after_command m (cmd.Release number) y bus) (refused_rests o s bus p y number m whole.first rest is is_open none whole.begins)

      by : (given : Bool) → is_given number ≡ given → (held : Option NodeRef) → held_node y number ≡ held → AtRest o t (after_command m (cmd.Release number) y bus)
      by false form held named = unheld (ap (λ b. is_none (cond b (held_node y number) None)) form)
      by true form None named = unheld (ap (λ b. is_none (cond b (held_node y number) None)) form ∙ ap is_none named)
      by true form (Some node) named = release_rests o s bus p y number node m t opens reached rest is is_open form named whole
