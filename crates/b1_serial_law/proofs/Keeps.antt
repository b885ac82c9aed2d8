-- Every whole command leads from rest to rest, as on the serial bus.
use Rattle.std.proofs.Common.{◌≡◌, refl, ap, ◌∙◌, ℕ, Bool, true, false, ◌||◌, Some}
use Rattle.std.specs.Prelude.{slice_get}
use Rattle.b1_model.specs.declared.naming.Opening.{Opening}
use Rattle.b1_model.specs.declared.commands.Command.{Command}
use Rattle.b1_model.specs.declared.commands.Command.TheVariants as cmd
use Rattle.b1_model.specs.Opening.{IsOpening}
use Rattle.b1_model.specs.MachineParts.{State}
use Rattle.b1_model.specs.MachineStep.{Reached}
use Rattle.b1_model.specs.MachineDriver.{is_flushing}
use Rattle.b1_model.specs.Script.{resolved}
use Rattle.b1_schedule.specs.Shortage.{Shortage}
use Rattle.b1_serial_bus.specs.Parts.{Part, Bus}
use Rattle.b1_serial_bus.specs.Rounds.{is_waiting}
use Rattle.b1_serial_bus.specs.Commands.{after_command_of}
use Rattle.b1_serial_rest.specs.Rest.{AtRest}
use Rattle.b1_serial_rest.specs.Whole.{RunsWhole}
use Rattle.b1_serial_rest.specs.Alone.{is_small, is_alone}
use Rattle.b1_serial_own.proofs.Led.{led, led_as, alone_whole, release_whole}
use Rattle.b1_serial_own.proofs.Received.{recv_whole, await_whole}
use Rattle.b1_serial_own.proofs.Waited.{attempt_led}
use Rattle.b1_serial_own.proofs.Destroy.{destroy_whole}
use Rattle.b1_serial_own.proofs.Reset.{reset_whole}
use Rattle.b1_serial_send.proofs.Runs.{runs}
use Rattle.b1_serial_plays.specs.Commands.{CommandsKeepRest, Keeps}

module _ (o : Opening) (opens : IsOpening o) (m : Shortage) (s : State) (bus : Bus) (p : ℕ) (y : Part) (reached : Reached o s) (rest : AtRest o s bus) (is : slice_get bus p ≡ Some y) where
  -- a whole command that leads to rest
  abbrev Led : Command → Type 0
  Led command = (t : State) × RunsWhole o m p command s t × AtRest o t (after_command_of m p command bus)

  kept : (command : Command) → Led command → Keeps o m p command s bus
  kept command k = record { state = k.0; runs = k.1; rests = k.2 }

  small : (command : Command) → is_alone (resolved command y.calls) y ≡ true → Keeps o m p command s bus
  small command alone = kept command (led o s bus p y command m opens reached rest is (λ t whole. alone_whole o s bus p y m t opens reached rest is (resolved command y.calls) alone whole))

  shut : (command : Command) → y.shut ≡ true → Keeps o m p command s bus
  shut command is_shut = small command (ap (λ b. b || is_small (resolved command y.calls)) is_shut)

  small_is : (command : Command) → y.shut ≡ false → is_small (resolved command y.calls) ≡ true → is_alone (resolved command y.calls) y ≡ true
  small_is command connected is_so = ap (λ b. b || is_small (resolved command y.calls)) connected ∙ is_so

  flushes : (command : Command) → y.shut ≡ false → is_flushing (resolved command y.calls) ≡ true → Keeps o m p command s bus
  flushes command connected is_so = kept command (led o s bus p y command m opens reached rest is (λ t whole. reset_whole o s bus p y m t opens reached rest is connected (resolved command y.calls) is_so whole))

  by_command : (command : Command) → y.shut ≡ false → is_waiting command y ≡ false → Keeps o m p command s bus
  by_command (cmd.Send c) connected waits = kept (cmd.Send c) (runs opens reached rest m p y is connected (cmd.Send c) _ refl)
  by_command cmd.Recv connected waits = kept cmd.Recv (led_as o s bus p y cmd.Recv m opens reached rest is cmd.Recv refl (λ t whole. recv_whole o s bus p y m t opens reached rest is connected whole))
  by_command cmd.Await connected waits = kept cmd.Await (led_as o s bus p y cmd.Await m opens reached rest is cmd.Await refl (λ t whole. await_whole o s bus p y m t opens reached rest is connected waits whole))
  by_command (cmd.Release number) connected waits = kept (cmd.Release number) (led_as o s bus p y (cmd.Release number) m opens reached rest is _ refl (λ t whole. release_whole o s bus p y m t opens reached rest is _ connected whole))
  by_command (cmd.Destroy numbers) connected waits = kept (cmd.Destroy numbers) (led_as o s bus p y (cmd.Destroy numbers) m opens reached rest is _ refl (λ t whole. destroy_whole o s bus p y _ m t opens reached rest is connected whole))
  by_command (cmd.SliceRelease offset) connected waits = small (cmd.SliceRelease offset) (small_is (cmd.SliceRelease offset) connected refl)
  by_command cmd.Query connected waits = small cmd.Query (small_is cmd.Query connected refl)
  by_command (cmd.Limit limits) connected waits = small (cmd.Limit limits) (small_is (cmd.Limit limits) connected refl)
  by_command (cmd.Reset limits) connected waits = flushes (cmd.Reset limits) connected refl
  by_command cmd.Disconnect connected waits = flushes cmd.Disconnect connected refl

  by_shut : (b : Bool) → y.shut ≡ b → (command : Command) → is_waiting command y ≡ false → Keeps o m p command s bus
  by_shut true is_shut command waits = shut command is_shut
  by_shut false connected command waits = by_command command connected waits

-- every command of every peer
pub commands_keep : (o : Opening) → IsOpening o → CommandsKeepRest o
commands_keep o opens = record {
  ends = λ m s bus p y command reached rest is waits. by_shut o opens m s bus p y reached rest is y.shut refl command waits;
  waits = λ m s bus p y reached rest is waits.
      let k = attempt_led o s bus p y m opens reached rest is waits in
      record { state = k.0; runs = k.1; rests = k.2; removed = k.3 };
}
