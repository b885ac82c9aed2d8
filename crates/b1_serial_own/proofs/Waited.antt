-- An AWAIT that waits is run to rest by a schedule.
use Rattle.std.proofs.Common.{◌≡◌, ℕ, true, not, nat_lt, Some}
use Rattle.std.specs.Prelude.{slice_get}
use Rattle.std.proofs.lemmas.Bool.{and_parts, not-true}
use Rattle.b1_model.specs.declared.naming.Opening.{Opening}
use Rattle.b1_model.specs.Opening.{IsOpening}
use Rattle.b1_model.specs.declared.commands.Command.TheVariants as cmd
use Rattle.b1_model.specs.MachineParts.{DriverPart, State}
use Rattle.b1_model.specs.MachineStep.{Reached}
use Rattle.b1_schedule.specs.Shortage.{Shortage}
use Rattle.b1_schedule.specs.Schedule.{removed_by}
use Rattle.b1_inv.specs.Words.{IsDriver}
use Rattle.b1_serial_bus.specs.Parts.{Part, Bus, at_peer}
use Rattle.b1_serial_bus.specs.Receive.{is_empty, cleared, waits}
use Rattle.b1_serial_rest.specs.Rest.{AtRest}
use Rattle.b1_serial_rest.specs.Whole.{RunsWhole}
use Rattle.b1_serial_own.proofs.Led.{led_to}
use Rattle.b1_serial_own.proofs.Received.{attempt_whole}

pub attempt_led : (o : Opening) (s : State) (bus : Bus) (p : ℕ) (y : Part) (m : Shortage) → IsOpening o → Reached o s → AtRest o s bus → slice_get bus p ≡ Some y → waits y ≡ true
    → (t : State) × RunsWhole o m p cmd.Await s t × AtRest o t (at_peer y.me cleared bus) × ((e : DriverPart) → IsDriver t p e → nat_lt 0 (removed_by e) ≡ not (is_empty y.box))
attempt_led o s bus p y m opens reached rest is none =
    let open_is = not-true y.shut (and_parts (not y.shut) (is_empty (cleared y).box) none).0 in
    let k = led_to o s bus p y cmd.Await m opens reached rest is (λ t. AtRest o t (at_peer y.me cleared bus) × ((e : DriverPart) → IsDriver t p e → nat_lt 0 (removed_by e) ≡ not (is_empty y.box)))
    (λ t whole. attempt_whole o s bus p y m t opens reached rest is open_is none whole) in
    (k.0, k.1, k.2.0, k.2.1)
