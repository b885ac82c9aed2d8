-- A whole RECV, or an AWAIT that doesn't wait, leads from rest to rest; so does an attempt that waits.
use Rattle.std.proofs.Common.{◌≡◌, refl, sym, ap, ◌∙◌, subst, ℕ, true, false, cond, ◌&&◌, not, nat_lt, [], ◌∷◌, ◌++◌, length, Some, None}
use Rattle.std.specs.Prelude.{slice_get}
use Rattle.std.proofs.lemmas.Bool.{eqb-true}
use Rattle.std.proofs.lemmas.List.{nil_from_length}
use Rattle.b1_model.specs.declared.naming.Opening.{Opening}
use Rattle.b1_model.specs.Opening.{IsOpening}
use Rattle.b1_model.specs.declared.answers.Reason.TheVariants as reason
use Rattle.b1_model.specs.declared.commands.Command.TheVariants as cmd
use Rattle.b1_model.specs.MachineParts.{DriverPart, State}
use Rattle.b1_model.specs.MachineDriver.{refused_at}
use Rattle.b1_model.specs.MachineStep.{Reached}
use Rattle.b1_schedule.specs.Shortage.{Shortage}
use Rattle.b1_schedule.specs.Schedule.{removed_by}
use Rattle.b1_inv.specs.Words.{IsDriver}
use Rattle.b1_serial_bus.specs.Parts.{Part, Bus, at_peer}
use Rattle.b1_serial_bus.specs.Receive.{is_empty, cleared, received, waits}
use Rattle.b1_serial_bus.specs.Commands.{after_command}
use Rattle.b1_serial_rest.specs.Rest.{AtRest}
use Rattle.b1_serial_rest.proofs.Own.{Parts, parts_at}
use Rattle.b1_serial_whole.proofs.Whole.{Whole}
use Rattle.b1_serial_own.proofs.Recv.{receive_rests, some_rests, attempt_rests, attempt_removed}

module _ (o : Opening) (s : State) (bus : Bus) (p : ℕ) (y : Part) (m : Shortage) (t : State) (opens : IsOpening o) (reached : Reached o s) (rest : AtRest o s bus) (is : slice_get bus p ≡ Some y) (is_open : y.shut ≡ false) where
  stands : Parts s.peers s.drivers p y
  stands = parts_at s.peers s.drivers p y (ap (λ b. slice_get b p) (sym rest.is_bus) ∙ is)

  me_is : y.me ≡ p
  me_is = ap (λ z. z.me) stands.4 ∙ (rest.numbered.peers p stands.0 stands.2).me

  recv_bus : after_command m cmd.Recv y bus ≡ at_peer p received bus
  recv_bus = ap (λ b. cond b (at_peer y.me (λ z. record z { calls = z.calls ++ record { command = cmd.Recv; answer = refused_at reason.Shutdown None } ∷ [] }) bus) (at_peer y.me received bus)) is_open ∙ ap (λ q. at_peer q received bus) me_is

  await_bus : after_command m cmd.Await y bus ≡ at_peer p received bus
  await_bus = ap (λ b. cond b (at_peer y.me (λ z. record z { calls = z.calls ++ record { command = cmd.Recv; answer = refused_at reason.Shutdown None } ∷ [] }) bus) (at_peer y.me received bus)) is_open ∙ ap (λ q. at_peer q received bus) me_is

  -- a RECV
  pub recv_whole : Whole o s p cmd.Recv t → AtRest o t (after_command m cmd.Recv y bus)
  recv_whole whole = subst (AtRest o t) (sym recv_bus) (receive_rests o s bus p y cmd.Recv m t opens reached rest is is_open refl whole refl)

  -- what is waited for
  waits_is : waits y ≡ is_empty (cleared y).box
  waits_is = ap (λ b. not b && is_empty (cleared y).box) is_open

  -- an AWAIT that doesn't wait
  pub await_whole : waits y ≡ false → Whole o s p cmd.Await t → AtRest o t (after_command m cmd.Await y bus)
  await_whole some whole = subst (AtRest o t) (sym await_bus) (some_rests o s bus p y cmd.Await m t opens reached rest is is_open refl whole (λ r. refl) (sym waits_is ∙ some))

  -- one that waits: the attempt removes what is for nobody, and something where there was something
  none_left : waits y ≡ true → (cleared y).box ≡ []
  none_left none = nil_from_length (cleared y).box (eqb-true (length (cleared y).box) 0 (sym waits_is ∙ none))

  pub attempt_whole : waits y ≡ true → Whole o s p cmd.Await t → AtRest o t (at_peer y.me cleared bus) × ((e : DriverPart) → IsDriver t p e → nat_lt 0 (removed_by e) ≡ not (is_empty y.box))
  attempt_whole none whole = (
    subst (AtRest o t) (ap (λ q. at_peer q cleared bus) (sym me_is)) (attempt_rests o s bus p y cmd.Await m t opens reached rest is is_open refl whole (none_left none) refl),
    attempt_removed o s bus p y cmd.Await m t opens reached rest is is_open refl whole (none_left none) refl refl,
  )
