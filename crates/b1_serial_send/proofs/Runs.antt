-- A whole SEND of a peer that hasn't disconnected, from a state at rest to one at rest.
use Rattle.std.proofs.Common.{◌≡◌, sym, ap, ◌∙◌, subst, ℕ, true, false, cond, length, Some, None}
use Rattle.std.specs.Prelude.{slice_get}
use Rattle.b1_model.specs.declared.naming.Opening.{Opening}
use Rattle.b1_model.specs.Opening.{IsOpening}
use Rattle.b1_model.specs.declared.commands.Command.{Command}
use Rattle.b1_model.specs.declared.commands.Command.TheVariants as cmd
use Rattle.b1_model.specs.declared.commands.SendCmd.{SendCmd}
use Rattle.b1_model.specs.MachineParts.{PeerPart, DriverPart, State}
use Rattle.b1_model.specs.MachineStep.{Reached}
use Rattle.b1_model.specs.Script.{resolved}
use Rattle.b1_schedule.specs.Shortage.{Shortage}
use Rattle.b1_serial_bus.specs.Parts.{Part, Bus}
use Rattle.b1_serial_bus.specs.Send.{after_send}
use Rattle.b1_serial_bus.specs.Commands.{after_command, after_command_of}
use Rattle.b1_serial_rest.specs.Standing.{part_of}
use Rattle.b1_serial_rest.specs.Rest.{AtRest}
use Rattle.b1_serial_rest.specs.Whole.{RunsWhole}
use Rattle.b1_serial_rest.proofs.Own.{Parts, parts_at}
use Rattle.b1_serial_send.proofs.Facts.{placed}
use Rattle.b1_serial_send.proofs.TakenBack.{takes_back}
use Rattle.b1_serial_send.proofs.Assembled.{send_runs}

module _ {o : Opening} {s : State} {bus : Bus} (opens : IsOpening o) (reached : Reached o s) (rest : AtRest o s bus) (m : Shortage)
    (p : ℕ) (y : Part) (is : slice_get bus p ≡ Some y) (is_open : y.shut ≡ false) (command : Command) (c : SendCmd) (resolves : resolved command y.calls ≡ cmd.Send c) where
  here : Parts s.peers s.drivers p y
  here = parts_at s.peers s.drivers p y (ap (λ b. slice_get b p) (sym rest.is_bus) ∙ is)

  abbrev x : PeerPart
  x = here.0

  abbrev d : DriverPart
  d = here.1

  me_is : d.me ≡ p
  me_is = rest.numbered.drivers p d here.3

  -- the bus after it
  after_is : after_command_of m p command bus ≡ after_send (λ place. m d.me (length d.calls) place) c (part_of x d) bus
  after_is =
      ap (λ r. elim r [ None ↦ bus | Some z ↦ after_command m (resolved command z.calls) z bus ]) is
      ∙ ap (λ k. after_command m k y bus) resolves
      ∙ ap (λ b. cond b (after_command m (cmd.Send c) (record y { shut = true }) bus) (after_send (m y.me (length y.calls)) c y bus)) is_open
      ∙ ap (λ z. after_send (m z.me (length z.calls)) c z bus) here.4
      ∙ ap (λ k. after_send (m k (length d.calls)) c (part_of x d) bus) (placed opens reached rest p x here.2 ∙ sym me_is)

  -- the whole command
  pub runs : (t : State) × RunsWhole o m p command s t × AtRest o t (after_command_of m p command bus)
  runs =
      subst (λ k. (t : State) × RunsWhole o m k command s t × AtRest o t (after_command_of m p command bus)) me_is
      (subst (λ b. (t : State) × RunsWhole o m d.me command s t × AtRest o t b) (sym after_is)
      (send_runs opens reached rest m d driver_there x peer_there c command (sym (ap (λ z. z.shut) here.4) ∙ is_open) (ap (λ calls. resolved command calls) (sym (ap (λ z. z.calls) here.4)) ∙ resolves)
      (λ some destinations places more a below stops all is_final. takes_back opens reached rest m d driver_there x peer_there c places more a below stops all is_final (λ to there. let z = destinations to there in (z.0, z.2)))))
    where
      driver_there : slice_get s.drivers d.me ≡ Some d
      driver_there = ap (slice_get s.drivers) me_is ∙ here.3

      peer_there : slice_get s.peers d.me ≡ Some x
      peer_there = ap (slice_get s.peers) me_is ∙ here.2
