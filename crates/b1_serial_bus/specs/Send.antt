-- A whole SEND.
use Rattle.std.specs.Prelude.{ℕ, ◌+◌, ◌==◌, Bool, true, false, if◌then◌else◌, [], ◌∷◌}
use Rattle.std.specs.Prelude.{Option, None, Some, length, zip}
use Rattle.b1_model.specs.declared.commands.SendCmd.{SendCmd}
use Rattle.b1_model.specs.declared.commands.Command.TheVariants as cmd
use Rattle.b1_model.specs.declared.answers.Answer.{Answer}
use Rattle.b1_model.specs.declared.answers.Answer.TheVariants as ans
use Rattle.b1_model.specs.MachineSend.{first_reason}
use Rattle.b1_model.specs.MachineDriver.{refused_at, all_refused}
use Rattle.b1_serial_bus.specs.Parts.{Part, Bus, at_peer, called}
use Rattle.b1_serial_bus.specs.Named.{making}
use Rattle.b1_serial_bus.specs.Letters.{Letter, Places, letter_of, accepted, stamp_of}
use Rattle.b1_serial_bus.specs.Begin.{begin_reasons}
use Rattle.b1_serial_bus.specs.Places.{answered}
use Rattle.b1_serial_bus.specs.Delivery.{delivered_from}

-- the first refusal among the places from one on
abbrev pub first_refusal : ℕ → Places → Option Answer
first_refusal place [] = None
first_refusal place (None ∷ rest) = first_refusal (place + 1) rest
first_refusal place (Some r ∷ rest) = Some (refused_at r (Some place))

-- the refusal of a SEND by its places: without CONTINUE the first one; with CONTINUE, only where
-- nobody is left, the first want of memory, or else the first place's
abbrev pub send_refusal : Bool → Letter → Places → Option Answer
send_refusal false s places = first_refusal 0 places
send_refusal true s places =
    if length (accepted s places) == 0 then Some (all_refused places) else None

-- a SEND that its sender called with an answer
abbrev pub send_called : SendCmd → Answer → Part → Bus → Bus
send_called c answer x bus = at_peer x.me (called (cmd.Send c) answer) bus

-- an accepted SEND: the letter is delivered, and the sender's clock is the stamp
abbrev pub sent : SendCmd → Letter → Places → ℕ → Part → Bus → Bus
sent c s places stamp x bus =
    let answer = ans.Sent (record { stamp = stamp; places = places }) in
    at_peer x.me (λ y. called (cmd.Send c) answer (record y { clock = stamp }))
    (delivered_from s stamp 0 (zip s.to places) bus)

-- a SEND by what its places answered
abbrev pub after_places : SendCmd → Letter → Places → Part → Bus → Bus
after_places c s places x bus = elim (send_refusal c.go_on s places) [
  | Some answer ↦ send_called c answer x bus
  | None ↦ sent c s places (stamp_of bus s x.clock (accepted s places)) x bus
]

-- a SEND whose begin was accepted, of a sender that has made its nodes
abbrev pub after_begin : (Option ℕ → Bool) → SendCmd → Part → Bus → Bus
after_begin short c x bus =
    let s = letter_of c x in after_places c s (answered bus s short s.to []) x bus

-- a SEND of peer x, where memory is wanting at these places
abbrev pub after_send : (Option ℕ → Bool) → SendCmd → Part → Bus → Bus
after_send short c x bus = elim (first_reason (begin_reasons x c (short None))) [
  | Some r ↦ send_called c (refused_at r None) x bus
  | None ↦ after_begin short c (making c.with x) (at_peer x.me (making c.with) bus)
]
