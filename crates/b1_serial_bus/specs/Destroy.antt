-- A whole NODES_DESTROY.
use Rattle.std.specs.Prelude.{ℕ, nat_le, List, [], ◌∷◌, Option, None, Some}
use Rattle.std.specs.Prelude.{is_none, filter_map, find, option_map}
use Rattle.std.specs.Bool.{then_some}
use Rattle.b1_model.specs.declared.commands.Command.TheVariants as cmd
use Rattle.b1_model.specs.declared.answers.Reason.{Reason}
use Rattle.b1_model.specs.declared.answers.Reason.TheVariants as reason
use Rattle.b1_model.specs.declared.answers.Answer.TheVariants as ans
use Rattle.b1_model.specs.MachineParts.{clock_limit}
use Rattle.b1_model.specs.MachineSend.{first_reason}
use Rattle.b1_model.specs.MachineDestroy.{is_bad_destroy}
use Rattle.b1_model.specs.MachineDriver.{refused_at}
use Rattle.b1_serial_bus.specs.Parts.{Part, Bus, at_peer, called}
use Rattle.b1_serial_bus.specs.Named.{serial_of}
use Rattle.b1_serial_bus.specs.Lives.{destroyed_at}
use Rattle.b1_serial_bus.specs.Doom.{doom_stamp, destroyed}

-- the serial of the live node with an own number
abbrev pub live_serial : Part → ℕ → Option ℕ
live_serial x number = elim (serial_of number x.nodes) [
  | None ↦ None
  | Some serial ↦ then_some (is_none (destroyed_at x serial)) serial
]

-- no destruction begins at a clock from the limit on
abbrev pub overflow_reason : Part → Option Reason
overflow_reason x = then_some (nat_le clock_limit x.clock) (reason.Overflow x.clock)

-- the first of these numbers that names no live node
abbrev pub not_live_reason : Part → List ℕ → Option Reason
not_live_reason x numbers =
    option_map (λ n. reason.Unknown n) (find (λ n. is_none (live_serial x n)) numbers)

-- the refusals of NODES_DESTROY, in their order
abbrev pub destroy_reasons : Part → List ℕ → List (Option Reason)
destroy_reasons x numbers =
    then_some (is_bad_destroy numbers) reason.Invalid ∷
    overflow_reason x ∷
    not_live_reason x numbers ∷ []

-- an accepted one, of these serials and with this stamp
abbrev pub destroy_done : List ℕ → ℕ → List ℕ → Part → Bus → Bus
destroy_done numbers stamp doomed x bus =
    let answer = ans.Destroyed stamp in
    at_peer x.me (called (cmd.Destroy numbers) answer) (destroyed stamp x doomed bus)

-- the nodes of these numbers are destroyed
abbrev pub destroy_named : List ℕ → List ℕ → Part → Bus → Bus
destroy_named numbers doomed x bus = destroy_done numbers (doom_stamp x doomed bus) doomed x bus

-- a NODES_DESTROY of peer x
abbrev pub after_destroy : List ℕ → Part → Bus → Bus
after_destroy numbers x bus = elim (first_reason (destroy_reasons x numbers)) [
  | Some r ↦ at_peer x.me (called (cmd.Destroy numbers) (refused_at r None)) bus
  | None ↦ destroy_named numbers (filter_map (live_serial x) numbers) x bus
]
