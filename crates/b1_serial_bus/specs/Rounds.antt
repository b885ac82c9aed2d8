-- A round of the serial bus: each peer runs its commands whole until they end or one waits.
use Rattle.std.specs.Prelude.{ℕ, Bool, true, false, ◌||◌, not, if◌then◌else◌}
use Rattle.std.specs.Prelude.{List, [], ◌∷◌, None, Some, drop, fold, length, slice_get}
use Rattle.std.specs.List.{range_with_len}
use Rattle.b1_model.specs.declared.commands.Command.{Command}
use Rattle.b1_model.specs.declared.commands.Command.TheVariants as cmd
use Rattle.b1_model.specs.Script.{commands_of}
use Rattle.b1_schedule.specs.Shortage.{Shortage}
use Rattle.b1_serial_bus.specs.Parts.{Part, Bus, at_peer}
use Rattle.b1_serial_bus.specs.Receive.{is_empty, cleared, waits}
use Rattle.b1_serial_bus.specs.Commands.{after_command_of}

-- the bus within a round, and whether the round gained so far
pub record Going : Type 0 where
  pub bus : Bus
  pub gained : Bool

-- a peer's command is an AWAIT that waits
abbrev pub is_waiting : Command → Part → Bool
is_waiting command x = elim command [ cmd.Await ↦ waits x | other ↦ false ]

-- a peer's attempt waits: it removes what is for nobody, and gains where there was something
abbrev pub attempted : Part → Going → Going
attempted x g =
    record { bus = at_peer x.me cleared g.bus; gained = g.gained || not (is_empty x.box) }

-- peer p runs these commands until they end or one waits, and each that ends gains
abbrev pub run : Shortage → ℕ → List Command → Going → Going
run m p [] g = g
run m p (c ∷ rest) g = elim (slice_get g.bus p) [
  | None ↦ g
  | Some x ↦
      if is_waiting c x then attempted x g
      else run m p rest (record { bus = after_command_of m p c g.bus; gained = true })
]

-- the commands that a peer has left: each that ended is a call
abbrev pub commands_left : List (List Command) → Part → List Command
commands_left lists x = drop (length x.calls) (commands_of lists x.me)

-- a round at peer p
abbrev pub round_at : List (List Command) → Shortage → Going → ℕ → Going
round_at lists m g p =
    elim (slice_get g.bus p) [ None ↦ g | Some x ↦ run m p (commands_left lists x) g ]

-- a round: all peers in rising order
abbrev pub round : List (List Command) → Shortage → Bus → Going
round lists m bus =
    fold (round_at lists m) (record { bus = bus; gained = false }) (range_with_len 0 (length bus))
