-- The plain serial bus: a script's commands whole, one after another, in rounds, and then a drain.
use Rattle.std.specs.Prelude.{ℕ, zero, suc, Bool, true, false, nat_lt, if◌then◌else◌}
use Rattle.std.specs.Prelude.{List, [], ◌∷◌}
use Rattle.std.specs.Prelude.{map, filter, length}
use Rattle.b1_model.specs.declared.commands.Command.{Command}
use Rattle.b1_schedule.specs.Shortage.{Shortage}
use Rattle.b1_serial_bus.specs.Parts.{Bus}
use Rattle.b1_serial_bus.specs.Rounds.{Going, commands_left, round}
use Rattle.b1_serial_bus.specs.Drain.{pass}

-- the rounds, the passes of the drain, the end, or a stall
pub data Stage : Type 0 where
  Rounds : Stage
  Passes : Stage
  Finished : Stage
  Stalled : Stage

-- the bus, and how far the script is
pub record Play : Type 0 where
  pub bus : Bus
  pub stage : Stage

-- the peers that have commands left, rising
abbrev pub waiting_peers : List (List Command) → Bus → List ℕ
waiting_peers lists bus =
    map (λ x. x.me) (filter (λ x. nat_lt 0 (length (commands_left lists x))) bus)

-- the script has ended, or stalls
abbrev pub is_over : Stage → Bool
is_over stage = elim stage [ Rounds ↦ false | Passes ↦ false | Finished ↦ true | Stalled ↦ true ]

-- after a round: the drain where no command is left, else another round where it gained
abbrev pub after_round : List (List Command) → Going → Play
after_round lists g = elim (waiting_peers lists g.bus) [
  | [] ↦ record { bus = g.bus; stage = Passes }
  | p ∷ rest ↦ record { bus = g.bus; stage = if g.gained then Rounds else Stalled }
]

-- after a pass: another one where it gained
abbrev pub after_pass : Going → Play
after_pass g = record { bus = g.bus; stage = if g.gained then Passes else Finished }

-- one round, or one pass
abbrev pub moved : List (List Command) → Shortage → Play → Play
moved lists m at = elim at.stage [
  | Rounds ↦ after_round lists (round lists m at.bus)
  | Passes ↦ after_pass (pass at.bus)
  | Finished ↦ at
  | Stalled ↦ at
]

-- so many of them
abbrev pub moves : List (List Command) → Shortage → ℕ → Play → Play
moves lists m zero at = at
moves lists m (suc n) at = moves lists m n (moved lists m at)
