-- What the serial bus makes of a script: its record, at the end or at a stall.
use Rattle.std.specs.Prelude.{◌≡◌, ℕ, ◌+◌, List, map, length, sum_by}
use Rattle.b1_model.specs.declared.commands.Command.{Command}
use Rattle.b1_model.specs.declared.naming.Opening.{Opening}
use Rattle.b1_model.specs.declared.records.Record.{Record}
use Rattle.b1_schedule.specs.Shortage.{Shortage, no_shortage}
use Rattle.b1_serial_bus.specs.Parts.{Bus}
use Rattle.b1_serial_bus.specs.Opening.{opened}
use Rattle.b1_serial_bus.specs.Serial.{Play, Rounds, Finished, Stalled, moves, waiting_peers}

-- the record of a bus
abbrev pub record_of : Bus → Record
record_of bus = record {
  peers = map (λ x. record { epoch = x.epoch; clock = x.clock; calls = x.calls }) bus;
}

-- how many commands a script has
abbrev pub command_count : List (List Command) → ℕ
command_count lists = sum_by (λ commands. length commands) lists

-- the bus before the first round
abbrev pub started : Opening → Play
started o = record { bus = opened o; stage = Rounds }

-- the script from its beginning to its end or its stall, with memory wanting at the places m. So
-- many moves are enough: a round that gains ends a command, or else it only removes what is for
-- nobody, and then the next one stalls; and the second pass of a drain finds nothing
abbrev pub serial : Opening → List (List Command) → Shortage → Play
serial o lists m = moves lists m (command_count lists + 3) (started o)

-- the script ends, and this is its record, where memory is wanting at the places m
pub record IsSerial
    (o : Opening) (lists : List (List Command)) (m : Shortage) (r : Record) : Type 0 where
  pub finished : (serial o lists m).stage ≡ Finished
  pub record_is : r ≡ record_of (serial o lists m).bus

-- the script stalls where memory is wanting nowhere: these peers wait, and this is its record
pub record IsSerialStall
    (o : Opening) (lists : List (List Command)) (waiting : List ℕ) (r : Record) : Type 0 where
  pub stalled : (serial o lists no_shortage).stage ≡ Stalled
  pub waiting_is : waiting ≡ waiting_peers lists (serial o lists no_shortage).bus
  pub record_is : r ≡ record_of (serial o lists no_shortage).bus
