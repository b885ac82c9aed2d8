-- Where memory is wanting nowhere: a record that shows no want, and what the serial bus makes of a script then.
use Rattle.std.specs.Prelude.{◌≡◌, ℕ, false, List, Option}
use Rattle.b1_model.specs.declared.naming.Opening.{Opening}
use Rattle.b1_model.specs.declared.commands.Command.{Command}
use Rattle.b1_model.specs.declared.records.Record.{Record}
use Rattle.b1_schedule.specs.Shortage.{shortage_of, no_shortage}
use Rattle.b1_serial_bus.specs.Serial.{Stalled}
use Rattle.b1_serial_bus.specs.Report.{record_of, serial}

-- no call of the record was refused for memory, at no place
abbrev pub IsAmple : Record → Type 0
IsAmple r = (p k : ℕ) (place : Option ℕ) → shortage_of r p k place ≡ false

-- the serial bus's record of a script, where memory is wanting nowhere
abbrev pub ample_record : Opening → List (List Command) → Record
ample_record o lists = record_of (serial o lists no_shortage).bus

-- there the script stalls
abbrev pub StallsAmple : Opening → List (List Command) → Type 0
StallsAmple o lists = (serial o lists no_shortage).stage ≡ Stalled
