-- What a run of a generated script on threads says.
use Rattle.std.specs.Prelude.{◌≡◌, ◌<◌, ℕ, Some, List, length, slice_get}
use Rattle.b1_model.specs.declared.records.Call.{Call}
use Rattle.b1_model.specs.declared.records.Record.{Record}
use Rattle.b1_model.specs.Legal.{Legal, Whole}
use Rattle.b1_model.specs.Names.{calls_of}
use Rattle.b1_model.specs.Script as follows
use Rattle.b1_model.specs.MachineParts.{State}
use Rattle.b1_model.specs.MachineStep.{record_of_state}
use Rattle.b1_gen.specs.declared.counting.Counts.{Counts}
use Rattle.b1_gen.specs.Counted.{HasCounts, summary_line}
use Rattle.b1_gen.specs.Generated.{generated, peer_count, commands_of}
use Rattle.b1_gen_runs.specs.Counts.{sends_due, messages_due, bytes_due}
use Rattle.b1_gen_runs.specs.Runs.{IsWholeRun, IsSentToAll}

-- what is counted in each whole run of a number's script
abbrev pub counts_due : ℕ → Counts
counts_due number = record { sends = sends_due number; entries = messages_due number; receipts = messages_due number; bytes = bytes_due number }

-- the record of a whole run of a number's script: it is legal, whole and the script's, each SEND was accepted at all places, and no peer has a call but those of its commands
pub record IsSoaked (number : ℕ) (r : Record) : Type 0 where
  pub state : State
  pub run : IsWholeRun number state
  pub record_is : r ≡ record_of_state state
  pub legal : Legal (generated number).opening r
  pub whole : Whole (generated number).opening r
  pub script : follows.Script (generated number).opening (generated number).commands r
  pub accepted : (p k : ℕ) (c : Call) → slice_get (calls_of r p) k ≡ Some c → IsSentToAll c.command c.answer
  pub no_drain : (p : ℕ) → p < peer_count number → length (calls_of r p) ≡ length (commands_of number p)

-- the line tells the counts of such a record, which are those that the number alone gives
pub record IsSoak (number : ℕ) (line : List ℕ) : Type 0 where
  pub run : Record
  pub soaked : IsSoaked number run
  pub counts : HasCounts run (Some (counts_due number))
  pub line_is : line ≡ summary_line number (peer_count number) (counts_due number)
