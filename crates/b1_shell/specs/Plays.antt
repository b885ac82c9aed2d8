-- What `play` writes of a script.
use Rattle.std.specs.Prelude.{◌≡◌, ℕ, List, [], ◌++◌, length}
use Rattle.b1_play_commands.specs.Following.{AllInPlace}
use Rattle.b1_model.specs.declared.records.Record.{Record}
use Rattle.b1_model.specs.Legal.{Legal, Whole}
use Rattle.b1_model.specs.MachineOrder.{DrainedOf, Stuck}
use Rattle.b1_model.specs.Names.{calls_of}
use Rattle.b1_model.specs.Script as follows
use Rattle.b1_report.specs.Report.{report_text}
use Rattle.b1_report.specs.Parsing as reports
use Rattle.b1_schedule.specs.Schedule.{IsPlay, IsStall}
use Rattle.b1_script.specs.declared.script.Script.{Script}
use Rattle.b1_schedule.specs.Shortage.{shortage_of}
use Rattle.b1_serial_bus.specs.Report.{IsSerial, IsSerialStall}
use Rattle.b1_serial_law.specs.Ample.{ample_record, IsAmple, StallsAmple}
use Rattle.b1_shell.specs.Texts.{stalled_line}

-- the text is the report of what the script's schedule ends with, in a drained state, and is read again as that; the record
-- is legal and whole, and each peer's calls are its commands
pub record IsReport (s : Script) (text : List ℕ) : Type 0 where
  pub outcome : Record
  pub played : IsPlay s.opening s.commands s.turns outcome
  pub drained : DrainedOf s.commands played.state
  pub legal : Legal s.opening outcome
  pub whole : Whole s.opening outcome
  pub script : follows.Script s.opening s.commands outcome
  -- without turns it is the serial bus's record, with memory wanting where it shows it
  pub serial : s.turns ≡ [] → IsSerial s.opening s.commands (shortage_of outcome) outcome
  -- and where it shows none, the text is a function of the script alone
  pub alone : s.turns ≡ [] → IsAmple outcome
      → text ≡ report_text s.cookies (ample_record s.opening s.commands)
  -- a script that stalls on the serial bus with ample memory ends only by want of memory
  pub unstalled : s.turns ≡ [] → StallsAmple s.opening s.commands → IsAmple outcome → ⊥
  pub text_is : text ≡ report_text s.cookies outcome
  pub again : reports.IsReport s.cookies (length outcome.peers) text outcome

-- the text tells that the script's schedule stalls where memory is wanting nowhere: which peers wait in the stuck state,
-- and the report of its legal record, in which each peer's calls are the first of its commands; without turns the serial bus
-- stalls so
pub record IsStallReport (s : Script) (text : List ℕ) : Type 0 where
  pub waiting : List ℕ
  pub outcome : Record
  pub stalls : IsStall s.opening s.commands s.turns waiting outcome
  pub stuck : Stuck s.commands stalls.state
  pub legal : Legal s.opening outcome
  pub script : (p : ℕ) → AllInPlace (follows.commands_of s.commands p) (calls_of outcome p)
  pub serial : s.turns ≡ [] → IsSerialStall s.opening s.commands waiting outcome
  pub text_is : text ≡ stalled_line waiting ++ report_text s.cookies outcome
