-- What the play of a script comes to.
use Rattle.std.specs.Prelude.{◌≡◌, ℕ, List, [], Option, false}
use Rattle.b1_model.specs.declared.records.Record.{Record}
use Rattle.b1_model.specs.Legal.{Legal, Whole}
use Rattle.b1_model.specs.Script as follows
use Rattle.b1_schedule.specs.Shortage.{shortage_of}
use Rattle.b1_script.specs.declared.script.Script.{Script}
use Rattle.b1_schedule.specs.Schedule.{Turning, Round, IsPlay, IsStall}
use Rattle.b1_schedule.specs.Played.{PlayedTo}
use Rattle.b1_serial_bus.specs.Report.{IsSerial, IsSerialStall}
use Rattle.b1_serial_law.specs.Ample.{ample_record, IsAmple, StallsAmple}
use Rattle.b1_core.specs.Turns.{Bus}
use Rattle.b1_play.specs.Runs.{IsGood, Follows, Plays}
use Rattle.b1_play.specs.declared.playing.Played.{Played}
use Rattle.b1_play.specs.declared.playing.Played.TheVariants.{Done, Stalled}

-- turns lead from one bus, with some turns left, to another
pub record TurnsTo (b : Bus) (from : List ℕ) (c : Bus) (to : List ℕ) : Type 0 where
  pub follows : Follows b c
  pub played : Plays b (Turning from) c (Turning to)

-- the turns of a script have been played
pub record Begun (s : Script) (b : Bus) : Type 0 where
  pub good : IsGood b
  pub opening : b.opening ≡ s.opening
  pub commands : b.commands ≡ s.commands
  pub played : PlayedTo s.opening s.commands s.turns b.state (Round 0 false)

-- the record of what is played, or where the play without want of memory stalls
abbrev pub PlaysScript : Script → Played → Type 0
PlaysScript s (Done r) = IsPlay s.opening s.commands s.turns r
PlaysScript s (Stalled waiting reached) = IsStall s.opening s.commands s.turns waiting reached

-- the record of a play that ended: sends and destructions have one order, each peer received a prefix of what it accepted, as it was sent, nothing is left to receive, and each peer's calls are its commands
pub record IsDone (s : Script) (r : Record) : Type 0 where
  pub legal : Legal s.opening r
  pub whole : Whole s.opening r
  pub script : follows.Script s.opening s.commands r
  -- without turns it is the serial bus's, with memory wanting where it shows it
  pub serial : s.turns ≡ [] → IsSerial s.opening s.commands (shortage_of r) r
  -- and where it shows no want of memory, a function of the script alone
  pub alone : s.turns ≡ [] → IsAmple r → r ≡ ample_record s.opening s.commands
  -- a script that stalls with ample memory comes to such an end only by want of memory
  pub unstalled : s.turns ≡ [] → StallsAmple s.opening s.commands → IsAmple r → ⊥

-- the record of a play that stalls: it is legal, and without turns the serial bus stalls so with ample memory
pub record IsStalled (s : Script) (waiting : List ℕ) (r : Record) : Type 0 where
  pub legal : Legal s.opening r
  pub serial : s.turns ≡ [] → IsSerialStall s.opening s.commands waiting r

-- what is promised of a play, by its end
abbrev pub PlaysAsPromised : Script → Played → Type 0
PlaysAsPromised s (Done r) = IsDone s r
PlaysAsPromised s (Stalled waiting reached) = IsStalled s waiting reached

-- a stall with its record, which shows no want of memory
abbrev pub StallShown : Record → List ℕ → Played → Type 0
StallShown r waiting played = (played ≡ Stalled waiting r) × ((p k : ℕ) (place : Option ℕ) → shortage_of r p k place ≡ false)
