-- The schedule of a script: turns, rounds and drain, one step after another.
use Rattle.std.specs.Prelude.{zero, suc, ◌≡◌, ℕ, ◌+◌, Bool, true, false, ◌||◌, not, nat_lt, if◌then◌else◌, List, [], ◌∷◌, slice_get, length, filter, Option, Some, None, is_none}
use Rattle.std.specs.List.{range_with_len}
use Rattle.b1_model.specs.declared.naming.Opening.{Opening}
use Rattle.b1_model.specs.declared.commands.Command.{Command}
use Rattle.b1_model.specs.declared.commands.Command.TheVariants as cmd
use Rattle.b1_model.specs.declared.records.Record.{Record}
use Rattle.b1_model.specs.MachineParts.{DriverPart, State}
use Rattle.b1_model.specs.MachineStep.{stepped, opening_state, record_of_state}
use Rattle.b1_model.specs.MachineOrder.{next_command}
use Rattle.b1_model.specs.Script.{resolved}
use Rattle.b1_schedule.specs.Shortage.{Shortage, is_short, shortage_of, no_shortage}

-- ---- one step of a driver

-- which command begins with a driver's next step: none where one is open, else the next one, its references resolved
abbrev pub beginning : Option Command → DriverPart → Option Command
beginning next d = elim d.doing [ Some doing ↦ None | None ↦ elim next [ None ↦ None | Some c ↦ Some (resolved c d.calls) ] ]

-- a driver does its next step, and this command begins with it, if one does; nothing where it has no step to do
abbrev pub with_step : Opening → Shortage → ℕ → Option Command → DriverPart → State → State
with_step o m p command d s = elim (stepped o (is_short m d command) p command s) [ None ↦ s | Some t ↦ t ]

-- ---- how a step ended

-- what a step did to a driver's command: it is open, or it ended with a call, or its attempt waits, after it removed so many entries
pub data Ending : Type 0 where
  Open : Ending
  Called : Ending
  Waits : ℕ → Ending

-- how many entries the last attempt that found its front absent or staged removed
abbrev pub removed_by : DriverPart → ℕ
removed_by d = elim d.attempted [ None ↦ 0 | Some found ↦ found.1 ]

-- by the driver's part before and after
abbrev pub ending : DriverPart → DriverPart → Ending
ending d e = elim e.doing [ Some doing ↦ Open | None ↦ if nat_lt (length d.calls) (length e.calls) then Called else Waits (removed_by e) ]

-- ---- the stages of a schedule

-- the turns that are left; a round at a peer, and whether it gained; a pass of the drain at a peer, and whether it gained; the end; a stall
pub data Stage : Type 0 where
  Turning : List ℕ → Stage
  Round : ℕ → Bool → Stage
  Draining : ℕ → Bool → Stage
  Finished : Stage
  Stalled : Stage

-- a state, and how far its schedule is
pub record Playing : Type 0 where
  pub state : State
  pub stage : Stage

-- an attempt that removed something gains
abbrev pub gains : Bool → ℕ → Bool
gains gained removed = gained || nat_lt 0 removed

-- a round after a step of its peer: it stays there until the attempt waits
abbrev pub round_after : ℕ → Bool → Ending → Stage
round_after p gained Open = Round p gained
round_after p gained Called = Round p true
round_after p gained (Waits removed) = Round (p + 1) (gains gained removed)

-- a pass of the drain, likewise
abbrev pub drain_after : ℕ → Bool → Ending → Stage
drain_after p gained Open = Draining p gained
drain_after p gained Called = Draining p true
drain_after p gained (Waits removed) = Draining (p + 1) (gains gained removed)

-- a driver's part in a state
abbrev pub driver_after : State → ℕ → DriverPart → DriverPart
driver_after t p d = elim (slice_get t.drivers p) [ None ↦ d | Some e ↦ e ]

-- some driver's commands aren't at their end
abbrev pub is_left : List (List Command) → State → ℕ → Bool
is_left lists s p = elim (slice_get s.drivers p) [ None ↦ false | Some d ↦ not (is_none (next_command lists p d)) ]

-- the peers whose commands aren't at their end, rising
abbrev pub waiting_peers : List (List Command) → State → List ℕ
waiting_peers lists s = filter (is_left lists s) (range_with_len 0 (length s.drivers))

-- ---- one move of a schedule

-- what a turn of peer p leaves
abbrev pub turned_by : Opening → List (List Command) → Shortage → ℕ → State → Option DriverPart → State
turned_by o lists m p s None = s
turned_by o lists m p s (Some d) = with_step o m p (beginning (next_command lists p d) d) d s

-- a peer of a round has a step to do
abbrev pub has_step : List (List Command) → ℕ → DriverPart → Bool
has_step lists p d = elim d.doing [ Some doing ↦ true | None ↦ not (is_none (next_command lists p d)) ]

-- the end of a round: the drain where all commands have ended, else another round where it gained
abbrev pub round_end : List (List Command) → State → Bool → Stage
round_end lists s gained = elim (waiting_peers lists s) [ [] ↦ Draining 0 false | peer ∷ rest ↦ if gained then Round 0 false else Stalled ]

-- a round at a driver's part
abbrev pub round_at : Opening → List (List Command) → Shortage → ℕ → Bool → State → Option DriverPart → Playing
round_at o lists m p gained s None = record { state = s; stage = round_end lists s gained }
round_at o lists m p gained s (Some d) =
    if has_step lists p d
    then (let t = with_step o m p (beginning (next_command lists p d) d) d s in record { state = t; stage = round_after p gained (ending d (driver_after t p d)) })
    else record { state = s; stage = Round (p + 1) gained }

-- a pass of the drain at a driver's part: a driver that has disconnected is left out, every other tries RECV
abbrev pub drain_at : Opening → Shortage → ℕ → Bool → State → Option DriverPart → Playing
drain_at o m p gained s None = record { state = s; stage = if gained then Draining 0 false else Finished }
drain_at o m p gained s (Some d) =
    if d.shut then record { state = s; stage = Draining (p + 1) gained }
    else (let t = with_step o m p (beginning (Some cmd.Await) d) d s in record { state = t; stage = drain_after p gained (ending d (driver_after t p d)) })

-- one move: of the turns, of a round, of the drain
abbrev pub moved : Opening → List (List Command) → Shortage → Playing → Playing
moved o lists m at = moved_at o lists m at.state at.stage
  where
    moved_at : Opening → List (List Command) → Shortage → State → Stage → Playing
    moved_at o lists m s (Turning []) = record { state = s; stage = Round 0 false }
    moved_at o lists m s (Turning (p ∷ rest)) = record { state = turned_by o lists m p s (slice_get s.drivers p); stage = Turning rest }
    moved_at o lists m s (Round p gained) = round_at o lists m p gained s (slice_get s.drivers p)
    moved_at o lists m s (Draining p gained) = drain_at o m p gained s (slice_get s.drivers p)
    moved_at o lists m s Finished = record { state = s; stage = Finished }
    moved_at o lists m s Stalled = record { state = s; stage = Stalled }

-- so many moves
abbrev pub moves : Opening → List (List Command) → Shortage → ℕ → Playing → Playing
moves o lists m zero at = at
moves o lists m (suc n) at = moves o lists m n (moved o lists m at)

-- the beginning of a schedule
abbrev pub start_of : Opening → List ℕ → Playing
start_of o turns = record { state = opening_state o; stage = Turning turns }

-- the schedule of a script, with memory wanting at given places, comes to a state at a stage
pub record Comes (o : Opening) (lists : List (List Command)) (turns : List ℕ) (m : Shortage) (at : Playing) : Type 0 where
  pub count : ℕ
  pub is_at : moves o lists m count (start_of o turns) ≡ at

-- ---- what is played

-- a record is that of the state in which the script's schedule ends, with memory wanting where the record shows it
pub record IsPlay (o : Opening) (lists : List (List Command)) (turns : List ℕ) (r : Record) : Type 0 where
  pub state : State
  pub comes : Comes o lists turns (shortage_of r) (record { state = state; stage = Finished })
  pub record_is : r ≡ record_of_state state

-- the script's schedule stalls where no memory is wanting: these peers wait, and this is the record of the state
pub record IsStall (o : Opening) (lists : List (List Command)) (turns : List ℕ) (waiting : List ℕ) (r : Record) : Type 0 where
  pub state : State
  pub comes : Comes o lists turns no_shortage (record { state = state; stage = Stalled })
  pub waiting_is : waiting ≡ waiting_peers lists state
  pub record_is : r ≡ record_of_state state
