-- What a command of a round, or an attempt of the drain, leaves of a bus while it runs, and at its end.
use Rattle.std.specs.Prelude.{◌≡◌, ◌≢◌, ◌≤◌, ◌<◌, ◌+◌, ⊤, ℕ, Bool, true, false, List, get_or, set, slice_get, length, Some, None}
use Rattle.b1_model.specs.Opening.{IsOpening}
use Rattle.b1_model.specs.MachineParts.{DriverPart}
use Rattle.b1_model.specs.MachineTook.{is_await}
use Rattle.b1_model.specs.MachineStep.{Reached, no_peer}
use Rattle.b1_schedule.specs.Schedule.{Stage, Round, Draining, Ending, Open, Called, Waits, has_step, round_after, drain_after}
use Rattle.b1_schedule.specs.Played.{PlayedTo}
use Rattle.b1_progress.specs.Work.{work}
use Rattle.b1_progress.specs.Level.{level, some_removed, gain_so_far, busy, commands_left, attempts_left, AttemptsAnswered}
use Rattle.b1_core.specs.Turns.{Bus, driver_at, has_ended}
use Rattle.b1_core.specs.declared.turn.Turn.{Turn}
use Rattle.b1_core.specs.declared.turn.Turn.TheVariants as turn

-- a bus that steps have led to from an opening with which it can begin
pub record IsGood (b : Bus) : Type 0 where
  pub opening : IsOpening b.opening
  pub reached : Reached b.opening b.state
  pub answered : AttemptsAnswered b.state

-- a bus goes on to another one
pub record Follows (b c : Bus) : Type 0 where
  pub good : IsGood c
  pub opening : c.opening ≡ b.opening
  pub commands : c.commands ≡ b.commands

-- a schedule that came to a bus at one stage comes to another bus at another stage
abbrev pub Plays : Bus → Stage → Bus → Stage → Type 0
Plays b from c to = (turns : List ℕ) → PlayedTo b.opening b.commands turns b.state from → PlayedTo c.opening c.commands turns c.state to

-- the part of driver p is closed
abbrev pub IsClosed : Bus → ℕ → Type 0
IsClosed b p = (driver_at b.state p).doing ≡ None

-- the open command of a driver, if there is one, is an attempt to receive
abbrev pub is_attempt : DriverPart → Bool
is_attempt d = elim d.doing [ None ↦ true | Some doing ↦ is_await doing.command ]

-- from bus b to bus c only driver p stepped, and its list has the same calls; an attempt has left less of the level, by what it gained
pub record RunsOn (b : Bus) (p : ℕ) (c : Bus) : Type 0 where
  pub follows : Follows b c
  pub drivers : c.state.drivers ≡ set b.state.drivers p (driver_at c.state p)
  pub calls : (driver_at c.state p).calls ≡ (driver_at b.state p).calls
  pub shut : is_attempt (driver_at c.state p) ≡ true → (driver_at c.state p).shut ≡ (driver_at b.state p).shut
  pub level : is_attempt (driver_at c.state p) ≡ true → level c.state + gain_so_far (driver_at c.state p) ≤ level b.state + busy (driver_at b.state p)

-- from bus b to bus c only driver p stepped, and its command ended
pub record RanTo (b : Bus) (p : ℕ) (c : Bus) : Type 0 where
  pub follows : Follows b c
  pub closed : IsClosed c p
  pub others : (r : ℕ) → r ≢ p → slice_get c.state.drivers r ≡ slice_get b.state.drivers r
  pub as_many : length c.state.drivers ≡ length b.state.drivers

-- how many commands are left then: one fewer where it ended with a call
abbrev pub LeavesCommands : Bus → Ending → Bus → Type 0
LeavesCommands b Open c = ⊤
LeavesCommands b Called c = commands_left c.commands c.state + 1 ≤ commands_left b.commands b.state
LeavesCommands b (Waits removed) c = commands_left c.commands c.state ≤ commands_left b.commands b.state

-- how many attempts are left then: fewer where one waits that had removed something
abbrev pub LeavesAttempts : Bus → Ending → Bus → Type 0
LeavesAttempts b Open c = ⊤
LeavesAttempts b Called c = ⊤
LeavesAttempts b (Waits removed) c = attempts_left c.state + some_removed removed ≤ attempts_left b.state

-- a whole command of a round
pub record RanRound (b : Bus) (p : ℕ) (how : Ending) (c : Bus) : Type 0 where
  pub ran : RanTo b p c
  pub played : (gained : Bool) → Plays b (Round p gained) c (round_after p gained how)
  pub commands : LeavesCommands b how c
  pub attempts : LeavesAttempts b how c

-- a driver stands within a command of a round
pub record InRound (b : Bus) (p : ℕ) (c : Bus) : Type 0 where
  pub runs : RunsOn b p c
  pub has : has_step b.commands p (driver_at b.state p) ≡ true
  pub played : (gained : Bool) → Plays b (Round p gained) c (Round p gained)
  pub is_open : (driver_at c.state p).doing ≢ None

-- where the turns of a command of a round stand, by the last of them
abbrev pub RoundTurns : Bus → ℕ → Turn → Bus → Type 0
RoundTurns b p turn.Idle c = (c ≡ b) × (has_step b.commands p (driver_at b.state p) ≡ false)
RoundTurns b p turn.Moved c = InRound b p c
RoundTurns b p turn.Ended c = RanRound b p Called c
RoundTurns b p (turn.Waiting front removed) c = RanRound b p (Waits removed) c

-- the same at the end of the command
abbrev pub RanCommand : Bus → ℕ → Turn → Bus → Type 0
RanCommand b p turn.Moved c = ⊥
RanCommand b p turn c = RoundTurns b p turn c

-- how much work a turn leaves of an open command
abbrev pub work_after : Turn → Bus → ℕ → ℕ
work_after turn.Moved b p = 1 + work (driver_at b.state p) (get_or b.state.peers p no_peer)
work_after turn b p = 0

-- ---- the drain

-- the commands of all peers have ended
abbrev pub AllEnded : Bus → Type 0
AllEnded b = (r : ℕ) → r < length b.state.drivers → has_ended b r ≡ true

-- what an ended attempt of the drain gained
abbrev pub drain_gain : Ending → ℕ
drain_gain Open = 0
drain_gain Called = 1
drain_gain (Waits removed) = some_removed removed

-- a whole attempt of the drain, of a driver whose command was closed
pub record RanDrain (b : Bus) (p : ℕ) (how : Ending) (c : Bus) : Type 0 where
  pub ran : RanTo b p c
  pub shut : (driver_at c.state p).shut ≡ (driver_at b.state p).shut
  pub longer : length (driver_at b.state p).calls ≤ length (driver_at c.state p).calls
  pub played : (gained : Bool) → Plays b (Draining p gained) c (drain_after p gained how)
  pub lower : level c.state + drain_gain how ≤ level b.state

-- a driver stands within an attempt of the drain
pub record InDrain (b : Bus) (p : ℕ) (c : Bus) : Type 0 where
  pub runs : RunsOn b p c
  pub attempt : is_attempt (driver_at c.state p) ≡ true
  pub played : (gained : Bool) → Plays b (Draining p gained) c (Draining p gained)
  pub is_open : (driver_at c.state p).doing ≢ None

-- where the turns of an attempt of the drain stand, by the last of them
abbrev pub DrainTurns : Bus → ℕ → Turn → Bus → Type 0
DrainTurns b p turn.Idle c = ⊥
DrainTurns b p turn.Moved c = InDrain b p c
DrainTurns b p turn.Ended c = RanDrain b p Called c
DrainTurns b p (turn.Waiting front removed) c = RanDrain b p (Waits removed) c

-- the same at the end of the attempt
abbrev pub RanAttempt : Bus → ℕ → Turn → Bus → Type 0
RanAttempt b p turn.Moved c = ⊥
RanAttempt b p turn c = DrainTurns b p turn c
