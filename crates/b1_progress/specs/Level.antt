-- What attempts to receive use up: queued entries, and counted references, each of which may still become a notice.
use Rattle.std.specs.Prelude.{◌≡◌, ◌+◌, ◌*◌, ◌-◌, ℕ, if◌then◌else◌, nat_lt, List, [], ◌∷◌, length, slice_get, Some, None, sum_by}
use Rattle.b1_model.specs.declared.answers.Answer.{Answer}
use Rattle.b1_model.specs.declared.commands.Command.{Command}
use Rattle.b1_model.specs.declared.commands.Command.TheVariants as cmd
use Rattle.b1_model.specs.declared.events.Doing.{Doing}
use Rattle.b1_model.specs.declared.events.Phase.{Phase}
use Rattle.b1_model.specs.declared.events.Phase.TheVariants.{Reaping}
use Rattle.b1_model.specs.MachineParts.{PeerPart, DriverPart, NodePart, State}
use Rattle.b1_model.specs.MachineTook.{is_waiting}
use Rattle.b1_model.specs.Script.{commands_of}
use Rattle.b1_schedule.specs.Schedule.{Open, Called, Waits, ending, removed_by}

-- ---- the level of a state

-- the references that a node's owner counts
abbrev pub node_level : NodePart → ℕ
node_level n = sum_by (λ k. k) n.counts

-- a peer's queued entries, and twice its counted references
abbrev pub peer_level : PeerPart → ℕ
peer_level x = length x.queue + 2 * sum_by node_level x.nodes

-- of all peers
abbrev pub level : State → ℕ
level s = sum_by peer_level s.peers

-- ---- what an attempt gains

-- 1 where something was removed
abbrev pub some_removed : ℕ → ℕ
some_removed removed = if nat_lt 0 removed then 1 else 0

-- an attempt with its answer gained: it took an entry, or it removed some
abbrev pub gain_shown : DriverPart → Answer → ℕ
gain_shown d got = if is_waiting cmd.Await got then some_removed (removed_by d) else 1

-- the same of a phase
abbrev pub gain_in : DriverPart → Phase → ℕ
gain_in d (Reaping got) = gain_shown d got
gain_in d phase = 0

-- what the open attempt of a driver gained so far
abbrev pub gain_so_far : DriverPart → ℕ
gain_so_far d = elim d.doing [ None ↦ 0 | Some doing ↦ gain_in d doing.phase ]

-- what a step of an attempt leaves as its gain; a refusal of a driver that has disconnected gains nothing
abbrev pub gain_after : DriverPart → DriverPart → ℕ
gain_after d e = elim (ending d e) [ Open ↦ gain_so_far e | Called ↦ if d.shut then 0 else 1 | Waits removed ↦ some_removed removed ]

-- an attempt is open, and has its answer
abbrev pub IsAttempt : DriverPart → Type 0
IsAttempt d = (got : Answer) × (d.doing ≡ Some (record { command = cmd.Await; phase = Reaping got }))

-- every open attempt has its answer
abbrev pub AttemptsAnswered : State → Type 0
AttemptsAnswered s = (p : ℕ) (d : DriverPart) (doing : Doing) → slice_get s.drivers p ≡ Some d → d.doing ≡ Some doing → doing.command ≡ cmd.Await → IsAttempt d

-- ---- what commands are left

-- 1 where a command is open
abbrev pub busy : DriverPart → ℕ
busy d = elim d.doing [ None ↦ 0 | Some doing ↦ 1 ]

-- how many commands of its list driver p hasn't ended, and whether one is open
abbrev pub left_at : List (List Command) → ℕ → DriverPart → ℕ
left_at lists p d = (length (commands_of lists p) - length d.calls) + busy d

-- of all drivers, the first of which is driver `here`
abbrev pub left_from : List (List Command) → ℕ → List DriverPart → ℕ
left_from lists here [] = 0
left_from lists here (d ∷ rest) = left_at lists here d + left_from lists (here + 1) rest

-- of a state
abbrev pub commands_left : List (List Command) → State → ℕ
commands_left lists s = left_from lists 0 s.drivers

-- the level, and the open commands
abbrev pub attempts_left : State → ℕ
attempts_left s = level s + sum_by busy s.drivers
