-- Where the peers of a closed bus stand.
use Rattle.std.specs.Prelude.{◌≡◌, ◌<◌, ⊤, ℕ, false, List, [], slice_get, Option, Some, None}
use Rattle.b1_model.specs.declared.commands.Command.{Command}
use Rattle.b1_model.specs.declared.commands.Command.TheVariants as cmd
use Rattle.b1_model.specs.MachineParts.{PeerPart, DriverPart, State}
use Rattle.b1_model.specs.MachineOrder.{next_command}
use Rattle.b1_run.specs.declared.closing.Standing.{Standing}
use Rattle.b1_run.specs.declared.closing.Standing.TheVariants.{Ended, Waiting, Ready}

-- the command that peer p stands at, or none
abbrev pub NextIs : List (List Command) → State → ℕ → Option Command → Type 0
NextIs lists s p next = (d : DriverPart) → slice_get s.drivers p ≡ Some d → next ≡ next_command lists p d

-- the commands of a driver are at their end, or it waits: it stands at an AWAIT, hasn't disconnected, and its queue is empty
abbrev pub StandsAs : List (List Command) → ℕ → DriverPart → PeerPart → Standing → Type 0
StandsAs lists p d x Ended = next_command lists p d ≡ None
StandsAs lists p d x Waiting = (next_command lists p d ≡ Some cmd.Await) × (d.shut ≡ false) × (x.queue ≡ [])
StandsAs lists p d x Ready = ⊤

-- the same of peer p in a state
abbrev pub StandsAt : List (List Command) → State → ℕ → Standing → Type 0
StandsAt lists s p standing = (d : DriverPart) (x : PeerPart) → slice_get s.drivers p ≡ Some d → slice_get s.peers p ≡ Some x → StandsAs lists p d x standing

-- a peer's queue is empty, and it hasn't disconnected
abbrev pub EmptyAt : State → ℕ → Type 0
EmptyAt s p = (d : DriverPart) (x : PeerPart) → slice_get s.drivers p ≡ Some d → slice_get s.peers p ≡ Some x → (d.shut ≡ false) × (x.queue ≡ [])

-- a peer's queue is empty, if it hasn't disconnected
abbrev pub QuietAt : State → ℕ → Type 0
QuietAt s p = (d : DriverPart) (x : PeerPart) → slice_get s.drivers p ≡ Some d → slice_get s.peers p ≡ Some x → d.shut ≡ false → x.queue ≡ []

-- of every peer
abbrev pub IsEmptied : State → Type 0
IsEmptied s = (p : ℕ) → QuietAt s p

-- of the peers below n
abbrev pub EmptyBelow : State → ℕ → Type 0
EmptyBelow s n = (p : ℕ) → p < n → QuietAt s p

-- the peers below n are at the end of their commands or wait
abbrev pub WaitBelow : List (List Command) → State → ℕ → Type 0
WaitBelow lists s n = (p : ℕ) (d : DriverPart) (x : PeerPart) (c : Command) → p < n → slice_get s.drivers p ≡ Some d → slice_get s.peers p ≡ Some x → next_command lists p d ≡ Some c → (d.shut ≡ false) × (c ≡ cmd.Await) × (x.queue ≡ [])
