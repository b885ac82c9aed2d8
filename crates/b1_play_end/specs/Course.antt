-- What holds while a schedule goes on: of drivers and their dead lists, and of the peers that a round or a pass has come by.
use Rattle.std.specs.Prelude.{length, ◌≡◌, ◌≢◌, ◌<◌, ◌⊎◌, ⊤, ℕ, Bool, true, false, List, [], ◌∷◌, Option, Some, None}
use Rattle.b1_model.specs.declared.naming.Key.{Key}
use Rattle.b1_model.specs.declared.commands.Command.{Command}
use Rattle.b1_model.specs.declared.commands.Command.TheVariants as cmd
use Rattle.b1_model.specs.declared.entries.Entry.{Entry}
use Rattle.b1_model.specs.declared.entries.Entry.TheVariants.{ForeignNotice}
use Rattle.b1_step.specs.Rights.{Has}
use Rattle.b1_model.specs.declared.events.Doing.{Doing}
use Rattle.b1_model.specs.declared.events.Phase.{Phase}
use Rattle.b1_model.specs.declared.events.Phase.TheVariants.{Reaping}
use Rattle.b1_model.specs.MachineParts.{PeerPart, DriverPart, State, is_staged}
use Rattle.b1_model.specs.MachineReceive.{has_dead}
use Rattle.b1_model.specs.MachineTook.{is_waiting, is_await}
use Rattle.b1_model.specs.MachineOrder.{next_command}
use Rattle.b1_inv.specs.Words.{IsPeer, IsDriver}
use Rattle.b1_schedule.specs.Schedule.{Stage, Turning, Round, Draining, Finished, Stalled, removed_by}

-- a dead list has items only while its driver gives them up, and the driver knows it; an attempt that still gives up has removed something
abbrev pub PhaseTold : DriverPart → PeerPart → Command → Phase → Type 0
PhaseTold d x command (Reaping got) = (d.told ≡ has_dead x) × (is_waiting command got ≡ true → 0 < removed_by d)
PhaseTold d x command phase = x.dead ≡ []

-- the same of a driver and its own peer
abbrev pub OpenTold : DriverPart → PeerPart → Option Doing → Type 0
OpenTold d x None = x.dead ≡ []
OpenTold d x (Some doing) = PhaseTold d x doing.command doing.phase

-- the same of all drivers
abbrev pub AllTold : State → Type 0
AllTold s = (p : ℕ) (d : DriverPart) (x : PeerPart) → IsDriver s p d → IsPeer s p x → OpenTold d x d.doing

-- the first entry of a queue is staged
abbrev pub starts_staged : List (Key × Entry) → Bool
starts_staged [] = false
starts_staged (f ∷ rest) = is_staged f

-- nothing can be taken of a queue: it is empty, or its front is staged
abbrev pub IsBlocked : PeerPart → Type 0
IsBlocked x = (x.queue ≡ []) ⊎ (starts_staged x.queue ≡ true)

-- no command of driver p is open
abbrev pub IsIdle : State → ℕ → Type 0
IsIdle s p = (d : DriverPart) → IsDriver s p d → d.doing ≡ None

-- a peer that a round came by without a gain: its commands are at their end, or it waits at an AWAIT and can take nothing
abbrev pub IsWaiting : List (List Command) → ℕ → DriverPart → PeerPart → Type 0
IsWaiting lists p d x = (next_command lists p d ≡ None) ⊎ ((next_command lists p d ≡ Some cmd.Await) × (d.shut ≡ false) × IsBlocked x)

-- a peer that a pass of the drain came by without a gain: it has disconnected, or can take nothing
abbrev pub IsEmptied : DriverPart → PeerPart → Type 0
IsEmptied d x = (d.shut ≡ true) ⊎ IsBlocked x

-- of the peers before one
abbrev pub AllBefore : State → ℕ → (ℕ → DriverPart → PeerPart → Type 0) → Type 0
AllBefore s p P = (r : ℕ) (d : DriverPart) (x : PeerPart) → r < p → IsDriver s r d → IsPeer s r x → P r d x

-- a driver of the drain rests, or its open command is an attempt of a driver that hasn't disconnected
abbrev pub TryingBy : Bool → Option Doing → Type 0
TryingBy shut None = ⊤
TryingBy shut (Some doing) = (shut ≡ false) × (is_await doing.command ≡ true)

-- the same of a driver's part
abbrev pub IsTrying : DriverPart → Type 0
IsTrying d = TryingBy d.shut d.doing

-- all commands have ended
abbrev pub AllEnded : List (List Command) → State → Type 0
AllEnded lists s = (p : ℕ) (d : DriverPart) → IsDriver s p d → next_command lists p d ≡ None

-- what holds at a stage
abbrev pub HoldsAt : List (List Command) → State → Stage → Type 0
HoldsAt lists s (Turning turns) = ⊤
HoldsAt lists s (Round p gained) = ((r : ℕ) → r < p → IsIdle s r) × (gained ≡ false → IsIdle s p → AllBefore s p (IsWaiting lists))
HoldsAt lists s (Draining p gained) = AllEnded lists s × ((r : ℕ) → r ≢ p → IsIdle s r) × ((d : DriverPart) → IsDriver s p d → IsTrying d) × (gained ≡ false → IsIdle s p → AllBefore s p (λ r. IsEmptied))
HoldsAt lists s Finished = AllEnded lists s × ((r : ℕ) → IsIdle s r) × ((r : ℕ) (d : DriverPart) (x : PeerPart) → IsDriver s r d → IsPeer s r x → IsEmptied d x)
HoldsAt lists s Stalled = ((r : ℕ) → IsIdle s r) × ((r : ℕ) (d : DriverPart) (x : PeerPart) → IsDriver s r d → IsPeer s r x → IsWaiting lists r d x) × ((p : ℕ) × (d : DriverPart) × IsDriver s p d × (next_command lists p d ≢ None))

-- the node of a foreign notice has an owner among so many peers
abbrev pub HasOwner : ℕ → Entry → Type 0
HasOwner peers (ForeignNotice node index) = node.owner < peers
HasOwner peers e = ⊤

-- the same of every queue
abbrev pub OwnersThere : State → Type 0
OwnersThere s = (q : ℕ) (x : PeerPart) (f : Key × Entry) → IsPeer s q x → Has x.queue f → HasOwner (length s.drivers) f.1
