-- What the next event of a driver needs of the two parts that it works on, and what it does to them.
use Rattle.std.specs.Prelude.{◌≡◌, ◌≢◌, ℕ, ◌+◌, ◌-◌, ◌≤◌, ◌==◌, ◌<◌, ◌^◌, List, AllPairs, Bool, length, Option, Some, None, ⊤}
use Rattle.b1_model.specs.declared.limits.TheConstants.{MOST_HANDLES, MOST_PAYLOAD}
use Rattle.b1_model.specs.declared.naming.Opening.{Opening}
use Rattle.b1_model.specs.declared.commands.Command.{Command}
use Rattle.b1_model.specs.declared.commands.Command.TheVariants as cmd
use Rattle.b1_model.specs.declared.events.Action.{Action}
use Rattle.b1_model.specs.declared.events.Action.TheVariants as act
use Rattle.b1_model.specs.declared.events.Doing.{Doing}
use Rattle.b1_model.specs.declared.events.Outcome.{Outcome}
use Rattle.b1_model.specs.declared.events.Phase.TheVariants.{Starting}
use Rattle.b1_model.specs.MachineParts.{PeerPart, DriverPart, node_at}
use Rattle.b1_model.specs.MachineTables.{count_of}
use Rattle.b1_model.specs.MachineSend.{find_stage}
use Rattle.b1_model.specs.MachineDriver.{node_of_place, send_of}
use Rattle.b1_model.specs.MachineEvents.{begun_of, slots_at, collected_of, doomed_of, begin_serials, happens}
use Rattle.b1_model.specs.MachineStep.{LocalStep}
use Rattle.b1_step.specs.Ordered.{NewKey}
use Rattle.b1_inv_peer.specs.Needs.{IsClock, SlotsFit, CommitsAnew, StagesAnew, VisitsAnew, ReleasesAnew, HeldFew, AreDying}
use Rattle.b1_peer.specs.Notices.{NoticesFit}
use Rattle.b1_peer.specs.Seen.{PeerSeen}
use Rattle.std.specs.List.{list_any}
use Rattle.b1_driver.specs.Parts.{Driver}

-- ---- what it needs

-- the open command, or one of no effect where none is open
abbrev pub open_in : DriverPart → Doing
open_in d = elim d.doing [ None ↦ record { command = cmd.Disconnect; phase = Starting } | Some doing ↦ doing ]

-- the numbers of a NODES_DESTROY
abbrev pub numbers_in : Command → Option (List ℕ)
numbers_in command = elim command [ cmd.Destroy numbers ↦ Some numbers | other ↦ None ]

-- a command is a SEND
abbrev pub IsSend : Command → Type 0
IsSend command = command ≡ cmd.Send (send_of command)

-- a stage: the destination is a place of the open SEND, its node was made, the message isn't too long and not staged yet, and its key is new
pub record StageAllowed (d : DriverPart) (doing : Doing) (x : PeerPart) (place : ℕ) : Type 0 where
  pub clock : IsClock x.clock
  pub made : (node_of_place (begun_of doing.phase).to place).serial < length x.nodes
  pub send : IsSend doing.command
  pub within : place < length (begun_of doing.phase).to
  pub short : length (send_of doing.command).payload ≤ MOST_PAYLOAD
  pub few : length (begun_of doing.phase).with ≤ MOST_HANDLES
  pub unstaged : find_stage x d.me place ≡ None
  pub new_key : NewKey (record { stamp = x.clock + 1; origin = d.me; index = place }) x.queue

-- an attach: the node was made, the destination is a peer, and its count isn't too large
pub record AttachAllowed (x : PeerPart) (serial dest : ℕ) : Type 0 where
  pub made : serial < length x.nodes
  pub peer : dest < x.peers
  pub fits : count_of (node_at x serial) dest < 2 ^ 63

-- two clocks
pub record ClocksAllowed (x : PeerPart) (clock : ℕ) : Type 0 where
  pub own : IsClock x.clock
  pub given : IsClock clock

-- a commit: the slots are those of the staged message, and its key is new
pub record CommitAllowed (d : DriverPart) (doing : Doing) (x : PeerPart) (place stamp : ℕ) : Type 0 where
  pub stamp_is : IsClock stamp
  pub slots : SlotsFit x (find_stage x d.me place) (slots_at doing.phase place)
  pub new_key : CommitsAnew x (find_stage x d.me place) (record { stamp = stamp; origin = d.me; index = place })

-- a commit of notices: their keys are new
pub record NoticesAllowed (d : DriverPart) (x : PeerPart) (stamp : ℕ) : Type 0 where
  pub stamp_is : IsClock stamp
  pub notices : NoticesFit x d.me stamp

-- a recv: numbers are left, and nothing is held too often
pub record RecvAllowed (x : PeerPart) : Type 0 where
  pub few : x.given < 2 ^ 60 - 64
  pub held : HeldFew x

-- a drop: at least one reference, and no more than the owner counts
pub record DropAllowed (x : PeerPart) (serial holder k clock : ℕ) : Type 0 where
  pub clock_is : IsClock x.clock
  pub drop : IsClock clock
  pub made : serial < length x.nodes
  pub some : 1 ≤ k
  pub enough : k ≤ count_of (node_at x serial) holder
  pub new_key : ReleasesAnew x serial holder k clock

-- a destruction's begin: its notices' keys are new
pub record BeginDestroyAllowed (doing : Doing) (x : PeerPart) : Type 0 where
  pub clock : IsClock x.clock
  pub new_keys : StagesAnew x x.me (length (begin_serials doing.command x))

-- a visit is at another peer, and its notices' keys are new
pub record VisitAllowed (d : DriverPart) (doing : Doing) (x : PeerPart) : Type 0 where
  pub clock : IsClock x.clock
  pub other : d.me ≢ x.me
  pub distinct : AllPairs ◌≢◌ (doomed_of doing.phase)
  pub new_keys : VisitsAnew x d.me (doomed_of doing.phase)

-- a destruction's stamp: its nodes are dying, each once
pub record StampDestroyAllowed (doing : Doing) (x : PeerPart) : Type 0 where
  pub clock : IsClock x.clock
  pub collected : IsClock (collected_of doing.phase)
  pub distinct : AllPairs ◌≢◌ (doomed_of doing.phase)
  pub dying : AreDying x (doomed_of doing.phase)

-- by the event; none where no command is open
abbrev pub AllowedOf : DriverPart → Doing → PeerPart → Action → Type 0
AllowedOf d doing x act.Rest = ⊥
AllowedOf d doing x act.Begin = length x.nodes < 2 ^ 32 - 64
AllowedOf d doing x (act.Stage peer place) = StageAllowed d doing x place
AllowedOf d doing x (act.Unstage peer place) = ⊤
AllowedOf d doing x (act.Attach peer serial dest) = AttachAllowed x serial dest
AllowedOf d doing x act.Stamp = ClocksAllowed x (collected_of doing.phase)
AllowedOf d doing x (act.Sync peer stamp) = ClocksAllowed x stamp
AllowedOf d doing x (act.Commit peer place stamp) = CommitAllowed d doing x place stamp
AllowedOf d doing x (act.CommitNotices peer stamp) = NoticesAllowed d x stamp
AllowedOf d doing x act.Recv = RecvAllowed x
AllowedOf d doing x act.Reap = ⊤
AllowedOf d doing x act.Release = ⊤
AllowedOf d doing x (act.DropRefs peer serial holder k clock) = DropAllowed x serial holder k clock
AllowedOf d doing x act.BeginDestroy = BeginDestroyAllowed doing x
AllowedOf d doing x (act.Visit peer) = VisitAllowed d doing x
AllowedOf d doing x act.StampDestroy = StampDestroyAllowed doing x
AllowedOf d doing x act.Flush = x.epoch < 2 ^ 63
AllowedOf d doing x act.Local = ⊤

-- the same of a driver's next event
abbrev pub Allowed : DriverPart → Action → PeerPart → Type 0
Allowed d action x = AllowedOf d (open_in d) x action

-- where a destruction begins, the driver's list has room for all nodes that were made
abbrev pub HasStock : Action → PeerPart → Driver → Type 0
HasStock act.BeginDestroy x d = length x.nodes ≤ d.here
HasStock action x d = ⊤

-- the users that may send to a peer are those of the opening
abbrev pub HasUsers : Opening → List ℕ → Type 0
HasUsers o users = (user : ℕ) → list_any (λ u. u == user) users ≡ list_any (λ spec. spec.user == user) o.peers

-- ---- what it does

-- an event answers this and leaves this part, where want of memory may refuse what nothing else does
pub record Happens (o : Opening) (d : DriverPart) (action : Action) (x : PeerPart) (outcome : Outcome) (y : PeerPart) : Type 0 where
  pub memory : Bool
  pub event : happens o memory d (open_in d) action x ≡ (outcome, y)

-- one event of a driver whose command is open, at one peer: the two parts change by a step, the room for calls stays, and the room for doomed nodes grows at least as the nodes do
pub record Does (o : Opening) (d : Driver) (x : PeerSeen) (e : Driver) (y : PeerSeen) : Type 0 where
  pub step : LocalStep o None d.part x.part e.part y.part
  pub users : y.users ≡ x.users
  pub spare : e.spare + length e.part.calls ≡ d.spare + length d.part.calls
  pub doomed : d.doomed ≤ e.doomed
  pub here : d.doomed ≤ d.here → e.doomed ≤ e.here
  pub nodes : length y.part.nodes + d.doomed ≤ length x.part.nodes + e.doomed
