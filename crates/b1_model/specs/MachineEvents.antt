-- The sixteen events: what each answers and makes of the peer's part that it is at.
use Rattle.std.specs.Prelude.{ℕ, Bool, true, false, if◌then◌else◌, List, [], get_or, length, slice_get, Option, Some, None, Ok, Err}
use Rattle.b1_model.specs.declared.naming.NodeRef.{NodeRef}
use Rattle.b1_model.specs.declared.naming.Limits.{Limits}
use Rattle.b1_model.specs.declared.naming.Opening.{Opening}
use Rattle.b1_model.specs.declared.commands.Command.{Command}
use Rattle.b1_model.specs.declared.commands.Command.TheVariants as cmd
use Rattle.b1_model.specs.declared.commands.SendCmd.{SendCmd}
use Rattle.b1_model.specs.declared.parts.Begun.{Begun}
use Rattle.b1_model.specs.declared.parts.Slot.{Slot}
use Rattle.b1_model.specs.declared.answers.Answer.{Answer}
use Rattle.b1_model.specs.declared.answers.Answer.TheVariants as answer
use Rattle.b1_model.specs.declared.answers.Reason.{Reason}
use Rattle.b1_model.specs.declared.answers.Reason.TheVariants as reason
use Rattle.b1_model.specs.declared.events.Action.{Action}
use Rattle.b1_model.specs.declared.events.Action.TheVariants as act
use Rattle.b1_model.specs.declared.events.Outcome.{Outcome}
use Rattle.b1_model.specs.declared.events.Outcome.TheVariants as out
use Rattle.b1_model.specs.declared.events.Phase.{Phase}
use Rattle.b1_model.specs.declared.events.Doing.{Doing}
use Rattle.b1_model.specs.declared.events.Phase.TheVariants.{Staging, Unstaging, Attaching, Stamping, Syncing, Committing, Visiting, Dooming, SyncingNotices, CommittingOwn, CommittingNotices}
use Rattle.b1_model.specs.MachineParts.{PeerPart, DriverPart}
use Rattle.b1_model.specs.MachinePool.{is_received}
use Rattle.b1_model.specs.MachineSend.{send_refusal, begun_nodes, begun_part, stage_refusal, staged, unstaged, attach_answer, attached, final_stamp, stamped, synced, is_committed, committed, notices_committed}
use Rattle.b1_model.specs.MachineReceive.{received, received_part, has_dead, reaped, reaped_part, released, released_part, dropped, slice_released, limited}
use Rattle.b1_model.specs.MachineDestroy.{destroy_refusal, overflow_reason, destroy_serials, reset_serials, visit_set, doomed_part, visit_answer, visited, doom_answer, doom_stamped, flushed}
use Rattle.b1_model.specs.MachineDriver.{node_of_place, send_of, refused_at}

-- ---- what a driver tells an event

-- what stands in place of a begin's nodes where there are none
abbrev pub no_begun : Begun
no_begun = record { to = []; with = [] }

-- the nodes that a SEND's begin found
abbrev pub begun_of : Phase → Begun
begun_of (Staging begun places collected) = begun
begun_of (Unstaging begun places refused place) = begun
begun_of (Attaching sending place slot) = sending.begun
begun_of (Stamping sending) = sending.begun
begun_of (Syncing sending stamp place) = sending.begun
begun_of (Committing sending stamp place) = sending.begun
begun_of phase = no_begun

-- the slots of one place of a SEND
abbrev pub slots_at : Phase → ℕ → List Slot
slots_at (Attaching sending place slot) at = get_or sending.slots at []
slots_at (Stamping sending) at = get_or sending.slots at []
slots_at (Syncing sending stamp place) at = get_or sending.slots at []
slots_at (Committing sending stamp place) at = get_or sending.slots at []
slots_at phase at = []

-- the greatest clock collected
abbrev pub collected_of : Phase → ℕ
collected_of (Staging begun places collected) = collected
collected_of (Attaching sending place slot) = sending.collected
collected_of (Stamping sending) = sending.collected
collected_of (Syncing sending stamp place) = sending.collected
collected_of (Committing sending stamp place) = sending.collected
collected_of (Visiting destruction left) = destruction.collected
collected_of (Dooming destruction) = destruction.collected
collected_of (SyncingNotices destruction stamp at) = destruction.collected
collected_of (CommittingOwn destruction stamp) = destruction.collected
collected_of (CommittingNotices destruction stamp at) = destruction.collected
collected_of phase = 0

-- the serials of the doomed nodes
abbrev pub doomed_of : Phase → List ℕ
doomed_of (Visiting destruction left) = destruction.doomed
doomed_of (Dooming destruction) = destruction.doomed
doomed_of (SyncingNotices destruction stamp at) = destruction.doomed
doomed_of (CommittingOwn destruction stamp) = destruction.doomed
doomed_of (CommittingNotices destruction stamp at) = destruction.doomed
doomed_of phase = []

-- the number of a HANDLE_RELEASE
abbrev pub number_of : Command → ℕ
number_of command = elim command [ cmd.Release number ↦ number | other ↦ 0 ]

-- the limits that a flush sets: a PEER_DISCONNECT keeps the old ones
abbrev pub limits_after : Command → Limits → Limits
limits_after command old = elim command [ cmd.Reset limits ↦ limits | other ↦ old ]

-- the sender's user, by the opening
abbrev pub user_of : Opening → ℕ → ℕ
user_of o p = elim (slice_get o.peers p) [ None ↦ 0 | Some spec ↦ spec.user ]

-- ---- the events

-- where nothing else refuses, want of memory may
abbrev pub begin_by : Option Reason → Bool → SendCmd → PeerPart → Outcome × PeerPart
begin_by (Some r) memory c x = (out.Begin (Err r), x)
begin_by None true c x = (out.Begin (Err reason.Memory), x)
begin_by None false c x = (out.Begin (Ok (begun_nodes x c)), begun_part x c)

-- a begin, by its first refusal
abbrev pub begin_event : Bool → SendCmd → PeerPart → Outcome × PeerPart
begin_event memory c x = begin_by (send_refusal x c) memory c x

-- where nothing else refuses, want of memory may
abbrev pub stage_by : Option Reason → Bool → ℕ → ℕ → ℕ → ℕ → List ℕ → List NodeRef → PeerPart → Outcome × PeerPart
stage_by (Some r) memory origin user place serial payload nodes x = (out.Stage (Err r), x)
stage_by None true origin user place serial payload nodes x = (out.Stage (Err reason.Memory), x)
stage_by None false origin user place serial payload nodes x = (out.Stage (Ok x.clock), staged x origin user place serial payload nodes)

-- a stage, by its first refusal; it answers the clock collected
abbrev pub stage_event : Bool → ℕ → ℕ → ℕ → ℕ → List ℕ → List NodeRef → PeerPart → Outcome × PeerPart
stage_event memory origin user place serial payload nodes x = stage_by (stage_refusal x user serial (length payload) (length nodes)) memory origin user place serial payload nodes x

-- an unstage answers nothing
abbrev pub unstage_event : ℕ → ℕ → PeerPart → Outcome × PeerPart
unstage_event origin place x = (out.Unstage, unstaged x origin place)

-- an attach answers what the owner says of the node
abbrev pub attach_event : ℕ → ℕ → PeerPart → Outcome × PeerPart
attach_event serial dest x = (out.Attach (attach_answer x serial dest), attached x serial dest)

-- a stamp answers itself
abbrev pub stamp_event : ℕ → PeerPart → Outcome × PeerPart
stamp_event collected x = (out.Stamp (final_stamp x collected), stamped x collected)

-- a sync answers nothing
abbrev pub sync_event : ℕ → PeerPart → Outcome × PeerPart
sync_event stamp x = (out.Sync, synced x stamp)

-- a commit answers whether the staged message was there
abbrev pub commit_event : ℕ → ℕ → ℕ → List Slot → PeerPart → Outcome × PeerPart
commit_event origin place stamp slots x = (out.Commit (is_committed x origin place), committed x origin place stamp slots)

-- a commit of notices answers nothing
abbrev pub commit_notices_event : ℕ → ℕ → PeerPart → Outcome × PeerPart
commit_notices_event origin stamp x = (out.CommitNotices, notices_committed x origin stamp)

-- a recv answers what it took or found, and whether references are to be given up then
abbrev pub recv_event : PeerPart → Outcome × PeerPart
recv_event x = (out.Recv (received x) (has_dead (received_part x)), received_part x)

-- a reap answers the item, and whether more are left
abbrev pub reap_event : PeerPart → Outcome × PeerPart
reap_event x = (out.Reap (reaped x) (has_dead (reaped_part x)), reaped_part x)

-- a release answers the reference to be dropped, or why not
abbrev pub release_event : ℕ → PeerPart → Outcome × PeerPart
release_event number x = (out.Release (released x number), released_part x number)

-- a drop answers nothing
abbrev pub drop_event : ℕ → ℕ → ℕ → ℕ → PeerPart → Outcome × PeerPart
drop_event serial holder k clock x = (out.DropRefs, dropped x serial holder k clock)

-- a destruction's checks: of NODES_DESTROY, or of a PEER_RESET or a PEER_DISCONNECT
abbrev pub begin_refusal : Command → PeerPart → Option Reason
begin_refusal command x = elim command [ cmd.Destroy numbers ↦ destroy_refusal x numbers | other ↦ overflow_reason x ]

-- the nodes that it dooms
abbrev pub begin_serials : Command → PeerPart → List ℕ
begin_serials command x = elim command [ cmd.Destroy numbers ↦ destroy_serials x numbers | other ↦ reset_serials x ]

-- a destruction that is refused changes nothing; else it answers the peers to be visited, and the doomed nodes
abbrev pub destroy_by : Option Reason → List ℕ → PeerPart → Outcome × PeerPart
destroy_by (Some r) doomed x = (out.BeginDestroy (Err r) [], x)
destroy_by None doomed x = (out.BeginDestroy (Ok (visit_set x doomed)) doomed, doomed_part x doomed)

-- a begin of a destruction, by its first refusal
abbrev pub begin_destroy_event : Command → PeerPart → Outcome × PeerPart
begin_destroy_event command x = destroy_by (begin_refusal command x) (begin_serials command x) x

-- a visit answers the clock, and whether a notice was staged
abbrev pub visit_event : ℕ → List ℕ → PeerPart → Outcome × PeerPart
visit_event origin doomed x = (out.Visit (visit_answer x origin doomed), visited x origin doomed)

-- a stamp of a destruction answers itself, or the holders that came late
abbrev pub stamp_destroy_event : ℕ → List ℕ → PeerPart → Outcome × PeerPart
stamp_destroy_event collected doomed x = (out.StampDestroy (doom_answer x collected), doom_stamped x collected doomed)

-- a flush answers whether references are to be given up
abbrev pub flush_event : Command → PeerPart → Outcome × PeerPart
flush_event command x = (out.Flush (has_dead (flushed x (limits_after command x.limits))), flushed x (limits_after command x.limits))

-- the commands of one step: SLICE_RELEASE, PEER_QUERY, PEER_RESET without flush, and every command of a shut driver
abbrev pub local_answer : Bool → Command → PeerPart → Answer
local_answer true command x = refused_at reason.Shutdown None
local_answer false command x =
    elim command [
      | cmd.SliceRelease offset ↦ if is_received offset x.slices then answer.Done else refused_at (reason.Unknown offset) None
      | cmd.Query ↦ answer.Info x.user x.pool x.limits
      | cmd.Limit limits ↦ answer.Done
      | other ↦ refused_at reason.Invalid None
    ]

-- only SLICE_RELEASE and PEER_RESET without flush of a driver that is not shut change the part
abbrev pub local_part : Bool → Command → PeerPart → PeerPart
local_part true command x = x
local_part false (cmd.SliceRelease offset) x = slice_released x offset
local_part false (cmd.Limit limits) x = limited x limits
local_part false command x = x

-- a local command answers the call's answer
abbrev pub local_event : Bool → Command → PeerPart → Outcome × PeerPart
local_event shut command x = (out.Local (local_answer shut command x), local_part shut command x)

-- ---- the event that is next

-- what an event of an open command answers, and the peer's part after it
abbrev pub happens : Opening → Bool → DriverPart → Doing → Action → PeerPart → Outcome × PeerPart
happens o memory d doing act.Rest x = (out.Sync, x)
happens o memory d doing act.Begin x = begin_event memory (send_of doing.command) x
happens o memory d doing (act.Stage peer place) x = stage_event memory d.me (user_of o d.me) place (node_of_place (begun_of doing.phase).to place).serial (send_of doing.command).payload (begun_of doing.phase).with x
happens o memory d doing (act.Unstage peer place) x = unstage_event d.me place x
happens o memory d doing (act.Attach peer serial dest) x = attach_event serial dest x
happens o memory d doing act.Stamp x = stamp_event (collected_of doing.phase) x
happens o memory d doing (act.Sync peer stamp) x = sync_event stamp x
happens o memory d doing (act.Commit peer place stamp) x = commit_event d.me place stamp (slots_at doing.phase place) x
happens o memory d doing (act.CommitNotices peer stamp) x = commit_notices_event d.me stamp x
happens o memory d doing act.Recv x = recv_event x
happens o memory d doing act.Reap x = reap_event x
happens o memory d doing act.Release x = release_event (number_of doing.command) x
happens o memory d doing (act.DropRefs peer serial holder k clock) x = drop_event serial holder k clock x
happens o memory d doing act.BeginDestroy x = begin_destroy_event doing.command x
happens o memory d doing (act.Visit peer) x = visit_event d.me (doomed_of doing.phase) x
happens o memory d doing act.StampDestroy x = stamp_destroy_event (collected_of doing.phase) (doomed_of doing.phase) x
happens o memory d doing act.Flush x = flush_event doing.command x
happens o memory d doing act.Local x = local_event d.shut doing.command x
