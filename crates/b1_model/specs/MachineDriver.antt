-- A driver: which event is next, and what its answer makes of the driver's part.
use Rattle.std.specs.Prelude.{ℕ, ◌+◌, max, Bool, true, false, ◌&&◌, nat_lt, nat_le, if◌then◌else◌, List, [], ◌∷◌, ◌++◌, drop, get_or, set, map, length, Option, Some, None, Ok, Err, Result}
use Rattle.b1_model.specs.declared.naming.NodeRef.{NodeRef}
use Rattle.b1_model.specs.declared.commands.Command.{Command}
use Rattle.b1_model.specs.declared.commands.Command.TheVariants as cmd
use Rattle.b1_model.specs.declared.commands.SendCmd.{SendCmd}
use Rattle.b1_model.specs.declared.parts.Begun.{Begun}
use Rattle.b1_model.specs.declared.parts.Attach.{Attach}
use Rattle.b1_model.specs.declared.parts.Attach.TheVariants as attach
use Rattle.b1_model.specs.declared.parts.Slot.{Slot}
use Rattle.b1_model.specs.declared.parts.Slot.TheVariants as slot
use Rattle.b1_model.specs.declared.parts.Received.{Received}
use Rattle.b1_model.specs.declared.parts.Visited.{Visited}
use Rattle.b1_model.specs.declared.answers.Answer.{Answer}
use Rattle.b1_model.specs.declared.answers.Answer.TheVariants as answer
use Rattle.b1_model.specs.declared.answers.Reason.{Reason}
use Rattle.b1_model.specs.declared.answers.Reason.TheVariants as reason
use Rattle.b1_model.specs.declared.answers.Refused.{Refused}
use Rattle.b1_model.specs.declared.events.Action.{Action}
use Rattle.b1_model.specs.declared.events.Action.TheVariants as act
use Rattle.b1_model.specs.declared.events.Outcome.{Outcome}
use Rattle.b1_model.specs.declared.events.Outcome.TheVariants as out
use Rattle.b1_model.specs.declared.events.Phase.{Phase}
use Rattle.b1_model.specs.declared.events.Phase.TheVariants.{Starting, Staging, Unstaging, Attaching, Stamping, Syncing, Committing, Dropping, Reaping, Visiting, Dooming, SyncingNotices, CommittingOwn, CommittingNotices, Flushing}
use Rattle.b1_model.specs.declared.events.Sending.{Sending}
use Rattle.b1_model.specs.declared.events.Destruction.{Destruction}
use Rattle.b1_model.specs.MachineParts.{DriverPart}
use Rattle.b1_model.specs.MachineTables.{with_peer}

-- ---- small words

-- what stands in place of a node that isn't there
abbrev pub no_ref : NodeRef
no_ref = record { owner = 0; serial = 0 }

-- the node at a place of a list
abbrev pub node_of_place : List NodeRef → ℕ → NodeRef
node_of_place nodes place = get_or nodes place no_ref

-- what stands in place of a SEND where the command is none
abbrev pub no_send : SendCmd
no_send = record { go_on = false; to = []; with = []; payload = [] }

-- the SEND that a command is
abbrev pub send_of : Command → SendCmd
send_of command = elim command [ cmd.Send c ↦ c | other ↦ no_send ]

-- the first accepted place from one on, or the number of places
abbrev pub next_accepted : ℕ → ℕ → List (Option Reason) → ℕ
next_accepted here from [] = here
next_accepted here from (None ∷ rest) = if nat_le from here then here else next_accepted (here + 1) from rest
next_accepted here from (Some r ∷ rest) = next_accepted (here + 1) from rest

-- the same, counted from place 0
abbrev pub accepted_from : ℕ → List (Option Reason) → ℕ
accepted_from from places = next_accepted 0 from places

-- whether a place is one of the list
abbrev pub is_place : ℕ → List (Option Reason) → Bool
is_place place places = nat_lt place (length places)

-- ---- which event is next

-- the first event of a command
abbrev pub first_action : Command → Action
first_action cmd.Disconnect = act.BeginDestroy
first_action cmd.Query = act.Local
first_action (cmd.Reset limits) = act.BeginDestroy
first_action (cmd.Limit limits) = act.Local
first_action (cmd.Release number) = act.Release
first_action (cmd.Destroy numbers) = act.BeginDestroy
first_action (cmd.SliceRelease offset) = act.Local
first_action (cmd.Send c) = act.Begin
first_action cmd.Recv = act.Recv
first_action cmd.Await = act.Recv

-- the event of a phase, where no drop is owed
abbrev pub phase_action : ℕ → Bool → Command → Phase → Action
phase_action me shut command Starting = if shut then act.Local else first_action command
phase_action me shut command (Staging begun places collected) = act.Stage (node_of_place begun.to (length places)).owner (length places)
phase_action me shut command (Unstaging begun places refused place) = act.Unstage (node_of_place begun.to place).owner place
phase_action me shut command (Attaching sending place slot) = act.Attach (node_of_place sending.begun.with slot).owner (node_of_place sending.begun.with slot).serial (node_of_place sending.begun.to place).owner
phase_action me shut command (Stamping sending) = act.Stamp
phase_action me shut command (Syncing sending stamp place) = act.Sync (node_of_place sending.begun.to place).owner stamp
phase_action me shut command (Committing sending stamp place) = act.Commit (node_of_place sending.begun.to place).owner place stamp
phase_action me shut command Dropping = act.Rest
phase_action me shut command (Reaping answer) = act.Reap
phase_action me shut command (Visiting destruction left) = act.Visit (get_or left 0 me)
phase_action me shut command (Dooming destruction) = act.StampDestroy
phase_action me shut command (SyncingNotices destruction stamp at) = act.Sync (get_or destruction.staged at me) stamp
phase_action me shut command (CommittingOwn destruction stamp) = act.CommitNotices me stamp
phase_action me shut command (CommittingNotices destruction stamp at) = act.CommitNotices (get_or destruction.staged at me) stamp
phase_action me shut command (Flushing stamp) = act.Flush

-- the next event: the drops that are owed come first
abbrev pub next_action : DriverPart → Action
next_action d =
    elim d.doing [
      | None ↦ act.Rest
      | Some doing ↦ elim d.owed [
        | [] ↦ phase_action d.me d.shut doing.command doing.phase
        | drop ∷ rest ↦ act.DropRefs drop.node.owner drop.node.serial drop.holder drop.amount drop.clock
      ]
    ]

-- the peer that an event is at
abbrev pub peer_of : ℕ → Action → ℕ
peer_of me (act.Stage peer place) = peer
peer_of me (act.Unstage peer place) = peer
peer_of me (act.Attach peer serial dest) = peer
peer_of me (act.Sync peer stamp) = peer
peer_of me (act.Commit peer place stamp) = peer
peer_of me (act.CommitNotices peer stamp) = peer
peer_of me (act.DropRefs peer serial holder k clock) = peer
peer_of me (act.Visit peer) = peer
peer_of me action = me

-- ---- what an answer makes of the phase

-- where a command stands after an event: in a phase, or at its end with an answer
pub data Turn : Type 0 where
  Goes : Phase → Turn
  Ends : Answer → Turn

-- a refusal with its place, if it has one
abbrev pub refused_at : Reason → Option ℕ → Answer
refused_at r place = answer.Refused (record { reason = r; place = place })

-- the refusal of a SEND without an accepted place: of the first place refused for memory, else of the first place
abbrev pub is_memory : Option Reason → Bool
is_memory None = false
is_memory (Some r) = elim r [ reason.Memory ↦ true | other ↦ false ]

-- the first place refused for memory, where the first of the list is the place `here`
abbrev pub memory_place : ℕ → List (Option Reason) → Option ℕ
memory_place here [] = None
memory_place here (place ∷ rest) = if is_memory place then Some here else memory_place (here + 1) rest

-- the answer of a SEND without an accepted place
abbrev pub all_refused : List (Option Reason) → Answer
all_refused places =
    elim (memory_place 0 places) [
      | Some place ↦ refused_at reason.Memory (Some place)
      | None ↦ elim (get_or places 0 None) [ None ↦ refused_at reason.Invalid None | Some r ↦ refused_at r (Some 0) ]
    ]

-- a SEND attaches from a handle for a place on, or is at its stamp
abbrev pub attaching : Sending → ℕ → ℕ → Phase
attaching sending place slot =
    if nat_lt slot (length sending.begun.with) then Attaching sending place slot
    else (if nat_lt 0 (length sending.begun.with) && is_place (accepted_from (place + 1) sending.places) sending.places then Attaching sending (accepted_from (place + 1) sending.places) 0 else Stamping sending)

-- all destinations are staged: the slots are there, nothing attached
abbrev pub all_staged : Begun → List (Option Reason) → ℕ → Sending
all_staged begun places collected = record { begun = begun; places = places; collected = collected; slots = map (λ to. map (λ node. slot.Unattached) begun.with) begun.to }

-- after a place of a SEND was done
abbrev pub staging : Begun → List (Option Reason) → ℕ → Turn
staging begun places collected =
    if nat_lt (length places) (length begun.to) then Goes (Staging begun places collected)
    else (if is_place (accepted_from 0 places) places then Goes (attaching (all_staged begun places collected) (accepted_from 0 places) 0) else Ends (all_refused places))

-- a SEND is refused at its next place, and takes back from a place on what it staged
abbrev pub unstaging : Begun → List (Option Reason) → Refused → ℕ → Turn
unstaging begun places refused place =
    if is_place place places then Goes (Unstaging begun places refused place) else Ends (answer.Refused refused)

-- what a carried handle is by its owner's answer
abbrev pub slot_of : Attach → Slot
slot_of attach.Counted = slot.Attached
slot_of attach.Own = slot.Own
slot_of (attach.Void stamp) = slot.Void

-- the clock that an attach collects
abbrev pub collected_with : ℕ → Attach → ℕ
collected_with collected attach.Counted = collected
collected_with collected attach.Own = collected
collected_with collected (attach.Void stamp) = max collected stamp

-- a slot is filled with the owner's answer, whose clock is collected
abbrev pub with_slot : Sending → ℕ → ℕ → Attach → Sending
with_slot sending place slot got = record sending { slots = set sending.slots place (set (get_or sending.slots place []) slot (slot_of got)); collected = collected_with sending.collected got }

-- a SEND with its stamp syncs from a place on, then commits
abbrev pub syncing : Sending → ℕ → ℕ → Phase
syncing sending stamp place = if is_place place sending.places then Syncing sending stamp place else Committing sending stamp (accepted_from 0 sending.places)

-- a destruction visits who is left, or is at its stamp
abbrev pub visiting : Destruction → List ℕ → Phase
visiting destruction left = elim left [ [] ↦ Dooming destruction | peer ∷ rest ↦ Visiting destruction (peer ∷ rest) ]

-- a visit's clock is collected, and its peer joins the staged ones where a notice was staged
abbrev pub with_visit : Destruction → ℕ → Visited → Destruction
with_visit destruction peer got = record destruction { collected = max destruction.collected got.clock; staged = if got.staged then with_peer peer destruction.staged else destruction.staged }

-- a destruction syncs from a place of its peers on, then commits
abbrev pub syncing_notices : Destruction → ℕ → ℕ → Phase
syncing_notices destruction stamp at = if nat_lt at (length destruction.staged) then SyncingNotices destruction stamp at else CommittingOwn destruction stamp

-- a PEER_RESET with flush or a PEER_DISCONNECT goes on with its flush
abbrev pub is_flushing : Command → Bool
is_flushing command = elim command [ cmd.Reset limits ↦ true | cmd.Disconnect ↦ true | other ↦ false ]

-- a destruction commits from a place of its peers on; then NODES_DESTROY is done, and the others flush
abbrev pub committing_notices : Command → Destruction → ℕ → ℕ → Turn
committing_notices command destruction stamp at =
    if nat_lt at (length destruction.staged) then Goes (CommittingNotices destruction stamp at)
    else (if is_flushing command then Goes (Flushing (Some stamp)) else Ends (answer.Destroyed stamp))

-- after the checks of a destruction: a reset without live nodes goes on with its flush
abbrev pub destroying : List ℕ → List ℕ → Phase
destroying doomed visit = elim doomed [ [] ↦ Flushing None | serial ∷ rest ↦ visiting (record { doomed = serial ∷ rest; collected = 0; staged = [] }) visit ]

-- the answer of a RECV
abbrev pub recv_answer : Received → Answer
recv_answer got = elim got.front [ Ok receipt ↦ answer.Got receipt | Err front ↦ refused_at (reason.Again front) None ]

-- the first event of a command was done
abbrev pub started : Command → Outcome → Turn
started command (out.Begin (Ok begun)) = Goes (Staging begun [] 0)
started command (out.Begin (Err r)) = Ends (refused_at r None)
started command (out.Recv got dead) = Goes (Reaping (recv_answer got))
started command (out.Release (Ok owed)) = Goes Dropping
started command (out.Release (Err r)) = Ends (refused_at r None)
started command (out.BeginDestroy (Ok visit) doomed) = Goes (destroying doomed visit)
started command (out.BeginDestroy (Err r) doomed) = Ends (refused_at r None)
started command (out.Local got) = Ends got
started command outcome = Goes Starting

-- a destination answered
abbrev pub place_done : Command → Begun → List (Option Reason) → ℕ → Result ℕ Reason → Turn
place_done command begun places collected (Ok clock) = staging begun (places ++ None ∷ []) (max collected clock)
place_done command begun places collected (Err r) =
    if (send_of command).go_on then staging begun (places ++ Some r ∷ []) collected
    else unstaging begun (places ++ Some r ∷ []) (record { reason = r; place = Some (length places) }) (accepted_from 0 (places ++ Some r ∷ []))

-- what an event's answer makes of a phase; an answer of another kind leaves it
abbrev pub turn : ℕ → Command → Phase → Outcome → Turn
turn me command Starting outcome = started command outcome
turn me command (Staging begun places collected) (out.Stage got) = place_done command begun places collected got
turn me command (Unstaging begun places refused place) out.Unstage = unstaging begun places refused (accepted_from (place + 1) places)
turn me command (Attaching sending place slot) (out.Attach got) = Goes (attaching (with_slot sending place slot got) place (slot + 1))
turn me command (Stamping sending) (out.Stamp stamp) = Goes (syncing sending stamp (accepted_from 0 sending.places))
turn me command (Syncing sending stamp place) out.Sync = Goes (syncing sending stamp (accepted_from (place + 1) sending.places))
turn me command (Committing sending stamp place) (out.Commit found) = Goes (Committing sending stamp (accepted_from (place + 1) sending.places))
turn me command (Visiting destruction left) (out.Visit got) = Goes (visiting (with_visit destruction (get_or left 0 me) got) (drop 1 left))
turn me command (Dooming destruction) (out.StampDestroy (Ok stamp)) = Goes (syncing_notices destruction stamp 0)
turn me command (Dooming destruction) (out.StampDestroy (Err late)) = Goes (visiting destruction late)
turn me command (SyncingNotices destruction stamp at) out.Sync = Goes (syncing_notices destruction stamp (at + 1))
turn me command (CommittingOwn destruction stamp) out.CommitNotices = committing_notices command destruction stamp 0
turn me command (CommittingNotices destruction stamp at) out.CommitNotices = committing_notices command destruction stamp (at + 1)
turn me command (Flushing stamp) (out.Flush dead) = Goes (Reaping (answer.Reset stamp))
turn me command phase outcome = Goes phase
