-- What an event's answer makes of a driver's whole part, and the calls that a part stands for.
use Rattle.std.specs.Prelude.{ℕ, ◌+◌, ◌-◌, ◌^◌, min, Bool, true, false, ◌&&◌, ◌||◌, not, if◌then◌else◌, List, [], ◌∷◌, ◌++◌, drop, get_or, map, Option, Some, None, Ok, Err, filter_map, zip}
use Rattle.b1_model.specs.declared.naming.NodeRef.{NodeRef}
use Rattle.b1_model.specs.declared.commands.Command.{Command}
use Rattle.b1_model.specs.declared.commands.Command.TheVariants as cmd
use Rattle.b1_model.specs.declared.answers.Front.{Front}
use Rattle.b1_model.specs.declared.answers.Answer.{Answer}
use Rattle.b1_model.specs.declared.answers.Answer.TheVariants as answer
use Rattle.b1_model.specs.declared.answers.Reason.{Reason}
use Rattle.b1_model.specs.declared.answers.Reason.TheVariants as reason
use Rattle.b1_model.specs.declared.records.Call.{Call}
use Rattle.b1_model.specs.declared.events.Outcome.{Outcome}
use Rattle.b1_model.specs.declared.events.Outcome.TheVariants as out
use Rattle.b1_model.specs.declared.events.Phase.{Phase}
use Rattle.b1_model.specs.declared.events.Phase.TheVariants.{Starting, Staging, Unstaging, Attaching, Stamping, Syncing, Committing, Dropping, Reaping, Visiting, Dooming, SyncingNotices, CommittingOwn, CommittingNotices, Flushing}
use Rattle.b1_model.specs.declared.events.Doing.{Doing}
use Rattle.b1_model.specs.declared.events.Sending.{Sending}
use Rattle.b1_model.specs.declared.events.OwedDrop.{OwedDrop}
use Rattle.b1_model.specs.MachineParts.{DriverPart}
use Rattle.b1_model.specs.MachineReceive.{reference_of}
use Rattle.b1_model.specs.MachineDriver.{node_of_place, is_place, is_flushing, Turn, Goes, Ends, turn}

-- ---- what is owed, told and attempted

-- the drops of references of one holder, with a clock
abbrev pub drops_of : ℕ → ℕ → List (NodeRef × ℕ) → List OwedDrop
drops_of holder clock refs = map (λ r. record { node = r.0; holder = holder; amount = r.1; clock = clock }) refs

-- the references of a place of a SEND
abbrev pub place_references : Sending → ℕ → List (NodeRef × ℕ)
place_references sending place = filter_map reference_of (zip sending.begun.with (get_or sending.slots place []))

-- a cancelled commit owes one drop for each attached slot, with the stamp
abbrev pub cancelled_drops : Phase → List OwedDrop
cancelled_drops phase = elim phase [ Committing sending stamp place ↦ drops_of (node_of_place sending.begun.to place).owner stamp (place_references sending place) | other ↦ [] ]

-- the drops that a driver owes after an event
abbrev pub owed_after : ℕ → Phase → List OwedDrop → Outcome → List OwedDrop
owed_after me phase owed (out.Commit false) = owed ++ cancelled_drops phase
owed_after me phase owed (out.Reap (Some item) dead) = drops_of me item.clock item.drops
owed_after me phase owed (out.Release (Ok one)) = drops_of me one.clock ((one.node, 1) ∷ [])
owed_after me phase owed out.DropRefs = drop 1 owed
owed_after me phase owed outcome = owed

-- what a driver was last told of its peer's dead list
abbrev pub told_after : Bool → Outcome → Bool
told_after told (out.Recv got dead) = dead
told_after told (out.Reap got dead) = dead
told_after told (out.Flush dead) = dead
told_after told outcome = told

-- a driver is shut from the flush of its disconnect on
abbrev pub is_disconnect : Command → Bool
is_disconnect command = elim command [ cmd.Disconnect ↦ true | other ↦ false ]

-- whether the driver is shut after an event
abbrev pub shut_after : Command → Bool → Outcome → Bool
shut_after command shut (out.Flush dead) = shut || is_disconnect command
shut_after command shut outcome = shut

-- a RECV that is tried again
abbrev pub is_await : Command → Bool
is_await command = elim command [ cmd.Await ↦ true | other ↦ false ]

-- what an attempt that couldn't take its front found and removed
abbrev pub attempt_of : Command → Outcome → Option (Front × ℕ)
attempt_of command (out.Recv got dead) = if is_await command then elim got.front [ Ok receipt ↦ None | Err front ↦ Some (front, got.removed) ] else None
attempt_of command outcome = None

-- the driver's facts beside its open command, after an event
abbrev pub with_facts : DriverPart → Doing → Outcome → DriverPart
with_facts d doing outcome =
    record d {
      shut = shut_after doing.command d.shut outcome;
      owed = owed_after d.me doing.phase d.owed outcome;
      told = told_after d.told outcome;
      attempted = elim (attempt_of doing.command outcome) [ None ↦ d.attempted | Some found ↦ Some found ];
      attempts = elim (attempt_of doing.command outcome) [ None ↦ d.attempts | Some found ↦ min (d.attempts + 1) (2 ^ 64 - 1) ];
    }

-- ---- the end of a command

-- the answer of a destruction with its stamp
abbrev pub stamped_answer : Command → ℕ → Answer
stamped_answer command stamp = if is_flushing command then answer.Reset (Some stamp) else answer.Destroyed stamp

-- a SEND's answer with its stamp
abbrev pub sent_answer : Sending → ℕ → Answer
sent_answer sending stamp = answer.Sent (record { stamp = stamp; places = sending.places })

-- the answer of an open command, once it is fixed
abbrev pub answer_of : Command → Phase → Option Answer
answer_of command Starting = None
answer_of command (Staging begun places collected) = None
answer_of command (Unstaging begun places refused place) = Some (answer.Refused refused)
answer_of command (Attaching sending place slot) = None
answer_of command (Stamping sending) = None
answer_of command (Syncing sending stamp place) = Some (sent_answer sending stamp)
answer_of command (Committing sending stamp place) = Some (sent_answer sending stamp)
answer_of command Dropping = Some answer.Done
answer_of command (Reaping got) = Some got
answer_of command (Visiting destruction left) = None
answer_of command (Dooming destruction) = None
answer_of command (SyncingNotices destruction stamp at) = Some (stamped_answer command stamp)
answer_of command (CommittingOwn destruction stamp) = Some (stamped_answer command stamp)
answer_of command (CommittingNotices destruction stamp at) = Some (stamped_answer command stamp)
answer_of command (Flushing stamp) = Some (answer.Reset stamp)

-- whether nothing is left of a command: no drop is owed, no place, no item of the dead list
abbrev pub is_done : List OwedDrop → Bool → Phase → Bool
is_done (one ∷ rest) told phase = false
is_done [] told (Committing sending stamp place) = not (is_place place sending.places)
is_done [] told Dropping = true
is_done [] told (Reaping got) = not told
is_done [] told phase = false

-- an attempt that can't take its front is no call
abbrev pub is_again : Reason → Bool
is_again r = elim r [ reason.Again front ↦ true | other ↦ false ]

-- an attempt that could not take its front
abbrev pub is_waiting : Command → Answer → Bool
is_waiting command got = is_await command && elim got [ answer.Refused refused ↦ is_again refused.reason | other ↦ false ]

-- an AWAIT stands in the list as a RECV
abbrev pub as_call : Command → Command
as_call command = elim command [ cmd.Await ↦ cmd.Recv | other ↦ other ]

-- the call of an ended command: none of such an attempt
abbrev pub call_of : Command → Answer → List Call
call_of command got = if is_waiting command got then [] else record { command = as_call command; answer = got } ∷ []

-- a command ends with its answer
abbrev pub ended : DriverPart → Command → Answer → DriverPart
ended d command got = record d { doing = None; calls = d.calls ++ call_of command got }

-- a command is in a phase, and ends there where nothing is left of it
abbrev pub goes_by : Bool → Option Answer → DriverPart → Command → Phase → DriverPart
goes_by false got d command phase = record d { doing = Some (record { command = command; phase = phase }) }
goes_by true None d command phase = record d { doing = Some (record { command = command; phase = phase }) }
goes_by true (Some got) d command phase = ended d command got

-- by what an answer made of the phase
abbrev pub turned : DriverPart → Command → Turn → DriverPart
turned d command (Goes phase) = goes_by (is_done d.owed d.told phase) (answer_of command phase) d command phase
turned d command (Ends got) = ended d command got

-- nothing where no command is open
abbrev pub took_by : DriverPart → Option Doing → Outcome → DriverPart
took_by d None outcome = d
took_by d (Some doing) outcome = turned (with_facts d doing outcome) doing.command (turn d.me doing.command doing.phase outcome)

-- a driver's part after an event's answer
abbrev pub took : DriverPart → Outcome → DriverPart
took d outcome = took_by d d.doing outcome

-- ---- the calls that a part stands for

-- a command with its fixed answer, if it has one
abbrev pub fixed_call : Command → Option Answer → List Call
fixed_call command None = []
fixed_call command (Some got) = call_of command got

-- the same, by the open command
abbrev pub open_by : Option Doing → List Call
open_by None = []
open_by (Some doing) = fixed_call doing.command (answer_of doing.command doing.phase)

-- the open command with its fixed answer, if it has one
abbrev pub open_call : DriverPart → List Call
open_call d = open_by d.doing

-- a driver's calls, followed by the open command where its answer is fixed
abbrev pub driver_calls : DriverPart → List Call
driver_calls d = d.calls ++ open_call d
