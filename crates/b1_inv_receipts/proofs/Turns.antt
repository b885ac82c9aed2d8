-- What an event's answer makes of a phase: a destroy notice is in hand only behind a RECV that took one.
use Rattle.std.proofs.Common.{◌≡◌, subst, ℕ, ◌+◌, max, Bool, true, false, cond, nat_lt, ◌&&◌, List, [], ◌∷◌, ◌++◌, get_or, length, Option, Some, None, Ok, Err, Result}
use Rattle.std.specs.Prelude.{⊤}
use Rattle.std.proofs.lemmas.Bool.{cond_both}
use Rattle.b1_model.specs.declared.naming.Opening.{Opening}
use Rattle.b1_model.specs.declared.commands.Command.{Command}
use Rattle.b1_model.specs.declared.commands.Command.TheVariants as cmd
use Rattle.b1_model.specs.declared.commands.SendCmd.{SendCmd}
use Rattle.b1_model.specs.declared.answers.Answer.{Answer}
use Rattle.b1_model.specs.declared.answers.Answer.TheVariants as answer
use Rattle.b1_model.specs.declared.answers.Front.{Front}
use Rattle.b1_model.specs.declared.answers.Reason.{Reason}
use Rattle.b1_model.specs.declared.answers.Reason.TheVariants as reason
use Rattle.b1_model.specs.declared.answers.Receipt.{Receipt}
use Rattle.b1_model.specs.declared.answers.Refused.{Refused}
use Rattle.b1_model.specs.declared.parts.Begun.{Begun}
use Rattle.b1_model.specs.declared.events.Action.{Action}
use Rattle.b1_model.specs.declared.events.Action.TheVariants as act
use Rattle.b1_model.specs.declared.events.Doing.{Doing}
use Rattle.b1_model.specs.declared.events.Destruction.{Destruction}
use Rattle.b1_model.specs.declared.events.Outcome.{Outcome}
use Rattle.b1_model.specs.declared.events.Outcome.TheVariants as out
use Rattle.b1_model.specs.declared.events.Phase.{Phase}
use Rattle.b1_model.specs.declared.events.Phase.TheVariants.{Starting, Staging, Unstaging, Attaching, Stamping, Syncing, Committing, Dropping, Reaping, Visiting, Dooming, SyncingNotices, CommittingOwn, CommittingNotices, Flushing}
use Rattle.b1_model.specs.declared.events.Sending.{Sending}
use Rattle.b1_model.specs.MachineParts.{PeerPart, DriverPart}
use Rattle.b1_model.specs.MachinePool.{is_received}
use Rattle.b1_model.specs.MachineSend.{send_refusal}
use Rattle.b1_model.specs.MachineReceive.{received}
use Rattle.b1_model.specs.MachineDriver.{Turn, Goes, Ends, send_of, refused_at, memory_place, all_refused, accepted_from, is_place, attaching, all_staged, staging, unstaging, with_slot, syncing, visiting, syncing_notices, is_flushing, committing_notices, destroying, started, place_done, turn}
use Rattle.b1_model.specs.MachineTook.{stamped_answer, answer_of}
use Rattle.b1_model.specs.MachineEvents.{happens, begin_by, stage_by, destroy_by, begin_refusal, begin_serials, local_answer}
use Rattle.b1_inv.specs.Receipts.{NamesNode, ReapsNode}
use Rattle.b1_inv_receipts.proofs.Received.{FrontNames}

-- ---- answers

-- what an event made of a phase
abbrev pub TurnNames : Turn → Type 0
TurnNames (Goes phase) = ReapsNode phase
TurnNames (Ends got) = NamesNode got

-- the answer of a command is the one that it reaps with, or no receipt
pub fixed_names : (command : Command) (phase : Phase) (got : Answer) → ReapsNode phase → answer_of command phase ≡ Some got → NamesNode got
fixed_names command phase got right is = at phase right is
  where
    same : (other : Answer) → NamesNode other → Some other ≡ Some got → NamesNode got
    same other names e = let one : other ≡ got = cc e in subst NamesNode one names

    stamped : (b : Bool) (stamp : ℕ) → NamesNode (cond b (answer.Reset (Some stamp)) (answer.Destroyed stamp))
    stamped true stamp = tt
    stamped false stamp = tt

    at : (phase : Phase) → ReapsNode phase → answer_of command phase ≡ Some got → NamesNode got
    at (Unstaging begun places refused place) right is = same (answer.Refused refused) tt is
    at (Syncing sending stamp place) right is = same _ tt is
    at (Committing sending stamp place) right is = same _ tt is
    at Dropping right is = same answer.Done tt is
    at (Reaping other) right is = same other right is
    at (SyncingNotices destruction stamp place) right is = same (stamped_answer command stamp) (stamped (is_flushing command) stamp) is
    at (CommittingOwn destruction stamp) right is = same (stamped_answer command stamp) (stamped (is_flushing command) stamp) is
    at (CommittingNotices destruction stamp place) right is = same (stamped_answer command stamp) (stamped (is_flushing command) stamp) is
    at (Flushing stamp) right is = same (answer.Reset stamp) tt is
    at phase right is = absurd (cc is)

first_names : (first : Option Reason) → NamesNode (elim first [ None ↦ refused_at reason.Invalid None | Some r ↦ refused_at r (Some 0) ])
first_names None = tt
first_names (Some r) = tt

all_refused_names : (places : List (Option Reason)) → NamesNode (all_refused places)
all_refused_names places = at (memory_place 0 places)
  where
    at : (place : Option ℕ) → NamesNode (elim place [ Some one ↦ refused_at reason.Memory (Some one) | None ↦ elim (get_or places 0 None) [ None ↦ refused_at reason.Invalid None | Some r ↦ refused_at r (Some 0) ] ])
    at None = first_names (get_or places 0 None)
    at (Some one) = tt

-- ---- events

-- a receipt that an event answers, and a local answer
abbrev pub OutcomeNames : Outcome → Type 0
OutcomeNames (out.Recv got dead) = FrontNames got.front
OutcomeNames (out.Local got) = NamesNode got
OutcomeNames outcome = ⊤

local_names : (shut : Bool) (command : Command) (x : PeerPart) → NamesNode (local_answer shut command x)
local_names true command x = tt
local_names false (cmd.SliceRelease offset) x = cond_both (is_received offset x.slices) answer.Done (refused_at (reason.Unknown offset) None) NamesNode (λ is. tt) (λ is. tt)
local_names false cmd.Query x = tt
local_names false (cmd.Limit limits) x = tt
local_names false cmd.Disconnect x = tt
local_names false (cmd.Reset limits) x = tt
local_names false (cmd.Release number) x = tt
local_names false (cmd.Destroy numbers) x = tt
local_names false (cmd.Send c) x = tt
local_names false cmd.Recv x = tt
local_names false cmd.Await x = tt

begin_names : (r : Option Reason) (memory : Bool) (c : SendCmd) (x : PeerPart) → OutcomeNames (begin_by r memory c x).0
begin_names (Some r) memory c x = tt
begin_names None true c x = tt
begin_names None false c x = tt

destroy_names : (r : Option Reason) (doomed : List ℕ) (x : PeerPart) → OutcomeNames (destroy_by r doomed x).0
destroy_names (Some r) doomed x = tt
destroy_names None doomed x = tt

module _ (o : Opening) (memory : Bool) (d : DriverPart) (doing : Doing) (x : PeerPart) where
  stage_names : (r : Option Reason) (b : Bool) (user place serial : ℕ) (payload : List ℕ) (nodes : List _) → OutcomeNames (stage_by r b d.me user place serial payload nodes x).0
  stage_names (Some r) b user place serial payload nodes = tt
  stage_names None true user place serial payload nodes = tt
  stage_names None false user place serial payload nodes = tt

  pub event_names : (action : Action) → FrontNames (received x).front → OutcomeNames (happens o memory d doing action x).0
  event_names act.Rest front = tt
  event_names act.Begin front = begin_names (send_refusal x (send_of doing.command)) memory (send_of doing.command) x
  event_names (act.Stage peer place) front = stage_names _ memory _ place _ _ _
  event_names (act.Unstage peer place) front = tt
  event_names (act.Attach peer serial dest) front = tt
  event_names act.Stamp front = tt
  event_names (act.Sync peer stamp) front = tt
  event_names (act.Commit peer place stamp) front = tt
  event_names (act.CommitNotices peer stamp) front = tt
  event_names act.Recv front = front
  event_names act.Reap front = tt
  event_names act.Release front = tt
  event_names (act.DropRefs peer serial holder k clock) front = tt
  event_names act.BeginDestroy front = destroy_names (begin_refusal doing.command x) (begin_serials doing.command x) x
  event_names (act.Visit peer) front = tt
  event_names act.StampDestroy front = tt
  event_names act.Flush front = tt
  event_names act.Local front = local_names d.shut doing.command x

-- ---- turns

visiting_names : (destruction : Destruction) (left : List ℕ) → ReapsNode (visiting destruction left)
visiting_names destruction [] = tt
visiting_names destruction (peer ∷ rest) = tt

destroying_names : (doomed visit : List ℕ) → ReapsNode (destroying doomed visit)
destroying_names [] visit = tt
destroying_names (serial ∷ rest) visit = visiting_names (record { doomed = serial ∷ rest; collected = 0; staged = [] }) visit

taken_names : (front : Result Receipt Front) → FrontNames front → NamesNode (elim front [ Ok got ↦ answer.Got got | Err one ↦ refused_at (reason.Again one) None ])
taken_names (Ok got) names = names
taken_names (Err one) names = tt

started_names : (command : Command) (outcome : Outcome) → OutcomeNames outcome → TurnNames (started command outcome)
started_names command (out.Begin (Ok begun)) names = tt
started_names command (out.Begin (Err r)) names = tt
started_names command (out.Recv got dead) names = taken_names got.front names
started_names command (out.Release (Ok owed)) names = tt
started_names command (out.Release (Err r)) names = tt
started_names command (out.BeginDestroy (Ok visit) doomed) names = destroying_names doomed visit
started_names command (out.BeginDestroy (Err r) doomed) names = tt
started_names command (out.Local got) names = names
started_names command outcome names = tt

attaching_names : (sending : Sending) (place handle : ℕ) → ReapsNode (attaching sending place handle)
attaching_names sending place handle =
    let last = cond (nat_lt 0 (length sending.begun.with) && is_place (accepted_from (place + 1) sending.places) sending.places) (Attaching sending (accepted_from (place + 1) sending.places) 0) (Stamping sending) in
    cond_both (nat_lt handle (length sending.begun.with)) (Attaching sending place handle) last ReapsNode (λ is. tt)
    (λ is. cond_both (nat_lt 0 (length sending.begun.with) && is_place (accepted_from (place + 1) sending.places) sending.places) (Attaching sending (accepted_from (place + 1) sending.places) 0) (Stamping sending) ReapsNode (λ e. tt) (λ e. tt))

staging_names : (begun : Begun) (places : List (Option Reason)) (collected : ℕ) → TurnNames (staging begun places collected)
staging_names begun places collected =
    let last = cond (is_place (accepted_from 0 places) places) (Goes (attaching (all_staged begun places collected) (accepted_from 0 places) 0)) (Ends (all_refused places)) in
    cond_both (nat_lt (length places) (length begun.to)) (Goes (Staging begun places collected)) last TurnNames (λ is. tt)
    (λ is. cond_both (is_place (accepted_from 0 places) places) (Goes (attaching (all_staged begun places collected) (accepted_from 0 places) 0)) (Ends (all_refused places)) TurnNames
    (λ e. attaching_names (all_staged begun places collected) (accepted_from 0 places) 0)
    (λ e. all_refused_names places))

unstaging_names : (begun : Begun) (places : List (Option Reason)) (refused : Refused) (place : ℕ) → TurnNames (unstaging begun places refused place)
unstaging_names begun places refused place = cond_both (is_place place places) (Goes (Unstaging begun places refused place)) (Ends (answer.Refused refused)) TurnNames (λ is. tt) (λ is. tt)

placed_names : (command : Command) (begun : Begun) (places : List (Option Reason)) (collected : ℕ) (got : Result ℕ Reason) → TurnNames (place_done command begun places collected got)
placed_names command begun places collected (Ok clock) = staging_names begun (places ++ None ∷ []) (max collected clock)
placed_names command begun places collected (Err r) =
    cond_both (send_of command).go_on (staging begun (places ++ Some r ∷ []) collected) (unstaging begun (places ++ Some r ∷ []) (record { reason = r; place = Some (length places) }) (accepted_from 0 (places ++ Some r ∷ []))) TurnNames
    (λ is. staging_names begun (places ++ Some r ∷ []) collected)
    (λ is. unstaging_names begun (places ++ Some r ∷ []) (record { reason = r; place = Some (length places) }) (accepted_from 0 (places ++ Some r ∷ [])))

syncing_names : (sending : Sending) (stamp place : ℕ) → ReapsNode (syncing sending stamp place)
syncing_names sending stamp place = cond_both (is_place place sending.places) (Syncing sending stamp place) (Committing sending stamp (accepted_from 0 sending.places)) ReapsNode (λ is. tt) (λ is. tt)

notices_names : (destruction : Destruction) (stamp at : ℕ) → ReapsNode (syncing_notices destruction stamp at)
notices_names destruction stamp at = cond_both (nat_lt at (length destruction.staged)) (SyncingNotices destruction stamp at) (CommittingOwn destruction stamp) ReapsNode (λ is. tt) (λ is. tt)

committed_names : (command : Command) (destruction : Destruction) (stamp at : ℕ) → TurnNames (committing_notices command destruction stamp at)
committed_names command destruction stamp at =
    cond_both (nat_lt at (length destruction.staged)) (Goes (CommittingNotices destruction stamp at)) (cond (is_flushing command) (Goes (Flushing (Some stamp))) (Ends (answer.Destroyed stamp))) TurnNames (λ is. tt)
    (λ is. cond_both (is_flushing command) (Goes (Flushing (Some stamp))) (Ends (answer.Destroyed stamp)) TurnNames (λ e. tt) (λ e. tt))

pub turn_names : (me : ℕ) (command : Command) (phase : Phase) (outcome : Outcome) → ReapsNode phase → OutcomeNames outcome → TurnNames (turn me command phase outcome)
turn_names me command Starting outcome right names = started_names command outcome names
turn_names me command (Staging begun places collected) (out.Stage got) right names = placed_names command begun places collected got
turn_names me command (Unstaging begun places refused place) out.Unstage right names = unstaging_names begun places refused (accepted_from (place + 1) places)
turn_names me command (Attaching sending place slot) (out.Attach got) right names = attaching_names (with_slot sending place slot got) place (slot + 1)
turn_names me command (Stamping sending) (out.Stamp stamp) right names = syncing_names sending stamp (accepted_from 0 sending.places)
turn_names me command (Syncing sending stamp place) out.Sync right names = syncing_names sending stamp (accepted_from (place + 1) sending.places)
turn_names me command (Committing sending stamp place) (out.Commit found) right names = tt
turn_names me command (Visiting destruction left) (out.Visit got) right names = visiting_names _ _
turn_names me command (Dooming destruction) (out.StampDestroy (Ok stamp)) right names = notices_names destruction stamp 0
turn_names me command (Dooming destruction) (out.StampDestroy (Err late)) right names = visiting_names destruction late
turn_names me command (SyncingNotices destruction stamp at) out.Sync right names = notices_names destruction stamp (at + 1)
turn_names me command (CommittingOwn destruction stamp) out.CommitNotices right names = committed_names command destruction stamp 0
turn_names me command (CommittingNotices destruction stamp at) out.CommitNotices right names = committed_names command destruction stamp (at + 1)
turn_names me command (Flushing stamp) (out.Flush dead) right names = tt
turn_names me command phase outcome right names = right
