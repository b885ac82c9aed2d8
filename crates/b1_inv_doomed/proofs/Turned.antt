-- What a turn leaves of the nodes that an open destruction dooms, and which turns lead to a flush.
use Rattle.std.proofs.Common.{◌≡◌, ◌⊎◌, refl, sym, ◌∙◌, inl, inr, ℕ, ◌+◌, Bool, true, false, cond, ◌&&◌, nat_lt, List, [], ◌∷◌, ◌++◌, drop, get_or, length, max, Option, Some, None, Ok, Err}
use Rattle.std.specs.Prelude.{⊤}
use Rattle.b1_model.specs.declared.commands.Command.{Command}
use Rattle.b1_model.specs.declared.commands.SendCmd.{SendCmd}
use Rattle.b1_model.specs.declared.naming.NodeRef.{NodeRef}
use Rattle.b1_model.specs.declared.naming.Opening.{Opening}
use Rattle.b1_model.specs.declared.answers.Answer.TheVariants as answer
use Rattle.b1_model.specs.declared.answers.Reason.{Reason}
use Rattle.b1_model.specs.declared.answers.Refused.{Refused}
use Rattle.b1_model.specs.declared.parts.Begun.{Begun}
use Rattle.b1_model.specs.declared.events.Action.{Action}
use Rattle.b1_model.specs.declared.events.Action.TheVariants as act
use Rattle.b1_model.specs.declared.events.Destruction.{Destruction}
use Rattle.b1_model.specs.declared.events.Doing.{Doing}
use Rattle.b1_model.specs.declared.events.Outcome.{Outcome}
use Rattle.b1_model.specs.declared.events.Outcome.TheVariants as out
use Rattle.b1_model.specs.declared.events.Phase.{Phase}
use Rattle.b1_model.specs.declared.events.Phase.TheVariants.{Starting, Staging, Unstaging, Attaching, Stamping, Syncing, Committing, Dropping, Reaping, Visiting, Dooming, SyncingNotices, CommittingOwn, CommittingNotices, Flushing}
use Rattle.b1_model.specs.declared.events.Sending.{Sending}
use Rattle.b1_model.specs.MachineParts.{PeerPart, DriverPart}
use Rattle.b1_model.specs.MachineSend.{send_refusal}
use Rattle.b1_model.specs.MachineDriver.{accepted_from, is_place, attaching, with_slot, all_staged, staging, all_refused, unstaging, syncing, visiting, with_visit, syncing_notices, committing_notices, is_flushing, send_of, started, turn, Turn, Goes, Ends}
use Rattle.b1_model.specs.MachineEvents.{happens, begin_by, stage_by, doomed_of}
use Rattle.b1_inv.specs.Notices.{is_unstamped}

-- the phase of a flush
abbrev pub is_flush_phase : Phase → Bool
is_flush_phase (Flushing stamp) = true
is_flush_phase phase = false

abbrev pub is_starting : Phase → Bool
is_starting Starting = true
is_starting phase = false

-- a destruction without a stamp comes from one that doomed the same nodes, and a flush from another phase by its command alone
pub record From (before : Phase) (command : Command) (phase : Phase) : Type 0 where
  pub unstamped : is_unstamped phase ≡ true → (is_unstamped before ≡ true) × (doomed_of phase ≡ doomed_of before)
  pub flushing : is_flush_phase phase ≡ true → (is_flush_phase before ≡ true) ⊎ (is_flushing command ≡ true)

abbrev pub TurnFrom : Phase → Command → Turn → Type 0
TurnFrom before command (Goes phase) = From before command phase
TurnFrom before command (Ends got) = ⊤

module _ (before : Phase) (command : Command) where
  -- a phase of no destruction without a stamp, and of no flush
  other : (phase : Phase) → is_unstamped phase ≡ false → is_flush_phase phase ≡ false → From before command phase
  other phase no_stamp no_flush = record {
    unstamped = λ is. let both : true ≡ false = sym is ∙ no_stamp in absurd (cc both);
    flushing = λ is. let both : true ≡ false = sym is ∙ no_flush in absurd (cc both);
  }

  same : From before command before
  same = record { unstamped = λ is. (is, refl); flushing = λ is. inl is }

  from_attaching : (sending : Sending) (place slot : ℕ) → From before command (attaching sending place slot)
  from_attaching sending place slot = by (nat_lt slot (length sending.begun.with)) (nat_lt 0 (length sending.begun.with) && is_place (accepted_from (place + 1) sending.places) sending.places) (accepted_from (place + 1) sending.places)
    where
      by : (b c : Bool) (next : ℕ) → From before command (cond b (Attaching sending place slot) (cond c (Attaching sending next 0) (Stamping sending)))
      by true c next = other (Attaching sending place slot) refl refl
      by false true next = other (Attaching sending next 0) refl refl
      by false false next = other (Stamping sending) refl refl

  from_staging : (begun : Begun) (places : List (Option Reason)) (collected : ℕ) → TurnFrom before command (staging begun places collected)
  from_staging begun places collected = by (nat_lt (length places) (length begun.to)) (is_place (accepted_from 0 places) places)
    where
      by : (b c : Bool) → TurnFrom before command (cond b (Goes (Staging begun places collected)) (cond c (Goes (attaching (all_staged begun places collected) (accepted_from 0 places) 0)) (Ends (all_refused places))))
      by true c = other (Staging begun places collected) refl refl
      by false true = from_attaching (all_staged begun places collected) (accepted_from 0 places) 0
      by false false = tt

  from_unstaging : (begun : Begun) (places : List (Option Reason)) (refused : Refused) (place : ℕ) → TurnFrom before command (unstaging begun places refused place)
  from_unstaging begun places refused place = by (is_place place places)
    where
      by : (b : Bool) → TurnFrom before command (cond b (Goes (Unstaging begun places refused place)) (Ends (answer.Refused refused)))
      by true = other (Unstaging begun places refused place) refl refl
      by false = tt

  from_place : (begun : Begun) (places : List (Option Reason)) (collected : ℕ) (r : Reason) (b : Bool)
      → TurnFrom before command (cond b (staging begun (places ++ Some r ∷ []) collected) (unstaging begun (places ++ Some r ∷ []) (record { reason = r; place = Some (length places) }) (accepted_from 0 (places ++ Some r ∷ []))))
  from_place begun places collected r true = from_staging begun (places ++ Some r ∷ []) collected
  from_place begun places collected r false = from_unstaging begun (places ++ Some r ∷ []) (record { reason = r; place = Some (length places) }) (accepted_from 0 (places ++ Some r ∷ []))

  from_syncing : (sending : Sending) (stamp place : ℕ) → From before command (syncing sending stamp place)
  from_syncing sending stamp place = by (is_place place sending.places)
    where
      by : (b : Bool) → From before command (cond b (Syncing sending stamp place) (Committing sending stamp (accepted_from 0 sending.places)))
      by true = other (Syncing sending stamp place) refl refl
      by false = other (Committing sending stamp (accepted_from 0 sending.places)) refl refl

  from_visiting : (d : Destruction) (left : List ℕ) → is_unstamped before ≡ true → d.doomed ≡ doomed_of before → From before command (visiting d left)
  from_visiting d [] is doomed = record { unstamped = λ un. (is, doomed); flushing = λ no. absurd (cc no) }
  from_visiting d (peer ∷ rest) is doomed = record { unstamped = λ un. (is, doomed); flushing = λ no. absurd (cc no) }

  from_notices : (d : Destruction) (stamp at : ℕ) → From before command (syncing_notices d stamp at)
  from_notices d stamp at = by (nat_lt at (length d.staged))
    where
      by : (b : Bool) → From before command (cond b (SyncingNotices d stamp at) (CommittingOwn d stamp))
      by true = other (SyncingNotices d stamp at) refl refl
      by false = other (CommittingOwn d stamp) refl refl

  from_commits : (d : Destruction) (stamp at : ℕ) → TurnFrom before command (committing_notices command d stamp at)
  from_commits d stamp at = by (nat_lt at (length d.staged)) (is_flushing command) refl
    where
      by : (b c : Bool) → is_flushing command ≡ c → TurnFrom before command (cond b (Goes (CommittingNotices d stamp at)) (cond c (Goes (Flushing (Some stamp))) (Ends (answer.Destroyed stamp))))
      by true c is = other (CommittingNotices d stamp at) refl refl
      by false true is = record { unstamped = λ no. absurd (cc no); flushing = λ flush. inr is }
      by false false is = tt

pub turn_from : (me : ℕ) (command : Command) (phase : Phase) (outcome : Outcome) → is_starting phase ≡ false → TurnFrom phase command (turn me command phase outcome)
turn_from me command Starting outcome on = absurd (cc on)
turn_from me command (Staging begun places collected) (out.Stage (Ok clock)) on = from_staging (Staging begun places collected) command begun (places ++ None ∷ []) (max collected clock)
turn_from me command (Staging begun places collected) (out.Stage (Err r)) on = from_place (Staging begun places collected) command begun places collected r (send_of command).go_on
turn_from me command (Unstaging begun places refused place) out.Unstage on = from_unstaging (Unstaging begun places refused place) command begun places refused (accepted_from (place + 1) places)
turn_from me command (Attaching sending place slot) (out.Attach got) on = from_attaching (Attaching sending place slot) command (with_slot sending place slot got) place (slot + 1)
turn_from me command (Stamping sending) (out.Stamp stamp) on = from_syncing (Stamping sending) command sending stamp (accepted_from 0 sending.places)
turn_from me command (Syncing sending stamp place) out.Sync on = from_syncing (Syncing sending stamp place) command sending stamp (accepted_from (place + 1) sending.places)
turn_from me command (Committing sending stamp place) (out.Commit found) on = other (Committing sending stamp place) command (Committing sending stamp (accepted_from (place + 1) sending.places)) refl refl
turn_from me command (Visiting d left) (out.Visit got) on = from_visiting (Visiting d left) command (with_visit d (get_or left 0 me) got) (drop 1 left) refl refl
turn_from me command (Dooming d) (out.StampDestroy (Ok stamp)) on = from_notices (Dooming d) command d stamp 0
turn_from me command (Dooming d) (out.StampDestroy (Err late)) on = from_visiting (Dooming d) command d late refl refl
turn_from me command (SyncingNotices d stamp at) out.Sync on = from_notices (SyncingNotices d stamp at) command d stamp (at + 1)
turn_from me command (CommittingOwn d stamp) out.CommitNotices on = from_commits (CommittingOwn d stamp) command d stamp 0
turn_from me command (CommittingNotices d stamp at) out.CommitNotices on = from_commits (CommittingNotices d stamp at) command d stamp (at + 1)
turn_from me command (Flushing stamp) (out.Flush dead) on = other (Flushing stamp) command (Reaping (answer.Reset stamp)) refl refl
turn_from me command phase outcome on = same phase command

-- ---- a first event

-- an answer that begins no destruction
abbrev pub NoBegin : Outcome → Type 0
NoBegin (out.BeginDestroy (Ok visit) doomed) = ⊥
NoBegin outcome = ⊤

pub other_started : (command : Command) (outcome : Outcome) → NoBegin outcome → TurnFrom Starting command (started command outcome)
other_started command (out.Begin (Ok begun)) none = other Starting command (Staging begun [] 0) refl refl
other_started command (out.Begin (Err r)) none = tt
other_started command (out.Recv got dead) none = other Starting command _ refl refl
other_started command (out.Release (Ok owed)) none = other Starting command Dropping refl refl
other_started command (out.Release (Err r)) none = tt
other_started command (out.BeginDestroy (Ok visit) doomed) none = absurd none
other_started command (out.BeginDestroy (Err r) doomed) none = tt
other_started command (out.Local got) none = tt
other_started command outcome none = same Starting command

abbrev pub begins_destroy : Action → Bool
begins_destroy act.BeginDestroy = true
begins_destroy action = false

begin_none : (r : Option Reason) (memory : Bool) (c : SendCmd) (x : PeerPart) → NoBegin (begin_by r memory c x).0
begin_none (Some r) memory c x = tt
begin_none None true c x = tt
begin_none None false c x = tt

stage_none : (r : Option Reason) (memory : Bool) (origin user place serial : ℕ) (payload : List ℕ) (nodes : List NodeRef) (x : PeerPart) → NoBegin (stage_by r memory origin user place serial payload nodes x).0
stage_none (Some r) memory origin user place serial payload nodes x = tt
stage_none None true origin user place serial payload nodes x = tt
stage_none None false origin user place serial payload nodes x = tt

pub no_begin : (o : Opening) (memory : Bool) (d : DriverPart) (doing : Doing) (action : Action) (x : PeerPart) → begins_destroy action ≡ false → NoBegin (happens o memory d doing action x).0
no_begin o memory d doing act.BeginDestroy x is = absurd (cc is)
no_begin o memory d doing act.Begin x is = begin_none (send_refusal x (send_of doing.command)) memory (send_of doing.command) x
no_begin o memory d doing (act.Stage peer place) x is = stage_none _ memory _ _ _ _ _ _ x
no_begin o memory d doing action x is = tt
