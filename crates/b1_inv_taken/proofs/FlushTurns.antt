-- Which event fixes the answer of a flush; every other one adds no call that flushes.
use Rattle.std.proofs.Common.{◌≡◌, refl, sym, ap, subst, ◌∙◌, inl, inr, ℕ, ◌+◌, ◌⊎◌, Bool, true, false, cond, nat_lt, List, [], ◌∷◌, length, drop, get_or, Some, Ok, Err}
use Rattle.std.specs.Prelude.{⊤}
use Rattle.b1_model.specs.declared.commands.Command.{Command}
use Rattle.b1_model.specs.declared.answers.Answer.TheVariants as answer
use Rattle.b1_model.specs.declared.events.Destruction.{Destruction}
use Rattle.b1_model.specs.declared.events.Outcome.{Outcome}
use Rattle.b1_model.specs.declared.events.Outcome.TheVariants as out
use Rattle.b1_model.specs.declared.events.Phase.{Phase}
use Rattle.b1_model.specs.declared.events.Phase.TheVariants.{Starting, Staging, Unstaging, Attaching, Stamping, Syncing, Committing, Dropping, Reaping, Visiting, Dooming, SyncingNotices, CommittingOwn, CommittingNotices, Flushing}
use Rattle.b1_model.specs.declared.records.Call.{Call}
use Rattle.b1_model.specs.MachineDriver.{visiting, with_visit, syncing_notices, committing_notices, is_flushing, started, Turn, Goes, Ends, turn}
use Rattle.b1_model.specs.MachineTook.{answer_of, call_of, fixed_call, stamped_answer}
use Rattle.b1_inv_record.specs.Epochs.{awaits_flush}
use Rattle.b1_inv_destroys.proofs.FirstNode.{Adds, NoFlush, BringsMild, left_of, left_turn, add_turn}
use Rattle.b1_inv_record.specs.Dooming.{is_ending}
use Rattle.b1_inv_names.proofs.Dooming.{From, from_turn}

-- the call that an open command stands for, behind a turn
abbrev pub open_turn : Command → Turn → List Call
open_turn command (Goes phase) = fixed_call command (answer_of command phase)
open_turn command (Ends got) = call_of command got

abbrev pub awaits_turn : Command → Turn → Bool
awaits_turn command (Goes phase) = awaits_flush command phase
awaits_turn command (Ends got) = false

-- a reset or a disconnect gets its stamp, or has no node to destroy
abbrev pub IsFlushTurn : Command → Phase → Outcome → Type 0
IsFlushTurn command Starting (out.BeginDestroy (Ok visit) []) = ⊤
IsFlushTurn command (Dooming d) (out.StampDestroy (Ok stamp)) = is_flushing command ≡ true
IsFlushTurn command phase outcome = ⊥

module _ (command : Command) where
  -- where no flush is awaited, what the open command stands for is what is left of it
  unawaited : (phase : Phase) → awaits_flush command phase ≡ false → left_of command phase ≡ fixed_call command (answer_of command phase)
  unawaited phase none = ap (λ b. cond b [] (fixed_call command (answer_of command phase))) none

  unawaited_turn : (to : Turn) → awaits_turn command to ≡ false → left_turn command to ≡ open_turn command to
  unawaited_turn (Goes phase) none = unawaited phase none
  unawaited_turn (Ends got) none = refl

  same_stamped : (d : Destruction) (stamp at : ℕ) → answer_of command (syncing_notices d stamp at) ≡ Some (stamped_answer command stamp)
  same_stamped d stamp at = by (nat_lt at (length d.staged))
    where
      by : (b : Bool) → answer_of command (cond b (SyncingNotices d stamp at) (CommittingOwn d stamp)) ≡ Some (stamped_answer command stamp)
      by true = refl
      by false = refl

  same_committing : (d : Destruction) (stamp at : ℕ) → open_turn command (committing_notices command d stamp at) ≡ call_of command (stamped_answer command stamp)
  same_committing d stamp at = by (nat_lt at (length d.staged)) (is_flushing command) refl
    where
      by : (b c : Bool) → is_flushing command ≡ c → open_turn command (cond b (Goes (CommittingNotices d stamp at)) (cond c (Goes (Flushing (Some stamp))) (Ends (answer.Destroyed stamp)))) ≡ call_of command (stamped_answer command stamp)
      by true c is = refl
      by false true is = ap (λ b. call_of command (cond b (answer.Reset (Some stamp)) (answer.Destroyed stamp))) (sym is)
      by false false is = ap (λ b. call_of command (cond b (answer.Reset (Some stamp)) (answer.Destroyed stamp))) (sym is)

  -- while a flush is awaited its answer stays
  stays_awaited : (me : ℕ) (phase : Phase) (outcome : Outcome) → awaits_flush command phase ≡ true → open_turn command (turn me command phase outcome) ≡ fixed_call command (answer_of command phase)
  stays_awaited me (SyncingNotices d stamp at) out.Sync is = ap (fixed_call command) (same_stamped d stamp (at + 1))
  stays_awaited me (CommittingOwn d stamp) out.CommitNotices is = same_committing d stamp 0
  stays_awaited me (CommittingNotices d stamp at) out.CommitNotices is = same_committing d stamp (at + 1)
  stays_awaited me (Flushing stamp) (out.Flush dead) is = refl
  stays_awaited me Starting outcome is = absurd (cc is)
  stays_awaited me (Staging begun places collected) outcome is = absurd (cc is)
  stays_awaited me (Unstaging begun places refused place) outcome is = absurd (cc is)
  stays_awaited me (Attaching sending place slot) outcome is = absurd (cc is)
  stays_awaited me (Stamping sending) outcome is = absurd (cc is)
  stays_awaited me (Syncing sending stamp place) outcome is = absurd (cc is)
  stays_awaited me (Committing sending stamp place) outcome is = absurd (cc is)
  stays_awaited me Dropping outcome is = absurd (cc is)
  stays_awaited me (Reaping got) outcome is = absurd (cc is)
  stays_awaited me (Visiting d left) outcome is = absurd (cc is)
  stays_awaited me (Dooming d) outcome is = absurd (cc is)
  stays_awaited me phase outcome is = refl

  awaits_ends : (phase : Phase) → awaits_flush command phase ≡ true → is_ending phase ≡ true
  awaits_ends (SyncingNotices d stamp at) is = refl
  awaits_ends (CommittingOwn d stamp) is = refl
  awaits_ends (CommittingNotices d stamp at) is = refl
  awaits_ends (Flushing stamp) is = refl
  awaits_ends phase is = absurd (cc is)

  turn_ends : (b : Bool) (to : Turn) → From b to → awaits_turn command to ≡ true → b ≡ true
  turn_ends b (Goes phase) from is = from (awaits_ends phase is)
  turn_ends b (Ends got) from is = absurd (cc is)

  not_visiting : (d : Destruction) (left : List ℕ) → awaits_flush command (visiting d left) ≡ false
  not_visiting d [] = refl
  not_visiting d (peer ∷ rest) = refl

  both : {X : Type 0} (b : Bool) → b ≡ false → b ≡ true → X
  both true none is = absurd (cc none)
  both false none is = absurd (cc is)

  stamped_awaits : (d : Destruction) (stamp at : ℕ) → awaits_flush command (syncing_notices d stamp at) ≡ is_flushing command
  stamped_awaits d stamp at = by (nat_lt at (length d.staged))
    where
      by : (b : Bool) → awaits_flush command (cond b (SyncingNotices d stamp at) (CommittingOwn d stamp)) ≡ is_flushing command
      by true = refl
      by false = refl

  commits_await : (d : Destruction) (stamp at : ℕ) → is_flushing command ≡ false → awaits_turn command (committing_notices command d stamp at) ≡ false
  commits_await d stamp at none = by (nat_lt at (length d.staged)) (is_flushing command) none
    where
      by : (b c : Bool) → c ≡ false → awaits_turn command (cond b (Goes (CommittingNotices d stamp at)) (cond c (Goes (Flushing (Some stamp))) (Ends (answer.Destroyed stamp)))) ≡ false
      by true c is = none
      by false true is = absurd (cc is)
      by false false is = refl

  started_awaits : (outcome : Outcome) → awaits_turn command (started command outcome) ≡ true → IsFlushTurn command Starting outcome
  started_awaits (out.BeginDestroy (Ok visit) []) is = tt
  started_awaits (out.BeginDestroy (Ok visit) (serial ∷ rest)) is = both (awaits_flush command (visiting (record { doomed = serial ∷ rest; collected = 0; staged = [] }) visit)) (not_visiting (record { doomed = serial ∷ rest; collected = 0; staged = [] }) visit) is
  started_awaits (out.BeginDestroy (Err r) doomed) is = absurd (cc is)
  started_awaits (out.Begin (Ok begun)) is = absurd (cc is)
  started_awaits (out.Begin (Err r)) is = absurd (cc is)
  started_awaits (out.Release (Ok owed)) is = absurd (cc is)
  started_awaits (out.Release (Err r)) is = absurd (cc is)
  started_awaits (out.Recv got dead) is = absurd (cc is)
  started_awaits (out.Local got) is = absurd (cc is)
  started_awaits outcome is = absurd (cc is)

  -- only the stamp of a reset or a disconnect, or its begin where no node is to be destroyed, leads to a phase that awaits the flush
  begins_awaiting : (me : ℕ) (phase : Phase) (outcome : Outcome) → is_ending phase ≡ true → awaits_flush command phase ≡ false → awaits_turn command (turn me command phase outcome) ≡ true → IsFlushTurn command phase outcome
  begins_awaiting me (Visiting d left) (out.Visit got) ends none is = both _ (not_visiting (with_visit d (get_or left 0 me) got) (drop 1 left)) is
  begins_awaiting me (Dooming d) (out.StampDestroy (Ok stamp)) ends none is = sym (stamped_awaits d stamp 0) ∙ is
  begins_awaiting me (Dooming d) (out.StampDestroy (Err late)) ends none is = both _ (not_visiting d late) is
  begins_awaiting me (SyncingNotices d stamp at) out.Sync ends none is = both _ (stamped_awaits d stamp (at + 1) ∙ none) is
  begins_awaiting me (CommittingOwn d stamp) out.CommitNotices ends none is = both _ (commits_await d stamp 0 none) is
  begins_awaiting me (CommittingNotices d stamp at) out.CommitNotices ends none is = both _ (commits_await d stamp (at + 1) none) is
  begins_awaiting me (Flushing stamp) outcome ends none is = absurd (cc none)
  begins_awaiting me (Visiting d left) outcome ends none is = absurd (cc is)
  begins_awaiting me (Dooming d) outcome ends none is = absurd (cc is)
  begins_awaiting me (SyncingNotices d stamp at) outcome ends none is = both _ none is
  begins_awaiting me (CommittingOwn d stamp) outcome ends none is = both _ none is
  begins_awaiting me (CommittingNotices d stamp at) outcome ends none is = both _ none is
  begins_awaiting me phase outcome ends none is = absurd (cc ends)

  flush_turn : (me : ℕ) (phase : Phase) (outcome : Outcome) → awaits_flush command phase ≡ false → awaits_turn command (turn me command phase outcome) ≡ true → IsFlushTurn command phase outcome
  flush_turn me Starting outcome none is = started_awaits outcome is
  flush_turn me phase outcome none is = begins_awaiting me phase outcome (turn_ends (is_ending phase) (turn me command phase outcome) (from_turn me command phase outcome refl) is) none is

  unflushed : (phase : Phase) (outcome : Outcome) → awaits_flush command phase ≡ false → NoFlush phase outcome
  unflushed (Flushing stamp) outcome none = absurd (cc none)
  unflushed phase outcome none = tt

  -- an event fixes the answer of a flush, or leaves the open command's call, or adds one that doesn't flush
  pub turn_calls : (me : ℕ) (phase : Phase) (outcome : Outcome) → BringsMild outcome → Adds (fixed_call command (answer_of command phase)) (open_turn command (turn me command phase outcome)) ⊎ IsFlushTurn command phase outcome
  turn_calls me phase outcome brings = by (awaits_flush command phase) refl (awaits_turn command (turn me command phase outcome)) refl
    where
      by : (b : Bool) → awaits_flush command phase ≡ b → (c : Bool) → awaits_turn command (turn me command phase outcome) ≡ c → Adds (fixed_call command (answer_of command phase)) (open_turn command (turn me command phase outcome)) ⊎ IsFlushTurn command phase outcome
      by true is c to = inl (inl (stays_awaited me phase outcome is))
      by false none true to = inr (flush_turn me phase outcome none to)
      by false none false to =
          inl (subst (λ new. Adds (fixed_call command (answer_of command phase)) new) (unawaited_turn (turn me command phase outcome) to)
          (subst (λ old. Adds old (left_turn command (turn me command phase outcome))) (unawaited phase none) (add_turn command me phase outcome (unflushed phase outcome none) brings)))
