-- Which answer of its call an event's answer fixes.
use Rattle.std.proofs.Common.{◌≡◌, ◌⊎◌, refl, ap, inl, inr, ℕ, ◌+◌, Bool, true, false, cond, ◌&&◌, nat_lt, List, [], ◌∷◌, ◌++◌, drop, get_or, length, Option, Some, None, Ok, Err}
use Rattle.b1_model.specs.declared.commands.Command.{Command}
use Rattle.b1_model.specs.declared.answers.Answer.{Answer}
use Rattle.b1_model.specs.declared.answers.Answer.TheVariants as answer
use Rattle.b1_model.specs.declared.answers.Reason.{Reason}
use Rattle.b1_model.specs.declared.answers.Reason.TheVariants.{Memory, Invalid}
use Rattle.b1_model.specs.declared.answers.Refused.{Refused}
use Rattle.b1_model.specs.declared.parts.Begun.{Begun}
use Rattle.b1_model.specs.declared.events.Destruction.{Destruction}
use Rattle.b1_model.specs.declared.events.Outcome.{Outcome}
use Rattle.b1_model.specs.declared.events.Outcome.TheVariants as out
use Rattle.b1_model.specs.declared.events.Phase.{Phase}
use Rattle.b1_model.specs.declared.events.Phase.TheVariants.{Starting, Staging, Unstaging, Attaching, Stamping, Syncing, Committing, Visiting, Dooming, SyncingNotices, CommittingOwn, CommittingNotices, Flushing}
use Rattle.b1_model.specs.declared.events.Sending.{Sending}
use Rattle.b1_model.specs.MachineDriver.{accepted_from, is_place, attaching, with_slot, all_staged, staging, all_refused, memory_place, refused_at, unstaging, syncing, visiting, with_visit, syncing_notices, committing_notices, destroying, is_flushing, send_of, recv_answer, started, turn, Turn, Goes, Ends}
use Rattle.b1_model.specs.MachineTook.{answer_of, sent_answer, stamped_answer}

-- the answer that a turn leaves fixed, or ends with
abbrev pub turn_answer : Command → Turn → Option Answer
turn_answer command (Goes phase) = answer_of command phase
turn_answer command (Ends got) = Some got

-- the refusal of a call
abbrev pub IsRefusal : Answer → Type 0
IsRefusal got = (refused : Refused) × (got ≡ answer.Refused refused)

-- what an event's answer fixes as its call's answer: a refusal, what a RECV took or found, a release, a flush without nodes, a local command's, the stamp of a SEND or of a destruction
abbrev pub Fixes : Command → Phase → Outcome → Answer → Type 0
Fixes command Starting (out.Begin (Err r)) got = got ≡ refused_at r None
Fixes command Starting (out.Recv front dead) got = got ≡ recv_answer front
Fixes command Starting (out.Release (Ok owed)) got = got ≡ answer.Done
Fixes command Starting (out.Release (Err r)) got = got ≡ refused_at r None
Fixes command Starting (out.BeginDestroy (Ok visit) doomed) got = (doomed ≡ []) × (got ≡ answer.Reset None)
Fixes command Starting (out.BeginDestroy (Err r) doomed) got = got ≡ refused_at r None
Fixes command Starting (out.Local result) got = got ≡ result
Fixes command (Staging begun places collected) (out.Stage result) got = IsRefusal got
Fixes command (Stamping sending) (out.Stamp stamp) got = got ≡ sent_answer sending stamp
Fixes command (Dooming destruction) (out.StampDestroy (Ok stamp)) got = got ≡ stamped_answer command stamp
Fixes command phase outcome got = ⊥

-- the fixed answer stays, or there was none and the event's answer fixes it
abbrev pub Answers : Command → Phase → Outcome → Option Answer → Type 0
Answers command phase outcome after = (after ≡ answer_of command phase) ⊎ ((answer_of command phase ≡ None) × ((got : Answer) × (after ≡ Some got) × Fixes command phase outcome got))

-- no answer is fixed
no_answer_attaching : (command : Command) (sending : Sending) (place slot : ℕ) → answer_of command (attaching sending place slot) ≡ None
no_answer_attaching command sending place slot = by (nat_lt slot (length sending.begun.with)) (nat_lt 0 (length sending.begun.with) && is_place (accepted_from (place + 1) sending.places) sending.places) (accepted_from (place + 1) sending.places)
  where
    by : (b c : Bool) (next : ℕ) → answer_of command (cond b (Attaching sending place slot) (cond c (Attaching sending next 0) (Stamping sending))) ≡ None
    by true c next = refl
    by false true next = refl
    by false false next = refl

no_answer_visiting : (command : Command) (d : Destruction) (left : List ℕ) → answer_of command (visiting d left) ≡ None
no_answer_visiting command d [] = refl
no_answer_visiting command d (peer ∷ rest) = refl

-- no answer, or a refusal
abbrev RefusesAtMost : Option Answer → Type 0
RefusesAtMost after = (after ≡ None) ⊎ ((got : Answer) × (after ≡ Some got) × IsRefusal got)

all_are_refused : (places : List (Option Reason)) → IsRefusal (all_refused places)
all_are_refused places = by (memory_place 0 places) (get_or places 0 None)
  where
    by : (memory : Option ℕ) (first : Option Reason) → IsRefusal (elim memory [ Some place ↦ refused_at Memory (Some place) | None ↦ elim first [ None ↦ refused_at Invalid None | Some r ↦ refused_at r (Some 0) ] ])
    by (Some place) first = (record { reason = Memory; place = Some place }, refl)
    by None None = (record { reason = Invalid; place = None }, refl)
    by None (Some r) = (record { reason = r; place = Some 0 }, refl)

module _ (command : Command) where
  at_staging : (begun : Begun) (places : List (Option Reason)) (collected : ℕ) → RefusesAtMost (turn_answer command (staging begun places collected))
  at_staging begun places collected = by (nat_lt (length places) (length begun.to)) (is_place (accepted_from 0 places) places)
    where
      by : (b c : Bool) → RefusesAtMost (turn_answer command (cond b (Goes (Staging begun places collected)) (cond c (Goes (attaching (all_staged begun places collected) (accepted_from 0 places) 0)) (Ends (all_refused places)))))
      by true c = inl refl
      by false true = inl (no_answer_attaching command (all_staged begun places collected) (accepted_from 0 places) 0)
      by false false = inr (all_refused places, refl, all_are_refused places)

  same_unstaging : (begun : Begun) (places : List (Option Reason)) (refused : Refused) (place : ℕ) → turn_answer command (unstaging begun places refused place) ≡ Some (answer.Refused refused)
  same_unstaging begun places refused place = elim (is_place place places) as (λ b. turn_answer command (cond b (Goes (Unstaging begun places refused place)) (Ends (answer.Refused refused))) ≡ Some (answer.Refused refused)) [ true ↦ refl | false ↦ refl ]

  at_place : (r : Reason) (begun : Begun) (places : List (Option Reason)) (collected : ℕ) (go_on : Bool)
      → RefusesAtMost (turn_answer command (cond go_on (staging begun (places ++ Some r ∷ []) collected) (unstaging begun (places ++ Some r ∷ []) (record { reason = r; place = Some (length places) }) (accepted_from 0 (places ++ Some r ∷ [])))))
  at_place r begun places collected true = at_staging begun (places ++ Some r ∷ []) collected
  at_place r begun places collected false =
      inr (answer.Refused (record { reason = r; place = Some (length places) }), same_unstaging begun (places ++ Some r ∷ []) (record { reason = r; place = Some (length places) }) (accepted_from 0 (places ++ Some r ∷ [])), (record { reason = r; place = Some (length places) }, refl))

  same_syncing : (sending : Sending) (stamp place : ℕ) → answer_of command (syncing sending stamp place) ≡ Some (sent_answer sending stamp)
  same_syncing sending stamp place = elim (is_place place sending.places) as (λ b. answer_of command (cond b (Syncing sending stamp place) (Committing sending stamp (accepted_from 0 sending.places))) ≡ Some (sent_answer sending stamp)) [ true ↦ refl | false ↦ refl ]

  same_notices : (d : Destruction) (stamp at : ℕ) → answer_of command (syncing_notices d stamp at) ≡ Some (stamped_answer command stamp)
  same_notices d stamp at = elim (nat_lt at (length d.staged)) as (λ b. answer_of command (cond b (SyncingNotices d stamp at) (CommittingOwn d stamp)) ≡ Some (stamped_answer command stamp)) [ true ↦ refl | false ↦ refl ]

  same_commits : (d : Destruction) (stamp at : ℕ) → turn_answer command (committing_notices command d stamp at) ≡ Some (stamped_answer command stamp)
  same_commits d stamp at = by (nat_lt at (length d.staged)) (is_flushing command) refl
    where
      by : (b c : Bool) → is_flushing command ≡ c → turn_answer command (cond b (Goes (CommittingNotices d stamp at)) (cond c (Goes (Flushing (Some stamp))) (Ends (answer.Destroyed stamp)))) ≡ Some (cond c (answer.Reset (Some stamp)) (answer.Destroyed stamp))
      by true c is = ap (λ z. Some (cond z (answer.Reset (Some stamp)) (answer.Destroyed stamp))) is
      by false true is = refl
      by false false is = refl

  -- no answer, or that of a flush without nodes
  at_destroying : (visit doomed : List ℕ) → Answers command Starting (out.BeginDestroy (Ok visit) doomed) (answer_of command (destroying doomed visit))
  at_destroying visit [] = inr (refl, (answer.Reset None, refl, (refl, refl)))
  at_destroying visit (serial ∷ rest) = inl (no_answer_visiting command (record { doomed = serial ∷ rest; collected = 0; staged = [] }) visit)

  at_start : (outcome : Outcome) → Answers command Starting outcome (turn_answer command (started command outcome))
  at_start (out.Begin (Ok begun)) = inl refl
  at_start (out.Begin (Err r)) = inr (refl, (refused_at r None, refl, refl))
  at_start (out.Recv got dead) = inr (refl, (recv_answer got, refl, refl))
  at_start (out.Release (Ok owed)) = inr (refl, (answer.Done, refl, refl))
  at_start (out.Release (Err r)) = inr (refl, (refused_at r None, refl, refl))
  at_start (out.BeginDestroy (Ok visit) doomed) = at_destroying visit doomed
  at_start (out.BeginDestroy (Err r) doomed) = inr (refl, (refused_at r None, refl, refl))
  at_start (out.Local got) = inr (refl, (got, refl, refl))
  at_start outcome = inl refl

  at_most : (begun : Begun) (places : List (Option Reason)) (collected : ℕ) (after : Option Answer) → RefusesAtMost after → (got : Outcome) → ((one : Answer) → IsRefusal one → Fixes command (Staging begun places collected) got one) → Answers command (Staging begun places collected) got after
  at_most begun places collected after (inl none) got fixes = inl none
  at_most begun places collected after (inr (one, is, refusal)) got fixes = inr (refl, (one, is, fixes one refusal))

  -- what an event's answer makes of the fixed answer
  pub turn_answers : (me : ℕ) (phase : Phase) (outcome : Outcome) → Answers command phase outcome (turn_answer command (turn me command phase outcome))
  turn_answers me Starting outcome = at_start outcome
  turn_answers me (Staging begun places collected) (out.Stage (Ok clock)) = at_most begun places collected _ (at_staging begun (places ++ None ∷ []) _) (out.Stage (Ok clock)) (λ one is. is)
  turn_answers me (Staging begun places collected) (out.Stage (Err r)) = at_most begun places collected _ (at_place r begun places collected (send_of command).go_on) (out.Stage (Err r)) (λ one is. is)
  turn_answers me (Unstaging begun places refused place) out.Unstage = inl (same_unstaging begun places refused (accepted_from (place + 1) places))
  turn_answers me (Attaching sending place slot) (out.Attach got) = inl (no_answer_attaching command (with_slot sending place slot got) place (slot + 1))
  turn_answers me (Stamping sending) (out.Stamp stamp) = inr (refl, (sent_answer sending stamp, same_syncing sending stamp (accepted_from 0 sending.places), refl))
  turn_answers me (Syncing sending stamp place) out.Sync = inl (same_syncing sending stamp (accepted_from (place + 1) sending.places))
  turn_answers me (Committing sending stamp place) (out.Commit found) = inl refl
  turn_answers me (Visiting d left) (out.Visit got) = inl (no_answer_visiting command (with_visit d (get_or left 0 me) got) (drop 1 left))
  turn_answers me (Dooming d) (out.StampDestroy (Ok stamp)) = inr (refl, (stamped_answer command stamp, same_notices d stamp 0, refl))
  turn_answers me (Dooming d) (out.StampDestroy (Err late)) = inl (no_answer_visiting command d late)
  turn_answers me (SyncingNotices d stamp at) out.Sync = inl (same_notices d stamp (at + 1))
  turn_answers me (CommittingOwn d stamp) out.CommitNotices = inl (same_commits d stamp 0)
  turn_answers me (CommittingNotices d stamp at) out.CommitNotices = inl (same_commits d stamp (at + 1))
  turn_answers me (Flushing stamp) (out.Flush dead) = inl refl
  turn_answers me phase outcome = inl refl
