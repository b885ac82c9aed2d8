-- The record of a state grows by one call at most: a fixed answer stays, and closing a command changes nothing.
use Rattle.std.proofs.Common.{◌≡◌, refl, sym, ap, ◌∙◌, inl, inr, ℕ, ◌+◌, Bool, true, false, cond, List, [], ◌∷◌, ◌++◌, Option, Some, None, append-nil, subst}
use Rattle.b1_model.specs.declared.commands.Command.{Command}
use Rattle.b1_model.specs.declared.answers.Answer.{Answer}
use Rattle.b1_model.specs.declared.answers.Answer.TheVariants as answer
use Rattle.b1_model.specs.declared.answers.Refused.{Refused}
use Rattle.b1_model.specs.declared.answers.Reason.{Reason}
use Rattle.b1_model.specs.declared.parts.Begun.{Begun}
use Rattle.b1_model.specs.declared.records.Call.{Call}
use Rattle.b1_model.specs.declared.events.Outcome.{Outcome}
use Rattle.b1_model.specs.declared.events.Outcome.TheVariants as out
use Rattle.b1_model.specs.declared.events.Phase.{Phase}
use Rattle.b1_model.specs.declared.events.Phase.TheVariants.{Starting, Staging, Unstaging, Attaching, Stamping, Syncing, Committing, Visiting, Dooming, SyncingNotices, CommittingOwn, CommittingNotices, Flushing}
use Rattle.b1_model.specs.declared.events.Doing.{Doing}
use Rattle.b1_model.specs.declared.events.Sending.{Sending}
use Rattle.b1_model.specs.declared.events.Destruction.{Destruction}
use Rattle.b1_model.specs.MachineParts.{DriverPart}
use Rattle.b1_model.specs.MachineDriver.{is_place, accepted_from, Turn, Goes, Ends, turn, is_flushing}
use Rattle.b1_model.specs.MachineTook.{is_waiting, as_call, call_of, goes_by, is_done, answer_of, stamped_answer, sent_answer, turned, with_facts, took_by, took, fixed_call, open_by, driver_calls}
use Rattle.b1_step.specs.Fixed.{AtMostOneMore}

-- the answer that stands fixed after a turn
abbrev fixed_after : Command → Turn → Option Answer
fixed_after command (Goes phase) = answer_of command phase
fixed_after command (Ends got) = Some got

module _ (command : Command) where
  at_unstaging : (b : Bool) (begun : Begun) (places : List (Option Reason)) (refused : Refused) (place : ℕ) → fixed_after command (cond b (Goes (Unstaging begun places refused place)) (Ends (answer.Refused refused))) ≡ Some (answer.Refused refused)
  at_unstaging true begun places refused place = refl
  at_unstaging false begun places refused place = refl

  at_syncing : (b : Bool) (sending : Sending) (stamp place first : ℕ) → answer_of command (cond b (Syncing sending stamp place) (Committing sending stamp first)) ≡ Some (sent_answer sending stamp)
  at_syncing true sending stamp place first = refl
  at_syncing false sending stamp place first = refl

  at_notices : (b : Bool) (destruction : Destruction) (stamp at : ℕ) → answer_of command (cond b (SyncingNotices destruction stamp at) (CommittingOwn destruction stamp)) ≡ Some (stamped_answer command stamp)
  at_notices true destruction stamp at = refl
  at_notices false destruction stamp at = refl

  at_commits : (b c : Bool) (destruction : Destruction) (stamp at : ℕ) → c ≡ is_flushing command → fixed_after command (cond b (Goes (CommittingNotices destruction stamp at)) (cond c (Goes (Flushing (Some stamp))) (Ends (answer.Destroyed stamp)))) ≡ Some (stamped_answer command stamp)
  at_commits true c destruction stamp at is = refl
  at_commits false true destruction stamp at is = ap (λ b. Some (cond b (answer.Reset (Some stamp)) (answer.Destroyed stamp))) is
  at_commits false false destruction stamp at is = ap (λ b. Some (cond b (answer.Reset (Some stamp)) (answer.Destroyed stamp))) is

  -- an answer that is fixed stays
  stays_fixed : (me : ℕ) (phase : Phase) (outcome : Outcome) (got : Answer) → answer_of command phase ≡ Some got → fixed_after command (turn me command phase outcome) ≡ Some got
  stays_fixed me Starting outcome got is = absurd (cc is)
  stays_fixed me (Staging begun places collected) outcome got is = absurd (cc is)
  stays_fixed me (Attaching sending place slot) outcome got is = absurd (cc is)
  stays_fixed me (Stamping sending) outcome got is = absurd (cc is)
  stays_fixed me (Visiting destruction left) outcome got is = absurd (cc is)
  stays_fixed me (Dooming destruction) outcome got is = absurd (cc is)
  stays_fixed me (Unstaging begun places refused place) out.Unstage got is = at_unstaging (is_place (accepted_from (place + 1) places) places) begun places refused _ ∙ is
  stays_fixed me (Syncing sending stamp place) out.Sync got is = at_syncing (is_place (accepted_from (place + 1) sending.places) sending.places) sending stamp _ _ ∙ is
  stays_fixed me (Committing sending stamp place) (out.Commit found) got is = is
  stays_fixed me (SyncingNotices destruction stamp at) out.Sync got is = at_notices _ destruction stamp _ ∙ is
  stays_fixed me (CommittingOwn destruction stamp) out.CommitNotices got is = at_commits _ (is_flushing command) destruction stamp _ refl ∙ is
  stays_fixed me (CommittingNotices destruction stamp at) out.CommitNotices got is = at_commits _ (is_flushing command) destruction stamp _ refl ∙ is
  stays_fixed me (Flushing stamp) (out.Flush dead) got is = is
  stays_fixed me phase outcome got is = is

  -- the calls after a turn are those before it, and the call that is then fixed
  after_goes : (b : Bool) (got : Option Answer) (d : DriverPart) (phase : Phase) → got ≡ answer_of command phase → driver_calls (goes_by b got d command phase) ≡ d.calls ++ fixed_call command got
  after_goes false got d phase is = ap (λ a. d.calls ++ fixed_call command a) (sym is)
  after_goes true None d phase is = ap (λ a. d.calls ++ fixed_call command a) (sym is)
  after_goes true (Some got) d phase is = append-nil (d.calls ++ call_of command got)

  after_turn : (d : DriverPart) (t : Turn) → driver_calls (turned d command t) ≡ d.calls ++ fixed_call command (fixed_after command t)
  after_turn d (Goes phase) = after_goes (is_done d.owed d.told phase) (answer_of command phase) d phase refl
  after_turn d (Ends got) = append-nil (d.calls ++ call_of command got)

  one_call : (calls : List Call) (c : Call) (b : Bool) → AtMostOneMore (calls ++ []) (calls ++ cond b [] (c ∷ []))
  one_call calls c true = inl refl
  one_call calls c false = inr (c, ap (λ l. l ++ c ∷ []) (sym (append-nil calls)))

  one_more : (calls : List Call) (before after : Option Answer) → ((got : Answer) → before ≡ Some got → after ≡ Some got) → AtMostOneMore (calls ++ fixed_call command before) (calls ++ fixed_call command after)
  one_more calls (Some got) after stays = inl (ap (λ a. calls ++ fixed_call command a) (stays got refl))
  one_more calls None None stays = inl refl
  one_more calls None (Some got) stays = one_call calls (record { command = as_call command; answer = got }) (is_waiting command got)

took_one_more : (d : DriverPart) (doing : Option Doing) (outcome : Outcome) → AtMostOneMore (d.calls ++ open_by doing) (driver_calls (took_by (record d { doing = doing }) doing outcome))
took_one_more d None outcome = inl refl
took_one_more d (Some doing) outcome =
    let t = turn d.me doing.command doing.phase outcome in
    let grown = one_more doing.command d.calls (answer_of doing.command doing.phase) (fixed_after doing.command t) (λ got is. stays_fixed doing.command d.me doing.phase outcome got is) in
    subst (AtMostOneMore (d.calls ++ open_by (Some doing))) (sym (after_turn doing.command (with_facts (record d { doing = Some doing }) doing outcome) t)) grown

-- an answer adds one call at most to the calls that a driver's part stands for
pub calls_grow : (d : DriverPart) (outcome : Outcome) → AtMostOneMore (driver_calls d) (driver_calls (took d outcome))
calls_grow d outcome = took_one_more d d.doing outcome
