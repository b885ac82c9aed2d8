-- When a step keeps the record legal: by the one call that it may add.
use Rattle.std.proofs.Common.{◌≡◌, refl, sym, subst, ◌∙◌, inl, inr, ℕ, Bool, false, List, [], Option, Some}
use Rattle.std.proofs.lemmas.Option.{same_Some}
use Rattle.b1_model.specs.declared.commands.Command.{Command}
use Rattle.b1_model.specs.declared.naming.Opening.{Opening}
use Rattle.b1_model.specs.declared.answers.Answer.{Answer}
use Rattle.b1_model.specs.declared.events.Action.TheVariants as act
use Rattle.b1_model.specs.declared.events.Destruction.{Destruction}
use Rattle.b1_model.specs.declared.events.OwedDrop.{OwedDrop}
use Rattle.b1_model.specs.declared.events.Phase.{Phase}
use Rattle.b1_model.specs.declared.events.Phase.TheVariants.{Starting, Staging, Unstaging, Attaching, Stamping, Syncing, Committing, Dropping, Reaping, Visiting, Dooming, SyncingNotices, CommittingOwn, CommittingNotices, Flushing}
use Rattle.b1_model.specs.declared.events.Sending.{Sending}
use Rattle.b1_model.specs.Legal.{Legal}
use Rattle.b1_model.specs.MachineParts.{PeerPart, State}
use Rattle.b1_model.specs.MachineSend.{final_stamp}
use Rattle.b1_model.specs.MachineReceive.{received}
use Rattle.b1_model.specs.MachineDriver.{first_action, recv_answer}
use Rattle.b1_model.specs.MachineTook.{stamped_answer, sent_answer}
use Rattle.b1_model.specs.MachineStep.{Step, record_of_state}
use Rattle.b1_inv.specs.Sound.{IsSound}
use Rattle.b1_ledger.specs.Growth.{Appends}
use Rattle.b1_ledger.proofs.Plain.{legal_plain}
use Rattle.b1_inv_notices.proofs.Turns.{parts}
use Rattle.b1_inv_legal.proofs.Fixes.{IsPlain, IsPlainIf, MayFix, event_fixes}
use Rattle.b1_inv_legal.proofs.Grown.{now_fixed, call_with, legal_by}

-- what follows of each kind of fixed answer
pub record Follows (Goal : Answer → Type 0) (owed : List OwedDrop) (shut : Bool) (x : PeerPart) (command : Command) (phase : Phase) : Type 0 where
  pub plain : (got : Answer) → IsPlain got → Goal got
  pub taken : phase ≡ Starting → owed ≡ [] → shut ≡ false → first_action command ≡ act.Recv → Goal (recv_answer (received x))
  pub sent : (sending : Sending) → phase ≡ Stamping sending → owed ≡ [] → Goal (sent_answer sending (final_stamp x sending.collected))
  pub doomed : (d : Destruction) → phase ≡ Dooming d → owed ≡ [] → x.late ≡ [] → Goal (stamped_answer command (final_stamp x d.collected))

module _ (Goal : Answer → Type 0) (owed : List OwedDrop) (shut : Bool) (x : PeerPart) (command : Command) where
  plain_if : (phase : Phase) (fixed : Option Answer) (got : Answer) → fixed ≡ Some got → Follows Goal owed shut x command phase → IsPlainIf fixed → Goal got
  plain_if phase fixed got is follows plain = follows.plain got (subst IsPlainIf is plain)

  the_same : (fixed : Option Answer) (got this : Answer) → fixed ≡ Some got → fixed ≡ Some this → Goal this → Goal got
  the_same fixed got this is also goal = subst Goal (same_Some this got (sym also ∙ is)) goal

  -- what follows of the answer that an event fixed
  pub follows_fixed : (phase : Phase) (fixed : Option Answer) (got : Answer) → fixed ≡ Some got → Follows Goal owed shut x command phase → MayFix owed shut x command phase fixed → Goal got
  follows_fixed Starting fixed got is follows (inl plain) = plain_if Starting fixed got is follows plain
  follows_fixed Starting fixed got is follows (inr taken) = the_same fixed got (recv_answer (received x)) is taken.3 (follows.taken refl taken.0 taken.1 taken.2)
  follows_fixed (Stamping sending) fixed got is follows (inl plain) = plain_if (Stamping sending) fixed got is follows plain
  follows_fixed (Stamping sending) fixed got is follows (inr sent) = the_same fixed got (sent_answer sending (final_stamp x sending.collected)) is sent.1 (follows.sent sending refl sent.0)
  follows_fixed (Dooming d) fixed got is follows (inl plain) = plain_if (Dooming d) fixed got is follows plain
  follows_fixed (Dooming d) fixed got is follows (inr doomed) = the_same fixed got (stamped_answer command (final_stamp x d.collected)) is doomed.2 (follows.doomed d refl doomed.0 doomed.1)
  follows_fixed (Staging begun places collected) fixed got is follows plain = plain_if (Staging begun places collected) fixed got is follows plain
  follows_fixed (Unstaging begun places refused place) fixed got is follows plain = plain_if (Unstaging begun places refused place) fixed got is follows plain
  follows_fixed (Attaching sending place slot) fixed got is follows plain = plain_if (Attaching sending place slot) fixed got is follows plain
  follows_fixed (Syncing sending stamp place) fixed got is follows plain = plain_if (Syncing sending stamp place) fixed got is follows plain
  follows_fixed (Committing sending stamp place) fixed got is follows plain = plain_if (Committing sending stamp place) fixed got is follows plain
  follows_fixed Dropping fixed got is follows plain = plain_if Dropping fixed got is follows plain
  follows_fixed (Reaping answer) fixed got is follows plain = plain_if (Reaping answer) fixed got is follows plain
  follows_fixed (Visiting d left) fixed got is follows plain = plain_if (Visiting d left) fixed got is follows plain
  follows_fixed (SyncingNotices d stamp at) fixed got is follows plain = plain_if (SyncingNotices d stamp at) fixed got is follows plain
  follows_fixed (CommittingOwn d stamp) fixed got is follows plain = plain_if (CommittingOwn d stamp) fixed got is follows plain
  follows_fixed (CommittingNotices d stamp at) fixed got is follows plain = plain_if (CommittingNotices d stamp at) fixed got is follows plain
  follows_fixed (Flushing stamp) fixed got is follows plain = plain_if (Flushing stamp) fixed got is follows plain

module _ {o : Opening} {s : State} {p : ℕ} {c : Option Command} {t : State} (sound : IsSound o s) (step : Step o s p c t) (legal : Legal o (record_of_state s)) where
  -- the record with a call of this answer is legal
  abbrev pub StaysLegal : Answer → Type 0
  StaysLegal got = Appends (record_of_state s) (record_of_state t) p (call_with sound step got) → Legal o (record_of_state t)

  -- a plain answer keeps the record legal
  pub plain_stays : (got : Answer) → IsPlain got → StaysLegal got
  plain_stays got plain more = legal_plain o (record_of_state s) (record_of_state t) p (call_with sound step got) more legal plain.0 plain.1

  -- a step keeps the record legal, where each kind of answer does
  pub step_legal : Follows StaysLegal step.driver.owed step.driver.shut step.peer (parts step).command (parts step).phase → Legal o (record_of_state t)
  step_legal follows = legal_by sound step legal (λ got none fixed more.
      follows_fixed StaysLegal step.driver.owed step.driver.shut step.peer (parts step).command (parts step).phase (now_fixed sound step) got fixed follows
      (event_fixes o step.local.memory step.driver step.peer (parts step).command (parts step).phase step.driver.owed none) more)
