-- Destructions name own numbers alone: their begin refuses others, and no event changes an open command.
use Rattle.std.proofs.Common.{◌≡◌, refl, sym, ap, subst, ◌∙◌, inl, inr, ℕ, ◌+◌, Bool, true, false, cond, ◌&&◌, ◌||◌, ◌==◌, not, nat_lt, List, [], ◌∷◌, ◌++◌, length, get_or, Option, Some, None, Ok, Err, Result}
use Rattle.std.specs.Prelude.{⊤}
use Rattle.std.specs.List.{list_all, list_any}
use Rattle.std.proofs.lemmas.Option.{same_Some}
use Rattle.b1_model.specs.declared.limits.TheConstants.{MOST_DESTINATIONS}
use Rattle.b1_model.specs.declared.answers.Receipt.{Receipt}
use Rattle.b1_model.specs.declared.answers.Front.{Front}
use Rattle.b1_model.specs.declared.commands.Command.{Command}
use Rattle.b1_model.specs.declared.commands.Command.TheVariants as cmd
use Rattle.b1_model.specs.declared.commands.SendCmd.{SendCmd}
use Rattle.b1_model.specs.declared.naming.NodeRef.{NodeRef}
use Rattle.b1_model.specs.declared.naming.Opening.{Opening}
use Rattle.b1_model.specs.declared.answers.Answer.{Answer}
use Rattle.b1_model.specs.declared.answers.Answer.TheVariants as answer
use Rattle.b1_model.specs.declared.answers.Reason.{Reason}
use Rattle.b1_model.specs.declared.answers.Reason.TheVariants.{Unknown, Memory, Invalid, Again}
use Rattle.b1_model.specs.declared.answers.Refused.{Refused}
use Rattle.b1_model.specs.declared.parts.Begun.{Begun}
use Rattle.b1_model.specs.declared.parts.Received.{Received}
use Rattle.b1_model.specs.declared.events.Action.{Action}
use Rattle.b1_model.specs.declared.events.Action.TheVariants as act
use Rattle.b1_model.specs.declared.events.Destruction.{Destruction}
use Rattle.b1_model.specs.declared.events.Doing.{Doing}
use Rattle.b1_model.specs.declared.events.OwedDrop.{OwedDrop}
use Rattle.b1_model.specs.declared.events.Outcome.{Outcome}
use Rattle.b1_model.specs.declared.events.Outcome.TheVariants as out
use Rattle.b1_model.specs.declared.events.Phase.{Phase}
use Rattle.b1_model.specs.declared.events.Phase.TheVariants.{Starting, Staging, Unstaging, Attaching, Stamping, Syncing, Committing, Dropping, Reaping, Visiting, Dooming, SyncingNotices, CommittingOwn, CommittingNotices, Flushing}
use Rattle.b1_model.specs.declared.events.Sending.{Sending}
use Rattle.b1_model.specs.declared.records.Call.{Call}
use Rattle.b1_model.specs.Names.{is_own}
use Rattle.b1_model.specs.MachineParts.{PeerPart, DriverPart, State}
use Rattle.b1_model.specs.MachinePool.{is_received}
use Rattle.b1_model.specs.MachineSend.{send_refusal}
use Rattle.b1_model.specs.MachineReceive.{received}
use Rattle.b1_model.specs.MachineDestroy.{destroy_refusal, is_bad_destroy, has_repeat}
use Rattle.b1_model.specs.MachineDriver.{accepted_from, is_place, attaching, with_slot, all_staged, staging, all_refused, memory_place, refused_at, unstaging, syncing, committing_notices, destroying, is_flushing, send_of, recv_answer, started, turn, Turn, Goes, Ends}
use Rattle.b1_model.specs.MachineTook.{answer_of, is_waiting, as_call, call_of, goes_by, is_done, turned, with_facts, took}
use Rattle.b1_model.specs.MachineEvents.{happens, begin_by, stage_by, destroy_by, begin_refusal, begin_serials, local_answer}
use Rattle.b1_model.specs.MachineStep.{Step, opening_state}
use Rattle.b1_step.specs.Rights.{Has}
use Rattle.b1_step.proofs.Lists.{has_append}
use Rattle.b1_inv.specs.Words.{IsDriver}
use Rattle.b1_inv_tools.proofs.Leaves.{driver_cases}
use Rattle.b1_inv_tools.proofs.Openings.{opening_idle}
use Rattle.b1_inv_notices.proofs.Turns.{doing_in, opened, parts, going, going_doing, going_action, going_answer}
use Rattle.b1_inv_record.specs.Numbers.{names_own, is_destroy, may_destroy, DestroysOwn}
use Rattle.b1_inv_destroys.proofs.Dooms.{AllOwn}

-- ---- turns, where N is what a destruction needs

module _ (N : Type 0) where
  abbrev PhaseHas : Phase → Type 0
  PhaseHas phase = may_destroy phase ≡ true → N

  abbrev pub TurnHas : Turn → Type 0
  TurnHas (Goes phase) = PhaseHas phase
  TurnHas (Ends got) = is_destroy got ≡ true → N

  -- what an event's answer brings
  abbrev pub BringsHas : Outcome → Type 0
  BringsHas (out.Recv got dead) = is_destroy (recv_answer got) ≡ true → N
  BringsHas (out.BeginDestroy (Ok visit) doomed) = N
  BringsHas (out.Local got) = is_destroy got ≡ true → N
  BringsHas outcome = ⊤

  never : (phase : Phase) → may_destroy phase ≡ false → PhaseHas phase
  never phase none is = absurd (cc (sym is ∙ none))

  has_attaching : (sending : Sending) (place slot : ℕ) → PhaseHas (attaching sending place slot)
  has_attaching sending place slot = by (nat_lt slot (length sending.begun.with)) (nat_lt 0 (length sending.begun.with) && is_place (accepted_from (place + 1) sending.places) sending.places) (accepted_from (place + 1) sending.places)
    where
      by : (b c : Bool) (next : ℕ) → PhaseHas (cond b (Attaching sending place slot) (cond c (Attaching sending next 0) (Stamping sending)))
      by true c next = never (Attaching sending place slot) refl
      by false true next = never (Attaching sending next 0) refl
      by false false next = never (Stamping sending) refl

  has_refused : (places : List (Option Reason)) → is_destroy (all_refused places) ≡ true → N
  has_refused places = by (memory_place 0 places) (get_or places 0 None)
    where
      by : (memory : Option ℕ) (first : Option Reason) → is_destroy (elim memory [ Some place ↦ refused_at Memory (Some place) | None ↦ elim first [ None ↦ refused_at Invalid None | Some r ↦ refused_at r (Some 0) ] ]) ≡ true → N
      by (Some place) first is = absurd (cc is)
      by None None is = absurd (cc is)
      by None (Some r) is = absurd (cc is)

  has_staging : (begun : Begun) (places : List (Option Reason)) (collected : ℕ) → TurnHas (staging begun places collected)
  has_staging begun places collected = by (nat_lt (length places) (length begun.to)) (is_place (accepted_from 0 places) places)
    where
      by : (b c : Bool) → TurnHas (cond b (Goes (Staging begun places collected)) (cond c (Goes (attaching (all_staged begun places collected) (accepted_from 0 places) 0)) (Ends (all_refused places))))
      by true c = never (Staging begun places collected) refl
      by false true = has_attaching (all_staged begun places collected) (accepted_from 0 places) 0
      by false false = has_refused places

  has_unstaging : (begun : Begun) (places : List (Option Reason)) (refused : Refused) (place : ℕ) → TurnHas (unstaging begun places refused place)
  has_unstaging begun places refused place = elim (is_place place places) as (λ b. TurnHas (cond b (Goes (Unstaging begun places refused place)) (Ends (answer.Refused refused)))) [
    | true ↦ never (Unstaging begun places refused place) refl
    | false ↦ λ is. absurd (cc is)
  ]

  has_place : (r : Reason) (begun : Begun) (places : List (Option Reason)) (collected : ℕ) (go_on : Bool)
      → TurnHas (cond go_on (staging begun (places ++ Some r ∷ []) collected) (unstaging begun (places ++ Some r ∷ []) (record { reason = r; place = Some (length places) }) (accepted_from 0 (places ++ Some r ∷ []))))
  has_place r begun places collected true = has_staging begun (places ++ Some r ∷ []) collected
  has_place r begun places collected false = has_unstaging begun (places ++ Some r ∷ []) (record { reason = r; place = Some (length places) }) (accepted_from 0 (places ++ Some r ∷ []))

  has_syncing : (sending : Sending) (stamp place : ℕ) → PhaseHas (syncing sending stamp place)
  has_syncing sending stamp place = elim (is_place place sending.places) as (λ b. PhaseHas (cond b (Syncing sending stamp place) (Committing sending stamp (accepted_from 0 sending.places)))) [
    | true ↦ λ is. absurd (cc is)
    | false ↦ λ is. absurd (cc is)
  ]

  has_committing : (command : Command) (d : Destruction) (stamp at : ℕ) → N → TurnHas (committing_notices command d stamp at)
  has_committing command d stamp at n = by (nat_lt at (length d.staged)) (is_flushing command)
    where
      by : (b c : Bool) → TurnHas (cond b (Goes (CommittingNotices d stamp at)) (cond c (Goes (Flushing (Some stamp))) (Ends (answer.Destroyed stamp))))
      by true c = λ is. n
      by false true = λ is. n
      by false false = λ is. n

  has_destroying : (doomed visit : List ℕ) → N → PhaseHas (destroying doomed visit)
  has_destroying doomed visit n = λ is. n

  has_started : (command : Command) (outcome : Outcome) → BringsHas outcome → TurnHas (started command outcome)
  has_started command (out.Begin (Ok begun)) brings = never (Staging begun [] 0) refl
  has_started command (out.Begin (Err r)) brings = λ is. absurd (cc is)
  has_started command (out.Recv got dead) brings = brings
  has_started command (out.Release (Ok owed)) brings = never Dropping refl
  has_started command (out.Release (Err r)) brings = λ is. absurd (cc is)
  has_started command (out.BeginDestroy (Ok visit) doomed) brings = has_destroying doomed visit brings
  has_started command (out.BeginDestroy (Err r) doomed) brings = λ is. absurd (cc is)
  has_started command (out.Local got) brings = brings
  has_started command outcome brings = never Starting refl

  pub has_turn : (command : Command) (me : ℕ) (phase : Phase) (outcome : Outcome) → PhaseHas phase → BringsHas outcome → TurnHas (turn me command phase outcome)
  has_turn command me Starting outcome h brings = has_started command outcome brings
  has_turn command me (Staging begun places collected) (out.Stage (Ok clock)) h brings = has_staging begun (places ++ None ∷ []) _
  has_turn command me (Staging begun places collected) (out.Stage (Err r)) h brings = has_place r begun places collected (send_of command).go_on
  has_turn command me (Unstaging begun places refused place) out.Unstage h brings = has_unstaging begun places refused (accepted_from (place + 1) places)
  has_turn command me (Attaching sending place slot) (out.Attach got) h brings = has_attaching (with_slot sending place slot got) place (slot + 1)
  has_turn command me (Stamping sending) (out.Stamp stamp) h brings = has_syncing sending stamp (accepted_from 0 sending.places)
  has_turn command me (Syncing sending stamp place) out.Sync h brings = has_syncing sending stamp (accepted_from (place + 1) sending.places)
  has_turn command me (Committing sending stamp place) (out.Commit found) h brings = λ is. absurd (cc is)
  has_turn command me (Visiting d left) (out.Visit got) h brings = λ is. h refl
  has_turn command me (Dooming d) (out.StampDestroy (Ok stamp)) h brings = λ is. h refl
  has_turn command me (Dooming d) (out.StampDestroy (Err late)) h brings = λ is. h refl
  has_turn command me (SyncingNotices d stamp at) out.Sync h brings = λ is. h refl
  has_turn command me (CommittingOwn d stamp) out.CommitNotices h brings = has_committing command d stamp 0 (h refl)
  has_turn command me (CommittingNotices d stamp at) out.CommitNotices h brings = has_committing command d stamp (at + 1) (h refl)
  has_turn command me (Flushing stamp) (out.Flush dead) h brings = λ is. absurd (cc is)
  has_turn command me phase outcome h brings = h

-- ---- events

-- a list that isn't refused names own numbers alone
pub all_own : (numbers : List ℕ) → list_any (λ n. not (is_own n)) numbers ≡ false → list_all is_own numbers ≡ true
all_own [] none = refl
all_own (n ∷ rest) none = by (is_own n) (all_own rest) none
  where
    by : (b : Bool) → (list_any (λ m. not (is_own m)) rest ≡ false → list_all is_own rest ≡ true) → (not b || list_any (λ m. not (is_own m)) rest) ≡ false → (b && list_all is_own rest) ≡ true
    by true further same = further same
    by false further same = absurd (cc same)

third : (a b c d : Bool) → (a || b || c || d) ≡ false → c ≡ false
third false false false d is = refl
third true b c d is = absurd (cc is)
third false true c d is = absurd (cc is)
third false false true d is = absurd (cc is)

pub not_bad : (x : PeerPart) (numbers : List ℕ) → destroy_refusal x numbers ≡ None → is_bad_destroy numbers ≡ false
not_bad x numbers none = by (is_bad_destroy numbers) refl
  where
    by : (b : Bool) → is_bad_destroy numbers ≡ b → is_bad_destroy numbers ≡ false
    by false is = is
    by true is = absurd (cc (sym (rw is at none)))

pub begun_own : (command : Command) (x : PeerPart) → begin_refusal command x ≡ None → names_own command ≡ true
begun_own (cmd.Destroy numbers) x none = all_own numbers (third (length numbers == 0) (nat_lt MOST_DESTINATIONS (length numbers)) (list_any (λ n. not (is_own n)) numbers) (has_repeat numbers) (not_bad x numbers none))
begun_own command x none = refl

module _ (N : Type 0) (x : PeerPart) where
  recv_has : (got : Received) → is_destroy (recv_answer got) ≡ true → N
  recv_has got = by got.front
    where
      by : (front : Result Receipt Front) → is_destroy (elim front [ Ok receipt ↦ answer.Got receipt | Err found ↦ refused_at (Again found) None ]) ≡ true → N
      by (Ok receipt) is = absurd (cc is)
      by (Err found) is = absurd (cc is)

  local_has : (shut : Bool) (command : Command) → is_destroy (local_answer shut command x) ≡ true → N
  local_has true command is = absurd (cc is)
  local_has false (cmd.SliceRelease offset) is = by (is_received offset x.slices) is
    where
      by : (b : Bool) → is_destroy (cond b answer.Done (refused_at (Unknown offset) None)) ≡ true → N
      by true is = absurd (cc is)
      by false is = absurd (cc is)
  local_has false cmd.Query is = absurd (cc is)
  local_has false (cmd.Limit limits) is = absurd (cc is)
  local_has false command is = absurd (cc is)

  stage_has : (r : Option Reason) (memory : Bool) (origin user place serial : ℕ) (payload : List ℕ) (nodes : List NodeRef) → BringsHas N (stage_by r memory origin user place serial payload nodes x).0
  stage_has (Some r) memory origin user place serial payload nodes = tt
  stage_has None true origin user place serial payload nodes = tt
  stage_has None false origin user place serial payload nodes = tt

  begin_has : (r : Option Reason) (memory : Bool) (c : SendCmd) → BringsHas N (begin_by r memory c x).0
  begin_has (Some r) memory c = tt
  begin_has None true c = tt
  begin_has None false c = tt

  destroy_has : (r : Option Reason) (doomed : List ℕ) → (r ≡ None → N) → BringsHas N (destroy_by r doomed x).0
  destroy_has (Some r) doomed n = tt
  destroy_has None doomed n = n refl

brings_own : (o : Opening) (memory : Bool) (d : DriverPart) (one : Doing) (action : Action) (x : PeerPart) → BringsHas (names_own one.command ≡ true) (happens o memory d one action x).0
brings_own o memory d one act.Recv x = recv_has (names_own one.command ≡ true) x (received x)
brings_own o memory d one act.Local x = local_has (names_own one.command ≡ true) x d.shut one.command
brings_own o memory d one act.Begin x = begin_has (names_own one.command ≡ true) x (send_refusal x (send_of one.command)) memory (send_of one.command)
brings_own o memory d one (act.Stage peer place) x = stage_has (names_own one.command ≡ true) x _ memory _ _ _ _ _ _
brings_own o memory d one act.BeginDestroy x = destroy_has (names_own one.command ≡ true) x (begin_refusal one.command x) (begin_serials one.command x) (begun_own one.command x)
brings_own o memory d one action x = tt

-- ---- a driver's part

-- its calls that destroyed, and its open destruction, name own numbers alone
abbrev pub DriverOwn : DriverPart → Type 0
DriverOwn d = AllOwn d.calls × ((doing : Doing) → d.doing ≡ Some doing → may_destroy doing.phase ≡ true → names_own doing.command ≡ true)

-- an answer that destroyed is of a phase in which it may be
pub answer_may : (command : Command) (phase : Phase) (got : Answer) → answer_of command phase ≡ Some got → is_destroy got ≡ true → may_destroy phase ≡ true
answer_may command (Reaping other) got same is = let k : other ≡ got = cc same in ap is_destroy k ∙ is
answer_may command (Visiting d left) got same is = refl
answer_may command (Dooming d) got same is = refl
answer_may command (SyncingNotices d stamp at) got same is = refl
answer_may command (CommittingOwn d stamp) got same is = refl
answer_may command (CommittingNotices d stamp at) got same is = refl
answer_may command (Unstaging begun places refused place) got same is = let k : answer.Refused refused ≡ got = cc same in let no : false ≡ true = ap is_destroy k ∙ is in absurd (cc no)
answer_may command (Syncing sending stamp place) got same is = let k : answer.Sent (record { stamp = stamp; places = sending.places }) ≡ got = cc same in let no : false ≡ true = ap is_destroy k ∙ is in absurd (cc no)
answer_may command (Committing sending stamp place) got same is = let k : answer.Sent (record { stamp = stamp; places = sending.places }) ≡ got = cc same in let no : false ≡ true = ap is_destroy k ∙ is in absurd (cc no)
answer_may command Dropping got same is = let k : answer.Done ≡ got = cc same in let no : false ≡ true = ap is_destroy k ∙ is in absurd (cc no)
answer_may command (Flushing stamp) got same is = let k : answer.Reset stamp ≡ got = cc same in let no : false ≡ true = ap is_destroy k ∙ is in absurd (cc no)
answer_may command phase got same is = absurd (cc same)

pub as_call_own : (command : Command) → names_own (as_call command) ≡ names_own command
as_call_own cmd.Await = refl
as_call_own command = refl

pub call_own : (command : Command) (got : Answer) → (is_destroy got ≡ true → names_own command ≡ true) → AllOwn (call_of command got)
call_own command got h = by (is_waiting command got)
  where
    by : (b : Bool) → AllOwn (cond b [] (record { command = as_call command; answer = got } ∷ []))
    by true c there = absurd there
    by false c (inl same) = subst {A = Call} (λ z. is_destroy z.answer ≡ true → names_own z.command ≡ true) (sym same) (λ is. as_call_own command ∙ h is)
    by false c (inr further) = absurd further

pub append_own : (xs ys : List Call) → AllOwn xs → AllOwn ys → AllOwn (xs ++ ys)
append_own xs ys h k c there = elim (has_append xs ys c there) [ inl left ↦ h c left | inr right ↦ k c right ]

module _ (command : Command) where
  open_own : (phase : Phase) → (may_destroy phase ≡ true → names_own command ≡ true) → (doing : Doing) → Some (doing_in command phase) ≡ Some doing → may_destroy doing.phase ≡ true → names_own doing.command ≡ true
  open_own phase h doing same is = let k : doing_in command phase ≡ doing = same_Some _ doing same in subst (λ z. names_own z.command ≡ true) k (h (ap (λ z. may_destroy z.phase) k ∙ is))

  goes_own : (b : Bool) (got : Option Answer) (d : DriverPart) (phase : Phase) → got ≡ answer_of command phase → AllOwn d.calls → (may_destroy phase ≡ true → names_own command ≡ true) → DriverOwn (goes_by b got d command phase)
  goes_own false got d phase is calls h = (calls, open_own phase h)
  goes_own true None d phase is calls h = (calls, open_own phase h)
  goes_own true (Some got) d phase is calls h = (append_own d.calls (call_of command got) calls (call_own command got (λ destroys. h (answer_may command phase got (sym is) destroys))), λ doing none. absurd (cc none))

  turned_own : (d : DriverPart) (t : Turn) → AllOwn d.calls → TurnHas (names_own command ≡ true) t → DriverOwn (turned d command t)
  turned_own d (Goes phase) calls h = goes_own (is_done d.owed d.told phase) (answer_of command phase) d phase refl calls h
  turned_own d (Ends got) calls h = (append_own d.calls (call_of command got) calls (call_own command got h), λ doing none. absurd (cc none))

  took_own : (d : DriverPart) (phase : Phase) (owed : List OwedDrop) (outcome : Outcome) → AllOwn d.calls → (may_destroy phase ≡ true → names_own command ≡ true) → BringsHas (names_own command ≡ true) outcome → DriverOwn (took (opened d command phase owed) outcome)
  took_own d phase owed outcome calls h brings = turned_own (with_facts (opened d command phase owed) (doing_in command phase) outcome) (turn d.me command phase outcome) calls (has_turn (names_own command ≡ true) command d.me phase outcome h brings)

-- ---- steps

module _ {o : Opening} {s : State} {p : ℕ} {c : Option Command} {t : State} (before : DestroysOwn s) (step : Step o s p c t) where
  old_phase : may_destroy (parts step).phase ≡ true → names_own (parts step).command ≡ true
  old_phase is = elim (parts step).was [
    | inl open_is ↦ before.opened p step.driver (going_doing step) step.is_driver open_is is
    | inr new ↦ let none : false ≡ true = sym (ap may_destroy new.1) ∙ is in absurd (cc none)
  ]

  new_own : DriverOwn step.new_driver
  new_own =
      subst DriverOwn (parts step).is_driver
      (took_own (parts step).command step.driver (parts step).phase step.driver.owed (going_answer step) (λ one h. before.listed p step.driver one step.is_driver h) old_phase
      (brings_own o step.local.memory (going step) (going_doing step) (going_action step) step.peer))

  after_own : (r : ℕ) (e : DriverPart) → IsDriver t r e → DriverOwn e
  after_own r e is = elim (driver_cases step r e is) [
    | inl own ↦ subst DriverOwn (sym own.1) new_own
    | inr other ↦ (λ one h. before.listed r e one other.1 h, λ doing open_is. before.opened r e doing other.1 open_is)
  ]

  pub own_kept : DestroysOwn t
  own_kept = record {
    listed = λ r e one is h. (after_own r e is).0 one h;
    opened = λ r e doing is open_is. (after_own r e is).1 doing open_is;
  }

pub own_begins : (o : Opening) → DestroysOwn (opening_state o)
own_begins o = record {
  listed = λ p d one is h. absurd (subst (λ calls. Has calls one) (ap (λ e. e.calls) (opening_idle o p d is)) h);
  opened = λ p d doing is open_is. let none : Some doing ≡ None = sym open_is ∙ ap (λ e. e.doing) (opening_idle o p d is) in absurd (cc none);
}
