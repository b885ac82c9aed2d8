-- The serial of the first node of the epoch of a peer's part: only a flush changes it.
use Rattle.std.proofs.Common.{◌≡◌, ◌≢◌, ◌⊎◌, refl, sym, ap, subst, ◌∙◌, inl, inr, ℕ, suc, ◌+◌, Bool, true, false, cond, ◌&&◌, not, nat_lt, List, [], ◌∷◌, ◌++◌, drop, filter, get_or, length, Option, Some, None, Ok, Err, Result, append-nil}
use Rattle.std.specs.Prelude.{slice_get, ⊤}
use Rattle.std.proofs.lemmas.List.{append_assoc}
use Rattle.std.proofs.lemmas.Bool.{cases_eq}
use Rattle.b1_step.proofs.Locality.{own_driver, other_driver}
use native.Mathlib.Omega.{arith}
use Rattle.b1_model.specs.declared.commands.Command.{Command}
use Rattle.b1_model.specs.declared.commands.Command.TheVariants as cmd
use Rattle.b1_model.specs.declared.commands.SendCmd.{SendCmd}
use Rattle.b1_model.specs.declared.naming.NodeRef.{NodeRef}
use Rattle.b1_model.specs.declared.naming.Wire.{Wire}
use Rattle.b1_model.specs.declared.naming.Opening.{Opening}
use Rattle.b1_model.specs.declared.answers.Answer.{Answer}
use Rattle.b1_model.specs.declared.answers.Answer.TheVariants as answer
use Rattle.b1_model.specs.declared.answers.Front.{Front}
use Rattle.b1_model.specs.declared.answers.Receipt.{Receipt}
use Rattle.b1_model.specs.declared.answers.Reason.{Reason}
use Rattle.b1_model.specs.declared.answers.Reason.TheVariants.{Unknown, Memory, Invalid, Again}
use Rattle.b1_model.specs.declared.answers.Refused.{Refused}
use Rattle.b1_model.specs.declared.parts.Begun.{Begun}
use Rattle.b1_model.specs.declared.parts.Received.{Received}
use Rattle.b1_model.specs.declared.events.Action.{Action}
use Rattle.b1_model.specs.declared.events.Action.TheVariants as act
use Rattle.b1_model.specs.declared.events.Destruction.{Destruction}
use Rattle.b1_model.specs.declared.events.Doing.{Doing}
use Rattle.b1_model.specs.declared.events.OwedDrop.{OwedDrop}
use Rattle.b1_model.specs.declared.events.Outcome.{Outcome}
use Rattle.b1_model.specs.declared.events.Outcome.TheVariants as out
use Rattle.b1_model.specs.declared.events.Phase.{Phase}
use Rattle.b1_model.specs.declared.events.Phase.TheVariants.{Starting, Staging, Unstaging, Attaching, Stamping, Syncing, Committing, Dropping, Reaping, Visiting, Dooming, SyncingNotices, CommittingOwn, CommittingNotices, Flushing}
use Rattle.b1_model.specs.declared.events.Sending.{Sending}
use Rattle.b1_model.specs.declared.records.Call.{Call}
use Rattle.b1_model.specs.Names.{Name, is_own, is_known, add_new, wired, is_flush, next_epoch, carried_by, made_in, epoch_in}
use Rattle.b1_model.specs.MachineParts.{PeerPart, DriverPart, State}
use Rattle.b1_model.specs.MachinePool.{is_received}
use Rattle.b1_model.specs.MachineSend.{send_refusal}
use Rattle.b1_model.specs.MachineReceive.{received}
use Rattle.b1_model.specs.MachineDriver.{accepted_from, is_place, attaching, with_slot, all_staged, staging, all_refused, memory_place, refused_at, unstaging, syncing, visiting, with_visit, syncing_notices, committing_notices, destroying, is_flushing, send_of, recv_answer, started, turn, next_action, Turn, Goes, Ends}
use Rattle.b1_model.specs.MachineTook.{answer_of, is_waiting, as_call, call_of, fixed_call, goes_by, is_done, turned, with_facts}
use Rattle.b1_model.specs.MachineEvents.{happens, begin_by, stage_by, destroy_by, begin_refusal, begin_serials, local_answer}
use Rattle.b1_model.specs.MachineStep.{Step}
use Rattle.b1_step.specs.Rights.{Has}
use Rattle.b1_inv_record.specs.Epochs.{awaits_flush, made_before, flushed_calls, first_done}
use Rattle.b1_inv_notices.proofs.Turns.{doing_in, opened, answered, parts, going, going_doing, going_action, going_answer}

-- ---- calls that are no flush leave it

abbrev pub Mild : List Call → Type 0
Mild calls = (c : Call) → Has calls c → is_flush c.answer ≡ false

made_end : (e : ℕ) (known : List Name) (calls : List Call) (c : Call) → made_in e known (calls ++ c ∷ []) ≡ add_new (epoch_in e calls) (made_in e known calls) (carried_by c.command c.answer)
made_end e known [] c = refl
made_end e known (d ∷ rest) c = made_end (next_epoch e d.answer) (add_new e known (carried_by d.command d.answer)) rest c

epoch_end : (e : ℕ) (calls : List Call) (c : Call) → epoch_in e (calls ++ c ∷ []) ≡ next_epoch (epoch_in e calls) c.answer
epoch_end e [] c = refl
epoch_end e (d ∷ rest) c = epoch_end (next_epoch e d.answer) rest c

filter_end : (test : Name → Bool) (known : List Name) (m : Name) → test m ≡ false → filter test (known ++ m ∷ []) ≡ filter test known
filter_end test [] m none = rw none refl
filter_end test (k ∷ rest) m none = elim (test k) as (λ b. cond b (k ∷ filter test (rest ++ m ∷ [])) (filter test (rest ++ m ∷ [])) ≡ cond b (k ∷ filter test rest) (filter test rest)) [
  | true ↦ ap (λ list. k ∷ list) (filter_end test rest m none)
  | false ↦ filter_end test rest m none
]

filter_new : (test : Name → Bool) (e : ℕ) → ((n : ℕ) → test (record { number = n; epoch = e }) ≡ false) → (numbers : List ℕ) (known : List Name) → filter test (add_new e known numbers) ≡ filter test known
filter_new test e none [] known = refl
filter_new test e none (n ∷ rest) known = filter_new test e none rest (cond (is_own n && not (is_known n known)) (known ++ record { number = n; epoch = e } ∷ []) known) ∙ one (is_own n && not (is_known n known))
  where
    one : (b : Bool) → filter test (cond b (known ++ record { number = n; epoch = e } ∷ []) known) ≡ filter test known
    one true = filter_end test known (record { number = n; epoch = e }) (none n)
    one false = refl

not_below : (n : ℕ) → nat_lt n n ≡ false
not_below n = grind arith

pub one_mild : (ws : List Wire) (p : ℕ) (calls : List Call) (c : Call) → is_flush c.answer ≡ false → made_before ws p (calls ++ c ∷ []) ≡ made_before ws p calls
one_mild ws p calls c mild =
    let epoch : epoch_in 0 (calls ++ c ∷ []) ≡ epoch_in 0 calls = epoch_end 0 calls c ∙ ap (λ b. cond b (suc (epoch_in 0 calls)) (epoch_in 0 calls)) mild in
    ap (λ e. length (filter (λ m. nat_lt m.epoch e) (made_in 0 (wired ws p) (calls ++ c ∷ [])))) epoch
    ∙ ap (λ names. length (filter (λ m. nat_lt m.epoch (epoch_in 0 calls)) names)) (made_end 0 (wired ws p) calls c)
    ∙ ap length (filter_new (λ m. nat_lt m.epoch (epoch_in 0 calls)) (epoch_in 0 calls) (λ n. not_below (epoch_in 0 calls)) (carried_by c.command c.answer) (made_in 0 (wired ws p) calls))

pub all_mild : (ws : List Wire) (p : ℕ) (more calls : List Call) → Mild more → made_before ws p (calls ++ more) ≡ made_before ws p calls
all_mild ws p [] calls mild = ap (made_before ws p) (append-nil calls)
all_mild ws p (c ∷ rest) calls mild = ap (made_before ws p) (sym (append_assoc calls (c ∷ []) rest)) ∙ all_mild ws p rest (calls ++ c ∷ []) (λ d h. mild d (inr h)) ∙ one_mild ws p calls c (mild c (inl refl))

-- ---- what a driver has flushed for, beside its ended calls

abbrev pub left_of : Command → Phase → List Call
left_of command phase = cond (awaits_flush command phase) [] (fixed_call command (answer_of command phase))

abbrev pub left_turn : Command → Turn → List Call
left_turn command (Goes phase) = left_of command phase
left_turn command (Ends got) = call_of command got

-- nothing changes, or calls come that are no flush
abbrev pub Adds : List Call → List Call → Type 0
Adds old new = (new ≡ old) ⊎ ((old ≡ []) × Mild new)

abbrev pub BringsMild : Outcome → Type 0
BringsMild (out.Recv got dead) = is_flush (recv_answer got) ≡ false
BringsMild (out.Local got) = is_flush got ≡ false
BringsMild outcome = ⊤

-- a phase whose flush isn't done by this answer
abbrev pub NoFlush : Phase → Outcome → Type 0
NoFlush (Flushing stamp) (out.Flush dead) = ⊥
NoFlush phase outcome = ⊤

module _ (command : Command) where
  mild_call : (got : Answer) → is_flush got ≡ false → Mild (call_of command got)
  mild_call got mild = by (is_waiting command got)
    where
      by : (b : Bool) → Mild (cond b [] (record { command = as_call command; answer = got } ∷ []))
      by true c there = absurd there
      by false c (inl same) = subst {A = Call} (λ z. is_flush z.answer ≡ false) (sym same) mild
      by false c (inr further) = absurd further

  add_attaching : (sending : Sending) (place slot : ℕ) → Adds [] (left_of command (attaching sending place slot))
  add_attaching sending place slot = by (nat_lt slot (length sending.begun.with)) (nat_lt 0 (length sending.begun.with) && is_place (accepted_from (place + 1) sending.places) sending.places) (accepted_from (place + 1) sending.places)
    where
      by : (b c : Bool) (next : ℕ) → Adds [] (left_of command (cond b (Attaching sending place slot) (cond c (Attaching sending next 0) (Stamping sending))))
      by true c next = inl refl
      by false true next = inl refl
      by false false next = inl refl

  add_refused : (places : List (Option Reason)) → Adds [] (call_of command (all_refused places))
  add_refused places = by (memory_place 0 places) (get_or places 0 None)
    where
      by : (memory : Option ℕ) (first : Option Reason) → Adds [] (call_of command (elim memory [ Some place ↦ refused_at Memory (Some place) | None ↦ elim first [ None ↦ refused_at Invalid None | Some r ↦ refused_at r (Some 0) ] ]))
      by (Some place) first = inr (refl, mild_call (refused_at Memory (Some place)) refl)
      by None None = inr (refl, mild_call (refused_at Invalid None) refl)
      by None (Some r) = inr (refl, mild_call (refused_at r (Some 0)) refl)

  add_staging : (begun : Begun) (places : List (Option Reason)) (collected : ℕ) → Adds [] (left_turn command (staging begun places collected))
  add_staging begun places collected = by (nat_lt (length places) (length begun.to)) (is_place (accepted_from 0 places) places)
    where
      by : (b c : Bool) → Adds [] (left_turn command (cond b (Goes (Staging begun places collected)) (cond c (Goes (attaching (all_staged begun places collected) (accepted_from 0 places) 0)) (Ends (all_refused places)))))
      by true c = inl refl
      by false true = add_attaching (all_staged begun places collected) (accepted_from 0 places) 0
      by false false = add_refused places

  same_unstaging : (begun : Begun) (places : List (Option Reason)) (refused : Refused) (place : ℕ) → left_turn command (unstaging begun places refused place) ≡ call_of command (answer.Refused refused)
  same_unstaging begun places refused place = elim (is_place place places) as (λ b. left_turn command (cond b (Goes (Unstaging begun places refused place)) (Ends (answer.Refused refused))) ≡ call_of command (answer.Refused refused)) [ true ↦ refl | false ↦ refl ]

  refused_adds : (refused : Refused) (new : List Call) → new ≡ call_of command (answer.Refused refused) → Adds [] new
  refused_adds refused new same = inr (refl, subst Mild (sym same) (mild_call (answer.Refused refused) refl))

  add_place : (r : Reason) (begun : Begun) (places : List (Option Reason)) (collected : ℕ) (go_on : Bool)
      → Adds [] (left_turn command (cond go_on (staging begun (places ++ Some r ∷ []) collected) (unstaging begun (places ++ Some r ∷ []) (record { reason = r; place = Some (length places) }) (accepted_from 0 (places ++ Some r ∷ [])))))
  add_place r begun places collected true = add_staging begun (places ++ Some r ∷ []) collected
  add_place r begun places collected false = refused_adds (record { reason = r; place = Some (length places) }) _ (same_unstaging begun (places ++ Some r ∷ []) (record { reason = r; place = Some (length places) }) (accepted_from 0 (places ++ Some r ∷ [])))

  abbrev sent : Sending → ℕ → List Call
  sent sending stamp = call_of command (answer.Sent (record { stamp = stamp; places = sending.places }))

  same_syncing : (sending : Sending) (stamp place : ℕ) → left_of command (syncing sending stamp place) ≡ sent sending stamp
  same_syncing sending stamp place = elim (is_place place sending.places) as (λ b. left_of command (cond b (Syncing sending stamp place) (Committing sending stamp (accepted_from 0 sending.places))) ≡ sent sending stamp) [ true ↦ refl | false ↦ refl ]

  add_visiting : (d : Destruction) (left : List ℕ) → Adds [] (left_of command (visiting d left))
  add_visiting d [] = inl refl
  add_visiting d (peer ∷ rest) = inl refl

  add_destroying : (doomed visit : List ℕ) → Adds [] (left_of command (destroying doomed visit))
  add_destroying [] visit = inl refl
  add_destroying (serial ∷ rest) visit = add_visiting (record { doomed = serial ∷ rest; collected = 0; staged = [] }) visit

  -- what is left of a destruction with its stamp
  abbrev stamped : Bool → ℕ → List Call
  stamped b stamp = cond b [] (call_of command (cond b (answer.Reset (Some stamp)) (answer.Destroyed stamp)))

  same_notices : (d : Destruction) (stamp at : ℕ) → left_of command (syncing_notices d stamp at) ≡ stamped (is_flushing command) stamp
  same_notices d stamp at = elim (nat_lt at (length d.staged)) as (λ b. left_of command (cond b (SyncingNotices d stamp at) (CommittingOwn d stamp)) ≡ stamped (is_flushing command) stamp) [ true ↦ refl | false ↦ refl ]

  same_commits : (d : Destruction) (stamp at : ℕ) → left_turn command (committing_notices command d stamp at) ≡ stamped (is_flushing command) stamp
  same_commits d stamp at = by (nat_lt at (length d.staged)) (is_flushing command) refl
    where
      by : (b c : Bool) → is_flushing command ≡ c → left_turn command (cond b (Goes (CommittingNotices d stamp at)) (cond c (Goes (Flushing (Some stamp))) (Ends (answer.Destroyed stamp)))) ≡ stamped c stamp
      by true c is = ap (λ z. stamped z stamp) is
      by false true is = refl
      by false false is = refl

  add_stamped : (b : Bool) (stamp : ℕ) → Adds [] (stamped b stamp)
  add_stamped true stamp = inl refl
  add_stamped false stamp = inr (refl, mild_call (answer.Destroyed stamp) refl)

  add_started : (outcome : Outcome) → BringsMild outcome → Adds [] (left_turn command (started command outcome))
  add_started (out.Begin (Ok begun)) brings = inl refl
  add_started (out.Begin (Err r)) brings = inr (refl, mild_call (refused_at r None) refl)
  add_started (out.Recv got dead) brings = inr (refl, mild_call (recv_answer got) brings)
  add_started (out.Release (Ok owed)) brings = inr (refl, mild_call answer.Done refl)
  add_started (out.Release (Err r)) brings = inr (refl, mild_call (refused_at r None) refl)
  add_started (out.BeginDestroy (Ok visit) doomed) brings = add_destroying doomed visit
  add_started (out.BeginDestroy (Err r) doomed) brings = inr (refl, mild_call (refused_at r None) refl)
  add_started (out.Local got) brings = inr (refl, mild_call got brings)
  add_started outcome brings = inl refl

  pub add_turn : (me : ℕ) (phase : Phase) (outcome : Outcome) → NoFlush phase outcome → BringsMild outcome → Adds (left_of command phase) (left_turn command (turn me command phase outcome))
  add_turn me Starting outcome none brings = add_started outcome brings
  add_turn me (Staging begun places collected) (out.Stage (Ok clock)) none brings = add_staging begun (places ++ None ∷ []) _
  add_turn me (Staging begun places collected) (out.Stage (Err r)) none brings = add_place r begun places collected (send_of command).go_on
  add_turn me (Unstaging begun places refused place) out.Unstage none brings = inl (same_unstaging begun places refused (accepted_from (place + 1) places))
  add_turn me (Attaching sending place slot) (out.Attach got) none brings = add_attaching (with_slot sending place slot got) place (slot + 1)
  add_turn me (Stamping sending) (out.Stamp stamp) none brings = inr (refl, subst Mild (sym (same_syncing sending stamp (accepted_from 0 sending.places))) (mild_call (answer.Sent (record { stamp = stamp; places = sending.places })) refl))
  add_turn me (Syncing sending stamp place) out.Sync none brings = inl (same_syncing sending stamp (accepted_from (place + 1) sending.places))
  add_turn me (Committing sending stamp place) (out.Commit found) none brings = inl refl
  add_turn me (Visiting d left) (out.Visit got) none brings = add_visiting (with_visit d (get_or left 0 me) got) (drop 1 left)
  add_turn me (Dooming d) (out.StampDestroy (Ok stamp)) none brings = subst (Adds []) (sym (same_notices d stamp 0)) (add_stamped (is_flushing command) stamp)
  add_turn me (Dooming d) (out.StampDestroy (Err late)) none brings = add_visiting d late
  add_turn me (SyncingNotices d stamp at) out.Sync none brings = inl (same_notices d stamp (at + 1))
  add_turn me (CommittingOwn d stamp) out.CommitNotices none brings = inl (same_commits d stamp 0)
  add_turn me (CommittingNotices d stamp at) out.CommitNotices none brings = inl (same_commits d stamp (at + 1))
  add_turn me (Flushing stamp) (out.Flush dead) none brings = absurd none
  add_turn me phase outcome none brings = inl refl

  -- ---- a driver's part

  flushed_open : (d : DriverPart) (phase : Phase) → flushed_calls (record d { doing = Some (doing_in command phase) }) ≡ d.calls ++ left_of command phase
  flushed_open d phase = elim (awaits_flush command phase) as (λ b. cond b d.calls (d.calls ++ fixed_call command (answer_of command phase)) ≡ d.calls ++ cond b [] (fixed_call command (answer_of command phase))) [
    | true ↦ sym (append-nil d.calls)
    | false ↦ refl
  ]

  done_awaits : (owed : List OwedDrop) (told : Bool) (phase : Phase) → is_done owed told phase ≡ true → awaits_flush command phase ≡ false
  done_awaits (one ∷ rest) told phase is = absurd (cc is)
  done_awaits [] told (Committing sending stamp place) is = refl
  done_awaits [] told Dropping is = refl
  done_awaits [] told (Reaping got) is = refl
  done_awaits [] told phase is = absurd (cc is)

  flushed_goes : (b : Bool) (got : Option Answer) (d : DriverPart) (phase : Phase) → got ≡ answer_of command phase → (b ≡ true → awaits_flush command phase ≡ false) → flushed_calls (goes_by b got d command phase) ≡ d.calls ++ left_of command phase
  flushed_goes false got d phase is done = flushed_open d phase
  flushed_goes true None d phase is done = flushed_open d phase
  flushed_goes true (Some got) d phase is done = append-nil (d.calls ++ call_of command got) ∙ ap (λ z. d.calls ++ fixed_call command z) is ∙ ap (λ b. d.calls ++ cond b [] (fixed_call command (answer_of command phase))) (sym (done refl))

  flushed_turned : (d : DriverPart) (t : Turn) → flushed_calls (turned d command t) ≡ d.calls ++ left_turn command t
  flushed_turned d (Goes phase) = flushed_goes (is_done d.owed d.told phase) (answer_of command phase) d phase refl (done_awaits d.owed d.told phase)
  flushed_turned d (Ends got) = append-nil (d.calls ++ call_of command got)

-- ---- events

module _ (x : PeerPart) where
  recv_mild : (got : Received) → is_flush (recv_answer got) ≡ false
  recv_mild got = by got.front
    where
      by : (front : Result Receipt Front) → is_flush (elim front [ Ok receipt ↦ answer.Got receipt | Err found ↦ refused_at (Again found) None ]) ≡ false
      by (Ok receipt) = refl
      by (Err found) = refl

  local_mild : (shut : Bool) (command : Command) → is_flush (local_answer shut command x) ≡ false
  local_mild true command = refl
  local_mild false (cmd.SliceRelease offset) = by (is_received offset x.slices)
    where
      by : (b : Bool) → is_flush (cond b answer.Done (refused_at (Unknown offset) None)) ≡ false
      by true = refl
      by false = refl
  local_mild false cmd.Query = refl
  local_mild false (cmd.Limit limits) = refl
  local_mild false command = refl

  stage_mild : (r : Option Reason) (memory : Bool) (origin user place serial : ℕ) (payload : List ℕ) (nodes : List NodeRef) → BringsMild (stage_by r memory origin user place serial payload nodes x).0
  stage_mild (Some r) memory origin user place serial payload nodes = tt
  stage_mild None true origin user place serial payload nodes = tt
  stage_mild None false origin user place serial payload nodes = tt

  begin_mild : (r : Option Reason) (memory : Bool) (c : SendCmd) → BringsMild (begin_by r memory c x).0
  begin_mild (Some r) memory c = tt
  begin_mild None true c = tt
  begin_mild None false c = tt

  destroy_mild : (r : Option Reason) (doomed : List ℕ) → BringsMild (destroy_by r doomed x).0
  destroy_mild (Some r) doomed = tt
  destroy_mild None doomed = tt

pub brings_mild : (o : Opening) (memory : Bool) (d : DriverPart) (one : Doing) (action : Action) (x : PeerPart) → BringsMild (happens o memory d one action x).0
brings_mild o memory d one act.Recv x = recv_mild x (received x)
brings_mild o memory d one act.Local x = local_mild x d.shut one.command
brings_mild o memory d one act.Begin x = begin_mild x (send_refusal x (send_of one.command)) memory (send_of one.command)
brings_mild o memory d one (act.Stage peer place) x = stage_mild x _ memory _ _ _ _ _ _
brings_mild o memory d one act.BeginDestroy x = destroy_mild x (begin_refusal one.command x) (begin_serials one.command x)
brings_mild o memory d one action x = tt

abbrev pub is_flush_action : Action → Bool
is_flush_action act.Flush = true
is_flush_action action = false

pub no_flush : (o : Opening) (memory : Bool) (d : DriverPart) (command : Command) (phase : Phase) (owed : List OwedDrop) (x : PeerPart) → is_flush_action (next_action (opened d command phase owed)) ≡ false → NoFlush phase (answered o memory d command phase owed x).0
no_flush o memory d command (Flushing stamp) [] x is = absurd (cc is)
no_flush o memory d command (Flushing stamp) (one ∷ rest) x is = tt
no_flush o memory d command phase owed x is = tt

-- ---- a step

module _ {o : Opening} {s : State} {p : ℕ} {c : Option Command} {t : State} (step : Step o s p c t) where
  pub flushed_before : flushed_calls step.driver ≡ step.driver.calls ++ left_of (parts step).command (parts step).phase
  flushed_before = elim (parts step).was [
    | inl open_is ↦ ap (λ z. flushed_calls (record step.driver { doing = z })) open_is ∙ flushed_open (parts step).command step.driver (parts step).phase
    | inr new ↦ ap (λ z. flushed_calls (record step.driver { doing = z })) new.0 ∙ ap (λ z. step.driver.calls ++ left_of (parts step).command z) (sym new.1)
  ]

  abbrev new_left : List Call
  new_left = left_turn (parts step).command (turn step.driver.me (parts step).command (parts step).phase (going_answer step))

  pub flushed_after : flushed_calls step.new_driver ≡ step.driver.calls ++ new_left
  flushed_after =
      ap flushed_calls (sym (parts step).is_driver)
      ∙ flushed_turned (parts step).command (with_facts (going step) (going_doing step) (going_answer step)) (turn step.driver.me (parts step).command (parts step).phase (going_answer step))

  module _ (calm : is_flush_action (going_action step) ≡ false) where
    same_made : Adds (left_of (parts step).command (parts step).phase) new_left → made_before o.wires p (flushed_calls step.new_driver) ≡ made_before o.wires p (flushed_calls step.driver)
    same_made (inl same) = ap (made_before o.wires p) (flushed_after ∙ ap (λ more. step.driver.calls ++ more) same ∙ sym flushed_before)
    same_made (inr (none, mild)) =
        ap (made_before o.wires p) flushed_after
        ∙ all_mild o.wires p new_left step.driver.calls mild
        ∙ ap (made_before o.wires p) (sym (append-nil step.driver.calls) ∙ ap (λ more. step.driver.calls ++ more) (sym none) ∙ sym flushed_before)

    own_same : made_before o.wires p (flushed_calls step.new_driver) ≡ made_before o.wires p (flushed_calls step.driver)
    own_same =
        same_made (add_turn (parts step).command step.driver.me (parts step).phase (going_answer step)
        (no_flush o step.local.memory step.driver (parts step).command (parts step).phase step.driver.owed step.peer calm)
        (brings_mild o step.local.memory (going step) (going_doing step) (going_action step) step.peer))

  abbrev first_by : ℕ → Option DriverPart → ℕ
  first_by q d = elim d [ None ↦ 0 | Some e ↦ made_before o.wires q (flushed_calls e) ]

  done_is : (u : State) (q : ℕ) (d : Option DriverPart) → slice_get u.drivers q ≡ d → first_done o u q ≡ first_by q d
  done_is u q d is = ap (first_by q) is

  -- another driver's step leaves it
  pub first_other : (q : ℕ) → q ≢ p → first_done o t q ≡ first_done o s q
  first_other q apart = done_is t q (slice_get s.drivers q) (other_driver step q apart) ∙ sym (done_is s q (slice_get s.drivers q) refl)

  pub first_driver : first_done o s p ≡ made_before o.wires p (flushed_calls step.driver)
  first_driver = done_is s p (Some step.driver) step.is_driver

  -- and every step that is no flush
  pub first_same : is_flush_action (going_action step) ≡ false → (q : ℕ) → first_done o t q ≡ first_done o s q
  first_same calm q = elim (cases_eq q p) [
    | inr apart ↦ first_other q apart
    | inl here ↦ subst (λ r. first_done o t r ≡ first_done o s r) (sym here) (done_is t p (Some step.new_driver) (own_driver step) ∙ own_same calm ∙ sym first_driver)
  ]
