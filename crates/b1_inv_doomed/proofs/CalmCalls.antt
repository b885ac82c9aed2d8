-- The calls that an event adds: a destruction with a stamp only where it gets it.
use Rattle.std.proofs.Common.{◌≡◌, ◌⊎◌, refl, sym, ap, subst, ◌∙◌, inl, inr, ℕ, ◌+◌, Bool, true, false, cond, ◌&&◌, nat_lt, List, [], ◌∷◌, ◌++◌, drop, get_or, length, Option, Some, None, Ok, Err, Result, append-nil}
use Rattle.std.specs.Prelude.{⊤}
use Rattle.b1_model.specs.declared.commands.Command.{Command}
use Rattle.b1_model.specs.declared.commands.Command.TheVariants as cmd
use Rattle.b1_model.specs.declared.commands.SendCmd.{SendCmd}
use Rattle.b1_model.specs.declared.naming.NodeRef.{NodeRef}
use Rattle.b1_model.specs.declared.naming.Opening.{Opening}
use Rattle.b1_model.specs.declared.answers.Answer.{Answer}
use Rattle.b1_model.specs.declared.answers.Answer.TheVariants as answer
use Rattle.b1_model.specs.declared.answers.Front.{Front}
use Rattle.b1_model.specs.declared.answers.Receipt.{Receipt}
use Rattle.b1_model.specs.declared.answers.Reason.{Reason}
use Rattle.b1_model.specs.declared.answers.Reason.TheVariants.{Unknown, Memory, Invalid, Again}
use Rattle.b1_model.specs.declared.answers.Refused.{Refused}
use Rattle.b1_model.specs.declared.parts.Begun.{Begun}
use Rattle.b1_model.specs.declared.parts.Received.{Received}
use Rattle.b1_model.specs.declared.events.Action.{Action}
use Rattle.b1_model.specs.declared.events.Action.TheVariants as act
use Rattle.b1_model.specs.declared.events.Destruction.{Destruction}
use Rattle.b1_model.specs.declared.events.Doing.{Doing}
use Rattle.b1_model.specs.declared.events.Outcome.{Outcome}
use Rattle.b1_model.specs.declared.events.Outcome.TheVariants as out
use Rattle.b1_model.specs.declared.events.Phase.{Phase}
use Rattle.b1_model.specs.declared.events.Phase.TheVariants.{Starting, Staging, Unstaging, Attaching, Stamping, Syncing, Committing, Visiting, Dooming, SyncingNotices, CommittingOwn, CommittingNotices, Flushing}
use Rattle.b1_model.specs.declared.events.Sending.{Sending}
use Rattle.b1_model.specs.declared.records.Call.{Call}
use Rattle.b1_model.specs.MachineParts.{PeerPart, DriverPart, State}
use Rattle.b1_model.specs.MachinePool.{is_received}
use Rattle.b1_model.specs.MachineSend.{send_refusal}
use Rattle.b1_model.specs.MachineReceive.{received}
use Rattle.b1_model.specs.MachineDriver.{accepted_from, is_place, attaching, with_slot, all_staged, staging, all_refused, memory_place, refused_at, unstaging, syncing, visiting, with_visit, syncing_notices, committing_notices, destroying, is_flushing, send_of, recv_answer, started, turn, Turn, Goes, Ends}
use Rattle.b1_model.specs.MachineTook.{answer_of, is_waiting, as_call, call_of, stamped_answer, fixed_call, goes_by, is_done, turned, with_facts, driver_calls}
use Rattle.b1_model.specs.MachineEvents.{happens, begin_by, stage_by, destroy_by, begin_refusal, begin_serials, local_answer}
use Rattle.b1_model.specs.MachineStep.{Step}
use Rattle.b1_step.specs.Rights.{Has}
use Rattle.b1_ledger.specs.Growth.{destroy_stamp}
use Rattle.b1_inv_notices.proofs.Turns.{parts, going, going_doing, going_action, going_answer}

-- calls of which none is a destruction with a stamp
abbrev pub Plain : List Call → Type 0
Plain calls = (c : Call) → Has calls c → destroy_stamp c.answer ≡ None

-- the fixed call of a phase, and of a turn
abbrev pub calls_in_phase : Command → Phase → List Call
calls_in_phase command phase = fixed_call command (answer_of command phase)

abbrev pub calls_in_turn : Command → Turn → List Call
calls_in_turn command (Goes phase) = calls_in_phase command phase
calls_in_turn command (Ends got) = call_of command got

-- nothing changes, or calls come that are no destruction with a stamp
abbrev Adds : List Call → List Call → Type 0
Adds old new = (new ≡ old) ⊎ ((old ≡ []) × Plain new)

abbrev BringsPlain : Outcome → Type 0
BringsPlain (out.Recv got dead) = destroy_stamp (recv_answer got) ≡ None
BringsPlain (out.Local got) = destroy_stamp got ≡ None
BringsPlain outcome = ⊤

-- an answer that gives no destruction its stamp
abbrev pub NoStamp : Phase → Outcome → Type 0
NoStamp (Dooming destruction) (out.StampDestroy (Ok stamp)) = ⊥
NoStamp phase outcome = ⊤

module _ (command : Command) where
  plain_call : (got : Answer) → destroy_stamp got ≡ None → Plain (call_of command got)
  plain_call got plain = by (is_waiting command got)
    where
      by : (b : Bool) → Plain (cond b [] (record { command = as_call command; answer = got } ∷ []))
      by true c there = absurd there
      by false c (inl same) = subst {A = Call} (λ z. destroy_stamp z.answer ≡ None) (sym same) plain
      by false c (inr further) = absurd further

  add_attaching : (sending : Sending) (place slot : ℕ) → Adds [] (calls_in_phase command (attaching sending place slot))
  add_attaching sending place slot = by (nat_lt slot (length sending.begun.with)) (nat_lt 0 (length sending.begun.with) && is_place (accepted_from (place + 1) sending.places) sending.places) (accepted_from (place + 1) sending.places)
    where
      by : (b c : Bool) (next : ℕ) → Adds [] (calls_in_phase command (cond b (Attaching sending place slot) (cond c (Attaching sending next 0) (Stamping sending))))
      by true c next = inl refl
      by false true next = inl refl
      by false false next = inl refl

  add_refused : (places : List (Option Reason)) → Adds [] (call_of command (all_refused places))
  add_refused places = by (memory_place 0 places) (get_or places 0 None)
    where
      by : (memory : Option ℕ) (first : Option Reason) → Adds [] (call_of command (elim memory [ Some place ↦ refused_at Memory (Some place) | None ↦ elim first [ None ↦ refused_at Invalid None | Some r ↦ refused_at r (Some 0) ] ]))
      by (Some place) first = inr (refl, plain_call (refused_at Memory (Some place)) refl)
      by None None = inr (refl, plain_call (refused_at Invalid None) refl)
      by None (Some r) = inr (refl, plain_call (refused_at r (Some 0)) refl)

  add_staging : (begun : Begun) (places : List (Option Reason)) (collected : ℕ) → Adds [] (calls_in_turn command (staging begun places collected))
  add_staging begun places collected = by (nat_lt (length places) (length begun.to)) (is_place (accepted_from 0 places) places)
    where
      by : (b c : Bool) → Adds [] (calls_in_turn command (cond b (Goes (Staging begun places collected)) (cond c (Goes (attaching (all_staged begun places collected) (accepted_from 0 places) 0)) (Ends (all_refused places)))))
      by true c = inl refl
      by false true = add_attaching (all_staged begun places collected) (accepted_from 0 places) 0
      by false false = add_refused places

  same_unstaging : (begun : Begun) (places : List (Option Reason)) (refused : Refused) (place : ℕ) → calls_in_turn command (unstaging begun places refused place) ≡ call_of command (answer.Refused refused)
  same_unstaging begun places refused place = elim (is_place place places) as (λ b. calls_in_turn command (cond b (Goes (Unstaging begun places refused place)) (Ends (answer.Refused refused))) ≡ call_of command (answer.Refused refused)) [ true ↦ refl | false ↦ refl ]

  refused_adds : (refused : Refused) (new : List Call) → new ≡ call_of command (answer.Refused refused) → Adds [] new
  refused_adds refused new same = inr (refl, subst Plain (sym same) (plain_call (answer.Refused refused) refl))

  add_place : (r : Reason) (begun : Begun) (places : List (Option Reason)) (collected : ℕ) (go_on : Bool)
      → Adds [] (calls_in_turn command (cond go_on (staging begun (places ++ Some r ∷ []) collected) (unstaging begun (places ++ Some r ∷ []) (record { reason = r; place = Some (length places) }) (accepted_from 0 (places ++ Some r ∷ [])))))
  add_place r begun places collected true = add_staging begun (places ++ Some r ∷ []) collected
  add_place r begun places collected false = refused_adds (record { reason = r; place = Some (length places) }) _ (same_unstaging begun (places ++ Some r ∷ []) (record { reason = r; place = Some (length places) }) (accepted_from 0 (places ++ Some r ∷ [])))

  abbrev sent : Sending → ℕ → List Call
  sent sending stamp = call_of command (answer.Sent (record { stamp = stamp; places = sending.places }))

  same_syncing : (sending : Sending) (stamp place : ℕ) → calls_in_phase command (syncing sending stamp place) ≡ sent sending stamp
  same_syncing sending stamp place = elim (is_place place sending.places) as (λ b. calls_in_phase command (cond b (Syncing sending stamp place) (Committing sending stamp (accepted_from 0 sending.places))) ≡ sent sending stamp) [ true ↦ refl | false ↦ refl ]

  add_visiting : (d : Destruction) (left : List ℕ) → Adds [] (calls_in_phase command (visiting d left))
  add_visiting d [] = inl refl
  add_visiting d (peer ∷ rest) = inl refl

  add_destroying : (doomed visit : List ℕ) → Adds [] (calls_in_phase command (destroying doomed visit))
  add_destroying [] visit = inr (refl, plain_call (answer.Reset None) refl)
  add_destroying (serial ∷ rest) visit = add_visiting (record { doomed = serial ∷ rest; collected = 0; staged = [] }) visit

  pub same_notices : (d : Destruction) (stamp at : ℕ) → calls_in_phase command (syncing_notices d stamp at) ≡ call_of command (stamped_answer command stamp)
  same_notices d stamp at = elim (nat_lt at (length d.staged)) as (λ b. calls_in_phase command (cond b (SyncingNotices d stamp at) (CommittingOwn d stamp)) ≡ call_of command (stamped_answer command stamp)) [ true ↦ refl | false ↦ refl ]

  same_commits : (d : Destruction) (stamp at : ℕ) → calls_in_turn command (committing_notices command d stamp at) ≡ call_of command (stamped_answer command stamp)
  same_commits d stamp at = by (nat_lt at (length d.staged)) (is_flushing command) refl
    where
      by : (b c : Bool) → c ≡ is_flushing command → calls_in_turn command (cond b (Goes (CommittingNotices d stamp at)) (cond c (Goes (Flushing (Some stamp))) (Ends (answer.Destroyed stamp)))) ≡ call_of command (cond (is_flushing command) (answer.Reset (Some stamp)) (answer.Destroyed stamp))
      by true c is = refl
      by false true is = ap (λ b. call_of command (cond b (answer.Reset (Some stamp)) (answer.Destroyed stamp))) is
      by false false is = ap (λ b. call_of command (cond b (answer.Reset (Some stamp)) (answer.Destroyed stamp))) is

  add_started : (outcome : Outcome) → BringsPlain outcome → Adds [] (calls_in_turn command (started command outcome))
  add_started (out.Begin (Ok begun)) brings = inl refl
  add_started (out.Begin (Err r)) brings = inr (refl, plain_call (refused_at r None) refl)
  add_started (out.Recv got dead) brings = inr (refl, plain_call (recv_answer got) brings)
  add_started (out.Release (Ok owed)) brings = inr (refl, plain_call answer.Done refl)
  add_started (out.Release (Err r)) brings = inr (refl, plain_call (refused_at r None) refl)
  add_started (out.BeginDestroy (Ok visit) doomed) brings = add_destroying doomed visit
  add_started (out.BeginDestroy (Err r) doomed) brings = inr (refl, plain_call (refused_at r None) refl)
  add_started (out.Local got) brings = inr (refl, plain_call got brings)
  add_started outcome brings = inl refl

  add_turn : (me : ℕ) (phase : Phase) (outcome : Outcome) → NoStamp phase outcome → BringsPlain outcome → Adds (calls_in_phase command phase) (calls_in_turn command (turn me command phase outcome))
  add_turn me Starting outcome none brings = add_started outcome brings
  add_turn me (Staging begun places collected) (out.Stage (Ok clock)) none brings = add_staging begun (places ++ None ∷ []) _
  add_turn me (Staging begun places collected) (out.Stage (Err r)) none brings = add_place r begun places collected (send_of command).go_on
  add_turn me (Unstaging begun places refused place) out.Unstage none brings = inl (same_unstaging begun places refused (accepted_from (place + 1) places))
  add_turn me (Attaching sending place slot) (out.Attach got) none brings = add_attaching (with_slot sending place slot got) place (slot + 1)
  add_turn me (Stamping sending) (out.Stamp stamp) none brings = inr (refl, subst Plain (sym (same_syncing sending stamp (accepted_from 0 sending.places))) (plain_call (answer.Sent (record { stamp = stamp; places = sending.places })) refl))
  add_turn me (Syncing sending stamp place) out.Sync none brings = inl (same_syncing sending stamp (accepted_from (place + 1) sending.places))
  add_turn me (Committing sending stamp place) (out.Commit found) none brings = inl refl
  add_turn me (Visiting d left) (out.Visit got) none brings = add_visiting (with_visit d (get_or left 0 me) got) (drop 1 left)
  add_turn me (Dooming d) (out.StampDestroy (Ok stamp)) none brings = absurd none
  add_turn me (Dooming d) (out.StampDestroy (Err late)) none brings = add_visiting d late
  add_turn me (SyncingNotices d stamp at) out.Sync none brings = inl (same_notices d stamp (at + 1))
  add_turn me (CommittingOwn d stamp) out.CommitNotices none brings = inl (same_commits d stamp 0)
  add_turn me (CommittingNotices d stamp at) out.CommitNotices none brings = inl (same_commits d stamp (at + 1))
  add_turn me (Flushing stamp) (out.Flush dead) none brings = inl refl
  add_turn me phase outcome none brings = inl refl

  calls_goes : (b : Bool) (got : Option Answer) (d : DriverPart) (phase : Phase) → got ≡ answer_of command phase → driver_calls (goes_by b got d command phase) ≡ d.calls ++ calls_in_phase command phase
  calls_goes false got d phase is = refl
  calls_goes true None d phase is = refl
  calls_goes true (Some got) d phase is = append-nil (d.calls ++ call_of command got) ∙ ap (λ z. d.calls ++ fixed_call command z) is

  pub calls_turned : (d : DriverPart) (t : Turn) → driver_calls (turned d command t) ≡ d.calls ++ calls_in_turn command t
  calls_turned d (Goes phase) = calls_goes (is_done d.owed d.told phase) (answer_of command phase) d phase refl
  calls_turned d (Ends got) = append-nil (d.calls ++ call_of command got)

-- ---- events

module _ (x : PeerPart) where
  recv_plain : (got : Received) → destroy_stamp (recv_answer got) ≡ None
  recv_plain got = by got.front
    where
      by : (front : Result Receipt Front) → destroy_stamp (elim front [ Ok receipt ↦ answer.Got receipt | Err found ↦ refused_at (Again found) None ]) ≡ None
      by (Ok receipt) = refl
      by (Err found) = refl

  local_plain : (shut : Bool) (command : Command) → destroy_stamp (local_answer shut command x) ≡ None
  local_plain true command = refl
  local_plain false (cmd.SliceRelease offset) = by (is_received offset x.slices)
    where
      by : (b : Bool) → destroy_stamp (cond b answer.Done (refused_at (Unknown offset) None)) ≡ None
      by true = refl
      by false = refl
  local_plain false cmd.Query = refl
  local_plain false (cmd.Limit limits) = refl
  local_plain false command = refl

  stage_plain : (r : Option Reason) (memory : Bool) (origin user place serial : ℕ) (payload : List ℕ) (nodes : List NodeRef) → BringsPlain (stage_by r memory origin user place serial payload nodes x).0
  stage_plain (Some r) memory origin user place serial payload nodes = tt
  stage_plain None true origin user place serial payload nodes = tt
  stage_plain None false origin user place serial payload nodes = tt

  begin_plain : (r : Option Reason) (memory : Bool) (c : SendCmd) → BringsPlain (begin_by r memory c x).0
  begin_plain (Some r) memory c = tt
  begin_plain None true c = tt
  begin_plain None false c = tt

  destroy_plain : (r : Option Reason) (doomed : List ℕ) → BringsPlain (destroy_by r doomed x).0
  destroy_plain (Some r) doomed = tt
  destroy_plain None doomed = tt

brings_plain : (o : Opening) (memory : Bool) (d : DriverPart) (one : Doing) (action : Action) (x : PeerPart) → BringsPlain (happens o memory d one action x).0
brings_plain o memory d one act.Recv x = recv_plain x (received x)
brings_plain o memory d one act.Local x = local_plain x d.shut one.command
brings_plain o memory d one act.Begin x = begin_plain x (send_refusal x (send_of one.command)) memory (send_of one.command)
brings_plain o memory d one (act.Stage peer place) x = stage_plain x _ memory _ _ _ _ _ _
brings_plain o memory d one act.BeginDestroy x = destroy_plain x (begin_refusal one.command x) (begin_serials one.command x)
brings_plain o memory d one action x = tt

-- ---- a step

module _ {o : Opening} {s : State} {p : ℕ} {c : Option Command} {t : State} (step : Step o s p c t) where
  pub calls_before : driver_calls step.driver ≡ step.driver.calls ++ calls_in_phase (parts step).command (parts step).phase
  calls_before = elim (parts step).was [
    | inl open_is ↦ ap (λ z. driver_calls (record step.driver { doing = z })) open_is
    | inr new ↦ ap (λ z. driver_calls (record step.driver { doing = z })) new.0 ∙ ap (λ z. step.driver.calls ++ calls_in_phase (parts step).command z) (sym new.1)
  ]

  abbrev new_calls : List Call
  new_calls = calls_in_turn (parts step).command (turn step.driver.me (parts step).command (parts step).phase (going_answer step))

  pub calls_after : driver_calls step.new_driver ≡ step.driver.calls ++ new_calls
  calls_after =
      ap driver_calls (sym (parts step).is_driver)
      ∙ calls_turned (parts step).command (with_facts (going step) (going_doing step) (going_answer step)) (turn step.driver.me (parts step).command (parts step).phase (going_answer step))

  -- a step that gives no destruction its stamp adds none to the calls
  pub calm_calls : NoStamp (parts step).phase (going_answer step) → (more : List Call) × (driver_calls step.new_driver ≡ driver_calls step.driver ++ more) × Plain more
  calm_calls none = by (add_turn (parts step).command step.driver.me (parts step).phase (going_answer step) none (brings_plain o step.local.memory (going step) (going_doing step) (going_action step) step.peer))
    where
      by : Adds (calls_in_phase (parts step).command (parts step).phase) new_calls → (more : List Call) × (driver_calls step.new_driver ≡ driver_calls step.driver ++ more) × Plain more
      by (inl same) = ([], calls_after ∙ ap (λ more. step.driver.calls ++ more) same ∙ sym calls_before ∙ sym (append-nil (driver_calls step.driver)), λ d h. absurd h)
      by (inr (empty, plain)) = (new_calls, calls_after ∙ ap (λ list. list ++ new_calls) (sym (append-nil step.driver.calls) ∙ ap (λ more. step.driver.calls ++ more) (sym empty) ∙ sym calls_before), plain)
