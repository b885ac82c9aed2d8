-- Every stamp in a peer's calls is at most its clock.
use Rattle.std.proofs.Common.{◌≡◌, refl, sym, ap, subst, ◌∙◌, inl, inr, ℕ, zero, suc, ◌+◌, ◌≤◌, max, Bool, true, false, cond, ◌&&◌, nat_lt, List, [], ◌∷◌, ◌++◌, drop, length, get_or, Option, Some, None, Ok, Err, append-nil}
use Rattle.std.specs.Prelude.{slice_get, ⊤}
use Rattle.std.proofs.lemmas.Option.{same_Some, slice_get_within}
use native.Mathlib.Omega.{arith}
use Rattle.b1_model.specs.declared.commands.Command.{Command}
use Rattle.b1_model.specs.declared.commands.Command.TheVariants as cmd
use Rattle.b1_model.specs.declared.commands.SendCmd.{SendCmd}
use Rattle.b1_model.specs.declared.naming.Key.{Key}
use Rattle.b1_model.specs.declared.naming.NodeRef.{NodeRef}
use Rattle.b1_model.specs.declared.naming.Opening.{Opening}
use Rattle.b1_model.specs.declared.answers.Answer.{Answer}
use Rattle.b1_model.specs.declared.answers.Answer.TheVariants as answer
use Rattle.b1_model.specs.declared.answers.Reason.{Reason}
use Rattle.b1_model.specs.declared.answers.Reason.TheVariants.{Unknown, Memory, Invalid}
use Rattle.b1_model.specs.declared.answers.Refused.{Refused}
use Rattle.b1_model.specs.declared.parts.Begun.{Begun}
use Rattle.b1_model.specs.declared.entries.Entry.{Entry}
use Rattle.b1_model.specs.declared.entries.Entry.TheVariants.{Message, OwnNotice, ForeignNotice, ReleaseNotice}
use Rattle.b1_model.specs.declared.events.Action.{Action}
use Rattle.b1_model.specs.declared.events.Action.TheVariants as act
use Rattle.b1_model.specs.declared.events.Destruction.{Destruction}
use Rattle.b1_model.specs.declared.events.Doing.{Doing}
use Rattle.b1_model.specs.declared.events.OwedDrop.{OwedDrop}
use Rattle.b1_model.specs.declared.events.Outcome.{Outcome}
use Rattle.b1_model.specs.declared.events.Outcome.TheVariants as out
use Rattle.b1_model.specs.declared.events.Phase.{Phase}
use Rattle.b1_model.specs.declared.events.Phase.TheVariants.{Starting, Staging, Unstaging, Attaching, Stamping, Syncing, Committing, Dropping, Reaping, Visiting, Dooming, SyncingNotices, CommittingOwn, CommittingNotices, Flushing}
use Rattle.b1_model.specs.declared.events.Sending.{Sending}
use Rattle.b1_model.specs.declared.records.Call.{Call}
use Rattle.b1_model.specs.Names.{calls_in, calls_of}
use Rattle.b1_model.specs.Legal.{seen_stamp}
use Rattle.b1_model.specs.Opening.{IsOpening}
use Rattle.b1_model.specs.MachineParts.{PeerPart, DriverPart, State, is_staged}
use Rattle.b1_model.specs.MachinePool.{is_received}
use Rattle.b1_model.specs.MachineSend.{send_refusal, final_stamp}
use Rattle.b1_model.specs.MachineReceive.{received, cleared, discards, front_by, front_taken, taken_entry}
use Rattle.b1_model.specs.MachineDestroy.{doom_by}
use Rattle.b1_model.specs.MachineDriver.{accepted_from, is_place, attaching, with_slot, all_staged, staging, all_refused, memory_place, refused_at, unstaging, syncing, visiting, with_visit, syncing_notices, committing_notices, destroying, is_flushing, send_of, recv_answer, started, turn, Turn, Goes, Ends, peer_of}
use Rattle.b1_model.specs.MachineTook.{answer_of, stamped_answer, is_await, is_waiting, as_call, call_of, goes_by, is_done, turned, with_facts, took, driver_calls, open_by, fixed_call}
use Rattle.b1_model.specs.MachineEvents.{happens, begin_by, stage_by, destroy_by, begin_refusal, begin_serials, collected_of, doomed_of, local_answer}
use Rattle.b1_model.specs.MachineStep.{Step, opening_state, peer_records, record_of_state}
use Rattle.b1_step.specs.Rights.{Has}
use Rattle.b1_step.proofs.Clocks.{rises}
use Rattle.b1_step.proofs.Lists.{has_append, has_left, has_right}
use Rattle.b1_step.proofs.Locality.{as_many_peers, as_many_drivers}
use Rattle.b1_inv.specs.Words.{IsPeer, IsDriver}
use Rattle.b1_inv.specs.Sound.{IsSound}
use Rattle.b1_inv_record.specs.Clocks.{CommittedBelowClock, ListedBelowClock}
use Rattle.b1_inv_tools.proofs.Comes.{has_drop}
use Rattle.b1_inv_tools.proofs.Leaves.{driver_cases, new_peer}
use Rattle.b1_inv_tools.proofs.Received.{at_cleared}
use Rattle.b1_inv_tools.proofs.Openings.{opening_idle}
use Rattle.b1_inv_notices.proofs.Turns.{doing_in, opened, parts, going, going_doing, going_action, going_answer, get_there}
use Rattle.b1_inv_cover.proofs.Stamped.{peer_before, same_peer_at}

-- the stamp of an answer is within a bound
abbrev pub AnswerLow : ℕ → Answer → Type 0
AnswerLow bound got = (stamp : ℕ) → seen_stamp got ≡ Some stamp → stamp ≤ bound

-- the stamps of calls are within a bound
abbrev pub CallsLow : ℕ → List Call → Type 0
CallsLow bound calls = (c : Call) → Has calls c → AnswerLow bound c.answer

-- what an answer of an event brings into a call is within a bound
abbrev pub BringsLow : ℕ → Outcome → Type 0
BringsLow bound (out.Recv got dead) = AnswerLow bound (recv_answer got)
BringsLow bound (out.Stamp stamp) = stamp ≤ bound
BringsLow bound (out.StampDestroy (Ok stamp)) = stamp ≤ bound
BringsLow bound (out.Local got) = AnswerLow bound got
BringsLow bound outcome = ⊤

-- ---- calls

-- an answer with a stamp is no attempt that waits, so its call stands
call_there : (command : Command) (got : Answer) (stamp : ℕ) → seen_stamp got ≡ Some stamp → Has {X = Call} (call_of command got) (record { command = as_call command; answer = got })
call_there command (answer.Refused refused) stamp is = absurd (cc is)
call_there command got stamp is = there (is_await command)
  where
    there : (b : Bool) → Has {X = Call} (cond (b && false) [] (record { command = as_call command; answer = got } ∷ [])) (record { command = as_call command; answer = got })
    there true = inl refl
    there false = inl refl

module _ (bound : ℕ) where
  none_low : (got : Answer) → seen_stamp got ≡ None → AnswerLow bound got
  none_low got none stamp is = let both : Some stamp ≡ None = sym is ∙ none in absurd (cc both)

  this_low : (got : Answer) (stamp : ℕ) → seen_stamp got ≡ Some stamp → stamp ≤ bound → AnswerLow bound got
  this_low got stamp this low other is = let both : Some stamp ≡ Some other = sym this ∙ is in let same : stamp ≡ other = cc both in omega (arith, low, same)

  pub calls_append : (xs ys : List Call) → CallsLow bound xs → CallsLow bound ys → CallsLow bound (xs ++ ys)
  calls_append xs ys h k c there = elim (has_append xs ys c there) [ inl left ↦ h c left | inr right ↦ k c right ]

  call_low : (command : Command) (got : Answer) → AnswerLow bound got → CallsLow bound (call_of command got)
  call_low command got h = by (is_waiting command got)
    where
      by : (b : Bool) → CallsLow bound (cond b [] (record { command = as_call command; answer = got } ∷ []))
      by true c there = absurd there
      by false c (inl same) = subst {A = Call} (λ z. AnswerLow bound z.answer) (sym same) h
      by false c (inr further) = absurd further

  -- the answer that a phase has fixed
  abbrev PhaseLow : Command → Phase → Type 0
  PhaseLow command phase = (got : Answer) → answer_of command phase ≡ Some got → AnswerLow bound got

  fixed_low : (command : Command) (got : Option Answer) → ((a : Answer) → got ≡ Some a → AnswerLow bound a) → CallsLow bound (fixed_call command got)
  fixed_low command None h = λ c there. absurd there
  fixed_low command (Some got) h = call_low command got (h got refl)

  -- the answer that a turn leaves fixed, or ends with
  abbrev TurnLow : Command → Turn → Type 0
  TurnLow command (Goes phase) = PhaseLow command phase
  TurnLow command (Ends got) = AnswerLow bound got

  goes_low : (command : Command) (b : Bool) (got : Option Answer) (d : DriverPart) (phase : Phase) → got ≡ answer_of command phase → CallsLow bound d.calls → ((a : Answer) → got ≡ Some a → AnswerLow bound a) → CallsLow bound (driver_calls (goes_by b got d command phase))
  goes_low command false got d phase is calls h = calls_append d.calls (fixed_call command (answer_of command phase)) calls (fixed_low command (answer_of command phase) (λ a same. h a (is ∙ same)))
  goes_low command true None d phase is calls h = calls_append d.calls (fixed_call command (answer_of command phase)) calls (fixed_low command (answer_of command phase) (λ a same. h a (is ∙ same)))
  goes_low command true (Some got) d phase is calls h = subst (CallsLow bound) (sym (append-nil (d.calls ++ call_of command got))) (calls_append d.calls (call_of command got) calls (call_low command got (h got refl)))

  turned_low : (command : Command) (d : DriverPart) (t : Turn) → CallsLow bound d.calls → TurnLow command t → CallsLow bound (driver_calls (turned d command t))
  turned_low command d (Goes phase) calls h = goes_low command (is_done d.owed d.told phase) (answer_of command phase) d phase refl calls h
  turned_low command d (Ends got) calls h = subst (CallsLow bound) (sym (append-nil (d.calls ++ call_of command got))) (calls_append d.calls (call_of command got) calls (call_low command got h))

  -- ---- turns

  module _ (command : Command) where
    open_low : (phase : Phase) → answer_of command phase ≡ None → PhaseLow command phase
    open_low phase none got is = let both : Some got ≡ None = sym is ∙ none in absurd (cc both)

    some_low : (phase : Phase) (got : Answer) → answer_of command phase ≡ Some got → AnswerLow bound got → PhaseLow command phase
    some_low phase got this h other is = let both : Some got ≡ Some other = sym this ∙ is in let same : got ≡ other = cc both in subst (AnswerLow bound) same h

    low_attaching : (sending : Sending) (place slot : ℕ) → PhaseLow command (attaching sending place slot)
    low_attaching sending place slot = by (nat_lt slot (length sending.begun.with)) (nat_lt 0 (length sending.begun.with) && is_place (accepted_from (place + 1) sending.places) sending.places) (accepted_from (place + 1) sending.places)
      where
        by : (b c : Bool) (next : ℕ) → PhaseLow command (cond b (Attaching sending place slot) (cond c (Attaching sending next 0) (Stamping sending)))
        by true c next = open_low (Attaching sending place slot) refl
        by false true next = open_low (Attaching sending next 0) refl
        by false false next = open_low (Stamping sending) refl

    low_refused : (places : List (Option Reason)) → AnswerLow bound (all_refused places)
    low_refused places = by (memory_place 0 places) (get_or places 0 None)
      where
        by : (memory : Option ℕ) (first : Option Reason) → AnswerLow bound (elim memory [ Some place ↦ refused_at Memory (Some place) | None ↦ elim first [ None ↦ refused_at Invalid None | Some r ↦ refused_at r (Some 0) ] ])
        by (Some place) first = none_low (refused_at Memory (Some place)) refl
        by None None = none_low (refused_at Invalid None) refl
        by None (Some r) = none_low (refused_at r (Some 0)) refl

    low_staging : (begun : Begun) (places : List (Option Reason)) (collected : ℕ) → TurnLow command (staging begun places collected)
    low_staging begun places collected = by (nat_lt (length places) (length begun.to)) (is_place (accepted_from 0 places) places)
      where
        by : (b c : Bool) → TurnLow command (cond b (Goes (Staging begun places collected)) (cond c (Goes (attaching (all_staged begun places collected) (accepted_from 0 places) 0)) (Ends (all_refused places))))
        by true c = open_low (Staging begun places collected) refl
        by false true = low_attaching (all_staged begun places collected) (accepted_from 0 places) 0
        by false false = low_refused places

    low_unstaging : (begun : Begun) (places : List (Option Reason)) (refused : Refused) (place : ℕ) → TurnLow command (unstaging begun places refused place)
    low_unstaging begun places refused place = elim (is_place place places) as (λ b. TurnLow command (cond b (Goes (Unstaging begun places refused place)) (Ends (answer.Refused refused)))) [
      | true ↦ some_low (Unstaging begun places refused place) (answer.Refused refused) refl (none_low (answer.Refused refused) refl)
      | false ↦ none_low (answer.Refused refused) refl
    ]

    low_place : (r : Reason) (begun : Begun) (places : List (Option Reason)) (collected : ℕ) (go_on : Bool)
        → TurnLow command (cond go_on (staging begun (places ++ Some r ∷ []) collected) (unstaging begun (places ++ Some r ∷ []) (record { reason = r; place = Some (length places) }) (accepted_from 0 (places ++ Some r ∷ []))))
    low_place r begun places collected true = low_staging begun (places ++ Some r ∷ []) collected
    low_place r begun places collected false = low_unstaging begun (places ++ Some r ∷ []) (record { reason = r; place = Some (length places) }) (accepted_from 0 (places ++ Some r ∷ []))

    low_syncing : (sending : Sending) (stamp place : ℕ) → stamp ≤ bound → PhaseLow command (syncing sending stamp place)
    low_syncing sending stamp place low = elim (is_place place sending.places) as (λ b. PhaseLow command (cond b (Syncing sending stamp place) (Committing sending stamp (accepted_from 0 sending.places)))) [
      | true ↦ some_low (Syncing sending stamp place) (answer.Sent (record { stamp = stamp; places = sending.places })) refl (this_low (answer.Sent (record { stamp = stamp; places = sending.places })) stamp refl low)
      | false ↦ some_low (Committing sending stamp (accepted_from 0 sending.places)) (answer.Sent (record { stamp = stamp; places = sending.places })) refl (this_low (answer.Sent (record { stamp = stamp; places = sending.places })) stamp refl low)
    ]

    low_visiting : (d : Destruction) (left : List ℕ) → PhaseLow command (visiting d left)
    low_visiting d [] = open_low (Dooming d) refl
    low_visiting d (peer ∷ rest) = open_low (Visiting d (peer ∷ rest)) refl

    low_destroying : (doomed visit : List ℕ) → PhaseLow command (destroying doomed visit)
    low_destroying [] visit = some_low (Flushing None) (answer.Reset None) refl (none_low (answer.Reset None) refl)
    low_destroying (serial ∷ rest) visit = low_visiting (record { doomed = serial ∷ rest; collected = 0; staged = [] }) visit

    low_stamped : (stamp : ℕ) → stamp ≤ bound → AnswerLow bound (stamped_answer command stamp)
    low_stamped stamp low = elim (is_flushing command) as (λ b. AnswerLow bound (cond b (answer.Reset (Some stamp)) (answer.Destroyed stamp))) [
      | true ↦ this_low (answer.Reset (Some stamp)) stamp refl low
      | false ↦ this_low (answer.Destroyed stamp) stamp refl low
    ]

    low_notices : (d : Destruction) (stamp at : ℕ) → stamp ≤ bound → PhaseLow command (syncing_notices d stamp at)
    low_notices d stamp at low = elim (nat_lt at (length d.staged)) as (λ b. PhaseLow command (cond b (SyncingNotices d stamp at) (CommittingOwn d stamp))) [
      | true ↦ some_low (SyncingNotices d stamp at) (stamped_answer command stamp) refl (low_stamped stamp low)
      | false ↦ some_low (CommittingOwn d stamp) (stamped_answer command stamp) refl (low_stamped stamp low)
    ]

    -- the stamp of the answer of a destruction
    stamped_is : (stamp : ℕ) → seen_stamp (stamped_answer command stamp) ≡ Some stamp
    stamped_is stamp = elim (is_flushing command) as (λ b. seen_stamp (cond b (answer.Reset (Some stamp)) (answer.Destroyed stamp)) ≡ Some stamp) [ true ↦ refl | false ↦ refl ]

    low_commits : (d : Destruction) (stamp at : ℕ) → stamp ≤ bound → TurnLow command (committing_notices command d stamp at)
    low_commits d stamp at low = by (nat_lt at (length d.staged)) (is_flushing command)
      where
        by : (b c : Bool) → TurnLow command (cond b (Goes (CommittingNotices d stamp at)) (cond c (Goes (Flushing (Some stamp))) (Ends (answer.Destroyed stamp))))
        by true c = some_low (CommittingNotices d stamp at) (stamped_answer command stamp) refl (low_stamped stamp low)
        by false true = some_low (Flushing (Some stamp)) (answer.Reset (Some stamp)) refl (this_low (answer.Reset (Some stamp)) stamp refl low)
        by false false = this_low (answer.Destroyed stamp) stamp refl low

    low_started : (outcome : Outcome) → BringsLow bound outcome → TurnLow command (started command outcome)
    low_started (out.Begin (Ok begun)) brings = open_low (Staging begun [] 0) refl
    low_started (out.Begin (Err r)) brings = none_low (refused_at r None) refl
    low_started (out.Recv got dead) brings = some_low (Reaping (recv_answer got)) (recv_answer got) refl brings
    low_started (out.Release (Ok owed)) brings = some_low Dropping answer.Done refl (none_low answer.Done refl)
    low_started (out.Release (Err r)) brings = none_low (refused_at r None) refl
    low_started (out.BeginDestroy (Ok visit) doomed) brings = low_destroying doomed visit
    low_started (out.BeginDestroy (Err r) doomed) brings = none_low (refused_at r None) refl
    low_started (out.Local got) brings = brings
    low_started outcome brings = open_low Starting refl

    pub low_turn : (me : ℕ) (phase : Phase) (outcome : Outcome) → PhaseLow command phase → BringsLow bound outcome → TurnLow command (turn me command phase outcome)
    low_turn me Starting outcome h brings = low_started outcome brings
    low_turn me (Staging begun places collected) (out.Stage (Ok clock)) h brings = low_staging begun (places ++ None ∷ []) (max collected clock)
    low_turn me (Staging begun places collected) (out.Stage (Err r)) h brings = low_place r begun places collected (send_of command).go_on
    low_turn me (Unstaging begun places refused place) out.Unstage h brings = low_unstaging begun places refused (accepted_from (place + 1) places)
    low_turn me (Attaching sending place slot) (out.Attach got) h brings = low_attaching (with_slot sending place slot got) place (slot + 1)
    low_turn me (Stamping sending) (out.Stamp stamp) h brings = low_syncing sending stamp (accepted_from 0 sending.places) brings
    low_turn me (Syncing sending stamp place) out.Sync h brings = low_syncing sending stamp (accepted_from (place + 1) sending.places) (h _ refl stamp refl)
    low_turn me (Committing sending stamp place) (out.Commit found) h brings = h
    low_turn me (Visiting d left) (out.Visit got) h brings = low_visiting (with_visit d (get_or left 0 me) got) (drop 1 left)
    low_turn me (Dooming d) (out.StampDestroy (Ok stamp)) h brings = low_notices d stamp 0 brings
    low_turn me (Dooming d) (out.StampDestroy (Err late)) h brings = low_visiting d late
    low_turn me (SyncingNotices d stamp at) out.Sync h brings = low_notices d stamp (at + 1) (h _ refl stamp (stamped_is stamp))
    low_turn me (CommittingOwn d stamp) out.CommitNotices h brings = low_commits d stamp 0 (h _ refl stamp (stamped_is stamp))
    low_turn me (CommittingNotices d stamp at) out.CommitNotices h brings = low_commits d stamp (at + 1) (h _ refl stamp (stamped_is stamp))
    low_turn me (Flushing stamp) (out.Flush dead) h brings = h
    low_turn me phase outcome h brings = h

  pub low_took : (command : Command) (d : DriverPart) (phase : Phase) (owed : List OwedDrop) (outcome : Outcome) → CallsLow bound d.calls → PhaseLow command phase → BringsLow bound outcome → CallsLow bound (driver_calls (took (opened d command phase owed) outcome))
  low_took command d phase owed outcome calls h brings = turned_low command (with_facts (opened d command phase owed) (doing_in command phase) outcome) (turn d.me command phase outcome) calls (low_turn command d.me phase outcome h brings)

-- ---- events

module _ (bound : ℕ) (x : PeerPart) (low : (f : Key × Entry) → Has x.queue f → is_staged f ≡ false → f.0.stamp ≤ x.clock) where
  taken_low : (y : PeerPart) (k : Key) (e : Entry) → k.stamp ≤ bound → AnswerLow bound (answer.Got (taken_entry y k e).0)
  taken_low y k (Message origin user index serial offset len nodes slots handles payload) is stamp same = let k : k.stamp ≡ stamp = cc same in omega (arith, is, k)
  taken_low y k (OwnNotice serial index) is stamp same = let k : k.stamp ≡ stamp = cc same in omega (arith, is, k)
  taken_low y k (ForeignNotice node index) is stamp same = let k : k.stamp ≡ stamp = cc same in omega (arith, is, k)
  taken_low y k (ReleaseNotice serial) is stamp same = absurd (cc same)

  front_low : (b : Bool) (y : PeerPart) (f : Key × Entry) (rest : List (Key × Entry)) (removed : ℕ) → (b ≡ false → f.0.stamp ≤ bound) → AnswerLow bound (recv_answer (record { front = (front_by b y f rest).0; removed = removed }))
  front_low true y f rest removed is = λ stamp same. absurd (cc same)
  front_low false y f rest removed is = taken_low (record y { queue = rest }) f.0 f.1 (is refl)

  queue_low : (y : PeerPart) (queue : List (Key × Entry)) (removed : ℕ) → ((f : Key × Entry) → Has queue f → is_staged f ≡ false → f.0.stamp ≤ bound) → AnswerLow bound (recv_answer (record { front = (front_taken y queue).0; removed = removed }))
  queue_low y [] removed each = λ stamp same. absurd (cc same)
  queue_low y (f ∷ rest) removed each = front_low (is_staged f) y f rest removed (λ is. each f (inl refl) is)

  received_low : x.clock ≤ bound → AnswerLow bound (recv_answer (received x))
  received_low high = queue_low (cleared x) (cleared x).queue (length (discards x)) each
    where
      each : (f : Key × Entry) → Has (cleared x).queue f → is_staged f ≡ false → f.0.stamp ≤ bound
      each f h is = let k = low f (has_drop (length (discards x)) x.queue f (subst (λ queue. Has queue f) (at_cleared x).0 h)) is in omega (arith, k, high)

  local_low : (shut : Bool) (command : Command) → AnswerLow bound (local_answer shut command x)
  local_low true command = λ stamp is. absurd (cc is)
  local_low false (cmd.SliceRelease offset) = by (is_received offset x.slices)
    where
      by : (b : Bool) → AnswerLow bound (cond b answer.Done (refused_at (Unknown offset) None))
      by true stamp is = absurd (cc is)
      by false stamp is = absurd (cc is)
  local_low false cmd.Query = λ stamp is. absurd (cc is)
  local_low false (cmd.Limit limits) = λ stamp is. absurd (cc is)
  local_low false command = λ stamp is. absurd (cc is)

  stage_low : (r : Option Reason) (memory : Bool) (origin user place serial : ℕ) (payload : List ℕ) (nodes : List NodeRef) → BringsLow bound (stage_by r memory origin user place serial payload nodes x).0
  stage_low (Some r) memory origin user place serial payload nodes = tt
  stage_low None true origin user place serial payload nodes = tt
  stage_low None false origin user place serial payload nodes = tt

  begin_low : (r : Option Reason) (memory : Bool) (c : SendCmd) → BringsLow bound (begin_by r memory c x).0
  begin_low (Some r) memory c = tt
  begin_low None true c = tt
  begin_low None false c = tt

  destroy_low : (r : Option Reason) (doomed : List ℕ) → BringsLow bound (destroy_by r doomed x).0
  destroy_low (Some r) doomed = tt
  destroy_low None doomed = tt

  doom_low : (late : List ℕ) (collected : ℕ) (doomed : List ℕ) → (doom_by late x collected doomed).clock ≤ bound → BringsLow bound (out.StampDestroy (elim late [ [] ↦ Ok (final_stamp x collected) | peer ∷ rest ↦ Err (peer ∷ rest) ]))
  doom_low [] collected doomed high = high
  doom_low (peer ∷ rest) collected doomed high = tt

  -- at its own peer, an event brings nothing above the clock after it
  pub brings_low : (o : Opening) (memory : Bool) (d : DriverPart) (one : Doing) (action : Action) → (peer_of d.me action ≡ d.me → (happens o memory d one action x).1.clock ≤ bound) → BringsLow bound (happens o memory d one action x).0
  brings_low o memory d one act.Recv high = let k = high refl in let rise = rises o memory d one act.Recv x in received_low (omega (arith, k, rise))
  brings_low o memory d one act.Stamp high = high refl
  brings_low o memory d one act.StampDestroy high = doom_low x.late (collected_of one.phase) (doomed_of one.phase) (high refl)
  brings_low o memory d one act.Local high = local_low d.shut one.command
  brings_low o memory d one act.Begin high = begin_low (send_refusal x (send_of one.command)) memory (send_of one.command)
  brings_low o memory d one (act.Stage peer place) high = stage_low _ memory _ _ _ _ _ _
  brings_low o memory d one act.BeginDestroy high = destroy_low (begin_refusal one.command x) (begin_serials one.command x)
  brings_low o memory d one action high = tt

-- ---- the record

-- the recorded calls of a peer are those of its driver
recorded_in : (xs : List PeerPart) (ds : List DriverPart) (p : ℕ) (x : PeerPart) (d : DriverPart) → slice_get xs p ≡ Some x → slice_get ds p ≡ Some d → calls_in (slice_get (peer_records xs ds) p) ≡ driver_calls d
recorded_in [] ds p x d is also = absurd (cc is)
recorded_in (y ∷ xs) [] p x d is also = absurd (cc also)
recorded_in (y ∷ xs) (e ∷ ds) zero x d is also = ap driver_calls (same_Some e d also)
recorded_in (y ∷ xs) (e ∷ ds) (suc p) x d is also = recorded_in xs ds p x d is also

-- where there is no driver there are no calls
none_recorded : (xs : List PeerPart) (ds : List DriverPart) (p : ℕ) → slice_get ds p ≡ None → calls_in (slice_get (peer_records xs ds) p) ≡ []
none_recorded [] ds p none = refl
none_recorded (y ∷ xs) [] p none = refl
none_recorded (y ∷ xs) (e ∷ ds) zero none = absurd (cc none)
none_recorded (y ∷ xs) (e ∷ ds) (suc p) none = none_recorded xs ds p none

pub recorded_calls : (s : State) (p : ℕ) (x : PeerPart) (d : DriverPart) → IsPeer s p x → IsDriver s p d → calls_of (record_of_state s) p ≡ driver_calls d
recorded_calls s p x d is also = recorded_in s.peers s.drivers p x d is also

-- ---- a step

module _ {o : Opening} {s : State} {p : ℕ} {c : Option Command} {t : State} (sound : IsSound o s) (committed : CommittedBelowClock s) (step : Step o s p c t) (listed : ListedBelowClock s) where
  calls_before : (r : ℕ) (e : DriverPart) (x : PeerPart) → IsDriver s r e → IsPeer s r x → CallsLow x.clock (driver_calls e)
  calls_before r e x is_driver is_peer one h stamp is = listed.below r x one stamp is_peer (subst (λ calls. Has calls one) (sym (recorded_calls s r x e is_peer is_driver)) h) is

  higher : (low high : ℕ) (calls : List Call) → low ≤ high → CallsLow low calls → CallsLow high calls
  higher low high calls rise h one there stamp is = let k = h one there stamp is in omega (arith, k, rise)

  module _ (y : PeerPart) (is_own : IsPeer t p y) where
    own_before : (x : PeerPart) × IsPeer s p x × (x.clock ≤ y.clock)
    own_before = peer_before step p y is_own

    old_calls : CallsLow y.clock (driver_calls step.driver)
    old_calls = higher own_before.0.clock y.clock (driver_calls step.driver) own_before.2 (calls_before p step.driver own_before.0 step.is_driver own_before.1)

    brings : BringsLow y.clock (going_answer step)
    brings =
        brings_low y.clock step.peer (λ f h even. committed.below step.at step.peer f step.is_peer h even) o step.local.memory (going step) (going_doing step) (going_action step)
        (λ here.
        let at : step.at ≡ p = sym (parts step).is_at ∙ here ∙ sound.numbered.drivers p step.driver step.is_driver in
        let same : step.new_peer ≡ y = same_peer_at t p step.new_peer y (subst (λ r. IsPeer t r step.new_peer) at (new_peer step)) is_own in
        let clock = ap (λ z. z.clock) ((parts step).is_peer ∙ same) in omega (arith, clock))

    old_phase : (got : Answer) → answer_of (parts step).command (parts step).phase ≡ Some got → AnswerLow y.clock got
    old_phase got is = elim (parts step).was [
      | inr new ↦ let none : Some got ≡ None = sym is ∙ ap (answer_of (parts step).command) new.1 in absurd (cc none)
      | inl open_is ↦ by_call got is open_is
    ]
      where
        by_call : (got : Answer) → answer_of (parts step).command (parts step).phase ≡ Some got → step.driver.doing ≡ Some (going_doing step) → AnswerLow y.clock got
        by_call got is open_is stamp seen =
            let calls : open_by step.driver.doing ≡ call_of (parts step).command got = ap open_by open_is ∙ ap (fixed_call (parts step).command) is in
            old_calls (record { command = as_call (parts step).command; answer = got })
            (has_right step.driver.calls (open_by step.driver.doing) (record { command = as_call (parts step).command; answer = got }) (subst (λ list. Has list (record { command = as_call (parts step).command; answer = got })) (sym calls) (call_there (parts step).command got stamp seen))) stamp seen

    new_calls : CallsLow y.clock (driver_calls step.new_driver)
    new_calls =
        subst (λ e. CallsLow y.clock (driver_calls e)) (parts step).is_driver
        (low_took y.clock (parts step).command step.driver (parts step).phase step.driver.owed (going_answer step)
        (λ one h. old_calls one (has_left step.driver.calls (open_by step.driver.doing) one h)) old_phase brings)

  calls_after : (q : ℕ) (e : DriverPart) (y : PeerPart) → IsDriver t q e → IsPeer t q y → CallsLow y.clock (driver_calls e)
  calls_after q e y is_driver is_peer = elim (driver_cases step q e is_driver) [
    | inl own ↦ subst (λ z. CallsLow y.clock (driver_calls z)) (sym own.1) (new_calls y (subst (λ r. IsPeer t r y) own.0 is_peer))
    | inr other ↦ let x = peer_before step q y is_peer in higher x.0.clock y.clock (driver_calls e) x.2 (calls_before q e x.0 other.1 x.1)
  ]

  pub listed_kept : ListedBelowClock t
  listed_kept = record {
    below = λ q y one stamp is_peer h is.
        let within = slice_get_within t.peers q y is_peer in
        let e = get_there t.drivers q (omega (arith, within, as_many_peers step, as_many_drivers step, sound.numbered.as_many_drivers, sound.numbered.as_many_peers)) in
        calls_after q e.0 y e.1 is_peer one (subst (λ calls. Has calls one) (recorded_calls t q y e.0 is_peer e.1) h) stamp is;
  }

pub listed_begins : (o : Opening) → IsOpening o → ListedBelowClock (opening_state o)
listed_begins o valid = record {
  below = λ q x one stamp is_peer h is. absurd (no_calls q x one is_peer h);
}
  where
    no_calls : (q : ℕ) (x : PeerPart) (one : Call) → IsPeer (opening_state o) q x → Has (calls_of (record_of_state (opening_state o)) q) one → ⊥
    no_calls q x one is_peer h = by (slice_get (opening_state o).drivers q) refl
      where
        by : (e : Option DriverPart) → slice_get (opening_state o).drivers q ≡ e → ⊥
        by None none = subst (λ calls. Has calls one) (none_recorded (opening_state o).peers (opening_state o).drivers q none) h
        by (Some e) is = subst (λ calls. Has calls one) (recorded_calls (opening_state o) q x e is_peer is ∙ ap driver_calls (opening_idle o q e is)) h
