-- The bit of a step is the one that its answer shows, where it makes a difference.
use Rattle.std.proofs.Common.{append-nil, max, ◌≡◌, refl, sym, ap, ◌∙◌, arith, ℕ, Bool, true, false, cond, ◌==◌, ◌&&◌, ◌||◌, List, [], ◌∷◌, ◌++◌, slice_get, length, Option, Some, None, Ok, Err, subst}
use Rattle.b1_model.specs.declared.naming.Opening.{Opening}
use Rattle.b1_model.specs.declared.answers.Answer.{Answer}
use Rattle.b1_model.specs.declared.answers.Answer.TheVariants as answer
use Rattle.b1_model.specs.declared.answers.Reason.{Reason}
use Rattle.b1_model.specs.declared.answers.Reason.TheVariants as reason
use Rattle.b1_model.specs.declared.commands.Command.{Command}
use Rattle.b1_model.specs.declared.commands.Command.TheVariants as cmd
use Rattle.b1_model.specs.declared.records.Call.{Call}
use Rattle.b1_model.specs.declared.parts.Begun.{Begun}
use Rattle.b1_model.specs.declared.events.Action.TheVariants as act
use Rattle.b1_model.specs.declared.naming.NodeRef.{NodeRef}
use Rattle.b1_model.specs.declared.commands.SendCmd.{SendCmd}
use Rattle.b1_model.specs.declared.events.Doing.{Doing}
use Rattle.b1_model.specs.declared.events.Phase.{Phase}
use Rattle.b1_model.specs.declared.events.Phase.TheVariants.{Starting, Staging, Unstaging, Attaching, Stamping, Syncing, Committing, Dropping, Reaping, Visiting, Dooming, SyncingNotices, CommittingOwn, CommittingNotices, Flushing}
use Rattle.b1_model.specs.MachineParts.{PeerPart, DriverPart}
use Rattle.b1_model.specs.MachineDriver.{Turn, Goes, Ends, turn, send_of, is_place, accepted_from, staging, unstaging, place_done, refused_at, phase_action, first_action}
use Rattle.b1_model.specs.MachineTook.{is_again, is_await, as_call, is_waiting, answer_of, sent_answer, is_done, goes_by, ended, turned}
use Rattle.b1_model.specs.MachineEvents.{happens, begin_by, stage_by}
use Rattle.b1_model.specs.MachineSend.{send_refusal}
use Rattle.b1_step.specs.Rights.{may_want_memory, is_accepted}
use Rattle.b1_schedule.specs.Shortage.{Shortage, is_short_answer, place_of}
use Rattle.b1_schedule.specs.Agreement.{is_staging, AnswerAgrees, PhaseAgrees, Agrees}
use Rattle.b1_schedule.proofs.Places.{older_place, last_place}
use Rattle.b1_schedule.proofs.Backward.{TurnAgrees, from_staging}

-- ---- an ended command's call

as_it_is : (command : Command) → is_await command ≡ false → as_call command ≡ command
as_it_is cmd.Disconnect plain = refl
as_it_is cmd.Query plain = refl
as_it_is (cmd.Limit limits) plain = refl
as_it_is (cmd.Reset limits) plain = refl
as_it_is (cmd.Release number) plain = refl
as_it_is (cmd.Destroy numbers) plain = refl
as_it_is (cmd.SliceRelease offset) plain = refl
as_it_is (cmd.Send c) plain = refl
as_it_is cmd.Recv plain = refl
as_it_is cmd.Await plain = absurd (cc plain)

module _ (m : Shortage) (me : ℕ) (calls : List Call) (command : Command) (got : Answer) where
  never : is_await command ≡ false → is_waiting command got ≡ false
  never plain = ap (λ b. b && elim got [ answer.Refused refused ↦ is_again refused.reason | other ↦ false ]) plain

  -- a list that ends with the command's call shows its answer
  shows_answer : (b : Bool) → b ≡ is_waiting command got → ((k : ℕ) (call : Call) (place : Option ℕ) → slice_get (calls ++ cond b [] (record { command = as_call command; answer = got } ∷ [])) k ≡ Some call → m me k place ≡ is_short_answer call.command call.answer place) → AnswerAgrees m me (length calls) command got
  shows_answer true same h plain place = absurd (cc (same, never plain))
  shows_answer false same h plain place = h (length calls) (record { command = as_call command; answer = got }) place (last_place calls _) ∙ ap (λ c. is_short_answer c got place) (as_it_is command plain)

  -- and the older calls
  shows_older : (b : Bool) → ((k : ℕ) (call : Call) (place : Option ℕ) → slice_get (calls ++ cond b [] (record { command = as_call command; answer = got } ∷ [])) k ≡ Some call → m me k place ≡ is_short_answer call.command call.answer place) → (k : ℕ) (call : Call) (place : Option ℕ) → slice_get calls k ≡ Some call → m me k place ≡ is_short_answer call.command call.answer place
  shows_older true h k call place is = h k call place (ap (λ l. slice_get l k) (append-nil calls) ∙ is)
  shows_older false h k call place is = h k call place (older_place calls _ k call is)

-- ---- the bit at a stage and at a begin

module _ (m : Shortage) (me k : ℕ) (command : Command) (plain : is_await command ≡ false) where
  same_number : (i : ℕ) (b : Bool) → ((i == i) || b) ≡ true
  same_number i b = grind arith

  stage_refused : (nodes : Begun) (places : List (Option Reason)) (collected : ℕ) → TurnAgrees m me k command (place_done command nodes places collected (Err reason.Memory)) → m me k (Some (length places)) ≡ true
  stage_refused nodes places collected h = by_go (send_of command).go_on refl h
    where
      from_answer : AnswerAgrees m me k command (refused_at reason.Memory (Some (length places))) → m me k (Some (length places)) ≡ true
      from_answer agrees = agrees plain (Some (length places)) ∙ same_number (length places) _

      by_unstaging : (b : Bool) (first : ℕ) → TurnAgrees m me k command (cond b (Goes (Unstaging nodes (places ++ Some reason.Memory ∷ []) (record { reason = reason.Memory; place = Some (length places) }) first)) (Ends (refused_at reason.Memory (Some (length places))))) → m me k (Some (length places)) ≡ true
      by_unstaging true first h = from_answer h
      by_unstaging false first h = from_answer h

      by_go : (b : Bool) → b ≡ (send_of command).go_on → TurnAgrees m me k command (cond b (staging nodes (places ++ Some reason.Memory ∷ []) collected) (unstaging nodes (places ++ Some reason.Memory ∷ []) (record { reason = reason.Memory; place = Some (length places) }) (accepted_from 0 (places ++ Some reason.Memory ∷ [])))) → m me k (Some (length places)) ≡ true
      by_go true same h = (from_staging m me k command plain nodes (places ++ Some reason.Memory ∷ []) collected h).refused (sym same) (length places) (Some reason.Memory) (last_place places _) refl
      by_go false same h = by_unstaging (is_place (accepted_from 0 (places ++ Some reason.Memory ∷ [])) (places ++ Some reason.Memory ∷ [])) (accepted_from 0 (places ++ Some reason.Memory ∷ [])) h

  stage_accepted : (nodes : Begun) (places : List (Option Reason)) (collected clock : ℕ) → TurnAgrees m me k command (place_done command nodes places collected (Ok clock)) → m me k (Some (length places)) ≡ false
  stage_accepted nodes places collected clock h = (from_staging m me k command plain nodes (places ++ None ∷ []) (max collected clock) h).accepted (length places) (last_place places None)

-- ---- a driver's part after a turn

module _ (m : Shortage) (d : DriverPart) (command : Command) where
  -- the call of a command that ended
  ended_shows : (got : Answer) → Agrees m (ended d command got) → AnswerAgrees m d.me (length d.calls) command got
  ended_shows got h = shows_answer m d.me d.calls command got (is_waiting command got) refl h.calls

  -- a phase whose answer is fixed shows what the answer shows
  by_answer : (phase : Phase) (got : Answer) → Some got ≡ answer_of command phase → AnswerAgrees m d.me (length d.calls) command got → PhaseAgrees m d.me (length d.calls) command phase
  by_answer Starting got same h = tt
  by_answer (Staging nodes places collected) got same h = absurd (cc same)
  by_answer (Unstaging nodes places refused place) got same h = subst (AnswerAgrees m d.me (length d.calls) command) (some_is same) h
    where
      some_is : Some got ≡ Some (answer.Refused refused) → got ≡ answer.Refused refused
      some_is is = cc is
  by_answer (Attaching sending place handle) got same h = absurd (cc same)
  by_answer (Stamping sending) got same h = absurd (cc same)
  by_answer (Syncing sending stamp place) got same h = subst (AnswerAgrees m d.me (length d.calls) command) (some_is same) h
    where
      some_is : Some got ≡ Some (sent_answer sending stamp) → got ≡ sent_answer sending stamp
      some_is is = cc is
  by_answer (Committing sending stamp place) got same h = subst (AnswerAgrees m d.me (length d.calls) command) (some_is same) h
    where
      some_is : Some got ≡ Some (sent_answer sending stamp) → got ≡ sent_answer sending stamp
      some_is is = cc is
  by_answer Dropping got same h = tt
  by_answer (Reaping other) got same h = tt
  by_answer (Visiting destruction left) got same h = tt
  by_answer (Dooming destruction) got same h = tt
  by_answer (SyncingNotices destruction stamp at) got same h = tt
  by_answer (CommittingOwn destruction stamp) got same h = tt
  by_answer (CommittingNotices destruction stamp at) got same h = tt
  by_answer (Flushing stamp) got same h = tt

  goes_shows : (b : Bool) (got : Option Answer) (phase : Phase) → got ≡ answer_of command phase → Agrees m (goes_by b got d command phase) → PhaseAgrees m d.me (length d.calls) command phase
  goes_shows false got phase same h = h.doing (record { command = command; phase = phase }) refl
  goes_shows true None phase same h = h.doing (record { command = command; phase = phase }) refl
  goes_shows true (Some got) phase same h = by_answer phase got same (ended_shows got h)

  -- what the part after a turn shows, the turn shows
  pub turned_shows : (t : Turn) → Agrees m (turned d command t) → TurnAgrees m d.me (length d.calls) command t
  turned_shows (Goes phase) h = goes_shows (is_done d.owed d.told phase) (answer_of command phase) phase refl h
  turned_shows (Ends got) h = ended_shows got h

  -- the calls before stay
  abbrev pub OldCalls : Type 0
  OldCalls = (k : ℕ) (call : Call) (place : Option ℕ) → slice_get d.calls k ≡ Some call → m d.me k place ≡ is_short_answer call.command call.answer place

  ended_older : (got : Answer) → Agrees m (ended d command got) → OldCalls
  ended_older got h = shows_older m d.me d.calls command got (is_waiting command got) h.calls

  goes_older : (b : Bool) (got : Option Answer) (phase : Phase) → Agrees m (goes_by b got d command phase) → OldCalls
  goes_older false got phase h = h.calls
  goes_older true None phase h = h.calls
  goes_older true (Some got) phase h = ended_older got h

  pub turned_older : (t : Turn) → Agrees m (turned d command t) → OldCalls
  turned_older (Goes phase) h = goes_older (is_done d.owed d.told phase) (answer_of command phase) phase h
  turned_older (Ends got) h = ended_older got h

-- ---- the bit of an event, by the phase

module _ (m : Shortage) (o : Opening) (d : DriverPart) (doing : Doing) (x : PeerPart) where
  -- a command that may begin or stage isn't an AWAIT
  abbrev pub Plain : Type 0
  Plain = is_await doing.command ≡ false

  bit_of_begin : (c : SendCmd) (r : Option Reason) (memory : Bool) → Plain → is_accepted r ≡ true → TurnAgrees m d.me (length d.calls) doing.command (turn d.me doing.command Starting (begin_by r memory c x).0) → m d.me (length d.calls) None ≡ memory
  bit_of_begin c (Some r) memory plain may h = absurd (cc may)
  bit_of_begin c None true plain may h = h plain None
  bit_of_begin c None false plain may h = (h plain).begin

  bit_of_stage : (nodes : Begun) (places : List (Option Reason)) (collected : ℕ) (r : Option Reason) (memory : Bool) (origin user place serial : ℕ) (payload : List ℕ) (with : List NodeRef) → Plain → is_accepted r ≡ true
      → TurnAgrees m d.me (length d.calls) doing.command (turn d.me doing.command (Staging nodes places collected) (stage_by r memory origin user place serial payload with x).0) → m d.me (length d.calls) (Some (length places)) ≡ memory
  bit_of_stage nodes places collected (Some r) memory origin user place serial payload with plain may h = absurd (cc may)
  bit_of_stage nodes places collected None true origin user place serial payload with plain may h = stage_refused m d.me (length d.calls) doing.command plain nodes places collected h
  bit_of_stage nodes places collected None false origin user place serial payload with plain may h = stage_accepted m d.me (length d.calls) doing.command plain nodes places collected x.clock h

  bit_of_start : (shut : Bool) (command : Command) (memory : Bool) → command ≡ doing.command → may_want_memory o d doing x (cond shut act.Local (first_action command)) ≡ true
      → TurnAgrees m d.me (length d.calls) doing.command (turn d.me doing.command Starting (happens o memory d doing (cond shut act.Local (first_action command)) x).0) → m d.me (length d.calls) None ≡ memory
  bit_of_start true command memory same may h = absurd (cc may)
  bit_of_start false (cmd.Send c) memory same may h = bit_of_begin (send_of doing.command) (send_refusal x (send_of doing.command)) memory (sym (ap is_await same)) may h
  bit_of_start false cmd.Disconnect memory same may h = absurd (cc may)
  bit_of_start false cmd.Query memory same may h = absurd (cc may)
  bit_of_start false (cmd.Limit limits) memory same may h = absurd (cc may)
  bit_of_start false (cmd.Reset limits) memory same may h = absurd (cc may)
  bit_of_start false (cmd.Release number) memory same may h = absurd (cc may)
  bit_of_start false (cmd.Destroy numbers) memory same may h = absurd (cc may)
  bit_of_start false (cmd.SliceRelease offset) memory same may h = absurd (cc may)
  bit_of_start false cmd.Recv memory same may h = absurd (cc may)
  bit_of_start false cmd.Await memory same may h = absurd (cc may)

  -- where want of memory may make a difference, the bit is the one that the answer shows
  pub bit_shown : (phase : Phase) (memory : Bool) → phase ≡ doing.phase → (is_staging phase ≡ true → Plain) → may_want_memory o d doing x (phase_action d.me d.shut doing.command phase) ≡ true
      → TurnAgrees m d.me (length d.calls) doing.command (turn d.me doing.command phase (happens o memory d doing (phase_action d.me d.shut doing.command phase) x).0) → m d.me (length d.calls) (place_of phase) ≡ memory
  bit_shown Starting memory same plain may h = bit_of_start d.shut doing.command memory refl may h
  bit_shown (Staging nodes places collected) memory same plain may h = bit_of_stage nodes places collected _ memory _ _ _ _ _ _ (plain refl) may h
  bit_shown (Unstaging nodes places refused place) memory same plain may h = absurd (cc may)
  bit_shown (Attaching sending place handle) memory same plain may h = absurd (cc may)
  bit_shown (Stamping sending) memory same plain may h = absurd (cc may)
  bit_shown (Syncing sending stamp place) memory same plain may h = absurd (cc may)
  bit_shown (Committing sending stamp place) memory same plain may h = absurd (cc may)
  bit_shown Dropping memory same plain may h = absurd (cc may)
  bit_shown (Reaping got) memory same plain may h = absurd (cc may)
  bit_shown (Visiting destruction left) memory same plain may h = absurd (cc may)
  bit_shown (Dooming destruction) memory same plain may h = absurd (cc may)
  bit_shown (SyncingNotices destruction stamp at) memory same plain may h = absurd (cc may)
  bit_shown (CommittingOwn destruction stamp) memory same plain may h = absurd (cc may)
  bit_shown (CommittingNotices destruction stamp at) memory same plain may h = absurd (cc may)
  bit_shown (Flushing stamp) memory same plain may h = absurd (cc may)
