-- A driver under its command, phase by phase: its list is as before, and what its answer is to be is right.
use Rattle.std.proofs.Common.{◌≡◌, refl, sym, ap, ◌∙◌, subst, ℕ, ◌+◌, ◌-◌, ◌^◌, min, max, Bool, true, false, cond, ◌&&◌, ◌||◌, nat_lt, List, [], ◌∷◌, ◌++◌, length, get_or, Option, Some, None, Ok, Err, Result}
use Rattle.std.proofs.lemmas.Bool.{cond_both}
use Rattle.b1_model.specs.declared.naming.Opening.{Opening}
use Rattle.b1_model.specs.declared.answers.Answer.{Answer}
use Rattle.b1_model.specs.declared.answers.Answer.TheVariants as answer
use Rattle.b1_model.specs.declared.answers.Front.{Front}
use Rattle.b1_model.specs.declared.answers.Reason.{Reason}
use Rattle.b1_model.specs.declared.answers.Reason.TheVariants as reason
use Rattle.b1_model.specs.declared.answers.Receipt.{Receipt}
use Rattle.b1_model.specs.declared.answers.Refused.{Refused}
use Rattle.b1_model.specs.declared.commands.Command.{Command}
use Rattle.b1_model.specs.declared.commands.Command.TheVariants as cmd
use Rattle.b1_model.specs.declared.commands.SendCmd.{SendCmd}
use Rattle.b1_model.specs.declared.parts.Begun.{Begun}
use Rattle.b1_model.specs.declared.parts.Owed.{Owed}
use Rattle.b1_model.specs.declared.events.Action.{Action}
use Rattle.b1_model.specs.declared.events.Action.TheVariants as act
use Rattle.b1_model.specs.declared.events.Destruction.{Destruction}
use Rattle.b1_model.specs.declared.events.Outcome.{Outcome}
use Rattle.b1_model.specs.declared.events.Outcome.TheVariants as out
use Rattle.b1_model.specs.declared.events.OwedDrop.{OwedDrop}
use Rattle.b1_model.specs.declared.events.Phase.{Phase}
use Rattle.b1_model.specs.declared.events.Phase.TheVariants.{Starting, Staging, Unstaging, Attaching, Stamping, Syncing, Committing, Dropping, Reaping, Visiting, Dooming, SyncingNotices, CommittingOwn, CommittingNotices, Flushing}
use Rattle.b1_model.specs.declared.events.Sending.{Sending}
use Rattle.b1_model.specs.MachineParts.{PeerPart, DriverPart}
use Rattle.b1_model.specs.MachinePool.{is_received}
use Rattle.b1_model.specs.MachineSend.{send_refusal, is_committed}
use Rattle.b1_model.specs.MachineReceive.{received, received_part, has_dead, released}
use Rattle.b1_model.specs.MachineDestroy.{destroy_refusal, overflow_reason, flushed}
use Rattle.b1_model.specs.MachineDriver.{is_place, accepted_from, memory_place, refused_at, all_refused, attaching, all_staged, staging, unstaging, syncing, visiting, syncing_notices, committing_notices, is_flushing, destroying, place_done, first_action, phase_action, next_action, Turn, Goes, Ends, turn}
use Rattle.b1_model.specs.MachineTook.{is_disconnect, is_await, is_waiting, with_facts, answer_of, is_done, sent_answer}
use Rattle.b1_model.specs.MachineEvents.{happens, begin_by, stage_by, destroy_by, local_answer, limits_after}
use Rattle.b1_inv_tools.proofs.Facts.{next_of, next_owed}
use Rattle.b1_commands.specs.Done.{is_send, RefusesRight, is_shutdown, leaves}
use Rattle.b1_commands.proofs.Refusals.{IsRight, IfRight, send_right, stage_right, memory_right, overflow_right, destroy_right, released_right}

-- ---- what is right of an answer, and of a phase

-- what a driver's part shows beside its calls and its open command
pub record Shown : Type 0 where
  pub shut : Bool
  pub attempted : Option (Front × ℕ)
  pub attempts : ℕ

abbrev pub shown : DriverPart → Shown
shown e = record { shut = e.shut; attempted = e.attempted; attempts = e.attempts }

-- the front that an attempt found stands among the driver's facts; the facts are as before where it is no attempt that waits
abbrev pub AttemptBy : Bool → DriverPart → Shown → Type 0
AttemptBy false d m = (m.attempted ≡ d.attempted) × (m.attempts ≡ d.attempts)
AttemptBy true d m = (front : Front) × (removed : ℕ) × (m.attempted ≡ Some (front, removed)) × (m.attempts ≡ min (d.attempts + 1) (2 ^ 64 - 1))

-- an answer is right; the part has the facts of after it
pub record EndsRight (d : DriverPart) (c : Command) (got : Answer) (m : Shown) : Type 0 where
  pub refused : RefusesRight c got
  pub shutdown : is_shutdown got ≡ d.shut
  pub shut : m.shut ≡ (d.shut || leaves c got)
  pub attempt : AttemptBy (is_waiting c got) d m

-- a command that isn't refused at once is one of a driver that isn't shut
pub record Open (d : DriverPart) (m : Shown) : Type 0 where
  pub before : d.shut ≡ false
  pub shut : m.shut ≡ false
  pub attempted : m.attempted ≡ d.attempted
  pub attempts : m.attempts ≡ d.attempts

-- each refused place of a SEND is right
abbrev pub PlacesRight : Command → List (Option Reason) → Type 0
PlacesRight c [] = Unit {0}
PlacesRight c (r ∷ rest) = IfRight c r × PlacesRight c rest

-- of a phase
abbrev pub Under : DriverPart → Command → Shown → Phase → Type 0
Under d c m Starting = (m.shut ≡ d.shut) × (m.attempted ≡ d.attempted) × (m.attempts ≡ d.attempts)
Under d c m (Staging begun places collected) = Open d m × (s : SendCmd) × (c ≡ cmd.Send s) × PlacesRight c places
Under d c m (Unstaging begun places refused place) = Open d m × (s : SendCmd) × (c ≡ cmd.Send s) × IsRight c refused.reason
Under d c m (Attaching sending place slot) = Open d m × (s : SendCmd) × (c ≡ cmd.Send s)
Under d c m (Stamping sending) = Open d m × (s : SendCmd) × (c ≡ cmd.Send s)
Under d c m (Syncing sending stamp place) = Open d m × (s : SendCmd) × (c ≡ cmd.Send s)
Under d c m (Committing sending stamp place) = Open d m × (s : SendCmd) × (c ≡ cmd.Send s)
Under d c m Dropping = Open d m × (is_disconnect c ≡ false)
Under d c m (Reaping got) = EndsRight d c got m
Under d c m (Visiting destruction left) = Open d m
Under d c m (Dooming destruction) = Open d m
Under d c m (SyncingNotices destruction stamp at) = Open d m
Under d c m (CommittingOwn destruction stamp) = Open d m
Under d c m (CommittingNotices destruction stamp at) = Open d m
Under d c m (Flushing stamp) = Open d m

-- of where an event leaves a command
abbrev pub TurnUnder : DriverPart → Command → Shown → Turn → Type 0
TurnUnder d c m (Goes phase) = Under d c m phase
TurnUnder d c m (Ends got) = EndsRight d c got m

-- ---- answers

and_false : (a : Bool) → (a && false) ≡ false
and_false true = refl
and_false false = refl

or_false : (a : Bool) → (a || false) ≡ a
or_false true = refl
or_false false = refl

not_disconnect : (c : Command) (s : SendCmd) → c ≡ cmd.Send s → is_disconnect c ≡ false
not_disconnect c s is = ap is_disconnect is

module _ (d : DriverPart) (c : Command) (m : Shown) (here : Open d m) where
  -- an answer that is no refusal, of a command that doesn't disconnect
  plain_right : (got : Answer) → RefusesRight c got → is_shutdown got ≡ false → is_waiting c got ≡ false → leaves c got ≡ false → EndsRight d c got m
  plain_right got refused shutdown taken stays = record {
    refused = refused;
    shutdown = shutdown ∙ sym here.before;
    shut = here.shut ∙ sym (ap (λ b. b || leaves c got) here.before ∙ stays);
    attempt = subst (λ b. AttemptBy b d m) (sym taken) (here.attempted, here.attempts);
  }

  -- a refusal
  refused_right : (b : Refused) → IsRight c b.reason → (is_send c ≡ false → b.place ≡ None) → EndsRight d c (answer.Refused b) m
  refused_right b is place = plain_right (answer.Refused b) (is.may, place) is.open_at (ap (λ a. is_await c && a) is.taken ∙ and_false (is_await c)) refl

  sent_right : (s : SendCmd) → c ≡ cmd.Send s → (sending : Sending) (stamp : ℕ) → EndsRight d c (sent_answer sending stamp) m
  sent_right s is sending stamp = plain_right (sent_answer sending stamp) tt refl (and_false (is_await c)) (not_disconnect c s is)

  stamped_right : (stamp : ℕ) → is_disconnect c ≡ false → EndsRight d c (answer.Destroyed stamp) m
  stamped_right stamp stays = plain_right (answer.Destroyed stamp) tt refl (and_false (is_await c)) stays

  done_right : is_disconnect c ≡ false → EndsRight d c answer.Done m
  done_right stays = plain_right answer.Done tt refl (and_false (is_await c)) stays

-- ---- the end of a SEND

memory_found : (here : ℕ) (places : List (Option Reason)) (s : SendCmd) (m : ℕ) → memory_place here places ≡ Some m → IsRight (cmd.Send s) reason.Memory
memory_found here places s m is = memory_right s

first_place : (c : Command) (places : List (Option Reason)) (r : Reason) → PlacesRight c places → get_or places 0 None ≡ Some r → IsRight c r
first_place c [] r all is = absurd (cc is)
first_place c (None ∷ rest) r all is = absurd (cc is)
first_place c (Some q ∷ rest) r all is = let same : q ≡ r = cc is in subst (IsRight c) same all.0

more_places : (c : Command) (places : List (Option Reason)) (new : Option Reason) → PlacesRight c places → IfRight c new → PlacesRight c (places ++ new ∷ [])
more_places c [] new all is = (is, tt)
more_places c (r ∷ rest) new all is = (all.0, more_places c rest new all.1 is)

module _ (d : DriverPart) (s : SendCmd) (m : Shown) (here : Open d m) where
  abbrev send : Command
  send = cmd.Send s

  by_first : (places : List (Option Reason)) → PlacesRight send places → (first : Option Reason) → get_or places 0 None ≡ first → EndsRight d send (elim first [ None ↦ refused_at reason.Invalid None | Some r ↦ refused_at r (Some 0) ]) m
  by_first places all None is = refused_right d send m here (record { reason = reason.Invalid; place = None }) (record { may = refl; open_at = refl; taken = refl }) (λ z. refl)
  by_first places all (Some r) is = refused_right d send m here (record { reason = r; place = Some 0 }) (first_place send places r all is) (λ z. absurd (cc z))

  by_memory : (place : Option ℕ) (got : Answer) → EndsRight d send got m → EndsRight d send (elim place [ Some at ↦ refused_at reason.Memory (Some at) | None ↦ got ]) m
  by_memory None got right = right
  by_memory (Some at) got right = refused_right d send m here (record { reason = reason.Memory; place = Some at }) (memory_right s) (λ z. absurd (cc z))

  all_refused_right : (places : List (Option Reason)) → PlacesRight send places → EndsRight d send (all_refused places) m
  all_refused_right places all = by_memory (memory_place 0 places) _ (by_first places all (get_or places 0 None) refl)

  attaching_under : (sending : Sending) (place slot : ℕ) → Under d send m (attaching sending place slot)
  attaching_under sending place slot =
      cond_both (nat_lt slot (length sending.begun.with)) (Attaching sending place slot) _ (Under d send m)
      (λ is. (here, s, refl))
      (λ is. cond_both _ (Attaching sending (accepted_from (place + 1) sending.places) 0) (Stamping sending) (Under d send m) (λ e. (here, s, refl)) (λ e. (here, s, refl)))

  staging_under : (begun : Begun) (places : List (Option Reason)) (collected : ℕ) → PlacesRight send places → TurnUnder d send m (staging begun places collected)
  staging_under begun places collected all =
      cond_both (nat_lt (length places) (length begun.to)) (Goes (Staging begun places collected)) _ (TurnUnder d send m)
      (λ is. (here, s, refl, all))
      (λ is. cond_both (is_place (accepted_from 0 places) places) (Goes (attaching (all_staged begun places collected) (accepted_from 0 places) 0)) (Ends (all_refused places)) (TurnUnder d send m)
      (λ e. attaching_under (all_staged begun places collected) (accepted_from 0 places) 0)
      (λ e. all_refused_right places all))

  unstaging_under : (begun : Begun) (places : List (Option Reason)) (refused : Refused) (place : ℕ) → IsRight send refused.reason → TurnUnder d send m (unstaging begun places refused place)
  unstaging_under begun places refused place is =
      cond_both (is_place place places) (Goes (Unstaging begun places refused place)) (Ends (answer.Refused refused)) (TurnUnder d send m)
      (λ e. (here, s, refl, is))
      (λ e. refused_right d send m here refused is (λ z. absurd (cc z)))

  placed_under : (begun : Begun) (places : List (Option Reason)) (collected : ℕ) (got : Result ℕ Reason) → PlacesRight send places → ((r : Reason) → got ≡ Err r → IsRight send r) → TurnUnder d send m (place_done send begun places collected got)
  placed_under begun places collected (Ok clock) all is = staging_under begun (places ++ None ∷ []) (max collected clock) (more_places send places None all tt)
  placed_under begun places collected (Err r) all is =
      cond_both s.go_on (staging begun (places ++ Some r ∷ []) collected) _ (TurnUnder d send m)
      (λ e. staging_under begun (places ++ Some r ∷ []) collected (more_places send places (Some r) all (is r refl)))
      (λ e. unstaging_under begun (places ++ Some r ∷ []) (record { reason = r; place = Some (length places) }) (accepted_from 0 (places ++ Some r ∷ [])) (is r refl))

  syncing_under : (sending : Sending) (stamp place : ℕ) → Under d send m (syncing sending stamp place)
  syncing_under sending stamp place = cond_both (is_place place sending.places) (Syncing sending stamp place) (Committing sending stamp (accepted_from 0 sending.places)) (Under d send m) (λ e. (here, s, refl)) (λ e. (here, s, refl))

-- ---- a destruction

module _ (d : DriverPart) (c : Command) (m : Shown) (here : Open d m) where
  visiting_under : (destruction : Destruction) (left : List ℕ) → Under d c m (visiting destruction left)
  visiting_under destruction [] = here
  visiting_under destruction (peer ∷ rest) = here

  destroying_under : (doomed visit : List ℕ) → Under d c m (destroying doomed visit)
  destroying_under [] visit = here
  destroying_under (serial ∷ rest) visit = visiting_under (record { doomed = serial ∷ rest; collected = 0; staged = [] }) visit

  notices_under : (destruction : Destruction) (stamp at : ℕ) → Under d c m (syncing_notices destruction stamp at)
  notices_under destruction stamp at = cond_both (nat_lt at (length destruction.staged)) (SyncingNotices destruction stamp at) (CommittingOwn destruction stamp) (Under d c m) (λ e. here) (λ e. here)

  committed_under : (destruction : Destruction) (stamp at : ℕ) → TurnUnder d c m (committing_notices c destruction stamp at)
  committed_under destruction stamp at =
      cond_both (nat_lt at (length destruction.staged)) (Goes (CommittingNotices destruction stamp at)) _ (TurnUnder d c m)
      (λ e. here)
      (λ e. cond_both (is_flushing c) (Goes (Flushing (Some stamp))) (Ends (answer.Destroyed stamp)) (TurnUnder d c m) (λ z. here) (λ z. stamped_right d c m here stamp (stays c z)))
    where
      stays : (c : Command) → is_flushing c ≡ false → is_disconnect c ≡ false
      stays cmd.Disconnect is = absurd (cc is)
      stays cmd.Query is = refl
      stays (cmd.Reset limits) is = absurd (cc is)
      stays (cmd.Limit limits) is = refl
      stays (cmd.Release number) is = refl
      stays (cmd.Destroy numbers) is = refl
      stays (cmd.SliceRelease offset) is = refl
      stays (cmd.Send s) is = refl
      stays cmd.Recv is = refl
      stays cmd.Await is = refl

-- ---- an event

module _ (o : Opening) (memory : Bool) (d e : DriverPart) (x : PeerPart) where
  -- what an event answers in a phase of a command
  abbrev outcome : Command → Phase → Action → Outcome
  outcome c phase action = (happens o memory e (record { command = c; phase = phase }) action x).0

  -- where it leaves the command
  abbrev After : Command → Phase → Outcome → Type 0
  After c phase got = TurnUnder d c (shown (with_facts e (record { command = c; phase = phase }) got)) (turn e.me c phase got)

  -- a drop that is owed leaves all as it is
  dropped : (c : Command) (phase : Phase) → Under d c (shown e) phase → After c phase out.DropRefs
  dropped c Starting k = k
  dropped c (Staging begun places collected) k = k
  dropped c (Unstaging begun places refused place) k = k
  dropped c (Attaching sending place slot) k = k
  dropped c (Stamping sending) k = k
  dropped c (Syncing sending stamp place) k = k
  dropped c (Committing sending stamp place) k = k
  dropped c Dropping k = k
  dropped c (Reaping got) k = k
  dropped c (Visiting destruction left) k = k
  dropped c (Dooming destruction) k = k
  dropped c (SyncingNotices destruction stamp at) k = k
  dropped c (CommittingOwn destruction stamp) k = k
  dropped c (CommittingNotices destruction stamp at) k = k
  dropped c (Flushing stamp) k = k

  -- a stage, by its refusal
  staged_under : (s : SendCmd) (begun : Begun) (places : List (Option Reason)) (collected origin user place serial : ℕ) (payload : List ℕ) (r : Option Reason) (memory : Bool) → Open d (shown e) → PlacesRight (cmd.Send s) places → IfRight (cmd.Send s) r
      → After (cmd.Send s) (Staging begun places collected) (stage_by r memory origin user place serial payload begun.with x).0
  staged_under s begun places collected origin user place serial payload (Some r) memory here all is = placed_under d s (shown e) here begun places collected (Err r) all (λ q same. let is_q : r ≡ q = cc same in subst (IsRight (cmd.Send s)) is_q is)
  staged_under s begun places collected origin user place serial payload None true here all is = placed_under d s (shown e) here begun places collected (Err reason.Memory) all (λ q same. let is_q : reason.Memory ≡ q = cc same in subst (IsRight (cmd.Send s)) is_q (memory_right s))
  staged_under s begun places collected origin user place serial payload None false here all is = placed_under d s (shown e) here begun places collected (Ok x.clock) all (λ q same. absurd (cc same))

  stamped_under : (c : Command) (destruction : Destruction) (got : Result ℕ (List ℕ)) → Open d (shown e) → After c (Dooming destruction) (out.StampDestroy got)
  stamped_under c destruction (Ok stamp) here = notices_under d c (shown e) here destruction stamp 0
  stamped_under c destruction (Err late) here = visiting_under d c (shown e) here destruction late

  committed_found : (s : SendCmd) (sending : Sending) (stamp place : ℕ) (found : Bool) → Open d (shown e) → After (cmd.Send s) (Committing sending stamp place) (out.Commit found)
  committed_found s sending stamp place true here = (here, s, refl)
  committed_found s sending stamp place false here = (here, s, refl)

  -- a flush shuts the driver of a PEER_DISCONNECT
  flushed_under : (c : Command) (stamp : Option ℕ) (dead : Bool) → Open d (shown e) → After c (Flushing stamp) (out.Flush dead)
  flushed_under c stamp dead here = record {
    refused = tt;
    shutdown = sym here.before;
    shut = ap (λ b. b || is_disconnect c) (here.shut ∙ sym here.before);
    attempt = subst (λ b. AttemptBy b d (record { shut = e.shut || is_disconnect c; attempted = e.attempted; attempts = e.attempts })) (sym (and_false (is_await c))) (here.attempted, here.attempts);
  }

  -- ---- the first event

  module _ (k : Under d cmd.Recv (shown e) Starting) where
    shut_right : (c : Command) → e.shut ≡ true → EndsRight d c (refused_at reason.Shutdown None) (shown e)
    shut_right c is = record {
      refused = (refl, λ z. refl);
      shutdown = sym is ∙ k.0;
      shut = k.0 ∙ sym (or_false d.shut);
      attempt = subst (λ b. AttemptBy b d (shown e)) (sym (and_false (is_await c))) (k.1, k.2);
    }

    module _ (is_open : e.shut ≡ false) where
      here : Open d (shown e)
      here = record { before = sym k.0 ∙ is_open; shut = is_open; attempted = k.1; attempts = k.2 }

      local_right : (c : Command) → EndsRight d c (local_answer false c x) (shown e) → After c Starting (outcome c Starting act.Local)
      local_right c right = subst (λ b. EndsRight d c (local_answer b c x) (shown e)) (sym is_open) right

      slice_right : (offset : ℕ) (b : Bool) → EndsRight d (cmd.SliceRelease offset) (cond b answer.Done (refused_at (reason.Unknown offset) None)) (shown e)
      slice_right offset true = done_right d (cmd.SliceRelease offset) (shown e) here refl
      slice_right offset false = refused_right d (cmd.SliceRelease offset) (shown e) here (record { reason = reason.Unknown offset; place = None }) (record { may = refl; open_at = refl; taken = refl }) (λ z. refl)

      destroy_under : (c : Command) (r : Option Reason) (doomed : List ℕ) → IfRight c r → After c Starting (destroy_by r doomed x).0
      destroy_under c (Some r) doomed is = refused_right d c (shown e) here (record { reason = r; place = None }) is (λ z. refl)
      destroy_under c None doomed is = destroying_under d c (shown e) here doomed _

      release_under : (number : ℕ) (got : Result Owed Reason) → ((r : Reason) → got ≡ Err r → IsRight (cmd.Release number) r) → After (cmd.Release number) Starting (out.Release got)
      release_under number (Ok owed) is = (here, refl)
      release_under number (Err r) is = refused_right d (cmd.Release number) (shown e) here (record { reason = r; place = None }) (is r refl) (λ z. refl)

      begin_under : (s : SendCmd) (r : Option Reason) (memory : Bool) (other : SendCmd) → IfRight (cmd.Send s) r → After (cmd.Send s) Starting (begin_by r memory other x).0
      begin_under s (Some r) memory other is = refused_right d (cmd.Send s) (shown e) here (record { reason = r; place = None }) is (λ z. refl)
      begin_under s None true other is = refused_right d (cmd.Send s) (shown e) here (record { reason = reason.Memory; place = None }) (memory_right s) (λ z. refl)
      begin_under s None false other is = (here, s, refl, tt)

      recv_under : (front : Result Receipt Front) → EndsRight d cmd.Recv (elim front [ Ok receipt ↦ answer.Got receipt | Err one ↦ refused_at (reason.Again one) None ]) (shown e)
      recv_under (Ok receipt) = record { refused = tt; shutdown = sym here.before; shut = is_open ∙ sym (ap (λ b. b || false) here.before); attempt = (k.1, k.2) }
      recv_under (Err one) = record { refused = (refl, λ z. refl); shutdown = sym here.before; shut = is_open ∙ sym (ap (λ b. b || false) here.before); attempt = (k.1, k.2) }

      await_under : (front : Result Receipt Front) (removed : ℕ) (dead : Bool) → After cmd.Await Starting (out.Recv (record { front = front; removed = removed }) dead)
      await_under (Ok receipt) removed dead = record { refused = tt; shutdown = sym here.before; shut = is_open ∙ sym (ap (λ b. b || false) here.before); attempt = (k.1, k.2) }
      await_under (Err one) removed dead = record {
        refused = (refl, λ z. refl);
        shutdown = sym here.before;
        shut = is_open ∙ sym (ap (λ b. b || false) here.before);
        attempt = (one, removed, refl, ap (λ n. min (n + 1) (2 ^ 64 - 1)) k.2);
      }

      first_under : (c : Command) → After c Starting (outcome c Starting (first_action c))
      first_under cmd.Disconnect = destroy_under cmd.Disconnect (overflow_reason x) _ (overflow_right cmd.Disconnect x refl)
      first_under cmd.Query = local_right cmd.Query (plain_right d cmd.Query (shown e) here (answer.Info x.user x.pool x.limits) tt refl refl refl)
      first_under (cmd.Limit limits) = local_right (cmd.Limit limits) (done_right d (cmd.Limit limits) (shown e) here refl)
      first_under (cmd.Reset limits) = destroy_under (cmd.Reset limits) (overflow_reason x) _ (overflow_right (cmd.Reset limits) x refl)
      first_under (cmd.Release number) = release_under number (released x number) (λ r is. released_right number _ _ x number r is)
      first_under (cmd.Destroy numbers) = destroy_under (cmd.Destroy numbers) (destroy_refusal x numbers) _ (destroy_right numbers x numbers)
      first_under (cmd.SliceRelease offset) = local_right (cmd.SliceRelease offset) (slice_right offset (is_received offset x.slices))
      first_under (cmd.Send s) = begin_under s (send_refusal x s) memory s (send_right s x s)
      first_under cmd.Recv = recv_under (received x).front
      first_under cmd.Await = await_under (received x).front (received x).removed (has_dead (received_part x))

    starts : (c : Command) (b : Bool) → e.shut ≡ b → After c Starting (outcome c Starting (cond b act.Local (first_action c)))
    starts c true is = subst (λ b. EndsRight d c (local_answer b c x) (shown e)) (sym is) (shut_right c is)
    starts c false is = first_under is c

  -- ---- any event

  by_phase : (c : Command) (phase : Phase) → Under d c (shown e) phase → After c phase (outcome c phase (phase_action e.me e.shut c phase))
  by_phase c Starting k = starts k c e.shut refl
  by_phase c (Staging begun places collected) (here, s, is, all) = subst (λ z. PlacesRight z places → After z (Staging begun places collected) (outcome z (Staging begun places collected) (phase_action e.me e.shut z (Staging begun places collected)))) (sym is)
      (λ those. staged_under s begun places collected _ _ _ _ _ _ memory here those (stage_right s x _ _ _ _)) all
  by_phase c (Unstaging begun places refused place) (here, s, is, right) = subst (λ z. IsRight z refused.reason → After z (Unstaging begun places refused place) out.Unstage) (sym is) (λ that. unstaging_under d s (shown e) here begun places refused (accepted_from (place + 1) places) that) right
  by_phase c (Attaching sending place slot) (here, s, is) = subst (λ z. After z (Attaching sending place slot) (outcome z (Attaching sending place slot) (phase_action e.me e.shut z (Attaching sending place slot)))) (sym is) (attaching_under d s (shown e) here _ place (slot + 1))
  by_phase c (Stamping sending) (here, s, is) = subst (λ z. After z (Stamping sending) (outcome z (Stamping sending) act.Stamp)) (sym is) (syncing_under d s (shown e) here sending _ (accepted_from 0 sending.places))
  by_phase c (Syncing sending stamp place) (here, s, is) = subst (λ z. After z (Syncing sending stamp place) out.Sync) (sym is) (syncing_under d s (shown e) here sending stamp (accepted_from (place + 1) sending.places))
  by_phase c (Committing sending stamp place) (here, s, is) = subst (λ z. After z (Committing sending stamp place) (outcome z (Committing sending stamp place) (phase_action e.me e.shut z (Committing sending stamp place)))) (sym is) (committed_found s sending stamp place (is_committed x e.me place) here)
  by_phase c Dropping k = k
  by_phase c (Reaping got) k = k
  by_phase c (Visiting destruction left) k = visiting_under d c (shown e) k _ _
  by_phase c (Dooming destruction) k = stamped_under c destruction _ k
  by_phase c (SyncingNotices destruction stamp at) k = notices_under d c (shown e) k destruction stamp (at + 1)
  by_phase c (CommittingOwn destruction stamp) k = committed_under d c (shown e) k destruction stamp 0
  by_phase c (CommittingNotices destruction stamp at) k = committed_under d c (shown e) k destruction stamp (at + 1)
  by_phase c (Flushing stamp) k = flushed_under c stamp (has_dead (flushed x (limits_after c x.limits))) k

  -- whichever event is next, it leaves the command in a phase that is right, or at an end that is right
  pub event_under : (c : Command) (phase : Phase) → e.doing ≡ Some (record { command = c; phase = phase }) → Under d c (shown e) phase → After c phase (outcome c phase (next_action e))
  event_under c phase is k = by e.owed refl
    where
      by : (owed : List OwedDrop) → e.owed ≡ owed → After c phase (outcome c phase (next_action e))
      by [] owes = subst (λ a. After c phase (outcome c phase a)) (sym (next_of e (record { command = c; phase = phase }) is owes)) (by_phase c phase k)
      by (one ∷ rest) owes = subst (λ a. After c phase (outcome c phase a)) (sym (next_owed e (record { command = c; phase = phase }) one rest is owes)) (dropped c phase k)

-- ---- the end

-- where nothing is left of a command, its answer is right
pub last_right : (d : DriverPart) (c : Command) (m : Shown) (owed : List OwedDrop) (told : Bool) (phase : Phase) → is_done owed told phase ≡ true → Under d c m phase → (got : Answer) × (answer_of c phase ≡ Some got) × EndsRight d c got m
last_right d c m (one ∷ rest) told phase is k = absurd (cc is)
last_right d c m [] told (Committing sending stamp place) is (here, s, is_send) = (sent_answer sending stamp, refl, sent_right d c m here s is_send sending stamp)
last_right d c m [] told Dropping is (here, stays) = (answer.Done, refl, done_right d c m here stays)
last_right d c m [] told (Reaping got) is k = (got, refl, k)
last_right d c m [] told phase is k = absurd (cc is)
