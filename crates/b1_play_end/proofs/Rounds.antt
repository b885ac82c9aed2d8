-- A step of a round and a step of the drain keep what holds of the peers that they came by.
use Rattle.std.proofs.Common.{◌≡◌, ◌≢◌, refl, sym, ap, ◌∙◌, arith, inl, inr, subst, ℕ, zero, suc, ◌+◌, ◌<◌, ◌≤◌, Bool, true, false, cond, ◌||◌, nat_lt, List, [], ◌∷◌, length, slice_get, Option, Some, None}
use Rattle.std.proofs.lemmas.Bool.{cases_eq}
use Rattle.b1_model.specs.declared.naming.Opening.{Opening}
use Rattle.b1_model.specs.declared.commands.Command.{Command}
use Rattle.b1_model.specs.declared.commands.Command.TheVariants as cmd
use Rattle.b1_model.specs.declared.records.Call.{Call}
use Rattle.b1_model.specs.declared.events.Doing.{Doing}
use Rattle.b1_model.specs.MachineParts.{PeerPart, DriverPart, State}
use Rattle.b1_model.specs.declared.answers.Answer.{Answer}
use Rattle.b1_model.specs.declared.events.Outcome.{Outcome}
use Rattle.b1_model.specs.declared.events.Outcome.TheVariants as out
use Rattle.b1_model.specs.MachineDriver.{Turn, Goes, Ends, turn}
use Rattle.b1_model.specs.MachineTook.{is_await, is_disconnect, shut_after, answer_of, is_done, goes_by, turned, with_facts}
use Rattle.b1_model.specs.MachineEvents.{happens}
use Rattle.b1_model.specs.MachineStep.{Step}
use Rattle.b1_model.specs.MachineOrder.{next_command}
use Rattle.b1_model.specs.Script.{resolved, commands_of}
use Rattle.b1_step.specs.Fixed.{AtMostOneMore}
use Rattle.b1_step.proofs.Locality.{step_grows}
use Rattle.b1_play_end.proofs.Waits.{length_more}
use Rattle.b1_inv.specs.Words.{IsPeer, IsDriver}
use Rattle.b1_inv.specs.Sound.{IsSound}
use Rattle.b1_inv_tools.proofs.Leaves.{Did, step_did, turned_open, driver_cases, peer_cases, new_driver}
use Rattle.b1_schedule.specs.Schedule.{beginning, Ending, Open, Called, Waits, ending, removed_by, gains, Round, Draining, round_after, drain_after}
use Rattle.b1_play_end.specs.Course.{TryingBy, IsTrying, AllTold, IsBlocked, IsIdle, IsWaiting, IsEmptied, AllBefore, AllEnded, HoldsAt}
use Rattle.b1_play_end.proofs.Holds.{same_part}
use Rattle.b1_play_end.proofs.Unmoved.{Unmoved, unmoved}

resolved_await : (c : Command) (calls : List Call) → resolved c calls ≡ cmd.Await → c ≡ cmd.Await
resolved_await cmd.Await calls is = refl
resolved_await cmd.Disconnect calls is = absurd (cc is)
resolved_await cmd.Query calls is = absurd (cc is)
resolved_await (cmd.Limit limits) calls is = absurd (cc is)
resolved_await (cmd.Reset limits) calls is = absurd (cc is)
resolved_await (cmd.Release number) calls is = absurd (cc is)
resolved_await (cmd.Destroy numbers) calls is = absurd (cc is)
resolved_await (cmd.SliceRelease offset) calls is = absurd (cc is)
resolved_await (cmd.Send c) calls is = absurd (cc is)
resolved_await cmd.Recv calls is = absurd (cc is)

beginning_closed : (next : Option Command) (d : DriverPart) → d.doing ≡ None → beginning next d ≡ elim next [ None ↦ None | Some c ↦ Some (resolved c d.calls) ]
beginning_closed next d is = ap {B = Option Command} (λ doing. elim doing [ Some one ↦ None | None ↦ elim next [ None ↦ None | Some c ↦ Some (resolved c d.calls) ] ]) is

-- a round or a pass that gained nothing removed nothing
none_gained : (gained : Bool) (removed : ℕ) → gains gained removed ≡ false → (gained ≡ false) × (removed ≡ 0)
none_gained true removed is = absurd (cc is)
none_gained false zero is = (refl, refl)
none_gained false (suc n) is = absurd (by_some n is)
  where
    by_some : (m : ℕ) → nat_lt 0 (suc m) ≡ false → ⊥
    by_some m is = grind (arith, is)

-- past the end of a list there is nothing
past_end : {X : Type 0} (xs : List X) (n m : ℕ) → slice_get xs n ≡ None → n ≤ m → slice_get xs m ≡ None
past_end [] n m is few = refl
past_end (x ∷ rest) zero m is few = absurd (cc is)
past_end (x ∷ rest) (suc n) zero is few = absurd (omega (arith, few))
past_end (x ∷ rest) (suc n) (suc m) is few = past_end rest n m is (omega (arith, few))

-- the shut flag after a turn, and after an attempt's event
turned_shut : (f : DriverPart) (command : Command) (t : Turn) → (turned f command t).shut ≡ f.shut
turned_shut f command (Ends got) = refl
turned_shut f command (Goes phase) = by_done (is_done f.owed f.told phase) (answer_of command phase)
  where
    by_done : (b : Bool) (got : Option Answer) → (goes_by b got f command phase).shut ≡ f.shut
    by_done false got = refl
    by_done true None = refl
    by_done true (Some got) = refl

attempt_shut : (command : Command) (shut : Bool) (outcome : Outcome) → is_await command ≡ true → shut_after command shut outcome ≡ shut
attempt_shut command shut (out.Flush dead) await = by_command command await
  where
    or_false : (b : Bool) → (b || false) ≡ b
    or_false true = refl
    or_false false = refl

    by_command : (c : Command) → is_await c ≡ true → (shut || is_disconnect c) ≡ shut
    by_command cmd.Await await = or_false shut
    by_command cmd.Disconnect await = absurd (cc await)
    by_command cmd.Query await = absurd (cc await)
    by_command (cmd.Limit limits) await = absurd (cc await)
    by_command (cmd.Reset limits) await = absurd (cc await)
    by_command (cmd.Release number) await = absurd (cc await)
    by_command (cmd.Destroy numbers) await = absurd (cc await)
    by_command (cmd.SliceRelease offset) await = absurd (cc await)
    by_command (cmd.Send c) await = absurd (cc await)
    by_command cmd.Recv await = absurd (cc await)
attempt_shut command shut outcome await = refl

module _ (lists : List (List Command)) {o : Opening} {s : State} {p : ℕ} {command : Option Command} {t : State} (sound : IsSound o s) (known : AllTold s) (step : Step o s p command t) where
  -- the own peer's part is there
  own_peer : (x : PeerPart) × IsPeer s p x
  own_peer = peer_within s.peers p (omega (arith, driver_within s.drivers p step.driver step.is_driver, sound.numbered.as_many_peers, sound.numbered.as_many_drivers))
    where
      driver_within : (ds : List DriverPart) (i : ℕ) (d : DriverPart) → slice_get ds i ≡ Some d → i < length ds
      driver_within [] i d is = absurd (cc is)
      driver_within (e ∷ rest) zero d is = omega arith
      driver_within (e ∷ rest) (suc i) d is = omega (arith, driver_within rest i d is)

      peer_within : (xs : List PeerPart) (i : ℕ) → i < length xs → (x : PeerPart) × (slice_get xs i ≡ Some x)
      peer_within [] i below = absurd (omega (arith, below))
      peer_within (x ∷ rest) zero below = (x, refl)
      peer_within (x ∷ rest) (suc i) below = peer_within rest i (omega (arith, below))

  -- other drivers stay idle
  others_idle : (r : ℕ) → r ≢ p → IsIdle s r → IsIdle t r
  others_idle r apart idle d is = elim (driver_cases step r d is) [
    | inl here ↦ absurd (apart here.0)
    | inr elsewhere ↦ idle d elsewhere.1
  ]

  own_rests : step.new_driver.doing ≡ None → IsIdle t p
  own_rests rests d is = ap (λ e. e.doing) (same_part t.drivers p d step.new_driver is (new_driver step)) ∙ rests

  is_still_open : (doing : Doing) → step.new_driver.doing ≡ Some doing → IsIdle t p → ⊥
  is_still_open doing is idle = cc (idle step.new_driver (new_driver step), is)

  -- where a waiting attempt removed nothing, each peer's part and each other driver is as before
  module _ (still : Unmoved step) where
    same_peers : (q : ℕ) (y : PeerPart) → IsPeer t q y → IsPeer s q y
    same_peers q y is = elim (peer_cases step q y is) [
      | inl here ↦ ap (slice_get s.peers) here.0 ∙ step.is_peer ∙ ap Some (sym still.same ∙ sym here.1)
      | inr elsewhere ↦ elsewhere.1
    ]

    before_kept : (n : ℕ) (P : ℕ → DriverPart → PeerPart → Type 0) → n ≤ p → AllBefore s n P → AllBefore t n P
    before_kept n P few before r d x below is_d is_x = elim (driver_cases step r d is_d) [
      | inl here ↦ absurd (omega (arith, below, few, here.0))
      | inr elsewhere ↦ before r d x below elsewhere.1 (same_peers r x is_x)
    ]

    idle_before : IsIdle s p
    idle_before d is = ap (λ e. e.doing) (same_part s.drivers p d step.driver is step.is_driver) ∙ still.closed

    own_blocked : (x : PeerPart) → IsPeer t p x → IsBlocked x
    own_blocked x is = subst IsBlocked (same_part s.peers p step.peer x (ap (slice_get s.peers) (sym still.at) ∙ step.is_peer) (same_peers p x is)) still.blocked

  -- how the step ended
  abbrev how : Ending
  how = ending step.driver step.new_driver

  by_open : (P : Ending → Type 0) → ((doing : Doing) → step.new_driver.doing ≡ Some doing → P Open) → (step.new_driver.doing ≡ None → P Called) → (step.new_driver.doing ≡ None → length step.new_driver.calls ≤ length step.driver.calls → P (Waits (removed_by step.new_driver))) → P how
  by_open P opens calls waits = by_doing step.new_driver.doing refl
    where
      by_length : (b : Bool) → b ≡ nat_lt (length step.driver.calls) (length step.new_driver.calls) → step.new_driver.doing ≡ None → P (cond b Called (Waits (removed_by step.new_driver)))
      by_length true same rests = calls rests
      by_length false same rests = waits rests (few (length step.driver.calls) (length step.new_driver.calls) (sym same))
        where
          few : (a b : ℕ) → nat_lt a b ≡ false → b ≤ a
          few a b is = grind (arith, is)

      by_doing : (open_part : Option Doing) → open_part ≡ step.new_driver.doing → P (elim open_part [ Some doing ↦ Open | None ↦ cond (nat_lt (length step.driver.calls) (length step.new_driver.calls)) Called (Waits (removed_by step.new_driver)) ])
      by_doing (Some doing) same = opens doing (sym same)
      by_doing None same = by_length (nat_lt (length step.driver.calls) (length step.new_driver.calls)) refl (sym same)

  idle_to : (q : ℕ) → ((r : ℕ) → r < q → IsIdle s r) → (r : ℕ) → r < q → r ≢ p → IsIdle t r
  idle_to q idle r below apart = others_idle r apart (idle r below)

  -- ---- a step of a round

  module _ (begins : command ≡ beginning (next_command lists p step.driver) step.driver) where
    -- the command of an attempt that waits is the AWAIT of the list
    next_await : Unmoved step → next_command lists p step.new_driver ≡ Some cmd.Await
    next_await still = ap (λ calls. slice_get (commands_of lists p) (length calls)) still.calls ∙ by_next (next_command lists p step.driver) refl (sym begins ∙ still.await)
      where
        by_next : (next : Option Command) → next ≡ next_command lists p step.driver → beginning next step.driver ≡ Some cmd.Await → next_command lists p step.driver ≡ Some cmd.Await
        by_next None same is = absurd (cc (sym (beginning_closed None step.driver still.closed) ∙ is))
        by_next (Some c) same is = sym same ∙ ap Some (resolved_await c step.driver.calls (some_is (sym (beginning_closed (Some c) step.driver still.closed) ∙ is)))
          where
            some_is : {a b : Command} → Some a ≡ Some b → a ≡ b
            some_is is = cc is

    own_waiting : Unmoved step → (d : DriverPart) (x : PeerPart) → IsDriver t p d → IsPeer t p x → IsWaiting lists p d x
    own_waiting still d x is_d is_x =
        let same = same_part t.drivers p step.new_driver d (new_driver step) is_d in
        inr (subst (λ e. next_command lists p e ≡ Some cmd.Await) same (next_await still), subst (λ e. e.shut ≡ false) same still.shut, own_blocked still x is_x)

    round_waiting : (gained : Bool) → HoldsAt lists s (Round p gained) → step.new_driver.doing ≡ None → length step.new_driver.calls ≤ length step.driver.calls → gains gained (removed_by step.new_driver) ≡ false → AllBefore t (p + 1) (IsWaiting lists)
    round_waiting gained holds rests few none r d x below is_d is_x =
        let nothing = none_gained gained (removed_by step.new_driver) none in
        let still = unmoved sound known step own_peer.0 own_peer.1 rests few nothing.1 in
        elim (cases_eq r p) [
          | inl here ↦ subst (λ q. IsDriver t q d → IsPeer t q x → IsWaiting lists q d x) (sym here) (own_waiting still d x) is_d is_x
          | inr apart ↦ before_kept still p (IsWaiting lists) (omega arith) (holds.1 nothing.0 (idle_before still)) r d x (omega (arith, below, apart)) is_d is_x
        ]

    pub round_goes : (gained : Bool) → HoldsAt lists s (Round p gained) → HoldsAt lists t (round_after p gained how)
    round_goes gained holds = by_open (λ en. HoldsAt lists t (round_after p gained en))
        (λ doing is. ((λ r below. idle_to p holds.0 r below (λ same. omega (arith, below, same))), λ none idle. absurd (is_still_open doing is idle)))
        (λ rests. ((λ r below. idle_to p holds.0 r below (λ same. omega (arith, below, same))), λ none idle. absurd (cc none)))
        (λ rests few. ((λ r below. elim (cases_eq r p) [ inl here ↦ subst (IsIdle t) (sym here) (own_rests rests) | inr apart ↦ others_idle r apart (holds.0 r (omega (arith, below, apart))) ]), λ none idle. round_waiting gained holds rests few none))

  -- ---- a step of the drain

  more_calls : length step.driver.calls ≤ length step.new_driver.calls
  more_calls = by_more (step_grows step).calls
    where
      by_more : AtMostOneMore step.driver.calls step.new_driver.calls → length step.driver.calls ≤ length step.new_driver.calls
      by_more (inl same) = omega (arith, ap length same)
      by_more (inr (c, more)) = omega (arith, ap length more, length_more step.driver.calls c)

  ended_kept : AllEnded lists s → AllEnded lists t
  ended_kept ended r d is_d = elim (driver_cases step r d is_d) [
    | inl here ↦ subst (λ e. next_command lists r e ≡ None) (sym here.1) (past_end (commands_of lists r) (length step.driver.calls) (length step.new_driver.calls) (ended r step.driver (ap (slice_get s.drivers) here.0 ∙ step.is_driver)) more_calls)
    | inr elsewhere ↦ ended r d elsewhere.1
  ]

  drain_emptied : (gained : Bool) → HoldsAt lists s (Draining p gained) → step.new_driver.doing ≡ None → length step.new_driver.calls ≤ length step.driver.calls → gains gained (removed_by step.new_driver) ≡ false → AllBefore t (p + 1) (λ r. IsEmptied)
  drain_emptied gained holds rests few none r d x below is_d is_x =
      let nothing = none_gained gained (removed_by step.new_driver) none in
      let still = unmoved sound known step own_peer.0 own_peer.1 rests few nothing.1 in
      elim (cases_eq r p) [
        | inl here ↦ inr (own_blocked still x (ap (slice_get t.peers) (sym here) ∙ is_x))
        | inr apart ↦ before_kept still p (λ q. IsEmptied) (omega arith) (holds.3 nothing.0 (idle_before still)) r d x (omega (arith, below, apart)) is_d is_x
      ]

  -- a driver that rests is trying nothing
  rests_trying : (d : DriverPart) → d.doing ≡ None → IsTrying d
  rests_trying d rests = subst (TryingBy d.shut) (sym rests) tt

  idle_trying : (q : ℕ) → IsIdle t q → (d : DriverPart) → IsDriver t q d → IsTrying d
  idle_trying q idle d is = rests_trying d (idle d is)

  module _ (begins : command ≡ beginning (Some cmd.Await) step.driver) (shut : step.driver.shut ≡ false) where
    k : Did o step.local.memory step.driver command step.peer step.action step.at step.new_driver step.new_peer
    k = step_did step

    awaits : (gained : Bool) → HoldsAt lists s (Draining p gained) → is_await k.doing.command ≡ true
    awaits gained holds = elim k.opened.from [
      | inl is ↦ (subst (TryingBy step.driver.shut) is (holds.2 step.driver step.is_driver)).1
      | inr starts ↦ ap is_await (some_is (sym starts.1 ∙ begins ∙ beginning_closed (Some cmd.Await) step.driver starts.0))
    ]
      where
        some_is : {a b : Command} → Some a ≡ Some b → a ≡ b
        some_is is = cc is

    -- an attempt doesn't shut its driver
    still_unshut : is_await k.doing.command ≡ true → step.new_driver.shut ≡ false
    still_unshut await = ap (λ f. f.shut) k.driver ∙ turned_shut (with_facts k.e k.doing outcome) k.doing.command (turn k.e.me k.doing.command k.doing.phase outcome) ∙ attempt_shut k.doing.command k.e.shut outcome await ∙ k.opened.shut ∙ shut
      where
        outcome : Outcome
        outcome = (happens o step.local.memory k.e k.doing step.action step.peer).0

    open_trying : (gained : Bool) → HoldsAt lists s (Draining p gained) → (doing : Doing) → step.new_driver.doing ≡ Some doing → (d : DriverPart) → IsDriver t p d → IsTrying d
    open_trying gained holds doing opened d is_d =
        let await = awaits gained holds in
        let same = turned_open (with_facts k.e k.doing (happens o step.local.memory k.e k.doing step.action step.peer).0) k.doing.command (turn k.e.me k.doing.command k.doing.phase (happens o step.local.memory k.e k.doing step.action step.peer).0) doing (ap (λ f. f.doing) (sym k.driver) ∙ opened) in
        subst IsTrying (same_part t.drivers p step.new_driver d (new_driver step) is_d)
        (subst (TryingBy step.new_driver.shut) (sym opened) (still_unshut await, ap is_await same.0 ∙ await))

    pub drain_goes : (gained : Bool) → HoldsAt lists s (Draining p gained) → HoldsAt lists t (drain_after p gained how)
    drain_goes gained holds = by_open (λ en. HoldsAt lists t (drain_after p gained en))
        (λ doing is. (ended_kept holds.0, (λ r apart. others_idle r apart (holds.1 r apart)), open_trying gained holds doing is, λ none idle. absurd (is_still_open doing is idle)))
        (λ rests. (ended_kept holds.0, (λ r apart. others_idle r apart (holds.1 r apart)), idle_trying p (own_rests rests), λ none idle. absurd (cc none)))
        (λ rests few. (
          ended_kept holds.0,
          (λ r apart. elim (cases_eq r p) [ inl here ↦ subst (IsIdle t) (sym here) (own_rests rests) | inr away ↦ others_idle r away (holds.1 r away) ]),
          idle_trying (p + 1) (others_idle (p + 1) (λ same. omega (arith, same)) (holds.1 (p + 1) (λ same. omega (arith, same)))),
          λ none idle. drain_emptied gained holds rests few none,
        ))
