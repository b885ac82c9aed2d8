-- A pass of the machine's drain, from a state at rest, is the serial bus's pass.
use Rattle.std.proofs.Common.{◌≡◌, refl, sym, ap, ◌∙◌, subst, ℕ, zero, suc, ◌+◌, ◌≤◌, Bool, true, false, ◌||◌, ◌&&◌, not, cond, List, [], ◌∷◌, length, Option, Some, None, is_some, ◌==◌}
use Rattle.std.specs.Prelude.{slice_get, nat_lt, if◌then◌else◌}
use Rattle.std.proofs.lemmas.Option.{same_Some}
use native.Mathlib.Omega.{arith}
use Rattle.b1_model.specs.declared.naming.Key.{Key}
use Rattle.b1_model.specs.declared.naming.Opening.{Opening}
use Rattle.b1_model.specs.declared.entries.Entry.{Entry}
use Rattle.b1_model.specs.declared.commands.Command.{Command}
use Rattle.b1_model.specs.declared.commands.Command.TheVariants as cmd
use Rattle.b1_model.specs.declared.events.Doing.{Doing}
use Rattle.b1_model.specs.MachineParts.{DriverPart, State}
use Rattle.b1_model.specs.MachineStep.{Reached}
use Rattle.b1_schedule.specs.Shortage.{Shortage}
use Rattle.b1_schedule.specs.Schedule.{beginning, with_step, Called, Waits, removed_by, ending, gains, Draining, Playing, drain_after, driver_after, drain_at, moved}
use Rattle.b1_model.specs.declared.answers.Reason.TheVariants as reason
use Rattle.b1_model.specs.MachineDriver.{refused_at}
use Rattle.b1_serial_bus.specs.Parts.{Part, Bus, at_peer, called as with_call}
use Rattle.b1_serial_bus.specs.Receive.{is_empty, cleared, waits, received}
use Rattle.b1_serial_bus.specs.Commands.{as_called, after_command, after_command_of}
use Rattle.b1_serial_bus.specs.Drain.{received_times, is_full}
use Rattle.b1_serial_bus.proofs.Counts.{received_is_call}
use Rattle.b1_serial_bus.proofs.Settled.{at_same, waits_empty, cleared_empty}
use Rattle.b1_serial_bus.proofs.Emptied.{passed, tried, tried_shortens}
use Rattle.b1_serial_rest.specs.Rest.{AtRest}
use Rattle.b1_serial_rest.specs.Whole.{own_step, RunsWhole}
use Rattle.b1_serial_plays.specs.Commands.{CommandsKeepRest}
use Rattle.b1_serial_plays.proofs.Steps.{own_is, own_leads}
use Rattle.b1_serial_plays.proofs.Rests.{Driver, driver_at}
use Rattle.b1_serial_plays.proofs.Moves.{at, final, Goes, goes_on, goes_once, whole_goes, whole_reached}

-- ---- changes of one peer

same_at : (p : ℕ) (f g : Part → Part) (bus : Bus) (y : Part) → slice_get bus p ≡ Some y → f y ≡ g y → at_peer p f bus ≡ at_peer p g bus
same_at p f g [] y is same = refl
same_at zero f g (x ∷ xs) y is same = let here : x ≡ y = same_Some x y is in ap (λ z. z ∷ xs) (ap f here ∙ same ∙ sym (ap g here))
same_at (suc p) f g (x ∷ xs) y is same = ap (λ zs. x ∷ zs) (same_at p f g xs y is same)

twice_at : (p : ℕ) (f g : Part → Part) (bus : Bus) → at_peer p f (at_peer p g bus) ≡ at_peer p (λ z. f (g z)) bus
twice_at p f g [] = refl
twice_at zero f g (x ∷ xs) = refl
twice_at (suc p) f g (x ∷ xs) = ap (λ zs. x ∷ zs) (twice_at p f g xs)

-- ---- what attempts leave

-- whatever the number of attempts, an empty box stays as it is
times_still : (n : ℕ) (y : Part) → y.shut ≡ false → y.box ≡ [] → received_times n y ≡ y
times_still zero y connected empty = refl
times_still (suc n) y connected empty =
    let nothing : cleared y ≡ y = cleared_empty y empty in
    let still : waits y ≡ true = ap (λ b. not b && is_empty (cleared y).box) connected ∙ ap (λ z. is_empty z.box) nothing ∙ ap is_empty empty in
    ap (λ b. received_times n (if b then cleared y else received y)) still ∙ ap (received_times n) nothing ∙ times_still n y connected empty

-- where an attempt waits, the first of them clears the box
times_waits : (n : ℕ) (y : Part) → y.shut ≡ false → length y.box ≤ n → waits y ≡ true → cleared y ≡ received_times n y
times_waits zero y connected few w = cleared_empty y (nothing y.box few)
  where
    nothing : (box : List (Key × Entry)) → length box ≤ 0 → box ≡ []
    nothing [] few = refl
    nothing (f ∷ rest) few = absurd (omega (arith, few))
times_waits (suc n) y connected few w = sym (ap (λ b. received_times n (if b then cleared y else received y)) w ∙ times_still n (cleared y) connected (waits_empty y w))

-- a box from which an attempt takes something isn't empty
takes_some : (y : Part) → y.shut ≡ false → waits y ≡ false → is_empty y.box ≡ false
takes_some y connected takes = by y.box refl
  where
    by : (box : List (Key × Entry)) → y.box ≡ box → is_empty y.box ≡ false
    by [] none = absurd (cc (sym takes ∙ ap (λ b. not b && is_empty (cleared y).box) connected ∙ ap (λ z. is_empty z.box) (cleared_empty y none) ∙ ap is_empty none))
    by (f ∷ rest) some = ap is_empty some ∙ not_zero (length rest)
      where
        not_zero : (n : ℕ) → (suc n == 0) ≡ false
        not_zero n = grind arith

-- ---- a move of a pass

module _ (o : Opening) (lists : List (List Command)) (m : Shortage) (p : ℕ) (gained : Bool) (s : State) where
  -- where a step leads
  abbrev stepped_to : DriverPart → State → Playing
  stepped_to d t = at t (drain_after p gained (ending d (driver_after t p d)))

  abbrev by_shut : DriverPart → Bool → Playing
  by_shut d shut = cond shut (at s (Draining (p + 1) gained)) (stepped_to d (with_step o m p (beginning (Some cmd.Await) d) d s))

  moved_by : (d : DriverPart) (shut : Bool) → slice_get s.drivers p ≡ Some d → d.shut ≡ shut → moved o lists m (at s (Draining p gained)) ≡ by_shut d shut
  moved_by d shut is has = ap (λ found. drain_at o m p gained s found) is ∙ ap (by_shut d) has

  -- a driver that has disconnected is passed by
  passes : (d : DriverPart) → slice_get s.drivers p ≡ Some d → d.shut ≡ true → moved o lists m (at s (Draining p gained)) ≡ at s (Draining (p + 1) gained)
  passes d is shut = moved_by d true is shut

  -- every other one begins an attempt
  begins : (d : DriverPart) → slice_get s.drivers p ≡ Some d → d.shut ≡ false → moved o lists m (at s (Draining p gained)) ≡ stepped_to d (own_step o m p (Some cmd.Await) s)
  begins d is shut = moved_by d false is shut ∙ ap (stepped_to d) (sym (own_is o m p (Some cmd.Await) s d is))

  -- or goes on with it
  goes_further : (d : DriverPart) → slice_get s.drivers p ≡ Some d → is_some d.doing ≡ true → d.shut ≡ false → moved o lists m (at s (Draining p gained)) ≡ stepped_to d (own_step o m p None s)
  goes_further d is opens shut = by d.doing refl
    where
      by : (doing : Option Doing) → d.doing ≡ doing → moved o lists m (at s (Draining p gained)) ≡ stepped_to d (own_step o m p None s)
      by None none = absurd (cc (none, opens))
      by (Some one) some = moved_by d false is shut ∙ ap (stepped_to d) (ap (λ c. with_step o m p c d s) both ∙ sym (own_is o m p None s d is))
        where
          both : beginning (Some cmd.Await) d ≡ beginning None d
          both = ap (λ doing. elim doing [ Some z ↦ None | None ↦ Some cmd.Await ]) some ∙ sym (ap (λ doing. elim doing [ Some z ↦ None | None ↦ None ]) some)

-- ---- one peer

module _ (o : Opening) (lists : List (List Command)) (m : Shortage) (keeps : CommandsKeepRest o) (p : ℕ) where
  -- a pass has gone on to the next peer
  pub record Drained (s : State) (gained : Bool) (bus : Bus) (gains_now : Bool) : Type 0 where
    pub state : State
    pub reached : Reached o state
    pub rests : AtRest o state bus
    pub goes : Goes o lists m (at s (Draining p gained)) (at state (Draining (p + 1) gains_now))

  -- the open command is an AWAIT, at a driver that hasn't disconnected
  abbrev Tries : DriverPart → Type 0
  Tries d = (d.shut ≡ false) × ((doing : Doing) → d.doing ≡ Some doing → doing.command ≡ cmd.Await)

  module _ (s : State) (bus : Bus) (gained : Bool) (y : Part) (reached : Reached o s) (rest : AtRest o s bus) (is : slice_get bus p ≡ Some y) (connected : y.shut ≡ false) where
    d : Driver s p y
    d = driver_at rest p y is

    shut_is : d.part.shut ≡ false
    shut_is = sym d.shut ∙ connected

    begun_await : beginning (Some cmd.Await) d.part ≡ Some cmd.Await
    begun_await = ap (λ doing. elim doing [ Some z ↦ None | None ↦ Some cmd.Await ]) d.idle

    -- where a whole attempt leads
    whole : (t : State) → RunsWhole o m p cmd.Await s t → Goes o lists m (at s (Draining p gained)) (at t (drain_after p gained (final p (length d.part.calls) t)))
    whole t runs =
        whole_goes o lists m p (Draining p gained) (drain_after p gained) refl Tries
        (λ u e is_e opens tries. goes_further o lists m p gained u e is_e opens tries.0)
        (λ u e is_e opens tries f is_f.
        let l = own_leads o m p None u e is_e in
        subst Tries (same_Some l.driver f (sym l.is_driver ∙ is_f)) (l.awaits tries (λ c begun. absurd (none_begun e opens c begun))))
        s d.part cmd.Await t d.is_driver (begins o lists m p gained s d.part d.is_driver shut_is)
        (λ e is_e.
        let l = own_leads o m p (Some cmd.Await) s d.part d.is_driver in
        subst Tries (same_Some l.driver e (sym l.is_driver ∙ is_e))
        (l.awaits (shut_is, λ doing opens. absurd (cc (sym d.idle ∙ opens))) (λ c begun. sym (same_Some cmd.Await c (sym begun_await ∙ begun)))))
        runs
      where
        none_begun : (e : DriverPart) → is_some e.doing ≡ true → (c : Command) → beginning None e ≡ Some c → ⊥
        none_begun e opens c begun = by e.doing refl
          where
            by : (doing : Option Doing) → e.doing ≡ doing → ⊥
            by None none = cc (sym opens ∙ ap is_some none)
            by (Some one) some =
                let none : beginning None e ≡ None = ap (λ doing. elim doing [ Some z ↦ None | None ↦ None ]) some in
                cc (sym begun ∙ none)

    -- an attempt that waits
    waiting : (n : ℕ) → length y.box ≤ n → waits y ≡ true → Drained s gained (at_peer p (received_times n) bus) (gained || not (is_empty y.box))
    waiting n few w =
        let k = keeps.waits m s bus p y reached rest is w in
        let here : slice_get (at_peer y.me cleared bus) p ≡ Some (cleared y) = ap (λ q. slice_get (at_peer q cleared bus) p) d.me ∙ at_same p cleared bus y is in
        let e = driver_at k.rests p (cleared y) here in
        let no_call : final p (length d.part.calls) k.state ≡ Waits (removed_by e.part) =
        ap (λ found. elim found [ None ↦ Waits 0 | Some z ↦ if nat_lt (length d.part.calls) (length z.calls) then Called else Waits (removed_by z) ]) e.is_driver
        ∙ ap (λ b. if b then Called else Waits (removed_by e.part)) (ap (λ k. nat_lt k (length e.part.calls)) (ap length (sym d.calls ∙ e.calls)) ∙ not_less (length e.part.calls)) in
        let gains_so : gains gained (removed_by e.part) ≡ gained || not (is_empty y.box) = ap (λ b. gained || b) (k.removed e.part e.is_driver) in
        record {
          state = k.state;
          reached = whole_reached o m p cmd.Await s k.state d.part d.is_driver k.runs reached;
          rests = subst (AtRest o k.state) (ap (λ q. at_peer q cleared bus) d.me ∙ same_at p cleared (received_times n) bus y is (times_waits n y connected few w)) k.rests;
          goes = subst (λ z. Goes o lists m (at s (Draining p gained)) (at k.state z)) (ap (drain_after p gained) no_call ∙ ap (Draining (p + 1)) gains_so) (whole k.state k.runs);
        }
      where
        not_less : (n : ℕ) → nat_lt n n ≡ false
        not_less n = grind arith

    -- an attempt that takes something, and those behind it
    taking : (n : ℕ) → waits y ≡ false
        → ((t : State) → Reached o t → AtRest o t (at_peer p received bus) → slice_get (at_peer p received bus) p ≡ Some (received y) → Drained t true (at_peer p (received_times n) (at_peer p received bus)) true)
        → Drained s gained (at_peer p (received_times (suc n)) bus) (gained || not (is_empty y.box))
    taking n takes further =
        let k = keeps.ends m s bus p y cmd.Await reached rest is takes in
        let bus_is : after_command_of m p cmd.Await bus ≡ at_peer p received bus =
        ap (λ found. elim found [ None ↦ bus | Some x ↦ after_command m cmd.Await x bus ]) is
        ∙ ap (λ b. if b then at_peer y.me (with_call (as_called cmd.Await) (refused_at reason.Shutdown None)) bus else at_peer y.me received bus) connected
        ∙ ap (λ q. at_peer q received bus) d.me in
        let rests : AtRest o k.state (at_peer p received bus) = subst (AtRest o k.state) bus_is k.rests in
        let here : slice_get (at_peer p received bus) p ≡ Some (received y) = at_same p received bus y is in
        let e = driver_at rests p (received y) here in
        let calls_e : length e.part.calls ≡ suc (length d.part.calls) = ap length (sym e.calls) ∙ ap (λ v. v.1) (received_is_call y) ∙ ap (λ k. suc (length k)) d.calls in
        let called : final p (length d.part.calls) k.state ≡ Called =
        ap (λ found. elim found [ None ↦ Waits 0 | Some z ↦ if nat_lt (length d.part.calls) (length z.calls) then Called else Waits (removed_by z) ]) e.is_driver
        ∙ ap (λ b. if b then Called else Waits (removed_by e.part)) (ap (nat_lt (length d.part.calls)) calls_e ∙ less (length d.part.calls)) in
        let last = further k.state (whole_reached o m p cmd.Await s k.state d.part d.is_driver k.runs reached) rests here in
        let gains_so : gained || not (is_empty y.box) ≡ true = ap (λ b. gained || not b) (takes_some y connected takes) ∙ or_true gained in
        let times_so : at_peer p (received_times n) (at_peer p received bus) ≡ at_peer p (received_times (suc n)) bus =
        twice_at p (received_times n) received bus
        ∙ same_at p (λ z. received_times n (received z)) (received_times (suc n)) bus y is (sym (ap (λ b. received_times n (if b then cleared y else received y)) takes)) in
        record {
          state = last.state;
          reached = last.reached;
          rests = subst (AtRest o last.state) times_so last.rests;
          goes = subst (λ b. Goes o lists m (at s (Draining p gained)) (at last.state (Draining (p + 1) b))) (sym gains_so)
              (goes_on o lists m _ _ _ (subst (λ z. Goes o lists m (at s (Draining p gained)) (at k.state z)) (ap (drain_after p gained) called) (whole k.state k.runs)) last.goes);
        }
      where
        less : (n : ℕ) → nat_lt n (suc n) ≡ true
        less n = grind arith

        or_true : (b : Bool) → (b || not false) ≡ true
        or_true true = refl
        or_true false = refl

  -- a peer that hasn't disconnected, with so many entries at most
  drains : (n : ℕ) (s : State) (bus : Bus) (gained : Bool) (y : Part) → Reached o s → AtRest o s bus → slice_get bus p ≡ Some y → y.shut ≡ false → length y.box ≤ n → Drained s gained (at_peer p (received_times n) bus) (gained || not (is_empty y.box))
  drains zero s bus gained y reached rest is connected few = by (waits y) refl
    where
      by : (b : Bool) → waits y ≡ b → Drained s gained (at_peer p (received_times 0) bus) (gained || not (is_empty y.box))
      by true w = waiting s bus gained y reached rest is connected 0 few w
      by false takes = absurd (full y.box few (takes_some y connected takes))
        where
          full : (box : List (Key × Entry)) → length box ≤ 0 → is_empty box ≡ false → ⊥
          full [] few is = cc is
          full (f ∷ rest) few is = omega (arith, few)
  drains (suc n) s bus gained y reached rest is connected few =
      by
      (λ t takes r a i.
      let less = tried_shortens n y connected few in
      let tried_is : tried y ≡ received y = ap (λ b. if b then cleared y else received y) takes in
      let shut_z : (received y).shut ≡ false = ap (λ z. z.shut) (sym tried_is) ∙ less.0 in
      let few_z : length (received y).box ≤ n = subst (λ z. length z.box ≤ n) tried_is less.1 in
      drains n t (at_peer p received bus) true (received y) r a i shut_z few_z)
      (waits y) refl
    where
      by : ((t : State) → waits y ≡ false → Reached o t → AtRest o t (at_peer p received bus) → slice_get (at_peer p received bus) p ≡ Some (received y) → Drained t true (at_peer p (received_times n) (at_peer p received bus)) true)
          → (b : Bool) → waits y ≡ b → Drained s gained (at_peer p (received_times (suc n)) bus) (gained || not (is_empty y.box))
      by further true w = waiting s bus gained y reached rest is connected (suc n) few w
      by further false takes = taking s bus gained y reached rest is connected n takes (λ t r a i. further t takes r a i)

  -- a pass at a peer
  pub pass_at : (s : State) (bus : Bus) (gained : Bool) (y : Part) → Reached o s → AtRest o s bus → slice_get bus p ≡ Some y → Drained s gained (at_peer p passed bus) (gained || is_full y)
  pass_at s bus gained y reached rest is = by y.shut refl
    where
      by : (b : Bool) → y.shut ≡ b → Drained s gained (at_peer p passed bus) (gained || is_full y)
      by true shut =
          let d = driver_at rest p y is in
          let not_full : is_full y ≡ false = ap (λ b. not b && not (is_empty y.box)) shut in
          let same : at_peer p passed bus ≡ bus = same_at p passed (λ z. z) bus y is (ap (λ b. if b then received_times (length y.box) y else y) not_full) ∙ nothing p bus in
          record {
            state = s;
            reached = reached;
            rests = subst (AtRest o s) (sym same) rest;
            goes = goes_once o lists m (at s (Draining p gained)) (at s (Draining (p + 1) (gained || is_full y)))
                (passes o lists m p gained s d.part d.is_driver (sym d.shut ∙ shut) ∙ ap (λ b. at s (Draining (p + 1) b)) (sym (ap (λ b. gained || b) not_full ∙ or_false gained)));
          }
        where
          nothing : (p : ℕ) (bus : Bus) → at_peer p (λ z. z) bus ≡ bus
          nothing p [] = refl
          nothing zero (x ∷ xs) = refl
          nothing (suc p) (x ∷ xs) = ap (λ zs. x ∷ zs) (nothing p xs)

          or_false : (b : Bool) → (b || false) ≡ b
          or_false true = refl
          or_false false = refl
      by false connected =
          let full_is : is_full y ≡ not (is_empty y.box) = ap (λ b. not b && not (is_empty y.box)) connected in
          let passed_is : passed y ≡ received_times (length y.box) y = ap (λ b. if b then received_times (length y.box) y else y) full_is ∙ empty y.box refl in
          let k = drains (length y.box) s bus gained y reached rest is connected (omega arith) in
          record {
            state = k.state;
            reached = k.reached;
            rests = subst (AtRest o k.state) (same_at p (received_times (length y.box)) passed bus y is (sym passed_is)) k.rests;
            goes = subst (λ b. Goes o lists m (at s (Draining p gained)) (at k.state (Draining (p + 1) b))) (ap (λ b. gained || b) (sym full_is)) k.goes;
          }
        where
          empty : (box : List (Key × Entry)) → y.box ≡ box → (if not (is_empty y.box) then received_times (length y.box) y else y) ≡ received_times (length y.box) y
          empty [] none = ap (λ b. if not b then received_times (length y.box) y else y) (ap is_empty none) ∙ sym (ap (λ n. received_times n y) (ap length none))
          empty (f ∷ rest) some = ap (λ b. if not b then received_times (length y.box) y else y) (ap is_empty some ∙ not_zero (length rest))
            where
              not_zero : (n : ℕ) → (suc n == 0) ≡ false
              not_zero n = grind arith
