-- A round of the machine's schedule, from a state at rest, is the serial bus's round.
use Rattle.std.proofs.Common.{◌≡◌, refl, sym, ap, ◌∙◌, subst, ℕ, zero, suc, ◌+◌, ◌<◌, Bool, true, false, ◌||◌, not, cond, List, [], ◌∷◌, length, drop, Option, Some, None, is_some, is_none, option_map}
use Rattle.std.specs.Prelude.{⊤, slice_get, nat_lt, if◌then◌else◌}
use Rattle.std.proofs.lemmas.Option.{same_Some, slice_get-map}
use native.Mathlib.Omega.{arith}
use Rattle.b1_model.specs.declared.naming.Opening.{Opening}
use Rattle.b1_model.specs.declared.commands.Command.{Command}
use Rattle.b1_model.specs.declared.commands.Command.TheVariants as cmd
use Rattle.b1_model.specs.declared.events.Doing.{Doing}
use Rattle.b1_model.specs.MachineParts.{DriverPart, State}
use Rattle.b1_model.specs.MachineStep.{Reached}
use Rattle.b1_model.specs.MachineOrder.{next_command}
use Rattle.b1_model.specs.Script.{commands_of, resolved}
use Rattle.b1_schedule.specs.Shortage.{Shortage}
use Rattle.b1_schedule.specs.Schedule.{round_at as machine_at}
use Rattle.b1_schedule.specs.Schedule.{beginning, with_step, Called, Waits, removed_by, ending, gains, Round, Playing, round_after, driver_after, has_step, moved}
use Rattle.b1_serial_bus.specs.Parts.{Part, Bus, at_peer}
use Rattle.b1_serial_bus.specs.Receive.{is_empty, cleared, waits}
use Rattle.b1_serial_bus.specs.Commands.{after_command_of}
use Rattle.b1_serial_bus.specs.Rounds.{Going, is_waiting, attempted, run, commands_left, round_at}
use Rattle.b1_serial_bus.proofs.Shapes.{shape, shapes, more, one_more}
use Rattle.b1_serial_bus.proofs.Counts.{counts}
use Rattle.b1_serial_bus.proofs.Settled.{at_same, waiting_waits}
use Rattle.b1_serial_rest.specs.Rest.{AtRest}
use Rattle.b1_serial_rest.specs.Whole.{own_step, RunsWhole}
use Rattle.b1_serial_plays.specs.Commands.{CommandsKeepRest}
use Rattle.b1_serial_plays.proofs.Steps.{own_is}
use Rattle.b1_serial_plays.proofs.Rests.{Driver, driver_at}
use Rattle.b1_serial_plays.proofs.Moves.{at, final, Goes, goes_on, goes_once, whole_goes, whole_reached}

-- ---- lists

abbrev pub first : {X : Type 0} → List X → Option X
first [] = None
first (x ∷ xs) = Some x

pub next_of : {X : Type 0} (xs : List X) (n : ℕ) → slice_get xs n ≡ first (drop n xs)
next_of [] zero = refl
next_of [] (suc n) = refl
next_of (x ∷ xs) zero = refl
next_of (x ∷ xs) (suc n) = next_of xs n

rest_of : {X : Type 0} (xs : List X) (n : ℕ) (x : X) (rest : List X) → drop n xs ≡ x ∷ rest → drop (suc n) xs ≡ rest
rest_of [] zero x rest is = absurd (cc is)
rest_of [] (suc n) x rest is = absurd (cc is)
rest_of (y ∷ ys) zero x rest is = cc is
rest_of (y ∷ ys) (suc n) x rest is = rest_of ys n x rest is

more_at : (p : ℕ) (ss : List (ℕ × ℕ)) (s : ℕ × ℕ) → slice_get ss p ≡ Some s → slice_get (one_more p ss) p ≡ Some (more s)
more_at p [] s is = absurd (cc is)
more_at zero (t ∷ ts) s is = ap (λ z. Some (more z)) (same_Some t s is)
more_at (suc p) (t ∷ ts) s is = more_at p ts s is

is_there : {X : Type 0} (xs : List X) (i : ℕ) → i < length xs → slice_get xs i ≡ None → ⊥
is_there [] i less none = omega (arith, less)
is_there (x ∷ xs) zero less none = cc none
is_there (x ∷ xs) (suc i) less none = is_there xs i (omega (arith, less)) none

-- ---- a peer of a bus with the shape that it has

shape_at : (bus : Bus) (p : ℕ) (s : ℕ × ℕ) → slice_get (shapes bus) p ≡ Some s → (y : Part) × (slice_get bus p ≡ Some y) × (shape y ≡ s)
shape_at [] p s is = absurd (cc is)
shape_at (y ∷ ys) zero s is = (y, refl, same_Some (shape y) s is)
shape_at (y ∷ ys) (suc p) s is = shape_at ys p s is

-- ---- a move of a round

module _ (o : Opening) (lists : List (List Command)) (m : Shortage) (p : ℕ) (gained : Bool) (s : State) where
  -- where a step leads
  abbrev stepped_to : DriverPart → State → Playing
  stepped_to d t = at t (round_after p gained (ending d (driver_after t p d)))

  abbrev by_step : DriverPart → Bool → Playing
  by_step d steps = cond steps (stepped_to d (with_step o m p (beginning (next_command lists p d) d) d s)) (at s (Round (p + 1) gained))

  moved_by : (d : DriverPart) (steps : Bool) → slice_get s.drivers p ≡ Some d → has_step lists p d ≡ steps → moved o lists m (at s (Round p gained)) ≡ by_step d steps
  moved_by d steps is has = ap (λ found. machine_at o lists m p gained s found) is ∙ ap (by_step d) has

  -- a driver with nothing to do is passed by
  passes : (d : DriverPart) → slice_get s.drivers p ≡ Some d → d.doing ≡ None → next_command lists p d ≡ None → moved o lists m (at s (Round p gained)) ≡ at s (Round (p + 1) gained)
  passes d is idle none = moved_by d false is (ap (λ doing. elim doing [ Some one ↦ true | None ↦ not (is_none (next_command lists p d)) ]) idle ∙ ap (λ next. not (is_none next)) none)

  -- one with a command left begins it
  begins : (d : DriverPart) (c : Command) → slice_get s.drivers p ≡ Some d → d.doing ≡ None → next_command lists p d ≡ Some c → moved o lists m (at s (Round p gained)) ≡ stepped_to d (own_step o m p (Some c) s)
  begins d c is idle some =
      moved_by d true is (ap (λ doing. elim doing [ Some one ↦ true | None ↦ not (is_none (next_command lists p d)) ]) idle ∙ ap (λ next. not (is_none next)) some)
      ∙ ap (stepped_to d) (ap (λ next. with_step o m p (beginning next d) d s) some ∙ sym (own_is o m p (Some c) s d is))

  -- one with an open command goes on with it
  goes_further : (d : DriverPart) → slice_get s.drivers p ≡ Some d → is_some d.doing ≡ true → moved o lists m (at s (Round p gained)) ≡ stepped_to d (own_step o m p None s)
  goes_further d is opens = by d.doing refl
    where
      by : (doing : Option Doing) → d.doing ≡ doing → moved o lists m (at s (Round p gained)) ≡ stepped_to d (own_step o m p None s)
      by None none = absurd (cc (none, opens))
      by (Some one) some =
          moved_by d true is (ap (λ doing. elim doing [ Some z ↦ true | None ↦ not (is_none (next_command lists p d)) ]) some)
          ∙ ap (stepped_to d) (ap (λ c. with_step o m p c d s) (none_begins (next_command lists p d) ∙ sym (none_begins None)) ∙ sym (own_is o m p None s d is))
        where
          none_begins : (next : Option Command) → beginning next d ≡ None
          none_begins next = ap (λ doing. elim doing [ Some z ↦ None | None ↦ elim next [ None ↦ None | Some c ↦ Some (resolved c d.calls) ] ]) some

-- ---- one peer's commands

module _ (o : Opening) (lists : List (List Command)) (m : Shortage) (keeps : CommandsKeepRest o) (p : ℕ) where
  -- a round has gone on to the next peer
  pub record Ran (s : State) (gained : Bool) (g : Going) : Type 0 where
    pub state : State
    pub reached : Reached o state
    pub rests : AtRest o state g.bus
    pub goes : Goes o lists m (at s (Round p gained)) (at state (Round (p + 1) g.gained))

  module _ (s : State) (bus : Bus) (gained : Bool) (y : Part) (reached : Reached o s) (rest : AtRest o s bus) (is : slice_get bus p ≡ Some y) where
    d : Driver s p y
    d = driver_at rest p y is

    next_is : next_command lists p d.part ≡ first (commands_left lists y)
    next_is = next_of (commands_of lists p) (length d.part.calls) ∙ ap (λ k. first (drop (length k) (commands_of lists p))) (sym d.calls) ∙ ap (λ q. first (drop (length y.calls) (commands_of lists q))) (sym d.me)

    -- no command is left
    none_left : commands_left lists y ≡ [] → Ran s gained (record { bus = bus; gained = gained })
    none_left none = record {
      state = s;
      reached = reached;
      rests = rest;
      goes = goes_once o lists m (at s (Round p gained)) (at s (Round (p + 1) gained)) (passes o lists m p gained s d.part d.is_driver d.idle (next_is ∙ ap first none));
    }

    module _ (c : Command) (left : List Command) (some : commands_left lists y ≡ c ∷ left) where
      -- where a whole command leads
      whole : (t : State) → RunsWhole o m p c s t → Goes o lists m (at s (Round p gained)) (at t (round_after p gained (final p (length d.part.calls) t)))
      whole t runs =
          whole_goes o lists m p (Round p gained) (round_after p gained) refl (λ _. ⊤)
          (λ u e is_e opens any. goes_further o lists m p gained u e is_e opens)
          (λ u e is_e opens any f is_f. tt)
          s d.part c t d.is_driver (begins o lists m p gained s d.part c d.is_driver d.idle (next_is ∙ ap first some)) (λ e is_e. tt) runs

      -- an attempt that waits ends the peer's round
      waiting : is_waiting c y ≡ true → Ran s gained (attempted y (record { bus = bus; gained = gained }))
      waiting w =
          let k = keeps.waits m s bus p y reached rest is (waiting_waits c y w) in
          let runs = subst (λ z. RunsWhole o m p z s k.state) (sym (await_is c y w)) k.runs in
          let here : slice_get (at_peer y.me cleared bus) p ≡ Some (cleared y) = ap (λ q. slice_get (at_peer q cleared bus) p) d.me ∙ at_same p cleared bus y is in
          let e = driver_at k.rests p (cleared y) here in
          let no_call : final p (length d.part.calls) k.state ≡ Waits (removed_by e.part) =
          ap (λ found. elim found [ None ↦ Waits 0 | Some z ↦ if nat_lt (length d.part.calls) (length z.calls) then Called else Waits (removed_by z) ]) e.is_driver
          ∙ ap (λ b. if b then Called else Waits (removed_by e.part)) (ap (λ n. nat_lt n (length e.part.calls)) (ap length (sym d.calls ∙ e.calls)) ∙ not_less (length e.part.calls)) in
          let gains_so : gains gained (removed_by e.part) ≡ gained || not (is_empty y.box) = ap (λ b. gained || b) (k.removed e.part e.is_driver) in
          record {
            state = k.state;
            reached = whole_reached o m p c s k.state d.part d.is_driver runs reached;
            rests = k.rests;
            goes = subst (λ z. Goes o lists m (at s (Round p gained)) (at k.state z)) (ap (round_after p gained) no_call ∙ ap (Round (p + 1)) gains_so) (whole k.state runs);
          }
        where
          await_is : (c : Command) (y : Part) → is_waiting c y ≡ true → c ≡ cmd.Await
          await_is cmd.Await y w = refl
          await_is c y w = absurd (cc w)

          not_less : (n : ℕ) → nat_lt n n ≡ false
          not_less n = grind arith

      -- a command that ends leads to the next one
      ends : is_waiting c y ≡ false
          → ((t : State) (z : Part) → Reached o t → AtRest o t (after_command_of m p c bus) → slice_get (after_command_of m p c bus) p ≡ Some z → commands_left lists z ≡ left → Ran t true (run m p left (record { bus = after_command_of m p c bus; gained = true })))
          → Ran s gained (run m p left (record { bus = after_command_of m p c bus; gained = true }))
      ends w further =
          let k = keeps.ends m s bus p y c reached rest is w in
          let one_more_call : slice_get (shapes (after_command_of m p c bus)) p ≡ Some (more (shape y)) = ap (λ ss. slice_get ss p) (counts m p c y bus is d.me) ∙ more_at p (shapes bus) (shape y) (slice_get-map shape bus p ∙ ap (option_map shape) is) in
          let z = shape_at (after_command_of m p c bus) p (more (shape y)) one_more_call in
          let e = driver_at k.rests p z.0 z.1 in
          let calls_z : length z.0.calls ≡ suc (length y.calls) = ap (λ v. v.1) z.2 in
          let calls_e : length e.part.calls ≡ suc (length d.part.calls) = ap length (sym e.calls) ∙ calls_z ∙ ap (λ k. suc (length k)) d.calls in
          let called : final p (length d.part.calls) k.state ≡ Called =
          ap (λ found. elim found [ None ↦ Waits 0 | Some z ↦ if nat_lt (length d.part.calls) (length z.calls) then Called else Waits (removed_by z) ]) e.is_driver
          ∙ ap (λ b. if b then Called else Waits (removed_by e.part)) (ap (nat_lt (length d.part.calls)) calls_e ∙ less (length d.part.calls)) in
          let left_z : commands_left lists z.0 ≡ left =
          ap (λ v. drop v.1 (commands_of lists v.0)) z.2
          ∙ rest_of (commands_of lists y.me) (length y.calls) c left some in
          let last = further k.state z.0 (whole_reached o m p c s k.state d.part d.is_driver k.runs reached) k.rests z.1 left_z in
          record {
            state = last.state;
            reached = last.reached;
            rests = last.rests;
            goes = goes_on o lists m _ _ _ (subst (λ z. Goes o lists m (at s (Round p gained)) (at k.state z)) (ap (round_after p gained) called) (whole k.state k.runs)) last.goes;
          }
        where
          less : (n : ℕ) → nat_lt n (suc n) ≡ true
          less n = grind arith

  -- what a run goes on with
  abbrev run_on : Command → List Command → Going → Option Part → Going
  run_on c rest g found = elim found [ None ↦ g | Some x ↦ if is_waiting c x then attempted x g else run m p rest (record { bus = after_command_of m p c g.bus; gained = true }) ]

  runs : (left : List Command) (s : State) (bus : Bus) (gained : Bool) (y : Part) → Reached o s → AtRest o s bus → slice_get bus p ≡ Some y → commands_left lists y ≡ left → Ran s gained (run m p left (record { bus = bus; gained = gained }))
  runs [] s bus gained y reached rest is left = none_left s bus gained y reached rest is left
  runs (c ∷ more_left) s bus gained y reached rest is left = subst (Ran s gained) (sym run_is) (by (λ t z r a i l. runs more_left t (after_command_of m p c bus) true z r a i l) (is_waiting c y) refl)
    where
      g : Going
      g = record { bus = bus; gained = gained }

      further : Going
      further = run m p more_left (record { bus = after_command_of m p c bus; gained = true })

      run_is : run m p (c ∷ more_left) g ≡ (if is_waiting c y then attempted y g else further)
      run_is = ap (run_on c more_left g) is

      by : ((t : State) (z : Part) → Reached o t → AtRest o t (after_command_of m p c bus) → slice_get (after_command_of m p c bus) p ≡ Some z → commands_left lists z ≡ more_left → Ran t true further) → (b : Bool) → is_waiting c y ≡ b → Ran s gained (if is_waiting c y then attempted y g else further)
      by next true w = subst (λ b. Ran s gained (if b then attempted y g else further)) (sym w) (waiting s bus gained y reached rest is c more_left left w)
      by next false w = subst (λ b. Ran s gained (if b then attempted y g else further)) (sym w) (ends s bus gained y reached rest is c more_left left w next)

  -- a round at the peer, if it is there
  pub round_runs : (s : State) (bus : Bus) (gained : Bool) → p < length bus → Reached o s → AtRest o s bus → Ran s gained (round_at lists m (record { bus = bus; gained = gained }) p)
  round_runs s bus gained within reached rest = by (slice_get bus p) refl
    where
      g : Going
      g = record { bus = bus; gained = gained }

      by : (found : Option Part) → slice_get bus p ≡ found → Ran s gained (round_at lists m g p)
      by None none = absurd (is_there bus p within none)
      by (Some y) is = subst (Ran s gained) (sym (ap (λ r. elim r [ None ↦ g | Some x ↦ run m p (commands_left lists x) g ]) is)) (runs (commands_left lists y) s bus gained y reached rest is refl)
