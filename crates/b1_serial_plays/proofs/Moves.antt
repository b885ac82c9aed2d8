-- The moves of a schedule at one driver: a whole command, from its first step to its last.
use Rattle.std.proofs.Common.{◌≡◌, refl, sym, ap, ◌∙◌, subst, ℕ, zero, suc, ◌+◌, ◌<◌, Bool, true, false, List, length, Option, Some, None, is_some}
use Rattle.std.specs.Prelude.{slice_get, nat_lt, if◌then◌else◌}
use native.Mathlib.Omega.{arith}
use Rattle.b1_model.specs.declared.naming.Opening.{Opening}
use Rattle.b1_model.specs.declared.commands.Command.{Command}
use Rattle.b1_model.specs.declared.commands.Command.TheVariants as cmd
use Rattle.b1_model.specs.declared.events.Doing.{Doing}
use Rattle.b1_model.specs.MachineParts.{DriverPart, State}
use Rattle.b1_model.specs.MachineStep.{Reached}
use Rattle.b1_schedule.specs.Shortage.{Shortage}
use Rattle.b1_schedule.specs.Schedule.{Ending, Open, Called, Waits, removed_by, ending, Stage, Playing, driver_after, moved, moves}
use Rattle.b1_serial_rest.specs.Whole.{own_step, own_steps, is_open_at, RunsWhole}
use Rattle.b1_serial_plays.proofs.Steps.{own_leads}

-- a state at a stage
abbrev pub at : State → Stage → Playing
at s stage = record { state = s; stage = stage }

-- how a whole command ended whose driver had so many calls before
abbrev pub final : ℕ → ℕ → State → Ending
final p len t = elim (slice_get t.drivers p) [ None ↦ Waits 0 | Some e ↦ if nat_lt len (length e.calls) then Called else Waits (removed_by e) ]

-- ---- some moves of a schedule lead from one to another

pub record Goes (o : Opening) (lists : List (List Command)) (m : Shortage) (a b : Playing) : Type 0 where
  pub count : ℕ
  pub is_at : moves o lists m count a ≡ b

module _ (o : Opening) (lists : List (List Command)) (m : Shortage) where
  pub moves_on : (a b : ℕ) (at : Playing) → moves o lists m (a + b) at ≡ moves o lists m b (moves o lists m a at)
  moves_on zero b at = let none : zero + b ≡ b = omega arith in ap (λ n. moves o lists m n at) none
  moves_on (suc a) b at = let more : suc a + b ≡ suc (a + b) = omega arith in ap (λ n. moves o lists m n at) more ∙ moves_on a b (moved o lists m at)

  pub goes_on : (a b c : Playing) → Goes o lists m a b → Goes o lists m b c → Goes o lists m a c
  goes_on a b c first second = record {
    count = first.count + second.count;
    is_at = moves_on first.count second.count a ∙ ap (λ x. moves o lists m second.count x) first.is_at ∙ second.is_at;
  }

  pub goes_once : (a b : Playing) → moved o lists m a ≡ b → Goes o lists m a b
  goes_once a b is = record { count = 1; is_at = is }

  pub goes_nowhere : (a b : Playing) → a ≡ b → Goes o lists m a b
  goes_nowhere a b is = record { count = 0; is_at = is }

-- ---- a whole command

module _ (o : Opening) (lists : List (List Command)) (m : Shortage) (p : ℕ) (stage : Stage) (after : Ending → Stage) (stays : after Open ≡ stage) where
  -- the state after the driver's own step
  abbrev next : Option Command → State → State
  next command s = own_step o m p command s

  -- the schedule's move at a driver with an open command is its own step
  abbrev MovesOpen : (DriverPart → Type 0) → Type 0
  MovesOpen Stays = (s : State) (d : DriverPart) → slice_get s.drivers p ≡ Some d → is_some d.doing ≡ true → Stays d → moved o lists m (at s stage) ≡ at (next None s) (after (ending d (driver_after (next None s) p d)))

  -- what stays of a driver while its command is open
  abbrev StaysOpen : (DriverPart → Type 0) → Type 0
  StaysOpen Stays = (s : State) (d : DriverPart) → slice_get s.drivers p ≡ Some d → is_some d.doing ≡ true → Stays d → (e : DriverPart) → slice_get (next None s).drivers p ≡ Some e → Stays e

  -- the end of a step that closed the command
  closed_end : (d : DriverPart) (t : State) (e : DriverPart) → slice_get t.drivers p ≡ Some e → is_open_at p t ≡ false → after (ending d (driver_after t p d)) ≡ after (final p (length d.calls) t)
  closed_end d t e is over = ap after (ap (λ z. ending d z) driver ∙ by e.doing refl (open_is ∙ over) ∙ sym whole)
    where
      driver : driver_after t p d ≡ e
      driver = rw (is, driver_after) refl

      open_is : is_some e.doing ≡ is_open_at p t
      open_is = rw (is, is_open_at) refl

      whole : final p (length d.calls) t ≡ (if nat_lt (length d.calls) (length e.calls) then Called else Waits (removed_by e))
      whole = rw (is, final) refl

      by : (doing : Option Doing) → e.doing ≡ doing → is_some e.doing ≡ false → ending d e ≡ (if nat_lt (length d.calls) (length e.calls) then Called else Waits (removed_by e))
      by None none closed = rw none refl
      by (Some doing) some closed = absurd (cc (some, closed))

  -- the end of a step that left it open
  open_end : (d : DriverPart) (t : State) (e : DriverPart) → slice_get t.drivers p ≡ Some e → is_some e.doing ≡ true → after (ending d (driver_after t p d)) ≡ stage
  open_end d t e is opens = ap after (ap (λ z. ending d z) driver ∙ by e.doing refl) ∙ stays
    where
      driver : driver_after t p d ≡ e
      driver = rw (is, driver_after) refl

      by : (doing : Option Doing) → e.doing ≡ doing → ending d e ≡ Open
      by None none = absurd (cc (none, opens))
      by (Some doing) some = rw some refl

  module _ (Stays : DriverPart → Type 0) (open_moves : MovesOpen Stays) (open_stays : StaysOpen Stays) where
    abbrev OpenBefore : ℕ → State → Type 0
    OpenBefore n s = (i : ℕ) → i < n → is_open_at p (own_steps o m p i s) ≡ true

    abbrev Arrives : ℕ → State → DriverPart → State → Type 0
    Arrives n s d t = moves o lists m n (at s stage) ≡ at t (after (final p (length d.calls) t))

    -- from a state behind the driver's own step: there its command has ended, or its steps go on
    module _ (d e : DriverPart) (u t : State) (is : slice_get u.drivers p ≡ Some e) (calls : is_some e.doing ≡ true → e.calls ≡ d.calls) (over : is_open_at p t ≡ false) where
      abbrev Onward : ℕ → Type 0
      Onward n = moves o lists m n (at u (after (ending d (driver_after u p d)))) ≡ at t (after (final p (length d.calls) t))

      ends_here : (n : ℕ) → own_steps o m p n u ≡ t → OpenBefore n u → is_open_at p u ≡ false → Onward n
      ends_here zero same open_before closed = subst (λ v. at u (after (ending d (driver_after u p d))) ≡ at v (after (final p (length d.calls) v))) same (ap (at u) (closed_end d u e is closed))
      ends_here (suc n) same open_before closed = absurd (cc (open_before 0 (omega arith), closed))

      behind : (n : ℕ) → (is_some e.doing ≡ true → Arrives n u e t) → own_steps o m p n u ≡ t → OpenBefore n u → Onward n
      behind n further same open_before = by (is_some e.doing) refl
        where
          open_is : is_some e.doing ≡ is_open_at p u
          open_is = rw (is, is_open_at) refl

          by : (b : Bool) → is_some e.doing ≡ b → Onward n
          by true opens = ap (λ z. moves o lists m n (at u z)) (open_end d u e is opens) ∙ further opens ∙ ap (λ k. at t (after (final p k t))) (ap length (calls opens))
          by false closed = ends_here n same open_before (sym open_is ∙ closed)

    whole_open : (n : ℕ) (s : State) (d : DriverPart) (t : State) → slice_get s.drivers p ≡ Some d → is_some d.doing ≡ true → Stays d → own_steps o m p n s ≡ t → OpenBefore n s → is_open_at p t ≡ false → Arrives n s d t
    whole_open zero s d t is opens keeps same open_before over =
        let open_is : is_some d.doing ≡ is_open_at p s = rw (is, is_open_at) refl in
        absurd (cc (sym opens ∙ open_is ∙ ap (is_open_at p) same ∙ over))
    whole_open (suc n) s d t is opens keeps same open_before over =
        let l = own_leads o m p None s d is in
        ap (λ x. moves o lists m n x) (open_moves s d is opens keeps)
        ∙ behind d l.driver (next None s) t l.is_driver l.calls over n
        (λ still. whole_open n (next None s) l.driver t l.is_driver still (open_stays s d is opens keeps l.driver l.is_driver) same (λ i less. open_before (suc i) (omega (arith, less))) over)
        same (λ i less. open_before (suc i) (omega (arith, less)))

    -- a whole command of the driver, from its first step on
    pub whole_goes : (s : State) (d : DriverPart) (command : Command) (t : State) → slice_get s.drivers p ≡ Some d
        → moved o lists m (at s stage) ≡ at (next (Some command) s) (after (ending d (driver_after (next (Some command) s) p d)))
        → ((e : DriverPart) → slice_get (next (Some command) s).drivers p ≡ Some e → Stays e)
        → RunsWhole o m p command s t → Goes o lists m (at s stage) (at t (after (final p (length d.calls) t)))
    whole_goes s d command t is first keeps runs =
        let l = own_leads o m p (Some command) s d is in
        record {
          count = suc runs.count;
          is_at =
              ap (λ x. moves o lists m runs.count x) first
              ∙ behind d l.driver (next (Some command) s) t l.is_driver l.calls runs.over runs.count
              (λ still. whole_open runs.count (next (Some command) s) l.driver t l.is_driver still (keeps l.driver l.is_driver) runs.leads runs.open_before runs.over)
              runs.leads runs.open_before;
        }

-- ---- reached states

module _ (o : Opening) (m : Shortage) (p : ℕ) where
  own_reached : (command : Option Command) (s : State) (d : DriverPart) → slice_get s.drivers p ≡ Some d → Reached o s → Reached o (own_step o m p command s)
  own_reached command s d is reached = (own_leads o m p command s d is).reached reached

  steps_reached : (n : ℕ) (s : State) (d : DriverPart) → slice_get s.drivers p ≡ Some d → Reached o s → Reached o (own_steps o m p n s)
  steps_reached zero s d is reached = reached
  steps_reached (suc n) s d is reached = let l = own_leads o m p None s d is in steps_reached n (own_step o m p None s) l.driver l.is_driver (l.reached reached)

  -- a whole command leads from reached states to reached states
  pub whole_reached : (command : Command) (s t : State) (d : DriverPart) → slice_get s.drivers p ≡ Some d → RunsWhole o m p command s t → Reached o s → Reached o t
  whole_reached command s t d is runs reached =
      let l = own_leads o m p (Some command) s d is in
      subst (Reached o) runs.leads (steps_reached runs.count (own_step o m p (Some command) s) l.driver l.is_driver (l.reached reached))
