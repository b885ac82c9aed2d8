-- Reads and writes of one driver's part, and what is left of all after one changes.
use Rattle.std.proofs.Common.{◌≡◌, refl, sym, ap, ◌∙◌, arith, ℕ, zero, suc, ◌+◌, ◌-◌, ◌≤◌, ◌<◌, Bool, true, false, if◌then◌else◌, List, [], ◌∷◌, length, set, get_or, Option, Some, None, is_none, not}
use Rattle.std.specs.Prelude.{slice_get}
use Rattle.b1_model.specs.declared.commands.Command.{Command}
use Rattle.b1_model.specs.declared.commands.Command.TheVariants as cmd
use Rattle.b1_model.specs.declared.events.Doing.{Doing}
use Rattle.b1_model.specs.declared.events.Phase.{Phase}
use Rattle.b1_model.specs.declared.events.Phase.TheVariants.{Reaping}
use Rattle.b1_model.specs.MachineParts.{DriverPart}
use Rattle.b1_model.specs.MachineOrder.{next_command}
use Rattle.b1_model.specs.MachineTook.{is_waiting}
use Rattle.b1_model.specs.Script.{commands_of}
use Rattle.b1_schedule.specs.Schedule.{has_step, removed_by}
use Rattle.b1_progress.specs.Level.{some_removed, gain_in, gain_so_far, busy, left_at, left_from}

some_same : {A : Type 0} (x y : A) → Some x ≡ Some y → x ≡ y
some_same x y same = cc same

module _ {X : Type 0} where
  pub read_is : (xs : List X) (i : ℕ) (x d : X) → slice_get xs i ≡ Some x → get_or xs i d ≡ x
  read_is [] i x d is = absurd (cc is)
  read_is (y ∷ rest) zero x d is = some_same y x is
  read_is (y ∷ rest) (suc i) x d is = read_is rest i x d is

  pub get_is : (xs : List X) (i : ℕ) (d : X) → i < length xs → slice_get xs i ≡ Some (get_or xs i d)
  get_is [] i d within = absurd (omega (arith, within))
  get_is (y ∷ rest) zero d within = refl
  get_is (y ∷ rest) (suc i) d within = get_is rest i d (omega (arith, within))

  pub get_within : (xs : List X) (i : ℕ) (x : X) → slice_get xs i ≡ Some x → i < length xs
  get_within [] i x is = absurd (cc is)
  get_within (y ∷ rest) zero x is = omega arith
  get_within (y ∷ rest) (suc i) x is = omega (arith, get_within rest i x is)

  pub set_read : (xs : List X) (i : ℕ) (d : X) → set xs i (get_or xs i d) ≡ xs
  set_read [] i d = refl
  set_read (y ∷ rest) zero d = refl
  set_read (y ∷ rest) (suc i) d = ap (λ l. y ∷ l) (set_read rest i d)

  pub set_set : (xs : List X) (i : ℕ) (x y : X) → set (set xs i x) i y ≡ set xs i y
  set_set [] i x y = refl
  set_set (z ∷ rest) zero x y = refl
  set_set (z ∷ rest) (suc i) x y = ap (λ l. z ∷ l) (set_set rest i x y)

-- ---- what is left of all drivers' commands

module _ (lists : List (List Command)) where
  pub left_set : (here : ℕ) (ds : List DriverPart) (p : ℕ) (d e : DriverPart) → slice_get ds p ≡ Some d → left_from lists here (set ds p e) + left_at lists (here + p) d ≡ left_from lists here ds + left_at lists (here + p) e
  left_set here [] p d e is = absurd (cc is)
  left_set here (f ∷ rest) zero d e is =
      let same : f ≡ d = some_same f d is in
      let at : here + 0 ≡ here = omega arith in
      rw at (omega (arith, ap (left_at lists here) same))
  left_set here (f ∷ rest) (suc p) d e is =
      let ih = left_set (here + 1) rest p d e is in
      let at : here + suc p ≡ here + 1 + p = omega arith in
      rw at (omega (arith, ih))

  -- a driver that has a step to do has something left
  pub some_left : (p : ℕ) (d : DriverPart) → has_step lists p d ≡ true → 1 ≤ left_at lists p d
  some_left p d has = by_doing d.doing refl
    where
      by_next : (next : Option Command) → next_command lists p d ≡ next → not (is_none next) ≡ true → 1 ≤ length (commands_of lists p) - length d.calls
      by_next None is has = absurd (cc has)
      by_next (Some c) is has = omega (arith, get_within (commands_of lists p) (length d.calls) c is)

      by_doing : (doing : Option Doing) → d.doing ≡ doing → 1 ≤ left_at lists p d
      by_doing (Some one) is = let k : busy d ≡ 1 = ap (λ found. elim found [ None ↦ 0 | Some other ↦ 1 ]) is in omega (arith, k)
      by_doing None is =
          let left : not (is_none (next_command lists p d)) ≡ true = sym (ap (λ found. elim found [ Some other ↦ true | None ↦ not (is_none (next_command lists p d)) ]) is) ∙ has in
          omega (arith, by_next (next_command lists p d) refl left)

  -- a command that ended with a call leaves one fewer, one that waits leaves no more
  pub called_fewer : (p : ℕ) (d e : DriverPart) → 1 ≤ left_at lists p d → e.doing ≡ None → length e.calls ≡ length d.calls + 1 → left_at lists p e + 1 ≤ left_at lists p d
  called_fewer p d e some closed more =
      let k : busy e ≡ 0 = ap (λ found. elim found [ None ↦ 0 | Some other ↦ 1 ]) closed in
      omega (arith, some, k, more, busy_few d.doing)
    where
      busy_few : (doing : Option Doing) → elim doing [ None ↦ 0 | Some other ↦ 1 ] ≤ 1
      busy_few None = omega arith
      busy_few (Some one) = omega arith

  pub waits_no_more : (p : ℕ) (d e : DriverPart) → e.doing ≡ None → e.calls ≡ d.calls → left_at lists p e ≤ left_at lists p d
  waits_no_more p d e closed same =
      let k : busy e ≡ 0 = ap (λ found. elim found [ None ↦ 0 | Some other ↦ 1 ]) closed in
      omega (arith, k, ap length same)

-- ---- what an open attempt gained is at most what it counts

one_at_most : (n : ℕ) → some_removed n ≤ 1
one_at_most zero = omega arith
one_at_most (suc n) = grind arith

shown_few : (d : DriverPart) (waits : Bool) → (if waits then some_removed (removed_by d) else 1) ≤ 1
shown_few d true = one_at_most (removed_by d)
shown_few d false = omega arith

phase_few : (d : DriverPart) (phase : Phase) → gain_in d phase ≤ 1
phase_few d (Reaping got) = shown_few d (is_waiting cmd.Await got)
phase_few d phase = omega arith

pub gain_few : (d : DriverPart) → gain_so_far d ≤ busy d
gain_few d = by_doing d.doing
  where
    by_doing : (doing : Option Doing) → elim doing [ None ↦ 0 | Some one ↦ gain_in d one.phase ] ≤ elim doing [ None ↦ 0 | Some one ↦ 1 ]
    by_doing None = omega arith
    by_doing (Some one) = phase_few d one.phase
