-- Which peers' commands have ended, and that they stay ended while a peer receives.
use Rattle.std.proofs.Common.{◌≡◌, refl, sym, ap, ◌∙◌, inl, inr, subst, arith, ℕ, zero, suc, ◌+◌, ◌≤◌, ◌<◌, Bool, true, false, not, is_none, if◌then◌else◌, List, [], ◌∷◌, ◌++◌, filter, length, Some, None}
use Rattle.std.specs.Prelude.{slice_get}
use Rattle.std.specs.List.{range_with_len}
use Rattle.std.proofs.lemmas.Bool.{cases_eq}
use Rattle.b1_model.specs.declared.commands.Command.{Command}
use Rattle.b1_model.specs.Script.{commands_of}
use Rattle.b1_model.specs.MachineParts.{State}
use Rattle.b1_model.specs.MachineOrder.{next_command}
use Rattle.b1_model.specs.MachineStep.{idle_driver}
use Rattle.b1_step.specs.Rights.{Has}
use Rattle.b1_step.proofs.Lists.{has_filter}
use Rattle.b1_schedule.specs.Schedule.{is_left, waiting_peers}
use Rattle.b1_core.specs.Turns.{Bus, driver_at, has_ended}
use Rattle.b1_play.specs.Runs.{AllEnded, RanTo}
use Rattle.b1_play.proofs.Sums.{get_is, read_is}

-- ---- ranges

pub range_has : (a n q : ℕ) → a ≤ q → q < a + n → Has (range_with_len a n) q
range_has a zero q from to = absurd (omega (arith, from, to))
range_has a (suc n) q from to = elim (cases_eq q a) [
  | inl same ↦ inl same
  | inr apart ↦ inr (range_has (a + 1) n q (omega (arith, from, apart)) (omega (arith, to)))
]

pub range_more : (a n : ℕ) → range_with_len a (n + 1) ≡ range_with_len a n ++ (a + n) ∷ []
range_more a zero = ap (λ i. i ∷ []) at
  where
    at : a ≡ a + 0
    at = omega arith
range_more a (suc n) = ap (range_with_len a) up ∙ ap (λ rest. a ∷ rest) (range_more (a + 1) n ∙ ap (λ i. range_with_len (a + 1) n ++ i ∷ []) at)
  where
    up : suc n + 1 ≡ suc (n + 1)
    up = omega arith

    at : a + 1 + n ≡ a + suc n
    at = omega arith

pub filter_last : (test : ℕ → Bool) (xs : List ℕ) (y : ℕ) (b : Bool) → test y ≡ b → filter test (xs ++ y ∷ []) ≡ filter test xs ++ filter test (y ∷ [])
filter_last test [] y b is = refl
filter_last test (x ∷ rest) y b is = let ih = filter_last test rest y b is in grind (arith, ih)

-- ---- ends

-- a driver's part in a state
pub part_is : (s : State) (p : ℕ) → p < length s.drivers → slice_get s.drivers p ≡ Some (driver_at s p)
part_is s p within = get_is s.drivers p (idle_driver p) within

-- a peer is left exactly where its commands haven't ended
pub left_is : (b : Bus) (p : ℕ) → p < length b.state.drivers → is_left b.commands b.state p ≡ not (has_ended b p)
left_is b p within = ap (λ found. elim found [ None ↦ false | Some d ↦ not (is_none (next_command b.commands p d)) ]) (part_is b.state p within)

not_false : (b : Bool) → not b ≡ false → b ≡ true
not_false true is = refl
not_false false is = absurd (cc is)

pub all_ended : (b : Bus) → waiting_peers b.commands b.state ≡ [] → AllEnded b
all_ended b none p within = by_left (is_left b.commands b.state p) refl
  where
    by_left : (left : Bool) → is_left b.commands b.state p ≡ left → has_ended b p ≡ true
    by_left true is = absurd (subst (λ list. Has list p) none (has_filter (is_left b.commands b.state) (range_with_len 0 (length b.state.drivers)) p (range_has 0 (length b.state.drivers) p (omega arith) (omega (arith, within))) is))
    by_left false is = not_false (has_ended b p) (sym (left_is b p within) ∙ is)

past_end : (commands : List Command) (n m : ℕ) → is_none (slice_get commands n) ≡ true → n ≤ m → is_none (slice_get commands m) ≡ true
past_end [] n m none more = refl
past_end (c ∷ rest) zero m none more = absurd (cc none)
past_end (c ∷ rest) (suc n) zero none more = absurd (omega (arith, more))
past_end (c ∷ rest) (suc n) (suc m) none more = past_end rest n m none (omega (arith, more))

-- with as many calls or more, the commands stay ended
pub ended_longer : (b c : Bus) (p : ℕ) → c.commands ≡ b.commands → length (driver_at b.state p).calls ≤ length (driver_at c.state p).calls → has_ended b p ≡ true → has_ended c p ≡ true
ended_longer b c p same longer ended =
    subst (λ lists. is_none (next_command lists p (driver_at c.state p)) ≡ true) (sym same)
    (past_end (commands_of b.commands p) (length (driver_at b.state p).calls) (length (driver_at c.state p).calls) ended longer)

-- only one driver stepped, and its commands stay ended
pub still_ended : (b c : Bus) (p : ℕ) → RanTo b p c → length (driver_at b.state p).calls ≤ length (driver_at c.state p).calls → AllEnded b → AllEnded c
still_ended b c p ran longer ended r within = elim (cases_eq r p) [
  | inl same ↦ subst (λ q. has_ended c q ≡ true) (sym same) (ended_longer b c p ran.follows.commands longer (ended p (omega (arith, within, ap (λ n. n) same, ran.as_many))))
  | inr apart ↦
      let part : driver_at b.state r ≡ driver_at c.state r = read_is b.state.drivers r (driver_at c.state r) (idle_driver r) (sym (ran.others r apart) ∙ part_is c.state r within) in
      ended_longer b c r ran.follows.commands (omega (arith, ap (λ d. length d.calls) part)) (ended r (omega (arith, within, ran.as_many)))
]

-- the peers that are left, with one more peer looked at
pub left_more : (b : Bus) (p : ℕ) → p < length b.state.drivers → filter (is_left b.commands b.state) (range_with_len 0 (p + 1)) ≡ filter (is_left b.commands b.state) (range_with_len 0 p) ++ (if has_ended b p then [] else p ∷ [])
left_more b p within =
    ap (filter (is_left b.commands b.state)) (range_more 0 p)
    ∙ filter_last (is_left b.commands b.state) (range_with_len 0 p) (0 + p) (is_left b.commands b.state (0 + p)) refl
    ∙ ap (λ q. filter (is_left b.commands b.state) (range_with_len 0 p) ++ filter (is_left b.commands b.state) (q ∷ [])) at
    ∙ ap (λ left. filter (is_left b.commands b.state) (range_with_len 0 p) ++ (if left then p ∷ [] else [])) (left_is b p within)
    ∙ by_end (has_ended b p)
  where
    at : 0 + p ≡ p
    at = omega arith

    by_end : (ended : Bool) → filter (is_left b.commands b.state) (range_with_len 0 p) ++ (if not ended then p ∷ [] else []) ≡ filter (is_left b.commands b.state) (range_with_len 0 p) ++ (if ended then [] else p ∷ [])
    by_end true = refl
    by_end false = refl
