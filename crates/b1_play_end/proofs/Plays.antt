-- What a schedule comes to: kept by all moves, and what it says at the end and at a stall.
use Rattle.std.proofs.Common.{◌≡◌, ◌≢◌, refl, sym, ap, ◌∙◌, arith, inl, inr, subst, ℕ, zero, suc, ◌+◌, ◌<◌, ◌≤◌, Bool, true, false, cond, ◌&&◌, if◌then◌else◌, not, List, [], ◌∷◌, length, slice_get, filter, is_none, Option, Some, None}
use Rattle.std.specs.List.{range_with_len, list_all}
use Rattle.std.proofs.lemmas.Bool.{cases_eq}
use Rattle.b1_model.specs.declared.naming.Opening.{Opening}
use Rattle.b1_model.specs.declared.commands.Command.{Command}
use Rattle.b1_model.specs.Opening.{IsOpening}
use Rattle.b1_model.specs.MachineParts.{DriverPart, State}
use Rattle.b1_model.specs.MachineOrder.{next_command, is_idle}
use Rattle.b1_inv.specs.Words.{IsDriver}
use Rattle.b1_law.proofs.Reached.{opening_sound}
use Rattle.b1_schedule.specs.Shortage.{Shortage}
use Rattle.b1_schedule.specs.Schedule.{Playing, Stage, Turning, Round, Draining, Finished, Stalled, is_left, waiting_peers, round_end, round_at, drain_at, turned_by, moved, moves, start_of, Comes}
use Rattle.b1_play_end.specs.Course.{IsIdle, IsTrying, TryingBy, AllEnded, HoldsAt}
use Rattle.b1_play_end.proofs.Holds.{driver_there, opening_told}
use Rattle.b1_play_end.proofs.Owners.{opening_owners}
use Rattle.b1_play_end.proofs.Moves.{Kept, turn_result, round_kept, drain_kept}

-- ---- lists of peers

in_range : (test : ℕ → Bool) (from n q : ℕ) → filter test (range_with_len from n) ≡ [] → from ≤ q → q < from + n → test q ≡ false
in_range test from zero q none low high = absurd (omega (arith, low, high))
in_range test from (suc n) q none low high = by_test (test from) refl none (λ later more. in_range test (from + 1) n q later more (omega (arith, high)))
  where
    by_test : (b : Bool) → b ≡ test from → cond b (from ∷ filter test (range_with_len (from + 1) n)) (filter test (range_with_len (from + 1) n)) ≡ [] → (filter test (range_with_len (from + 1) n) ≡ [] → from + 1 ≤ q → test q ≡ false) → test q ≡ false
    by_test true same none later = absurd (cc none)
    by_test false same none later = elim (cases_eq from q) [ inl here ↦ ap test (sym here) ∙ sym same | inr apart ↦ later none (omega (arith, low, apart)) ]

head_passes : (test : ℕ → Bool) (xs : List ℕ) (y : ℕ) (rest : List ℕ) → filter test xs ≡ y ∷ rest → test y ≡ true
head_passes test [] y rest is = absurd (cc is)
head_passes test (x ∷ xs) y rest is = by_test (test x) refl is (λ later. head_passes test xs y rest later)
  where
    by_test : (b : Bool) → b ≡ test x → cond b (x ∷ filter test xs) (filter test xs) ≡ y ∷ rest → (filter test xs ≡ y ∷ rest → test y ≡ true) → test y ≡ true
    by_test true same is later = ap test (sym (first_is is)) ∙ sym same
      where
        first_is : {a b : ℕ} {xs ys : List ℕ} → a ∷ xs ≡ b ∷ ys → a ≡ b
        first_is is = cc is
    by_test false same is later = later is

not_there : (xs : List DriverPart) (i : ℕ) → slice_get xs i ≡ None → length xs ≤ i
not_there [] i none = omega arith
not_there (x ∷ rest) zero none = absurd (cc none)
not_there (x ∷ rest) (suc i) none = omega (arith, not_there rest i none)

pub all_rest : (ds : List DriverPart) → ((r : ℕ) (d : DriverPart) → slice_get ds r ≡ Some d → d.doing ≡ None) → list_all is_idle ds ≡ true
all_rest [] idle = refl
all_rest (d ∷ rest) idle = ap (λ doing. is_none doing && list_all is_idle rest) (idle 0 d refl) ∙ all_rest rest (λ r e is. idle (suc r) e is)

-- ---- one move

module _ (lists : List (List Command)) (o : Opening) (m : Shortage) where
  left_is : (s : State) (r : ℕ) (d : DriverPart) → IsDriver s r d → is_left lists s r ≡ not (is_none (next_command lists r d))
  left_is s r d is = ap (λ found. elim found [ None ↦ false | Some one ↦ not (is_none (next_command lists r one)) ]) is

  none_next : (n : Option Command) → not (is_none n) ≡ false → n ≡ None
  none_next None is = refl
  none_next (Some c) is = absurd (cc is)

  some_next : (n : Option Command) → not (is_none n) ≡ true → n ≢ None
  some_next None is none = cc is
  some_next (Some c) is none = cc none

  all_ended : (s : State) → waiting_peers lists s ≡ [] → AllEnded lists s
  all_ended s none r d is_d = none_next (next_command lists r d) (sym (left_is s r d is_d) ∙ in_range (is_left lists s) 0 (length s.drivers) r none (omega arith) (omega (arith, driver_there s.drivers r d is_d)))

  one_left : (s : State) (peer : ℕ) (rest : List ℕ) → waiting_peers lists s ≡ peer ∷ rest → (p : ℕ) × (d : DriverPart) × IsDriver s p d × (next_command lists p d ≢ None)
  one_left s peer rest is = by_driver (slice_get s.drivers peer) refl (head_passes (is_left lists s) (range_with_len 0 (length s.drivers)) peer rest is)
    where
      by_driver : (found : Option DriverPart) → found ≡ slice_get s.drivers peer → is_left lists s peer ≡ true → (p : ℕ) × (d : DriverPart) × IsDriver s p d × (next_command lists p d ≢ None)
      by_driver None same left = absurd (cc (sym left ∙ ap (λ one. elim one [ None ↦ false | Some d ↦ not (is_none (next_command lists peer d)) ]) (sym same)))
      by_driver (Some d) same left = (peer, d, sym same, some_next (next_command lists peer d) (sym (left_is s peer d (sym same)) ∙ left))

  driver_idle : (s : State) (n : ℕ) → length s.drivers ≤ n → ((r : ℕ) → r < n → IsIdle s r) → (r : ℕ) → IsIdle s r
  driver_idle s n past idle r d is_d = idle r (omega (arith, past, driver_there s.drivers r d is_d)) d is_d

  no_driver : (s : State) (n : ℕ) → length s.drivers ≤ n → IsIdle s n
  no_driver s n past d is_d = absurd (omega (arith, past, driver_there s.drivers n d is_d))

  trying_none : (s : State) (p : ℕ) → IsIdle s p → (d : DriverPart) → IsDriver s p d → IsTrying d
  trying_none s p idle d is_d = subst (TryingBy d.shut) (sym (idle d is_d)) tt

  -- the end of a round
  round_ended : (s : State) (p : ℕ) (gained : Bool) → length s.drivers ≤ p → HoldsAt lists s (Round p gained) → HoldsAt lists s (round_end lists s gained)
  round_ended s p gained past holds = by_waiting (waiting_peers lists s) refl
    where
      idle : (r : ℕ) → IsIdle s r
      idle = driver_idle s p past holds.0

      by_gain : (b : Bool) → b ≡ gained → (peer : ℕ) (rest : List ℕ) → waiting_peers lists s ≡ peer ∷ rest → HoldsAt lists s (if b then Round 0 false else Stalled)
      by_gain true same peer rest is = ((λ r below. absurd (omega (arith, below))), λ none at r d x below is_d is_x. absurd (omega (arith, below)))
      by_gain false same peer rest is = ((λ r. idle r), (λ r d x is_d is_x. holds.1 (sym same) (no_driver s p past) r d x (omega (arith, past, driver_there s.drivers r d is_d)) is_d is_x), one_left s peer rest is)

      by_waiting : (waiting : List ℕ) → waiting ≡ waiting_peers lists s → HoldsAt lists s (elim waiting [ [] ↦ Draining 0 false | peer ∷ rest ↦ if gained then Round 0 false else Stalled ])
      by_waiting [] same = (all_ended s (sym same), (λ r apart. idle r), trying_none s 0 (idle 0), λ none at r d x below is_d is_x. absurd (omega (arith, below)))
      by_waiting (peer ∷ rest) same = by_gain gained refl peer rest (sym same)

  -- the end of a pass
  drain_ended : (s : State) (p : ℕ) (gained : Bool) → length s.drivers ≤ p → HoldsAt lists s (Draining p gained) → HoldsAt lists s (if gained then Draining 0 false else Finished)
  drain_ended s p gained past holds = by_gain gained refl
    where
      idle : (r : ℕ) → IsIdle s r
      idle = driver_idle s p past (λ r below. holds.1 r (λ same. omega (arith, below, same)))

      by_gain : (b : Bool) → b ≡ gained → HoldsAt lists s (if b then Draining 0 false else Finished)
      by_gain true same = (holds.0, (λ r apart. idle r), trying_none s 0 (idle 0), λ none at r d x below is_d is_x. absurd (omega (arith, below)))
      by_gain false same = (holds.0, (λ r. idle r), λ r d x is_d is_x. holds.3 (sym same) (no_driver s p past) r d x (omega (arith, past, driver_there s.drivers r d is_d)) is_d is_x)

  move_kept : (s : State) (stage : Stage) → Kept lists o (record { state = s; stage = stage }) → Kept lists o (moved o lists m (record { state = s; stage = stage }))
  move_kept s (Turning []) kept = record { sound = kept.sound; known = kept.known; owners = kept.owners; holds = ((λ r below. absurd (omega (arith, below))), λ none at r d x below is_d is_x. absurd (omega (arith, below))) }
  move_kept s (Turning (p ∷ rest)) kept = by_driver (slice_get s.drivers p) refl
    where
      by_driver : (found : Option DriverPart) → found ≡ slice_get s.drivers p → Kept lists o (record { state = turned_by o lists m p s found; stage = Turning rest })
      by_driver None same = record { sound = kept.sound; known = kept.known; owners = kept.owners; holds = tt }
      by_driver (Some d) same = turn_result lists o m s kept.sound kept.known kept.owners p d (sym same) (next_command lists p d) _ refl rest
  move_kept s (Round p gained) kept = by_driver (slice_get s.drivers p) refl
    where
      by_driver : (found : Option DriverPart) → found ≡ slice_get s.drivers p → Kept lists o (round_at o lists m p gained s found)
      by_driver None same = record { sound = kept.sound; known = kept.known; owners = kept.owners; holds = round_ended s p gained (not_there s.drivers p (sym same)) kept.holds }
      by_driver (Some d) same = round_kept lists o m s kept.sound kept.known kept.owners p d (sym same) gained kept.holds
  move_kept s (Draining p gained) kept = by_driver (slice_get s.drivers p) refl
    where
      by_driver : (found : Option DriverPart) → found ≡ slice_get s.drivers p → Kept lists o (drain_at o m p gained s found)
      by_driver None same = record { sound = kept.sound; known = kept.known; owners = kept.owners; holds = drain_ended s p gained (not_there s.drivers p (sym same)) kept.holds }
      by_driver (Some d) same = drain_kept lists o m s kept.sound kept.known kept.owners p d (sym same) gained kept.holds
  move_kept s Finished kept = kept
  move_kept s Stalled kept = kept

  moves_kept : (n : ℕ) (at : Playing) → Kept lists o at → Kept lists o (moves o lists m n at)
  moves_kept zero at kept = kept
  moves_kept (suc n) at kept = moves_kept n (moved o lists m at) (move_kept at.state at.stage kept)

  pub comes_kept : IsOpening o → (turns : List ℕ) (at : Playing) → Comes o lists turns m at → Kept lists o at
  comes_kept valid turns at comes = subst (Kept lists o) comes.is_at (moves_kept comes.count (start_of o turns) (record { sound = opening_sound o valid; known = opening_told o; owners = opening_owners o; holds = tt }))
