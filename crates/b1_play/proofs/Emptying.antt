-- A pass of the drain goes on from peer to peer.
use Rattle.std.proofs.Common.{◌≡◌, refl, sym, ap, ◌∙◌, inl, inr, subst, arith, ℕ, ◌+◌, ◌≤◌, ◌<◌, Bool, true, false, ◌||◌, nat_lt, if◌then◌else◌, length, None}
use Rattle.std.specs.Prelude.{slice_get}
use Rattle.std.proofs.lemmas.Bool.{cases_eq}
use Rattle.b1_schedule.specs.Schedule.{gains, Called, Waits}
use Rattle.b1_schedule.proofs.Moves.{drain_passed, drain_again, drain_over}
use Rattle.b1_progress.specs.Level.{some_removed, level}
use Rattle.b1_core.specs.Turns.{Bus, driver_at}
use Rattle.b1_play.specs.Runs.{IsGood, Follows, IsClosed, AllEnded, RanTo, RanDrain}
use Rattle.b1_play.specs.Rounds.{bit}
use Rattle.b1_play.specs.Draining.{AllClosed, Empties, TriesNext, Receives, Drains, Drained}
use Rattle.b1_play.proofs.Running.{SoundLaw}
use Rattle.b1_play.proofs.Ended.{part_is, still_ended}
use Rattle.b1_play.proofs.Passing.{follows_refl, follows_trans, closed_stays, none_past, drivers_count}

-- only one driver stepped, and its command is closed
closed_all : (b c : Bus) (p : ℕ) → RanTo b p c → AllClosed b → AllClosed c
closed_all b c p ran closed r = elim (cases_eq r p) [
  | inl same ↦ subst (λ q. IsClosed c q) (sym same) ran.closed
  | inr apart ↦ closed_stays b c r (ran.others r apart) (closed r)
]

bit_gains : (g : Bool) (removed : ℕ) → bit (gains g removed) ≤ some_removed removed + bit g
bit_gains true removed = omega arith
bit_gains false removed = by_some (nat_lt 0 removed)
  where
    by_some : (some : Bool) → (if false || some then 1 else 0) ≤ (if some then 1 else 0) + 0
    by_some true = omega arith
    by_some false = omega arith

bit_few : (g : Bool) → bit g ≤ 1
bit_few true = omega arith
bit_few false = omega arith

module _ (b c : Bus) (p : ℕ) (before : Bool) (ended : AllEnded b) (closed : AllClosed b) where
  -- an entry was taken
  pub taken_next : RanDrain b p Called c → TriesNext b p before true c true
  taken_next one = (
    record {
      follows = one.ran.follows;
      played = one.played before;
      ended = still_ended b c p one.ran one.longer ended;
      closed = closed_all b c p one.ran closed;
      lower = omega (arith, one.lower);
    },
    omega (arith, one.lower),
    one.shut,
  )

  -- the attempt waits
  pub empty_next : (removed : ℕ) → RanDrain b p (Waits removed) c → TriesNext b p before false c (gains before removed)
  empty_next removed one = record {
    follows = one.ran.follows;
    played = one.played before;
    ended = still_ended b c p one.ran one.longer ended;
    closed = closed_all b c p one.ran closed;
    lower = omega (arith, one.lower, bit_gains before removed);
  }

pub empties_refl : (b : Bus) (p : ℕ) (g : Bool) → IsGood b → AllEnded b → AllClosed b → Empties b p g b p g
empties_refl b p g good ended closed = record { follows = follows_refl b good; played = λ turns h. h; ended = ended; closed = closed; lower = omega arith }

pub empties_trans : (b c d : Bus) (p q r : ℕ) (x y z : Bool) → Empties b p x c q y → Empties c q y d r z → Empties b p x d r z
empties_trans b c d p q r x y z first second = record {
  follows = follows_trans b c d first.follows second.follows;
  played = λ turns h. second.played turns (first.played turns h);
  ended = second.ended;
  closed = second.closed;
  lower = omega (arith, first.lower, second.lower);
}

pub receives_refl : (b : Bus) (p : ℕ) (g : Bool) → IsGood b → AllEnded b → AllClosed b → Receives b p g b g
receives_refl b p g good ended closed = record { empties = empties_refl b p g good ended closed; shut = refl }

pub receives_more : (b c d : Bus) (p : ℕ) (x y z : Bool) → Receives b p x c y → TriesNext c p y true d z → Receives b p x d z
receives_more b c d p x y z before next = record { empties = empties_trans b c d p p p x y z before.empties next.0; shut = next.2 ∙ before.shut }

pub receives_end : (b c d : Bus) (p : ℕ) (x y z : Bool) → Receives b p x c y → TriesNext c p y false d z → Empties b p x d (p + 1) z
receives_end b c d p x y z before next = empties_trans b c d p p (p + 1) x y z before.empties next

-- a peer that has disconnected is passed by
pub shut_next : (b : Bus) (p : ℕ) (g : Bool) → IsGood b → AllEnded b → AllClosed b → p < length b.state.drivers → (driver_at b.state p).shut ≡ true → Empties b p g b (p + 1) g
shut_next b p g good ended closed within shut = record {
  follows = follows_refl b good;
  played = λ turns h. drain_passed b.opening b.commands turns b.state p g (driver_at b.state p) (part_is b.state p within) shut h;
  ended = ended;
  closed = closed;
  lower = omega arith;
}

-- ---- passes

pub drains_refl : (b : Bus) → IsGood b → AllEnded b → AllClosed b → Drains b b
drains_refl b good ended closed = record { follows = follows_refl b good; played = λ turns h. h; ended = ended; closed = closed }

module _ (sound : SoundLaw) (b c d : Bus) (count : ℕ) (is_count : count ≡ length c.opening.peers) (before : Drains b c) where
  past : Follows c d → slice_get d.state.drivers count ≡ None
  past follows = none_past d.state.drivers count (omega (arith, drivers_count sound d follows.good, ap (λ o. length o.peers) follows.opening, is_count))

  -- a pass that gained
  pub drains_more : Empties c 0 false d count true → Drains b d × (level d.state < level c.state)
  drains_more one = (
    record {
      follows = follows_trans b c d before.follows one.follows;
      played = λ turns h. drain_again d.opening d.commands turns d.state count (past one.follows) (one.played turns (before.played turns h));
      ended = one.ended;
      closed = one.closed;
    },
    omega (arith, one.lower),
  )

  -- one that didn't
  pub drains_end : Empties c 0 false d count false → Drained b d
  drains_end one = record {
    follows = follows_trans b c d before.follows one.follows;
    played = λ turns h. drain_over d.opening d.commands turns d.state count (past one.follows) (one.played turns (before.played turns h));
    closed = one.closed;
  }
