-- No more drivers can get no stamp any more than there are peers, so clocks are at most two above the limit for each.
use Rattle.std.proofs.Common.{ℕ, ◌≤◌, Bool, true, false, cond, List, [], ◌∷◌, length, nat_le}
use native.Mathlib.Omega.{arith}
use Rattle.b1_model.specs.declared.naming.Opening.{Opening}
use Rattle.b1_model.specs.MachineParts.{PeerPart, DriverPart, State, clock_limit}
use Rattle.b1_model.specs.MachineEvents.{collected_of}
use Rattle.b1_inv.specs.Clocks.{has_unstamped, spent, all_spent, clock_bound, IsClock}
use Rattle.b1_inv.specs.Sound.{IsSound}
use Rattle.b1_inv_clocks.proofs.ClockTurns.{clock_more}
use Rattle.b1_inv_cover.specs.Bounded.{ClocksBounded, most_clock}

spent_one : (d : DriverPart) (x : PeerPart) → spent d x ≤ 1
spent_one d x = by (has_unstamped d) (nat_le clock_limit x.clock)
  where
    by : (a b : Bool) → cond a 0 (cond b 1 0) ≤ 1
    by true b = omega arith
    by false true = omega arith
    by false false = omega arith

spent_few : (xs : List PeerPart) (ds : List DriverPart) → all_spent xs ds ≤ length xs
spent_few [] ds = omega arith
spent_few (x ∷ xs) [] = omega arith
spent_few (x ∷ xs) (d ∷ ds) = let one = spent_one d x in let rest = spent_few xs ds in omega (arith, one, rest)

module _ (o : Opening) (s : State) (sound : IsSound o s) where
  within : (n : ℕ) → IsClock (clock_bound s) n → IsClock (most_clock s) n
  within n h = clock_more (clock_bound s) (most_clock s) n (let few = spent_few s.peers s.drivers in omega (arith, few)) h

  pub clocks_bounded : ClocksBounded s
  clocks_bounded = record {
    clock = λ q x is. within x.clock (sound.clocks.clock q x is);
    collected = λ p d doing is_driver is. within (collected_of doing.phase) (sound.clocks.collected p d doing is_driver is);
    stamp = λ p d stamp is_driver is. within stamp (sound.clocks.stamp p d stamp is_driver is);
    owed = λ p d one is_driver h. within one.clock (sound.clocks.owed p d one is_driver h);
    destroyed = λ q x n stamp is_peer h is. within stamp (sound.clocks.destroyed q x n stamp is_peer h is);
  }
