-- How many drivers can get no stamp any more, where a peer's part and a driver's part change.
use Rattle.std.proofs.Common.{◌≡◌, ◌⊎◌, refl, sym, ap, ◌∙◌, inl, inr, ℕ, zero, suc, ◌+◌, ◌<◌, ◌≤◌, Bool, true, false, cond, List, [], ◌∷◌, set, Some, nat_le}
use Rattle.std.specs.Prelude.{slice_get}
use Rattle.std.proofs.lemmas.Bool.{leb-true, le-leb}
use Rattle.std.proofs.lemmas.Option.{same_Some}
use native.Mathlib.Omega.{arith}
use Rattle.b1_model.specs.MachineParts.{PeerPart, DriverPart, clock_limit}
use Rattle.b1_inv.specs.Clocks.{has_unstamped, spent, all_spent}

-- a peer's part changes
pub spent_peer : (xs : List PeerPart) (ds : List DriverPart) (q : ℕ) (x y : PeerPart) (d : DriverPart) → slice_get xs q ≡ Some x → slice_get ds q ≡ Some d → all_spent (set xs q y) ds + spent d x ≡ all_spent xs ds + spent d y
spent_peer [] ds q x y d is_peer is_driver = absurd (cc is_peer)
spent_peer (z ∷ xs) [] q x y d is_peer is_driver = absurd (cc is_driver)
spent_peer (z ∷ xs) (e ∷ ds) zero x y d is_peer is_driver =
    let peer : z ≡ x = same_Some z x is_peer in
    let driver : e ≡ d = same_Some e d is_driver in
    let same : spent e z ≡ spent d x = ap (λ w. spent w z) driver ∙ ap (spent d) peer in
    let new : spent e y ≡ spent d y = ap (λ w. spent w y) driver in
    omega (arith, same, new)
spent_peer (z ∷ xs) (e ∷ ds) (suc q) x y d is_peer is_driver = let k = spent_peer xs ds q x y d is_peer is_driver in omega (arith, k)

-- a driver's part changes
pub spent_driver : (xs : List PeerPart) (ds : List DriverPart) (p : ℕ) (x : PeerPart) (d e : DriverPart) → slice_get xs p ≡ Some x → slice_get ds p ≡ Some d → all_spent xs (set ds p e) + spent d x ≡ all_spent xs ds + spent e x
spent_driver [] ds p x d e is_peer is_driver = absurd (cc is_peer)
spent_driver (z ∷ xs) [] p x d e is_peer is_driver = absurd (cc is_driver)
spent_driver (z ∷ xs) (f ∷ ds) zero x d e is_peer is_driver =
    let peer : z ≡ x = same_Some z x is_peer in
    let driver : f ≡ d = same_Some f d is_driver in
    let same : spent f z ≡ spent d x = ap (λ w. spent w z) driver ∙ ap (spent d) peer in
    let new : spent e z ≡ spent e x = ap (spent e) peer in
    omega (arith, same, new)
spent_driver (z ∷ xs) (f ∷ ds) (suc p) x d e is_peer is_driver = let k = spent_driver xs ds p x d e is_peer is_driver in omega (arith, k)

-- a clock that rises makes no driver able again
pub spent_rises : (d : DriverPart) (x y : PeerPart) → x.clock ≤ y.clock → spent d x ≤ spent d y
spent_rises d x y below = by (has_unstamped d) (nat_le clock_limit x.clock) (nat_le clock_limit y.clock) refl refl
  where
    by : (a b c : Bool) → nat_le clock_limit x.clock ≡ b → nat_le clock_limit y.clock ≡ c → cond a 0 (cond b 1 0) ≤ cond a 0 (cond c 1 0)
    by true b c at_x at_y = omega arith
    by false false c at_x at_y = omega arith
    by false true true at_x at_y = omega arith
    by false true false at_x at_y = let k : true ≡ false = sym (le-leb clock_limit y.clock (let above = leb-true clock_limit x.clock at_x in omega (arith, above, below))) ∙ at_y in absurd (cc k)

-- a driver that waits for a stamp is not spent
pub spent_none : (d : DriverPart) (x : PeerPart) → has_unstamped d ≡ true → spent d x ≡ 0
spent_none d x is = rw is refl

-- nor is one whose clock is below the limit
pub spent_low : (d : DriverPart) (x : PeerPart) → x.clock < clock_limit → spent d x ≡ 0
spent_low d x low = by (has_unstamped d) (nat_le clock_limit x.clock) refl
  where
    by : (a b : Bool) → nat_le clock_limit x.clock ≡ b → ◌≡◌ {A = ℕ} (cond a 0 (cond b 1 0)) 0
    by true b is = refl
    by false true is = let above = leb-true clock_limit x.clock is in absurd (omega (arith, above, low))
    by false false is = refl

-- one is that waits for no stamp at a clock from the limit on
pub spent_one : (d : DriverPart) (x : PeerPart) → has_unstamped d ≡ false → clock_limit ≤ x.clock → spent d x ≡ 1
spent_one d x is above = rw (is, le-leb clock_limit x.clock above) refl

-- a driver that waits for no stamp, as before or newly, is spent where it was
pub spent_kept : (d e : DriverPart) (x : PeerPart) → (has_unstamped e ≡ true → (has_unstamped d ≡ true) ⊎ (x.clock < clock_limit)) → spent d x ≤ spent e x
spent_kept d e x waits = by (has_unstamped e) refl
  where
    by : (b : Bool) → has_unstamped e ≡ b → spent d x ≤ spent e x
    by true is = elim (waits is) [ inl before ↦ omega (arith, spent_none d x before) | inr low ↦ omega (arith, spent_low d x low) ]
    by false is = before (has_unstamped d) refl
      where
        before : (b : Bool) → has_unstamped d ≡ b → spent d x ≤ spent e x
        before true was = omega (arith, spent_none d x was)
        before false was =
            let one : spent d x ≡ cond (nat_le clock_limit x.clock) 1 0 = ap (λ z. cond z 0 (cond (nat_le clock_limit x.clock) 1 0)) was in
            let two : spent e x ≡ cond (nat_le clock_limit x.clock) 1 0 = ap (λ z. cond z 0 (cond (nat_le clock_limit x.clock) 1 0)) is in
            omega (arith, one, two)
