-- The tests of a draft, and what they mean.
use Rattle.std.proofs.Common.{◌≡◌, ◌≢◌, ℕ, ◌+◌, ◌%◌, ◌<◌, ◌≤◌, Bool, true, false, ◌&&◌, not, cond, eqb, leb, ltb, List, [], ◌∷◌, Option, Some, None, refl, eq-eqb}
use Rattle.std.specs.Prelude.{IsSomeAnd}
use Rattle.std.specs.Option.{option_map_or}
use Rattle.std.specs.List.{list_all, AllByRecursion}
use Rattle.std.proofs.lemmas.Bool.{leb-true, le-leb, eqb-true, eqb-false, ne_eqb, not-true, not_from_false, ltb-true, lt-ltb}
use Rattle.b1_model.specs.declared.limits.TheConstants.{CLOCK_LIMIT, MOST_POOL}
use Rattle.b1_model.specs.declared.naming.Wire.{Wire}
use Rattle.b1_model.specs.Opening.{from_owner, CanWire, IsPool}
use Rattle.b1_model.specs.declared.naming.PeerSpec.{PeerSpec}
use Rattle.b1_script.specs.Reading.{is_first_clock, is_pool, gives_foreign}
use Rattle.b1_script.specs.Spelling.{most_len}
use Rattle.b1_text.specs.Drafts.{can_wire, can_pool, has_room, pools_left}

pub both : (a b : Bool) → a ≡ true → b ≡ true → (a && b) ≡ true
both a b p q = rw (p, q) refl

pub both_of : (a b : Bool) → (a && b) ≡ true → (a ≡ true) × (b ≡ true)
both_of true b h = (refl, h)
both_of false b h = absurd cc

-- what a test let pass
pub passed : {A : Type 0} (b : Bool) (x y : A) → cond b (Some x) None ≡ Some y → (b ≡ true) × (x ≡ y)
passed true x y h = (refl, cc)
passed false x y h = absurd cc

pub clock_test : (n : ℕ) → n % 2 ≡ 0 → n ≤ CLOCK_LIMIT → is_first_clock n ≡ true
clock_test n even most = both (eqb (n % 2) 0) (leb n (CLOCK_LIMIT)) (eq-eqb (n % 2) 0 even) (le-leb n (CLOCK_LIMIT) most)

pub clock_is : (n : ℕ) → is_first_clock n ≡ true → (n % 2 ≡ 0) × (n ≤ CLOCK_LIMIT)
clock_is n h = let b = both_of (eqb (n % 2) 0) (leb n (CLOCK_LIMIT)) h in (eqb-true (n % 2) 0 b.0, leb-true n (CLOCK_LIMIT) b.1)

pub pool_test : (n : ℕ) → IsPool n → is_pool n ≡ true
pool_test n p =
    both (eqb (n % 8) 0 && leb 8 n) (leb n MOST_POOL) (both (eqb (n % 8) 0) (leb 8 n) (eq-eqb (n % 8) 0 p.eighths) (le-leb 8 n p.least)) (le-leb n MOST_POOL p.most)

pub pool_is : (n : ℕ) → is_pool n ≡ true → IsPool n
pool_is n h =
    let b = both_of (eqb (n % 8) 0 && leb 8 n) (leb n MOST_POOL) h in
    let c = both_of (eqb (n % 8) 0) (leb 8 n) b.0 in
    record { eighths = eqb-true (n % 8) 0 c.0; least = leb-true 8 n c.1; most = leb-true n MOST_POOL b.1 }

pub pool_left_test : (peers : List PeerSpec) (n : ℕ) → IsPool n → n ≤ pools_left peers → can_pool peers n ≡ true
pool_left_test peers n p left = both (is_pool n) (leb n (pools_left peers)) (pool_test n p) (le-leb n (pools_left peers) left)

pub pool_left_is : (peers : List PeerSpec) (n : ℕ) → can_pool peers n ≡ true → IsPool n × (n ≤ pools_left peers)
pool_left_is peers n h = let b = both_of (is_pool n) (leb n (pools_left peers)) h in (pool_is n b.0, leb-true n (pools_left peers) b.1)

pub room_test : (peers len more : ℕ) → len + more ≤ most_len peers → has_room peers len more ≡ true
room_test peers len more h = le-leb (len + more) (most_len peers) h

pub room_is : (peers len more : ℕ) → has_room peers len more ≡ true → len + more ≤ most_len peers
room_is peers len more h = leb-true (len + more) (most_len peers) h

foreign_is : (given : Option Wire) (to : ℕ) → option_map_or (λ g. not (eqb g.from to)) given false ≡ true → IsSomeAnd given (λ g. g.from ≢ to)
foreign_is None to h = absurd cc
foreign_is (Some g) to h = eqb-false g.from to (not-true (eqb g.from to) h)

foreign_test : (given : Option Wire) (to : ℕ) → IsSomeAnd given (λ g. g.from ≢ to) → option_map_or (λ g. not (eqb g.from to)) given false ≡ true
foreign_test None to h = absurd h
foreign_test (Some g) to h = not_from_false (eqb g.from to) (ne_eqb g.from to h)

pub wire_test : (n : ℕ) (held : List Wire) (w : Wire) → CanWire n held w → can_wire n held w ≡ true
wire_test n held w can =
    both (ltb w.from n && ltb w.to n && not (eqb w.to w.from)) (gives_foreign held w)
    (both (ltb w.from n && ltb w.to n) (not (eqb w.to w.from)) (both (ltb w.from n) (ltb w.to n) (lt-ltb w.from n can.from) (lt-ltb w.to n can.to)) (not_from_false (eqb w.to w.from) (ne_eqb w.to w.from can.apart)))
    (foreign_test (from_owner held w) w.to can.gives)

pub wire_is : (n : ℕ) (held : List Wire) (w : Wire) → can_wire n held w ≡ true → CanWire n held w
wire_is n held w h =
    let a = both_of (ltb w.from n && ltb w.to n && not (eqb w.to w.from)) (gives_foreign held w) h in
    let b = both_of (ltb w.from n && ltb w.to n) (not (eqb w.to w.from)) a.0 in
    let c = both_of (ltb w.from n) (ltb w.to n) b.0 in
    record {
      from = ltb-true w.from n c.0;
      to = ltb-true w.to n c.1;
      apart = eqb-false w.to w.from (not-true (eqb w.to w.from) b.1);
      gives = foreign_is (from_owner held w) w.to a.1;
    }

pub peers_test : (n : ℕ) (ts : List ℕ) → AllByRecursion (λ p. p < n) ts → list_all (λ p. ltb p n) ts ≡ true
peers_test n [] h = refl
peers_test n (t ∷ ts) h = both (ltb t n) (list_all (λ p. ltb p n) ts) (lt-ltb t n h.0) (peers_test n ts h.1)

pub peers_are : (n : ℕ) (ts : List ℕ) → list_all (λ p. ltb p n) ts ≡ true → AllByRecursion (λ p. p < n) ts
peers_are n [] h = tt
peers_are n (t ∷ ts) h = let b = both_of (ltb t n) (list_all (λ p. ltb p n) ts) h in (ltb-true t n b.0, peers_are n ts b.1)
