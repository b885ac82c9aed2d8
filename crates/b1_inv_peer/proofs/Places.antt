-- How many nodes have no notice in a queue, where entries come in and leave.
use Rattle.std.proofs.Common.{◌≡◌, ◌≢◌, refl, sym, ◌∙◌, subst, ℕ, zero, suc, ◌+◌, ◌≤◌, ◌<◌, Bool, true, false, cond, List, ◌==◌}
use Rattle.std.proofs.lemmas.Bool.{eqb-true, eq-eqb}
use native.Mathlib.Omega.{arith}
use Rattle.b1_model.specs.declared.naming.Key.{Key}
use Rattle.b1_model.specs.declared.entries.Entry.{Entry}
use Rattle.b1_inv_peer.specs.PeerOk.{count, is_notice_of, total, place_of, places}

abbrev Queue : Type 0
Queue = List (Key × Entry)

-- ---- sums over the first numbers

pub total_le : (f g : ℕ → ℕ) (n : ℕ) → ((s : ℕ) → f s ≤ g s) → total f n ≤ total g n
total_le f g zero le = omega arith
total_le f g (suc n) le = let further = total_le f g n le in let here = le n in omega (arith, further, here)

pub total_one_more : (f g : ℕ → ℕ) (t n : ℕ) → ((s : ℕ) → s ≢ t → f s ≤ g s) → f t ≤ g t + 1 → total f n ≤ total g n + 1
total_one_more f g t zero le here = omega arith
total_one_more f g t (suc n) le here = at (total_one_more f g t n le here) (n == t) refl
  where
    below : (m : ℕ) → m ≤ t → total f m ≤ total g m
    below zero low = omega arith
    below (suc m) low = let further = below m (omega (arith, low)) in let head = le m (λ e. absurd (omega (arith, e, low))) in omega (arith, further, head)

    at : total f n ≤ total g n + 1 → (b : Bool) → (n == t) ≡ b → total f n + f n ≤ total g n + g n + 1
    at further true is =
        let same : n ≡ t = eqb-true n t is in
        let head : f n ≤ g n + 1 = subst (λ m. f m ≤ g m + 1) (sym same) here in
        let less = below n (omega (arith, same)) in
        omega (arith, less, head)
    at further false is = let head = le n (λ e. absurd (cc (sym is ∙ eq-eqb n t e))) in omega (arith, further, head)

pub total_one_less : (f g : ℕ → ℕ) (t n : ℕ) → t < n → ((s : ℕ) → s ≢ t → f s ≤ g s) → f t + 1 ≤ g t → total f n + 1 ≤ total g n
total_one_less f g t zero low le here = absurd (omega (arith, low))
total_one_less f g t (suc n) low le here = at (λ below. total_one_less f g t n below le here) (n == t) refl
  where
    before : (m : ℕ) → m ≤ t → total f m ≤ total g m
    before zero first = omega arith
    before (suc m) first = let further = before m (omega (arith, first)) in let head = le m (λ e. absurd (omega (arith, e, first))) in omega (arith, further, head)

    at : (t < n → total f n + 1 ≤ total g n) → (b : Bool) → (n == t) ≡ b → total f n + f n + 1 ≤ total g n + g n
    at further true is =
        let same : n ≡ t = eqb-true n t is in
        let head : f n + 1 ≤ g n = subst (λ m. f m + 1 ≤ g m) (sym same) here in
        let less = before n (omega (arith, same)) in
        omega (arith, less, head)
    at further false is =
        let apart : n ≢ t = λ e. absurd (cc (sym is ∙ eq-eqb n t e)) in
        let head = le n apart in
        let below : t < n = omega (arith, low, apart) in
        let less = further below in
        omega (arith, less, head)

-- ---- one node's place

place_le : (m n : ℕ) → n ≤ m → cond (m == 0) 1 0 ≤ cond (n == 0) 1 0
place_le m n le = grind (arith, le)

place_one : (n : ℕ) → cond (n == 0) 1 0 ≤ 1
place_one n = grind arith

place_used : (n : ℕ) → 1 ≤ n → ◌≡◌ {A = ℕ} (cond (n == 0) 1 0) 0
place_used n some = grind (arith, some)

place_free : (n : ℕ) → n ≡ 0 → ◌≡◌ {A = ℕ} (cond (n == 0) 1 0) 1
place_free n none = grind (arith, none)

-- ---- places in a queue

-- no node gets a place where no notice leaves
pub places_le : (old new : Queue) (made : ℕ) → ((s : ℕ) → count (is_notice_of s) old ≤ count (is_notice_of s) new) → places new made ≤ places old made
places_le old new made le = total_le (place_of new) (place_of old) made (λ s. place_le (count (is_notice_of s) new) (count (is_notice_of s) old) (le s))

-- one node's notices leave
pub places_one_more : (old new : Queue) (t made : ℕ) → ((s : ℕ) → s ≢ t → count (is_notice_of s) old ≤ count (is_notice_of s) new) → places new made ≤ places old made + 1
places_one_more old new t made le =
    total_one_more (place_of new) (place_of old) t made
    (λ s apart. place_le (count (is_notice_of s) new) (count (is_notice_of s) old) (le s apart))
    (let low = place_one (count (is_notice_of t) new) in omega (arith, low))

-- a node without a notice gets one
pub places_one_less : (old new : Queue) (t made : ℕ) → t < made → ((s : ℕ) → s ≢ t → count (is_notice_of s) old ≤ count (is_notice_of s) new) → count (is_notice_of t) old ≡ 0 → 1 ≤ count (is_notice_of t) new → places new made + 1 ≤ places old made
places_one_less old new t made low le none some =
    total_one_less (place_of new) (place_of old) t made low
    (λ s apart. place_le (count (is_notice_of s) new) (count (is_notice_of s) old) (le s apart))
    (let used = place_used (count (is_notice_of t) new) some in let free = place_free (count (is_notice_of t) old) none in omega (arith, used, free))

-- a node is made
pub places_made : (queue : Queue) (made : ℕ) → places queue (suc made) ≤ places queue made + 1
places_made queue made = let low = place_one (count (is_notice_of made) queue) in omega (arith, low)
