-- Each stamped call of a peer stands in the bus order, whatever the record is.
use Rattle.std.specs.Prelude.{◌≡◌, refl, ℕ, zero, suc, ◌+◌, ◌<◌, Bool, true, false, if◌then◌else◌, List, [], ◌∷◌, ◌++◌, length, slice_get, Option, None, Some, flat_map}
use Rattle.std.specs.List.{range_with_len}
use Rattle.std.proofs.Common.{arith, sym, ◌∙◌, ap, subst}
use Rattle.std.proofs.lemmas.Option.{slice_get_within}
use Rattle.b1_model.specs.declared.records.Call.{Call}
use Rattle.b1_model.specs.declared.records.Record.{Record}
use Rattle.b1_model.specs.declared.records.Stamp.{Stamp}
use Rattle.b1_model.specs.declared.records.PeerCalls.{PeerCalls}
use Rattle.b1_model.specs.Names.{calls_in, calls_of}
use Rattle.b1_model.specs.Ledger.{stamp_of, is_before, into_order, in_order, stamp_at, stamps_from, peers_of, order}

-- x stands somewhere in a list
abbrev Stands : {A : Type 0} → A → List A → Type 0
Stands x xs = (i : ℕ) × (slice_get xs i ≡ Some x)

in_left : {A : Type 0} (x : A) (xs ys : List A) (i : ℕ) → slice_get xs i ≡ Some x → Stands x (xs ++ ys)
in_left x [] ys i e = cc
in_left x (y ∷ xs) ys zero e = (0, e)
in_left x (y ∷ xs) ys (suc i) e = let h = in_left x xs ys i e in (suc h.0, h.1)

in_right : {A : Type 0} (x : A) (xs ys : List A) → Stands x ys → Stands x (xs ++ ys)
in_right x [] ys h = h
in_right x (y ∷ xs) ys h = let g = in_right x xs ys h in (suc g.0, g.1)

in_flat_map : {A B : Type 0} (f : A → List B) (b : B) (a : A) (xs : List A) (i : ℕ) → slice_get xs i ≡ Some a → Stands b (f a) → Stands b (flat_map f xs)
in_flat_map f b a [] i e h = cc
in_flat_map f b a (x ∷ xs) zero e h =
    let g : Stands b (f x) = subst (λ y. Stands b (f y)) (sym (same e)) h in
    in_left b (f x) (flat_map f xs) g.0 g.1
  where
    same : Some x ≡ Some a → x ≡ a
    same e = cc
in_flat_map f b a (x ∷ xs) (suc i) e h = in_right b (f x) (flat_map f xs) (in_flat_map f b a xs i e h)

into_new : (s : Stamp) (ts : List Stamp) → Stands s (into_order s ts)
into_new s [] = (0, refl)
into_new s (t ∷ ts) = by_test (is_before t.stamp t.origin s.stamp s.origin) (into_new s ts)
  where
    by_test : (b : Bool) → Stands s (into_order s ts) → Stands s (if b then t ∷ into_order s ts else s ∷ t ∷ ts)
    by_test true h = (suc h.0, h.1)
    by_test false h = (0, refl)

into_old : (s u : Stamp) (ts : List Stamp) (i : ℕ) → slice_get ts i ≡ Some u → Stands u (into_order s ts)
into_old s u [] i e = cc
into_old s u (t ∷ ts) zero e = by_test (is_before t.stamp t.origin s.stamp s.origin)
  where
    by_test : (b : Bool) → Stands u (if b then t ∷ into_order s ts else s ∷ t ∷ ts)
    by_test true = (0, e)
    by_test false = (1, e)
into_old s u (t ∷ ts) (suc i) e = by_test (is_before t.stamp t.origin s.stamp s.origin) (into_old s u ts i e)
  where
    by_test : (b : Bool) → Stands u (into_order s ts) → Stands u (if b then t ∷ into_order s ts else s ∷ t ∷ ts)
    by_test true h = (suc h.0, h.1)
    by_test false h = (suc (suc i), e)

in_order_has : (u : Stamp) (ss : List Stamp) (i : ℕ) → slice_get ss i ≡ Some u → Stands u (in_order ss)
in_order_has u [] i e = cc
in_order_has u (s ∷ ss) zero e = subst (λ x. Stands x (into_order s (in_order ss))) (same e) (into_new s (in_order ss))
  where
    same : Some s ≡ Some u → s ≡ u
    same e = cc
in_order_has u (s ∷ ss) (suc i) e = let h = in_order_has u ss i e in into_old s u (in_order ss) h.0 h.1

stamps_have : (p k i t : ℕ) (c : Call) (cs : List Call) → slice_get cs i ≡ Some c → stamp_of c.answer ≡ Some t → Stands (record { stamp = t; origin = p; call = k + i }) (stamps_from p k cs)
stamps_have p k i t c [] e is = cc
stamps_have p k zero t c (d ∷ cs) e is =
    let s : stamp_of d.answer ≡ Some t = ap (λ (x : Call). stamp_of x.answer) (same e) ∙ is in
    let n : k + 0 ≡ k = omega arith in
    rw (s, n) (0, refl)
  where
    same : Some d ≡ Some c → d ≡ c
    same e = cc
stamps_have p k (suc i) t c (d ∷ cs) e is =
    let n : k + suc i ≡ suc k + i = omega arith in
    rw n (in_right (record { stamp = t; origin = p; call = suc k + i }) (stamp_at p k (stamp_of d.answer)) (stamps_from p (suc k) cs) (stamps_have p (suc k) i t c cs e is))

range_has : (a n i : ℕ) → i < n → slice_get (range_with_len a n) i ≡ Some (a + i)
range_has a zero i l = absurd (omega (arith, l))
range_has a (suc n) zero l = let e : a ≡ a + 0 = omega arith in ap (λ m. Some m) e
range_has a (suc n) (suc i) l = let e : (a + 1) + i ≡ a + suc i = omega arith in range_has (a + 1) n i (omega (arith, l)) ∙ ap (λ m. Some m) e

-- a peer that has a call is one of the record
within : (r : Record) (q k : ℕ) (c : Call) → slice_get (calls_of r q) k ≡ Some c → q < length r.peers
within r q k c at = by_peer (slice_get r.peers q) refl
  where
    by_peer : (o : Option PeerCalls) → slice_get r.peers q ≡ o → q < length r.peers
    by_peer None e = cc (ap calls_in e)
    by_peer (Some x) e = slice_get_within r.peers q x e

pub in_bus_order : (r : Record) (q k stamp : ℕ) (c : Call) → slice_get (calls_of r q) k ≡ Some c → stamp_of c.answer ≡ Some stamp → (i : ℕ) × (slice_get (order r) i ≡ Some (record { stamp = stamp; origin = q; call = k }))
in_bus_order r q k stamp c at is =
    let peer : slice_get (peers_of r) q ≡ Some q = range_has 0 (length r.peers) q (within r q k c at) ∙ ap (λ m. Some m) (zero_more q) in
    let own = stamps_have q 0 k stamp c (calls_of r q) at is in
    let here : Stands (record { stamp = stamp; origin = q; call = k }) (stamps_from q 0 (calls_of r q)) = subst (λ m. Stands (record { stamp = stamp; origin = q; call = m }) (stamps_from q 0 (calls_of r q))) (zero_more k) own in
    let all = in_flat_map (λ p. stamps_from p 0 (calls_of r p)) (record { stamp = stamp; origin = q; call = k }) q (peers_of r) q peer here in
    in_order_has (record { stamp = stamp; origin = q; call = k }) (flat_map (λ p. stamps_from p 0 (calls_of r p)) (peers_of r)) all.0 all.1
  where
    zero_more : (m : ℕ) → 0 + m ≡ m
    zero_more m = omega arith
