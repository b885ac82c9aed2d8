-- The bus order: what it has, and in which order.
use Rattle.std.specs.Prelude.{◌≡◌, refl, ℕ, zero, suc, ◌+◌, ◌<◌, ◌≤◌, ◌⊎◌, Bool, true, false, ◌==◌, nat_lt, List, [], ◌∷◌, ◌++◌, length, get_or, AllPairs, filter, flat_map, slice_get, Option, Some, None, if◌then◌else◌}
use Rattle.std.specs.List.{range_with_len}
use Rattle.std.proofs.lemmas.List.{append-nil}
use Rattle.std.proofs.lemmas.List.Elements.{filter-append}
use Rattle.std.proofs.lemmas.Option.{same_Some, slice_get_past}
use Rattle.std.proofs.lemmas.Bool.{eqb-true}
use Rattle.std.proofs.Common.{arith, inl, inr, subst, sym, ap, ◌∙◌, eq-eqb}
use Rattle.b1_model.specs.declared.records.Call.{Call}
use Rattle.b1_model.specs.declared.records.Record.{Record}
use Rattle.b1_model.specs.declared.records.Stamp.{Stamp}
use Rattle.b1_model.specs.Names.{calls_in, calls_of}
use Rattle.b1_model.specs.Ledger.{is_before, into_order, in_order, stamp_of, stamp_at, stamps_from, peers_of, order}
use Rattle.b1_model.specs.Legal.{KeepsOrder}
use Rattle.b1_judge_facts.specs.Orders.{IsNotAfter}
use Rattle.b1_ledger.proofs.Sequences.{bool_cases}
use Rattle.b1_ledger.proofs.Bound.{seen_of_stamp}

-- the first stamped call is before the second
abbrev pub below : Stamp → Stamp → Bool
below x y = is_before x.stamp x.origin y.stamp y.origin

-- no call is before z
abbrev pub NoneBelow : Stamp → List Stamp → Type 0
NoneBelow z [] = Unit {0}
NoneBelow z (x ∷ xs) = (below x z ≡ false) × NoneBelow z xs

-- no call is before one that stands earlier
abbrev pub Ordered : List Stamp → Type 0
Ordered [] = Unit {0}
Ordered (x ∷ xs) = NoneBelow x xs × Ordered xs

-- z is before each call
abbrev pub AllAfter : Stamp → List Stamp → Type 0
AllAfter z [] = Unit {0}
AllAfter z (x ∷ xs) = (below z x ≡ true) × AllAfter z xs

-- each call is before those that stand later
abbrev pub Ascends : List Stamp → Type 0
Ascends [] = Unit {0}
Ascends (x ∷ xs) = AllAfter x xs × Ascends xs

one_way : (s p t q : ℕ) → is_before s p t q ≡ true → is_before t q s p ≡ false
one_way s p t q e = grind (arith, e)

chain : (s p t q u v : ℕ) → is_before s p t q ≡ false → is_before t q u v ≡ false → is_before s p u v ≡ false
chain s p t q u v e f = grind (arith, e, f)

-- of two origins one comes first
apart : (s p t q : ℕ) → is_before t q s p ≡ false → (q == p) ≡ false → is_before s p t q ≡ true
apart s p t q e f = grind (arith, e, f)

pub below_one_way : (x y : Stamp) → below x y ≡ true → below y x ≡ false
below_one_way x y e = one_way x.stamp x.origin y.stamp y.origin e

below_chain : (x y z : Stamp) → below x y ≡ false → below y z ≡ false → below x z ≡ false
below_chain x y z e f = chain x.stamp x.origin y.stamp y.origin z.stamp z.origin e f

none_below_of : (z y : Stamp) (xs : List Stamp) → below y z ≡ false → NoneBelow y xs → NoneBelow z xs
none_below_of z y [] e h = tt
none_below_of z y (x ∷ xs) e h = (below_chain x y z h.0 e, none_below_of z y xs e h.1)

none_below_after : (z : Stamp) (xs : List Stamp) → AllAfter z xs → NoneBelow z xs
none_below_after z [] h = tt
none_below_after z (x ∷ xs) h = (below_one_way z x h.0, none_below_after z xs h.1)

pub ordered_of : (xs : List Stamp) → Ascends xs → Ordered xs
ordered_of [] h = tt
ordered_of (x ∷ xs) h = (none_below_after x xs h.0, ordered_of xs h.1)

none_below_into : (z s : Stamp) (ts : List Stamp) → below s z ≡ false → NoneBelow z ts → NoneBelow z (into_order s ts)
none_below_into z s [] e h = (e, tt)
none_below_into z s (t ∷ ts) e h = go (below t s) (none_below_into z s ts e h.1)
  where
    go : (b : Bool) → NoneBelow z (into_order s ts) → NoneBelow z (if b then t ∷ into_order s ts else s ∷ t ∷ ts)
    go true rest = (h.0, rest)
    go false rest = (e, h)

ordered_into : (s : Stamp) (ts : List Stamp) → Ordered ts → Ordered (into_order s ts)
ordered_into s [] h = (tt, tt)
ordered_into s (t ∷ ts) h = go (below t s) refl (ordered_into s ts h.1)
  where
    go : (b : Bool) → below t s ≡ b → Ordered (into_order s ts) → Ordered (if b then t ∷ into_order s ts else s ∷ t ∷ ts)
    go true e rest = (none_below_into t s ts (below_one_way t s e) h.0, rest)
    go false e rest = ((e, none_below_of s t ts e h.0), h)

pub ordered_in_order : (ss : List Stamp) → Ordered (in_order ss)
ordered_in_order [] = tt
ordered_in_order (s ∷ ss) = ordered_into s (in_order ss) (ordered_in_order ss)

pub sorted : (r : Record) → AllPairs IsNotAfter (order r)
sorted r i j d l few = at (order r) i j l few (ordered_in_order (flat_map (λ p. stamps_from p 0 (calls_of r p)) (peers_of r)))
  where
    later : (z : Stamp) (xs : List Stamp) (j : ℕ) → j < length xs → NoneBelow z xs → below (get_or xs j d) z ≡ false
    later z [] j few h = absurd (omega (arith, few))
    later z (x ∷ xs) zero few h = h.0
    later z (x ∷ xs) (suc j) few h = later z xs j (omega (arith, few)) h.1

    at : (xs : List Stamp) (i j : ℕ) → i < j → j < length xs → Ordered xs → below (get_or xs j d) (get_or xs i d) ≡ false
    at [] i j l few h = absurd (omega (arith, few))
    at (x ∷ xs) i zero l few h = absurd (omega (arith, l))
    at (x ∷ xs) zero (suc j) l few h = later x xs j (omega (arith, few)) h.0
    at (x ∷ xs) (suc i) (suc j) l few h = at xs i j (omega (arith, l)) (omega (arith, few)) h.1

into_front : (s : Stamp) (ts : List Stamp) → NoneBelow s ts → into_order s ts ≡ s ∷ ts
into_front s [] h = refl
into_front s (t ∷ ts) h = rw h.0 refl

in_order_same : (ss : List Stamp) → Ordered ss → in_order ss ≡ ss
in_order_same [] h = refl
in_order_same (s ∷ ss) h = ap (into_order s) (in_order_same ss h.1) ∙ into_front s ss h.0

none_below_filter : (p : Stamp → Bool) (z : Stamp) (xs : List Stamp) → NoneBelow z xs → NoneBelow z (filter p xs)
none_below_filter p z [] h = tt
none_below_filter p z (x ∷ xs) h = go (p x) (none_below_filter p z xs h.1)
  where
    go : (b : Bool) → NoneBelow z (filter p xs) → NoneBelow z (if b then x ∷ filter p xs else filter p xs)
    go true rest = (h.0, rest)
    go false rest = rest

filter_into : (p : Stamp → Bool) (s : Stamp) (ts : List Stamp) → Ordered ts → filter p (into_order s ts) ≡ (if p s then into_order s (filter p ts) else filter p ts)
filter_into p s [] h = refl
filter_into p s (t ∷ ts) h = go (below t s) refl (filter_into p s ts h.1)
  where
    later : (a b : Bool) → below t s ≡ true → (us vs : List Stamp) → us ≡ (if a then into_order s vs else vs) → (if b then t ∷ us else us) ≡ (if a then into_order s (if b then t ∷ vs else vs) else (if b then t ∷ vs else vs))
    later true true e us vs f = rw e (ap (λ l. t ∷ l) f)
    later true false e us vs f = f
    later false true e us vs f = ap (λ l. t ∷ l) f
    later false false e us vs f = f

    first : (a : Bool) → NoneBelow s (filter p (t ∷ ts)) → (if a then s ∷ filter p (t ∷ ts) else filter p (t ∷ ts)) ≡ (if a then into_order s (filter p (t ∷ ts)) else filter p (t ∷ ts))
    first true f = sym (into_front s (filter p (t ∷ ts)) f)
    first false f = refl

    go : (b : Bool) → below t s ≡ b → filter p (into_order s ts) ≡ (if p s then into_order s (filter p ts) else filter p ts) → filter p (if b then t ∷ into_order s ts else s ∷ t ∷ ts) ≡ (if p s then into_order s (filter p (t ∷ ts)) else filter p (t ∷ ts))
    go true e ih = later (p s) (p t) e (filter p (into_order s ts)) (filter p ts) ih
    go false e ih = first (p s) (none_below_filter p s (t ∷ ts) (e, none_below_of s t ts e h.0))

pub filter_in_order : (p : Stamp → Bool) (ss : List Stamp) → filter p (in_order ss) ≡ in_order (filter p ss)
filter_in_order p [] = refl
filter_in_order p (s ∷ ss) = filter_into p s (in_order ss) (ordered_in_order ss) ∙ go (p s) (filter_in_order p ss)
  where
    go : (b : Bool) → filter p (in_order ss) ≡ in_order (filter p ss) → (if b then into_order s (filter p (in_order ss)) else filter p (in_order ss)) ≡ in_order (if b then s ∷ filter p ss else filter p ss)
    go true ih = ap (into_order s) ih
    go false ih = ih

-- ---- one peer's stamped calls

-- the calls of an origin
abbrev pub is_of : ℕ → Stamp → Bool
is_of q s = s.origin == q

own_stamp : (p q k : ℕ) (o : Option ℕ) → filter (is_of q) (stamp_at p k o) ≡ (if p == q then stamp_at p k o else [])
own_stamp p q k None = go (p == q)
  where
    go : (b : Bool) → [] ≡ (if b then stamp_at p k None else [])
    go true = refl
    go false = refl
own_stamp p q k (Some t) = refl

own_stamps : (p q k : ℕ) (cs : List Call) → filter (is_of q) (stamps_from p k cs) ≡ (if p == q then stamps_from p k cs else [])
own_stamps p q k [] = go (p == q)
  where
    go : (b : Bool) → [] ≡ (if b then stamps_from p k [] else [])
    go true = refl
    go false = refl
own_stamps p q k (c ∷ cs) =
    filter-append (is_of q) (stamp_at p k (stamp_of c.answer)) (stamps_from p (suc k) cs) ∙ both (p == q) (own_stamp p q k (stamp_of c.answer)) (own_stamps p q (suc k) cs)
  where
    both : (b : Bool) → filter (is_of q) (stamp_at p k (stamp_of c.answer)) ≡ (if b then stamp_at p k (stamp_of c.answer) else []) → filter (is_of q) (stamps_from p (suc k) cs) ≡ (if b then stamps_from p (suc k) cs else []) → filter (is_of q) (stamp_at p k (stamp_of c.answer)) ++ filter (is_of q) (stamps_from p (suc k) cs) ≡ (if b then stamps_from p k (c ∷ cs) else [])
    both true e f = rw (e, f) refl
    both false e f = rw (e, f) refl

module _ (r : Record) where
  -- the stamped calls of a peer
  abbrev pub stamps_of : ℕ → List Stamp
  stamps_of p = stamps_from p 0 (calls_of r p)

  none_before : (q a n : ℕ) → q < a → filter (is_of q) (flat_map stamps_of (range_with_len a n)) ≡ []
  none_before q a zero l = refl
  none_before q a (suc n) l =
      let other : (a == q) ≡ false = grind (arith, l) in
      filter-append (is_of q) (stamps_of a) (flat_map stamps_of (range_with_len (a + 1) n)) ∙ rw (own_stamps a q 0 (calls_of r a), other, none_before q (a + 1) n (omega (arith, l))) refl

  none_behind : (q a n : ℕ) → a + n ≤ q → filter (is_of q) (flat_map stamps_of (range_with_len a n)) ≡ []
  none_behind q a zero l = refl
  none_behind q a (suc n) l =
      let m : (a + 1) + n ≤ q = omega (arith, l) in
      let other : (a == q) ≡ false = grind (arith, m) in
      filter-append (is_of q) (stamps_of a) (flat_map stamps_of (range_with_len (a + 1) n)) ∙ rw (own_stamps a q 0 (calls_of r a), other, none_behind q (a + 1) n m) refl

  one_within : (q a n : ℕ) → a ≤ q → q < a + n → filter (is_of q) (flat_map stamps_of (range_with_len a n)) ≡ stamps_of q
  one_within q a zero l m = absurd (omega (arith, l, m))
  one_within q a (suc n) l m =
      filter-append (is_of q) (stamps_of a) (flat_map stamps_of (range_with_len (a + 1) n))
      ∙ go (a == q) refl (own_stamps a q 0 (calls_of r a)) (λ k. none_before q (a + 1) n k) (λ k. one_within q (a + 1) n k (omega (arith, m)))
    where
      go : (b : Bool) → (a == q) ≡ b → filter (is_of q) (stamps_of a) ≡ (if a == q then stamps_of a else []) → (q < a + 1 → filter (is_of q) (flat_map stamps_of (range_with_len (a + 1) n)) ≡ []) → (a + 1 ≤ q → filter (is_of q) (flat_map stamps_of (range_with_len (a + 1) n)) ≡ stamps_of q) → filter (is_of q) (stamps_of a) ++ filter (is_of q) (flat_map stamps_of (range_with_len (a + 1) n)) ≡ stamps_of q
      go true e f none one =
          let s : a ≡ q = eqb-true a q e in
          let k : q < a + 1 = omega (arith, s) in
          let g : filter (is_of q) (stamps_of a) ≡ stamps_of a = f ∙ rw e refl in
          rw (g, none k) (append-nil (stamps_of a) ∙ ap stamps_of s)
      go false e f none one =
          let k : a + 1 ≤ q = grind (arith, e, l) in
          let g : filter (is_of q) (stamps_of a) ≡ [] = f ∙ rw e refl in
          rw (g, one k) refl

  all_of_peer : (q : ℕ) → filter (is_of q) (flat_map stamps_of (peers_of r)) ≡ stamps_of q
  all_of_peer q = go (bool_cases (nat_lt q (length r.peers)))
    where
      past : length r.peers ≤ q → calls_of r q ≡ []
      past l = ap calls_in (slice_get_past r.peers q l)

      go : ((nat_lt q (length r.peers) ≡ true) ⊎ (nat_lt q (length r.peers) ≡ false)) → filter (is_of q) (flat_map stamps_of (peers_of r)) ≡ stamps_of q
      go (inl e) = let l : q < 0 + length r.peers = grind (arith, e) in one_within q 0 (length r.peers) (omega arith) l
      go (inr e) =
          let l : length r.peers ≤ q = grind (arith, e) in
          none_behind q 0 (length r.peers) (omega (arith, l)) ∙ rw (past l) refl

  all_after : (z : Stamp) (q k : ℕ) (cs : List Call) → ((i t : ℕ) (c : Call) → slice_get cs i ≡ Some c → stamp_of c.answer ≡ Some t → z.stamp < t) → AllAfter z (stamps_from q k cs)
  all_after z q k [] h = tt
  all_after z q k (c ∷ cs) h = go (stamp_of c.answer) refl (all_after z q (suc k) cs (λ i t d e f. h (suc i) t d e f))
    where
      go : (o : Option ℕ) → stamp_of c.answer ≡ o → AllAfter z (stamps_from q (suc k) cs) → AllAfter z (stamp_at q k o ++ stamps_from q (suc k) cs)
      go None e rest = rest
      go (Some t) e rest = let l : z.stamp < t = h 0 t c refl e in (grind (arith, l), rest)

  ascends_from : (q k : ℕ) (cs : List Call) → ((i j s t : ℕ) (b c : Call) → i < j → slice_get cs i ≡ Some b → slice_get cs j ≡ Some c → stamp_of b.answer ≡ Some s → stamp_of c.answer ≡ Some t → s < t) → Ascends (stamps_from q k cs)
  ascends_from q k [] h = tt
  ascends_from q k (c ∷ cs) h = go (stamp_of c.answer) refl (ascends_from q (suc k) cs (λ i j s t b d l e f. h (suc i) (suc j) s t b d (omega (arith, l)) e f))
    where
      go : (o : Option ℕ) → stamp_of c.answer ≡ o → Ascends (stamps_from q (suc k) cs) → Ascends (stamp_at q k o ++ stamps_from q (suc k) cs)
      go None e rest = rest
      go (Some s) e rest = (all_after (record { stamp = s; origin = q; call = k }) q (suc k) cs (λ i t d f g. h 0 (suc i) s t c d (omega arith) refl f e g), rest)

  module _ (rises : (q k : ℕ) → KeepsOrder r q k) where
    pub stamps_ascend : (q : ℕ) → Ascends (stamps_of q)
    stamps_ascend q = ascends_from q 0 (calls_of r q) (λ i j s t b c l e f g h. rises q j i s t b c l e f (seen_of_stamp b.answer s g) h)

    -- the bus order of one peer's calls is the order of its list
    pub restricted : (q : ℕ) → filter (is_of q) (order r) ≡ stamps_of q
    restricted q = filter_in_order (is_of q) (flat_map stamps_of (peers_of r)) ∙ ap in_order (all_of_peer q) ∙ in_order_same (stamps_of q) (ordered_of (stamps_of q) (stamps_ascend q))

    pub order_ascends : Ascends (order r)
    order_ascends = strict (order r) (ordered_in_order (flat_map stamps_of (peers_of r))) (λ q. subst Ascends (sym (restricted q)) (stamps_ascend q))
      where
        after_all : (x : Stamp) (xs : List Stamp) → NoneBelow x xs → AllAfter x (filter (is_of x.origin) xs) → AllAfter x xs
        after_all x [] h g = tt
        after_all x (y ∷ ys) h g = go (y.origin == x.origin) refl g (λ rest. after_all x ys h.1 rest)
          where
            go : (b : Bool) → (y.origin == x.origin) ≡ b → AllAfter x (if b then y ∷ filter (is_of x.origin) ys else filter (is_of x.origin) ys) → (AllAfter x (filter (is_of x.origin) ys) → AllAfter x ys) → AllAfter x (y ∷ ys)
            go true e f ih = (f.0, ih f.1)
            go false e f ih = (apart x.stamp x.origin y.stamp y.origin h.0 e, ih f)

        tail : (q : ℕ) (x : Stamp) (xs : List Stamp) → Ascends (filter (is_of q) (x ∷ xs)) → Ascends (filter (is_of q) xs)
        tail q x xs h = go (x.origin == q) h
          where
            go : (b : Bool) → Ascends (if b then x ∷ filter (is_of q) xs else filter (is_of q) xs) → Ascends (filter (is_of q) xs)
            go true f = f.1
            go false f = f

        strict : (xs : List Stamp) → Ordered xs → ((q : ℕ) → Ascends (filter (is_of q) xs)) → Ascends xs
        strict [] h g = tt
        strict (x ∷ xs) h g =
            let here : Ascends (x ∷ filter (is_of x.origin) xs) = subst (λ b. Ascends (if b then x ∷ filter (is_of x.origin) xs else filter (is_of x.origin) xs)) (eq-eqb x.origin x.origin refl) (g x.origin) in
            (after_all x xs h.0 here.0, strict xs h.1 (λ q. tail q x xs (g q)))

    pub strictly : (i j : ℕ) (s t : Stamp) → i < j → slice_get (order r) i ≡ Some s → slice_get (order r) j ≡ Some t → below s t ≡ true
    strictly i j s t l e f = at (order r) i j l e f order_ascends
      where
        later : (xs : List Stamp) (k : ℕ) → slice_get xs k ≡ Some t → AllAfter s xs → below s t ≡ true
        later [] k e h = cc
        later (x ∷ xs) zero e h = let g : x ≡ t = same_Some x t e in subst (λ y. below s y ≡ true) g h.0
        later (x ∷ xs) (suc k) e h = later xs k e h.1

        at : (xs : List Stamp) (i j : ℕ) → i < j → slice_get xs i ≡ Some s → slice_get xs j ≡ Some t → Ascends xs → below s t ≡ true
        at [] i j l e f h = cc
        at (x ∷ xs) i zero l e f h = absurd (omega (arith, l))
        at (x ∷ xs) zero (suc j) l e f h = let g : x ≡ s = same_Some x s e in later xs j f (subst (λ y. AllAfter y xs) g h.0)
        at (x ∷ xs) (suc i) (suc j) l e f h = at xs i j (omega (arith, l)) e f h.1

    -- each stamped call stands in it
    pub complete : (q k t : ℕ) (c : Call) → slice_get (calls_of r q) k ≡ Some c → stamp_of c.answer ≡ Some t → (i : ℕ) × (slice_get (order r) i ≡ Some (record { stamp = t; origin = q; call = k }))
    complete q k t c e f =
        let h = has q 0 (calls_of r q) k t c e f in
        let s : Stamp = record { stamp = t; origin = q; call = 0 + k } in
        let u : Stamp = record { stamp = t; origin = q; call = k } in
        let same : s ≡ u = ap (λ n. record { stamp = t; origin = q; call = n }) (omega arith) in
        from_filter (is_of q) (order r) h.0 u (ap (λ l. slice_get l h.0) (restricted q) ∙ h.1 ∙ ap Some same)
      where
        has : (q n : ℕ) (cs : List Call) (i t : ℕ) (c : Call) → slice_get cs i ≡ Some c → stamp_of c.answer ≡ Some t → (j : ℕ) × (slice_get (stamps_from q n cs) j ≡ Some (record { stamp = t; origin = q; call = n + i }))
        has q n [] i t c e f = cc
        has q n (d ∷ cs) zero t c e f =
            let g : stamp_of d.answer ≡ Some t = ap (λ x. stamp_of x.answer) (same_Some d c e) ∙ f in
            let a : n ≡ n + 0 = omega arith in
            (0, rw g (ap (λ k. Some (record { stamp = t; origin = q; call = k })) a))
        has q n (d ∷ cs) (suc i) t c e f = go (stamp_of d.answer) (has q (suc n) cs i t c e f)
          where
            go : (o : Option ℕ) → ((j : ℕ) × (slice_get (stamps_from q (suc n) cs) j ≡ Some (record { stamp = t; origin = q; call = suc n + i }))) → (j : ℕ) × (slice_get (stamp_at q n o ++ stamps_from q (suc n) cs) j ≡ Some (record { stamp = t; origin = q; call = n + suc i }))
            go None h = let a : suc n + i ≡ n + suc i = omega arith in (h.0, h.1 ∙ ap (λ k. Some (record { stamp = t; origin = q; call = k })) a)
            go (Some s) h = let a : suc n + i ≡ n + suc i = omega arith in (suc h.0, h.1 ∙ ap (λ k. Some (record { stamp = t; origin = q; call = k })) a)

        from_filter : (p : Stamp → Bool) (xs : List Stamp) (j : ℕ) (x : Stamp) → slice_get (filter p xs) j ≡ Some x → (i : ℕ) × (slice_get xs i ≡ Some x)
        from_filter p [] j x e = cc
        from_filter p (y ∷ ys) j x e = go (p y) j e (λ i f. from_filter p ys i x f)
          where
            go : (b : Bool) (j : ℕ) → slice_get (if b then y ∷ filter p ys else filter p ys) j ≡ Some x → ((i : ℕ) → slice_get (filter p ys) i ≡ Some x → (k : ℕ) × (slice_get ys k ≡ Some x)) → (k : ℕ) × (slice_get (y ∷ ys) k ≡ Some x)
            go true zero f ih = (0, f)
            go true (suc j) f ih = let h = ih j f in (suc h.0, h.1)
            go false j f ih = let h = ih j f in (suc h.0, h.1)

    -- and nothing else
    pub sound : (i : ℕ) (s : Stamp) → slice_get (order r) i ≡ Some s → (c : Call) × (slice_get (calls_of r s.origin) s.call ≡ Some c) × (stamp_of c.answer ≡ Some s.stamp)
    sound i s e =
        let h = into_filter (is_of s.origin) (order r) i s e (eq-eqb s.origin s.origin refl) in
        let g = only s.origin 0 (calls_of r s.origin) h.0 s (ap (λ l. slice_get l h.0) (sym (restricted s.origin)) ∙ h.1) in
        let k : g.0 ≡ s.call = omega (arith, g.1) in
        (g.2, join g.0 g.2 k g.3, g.4)
      where
        join : (j : ℕ) (c : Call) → j ≡ s.call → slice_get (calls_of r s.origin) j ≡ Some c → slice_get (calls_of r s.origin) s.call ≡ Some c
        join j c k at = subst (λ n. slice_get (calls_of r s.origin) n ≡ Some c) k at

        into_filter : (p : Stamp → Bool) (xs : List Stamp) (i : ℕ) (x : Stamp) → slice_get xs i ≡ Some x → p x ≡ true → (j : ℕ) × (slice_get (filter p xs) j ≡ Some x)
        into_filter p [] i x e f = cc
        into_filter p (y ∷ ys) zero x e f = let g : p y ≡ true = ap p (same_Some y x e) ∙ f in (0, rw g e)
        into_filter p (y ∷ ys) (suc i) x e f = go (p y) (into_filter p ys i x e f)
          where
            go : (b : Bool) → ((j : ℕ) × (slice_get (filter p ys) j ≡ Some x)) → (j : ℕ) × (slice_get (if b then y ∷ filter p ys else filter p ys) j ≡ Some x)
            go true h = (suc h.0, h.1)
            go false h = h

        only : (q n : ℕ) (cs : List Call) (j : ℕ) (s : Stamp) → slice_get (stamps_from q n cs) j ≡ Some s → (i : ℕ) × (s.call ≡ n + i) × (c : Call) × (slice_get cs i ≡ Some c) × (stamp_of c.answer ≡ Some s.stamp)
        only q n [] j s e = cc
        only q n (d ∷ cs) j s e = go (stamp_of d.answer) refl j e (λ i f. only q (suc n) cs i s f)
          where
            more : ((i : ℕ) × (s.call ≡ suc n + i) × (c : Call) × (slice_get cs i ≡ Some c) × (stamp_of c.answer ≡ Some s.stamp)) → (i : ℕ) × (s.call ≡ n + i) × (c : Call) × (slice_get (d ∷ cs) i ≡ Some c) × (stamp_of c.answer ≡ Some s.stamp)
            more h = (suc h.0, omega (arith, h.1), h.2, h.3, h.4)

            go : (o : Option ℕ) → stamp_of d.answer ≡ o → (j : ℕ) → slice_get (stamp_at q n o ++ stamps_from q (suc n) cs) j ≡ Some s → ((i : ℕ) → slice_get (stamps_from q (suc n) cs) i ≡ Some s → (k : ℕ) × (s.call ≡ suc n + k) × (c : Call) × (slice_get cs k ≡ Some c) × (stamp_of c.answer ≡ Some s.stamp)) → (i : ℕ) × (s.call ≡ n + i) × (c : Call) × (slice_get (d ∷ cs) i ≡ Some c) × (stamp_of c.answer ≡ Some s.stamp)
            go None f j g ih = more (ih j g)
            go (Some t) f zero g ih =
                let u : Stamp = record { stamp = t; origin = q; call = n } in
                let same : u ≡ s = same_Some u s g in
                let a : s.call ≡ n = sym (ap (λ z. z.call) same) in
                (0, omega (arith, a), d, refl, f ∙ ap (λ z. Some z.stamp) same)
            go (Some t) f (suc j) g ih = more (ih j g)
