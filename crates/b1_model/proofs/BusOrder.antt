-- The bus order is what a stable sort by stamp and origin gives.
use Rattle.std.specs.Prelude.{◌≡◌, refl, ℕ, zero, suc, ◌+◌, ◌<◌, Bool, true, false, ◌&&◌, ◌||◌, ◌==◌, nat_lt, List, [], ◌∷◌, ◌++◌, length, take, filter, flat_map, slice_get, Option, Some, if◌then◌else◌}
use Rattle.std.specs.List.{range_with_len}
use Rattle.std.specs.Cmp.{IsStrictWeakOrder}
use Rattle.std.specs.Ordering.{is_lt, nat_cmp, ordering_then}
use Rattle.std.specs.declared.cmp.Ordering.TheVariants.{Less, Equal, Greater}
use Rattle.std.specs.List.Sorted.{ties, IsSortedBy, IsStableBy}
use Rattle.std.proofs.lemmas.Grind.{flat_map-append}
use Rattle.std.proofs.lemmas.List.{append-nil}
use Rattle.std.proofs.Common.{get_or, arith, subst, sym, ap, ◌∙◌, append_assoc, add-zero, add-one}
use Rattle.std.proofs.lemmas.Option.{slice_get_read}
use Rattle.b1_model.specs.declared.records.Stamp.{Stamp}
use Rattle.b1_model.specs.declared.records.Call.{Call}
use Rattle.b1_model.specs.declared.records.Record.{Record}
use Rattle.b1_model.specs.declared.records.PeerCalls.{PeerCalls}
use Rattle.b1_model.specs.Names.{calls_of, calls_in}
use Rattle.b1_model.specs.Ledger.{is_before, into_order, in_order, stamp_of, stamp_at, stamps_from}
use Rattle.b1_model.proofs.StableSort.{AllAbove, Rises, rises_of_sorted, above_above, same_list}

-- the first stamped call is before the second
abbrev pub below : Stamp → Stamp → Bool
below x y = is_before x.stamp x.origin y.stamp y.origin

-- by numbers
one_way : (s p t q : ℕ) → is_before s p t q ≡ true → is_before t q s p ≡ false
one_way s p t q e = grind (arith, e)

chain : (s p t q u v : ℕ) → is_before s p t q ≡ false → is_before t q u v ≡ false → is_before s p u v ≡ false
chain s p t q u v e f = grind (arith, e, f)

pub below_orders : IsStrictWeakOrder below
below_orders = record {
  one_way = λ x y e. one_way x.stamp x.origin y.stamp y.origin e;
  chain = λ x y z e f. chain x.stamp x.origin y.stamp y.origin z.stamp z.origin e f;
}

-- as std compares pairs
pub compares : (s p t q : ℕ) → is_lt (ordering_then (nat_cmp s t) (nat_cmp p q)) ≡ is_before s p t q
compares s p t q = go (nat_lt s t) (s == t) (nat_lt p q) (p == q)
  where
    go : (a b c d : Bool) → is_lt (ordering_then (if a then Less else (if b then Equal else Greater)) (if c then Less else (if d then Equal else Greater))) ≡ (a || (b && c))
    go true b c d = refl
    go false true true d = refl
    go false true false true = refl
    go false true false false = refl
    go false false c d = refl

above_into : (z s : Stamp) (ts : List Stamp) → below s z ≡ false → AllAbove below z ts → AllAbove below z (into_order s ts)
above_into z s [] e h = (e, tt)
above_into z s (t ∷ ts) e h = go (below t s) (above_into z s ts e h.1)
  where
    go : (b : Bool) → AllAbove below z (into_order s ts) → AllAbove below z (if b then t ∷ into_order s ts else s ∷ t ∷ ts)
    go true rest = (h.0, rest)
    go false rest = (e, h)

rises_into : (s : Stamp) (ts : List Stamp) → Rises below ts → Rises below (into_order s ts)
rises_into s [] h = (tt, tt)
rises_into s (t ∷ ts) h = go (below t s) refl (rises_into s ts h.1)
  where
    go : (b : Bool) → below t s ≡ b → Rises below (into_order s ts) → Rises below (if b then t ∷ into_order s ts else s ∷ t ∷ ts)
    go true e rest = (above_into t s ts (below_orders.one_way t s e) h.0, rest)
    go false e rest = ((e, above_above below below_orders s t ts e h.0), h)

rises_in_order : (ss : List Stamp) → Rises below (in_order ss)
rises_in_order [] = tt
rises_in_order (s ∷ ss) = rises_into s (in_order ss) (rises_in_order ss)

-- of a call and one that is before it at most one ties with another
apart : (x s t : Stamp) → below t s ≡ true → ties below x s ≡ true → ties below x t ≡ false
apart x s t e f = go (below x t) (below t x) (below x s) (below s x) refl refl refl refl
  where
    go : (a b c d : Bool) → below x t ≡ a → below t x ≡ b → below x s ≡ c → below s x ≡ d → ties below x t ≡ false
    go true b c d ea eb ec ed = rw ea refl
    go false true c d ea eb ec ed = rw (ea, eb) refl
    go false false true d ea eb ec ed = let h : false ≡ true = rw ec at f in cc h
    go false false false true ea eb ec ed = let h : false ≡ true = rw (ec, ed) at f in cc h
    go false false false false ea eb ec ed = let h : below t s ≡ false = below_orders.chain t x s eb ec in cc (h, e)

stable_into : (x s : Stamp) (ts : List Stamp) → filter (ties below x) (into_order s ts) ≡ filter (ties below x) (s ∷ ts)
stable_into x s [] = refl
stable_into x s (t ∷ ts) = go (below t s) refl (stable_into x s ts)
  where
    swaps : (a b : Bool) → (a ≡ true → b ≡ false) → (ys zs : List Stamp) → ys ≡ (if a then s ∷ zs else zs) → (if b then t ∷ ys else ys) ≡ (if a then s ∷ (if b then t ∷ zs else zs) else (if b then t ∷ zs else zs))
    swaps true true h ys zs e = let g : true ≡ false = h refl in cc g
    swaps true false h ys zs e = e
    swaps false true h ys zs e = ap (λ l. t ∷ l) e
    swaps false false h ys zs e = e

    go : (b : Bool) → below t s ≡ b → filter (ties below x) (into_order s ts) ≡ filter (ties below x) (s ∷ ts) → filter (ties below x) (if b then t ∷ into_order s ts else s ∷ t ∷ ts) ≡ filter (ties below x) (s ∷ t ∷ ts)
    go true e h = swaps (ties below x s) (ties below x t) (apart x s t e) (filter (ties below x) (into_order s ts)) (filter (ties below x) ts) h
    go false e h = refl

stable_in_order : (x : Stamp) (ss : List Stamp) → filter (ties below x) (in_order ss) ≡ filter (ties below x) ss
stable_in_order x [] = refl
stable_in_order x (s ∷ ss) = stable_into x s (in_order ss) ∙ more (ties below x s) (stable_in_order x ss)
  where
    more : (b : Bool) → filter (ties below x) (in_order ss) ≡ filter (ties below x) ss → (if b then s ∷ filter (ties below x) (in_order ss) else filter (ties below x) (in_order ss)) ≡ (if b then s ∷ filter (ties below x) ss else filter (ties below x) ss)
    more true h = ap (λ l. s ∷ l) h
    more false h = h

sorted_below : (ss ts : List Stamp) → IsSortedBy below ts → IsStableBy below ss ts → ts ≡ in_order ss
sorted_below ss ts up stable = same_list below below_orders ts (in_order ss) (rises_of_sorted below below_orders ts up) (rises_in_order ss) (λ x. stable x ∙ sym (stable_in_order x ss))

-- what a stable sort by an order that is the same as `below` gives
pub sorted_is_in_order : (lt : Stamp → Stamp → Bool) (ss ts : List Stamp) → ((x y : Stamp) → lt x y ≡ below x y) → IsSortedBy lt ts → IsStableBy lt ss ts → ts ≡ in_order ss
sorted_is_in_order lt ss ts same up stable = sorted_below ss ts (subst (λ f. IsSortedBy f ts) alike up) (subst (λ f. IsStableBy f ss ts) alike stable)
  where
    alike : lt ≡ below
    alike = λ i x y. same x y i

-- ---- gathering

take_next : {A : Type 0} (xs : List A) (i : ℕ) (x : A) → slice_get xs i ≡ Some x → take (suc i) xs ≡ take i xs ++ x ∷ []
take_next [] i x e = cc
take_next (y ∷ xs) zero x e = cc
take_next (y ∷ xs) (suc i) x e = rw (take_next xs i x e) refl

stamps-append : (p k : ℕ) (cs : List Call) (c : Call) → stamps_from p k (cs ++ c ∷ []) ≡ stamps_from p k cs ++ stamp_at p (k + length cs) (stamp_of c.answer)
stamps-append p k [] c = rw (add-zero k) (append-nil (stamp_at p k (stamp_of c.answer)))
stamps-append p k (d ∷ cs) c =
    let n : suc k + length cs ≡ k + suc (length cs) = omega arith in
    rw (stamps-append p (suc k) cs c, n) (sym (append_assoc (stamp_at p k (stamp_of d.answer)) (stamps_from p (suc k) cs) (stamp_at p (k + suc (length cs)) (stamp_of c.answer))))

take_length : {A : Type 0} (xs : List A) (i : ℕ) (x : A) → slice_get xs i ≡ Some x → length (take i xs) ≡ i
take_length [] i x e = cc
take_length (y ∷ xs) zero x e = refl
take_length (y ∷ xs) (suc i) x e = ap suc (take_length xs i x e)

-- one call more of a peer
pub stamps_next : (p i : ℕ) (cs : List Call) (c : Call) → slice_get cs i ≡ Some c → stamps_from p 0 (take (suc i) cs) ≡ stamps_from p 0 (take i cs) ++ stamp_at p i (stamp_of c.answer)
stamps_next p i cs c at =
    let n : 0 + length (take i cs) ≡ i = omega (arith, take_length cs i c at) in
    rw (take_next cs i c at, stamps-append p 0 (take i cs) c, n) refl

range_more : (a n : ℕ) → range_with_len a (suc n) ≡ range_with_len a n ++ (a + n) ∷ []
range_more a zero = rw (add-zero a) refl
range_more a (suc n) = let e : (a + 1) + n ≡ a + suc n = omega arith in ap (λ l. a ∷ l) (range_more (a + 1) n ∙ ap (λ m. range_with_len (a + 1) n ++ m ∷ []) e)

-- one peer more
pub peers_next : {B : Type 0} (f : ℕ → List B) (n : ℕ) → flat_map f (range_with_len 0 (suc n)) ≡ flat_map f (range_with_len 0 n) ++ f n
peers_next f n =
    let e : 0 + n ≡ n = omega arith in
    ap (flat_map f) (range_more 0 n) ∙ (flat_map-append f (range_with_len 0 n) ((0 + n) ∷ []) ∙ ap (λ l. flat_map f (range_with_len 0 n) ++ l) (append-nil (f (0 + n)) ∙ ap f e))

-- a loop's step over the calls of a peer
pub gathered_one : (p i : ℕ) (cs : List Call) (c : Call) (before after now : List Stamp) (stamp : Option ℕ) → now ≡ before ++ stamps_from p 0 (take i cs) → i < length cs → c ≡ get_or cs i c → after ≡ now ++ stamp_at p i stamp → stamp ≡ stamp_of c.answer → after ≡ before ++ stamps_from p 0 (take (i + 1) cs)
gathered_one p i cs c before after now stamp e l is f g =
    let at : slice_get cs i ≡ Some c = slice_get_read cs (length cs) i c refl l is in
    rw (f, e, g, add-one i, stamps_next p i cs c at) (append_assoc before (stamps_from p 0 (take i cs)) (stamp_at p i (stamp_of c.answer)))

-- a loop's step over the peers
pub gathered_peer : (r : Record) (i : ℕ) (xs : List PeerCalls) (x : PeerCalls) (cs : List Call) (after now : List Stamp) → xs ≡ r.peers → cs ≡ x.calls → now ≡ flat_map (λ p. stamps_from p 0 (calls_of r p)) (range_with_len 0 i) → i < length xs → x ≡ get_or xs i x → after ≡ now ++ stamps_from i 0 cs → after ≡ flat_map (λ p. stamps_from p 0 (calls_of r p)) (range_with_len 0 (i + 1))
gathered_peer r i xs x cs after now all own e l is f =
    let at : slice_get r.peers i ≡ Some x = subst (λ ys. slice_get ys i ≡ Some x) all (slice_get_read xs (length xs) i x refl l is) in
    let calls : cs ≡ calls_of r i = own ∙ sym (ap calls_in at) in
    rw (f, e, calls, add-one i) (sym (peers_next (λ p. stamps_from p 0 (calls_of r p)) i))
