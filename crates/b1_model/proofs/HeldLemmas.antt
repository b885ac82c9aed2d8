-- The indexes beside the wires.
use Rattle.std.specs.Prelude.{◌≡◌, refl, ℕ, ◌+◌, ◌<◌, ◌≤◌, zero, suc, Bool, true, false, ◌&&◌, ◌||◌, ◌==◌, nat_lt, if◌then◌else◌, List, [], ◌∷◌, ◌++◌, length, slice_get, Option, Some, None, unwrap_or}
use Rattle.std.specs.List.{list_any}
use Rattle.std.specs.Ordering.{nat_cmp, ordering_then, is_eq}
use Rattle.std.specs.declared.cmp.Ordering.{Ordering}
use Rattle.std.specs.declared.cmp.Ordering.TheVariants.{Less, Equal, Greater}
use Rattle.std.specs.BTreeMap.{BTreeMap, get, is_at}
use Rattle.std.specs.Map.{lookup}
use Rattle.std.proofs.lemmas.Bool.{eqb-true}
use Rattle.std.proofs.lemmas.List.Elements.{filter-append}
use Rattle.std.proofs.lemmas.List.Sums.{length-filter, count_by-le-length}
use Rattle.std.proofs.Common.{arith, sym, ap, ◌∙◌, ◌⊎◌, inl, inr}
use Rattle.b1_model.specs.declared.naming.Wire.{Wire}
use Rattle.b1_model.specs.Opening.{held_by, is_same}
use Rattle.b1_model.specs.Held.{pair_cmp, triple_cmp, AreIndexed}

eq_cmp : (a b : ℕ) → is_eq (nat_cmp a b) ≡ (a == b)
eq_cmp a b = go (nat_lt a b) (a == b) refl refl
  where
    go : (x y : Bool) → nat_lt a b ≡ x → (a == b) ≡ y → is_eq (if x then Less else (if y then Equal else Greater)) ≡ y
    go true true e f = let g : (a == b) ≡ false = grind (arith, e) in cc (f, g)
    go true false e f = refl
    go false true e f = refl
    go false false e f = refl

eq_then : (x y : Ordering) → is_eq (ordering_then x y) ≡ (is_eq x && is_eq y)
eq_then Less y = refl
eq_then Equal y = refl
eq_then Greater y = refl

eq_sym : (a b : ℕ) → (a == b) ≡ (b == a)
eq_sym a b = go (a == b) (b == a) refl refl
  where
    go : (x y : Bool) → (a == b) ≡ x → (b == a) ≡ y → x ≡ y
    go true true e f = refl
    go true false e f = let g : (b == a) ≡ true = grind (arith, e) in cc (f, g)
    go false true e f = let g : (a == b) ≡ true = grind (arith, f) in cc (e, g)
    go false false e f = refl

pub and_assoc : (x y z : Bool) → (x && (y && z)) ≡ ((x && y) && z)
and_assoc true y z = refl
and_assoc false y z = refl

both : (a b : Bool) → (a && b) ≡ true → (a ≡ true) × (b ≡ true)
both true true f = (refl, refl)
both true false f = cc f
both false b f = cc f

pair_eq : (a b c d : ℕ) → is_eq (pair_cmp (a, b) (c, d)) ≡ ((a == c) && (b == d))
pair_eq a b c d = rw (eq_then (nat_cmp a c) (nat_cmp b d), eq_cmp a c, eq_cmp b d) refl

triple_eq : (w u : Wire) → is_eq (triple_cmp (w.from, w.to, w.number) (u.from, u.to, u.number)) ≡ is_same u w
triple_eq w u =
    rw (eq_then (ordering_then (nat_cmp w.from u.from) (nat_cmp w.to u.to)) (nat_cmp w.number u.number), eq_then (nat_cmp w.from u.from) (nat_cmp w.to u.to), eq_cmp w.from u.from, eq_cmp w.to u.to, eq_cmp w.number u.number)
    (rw (eq_sym w.from u.from, eq_sym w.to u.to, eq_sym w.number u.number) refl)

-- wires that are the same
pub same_wire : (u w : Wire) → is_same u w ≡ true → u ≡ w
same_wire u w e =
    let p = both ((u.from == w.from) && (u.to == w.to)) (u.number == w.number) e in
    let q = both (u.from == w.from) (u.to == w.to) p.0 in
    let f : u.from ≡ w.from = eqb-true u.from w.from q.0 in
    let t : u.to ≡ w.to = eqb-true u.to w.to q.1 in
    let n : u.number ≡ w.number = eqb-true u.number w.number p.1 in
    ap (λ x. record u { from = x }) f ∙ ap (λ x. record { from = w.from; to = x; number = u.number }) t ∙ ap (λ x. record { from = w.from; to = w.to; number = x }) n

same_self : (n : ℕ) → (n == n) ≡ true
same_self n = grind arith

pub same_refl : (w : Wire) → is_same w w ≡ true
same_refl w = rw (same_self w.from, same_self w.to, same_self w.number) refl

or_parts : (a b : Bool) → (a || b) ≡ false → (a ≡ false) × (b ≡ false)
or_parts true b e = cc e
or_parts false b e = (refl, e)

not_there : (ws : List Wire) (w u : Wire) (place : ℕ) → list_any (λ h. is_same h w) ws ≡ false → slice_get ws place ≡ Some u → is_same u w ≡ false
not_there [] w u place none at = cc at
not_there (x ∷ xs) w u zero none at =
    let p = or_parts (is_same x w) (list_any (λ h. is_same h w) xs) none in
    let e : x ≡ u = cc at in
    rw (← e) p.0
not_there (x ∷ xs) w u (suc place) none at = not_there xs w u place (or_parts (is_same x w) (list_any (λ h. is_same h w) xs) none).1 at

-- a wire among others has a place
pub there : (ws : List Wire) (w : Wire) → list_any (λ h. is_same h w) ws ≡ true → (place : ℕ) × (slice_get ws place ≡ Some w)
there [] w some = cc some
there (x ∷ xs) w some = go (is_same x w) refl (there xs w)
  where
    go : (b : Bool) → is_same x w ≡ b → (list_any (λ h. is_same h w) xs ≡ true → (place : ℕ) × (slice_get xs place ≡ Some w)) → (place : ℕ) × (slice_get (x ∷ xs) place ≡ Some w)
    go true e rest = (0, ap (λ y. Some y) (same_wire x w e))
    go false e rest = let t = rest (sym (ap (λ b. b || list_any (λ h. is_same h w) xs) e) ∙ some) in (suc t.0, t.1)

last_cases : {X : Type 0} (xs : List X) (w u : X) (place : ℕ) → slice_get (xs ++ w ∷ []) place ≡ Some u → (slice_get xs place ≡ Some u) ⊎ ((place ≡ length xs) × (u ≡ w))
last_cases [] w u zero at = inr (refl, sym (cc at))
last_cases [] w u (suc place) at = cc at
last_cases (x ∷ xs) w u zero at = inl at
last_cases (x ∷ xs) w u (suc place) at = elim (last_cases xs w u place at) [
  | inl h ↦ inl h
  | inr h ↦ inr (ap suc h.0, h.1)
]

not_below : (i : ℕ) → i < 0 → ⊥
not_below i l = omega (arith, l)

before_last : {X : Type 0} (xs ys : List X) (i : ℕ) → i < length xs → slice_get (xs ++ ys) i ≡ slice_get xs i
before_last [] ys i l = absurd (not_below i l)
before_last (x ∷ xs) ys zero l = refl
before_last (x ∷ xs) ys (suc i) l = before_last xs ys i (omega (arith, l))

the_last : {X : Type 0} (xs : List X) (w : X) → slice_get (xs ++ w ∷ []) (length xs) ≡ Some w
the_last [] w = refl
the_last (x ∷ xs) w = the_last xs w

length_more : {X : Type 0} (xs : List X) (w : X) → length (xs ++ w ∷ []) ≡ length xs + 1
length_more [] w = refl
length_more (x ∷ xs) w = let h = length_more xs w in omega (arith, h)

pub held_few : (ws : List Wire) (peer : ℕ) → length (held_by ws peer) ≤ length ws
held_few ws peer = rw (length-filter (λ w. w.to == peer) ws) (count_by-le-length (λ w. w.to == peer) ws)

-- the places after a key that no wire of the list has
abbrev Places : List Wire → BTreeMap (ℕ × ℕ × ℕ) ℕ → Type 0
Places ws m = (place : ℕ) (w : Wire) → slice_get ws place ≡ Some w → get triple_cmp m (w.from, w.to, w.number) ≡ Some place

places_kept : (ws : List Wire) (w : Wire) (v : ℕ) (m n : BTreeMap (ℕ × ℕ × ℕ) ℕ) → list_any (λ h. is_same h w) ws ≡ false → ((k : ℕ × ℕ × ℕ) → get triple_cmp n k ≡ (if is_at (triple_cmp (w.from, w.to, w.number)) k then Some v else get triple_cmp m k)) → Places ws m → Places ws n
places_kept ws w v m n none h p place u at =
    h (u.from, u.to, u.number) ∙ ap (λ b. if b then Some v else get triple_cmp m (u.from, u.to, u.number)) (triple_eq w u ∙ not_there ws w u place none at) ∙ p place u at

places_more : (ws : List Wire) (w : Wire) (n : BTreeMap (ℕ × ℕ × ℕ) ℕ) → get triple_cmp n (w.from, w.to, w.number) ≡ Some (length ws) → Places ws n → Places (ws ++ w ∷ []) n
places_more ws w n last p place u at = elim (last_cases ws w u place at) [
  | inl h ↦ p place u h
  | inr h ↦ rw (h.1, h.0) last
]

-- what each peer holds, after a row that no peer has yet
abbrev Rows : List Wire → BTreeMap (ℕ × ℕ) Wire → Type 0
Rows ws m = (peer index : ℕ) → index < length (held_by ws peer) → get pair_cmp m (peer, index) ≡ slice_get (held_by ws peer) index

rows_kept : (ws : List Wire) (w : Wire) (count : ℕ) (m n : BTreeMap (ℕ × ℕ) Wire) → count ≡ length (held_by ws w.to) → ((k : ℕ × ℕ) → get pair_cmp n k ≡ (if is_at (pair_cmp (w.to, count)) k then Some w else get pair_cmp m k)) → Rows ws m → Rows ws n
rows_kept ws w count m n many h r peer index within =
    h (peer, index) ∙ ap (λ b. if b then Some w else get pair_cmp m (peer, index)) (pair_eq w.to count peer index ∙ go (w.to == peer) refl) ∙ r peer index within
  where
    go : (b : Bool) → (w.to == peer) ≡ b → ((w.to == peer) && (count == index)) ≡ false
    go true e =
        let own : w.to ≡ peer = eqb-true w.to peer e in
        let most : index < count = rw (many, own) within in
        let apart : (count == index) ≡ false = grind (arith, most) in
        rw (e, apart) refl
    go false e = rw e refl

held_more : (ws : List Wire) (w : Wire) (peer : ℕ) → held_by (ws ++ w ∷ []) peer ≡ held_by ws peer ++ (if w.to == peer then w ∷ [] else [])
held_more ws w peer = filter-append (λ x. x.to == peer) ws (w ∷ [])

no_more : {X : Type 0} (xs : List X) → xs ++ [] ≡ xs
no_more [] = refl
no_more (x ∷ xs) = ap (λ ys. x ∷ ys) (no_more xs)

rows_more : (ws : List Wire) (w : Wire) (n : BTreeMap (ℕ × ℕ) Wire) → get pair_cmp n (w.to, length (held_by ws w.to)) ≡ Some w → Rows ws n → Rows (ws ++ w ∷ []) n
rows_more ws w n last r peer index = rw (held_more ws w peer) (go (w.to == peer) refl)
  where
    go : (b : Bool) → (w.to == peer) ≡ b → index < length (held_by ws peer ++ (if b then w ∷ [] else [])) → get pair_cmp n (peer, index) ≡ slice_get (held_by ws peer ++ (if b then w ∷ [] else [])) index
    go false e within = let same = no_more (held_by ws peer) in rw same (r peer index (rw (← same) within))
    go true e within = elim (the_cases index (length (held_by ws peer)) (rw (← length_more (held_by ws peer) w) within)) [
      | inl l ↦ r peer index l ∙ sym (before_last (held_by ws peer) (w ∷ []) index l)
      | inr l ↦ let own : w.to ≡ peer = eqb-true w.to peer e in rw (l, ← own) (last ∙ sym (the_last (held_by ws w.to) w))
    ]
      where
        the_cases : (i n : ℕ) → i < n + 1 → (i < n) ⊎ (i ≡ n)
        the_cases i n l = elim (nat_lt i n) as (λ b. nat_lt i n ≡ b → (i < n) ⊎ (i ≡ n)) [
          | true ↦ λ e. inl (grind (arith, e))
          | false ↦ λ e. inr (grind (arith, e, l))
        ] refl

-- how much each peer holds
abbrev Counts : List Wire → BTreeMap ℕ ℕ → Type 0
Counts ws m = (peer : ℕ) → unwrap_or (get nat_cmp m peer) 0 ≡ length (held_by ws peer)

counts_more : (ws : List Wire) (w : Wire) (count : ℕ) (m n : BTreeMap ℕ ℕ) → count ≡ length (held_by ws w.to) → ((k : ℕ) → get nat_cmp n k ≡ (if is_at (nat_cmp w.to) k then Some (count + 1) else get nat_cmp m k)) → Counts ws m → Counts (ws ++ w ∷ []) n
counts_more ws w count m n many h p peer =
    ap (λ o. unwrap_or o 0) (h peer ∙ ap (λ b. if b then Some (count + 1) else get nat_cmp m peer) (eq_cmp w.to peer)) ∙ go (w.to == peer) refl ∙ ap (λ xs. length xs) (sym (held_more ws w peer))
  where
    go : (b : Bool) → (w.to == peer) ≡ b → unwrap_or (if b then Some (count + 1) else get nat_cmp m peer) 0 ≡ length (held_by ws peer ++ (if b then w ∷ [] else []))
    go false e = p peer ∙ ap (λ xs. length xs) (sym (no_more (held_by ws peer)))
    go true e = let own : w.to ≡ peer = eqb-true w.to peer e in ap (λ c. c + 1) (many ∙ ap (λ t. length (held_by ws t)) own) ∙ sym (length_more (held_by ws peer) w)

module _ (ws : List Wire) (w : Wire) (count place : ℕ) (places next_places : BTreeMap (ℕ × ℕ × ℕ) ℕ) (rows next_rows : BTreeMap (ℕ × ℕ) Wire) (counts next_counts : BTreeMap ℕ ℕ) (was : AreIndexed ws places rows counts) (new : list_any (λ h. is_same h w) ws ≡ false) (many : count ≡ unwrap_or (get nat_cmp counts w.to) 0) (placed : (k : ℕ × ℕ × ℕ) → get triple_cmp next_places k ≡ (if is_at (triple_cmp (w.from, w.to, w.number)) k then Some place else get triple_cmp places k)) where
  many_held : count ≡ length (held_by ws w.to)
  many_held = many ∙ was.counted w.to

  -- with a place alone
  pub with_place : next_rows.entries ≡ rows.entries → AreIndexed ws next_places next_rows counts
  with_place same = record {
    placed = places_kept ws w place places next_places new placed was.placed;
    held = λ peer index l. ap (λ es. lookup (is_at (pair_cmp (peer, index))) es) same ∙ was.held peer index l;
    counted = was.counted;
  }

  module _ (held : (k : ℕ × ℕ) → get pair_cmp next_rows k ≡ (if is_at (pair_cmp (w.to, count)) k then Some w else get pair_cmp rows k)) where
    -- with a place and a row
    pub with_row : next_counts.entries ≡ counts.entries → AreIndexed ws next_places next_rows next_counts
    with_row same = record {
      placed = places_kept ws w place places next_places new placed was.placed;
      held = rows_kept ws w count rows next_rows many_held held was.held;
      counted = λ peer. ap (λ es. unwrap_or (lookup (is_at (nat_cmp peer)) es) 0) same ∙ was.counted peer;
    }

    -- with all
    pub with_all : ((k : ℕ) → get nat_cmp next_counts k ≡ (if is_at (nat_cmp w.to) k then Some (count + 1) else get nat_cmp counts k)) → get triple_cmp next_places (w.from, w.to, w.number) ≡ Some place → place ≡ length ws → get pair_cmp next_rows (w.to, count) ≡ Some w → AreIndexed (ws ++ w ∷ []) next_places next_rows next_counts
    with_all counted at last row = record {
      placed = places_more ws w next_places (at ∙ ap (λ n. Some n) last) (places_kept ws w place places next_places new placed was.placed);
      held = rows_more ws w next_rows (rw (← many_held) row) (rows_kept ws w count rows next_rows many_held held was.held);
      counted = counts_more ws w count counts next_counts many_held counted was.counted;
    }

module _ (ws : List Wire) (places : BTreeMap (ℕ × ℕ × ℕ) ℕ) (placed : Places ws places) (w : Wire) where
  some_place : (found : Option ℕ) → get triple_cmp places (w.from, w.to, w.number) ≡ found → list_any (λ h. is_same h w) ws ≡ true → (place : ℕ) × (found ≡ Some place) × (slice_get ws place ≡ Some w)
  some_place found at some = let t = there ws w some in (t.0, sym at ∙ placed t.0 w t.1, t.1)

  -- a wire that has no place, one that has a place past the end, and one that has a wire's place
  pub has_none : get triple_cmp places (w.from, w.to, w.number) ≡ None → list_any (λ h. is_same h w) ws ≡ false
  has_none at = go (list_any (λ h. is_same h w) ws) refl
    where
      go : (b : Bool) → list_any (λ h. is_same h w) ws ≡ b → b ≡ false
      go true e = let t = some_place None at e in cc t.1
      go false e = refl

  pub has_past : (place : ℕ) → get triple_cmp places (w.from, w.to, w.number) ≡ Some place → slice_get ws place ≡ None → list_any (λ h. is_same h w) ws ≡ false
  has_past place at past = go (list_any (λ h. is_same h w) ws) refl
    where
      go : (b : Bool) → list_any (λ h. is_same h w) ws ≡ b → b ≡ false
      go true e = let t = some_place (Some place) at e in let same : place ≡ t.0 = cc t.1 in let gone : None ≡ Some w = sym past ∙ ap (λ p. slice_get ws p) same ∙ t.2 in cc gone
      go false e = refl

  pub has_place : (place : ℕ) (u : Wire) → get triple_cmp places (w.from, w.to, w.number) ≡ Some place → slice_get ws place ≡ Some u → is_same u w ≡ list_any (λ h. is_same h w) ws
  has_place place u at there_is = go (list_any (λ h. is_same h w) ws) refl
    where
      go : (b : Bool) → list_any (λ h. is_same h w) ws ≡ b → is_same u w ≡ b
      go true e = let t = some_place (Some place) at e in let same : place ≡ t.0 = cc t.1 in let it : Some u ≡ Some w = sym there_is ∙ ap (λ p. slice_get ws p) same ∙ t.2 in let own : u ≡ w = cc it in rw own (same_refl w)
      go false e = not_there ws w u place e there_is
