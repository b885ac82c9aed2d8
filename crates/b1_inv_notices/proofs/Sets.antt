-- Rising lists of numbers, lists without repeats, and whether a number stands in a list.
use Rattle.std.proofs.Common.{◌≡◌, ◌≢◌, ◌⊎◌, refl, sym, ap, subst, ◌∙◌, inl, inr, ℕ, zero, suc, ◌+◌, ◌<◌, ◌≤◌, ◌==◌, Bool, true, false, cond, ◌||◌, List, [], ◌∷◌, drop, get_or, filter, length, Some, nat_lt}
use Rattle.std.specs.Prelude.{slice_get}
use Rattle.std.specs.List.{list_any, range_with_len}
use Rattle.std.proofs.lemmas.Bool.{eqb-true, eq-eqb, ltb-true, ltb-false}
use native.Mathlib.Omega.{arith}
use Rattle.b1_model.specs.MachineTables.{with_peer}
use Rattle.b1_step.specs.Rights.{Has}
use Rattle.b1_step.proofs.Lists.{filter_has}
use Rattle.b1_inv.specs.Words.{is_among}
use Rattle.b1_inv.specs.Notices.{AllAbove, Rises, Apart, AreOthers}

-- ---- elements

pub among_has : (n : ℕ) (list : List ℕ) → is_among n list ≡ true → Has list n
among_has n [] is = absurd (cc is)
among_has n (m ∷ rest) is = at (among_has n rest) (m == n) refl is
  where
    at : (list_any (λ q. q == n) rest ≡ true → Has rest n) → (b : Bool) → (m == n) ≡ b → (b || list_any (λ q. q == n) rest) ≡ true → Has (m ∷ rest) n
    at further true same h = inl (sym (eqb-true m n same))
    at further false same h = inr (further h)

pub has_among : (n : ℕ) (list : List ℕ) → Has list n → is_among n list ≡ true
has_among n [] h = absurd h
has_among n (m ∷ rest) (inl same) = rw (eq-eqb m n (sym same)) refl
has_among n (m ∷ rest) (inr further) = elim (m == n) as (λ b. (b || list_any (λ q. q == n) rest) ≡ true) [ true ↦ refl | false ↦ has_among n rest further ]

pub not_among : (n : ℕ) (list : List ℕ) → (Has list n → ⊥) → is_among n list ≡ false
not_among n list none = at (is_among n list) refl
  where
    at : (b : Bool) → is_among n list ≡ b → b ≡ false
    at true is = absurd (none (among_has n list is))
    at false is = refl

pub not_has : (n : ℕ) (list : List ℕ) → is_among n list ≡ false → Has list n → ⊥
not_has n list is h = let both : true ≡ false = sym (has_among n list h) ∙ is in absurd (cc both)

-- a number stands in a list, or it doesn't
pub in_or_not : (n : ℕ) (list : List ℕ) → Has list n ⊎ (Has list n → ⊥)
in_or_not n list = at (is_among n list) refl
  where
    at : (b : Bool) → is_among n list ≡ b → Has list n ⊎ (Has list n → ⊥)
    at true is = inl (among_has n list is)
    at false is = inr (not_has n list is)

pub some_of_has : {X : Type 0} (list : List X) (x : X) → Has list x → 1 ≤ length list
some_of_has [] x h = absurd h
some_of_has (y ∷ rest) x h = omega arith

-- ---- what is left from a place on

pub drop_has : {X : Type 0} (i : ℕ) (list : List X) (x : X) → Has (drop i list) x → Has list x
drop_has zero list x h = h
drop_has (suc i) [] x h = h
drop_has (suc i) (y ∷ rest) x h = inr (drop_has i rest x h)

next_is : (i : ℕ) → suc i ≡ i + 1
next_is i = omega arith

has_behind : (i : ℕ) (list : List ℕ) (x d : ℕ) → Has (drop i list) x → x ≢ get_or list i d → Has (drop (suc i) list) x
has_behind zero [] x d h apart = absurd h
has_behind zero (y ∷ rest) x d (inl same) apart = absurd (apart same)
has_behind zero (y ∷ rest) x d (inr further) apart = further
has_behind (suc i) [] x d h apart = absurd h
has_behind (suc i) (y ∷ rest) x d h apart = has_behind i rest x d h apart

behind_has : (i : ℕ) (list : List ℕ) (x : ℕ) → Has (drop (suc i) list) x → Has (drop i list) x
behind_has zero [] x h = absurd h
behind_has zero (y ∷ rest) x h = inr h
behind_has (suc i) [] x h = absurd h
behind_has (suc i) (y ∷ rest) x h = behind_has i rest x h

-- what is left from a place on and isn't at it is left behind it
pub has_drop_more : (i : ℕ) (list : List ℕ) (x d : ℕ) → Has (drop i list) x → x ≢ get_or list i d → Has (drop (i + 1) list) x
has_drop_more i list x d h apart = subst (λ n. Has (drop n list) x) (next_is i) (has_behind i list x d h apart)

pub drop_more_has : (i : ℕ) (list : List ℕ) (x : ℕ) → Has (drop (i + 1) list) x → Has (drop i list) x
drop_more_has i list x h = behind_has i list x (subst (λ n. Has (drop n list) x) (sym (next_is i)) h)

pub some_left : {X : Type 0} (i : ℕ) (list : List X) (x : X) → Has (drop i list) x → i < length list
some_left zero [] x h = absurd h
some_left zero (y ∷ rest) x h = omega arith
some_left (suc i) [] x h = absurd h
some_left (suc i) (y ∷ rest) x h = let k = some_left i rest x h in omega (arith, k)

pub has_at_place : {X : Type 0} (list : List X) (i : ℕ) (d : X) → i < length list → Has list (get_or list i d)
has_at_place [] i d within = absurd (omega (arith, within))
has_at_place (x ∷ rest) zero d within = inl refl
has_at_place (x ∷ rest) (suc i) d within = inr (has_at_place rest i d (omega (arith, within)))

pub has_index : {X : Type 0} (list : List X) (x : X) → Has list x → (i : ℕ) × (slice_get list i ≡ Some x)
has_index [] x h = absurd h
has_index (y ∷ rest) x (inl same) = (0, ap Some (sym same))
has_index (y ∷ rest) x (inr further) = let k = has_index rest x further in (suc k.0, k.1)

-- ---- rising

pub above_has : (n : ℕ) (list : List ℕ) (m : ℕ) → AllAbove n list → Has list m → n < m
above_has n [] m above h = absurd h
above_has n (k ∷ rest) m above (inl same) = omega (arith, above.0, same)
above_has n (k ∷ rest) m above (inr further) = above_has n rest m above.1 further

pub above_all : (n : ℕ) (list : List ℕ) → ((m : ℕ) → Has list m → n < m) → AllAbove n list
above_all n [] all = tt
above_all n (k ∷ rest) all = (all k (inl refl), above_all n rest (λ m h. all m (inr h)))

once_behind : (list : List ℕ) (i d : ℕ) → Rises list → Has (drop (suc i) list) (get_or list i d) → i < length list → ⊥
once_behind [] i d up h within = absurd (omega (arith, within))
once_behind (n ∷ rest) zero d up h within = let k = above_has n rest n up.0 h in absurd (omega (arith, k))
once_behind (n ∷ rest) (suc i) d up h within = once_behind rest i d up.1 h (omega (arith, within))

-- a rising list has a number once: what stands at a place isn't behind it
pub place_once : (list : List ℕ) (i d : ℕ) → Rises list → Has (drop (i + 1) list) (get_or list i d) → i < length list → ⊥
place_once list i d up h within = once_behind list i d up (subst (λ n. Has (drop n list) (get_or list i d)) (sym (next_is i)) h) within

pub rises_apart : (list : List ℕ) → Rises list → Apart list
rises_apart [] up = tt
rises_apart (n ∷ rest) up = ((λ h. let k = above_has n rest n up.0 h in absurd (omega (arith, k))), rises_apart rest up.1)

pub with_peer_has : (peer : ℕ) (list : List ℕ) (m : ℕ) → Has (with_peer peer list) m → (m ≡ peer) ⊎ Has list m
with_peer_has peer [] m h = elim h [ inl same ↦ inl same | inr further ↦ absurd further ]
with_peer_has peer (q ∷ rest) m h = at (with_peer_has peer rest m) (nat_lt peer q) (peer == q) h
  where
    at : (Has (with_peer peer rest) m → (m ≡ peer) ⊎ Has rest m) → (b c : Bool) → Has (cond b (peer ∷ q ∷ rest) (cond c (q ∷ rest) (q ∷ with_peer peer rest))) m → (m ≡ peer) ⊎ Has (q ∷ rest) m
    at further true c (inl same) = inl same
    at further true c (inr old) = inr old
    at further false true old = inr old
    at further false false (inl same) = inr (inl same)
    at further false false (inr more) = elim (further more) [ inl same ↦ inl same | inr old ↦ inr (inr old) ]

pub has_with_peer : (peer : ℕ) (list : List ℕ) (m : ℕ) → Has list m → Has (with_peer peer list) m
has_with_peer peer [] m h = absurd h
has_with_peer peer (q ∷ rest) m h =
    elim (nat_lt peer q) as (λ b. Has (cond b (peer ∷ q ∷ rest) (cond (peer == q) (q ∷ rest) (q ∷ with_peer peer rest))) m) [
      | true ↦ inr h
      | false ↦ elim (peer == q) as (λ c. Has (cond c (q ∷ rest) (q ∷ with_peer peer rest)) m) [
        | true ↦ h
        | false ↦ elim h [ inl same ↦ inl same | inr further ↦ inr (has_with_peer peer rest m further) ]
      ]
    ]

pub has_peer_new : (peer : ℕ) (list : List ℕ) → Has (with_peer peer list) peer
has_peer_new peer [] = inl refl
has_peer_new peer (q ∷ rest) = at (has_peer_new peer rest) (nat_lt peer q) (peer == q) refl
  where
    at : Has (with_peer peer rest) peer → (b c : Bool) → (peer == q) ≡ c → Has (cond b (peer ∷ q ∷ rest) (cond c (q ∷ rest) (q ∷ with_peer peer rest))) peer
    at further true c is = inl refl
    at further false true is = inl (eqb-true peer q is)
    at further false false is = inr further

pub rises_with_peer : (peer : ℕ) (list : List ℕ) → Rises list → Rises (with_peer peer list)
rises_with_peer peer [] up = (tt, tt)
rises_with_peer peer (q ∷ rest) up = at (rises_with_peer peer rest up.1) (nat_lt peer q) (peer == q) refl refl
  where
    at : Rises (with_peer peer rest) → (b c : Bool) → nat_lt peer q ≡ b → (peer == q) ≡ c → Rises (cond b (peer ∷ q ∷ rest) (cond c (q ∷ rest) (q ∷ with_peer peer rest)))
    at further true c below same = ((ltb-true peer q below, above_all peer rest (λ m h. let k = above_has q rest m up.0 h in let j = ltb-true peer q below in omega (arith, k, j))), up)
    at further false true below same = up
    at further false false below same =
        (above_all q (with_peer peer rest) (λ m h. elim (with_peer_has peer rest m h) [ inl is ↦ let j = ltb-false peer q below in let apart : peer ≢ q = (λ e. absurd (cc (sym (eq-eqb peer q e) ∙ same))) in omega (arith, j, apart, is) | inr old ↦ above_has q rest m up.0 old ]), further)

pub rises_filter : (test : ℕ → Bool) (list : List ℕ) → Rises list → Rises (filter test list)
rises_filter test [] up = tt
rises_filter test (n ∷ rest) up =
    elim (test n) as (λ b. Rises (cond b (n ∷ filter test rest) (filter test rest))) [
      | true ↦ (above_all n (filter test rest) (λ m h. above_has n rest m up.0 (filter_has test rest m h).0), rises_filter test rest up.1)
      | false ↦ rises_filter test rest up.1
    ]

pub range_has : (a n m : ℕ) → Has (range_with_len a n) m → (a ≤ m) × (m < a + n)
range_has a zero m h = absurd h
range_has a (suc n) m (inl same) = (omega (arith, same), omega (arith, same))
range_has a (suc n) m (inr further) = let k = range_has (a + 1) n m further in (omega (arith, k.0), omega (arith, k.1))

pub rises_range : (a n : ℕ) → Rises (range_with_len a n)
rises_range a zero = tt
rises_range a (suc n) = (above_all a (range_with_len (a + 1) n) (λ m h. let k = (range_has (a + 1) n m h).0 in omega (arith, k)), rises_range (a + 1) n)

pub rises_drop : (list : List ℕ) → Rises list → Rises (drop 1 list)
rises_drop [] up = tt
rises_drop (n ∷ rest) up = up.1

-- ---- peers that may be visited

pub others_none : (peers me : ℕ) → AreOthers peers me []
others_none peers me = record { rising = tt; others = λ q h. absurd h }

pub others_with : (peers me peer : ℕ) (list : List ℕ) → peer < peers → peer ≢ me → AreOthers peers me list → AreOthers peers me (with_peer peer list)
others_with peers me peer list within apart are = record {
  rising = rises_with_peer peer list are.rising;
  others = λ q h. elim (with_peer_has peer list q h) [
    | inl same ↦ subst (λ n. (n < peers) × (n ≢ me)) (sym same) (within, apart)
    | inr old ↦ are.others q old
  ];
}

pub others_drop : (peers me : ℕ) (list : List ℕ) → AreOthers peers me list → AreOthers peers me (drop 1 list)
others_drop peers me list are = record { rising = rises_drop list are.rising; others = λ q h. are.others q (drop_has 1 list q h) }
