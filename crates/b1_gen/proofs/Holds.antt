-- The handle under which a peer holds another's node.
use Rattle.std.proofs.Common.{◌≡◌, ◌≢◌, ℕ, zero, suc, ◌+◌, ◌-◌, ◌*◌, ◌/◌, ◌%◌, ◌==◌, ◌≤◌, ◌<◌, true, false, not, cond, List, [], ◌∷◌, ◌++◌, map, slice_get, Some, refl, sym, ap, ◌∙◌, arith, subst, inl, inr}
use Rattle.std.specs.Option.{option_map}
use Rattle.std.specs.List.{flat_map, range_with_len, filter}
use Rattle.std.proofs.lemmas.Grind.{common_steps}
use Rattle.std.proofs.lemmas.List.Elements.{filter-append}
use Rattle.std.proofs.lemmas.Bool.{cases_eq, cases_lt, lt-ltb, le-ltb}
use Rattle.std.proofs.lemmas.Option.{slice_get-map}
use Rattle.b1_model.specs.declared.naming.Wire.{Wire}
use Rattle.b1_model.specs.Opening.{held_by}
use Rattle.b1_gen.specs.Generated.{below, node_wire, others, wires_of, opening_of, handle_at, NamesNodeOf}

-- the numbers but one
abbrev but : ℕ → List ℕ → List ℕ
but p xs = filter (λ q. not (q == p)) xs

but-here : (p : ℕ) (xs : List ℕ) → but p (p ∷ xs) ≡ but p xs
but-here p xs = grind (arith, common_steps)

but-other : (p q : ℕ) (xs : List ℕ) → q ≢ p → but p (q ∷ xs) ≡ q ∷ but p xs
but-other p q xs apart = grind (arith, common_steps)

-- ---- where a number stands among them

-- at the front, and one further
at_front : (p q a i : ℕ) (xs : List ℕ) → a ≢ p → a ≡ q → i ≡ 0 → slice_get (but p (a ∷ xs)) i ≡ Some q
at_front p q a i xs apart same e = ap (slice_get (but p (a ∷ xs))) e ∙ ap (λ l. slice_get l 0) (but-other p a xs apart) ∙ ap Some same

further : (p q a i j : ℕ) (xs : List ℕ) → a ≢ p → i ≡ suc j → slice_get (but p xs) j ≡ Some q → slice_get (but p (a ∷ xs)) i ≡ Some q
further p q a i j xs apart e found = ap (slice_get (but p (a ∷ xs))) e ∙ ap (λ l. slice_get l (suc j)) (but-other p a xs apart) ∙ found

past : (p q a n i : ℕ) → p < a → a ≤ q → q < a + n → i + a ≡ q → slice_get (but p (range_with_len a n)) i ≡ Some q
past p q a zero i low le high e = absurd (omega arith)
past p q a (suc n) i low le high e = elim (cases_eq a q) [
  | inl same ↦ at_front p q a i (range_with_len (a + 1) n) (λ k. omega arith) same (omega arith)
  | inr other ↦ further p q a i (i - 1) (range_with_len (a + 1) n) (λ k. omega arith) (omega arith) (past p q (a + 1) n (i - 1) (omega arith) (omega arith) (omega arith) (omega arith))
]

stands : (p q a n i : ℕ) → a ≤ p → a ≤ q → q < a + n → (q < p → i + a ≡ q) → (p < q → i + a + 1 ≡ q) → q ≢ p → slice_get (but p (range_with_len a n)) i ≡ Some q
stands p q a zero i low le high before after apart = absurd (omega arith)
stands p q a (suc n) i low le high before after apart = elim (cases_eq a p) [
  | inl here ↦
      ap (λ l. slice_get l i) (subst (λ k. but p (k ∷ range_with_len (a + 1) n) ≡ but p (range_with_len (a + 1) n)) (sym here) (but-here p (range_with_len (a + 1) n)))
      ∙ past p q (a + 1) n i (omega arith) (omega arith) (omega arith) (omega arith)
  | inr there ↦ elim (cases_eq a q) [
    | inl same ↦ at_front p q a i (range_with_len (a + 1) n) there same (omega arith)
    | inr other ↦
        let some : 1 ≤ i = elim (cases_lt q p) [ inl less ↦ let f = before less in omega arith | inr least ↦ let f = after (omega arith) in omega arith ] in
        further p q a i (i - 1) (range_with_len (a + 1) n) there (omega arith)
        (stands p q (a + 1) n (i - 1) (omega arith) (omega arith) (omega arith) (λ h. let f = before h in omega arith) (λ h. let f = after h in omega arith) apart)
  ]
]

-- ---- the wires to a peer

-- of the wires of one node, the one to a peer
wires_to : (o p : ℕ) (xs : List ℕ) → held_by (map (node_wire o) xs) p ≡ map (node_wire o) (filter (λ q. q == p) xs)
wires_to o p [] = refl
wires_to o p (q ∷ xs) = elim (q == p) as (λ b. cond b (node_wire o q ∷ held_by (map (node_wire o) xs) p) (held_by (map (node_wire o) xs) p) ≡ map (node_wire o) (cond b (q ∷ filter (λ q. q == p) xs) (filter (λ q. q == p) xs))) [
  | true ↦ ap (λ l. node_wire o q ∷ l) (wires_to o p xs)
  | false ↦ wires_to o p xs
]

none_to_itself : (p : ℕ) (xs : List ℕ) → filter (λ q. q == p) (but p xs) ≡ []
none_to_itself p [] = refl
none_to_itself p (x ∷ xs) = let ih = none_to_itself p xs in grind (arith, common_steps)

none_past : (o p a n : ℕ) → p < a → filter (λ q. q == p) (but o (range_with_len a n)) ≡ []
none_past o p a zero low = refl
none_past o p a (suc n) low = let ih = none_past o p (a + 1) n (omega arith) in grind (arith, common_steps)

one_to : (o p a n : ℕ) → a ≤ p → p < a + n → p ≢ o → filter (λ q. q == p) (but o (range_with_len a n)) ≡ p ∷ []
one_to o p a zero low high apart = absurd (omega arith)
one_to o p a (suc n) low high apart = elim (cases_eq a p) [
  | inl here ↦ let rest = none_past o p (a + 1) n (omega arith) in grind (arith, common_steps)
  | inr there ↦ let ih = one_to o p (a + 1) n (omega arith) (omega arith) apart in grind (arith, common_steps)
]

module _ (n p o : ℕ) (xs : List ℕ) (ys : List Wire) (high : p < n) (ih : ys ≡ map (λ o. node_wire o p) (but p xs)) where
  held_one : map (node_wire o) (filter (λ q. q == p) (others n o)) ++ ys ≡ map (λ o. node_wire o p) (but p (o ∷ xs))
  held_one = elim (cases_eq o p) [
    | inl e ↦
        ap (λ l. map (node_wire o) l ++ ys) (subst (λ k. filter (λ q. q == p) (but k (below n)) ≡ []) (sym e) (none_to_itself p (below n)))
        ∙ ih ∙ ap (map (λ o. node_wire o p)) (sym (subst (λ k. but p (k ∷ xs) ≡ but p xs) (sym e) (but-here p xs)))
    | inr ne ↦
        ap (λ l. map (node_wire o) l ++ ys) (one_to o p 0 n (omega arith) (omega arith) (λ k. ne (sym k)))
        ∙ ap (λ l. node_wire o p ∷ l) ih ∙ ap (map (λ o. node_wire o p)) (sym (but-other p o xs ne))
  ]

held : (n p : ℕ) (xs : List ℕ) → p < n → held_by (flat_map (wires_of n) xs) p ≡ map (λ o. node_wire o p) (but p xs)
held n p [] high = refl
held n p (o ∷ xs) high =
    filter-append (λ w. w.to == p) (wires_of n o) (flat_map (wires_of n) xs)
    ∙ ap (λ l. l ++ held_by (flat_map (wires_of n) xs) p) (wires_to o p (others n o))
    ∙ held_one n p o xs (held_by (flat_map (wires_of n) xs) p) high (held n p xs high)

module _ (n p q i : ℕ) (is_p : p < n) (is_q : q < n) (apart : q ≢ p) (before : q < p → i ≡ q) (after : p < q → i + 1 ≡ q) (is_handle : handle_at p q ≡ 4 * i + 2) where
  held_at : NamesNodeOf (opening_of n) p (handle_at p q) q
  held_at = record {
    given = rw is_handle (let two : (4 * i + 2) % 4 ≡ 2 = omega arith in ap (λ k. k == 2) two);
    wire =
        let place : handle_at p q / 4 ≡ i = omega arith in
        rw place (ap (λ l. slice_get l i) (held n p (below n) is_p) ∙ slice_get-map (λ o. node_wire o p) (but p (below n)) i
        ∙ ap (option_map (λ o. node_wire o p)) (stands p q 0 n i (omega arith) (omega arith) (omega arith) (λ h. let f = before h in omega arith) (λ h. let f = after h in omega arith) apart));
  }

pub holds_other : (n p q : ℕ) → p < n → q < n → q ≢ p → NamesNodeOf (opening_of n) p (handle_at p q) q
holds_other n p q is_p is_q apart = elim (cases_lt q p) [
  | inl less ↦ held_at n p q q is_p is_q apart (λ h. refl) (λ h. absurd (omega arith)) (ap (λ b. cond b (4 * q + 2) (4 * (q - 1) + 2)) (lt-ltb q p less))
  | inr least ↦ held_at n p q (q - 1) is_p is_q apart (λ h. absurd (omega arith)) (λ h. omega arith) (ap (λ b. cond b (4 * q + 2) (4 * (q - 1) + 2)) (le-ltb q p least))
]
