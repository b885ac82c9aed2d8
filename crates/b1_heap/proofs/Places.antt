-- The places under the items, after an edit of the cells.
use Rattle.std.proofs.Common.{◌≡◌, ◌≢◌, ℕ, ◌<◌, List, length, get_or, set, sym, ap, ◌∙◌, arith, inl, inr}
use Rattle.std.specs.Prelude.{swap, AllPairs}
use Rattle.std.proofs.lemmas.Bool.{cases_eq}
use Rattle.std.proofs.lemmas.List.{get_or_default, length-set, get_or-set_same, get_or-set_other}
use Rattle.std.proofs.lemmas.List.Edits.{swapped_from_swap, length-swap}
use Rattle.b1_model.specs.declared.naming.Key.{Key}
use Rattle.b1_heap.specs.Heap.{IsIndexed}

-- at one default
pub IsIndexed-from_default : (cells : List (Key × ℕ)) (places : List ℕ) (d : Key × ℕ) → ((place : ℕ) → place < length cells → ((get_or cells place d).1 < length places) × (get_or places (get_or cells place d).1 0 ≡ place)) → IsIndexed cells places
IsIndexed-from_default cells places d h place e lt =
    rw (get_or_default cells place e d lt) (h place lt)

module _ (cells : List (Key × ℕ)) (places : List ℕ) (h : IsIndexed cells places) where
  -- two cells have different items
  pub items_differ : (d : Key × ℕ) (a b : ℕ) → a < length cells → b < length cells → a ≢ b → (get_or cells a d).1 ≢ (get_or cells b d).1
  items_differ d a b la lb ne same = ne (sym (h a d la).1 ∙ ap (λ (item : ℕ). get_or places item 0) same ∙ (h b d lb).1)

  pub distinct_items : AllPairs (λ a b. a.1 ≢ b.1) cells
  distinct_items i j d lt within = items_differ d i j (omega arith) within (omega arith)

  module _ (ys : List (Key × ℕ)) (i j : ℕ) (d : Key × ℕ) (same : ys ≡ swap cells i j) (ne : i ≢ j) (first : i < length cells) (second : j < length cells) where
    pub first_bound : (get_or ys i d).1 < length places
    first_bound = rw (swapped_from_swap cells ys i j d first second same).0 (h j d second).0

    pub second_bound : (get_or ys j d).1 < length places
    second_bound = rw (swapped_from_swap cells ys i j d first second same).1 (h i d first).0

    pub indexed_swapped : IsIndexed ys (set (set places (get_or ys i d).1 i) (get_or ys j d).1 j)
    indexed_swapped = IsIndexed-from_default ys _ d (λ place lt.
        let s = swapped_from_swap cells ys i j d first second same in
        let apart : (get_or ys i d).1 ≢ (get_or ys j d).1 =
        λ e. items_differ d j i second first (λ q. ne (sym q)) (ap (λ (c : Key × ℕ). c.1) (sym s.0) ∙ e ∙ ap (λ (c : Key × ℕ). c.1) s.1) in
        let long : length ys ≡ length cells = ap length same ∙ length-swap cells i j in
        elim (cases_eq place i) [
          | inl here ↦
              rw (length-set, length-set, here)
              (first_bound, get_or-set_other (set places (get_or ys i d).1 i) (get_or ys j d).1 (get_or ys i d).1 j 0 apart ∙ get_or-set_same places (get_or ys i d).1 i 0 first_bound)
          | inr other ↦
              elim (cases_eq place j) [
                | inl there ↦
                    rw (length-set, length-set, there)
                    (second_bound, get_or-set_same (set places (get_or ys i d).1 i) (get_or ys j d).1 j 0 (rw length-set second_bound))
                | inr far ↦
                    let within : place < length cells = omega arith in
                    let kept : get_or ys place d ≡ get_or cells place d = s.2 place other far in
                    rw (length-set, length-set, kept) (
                      (h place d within).0,
                      get_or-set_other (set places (get_or ys i d).1 i) (get_or ys j d).1 (get_or cells place d).1 j 0
                          (λ q. items_differ d place i within first other (q ∙ ap (λ (c : Key × ℕ). c.1) s.1))
                          ∙ get_or-set_other places (get_or ys i d).1 (get_or cells place d).1 i 0
                          (λ q. items_differ d place j within second far (q ∙ ap (λ (c : Key × ℕ). c.1) s.0))
                          ∙ (h place d within).1,
                    )
              ]
        ])
