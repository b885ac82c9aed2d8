-- Edits of the cells and of the places under their items.
use Rattle.std.proofs.Common.{◌≡◌, ◌≢◌, ℕ, ◌<◌, ◌≤◌, List, [], ◌∷◌, ◌++◌, length, get_or, set, refl, sym, ap, ◌∙◌, arith, inl, inr}
use Rattle.std.specs.Prelude.{All, IsPermutation, insert}
use Rattle.std.specs.declared.cmp.Ordering.TheVariants.{Less}
use Rattle.std.proofs.lemmas.Bool.{cases_eq}
use Rattle.std.proofs.lemmas.List.{get_or_default, length-set, get_or-set_same, get_or-set_other, get_or_append_left, get_or_push, length_push}
use Rattle.std.proofs.lemmas.List.Edits.{insert_end}
use Rattle.b1_model.specs.Keys.{compare_keys}
use Rattle.b1_model.specs.declared.naming.Key.{Key}
use Rattle.b1_queue.specs.Queue.{IsNewKey, IsNewItem}
use Rattle.b1_heap.specs.Heap.{in_key_order, AreApart, IsHeap, IsIndexed, IsIndexedHeap, parent}
use Rattle.b1_heap.specs.Sift.{keys_of, RisesAt, MovesAt}
use Rattle.b1_heap.proofs.InOrder.{in_order, All-from_order, apart_permuted}
use Rattle.b1_heap.proofs.Places.{IsIndexed-from_default}
use Rattle.b1_heap.proofs.Sifts.{moves_from_heap}
use Rattle.std.proofs.lemmas.List.Elements.{All-tail}
use Rattle.std.proofs.lemmas.List.Sorted.{All-permutation}
use Rattle.b1_queue.proofs.Entries.{AllPairs-head}
use Rattle.b1_heap.proofs.Changes.{apart_push, root_first}

key_at : (x y : Key × ℕ) → x ≡ y → x.0 ≡ y.0
key_at x y same = ap (λ (e : Key × ℕ). e.0) same

item_at : (x y : Key × ℕ) → x ≡ y → x.1 ≡ y.1
item_at x y same = ap (λ (e : Key × ℕ). e.1) same

keys_as : (a b c d : Key) → a ≡ c → b ≡ d → compare_keys c d ≡ Less → compare_keys a b ≡ Less
keys_as a b c d p q h = rw (p, q) h

-- ---- a cell at the end

module _ (cells : List (Key × ℕ)) (places : List ℕ) (cell : Key × ℕ) (h : IsIndexedHeap cells places) where
  pub pushed_indexed : cell.1 < length places → IsNewItem cell.1 (in_key_order cells) → IsIndexed (cells ++ cell ∷ []) (set places cell.1 (length cells))
  pushed_indexed in_room new = IsIndexed-from_default (cells ++ cell ∷ []) (set places cell.1 (length cells)) cell (λ place lt.
      elim (cases_eq place (length cells)) [
        | inl end ↦
            rw (length-set, get_or_push cells cell cell place (sym end))
            (in_room, get_or-set_same places cell.1 (length cells) 0 in_room ∙ sym end)
        | inr inner ↦
            let within : place < length cells = omega (arith, length_push cells cell) in
            let fresh = All-from_order (λ e. e.1 ≢ cell.1) cells (in_order cells h.apart) new in
            rw (length-set, get_or_append_left cells (cell ∷ []) cell place within) (
              (h.indexed place cell within).0,
              get_or-set_other places cell.1 (get_or cells place cell).1 (length cells) 0 (fresh place cell within) ∙ (h.indexed place cell within).1,
            )
      ])

  pub pushed_rises : RisesAt (cells ++ cell ∷ []) (length cells)
  pushed_rises d = record {
    others = λ place pos lt ne.
        let within : place < length cells = omega (arith, length_push cells cell) in
        let above : parent place < length cells = omega arith in
        keys_as _ _ (keys_of cells d (parent place)) (keys_of cells d place)
        (key_at _ _ (get_or_append_left cells (cell ∷ []) d (parent place) above))
        (key_at _ _ (get_or_append_left cells (cell ∷ []) d place within))
        (h.heap place d pos within);
    over = λ child high pos lt is. absurd (omega (arith, length_push cells cell));
  }

  pub pushed_apart : IsNewKey cell.0 (in_key_order cells) → AreApart (cells ++ cell ∷ [])
  pushed_apart new = apart_push cell.0 cell.1 cells h.apart new

-- ---- a cell taken out, with the last one in its place

module _ (cells rest : List (Key × ℕ)) (at : ℕ) (shorter : length rest ≤ length cells) (kept : (place : ℕ) (d : Key × ℕ) → place < length rest → place ≢ at → get_or rest place d ≡ get_or cells place d) (heap : IsHeap cells) where
  pub taken_moves : MovesAt rest at
  taken_moves d =
      moves_from_heap (keys_of cells d) (length cells) (keys_of rest d) (length rest) at shorter (λ k. heap k d)
      (λ place lt ne. key_at _ _ (kept place d lt ne))

  pub taken_heap : length rest ≤ at → IsHeap rest
  taken_heap past place d pos lt =
      keys_as _ _ (keys_of cells d (parent place)) (keys_of cells d place)
      (key_at _ _ (kept (parent place) d (omega arith) (omega arith))) (key_at _ _ (kept place d lt (omega arith)))
      (heap place d pos (omega arith))

-- ---- another key in a cell

module _ (cells : List (Key × ℕ)) (places : List ℕ) (at : ℕ) (new : Key) (item : ℕ) (within : at < length cells) (same : (d : Key × ℕ) → (get_or cells at d).1 ≡ item) where
  pub set_indexed : IsIndexed cells places → IsIndexed (set cells at (new, item)) places
  set_indexed h = IsIndexed-from_default (set cells at (new, item)) places (new, item) (λ place lt.
      let inner : place < length cells = omega (arith, length-set cells at (new, item)) in
      elim (cases_eq place at) [
        | inl here ↦
            rw (here, get_or-set_same cells at (new, item) (new, item) within)
            (rw same at (h at (new, item) within))
        | inr other ↦ rw (get_or-set_other cells at place (new, item) (new, item) other) (h place (new, item) inner)
      ])

  pub set_moves : IsHeap cells → MovesAt (set cells at (new, item)) at
  set_moves heap d =
      moves_from_heap (keys_of cells d) (length cells) (keys_of (set cells at (new, item)) d) (length (set cells at (new, item))) at
      (omega (arith, length-set cells at (new, item))) (λ k. heap k d)
      (λ place lt ne. key_at _ _ (get_or-set_other cells at place (new, item) d ne))

pub inserted_at_end : (cells ys : List (Key × ℕ)) (at : ℕ) (cell : Key × ℕ) → at ≡ length cells → ys ≡ insert cells at cell → ys ≡ cells ++ cell ∷ []
inserted_at_end cells ys at cell end same = same ∙ ap (λ (k : ℕ). insert cells k cell) end ∙ insert_end cells cell

-- the root stands before all that is left
pub root_before : (cells : List (Key × ℕ)) (cell : Key × ℕ) (rest : List (Key × ℕ)) → IsPermutation cells (cell ∷ rest) → AreApart cells → IsHeap cells → cell ≡ get_or cells 0 cell → All (λ e. compare_keys cell.0 e.0 ≡ Less) rest
root_before cells cell rest moved apart heap read k d lt =
    All-tail (λ e. e.0 ≢ cell.0 → compare_keys cell.0 e.0 ≡ Less) cell rest
    (All-permutation (λ e. e.0 ≢ cell.0 → compare_keys cell.0 e.0 ≡ Less) cells (cell ∷ rest) moved
    (λ place e within ne.
    let top : get_or cells 0 e ≡ cell = get_or_default cells 0 e cell (omega arith) ∙ sym read in
    elim (cases_eq place 0) [
      | inl first ↦ absurd (ne (key_at _ _ (ap (λ (i : ℕ). get_or cells i e) first ∙ top)))
      | inr later ↦
          keys_as cell.0 (get_or cells place e).0 (keys_of cells e 0) (keys_of cells e place) (sym (key_at _ _ top)) refl
          (root_first cells heap e place (omega arith) within)
    ]))
    k d lt
    (λ same. AllPairs-head (λ a b. a.0 ≢ b.0) cell rest (apart_permuted cells (cell ∷ rest) moved apart) k d lt (sym same))
