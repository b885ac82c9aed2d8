-- What an edit of the cells makes of their list in order.
use Rattle.std.proofs.Common.{◌≡◌, ◌≢◌, ◌==◌, ℕ, zero, suc, ◌+◌, ◌^◌, ◌<◌, ◌≤◌, false, List, [], ◌∷◌, ◌++◌, length, get_or, set, refl, sym, ap, ◌∙◌, arith, Some, None, Option, inl, inr, subst, IsSome, length-append}
use Rattle.std.specs.Prelude.{filter, All, AllPairs, position, is_some, IsPermutation, slice_get, remove}
use Rattle.std.specs.declared.cmp.Ordering.TheVariants.{Less}
use Rattle.std.proofs.Math.Pow.{pow_mono}
use Rattle.std.proofs.lemmas.Bool.{cases_eq, cases_lt, eqb-true, eqb-false, ne_eqb, false≢true}
use Rattle.std.proofs.lemmas.List.{take-set, drop-set-lt, get_or-set_same, length-set}
use Rattle.std.proofs.lemmas.List.Elements.{All-head, All-tail}
use Rattle.std.proofs.lemmas.List.Kept.{AllPairs-cons}
use Rattle.std.proofs.lemmas.List.Quantifiers.{position-Some}
use Rattle.std.proofs.lemmas.List.Sorted.{IsPermutation-refl, IsPermutation-to_front, IsPermutation-sym, All-permutation, IsPermutation-remove}
use Rattle.b1_model.specs.Keys.{compare_keys}
use Rattle.b1_model.specs.declared.naming.Key.{Key}
use Rattle.b1_queue.specs.Queue.{is_before, with_entry, without, restamped, key_of, IsNewKey, IsQueue}
use Rattle.b1_queue.proofs.Order.{keys_total}
use Rattle.b1_queue.proofs.Entries.{AllPairs-head, AllPairs-tail, split_is, absent_is, position_none, IsQueue-nil, IsQueue-with_entry}
use Rattle.b1_heap.specs.Heap.{in_key_order, AreApart, IsHeap, IsIndexedHeap, parent}
use Rattle.b1_heap.specs.Sift.{keys_of, InHeap}
use Rattle.b1_heap.proofs.InOrder.{in_order, All-in_order, All-from_order, apart_permuted, items_permuted, order_permuted, new_key_in_order, without_with_entry, key_of_with_entry, with_entry_first}
use Rattle.b1_heap.proofs.Places.{distinct_items}

-- the list has as many entries as there are cells
pub length_in_order : (cells : List (Key × ℕ)) → AreApart cells → length (in_key_order cells) ≡ length cells
length_in_order [] apart = refl
length_in_order (x ∷ cells) apart =
    let rest = AllPairs-tail (λ a b. a.0 ≢ b.0) x cells apart in
    let o = in_order cells rest in
    let whole = split_is x.0 (in_key_order cells) o.rising (new_key_in_order x cells apart o) in
    let front = filter (λ (e : Key × ℕ). is_before e.0 x.0) (in_key_order cells) in
    let back = filter (λ (e : Key × ℕ). is_before x.0 e.0) (in_key_order cells) in
    omega (arith, length-append front ((x.0, x.1) ∷ back), length-append front back, ap length whole, length_in_order cells rest)

-- the list is a queue
pub queue_in_order : (room : ℕ) (cells : List (Key × ℕ)) → AreApart cells → AllPairs (λ a b. a.1 ≢ b.1) cells → All (λ e. e.1 < room) cells → IsQueue room (in_key_order cells)
queue_in_order room [] apart distinct below = IsQueue-nil room
queue_in_order room (x ∷ cells) apart distinct below =
    let rest = AllPairs-tail (λ a b. a.0 ≢ b.0) x cells apart in
    let o = in_order cells rest in
    IsQueue-with_entry room x.0 x.1 (in_key_order cells)
    (queue_in_order room cells rest (AllPairs-tail (λ a b. a.1 ≢ b.1) x cells distinct) (All-tail (λ e. e.1 < room) x cells below))
    (All-head (λ e. e.1 < room) x cells below) (new_key_in_order x cells apart o)
    (All-in_order (λ e. e.1 ≢ x.1) cells o (λ k d lt same. AllPairs-head (λ a b. a.1 ≢ b.1) x cells distinct k d lt (sym same)))

pub heap_is_queue : (cells : List (Key × ℕ)) (places : List ℕ) → IsIndexedHeap cells places → IsQueue (length places) (in_key_order cells)
heap_is_queue cells places h =
    queue_in_order (length places) cells h.apart (distinct_items cells places h.indexed) (λ k d lt. (h.indexed k d lt).0)

-- ---- one more cell

module _ (key : Key) (item : ℕ) (cells : List (Key × ℕ)) (apart : AreApart cells) (new : IsNewKey key (in_key_order cells)) where
  pub apart_more : AreApart ((key, item) ∷ cells)
  apart_more =
      AllPairs-cons (λ a b. a.0 ≢ b.0) (key, item) cells
      (λ k d lt same. All-from_order (λ e. e.0 ≢ key) cells (in_order cells apart) new k d lt (sym same)) apart

  pub apart_push : AreApart (cells ++ (key, item) ∷ [])
  apart_push =
      apart_permuted ((key, item) ∷ cells) (cells ++ (key, item) ∷ []) (IsPermutation-sym _ _ (IsPermutation-to_front cells (key, item))) apart_more

  pub order_push : (ys : List (Key × ℕ)) → IsPermutation (cells ++ (key, item) ∷ []) ys → in_key_order ys ≡ with_entry key item (in_key_order cells)
  order_push ys p =
      sym (order_permuted (cells ++ (key, item) ∷ []) ys p apart_push)
      ∙ order_permuted (cells ++ (key, item) ∷ []) ((key, item) ∷ cells) (IsPermutation-to_front cells (key, item)) apart_push

-- ---- one cell less

-- the items of the others are not the first's
pub fresh_from_distinct : (x : Key × ℕ) (rest : List (Key × ℕ)) → AllPairs (λ a b. a.1 ≢ b.1) (x ∷ rest) → All (λ e. e.1 ≢ x.1) rest
fresh_from_distinct x rest h k d lt same = AllPairs-head (λ a b. a.1 ≢ b.1) x rest h k d lt (sym same)

module _ (cells : List (Key × ℕ)) (x : Key × ℕ) (rest : List (Key × ℕ)) (p : IsPermutation cells (x ∷ rest)) (apart : AreApart cells) where
  pub apart_rest : AreApart rest
  apart_rest = AllPairs-tail (λ a b. a.0 ≢ b.0) x rest (apart_permuted cells (x ∷ rest) p apart)

  new_key_rest : IsNewKey x.0 (in_key_order rest)
  new_key_rest = new_key_in_order x rest (apart_permuted cells (x ∷ rest) p apart) (in_order rest apart_rest)

  pub order_split : in_key_order cells ≡ with_entry x.0 x.1 (in_key_order rest)
  order_split = order_permuted cells (x ∷ rest) p apart

  pub order_without : All (λ e. e.1 ≢ x.1) rest → without x.1 (in_key_order cells) ≡ in_key_order rest
  order_without fresh =
      ap (without x.1) order_split
      ∙ without_with_entry x.0 x.1 (in_key_order rest) (in_order rest apart_rest).rising new_key_rest
      (All-in_order (λ e. e.1 ≢ x.1) rest (in_order rest apart_rest) fresh)

  pub order_key : All (λ e. e.1 ≢ x.1) rest → key_of x.1 (in_key_order cells) ≡ Some x.0
  order_key fresh =
      ap (key_of x.1) order_split
      ∙ key_of_with_entry x.0 x.1 (in_key_order rest) (in_order rest apart_rest).rising new_key_rest
      (All-in_order (λ e. e.1 ≢ x.1) rest (in_order rest apart_rest) fresh)

  pub order_first : All (λ e. compare_keys x.0 e.0 ≡ Less) rest → in_key_order cells ≡ x ∷ in_key_order rest
  order_first low =
      order_split
      ∙ with_entry_first x.0 x.1 (in_key_order rest) (in_order rest apart_rest).rising new_key_rest
      (All-in_order (λ e. compare_keys x.0 e.0 ≡ Less) rest (in_order rest apart_rest) low)

-- ---- an item that is not there, and one that is

pub order_absent : (item : ℕ) (cells : List (Key × ℕ)) → AreApart cells → All (λ e. e.1 ≢ item) cells → (key_of item (in_key_order cells) ≡ None) × (without item (in_key_order cells) ≡ in_key_order cells)
order_absent item cells apart none =
    absent_is item (in_key_order cells)
    (All-in_order (λ e. (e.1 == item) ≡ false) cells (in_order cells apart) (λ k d lt. ne_eqb (get_or cells k d).1 item (none k d lt)))

cell_at : (item : ℕ) (cells : List (Key × ℕ)) (apart : AreApart cells) (there : IsSome (key_of item (in_key_order cells))) (o : Option ℕ) → position (λ e. e.1 == item) cells ≡ o → (at : ℕ) × (at < length cells) × ((d : Key × ℕ) → (get_or cells at d).1 ≡ item)
cell_at item cells apart there (Some at) is = (
  at,
  (position-Some (λ e. e.1 == item) cells at (record { stamp = 0; origin = 0; index = 0 }, 0) is).0,
  λ d. eqb-true _ _ (position-Some (λ e. e.1 == item) cells at d is).1,
)
cell_at item cells apart there None is =
    let none = position_none (λ (e : Key × ℕ). e.1 == item) cells is in
    let absent = (order_absent item cells apart (λ k d lt same. eqb-false _ _ (none k d lt) same)).0 in
    absurd (false≢true (ap is_some (sym absent) ∙ there))

pub found_cell : (item : ℕ) (cells : List (Key × ℕ)) → AreApart cells → IsSome (key_of item (in_key_order cells)) → (at : ℕ) × (at < length cells) × ((d : Key × ℕ) → (get_or cells at d).1 ≡ item)
found_cell item cells apart there = cell_at item cells apart there (position (λ e. e.1 == item) cells) refl

-- ---- the root of a heap stands before all others

root_upto : (key : ℕ → Key) (n fuel place : ℕ) → InHeap key n → place ≤ fuel → 0 < place → place < n → compare_keys (key 0) (key place) ≡ Less
root_upto key n zero place heap few pos lt = absurd (omega arith)
root_upto key n (suc fuel) place heap few pos lt =
    elim (cases_eq (parent place) 0) [
      | inl top ↦ subst (λ (k : ℕ). compare_keys (key k) (key place) ≡ Less) top (heap place pos lt)
      | inr inner ↦
          keys_total.trans (key 0) (key (parent place)) (key place)
          (root_upto key n fuel (parent place) heap (omega arith) (omega arith) (omega arith)) (heap place pos lt)
    ]

pub root_first : (cells : List (Key × ℕ)) → IsHeap cells → (d : Key × ℕ) (place : ℕ) → 0 < place → place < length cells → compare_keys (keys_of cells d 0) (keys_of cells d place) ≡ Less
root_first cells heap d place pos lt =
    root_upto (keys_of cells d) (length cells) place place (λ k. heap k d) (omega arith) pos lt

-- the front of the list is the root
pub order_front : (cells : List (Key × ℕ)) → IsHeap cells → AreApart cells → slice_get cells 0 ≡ slice_get (in_key_order cells) 0
order_front [] heap apart = refl
order_front (x ∷ cells) heap apart =
    sym (ap (λ q. slice_get q 0)
    (order_first (x ∷ cells) x cells (IsPermutation-refl (x ∷ cells)) apart
    (λ k d lt. root_first (x ∷ cells) heap d (suc k) (omega arith) (omega arith))))

-- ---- another key for one item

module _ (cells : List (Key × ℕ)) (at : ℕ) (x : Key × ℕ) (new : Key) (within : at < length cells) (read : x ≡ get_or cells at x) (apart : AreApart cells) (distinct : AllPairs (λ a b. a.1 ≢ b.1) cells) (fresh : IsNewKey new (in_key_order cells)) where
  others : IsPermutation cells (x ∷ remove cells at)
  others = IsPermutation-remove cells at x within read

  set_others : IsPermutation (set cells at (new, x.1)) ((new, x.1) ∷ remove cells at)
  set_others =
      subst (λ (rest : List (Key × ℕ)). IsPermutation (set cells at (new, x.1)) ((new, x.1) ∷ rest))
      (rw (take-set, drop-set-lt (suc at) cells at (new, x.1) (omega arith)) refl)
      (IsPermutation-remove (set cells at (new, x.1)) at (new, x.1) (rw length-set within) (sym (get_or-set_same cells at (new, x.1) (new, x.1) within)))

  new_in_rest : AreApart ((new, x.1) ∷ remove cells at)
  new_in_rest =
      AllPairs-cons (λ a b. a.0 ≢ b.0) (new, x.1) (remove cells at)
      (λ k d lt same. All-tail (λ e. e.0 ≢ new) x (remove cells at)
      (All-permutation (λ e. e.0 ≢ new) cells (x ∷ remove cells at) others (All-from_order (λ e. e.0 ≢ new) cells (in_order cells apart) fresh)) k d lt (sym same))
      (apart_rest cells x (remove cells at) others apart)

  pub apart_set : AreApart (set cells at (new, x.1))
  apart_set = apart_permuted ((new, x.1) ∷ remove cells at) (set cells at (new, x.1)) (IsPermutation-sym _ _ set_others) new_in_rest

  pub order_set : (ys : List (Key × ℕ)) → IsPermutation (set cells at (new, x.1)) ys → in_key_order ys ≡ restamped x.1 new (in_key_order cells)
  order_set ys p =
      sym (order_permuted (set cells at (new, x.1)) ys p apart_set)
      ∙ order_permuted (set cells at (new, x.1)) ((new, x.1) ∷ remove cells at) set_others apart_set
      ∙ ap (with_entry new x.1) (sym (order_without cells x (remove cells at) others apart
      (fresh_from_distinct x (remove cells at) (items_permuted cells (x ∷ remove cells at) others distinct))))

-- ---- an item that is there stands at its place

module _ (cells : List (Key × ℕ)) (places : List ℕ) (item : ℕ) (h : IsIndexedHeap cells places) (there : IsSome (key_of item (in_key_order cells))) where
  place_found : (at : ℕ) → at < length cells → ((d : Key × ℕ) → (get_or cells at d).1 ≡ item) → (item < length places) × (get_or places item 0 ≡ at)
  place_found at within same =
      let e : Key × ℕ = (record { stamp = 0; origin = 0; index = 0 }, 0) in
      (rw (same e) at (h.indexed at e within).0, ap (λ (k : ℕ). get_or places k 0) (sym (same e)) ∙ (h.indexed at e within).1)

  pub place_in_room : item < length places
  place_in_room =
      let f = found_cell item cells h.apart there in
      (place_found f.0 f.1 f.2).0

  pub place_within : get_or places item 0 < length cells
  place_within =
      let f = found_cell item cells h.apart there in
      omega (arith, (place_found f.0 f.1 f.2).1, f.1)

  pub place_has : (d : Key × ℕ) → (get_or cells (get_or places item 0) d).1 ≡ item
  place_has d =
      let f = found_cell item cells h.apart there in
      ap (λ (k : ℕ). (get_or cells k d).1) (place_found f.0 f.1 f.2).1 ∙ f.2 d

-- so many doublings below the size are no more than the depth
pub within_depth : (levels depth n : ℕ) → 2 ^ levels ≤ n → n < 2 ^ (depth + 1) → levels ≤ depth
within_depth levels depth n low high =
    elim (cases_lt depth levels) [
      | inl more ↦ absurd (omega (arith, pow_mono {i = depth + 1} {j = levels} (omega arith)))
      | inr less ↦ less
    ]
