-- The cells of a heap in the order of their keys.
use Rattle.std.proofs.Common.{◌≡◌, ◌≢◌, ◌==◌, ℕ, zero, suc, ◌+◌, ◌≤◌, Bool, true, false, not, cond, List, [], ◌∷◌, ◌++◌, get_or, refl, sym, ap, ◌∙◌, arith, Some, inl, inr, ◌⊎◌, subst, zero-add}
use Rattle.std.specs.Prelude.{filter, find, All, AllPairs, Contains, count_by, option_map, IsPermutation}
use Rattle.std.specs.Ordering.{is_eq}
use Rattle.std.specs.declared.cmp.Ordering.{Ordering}
use Rattle.std.specs.declared.cmp.Ordering.TheVariants.{Less, Equal, Greater}
use Rattle.std.proofs.lemmas.Cmp.{tied_itself}
use Rattle.std.proofs.lemmas.Bool.{cases_Bool, false≢true, eq-eqb, ne_eqb, eqb-true, false_from_ne_true}
use Rattle.std.proofs.lemmas.List.Elements.{All-head, All-tail, All-cons, All-nil, All-filter, All-contains, filter_passes, filter-append}
use Rattle.std.proofs.lemmas.List.Kept.{AllPairs-cons}
use Rattle.std.proofs.lemmas.List.Sums.{sum_by-cons}
use Rattle.std.proofs.lemmas.List.Sorted.{sum_by-IsPermutation, Contains-permutation, IsPermutation-sym}
use Rattle.b1_model.specs.Keys.{compare_keys}
use Rattle.b1_model.specs.declared.naming.Key.{Key}
use Rattle.b1_queue.specs.Queue.{is_before, with_entry, without, key_of, IsNewKey, IsNewItem}
use Rattle.b1_queue.proofs.Order.{keys_total, same_key, less_from_before, before_from_less, not_before, not_before_itself}
use Rattle.b1_queue.proofs.Entries.{AllPairs-head, AllPairs-tail, AllPairs-nil, AllPairs-middle, All-middle, split_is, filter_all, filter_none}
use Rattle.b1_heap.specs.Heap.{in_key_order}

-- ---- membership by recursion

-- the entry is in the list
abbrev pub IsIn : Key × ℕ → List (Key × ℕ) → Type 0
IsIn e [] = ⊥
IsIn e (x ∷ xs) = (e ≡ x) ⊎ IsIn e xs

pub in_from_Contains : (e : Key × ℕ) (xs : List (Key × ℕ)) → Contains xs e → IsIn e xs
in_from_Contains e [] h = absurd (omega (arith, h.1))
in_from_Contains e (x ∷ xs) (zero, lt, is) = inl (sym is)
in_from_Contains e (x ∷ xs) (suc k, lt, is) = inr (in_from_Contains e xs (k, omega arith, is))

pub Contains-from_in : (e : Key × ℕ) (xs : List (Key × ℕ)) → IsIn e xs → Contains xs e
Contains-from_in e [] h = absurd h
Contains-from_in e (x ∷ xs) (inl same) = (zero, omega arith, sym same)
Contains-from_in e (x ∷ xs) (inr rest) = let h = Contains-from_in e xs rest in (suc h.0, omega (arith, h.1), h.2)

pub in_append_left : (e : Key × ℕ) (xs ys : List (Key × ℕ)) → IsIn e xs → IsIn e (xs ++ ys)
in_append_left e [] ys h = absurd h
in_append_left e (x ∷ xs) ys (inl same) = inl same
in_append_left e (x ∷ xs) ys (inr rest) = inr (in_append_left e xs ys rest)

pub in_append_right : (e : Key × ℕ) (xs ys : List (Key × ℕ)) → IsIn e ys → IsIn e (xs ++ ys)
in_append_right e [] ys h = h
in_append_right e (x ∷ xs) ys h = inr (in_append_right e xs ys h)

pub in_append_cases : (e : Key × ℕ) (xs ys : List (Key × ℕ)) → IsIn e (xs ++ ys) → IsIn e xs ⊎ IsIn e ys
in_append_cases e [] ys h = inr h
in_append_cases e (x ∷ xs) ys (inl same) = inl (inl same)
in_append_cases e (x ∷ xs) ys (inr rest) =
    elim (in_append_cases e xs ys rest) [ inl left ↦ inl (inr left) | inr right ↦ inr right ]

pub All-in : (P : Key × ℕ → Type 0) (e : Key × ℕ) (xs : List (Key × ℕ)) → All P xs → IsIn e xs → P e
All-in P e xs all h = All-contains P xs e all (Contains-from_in e xs h)

-- ---- two lists that rise and have the same entries are one

never_below_itself : (e : Key × ℕ) → compare_keys e.0 e.0 ≡ Less → ⊥
never_below_itself e h = false≢true (sym (not_before_itself e.0) ∙ before_from_less e.0 e.0 h)

module _ (x y : Key × ℕ) (xs ys : List (Key × ℕ)) where
  same_first : AllPairs (λ a b. compare_keys a.0 b.0 ≡ Less) (x ∷ xs) → AllPairs (λ a b. compare_keys a.0 b.0 ≡ Less) (y ∷ ys) → IsIn x (y ∷ ys) → IsIn y (x ∷ xs) → x ≡ y
  same_first up vp (inl same) h = same
  same_first up vp (inr later) (inl same) = sym same
  same_first up vp (inr later) (inr after) =
      absurd (never_below_itself x
      (keys_total.trans x.0 y.0 x.0
      (All-in (λ e. compare_keys x.0 e.0 ≡ Less) y xs (AllPairs-head (λ a b. compare_keys a.0 b.0 ≡ Less) x xs up) after)
      (All-in (λ e. compare_keys y.0 e.0 ≡ Less) x ys (AllPairs-head (λ a b. compare_keys a.0 b.0 ≡ Less) y ys vp) later)))

  in_rest : AllPairs (λ a b. compare_keys a.0 b.0 ≡ Less) (x ∷ xs) → x ≡ y → (e : Key × ℕ) → IsIn e xs → IsIn e (y ∷ ys) → IsIn e ys
  in_rest up same e here (inl first) =
      absurd (never_below_itself x
      (subst (λ (z : Key × ℕ). compare_keys x.0 z.0 ≡ Less) (first ∙ sym same)
      (All-in (λ z. compare_keys x.0 z.0 ≡ Less) e xs (AllPairs-head (λ a b. compare_keys a.0 b.0 ≡ Less) x xs up) here)))
  in_rest up same e here (inr rest) = rest

pub rising_unique : (p q : List (Key × ℕ)) → AllPairs (λ a b. compare_keys a.0 b.0 ≡ Less) p → AllPairs (λ a b. compare_keys a.0 b.0 ≡ Less) q → ((e : Key × ℕ) → IsIn e p → IsIn e q) → ((e : Key × ℕ) → IsIn e q → IsIn e p) → p ≡ q
rising_unique [] [] up vp to from = refl
rising_unique [] (y ∷ q) up vp to from = absurd (from y (inl refl))
rising_unique (x ∷ p) [] up vp to from = absurd (to x (inl refl))
rising_unique (x ∷ p) (y ∷ q) up vp to from =
    let first : x ≡ y = same_first x y p q up vp (to x (inl refl)) (from y (inl refl)) in
    let rest : p ≡ q =
    rising_unique p q (AllPairs-tail (λ a b. compare_keys a.0 b.0 ≡ Less) x p up) (AllPairs-tail (λ a b. compare_keys a.0 b.0 ≡ Less) y q vp)
    (λ e h. in_rest x y p q up first e h (to e (inr h)))
    (λ e h. in_rest y x q p vp (sym first) e h (from e (inr h))) in
    ap (λ z. z ∷ p) first ∙ ap (λ zs. y ∷ zs) rest

-- ---- the entries of the list in order are the cells

find_past : (key : Key) (item : ℕ) (xs ys : List (Key × ℕ)) → All (λ e. (e.1 == item) ≡ false) xs → find (λ e. e.1 == item) (xs ++ (key, item) ∷ ys) ≡ Some (key, item)
find_past key item [] ys none = rw (eq-eqb item item refl) refl
find_past key item (x ∷ xs) ys none =
    rw (All-head (λ e. (e.1 == item) ≡ false) x xs none) (find_past key item xs ys (All-tail (λ e. (e.1 == item) ≡ false) x xs none))

module _ (key : Key) (item : ℕ) (q : List (Key × ℕ)) (up : AllPairs (λ a b. compare_keys a.0 b.0 ≡ Less) q) (new : IsNewKey key q) where
  pub in_with_entry : (e : Key × ℕ) → IsIn e (with_entry key item q) → (e ≡ (key, item)) ⊎ IsIn e q
  in_with_entry e h =
      elim (in_append_cases e (filter (λ e. is_before e.0 key) q) ((key, item) ∷ filter (λ e. is_before key e.0) q) h) [
        | inl front ↦ inr (subst (IsIn e) (split_is key q up new) (in_append_left e _ (filter (λ e. is_before key e.0) q) front))
        | inr (inl same) ↦ inl same
        | inr (inr back) ↦ inr (subst (IsIn e) (split_is key q up new) (in_append_right e (filter (λ e. is_before e.0 key) q) _ back))
      ]

  pub with_entry_has : (e : Key × ℕ) → (e ≡ (key, item)) ⊎ IsIn e q → IsIn e (with_entry key item q)
  with_entry_has e (inl same) = in_append_right e (filter (λ e. is_before e.0 key) q) ((key, item) ∷ filter (λ e. is_before key e.0) q) (inl same)
  with_entry_has e (inr h) =
      elim (in_append_cases e (filter (λ e. is_before e.0 key) q) (filter (λ e. is_before key e.0) q) (subst (IsIn e) (sym (split_is key q up new)) h)) [
        | inl front ↦ in_append_left e (filter (λ e. is_before e.0 key) q) ((key, item) ∷ filter (λ e. is_before key e.0) q) front
        | inr back ↦ in_append_right e (filter (λ e. is_before e.0 key) q) ((key, item) ∷ filter (λ e. is_before key e.0) q) (inr back)
      ]

  pub All-with_entry : (P : Key × ℕ → Type 0) → All P q → P (key, item) → All P (with_entry key item q)
  All-with_entry P all one =
      All-middle P (filter (λ e. is_before e.0 key) q) (filter (λ e. is_before key e.0) q) (key, item) (rw (split_is key q up new) all) one

  -- without the item that was put
  pub without_with_entry : IsNewItem item q → without item (with_entry key item q) ≡ q
  without_with_entry fresh =
      rw (
        filter-append (λ e. not (e.1 == item)) (filter (λ e. is_before e.0 key) q) ((key, item) ∷ filter (λ e. is_before key e.0) q),
        eq-eqb item item refl,
        filter_all (λ e. not (e.1 == item)) (filter (λ e. is_before e.0 key) q)
            (All-filter (λ e. is_before e.0 key) (λ e. not (e.1 == item) ≡ true) q (λ k d lt. ap not (ne_eqb (get_or q k d).1 item (fresh k d lt)))),
        filter_all (λ e. not (e.1 == item)) (filter (λ e. is_before key e.0) q)
            (All-filter (λ e. is_before key e.0) (λ e. not (e.1 == item) ≡ true) q (λ k d lt. ap not (ne_eqb (get_or q k d).1 item (fresh k d lt)))),
      )
      (split_is key q up new)

  -- the key of the item that was put
  pub key_of_with_entry : IsNewItem item q → key_of item (with_entry key item q) ≡ Some key
  key_of_with_entry fresh =
      ap (λ o. option_map (λ (e : Key × ℕ). e.0) o)
      (find_past key item (filter (λ e. is_before e.0 key) q) (filter (λ e. is_before key e.0) q)
      (All-filter (λ e. is_before e.0 key) (λ e. (e.1 == item) ≡ false) q (λ k d lt. ne_eqb (get_or q k d).1 item (fresh k d lt))))

  -- a key below all others comes first
  pub with_entry_first : All (λ e. compare_keys key e.0 ≡ Less) q → with_entry key item q ≡ (key, item) ∷ q
  with_entry_first low =
      rw (
        filter_none (λ e. is_before e.0 key) q (λ k d lt. not_before key (get_or q k d).0 (low k d lt)),
        filter_all (λ e. is_before key e.0) q (λ k d lt. before_from_less key (get_or q k d).0 (low k d lt)),
      )
      refl

-- ---- cells of which no two have one key

-- the list of cells in order rises, and has the same entries
pub record InOrder (cells : List (Key × ℕ)) : Type 0 where
  pub rising : AllPairs (λ a b. compare_keys a.0 b.0 ≡ Less) (in_key_order cells)
  pub to : (e : Key × ℕ) → IsIn e (in_key_order cells) → IsIn e cells
  pub from : (e : Key × ℕ) → IsIn e cells → IsIn e (in_key_order cells)

All-from_in : (P : Key × ℕ → Type 0) (xs : List (Key × ℕ)) → ((e : Key × ℕ) → IsIn e xs → P e) → All P xs
All-from_in P [] h = All-nil P
All-from_in P (x ∷ xs) h = All-cons P x xs (h x (inl refl)) (All-from_in P xs (λ e i. h e (inr i)))

-- what holds of each cell holds of each entry of the list, and back
pub All-in_order : (P : Key × ℕ → Type 0) (cells : List (Key × ℕ)) → InOrder cells → All P cells → All P (in_key_order cells)
All-in_order P cells o all = All-from_in P (in_key_order cells) (λ e h. All-in P e cells all (o.to e h))

pub All-from_order : (P : Key × ℕ → Type 0) (cells : List (Key × ℕ)) → InOrder cells → All P (in_key_order cells) → All P cells
All-from_order P cells o all = All-from_in P cells (λ e h. All-in P e (in_key_order cells) all (o.from e h))

pub new_key_in_order : (x : Key × ℕ) (cells : List (Key × ℕ)) → AllPairs (λ a b. a.0 ≢ b.0) (x ∷ cells) → InOrder cells → IsNewKey x.0 (in_key_order cells)
new_key_in_order x cells apart o =
    All-in_order (λ e. e.0 ≢ x.0) cells o (λ k d lt same. AllPairs-head (λ a b. a.0 ≢ b.0) x cells apart k d lt (sym same))

pub in_order : (cells : List (Key × ℕ)) → AllPairs (λ a b. a.0 ≢ b.0) cells → InOrder cells
in_order [] apart = record { rising = AllPairs-nil (λ a b. compare_keys a.0 b.0 ≡ Less); to = λ e h. h; from = λ e h. h }
in_order (x ∷ cells) apart =
    let o = in_order cells (AllPairs-tail (λ a b. a.0 ≢ b.0) x cells apart) in
    let new = new_key_in_order x cells apart o in
    record {
      rising =
          AllPairs-middle (λ a b. compare_keys a.0 b.0 ≡ Less)
          (filter (λ e. is_before e.0 x.0) (in_key_order cells)) (filter (λ e. is_before x.0 e.0) (in_key_order cells)) (x.0, x.1)
          (rw (split_is x.0 (in_key_order cells) o.rising new) o.rising)
          (λ k d lt. less_from_before _ x.0 (filter_passes (λ (e : Key × ℕ). is_before e.0 x.0) (in_key_order cells) k d lt))
          (λ k d lt. less_from_before x.0 _ (filter_passes (λ (e : Key × ℕ). is_before x.0 e.0) (in_key_order cells) k d lt));
      to = λ e h. elim (in_with_entry x.0 x.1 (in_key_order cells) o.rising new e h) [ inl same ↦ inl same | inr rest ↦ inr (o.to e rest) ];
      from = λ e h. with_entry_has x.0 x.1 (in_key_order cells) o.rising new e (elim h [ inl same ↦ inl same | inr rest ↦ inr (o.from e rest) ]);
    }

-- ---- the order of the cells does not matter

has : Key → Key × ℕ → Bool
has key e = is_eq (compare_keys e.0 key)

eq_is : (o : Ordering) → is_eq o ≡ true → o ≡ Equal
eq_is Less h = cc
eq_is Equal h = refl
eq_is Greater h = cc

has_is : (key : Key) (e : Key × ℕ) → has key e ≡ true → e.0 ≡ key
unfolding has
has_is key e h = same_key e.0 key (eq_is (compare_keys e.0 key) h)

has_own : (e : Key × ℕ) → has e.0 e ≡ true
unfolding has
has_own e = ap is_eq (tied_itself keys_total e.0)

module _ {X : Type 0} (p : X → Bool) where
  count_there : (x : X) (xs : List X) → p x ≡ true → count_by p (x ∷ xs) ≡ 1 + count_by p xs
  count_there x xs h = sum_by-cons (λ y. cond (p y) 1 0) x xs ∙ ap (λ (b : Bool). cond b 1 0 + count_by p xs) h

  count_other : (x : X) (xs : List X) → p x ≡ false → count_by p (x ∷ xs) ≡ count_by p xs
  count_other x xs h =
      sum_by-cons (λ y. cond (p y) 1 0) x xs ∙ ap (λ (b : Bool). cond b 1 0 + count_by p xs) h ∙ zero-add (count_by p xs)

  count_none : (xs : List X) → All (λ x. p x ≡ false) xs → count_by p xs ≡ 0
  count_none [] h = refl
  count_none (x ∷ xs) h =
      count_other x xs (All-head (λ x. p x ≡ false) x xs h) ∙ count_none xs (All-tail (λ x. p x ≡ false) x xs h)

  none_counted : (xs : List X) → count_by p xs ≡ 0 → All (λ x. p x ≡ false) xs
  none_counted [] h = All-nil (λ x. p x ≡ false)
  none_counted (x ∷ xs) h =
      elim (cases_Bool (p x)) [
        | inl there ↦ absurd (omega (arith, count_there x xs there))
        | inr other ↦ All-cons (λ x. p x ≡ false) x xs other (none_counted xs (sym (count_other x xs other) ∙ h))
      ]

  count_tail : (x : X) (xs : List X) → count_by p xs ≤ count_by p (x ∷ xs)
  count_tail x xs =
      elim (cases_Bool (p x)) [
        | inl there ↦ omega (arith, count_there x xs there)
        | inr other ↦ omega (arith, count_other x xs other)
      ]

-- a part of each element, and a test for it
module _ {X K : Type 0} (part : X → K) (test : K → X → Bool) (is : (k : K) (x : X) → test k x ≡ true → part x ≡ k) (own : (x : X) → test (part x) x ≡ true) where
  not_is : (k : K) (x : X) → part x ≢ k → test k x ≡ false
  not_is k x ne = false_from_ne_true (test k x) (λ h. ne (is k x h))

  counted_once : (xs : List X) → AllPairs (λ a b. part a ≢ part b) xs → (k : K) → count_by (test k) xs ≤ 1
  counted_once [] apart k = omega arith
  counted_once (x ∷ xs) apart k =
      elim (cases_Bool (test k x)) [
        | inl here ↦
            let none : count_by (test k) xs ≡ 0 =
            count_none (test k) xs
            (λ i d lt. not_is k (get_or xs i d) (λ h. AllPairs-head (λ a b. part a ≢ part b) x xs apart i d lt (is k x here ∙ sym h))) in
            omega (arith, count_there (test k) x xs here)
        | inr other ↦
            omega (arith, count_other (test k) x xs other, counted_once xs (AllPairs-tail (λ a b. part a ≢ part b) x xs apart) k)
      ]

  apart_from_counts : (xs : List X) → ((k : K) → count_by (test k) xs ≤ 1) → AllPairs (λ a b. part a ≢ part b) xs
  apart_from_counts [] h = AllPairs-nil (λ a b. part a ≢ part b)
  apart_from_counts (x ∷ xs) h =
      let none : count_by (test (part x)) xs ≡ 0 = omega (arith, h (part x), count_there (test (part x)) x xs (own x)) in
      AllPairs-cons (λ a b. part a ≢ part b) x xs
      (λ i d lt same.
      false≢true
      (sym (none_counted (test (part x)) xs none i d lt)
      ∙ subst (λ (k : K). test k (get_or xs i d) ≡ true) (sym same) (own (get_or xs i d))))
      (apart_from_counts xs (λ k. omega (arith, count_tail (test k) x xs, h k)))

  pub distinct_permuted : (xs ys : List X) → IsPermutation xs ys → AllPairs (λ a b. part a ≢ part b) xs → AllPairs (λ a b. part a ≢ part b) ys
  distinct_permuted xs ys p apart =
      apart_from_counts ys (λ k. rw (sum_by-IsPermutation (λ e. cond (test k e) 1 0) xs ys p) (counted_once xs apart k))

pub apart_permuted : (xs ys : List (Key × ℕ)) → IsPermutation xs ys → AllPairs (λ a b. a.0 ≢ b.0) xs → AllPairs (λ a b. a.0 ≢ b.0) ys
apart_permuted = distinct_permuted (λ e. e.0) has has_is has_own

pub items_permuted : (xs ys : List (Key × ℕ)) → IsPermutation xs ys → AllPairs (λ a b. a.1 ≢ b.1) xs → AllPairs (λ a b. a.1 ≢ b.1) ys
items_permuted = distinct_permuted (λ e. e.1) (λ n e. e.1 == n) (λ n e. eqb-true e.1 n) (λ e. eq-eqb e.1 e.1 refl)

pub order_permuted : (xs ys : List (Key × ℕ)) → IsPermutation xs ys → AllPairs (λ a b. a.0 ≢ b.0) xs → in_key_order xs ≡ in_key_order ys
order_permuted xs ys p apart =
    let o = in_order xs apart in
    let q = in_order ys (apart_permuted xs ys p apart) in
    rising_unique (in_key_order xs) (in_key_order ys) o.rising q.rising
    (λ e h. q.from e (in_from_Contains e ys (Contains-permutation xs ys e p (Contains-from_in e xs (o.to e h)))))
    (λ e h. o.from e (in_from_Contains e xs (Contains-permutation ys xs e (IsPermutation-sym xs ys p) (Contains-from_in e ys (q.to e h)))))
