-- Lists of entries: what their filters keep, and what an insert or a remove at a place makes of them.
use Rattle.std.proofs.Common.{◌≡◌, ◌≢◌, ◌==◌, ℕ, suc, zero, ◌<◌, ◌≤◌, Bool, true, false, not, List, [], ◌∷◌, ◌++◌, length, get_or, take, drop, refl, ap, sym, ◌∙◌, arith, eqb, Some, None, Option, inl, inr, subst, IsSome}
use Rattle.std.specs.Prelude.{filter, find, All, AllPairs, insert, remove, option_map, position}
use Rattle.std.specs.List.{AllWithin, position_or_len}
use Rattle.std.specs.List.Sorted.{IsPartitionedBy}
use Rattle.std.specs.declared.cmp.Ordering.TheVariants.{Less}
use Rattle.std.proofs.lemmas.List.Elements.{All-head, All-tail, All-cons, All-filter, All-nil, filter_passes}
use Rattle.std.proofs.lemmas.List.Kept.{AllPairs-cons, AllPairs-filter}
use Rattle.std.proofs.lemmas.List.Quantifiers.{position-Some}
use Rattle.std.proofs.lemmas.List.Sums.{fails_before_first}
use Rattle.std.proofs.lemmas.Bool.{eq-eqb, ne_eqb, eqb-true, cases_lt, cases_eq, cases_Bool, lt-ltb, false≢true, both_ways, not-true}
use Rattle.b1_model.specs.Keys.{compare_keys}
use Rattle.b1_model.specs.declared.naming.Key.{Key}
use Rattle.b1_queue.specs.Queue.{is_before, IsQueue, with_entry, without, key_of, IsNewKey, IsNewItem}
use Rattle.b1_queue.proofs.Order.{keys_total, less_from_before, before_from_less, before_cases, not_before}

module _ {X : Type 0} where
  pub AllPairs-head : (R : X → X → Type 0) (x : X) (xs : List X) → AllPairs R (x ∷ xs) → All (R x) xs
  AllPairs-head R x xs h k d lt = h 0 (suc k) d (omega arith) (omega arith)

  pub AllPairs-tail : (R : X → X → Type 0) (x : X) (xs : List X) → AllPairs R (x ∷ xs) → AllPairs R xs
  AllPairs-tail R x xs h i j d lt within = h (suc i) (suc j) d (omega arith) (omega arith)

  pub AllPairs-nil : (R : X → X → Type 0) → AllPairs R []
  AllPairs-nil R i j d lt within = absurd (omega arith)

  pub filter_all : (p : X → Bool) (xs : List X) → All (λ x. p x ≡ true) xs → filter p xs ≡ xs
  filter_all p [] h = refl
  filter_all p (x ∷ xs) h =
      rw (All-head (λ x. p x ≡ true) x xs h) (ap (λ ys. x ∷ ys) (filter_all p xs (All-tail (λ x. p x ≡ true) x xs h)))

  pub filter_none : (p : X → Bool) (xs : List X) → All (λ x. p x ≡ false) xs → filter p xs ≡ []
  filter_none p [] h = refl
  filter_none p (x ∷ xs) h =
      rw (All-head (λ x. p x ≡ false) x xs h) (filter_none p xs (All-tail (λ x. p x ≡ false) x xs h))

  pub filter_front : (p : X → Bool) (xs : List X) (i : ℕ) → AllWithin (λ x. p x ≡ true) xs 0 i → AllWithin (λ x. p x ≡ false) xs i (length xs) → i ≤ length xs → filter p xs ≡ take i xs
  filter_front p [] zero passes fails within = refl
  filter_front p [] (suc i) passes fails within = refl
  filter_front p (x ∷ xs) zero passes fails within = filter_none p (x ∷ xs) (λ k d lt. fails k d (omega arith) lt)
  filter_front p (x ∷ xs) (suc i) passes fails within =
      rw (passes 0 x (omega arith) (omega arith))
      (ap (λ ys. x ∷ ys) (filter_front p xs i (λ k d low high. passes (suc k) d (omega arith) (omega arith)) (λ k d low high. fails (suc k) d (omega arith) (omega arith)) (omega arith)))

  pub filter_back : (p : X → Bool) (xs : List X) (i : ℕ) → AllWithin (λ x. p x ≡ false) xs 0 i → AllWithin (λ x. p x ≡ true) xs i (length xs) → i ≤ length xs → filter p xs ≡ drop i xs
  filter_back p [] zero fails passes within = refl
  filter_back p [] (suc i) fails passes within = refl
  filter_back p (x ∷ xs) zero fails passes within = filter_all p (x ∷ xs) (λ k d lt. passes k d (omega arith) lt)
  filter_back p (x ∷ xs) (suc i) fails passes within =
      rw (fails 0 x (omega arith) (omega arith))
      (filter_back p xs i (λ k d low high. fails (suc k) d (omega arith) (omega arith)) (λ k d low high. passes (suc k) d (omega arith) (omega arith)) (omega arith))

  -- one element does not pass
  pub filter_but_one : (p : X → Bool) (xs : List X) (i : ℕ) → i < length xs → ((k : ℕ) (d : X) → k < length xs → k ≢ i → p (get_or xs k d) ≡ true) → ((d : X) → p (get_or xs i d) ≡ false) → filter p xs ≡ remove xs i
  filter_but_one p [] i within passes fails = absurd (omega arith)
  filter_but_one p (x ∷ xs) zero within passes fails =
      rw (fails x) (filter_all p xs (λ k d lt. passes (suc k) d (omega arith) (omega arith)))
  filter_but_one p (x ∷ xs) (suc i) within passes fails =
      rw (passes 0 x (omega arith) (omega arith))
      (ap (λ ys. x ∷ ys) (filter_but_one p xs i (omega arith) (λ k d lt ne. passes (suc k) d (omega arith) (omega arith)) (λ d. fails d)))

  pub find_first : (p : X → Bool) (xs : List X) (i : ℕ) (d : X) → i < length xs → ((k : ℕ) → k < i → p (get_or xs k d) ≡ false) → p (get_or xs i d) ≡ true → find p xs ≡ Some (get_or xs i d)
  find_first p [] i d within fails passes = absurd (omega arith)
  find_first p (x ∷ xs) zero d within fails passes = rw passes refl
  find_first p (x ∷ xs) (suc i) d within fails passes =
      rw (fails 0 (omega arith)) (find_first p xs i d (omega arith) (λ k lt. fails (suc k) (omega arith)) passes)

  pub find_none : (p : X → Bool) (xs : List X) → All (λ x. p x ≡ false) xs → find p xs ≡ None
  find_none p [] h = refl
  find_none p (x ∷ xs) h =
      rw (All-head (λ x. p x ≡ false) x xs h) (find_none p xs (All-tail (λ x. p x ≡ false) x xs h))

  pub All-middle : (P : X → Type 0) (xs ys : List X) (y : X) → All P (xs ++ ys) → P y → All P (xs ++ y ∷ ys)
  All-middle P [] ys y all one = All-cons P y ys one all
  All-middle P (x ∷ xs) ys y all one =
      All-cons P x (xs ++ y ∷ ys) (All-head P x (xs ++ ys) all)
      (All-middle P xs ys y (All-tail P x (xs ++ ys) all) one)

  -- one more element in the middle
  pub AllPairs-middle : (R : X → X → Type 0) (xs ys : List X) (y : X) → AllPairs R (xs ++ ys) → All (λ x. R x y) xs → All (R y) ys → AllPairs R (xs ++ y ∷ ys)
  AllPairs-middle R [] ys y pairs left right = AllPairs-cons R y ys right pairs
  AllPairs-middle R (x ∷ xs) ys y pairs left right =
      AllPairs-cons R x (xs ++ y ∷ ys)
      (All-middle (R x) xs ys y (AllPairs-head R x (xs ++ ys) pairs) (All-head (λ x. R x y) x xs left))
      (AllPairs-middle R xs ys y (AllPairs-tail R x (xs ++ ys) pairs) (All-tail (λ x. R x y) x xs left) right)

  pub position_none : (p : X → Bool) (xs : List X) → position p xs ≡ None → All (λ x. p x ≡ false) xs
  position_none p xs none k d lt =
      elim (cases_lt (position_or_len p xs) (length xs)) [
        | inl short ↦ let e = lt-ltb (position_or_len p xs) (length xs) short in let f = rw e at none in cc
        | inr long ↦ fails_before_first p xs k d (omega arith)
      ]

-- the entries before a new key, and then those after it, are all
module _ {A : Type 0} (key : Key) where
  pub split_is : (q : List (Key × A)) → AllPairs (λ a b. compare_keys a.0 b.0 ≡ Less) q → IsNewKey key q → filter (λ e. is_before e.0 key) q ++ filter (λ e. is_before key e.0) q ≡ q
  split_is [] up new = refl
  split_is (x ∷ q) up new =
      elim (before_cases x.0 key (All-head (λ e. e.0 ≢ key) x q new)) [
        | inl less ↦
            rw (before_from_less x.0 key less, not_before x.0 key less)
            (ap (λ ys. x ∷ ys) (split_is q (AllPairs-tail (λ a b. compare_keys a.0 b.0 ≡ Less) x q up) (All-tail (λ e. e.0 ≢ key) x q new)))
        | inr more ↦
            let later : All (λ e. compare_keys key e.0 ≡ Less) q =
            λ k d lt. keys_total.trans key x.0 (get_or q k d).0 more (AllPairs-head (λ a b. compare_keys a.0 b.0 ≡ Less) x q up k d lt) in
            rw (
              not_before key x.0 more,
              before_from_less key x.0 more,
              filter_none (λ e. is_before e.0 key) q (λ k d lt. not_before key (get_or q k d).0 (later k d lt)),
              filter_all (λ e. is_before key e.0) q (λ k d lt. before_from_less key (get_or q k d).0 (later k d lt)),
            )
            refl
      ]

  pub placed : (item : A) (q : List (Key × A)) (i : ℕ) → IsNewKey key q → i ≤ length q → AllWithin (λ e. is_before e.0 key ≡ true) q 0 i → AllWithin (λ e. is_before e.0 key ≡ false) q i (length q) → insert q i (key, item) ≡ with_entry key item q
  placed item q i new within passes fails =
      rw (
        filter_front (λ e. is_before e.0 key) q i passes fails within,
        filter_back (λ e. is_before key e.0) q i
            (λ k d low high. not_before (get_or q k d).0 key (less_from_before (get_or q k d).0 key (passes k d low high)))
            (λ k d low high. elim (before_cases (get_or q k d).0 key (new k d high)) [
              | inl less ↦ absurd (false≢true (sym (fails k d low high) ∙ before_from_less (get_or q k d).0 key less))
              | inr more ↦ before_from_less key (get_or q k d).0 more
            ])
            within,
      )
      refl

  -- by what a search for the key answers
  pub placed_from : (item : A) (es q : List (Key × A)) (i : ℕ) → es ≡ q → IsNewKey key q → i ≤ length es → AllWithin (λ e. is_before e.0 key ≡ true) es 0 i → AllWithin (λ e. is_before e.0 key ≡ false) es i (length es) → insert q i (key, item) ≡ with_entry key item q
  placed_from item es q i same new within passes fails =
      placed item q i new (rw same at within) (rw same at passes) (rw same at fails)

  pub searchable : (q : List (Key × A)) → AllPairs (λ a b. compare_keys a.0 b.0 ≡ Less) q → IsPartitionedBy (λ e. is_before e.0 key) q
  searchable q up i j d le lt passes =
      elim (cases_eq i j) [
        | inl same ↦ subst (λ (k : ℕ). is_before (get_or q k d).0 key ≡ true) (sym same) passes
        | inr other ↦
            before_from_less (get_or q i d).0 key
            (keys_total.trans (get_or q i d).0 (get_or q j d).0 key (up i j d (omega arith) lt) (less_from_before (get_or q j d).0 key passes))
      ]

-- what keeps a queue in order
module _ (room : ℕ) where
  pub IsQueue-nil : IsQueue room []
  IsQueue-nil = record {
    ascending = AllPairs-nil (λ a b. compare_keys a.0 b.0 ≡ Less);
    distinct = AllPairs-nil (λ a b. a.1 ≢ b.1);
    in_room = All-nil (λ e. e.1 < room);
  }

  pub IsQueue-filter : (p : Key × ℕ → Bool) (q : List (Key × ℕ)) → IsQueue room q → IsQueue room (filter p q)
  IsQueue-filter p q h = record {
    ascending = AllPairs-filter (λ a b. compare_keys a.0 b.0 ≡ Less) p q h.ascending;
    distinct = AllPairs-filter (λ a b. a.1 ≢ b.1) p q h.distinct;
    in_room = All-filter p (λ e. e.1 < room) q h.in_room;
  }

  pub IsQueue-with_entry : (key : Key) (item : ℕ) (q : List (Key × ℕ)) → IsQueue room q → item < room → IsNewKey key q → IsNewItem item q → IsQueue room (with_entry key item q)
  IsQueue-with_entry key item q h below new_key new_item =
      let front = filter (λ (e : Key × ℕ). is_before e.0 key) q in
      let back = filter (λ (e : Key × ℕ). is_before key e.0) q in
      let whole : front ++ back ≡ q = split_is key q h.ascending new_key in
      record {
        ascending =
            AllPairs-middle (λ a b. compare_keys a.0 b.0 ≡ Less) front back (key, item)
            (rw whole h.ascending)
            (λ k d lt. less_from_before (get_or front k d).0 key (filter_passes (λ (e : Key × ℕ). is_before e.0 key) q k d lt))
            (λ k d lt. less_from_before key (get_or back k d).0 (filter_passes (λ (e : Key × ℕ). is_before key e.0) q k d lt));
        distinct =
            AllPairs-middle (λ a b. a.1 ≢ b.1) front back (key, item)
            (rw whole h.distinct)
            (All-filter (λ e. is_before e.0 key) (λ e. e.1 ≢ item) q new_item)
            (λ k d lt same. All-filter (λ e. is_before key e.0) (λ e. e.1 ≢ item) q new_item k d lt (sym same));
        in_room = All-middle (λ e. e.1 < room) front back (key, item) (rw whole h.in_room) below;
      }

-- an item's key, and the queue without it
module _ (item : ℕ) (q : List (Key × ℕ)) where
  pub IsNewKey-without : (key : Key) → IsNewKey key q → IsNewKey key (without item q)
  IsNewKey-without key new = All-filter (λ e. not (e.1 == item)) (λ e. e.0 ≢ key) q new

  pub IsNewItem-without : IsNewItem item (without item q)
  IsNewItem-without k d lt same =
      both_ways (eqb (get_or (without item q) k d).1 item)
      (not-true _ (filter_passes (λ (e : Key × ℕ). not (e.1 == item)) q k d lt))
      (eq-eqb _ _ same)

  pub removed_is : (i : ℕ) → AllPairs (λ a b. a.1 ≢ b.1) q → i < length q → ((d : Key × ℕ) → ((get_or q i d).1 == item) ≡ true) → remove q i ≡ without item q
  removed_is i distinct within here =
      sym (filter_but_one (λ e. not (e.1 == item)) q i within
      (λ k d lt ne. ap not (ne_eqb (get_or q k d).1 item (λ same. elim (cases_lt k i) [
        | inl low ↦ distinct k i d low within (same ∙ sym (eqb-true _ _ (here d)))
        | inr high ↦ distinct i k d (omega arith) lt (eqb-true _ _ (here d) ∙ sym same)
      ])))
      (λ d. ap not (here d)))

  pub absent_is : All (λ e. (e.1 == item) ≡ false) q → (key_of item q ≡ None) × (without item q ≡ q)
  absent_is none = (
    ap (λ o. option_map (λ (e : Key × ℕ). e.0) o) (find_none (λ e. e.1 == item) q none),
    filter_all (λ e. not (e.1 == item)) q (λ k d lt. ap not (none k d lt)),
  )

  -- by what a search for the item answers
  pub absent_from : (es : List (Key × ℕ)) → es ≡ q → ◌≡◌ {A = Option ℕ} None (position (λ e. e.1 == item) es) → (key_of item q ≡ None) × (without item q ≡ q)
  absent_from es same none = absent_is (position_none (λ e. e.1 == item) q (ap (position (λ e. e.1 == item)) (sym same) ∙ sym none))

  pub present_from : (es : List (Key × ℕ)) (i : ℕ) (x : Key × ℕ) → es ≡ q → Some i ≡ position (λ e. e.1 == item) es → AllPairs (λ a b. a.1 ≢ b.1) q → x ≡ get_or q i x → (Some x.0 ≡ key_of item q) × (remove q i ≡ without item q)
  present_from es i x same found distinct read =
      let at : position (λ e. e.1 == item) q ≡ Some i = ap (position (λ e. e.1 == item)) (sym same) ∙ sym found in
      let here = position-Some (λ e. e.1 == item) q i x at in (
        ap (λ (e : Key × ℕ). Some e.0) read ∙ sym (ap (λ o. option_map (λ (e : Key × ℕ). e.0) o) (find_first (λ e. e.1 == item) q i x here.0 here.2 here.1)),
        removed_is i distinct here.0 (λ d. (position-Some (λ e. e.1 == item) q i d at).1),
      )

pub item_in_room : (room item : ℕ) (q : List (Key × ℕ)) → IsSome (key_of item q) → All (λ e. e.1 < room) q → item < room
item_in_room room item [] there all = cc
item_in_room room item (x ∷ q) there all =
    elim (cases_Bool (x.1 == item)) [
      | inl passes ↦ subst (λ (n : ℕ). n < room) (eqb-true _ _ passes) (All-head (λ e. e.1 < room) x q all)
      | inr other ↦ item_in_room room item q (rw other at there) (All-tail (λ e. e.1 < room) x q all)
    ]
