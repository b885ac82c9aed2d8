-- What keeps each item's key beside a queue's list of entries.
use Rattle.std.proofs.Common.{◌≡◌, ◌≢◌, ◌==◌, ℕ, suc, zero, ◌+◌, ◌<◌, ◌≤◌, true, false, not, List, [], ◌∷◌, ◌++◌, length, get_or, set, drop, refl, ap, sym, ◌∙◌, arith, Some, None, Option, inl, inr, subst}
use Rattle.std.specs.Prelude.{filter, All, AllPairs, remove, option_map}
use Rattle.std.specs.List.{AllWithin}
use Rattle.std.specs.declared.cmp.Ordering.TheVariants.{Less}
use Rattle.std.proofs.lemmas.List.{get_or-set_same, get_or-set_other, length-set}
use Rattle.std.proofs.lemmas.List.Elements.{All-filter, All-head, All-tail}
use Rattle.std.proofs.lemmas.Bool.{eq-eqb, ne_eqb, eqb-true, cases_lt, cases_eq, cases_Bool, false≢true}
use Rattle.b1_model.specs.Keys.{compare_keys}
use Rattle.b1_model.specs.declared.naming.Key.{Key}
use Rattle.b1_queue.specs.Queue.{is_before, IsKept, with_entry, without, key_of, IsNewKey, IsNewItem}
use Rattle.b1_queue.proofs.Order.{before_from_less, not_before_itself}
use Rattle.b1_queue.proofs.Entries.{AllPairs-head, AllPairs-tail, IsQueue-filter, IsQueue-with_entry, IsNewItem-without, find_first, find_none, removed_is, split_is}

-- where an entry with a given item stands, if there is one
pub record StandsAt (q : List (Key × ℕ)) (key : Key) (item i : ℕ) : Type 0 where
  pub within : i < length q
  pub here : (d : Key × ℕ) → get_or q i d ≡ (key, item)

module _ (item : ℕ) where
  pub key_among : (P : Key → Type 0) (q : List (Key × ℕ)) (key : Key) → All (λ e. P e.0) q → key_of item q ≡ Some key → P key
  key_among P [] key all there = cc
  key_among P (x ∷ q) key all there =
      elim (cases_Bool (x.1 == item)) [
        | inl passes ↦
            let same : Some x.0 ≡ Some key = rw passes at there in
            let is : x.0 ≡ key = cc in
            subst P is (All-head (λ (e : Key × ℕ). P e.0) x q all)
        | inr other ↦ key_among P q key (All-tail (λ (e : Key × ℕ). P e.0) x q all) (rw other at there)
      ]

  -- an item stands where its key is looked for
  pub stands_at : (q : List (Key × ℕ)) (key : Key) (at : ℕ) → AllPairs (λ a b. compare_keys a.0 b.0 ≡ Less) q → key_of item q ≡ Some key → AllWithin (λ e. is_before e.0 key ≡ true) q 0 at → AllWithin (λ e. is_before e.0 key ≡ false) q at (length q) → StandsAt q key item at
  stands_at [] key at up there before after = cc
  stands_at (x ∷ q) key zero up there before after =
      elim (cases_Bool (x.1 == item)) [
        | inl passes ↦
            let same : Some x.0 ≡ Some key = rw passes at there in
            let is : x.1 ≡ item = eqb-true _ _ passes in
            let key_is : x.0 ≡ key = cc in
            record {
              within = omega arith;
              here = λ d i. (key_is i, is i);
            }
        | inr other ↦
            let less = key_among (λ k. compare_keys x.0 k ≡ Less) q key (AllPairs-head (λ a b. compare_keys a.0 b.0 ≡ Less) x q up) (rw other at there) in
            absurd (false≢true (sym (after 0 x (omega arith) (omega arith)) ∙ before_from_less x.0 key less))
      ]
  stands_at (x ∷ q) key (suc at) up there before after =
      elim (cases_Bool (x.1 == item)) [
        | inl passes ↦
            let same : Some x.0 ≡ Some key = rw passes at there in
            let is : x.0 ≡ key = cc in
            let early : is_before x.0 key ≡ true = before 0 x (omega arith) (omega arith) in
            absurd (false≢true (sym (not_before_itself key) ∙ subst (λ (k : Key). is_before k key ≡ true) is early))
        | inr other ↦
            let rest = stands_at q key at (AllPairs-tail (λ a b. compare_keys a.0 b.0 ≡ Less) x q up) (rw other at there) (λ k d low high. before (suc k) d (omega arith) (omega arith)) (λ k d low high. after (suc k) d (omega arith) (omega arith)) in
            record {
              within = let within = rest.within in omega arith;
              here = λ d. rest.here d;
            }
      ]

  pub key_of-middle_same : (key : Key) (xs ys : List (Key × ℕ)) → All (λ e. e.1 ≢ item) xs → key_of item (xs ++ (key, item) ∷ ys) ≡ Some key
  key_of-middle_same key [] ys new = rw (eq-eqb item item refl) refl
  key_of-middle_same key (x ∷ xs) ys new =
      rw (ne_eqb x.1 item (All-head (λ e. e.1 ≢ item) x xs new)) (key_of-middle_same key xs ys (All-tail (λ e. e.1 ≢ item) x xs new))

  pub key_of-middle_other : (e : Key × ℕ) (xs ys : List (Key × ℕ)) → e.1 ≢ item → key_of item (xs ++ e ∷ ys) ≡ key_of item (xs ++ ys)
  key_of-middle_other e [] ys other = rw (ne_eqb e.1 item other) refl
  key_of-middle_other e (x ∷ xs) ys other =
      elim (cases_Bool (x.1 == item)) [
        | inl passes ↦ rw passes refl
        | inr fails ↦ rw fails (key_of-middle_other e xs ys other)
      ]

  pub key_of-new : (q : List (Key × ℕ)) → IsNewItem item q → key_of item q ≡ None
  key_of-new q new =
      ap (λ o. option_map (λ (e : Key × ℕ). e.0) o) (find_none (λ e. e.1 == item) q (λ k d lt. ne_eqb _ _ (new k d lt)))

  pub key_of-without_other : (other : ℕ) (q : List (Key × ℕ)) → other ≢ item → key_of item (without other q) ≡ key_of item q
  key_of-without_other other [] ne = refl
  key_of-without_other other (x ∷ q) ne =
      elim (cases_Bool (x.1 == other)) [
        | inl gone ↦
            let is : x.1 ≡ other = eqb-true _ _ gone in
            rw (gone, ne_eqb x.1 item (λ same. ne (sym is ∙ same))) (key_of-without_other other q ne)
        | inr stays ↦
            elim (cases_Bool (x.1 == item)) [
              | inl passes ↦ rw (stays, passes) refl
              | inr fails ↦ rw (stays, fails) (key_of-without_other other q ne)
            ]
      ]

module _ (spare len capacity : ℕ) (q : List (Key × ℕ)) (keys : List (Option Key)) (kept : IsKept spare len capacity q keys) (more_spare more_len more_capacity : ℕ) (fits : more_spare + more_len ≤ more_capacity) where
  pub kept_put : (key : Key) (item : ℕ) → item < length keys → IsNewKey key q → IsNewItem item q → IsKept more_spare more_len more_capacity (with_entry key item q) (set keys item (Some key))
  kept_put key item below new_key new_item =
      let front = filter (λ (e : Key × ℕ). is_before e.0 key) q in
      let back = filter (λ (e : Key × ℕ). is_before key e.0) q in
      let whole : front ++ back ≡ q = split_is key q kept.in_order.ascending new_key in
      record {
        in_order = rw (length-set keys item (Some key)) (IsQueue-with_entry (length keys) key item q kept.in_order below new_key new_item);
        indexed = λ i. elim (cases_eq i item) [
          | inl same ↦
              rw same
              (get_or-set_same keys item (Some key) None below
              ∙ sym (key_of-middle_same item key front back (All-filter (λ e. is_before e.0 key) (λ e. e.1 ≢ item) q new_item)))
          | inr other ↦
              get_or-set_other keys item i (Some key) None other
              ∙ kept.indexed i
              ∙ ap (key_of i) (sym whole)
              ∙ sym (key_of-middle_other i (key, item) front back (λ same. other (sym same)))
        ];
        fits = fits;
      }

  pub kept_without : (item : ℕ) → item < length keys → IsKept more_spare more_len more_capacity (without item q) (set keys item None)
  kept_without item below = record {
    in_order = rw (length-set keys item None) (IsQueue-filter (length keys) (λ e. not (e.1 == item)) q kept.in_order);
    indexed = λ i. elim (cases_eq i item) [
      | inl same ↦ rw same (get_or-set_same keys item None None below ∙ sym (key_of-new item (without item q) (IsNewItem-without item q)))
      | inr other ↦ get_or-set_other keys item i None None other ∙ kept.indexed i ∙ sym (key_of-without_other i item q (λ same. other (sym same)))
    ];
    fits = fits;
  }

-- the front is the only entry with its item
pub without_front : (q : List (Key × ℕ)) (e : Key × ℕ) → AllPairs (λ a b. a.1 ≢ b.1) q → 0 < length q → e ≡ get_or q 0 e → without e.1 q ≡ drop 1 q
without_front [] e distinct there is = absurd (omega arith)
without_front (x ∷ q) e distinct there is =
    sym (removed_is e.1 (x ∷ q) 0 distinct there (λ d. eq-eqb _ _ (ap (λ (f : Key × ℕ). f.1) (sym is))))

pub without_absent : (q : List (Key × ℕ)) (item : ℕ) → key_of item q ≡ None → without item q ≡ q
without_absent [] item none = refl
without_absent (x ∷ q) item none =
    elim (cases_Bool (x.1 == item)) [
      | inl passes ↦ let is : Some x.0 ≡ None = rw passes at none in cc
      | inr fails ↦ rw fails (ap (λ ys. x ∷ ys) (without_absent q item (rw fails at none)))
    ]

pub removed_at : (q : List (Key × ℕ)) (key : Key) (item at : ℕ) → AllPairs (λ a b. a.1 ≢ b.1) q → StandsAt q key item at → remove q at ≡ without item q
removed_at q key item at distinct stands =
    removed_is item q at distinct stands.within (λ d. eq-eqb _ _ (ap (λ (e : Key × ℕ). e.1) (stands.here d)))

-- the key of each entry's item is its own
pub key_known : (q : List (Key × ℕ)) (item : ℕ) → AllPairs (λ a b. a.1 ≢ b.1) q → All (λ e. e.1 ≡ item → key_of item q ≡ Some e.0) q
key_known q item distinct k d lt same =
    ap (λ o. option_map (λ (e : Key × ℕ). e.0) o)
    (find_first (λ e. e.1 == item) q k d lt (λ j low. ne_eqb _ _ (λ s. distinct j k d low lt (s ∙ sym same))) (eq-eqb _ _ same))

-- a key that is not where it would be is nowhere
pub new_past : (q : List (Key × ℕ)) (key : Key) (at : ℕ) → AllWithin (λ e. is_before e.0 key ≡ true) q 0 at → length q ≤ at → IsNewKey key q
new_past q key at before past k d lt same =
    let early : is_before (get_or q k d).0 key ≡ true = before k d (omega arith) (omega arith) in
    absurd (false≢true (sym (not_before_itself key) ∙ subst (λ (x : Key). is_before x key ≡ true) same early))

pub new_there : (q : List (Key × ℕ)) (key : Key) (at : ℕ) → AllPairs (λ a b. compare_keys a.0 b.0 ≡ Less) q → AllWithin (λ e. is_before e.0 key ≡ true) q 0 at → AllWithin (λ e. is_before e.0 key ≡ false) q at (length q) → at < length q → ((d : Key × ℕ) → (get_or q at d).0 ≢ key) → IsNewKey key q
new_there q key at up before after within other k d lt same =
    elim (cases_lt k at) [
      | inl low ↦
          let early : is_before (get_or q k d).0 key ≡ true = before k d (omega arith) low in
          absurd (false≢true (sym (not_before_itself key) ∙ subst (λ (x : Key). is_before x key ≡ true) same early))
      | inr high ↦ elim (cases_eq k at) [
        | inl here ↦ other d (subst (λ (j : ℕ). (get_or q j d).0 ≡ key) here same)
        | inr later ↦
            let early : compare_keys (get_or q at d).0 (get_or q k d).0 ≡ Less = up at k d (omega arith) lt in
            absurd (false≢true (sym (after at d (omega arith) within) ∙ before_from_less (get_or q at d).0 key (subst (λ (x : Key). compare_keys (get_or q at d).0 x ≡ Less) same early)))
      ]
    ]
