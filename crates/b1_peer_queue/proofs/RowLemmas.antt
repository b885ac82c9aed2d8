-- The rows of a queue: what a change of the listed places and of what stands at them makes of the queue of entries.
use Rattle.std.proofs.Common.{◌≡◌, ◌≢◌, ◌==◌, refl, sym, ap, ◌∙◌, inl, inr, subst, ℕ, suc, ◌+◌, ◌≤◌, Bool, true, false, not, ◌&&◌, List, [], ◌∷◌, length, get_or, drop, map, filter, Option, Some, None, IsSome, arith, add-one}
use Rattle.std.specs.Prelude.{All, AllPairs, option_map, slice_get, if◌then◌else◌}
use Rattle.std.specs.declared.cmp.Ordering.TheVariants.{Less}
use Rattle.std.proofs.lemmas.Bool.{cases_Bool, eq-eqb, ne_eqb}
use Rattle.std.proofs.lemmas.List.Elements.{All-head, All-tail, All-nil, All-cons, filter-append}
use Rattle.std.proofs.lemmas.List.Sums.{sum_by-cons}
use Rattle.b1_model.specs.Keys.{compare_keys}
use Rattle.b1_model.specs.declared.naming.Key.{Key}
use Rattle.b1_model.specs.declared.entries.Entry.{Entry}
use Rattle.b1_model.specs.MachineParts.{is_data, is_staged}
use Rattle.b1_model.specs.MachineTables.{put, without}
use Rattle.b1_step.specs.Ordered.{Ascending, Behind, NewKey}
use Rattle.b1_step.specs.Rights.{Has}
use Rattle.b1_queue.specs.Queue.{IsNewItem, IsNewKey, is_before, key_of, with_entry, without as without_place}
use Rattle.b1_queue.proofs.Order.{before_cases, before_from_less, keys_total, not_before}
use Rattle.b1_queue.proofs.Entries.{AllPairs-head, AllPairs-tail, All-middle, filter_all, filter_none, split_is}
use Rattle.b1_entry.specs.Table.{entry_at}
use Rattle.b1_peer_queue.specs.declared.wanted.Wanted.TheVariants.{Notice}
use Rattle.b1_peer_queue.specs.Mail.{count}
use Rattle.b1_peer_queue.specs.Rows.{entry_or, is_marked, passes, row, shown}
use Rattle.b1_peer_queue.proofs.ListLemmas.{filter_same, filter_swap, has_all, length-middle, suc_plus}

-- ---- lists of keys and places

module _ (key : Key) (place : ℕ) where
  -- a list with one entry more: how long it is, and what holds of all
  pub length-with_entry : (q : List (Key × ℕ)) → AllPairs (λ a b. compare_keys a.0 b.0 ≡ Less) q → IsNewKey key q → length (with_entry key place q) ≡ length q + 1
  length-with_entry q up new =
      length-middle (filter (λ (e : Key × ℕ). is_before e.0 key) q) (filter (λ (e : Key × ℕ). is_before key e.0) q) (key, place)
      ∙ ap (λ (es : List (Key × ℕ)). length es + 1) (split_is key q up new)

  pub all_with_entry : (P : Key × ℕ → Type 0) (q : List (Key × ℕ)) → AllPairs (λ a b. compare_keys a.0 b.0 ≡ Less) q → IsNewKey key q → P (key, place) → All P q → All P (with_entry key place q)
  all_with_entry P q up new here all =
      All-middle P (filter (λ (e : Key × ℕ). is_before e.0 key) q) (filter (λ (e : Key × ℕ). is_before key e.0) q) (key, place) (rw (split_is key q up new) all) here

  -- a filter that keeps it, or not
  pub filter_with_entry : (p : Key × ℕ → Bool) (q : List (Key × ℕ)) → p (key, place) ≡ true → filter p (with_entry key place q) ≡ with_entry key place (filter p q)
  filter_with_entry p q here =
      filter-append p (filter (λ (e : Key × ℕ). is_before e.0 key) q) ((key, place) ∷ filter (λ (e : Key × ℕ). is_before key e.0) q)
      ∙ rw (here, filter_swap p (λ (e : Key × ℕ). is_before e.0 key) q, filter_swap p (λ (e : Key × ℕ). is_before key e.0) q) refl

  pub filter_without_entry : (p : Key × ℕ → Bool) (q : List (Key × ℕ)) → AllPairs (λ a b. compare_keys a.0 b.0 ≡ Less) q → IsNewKey key q → p (key, place) ≡ false → filter p (with_entry key place q) ≡ filter p q
  filter_without_entry p q up new here =
      filter-append p (filter (λ (e : Key × ℕ). is_before e.0 key) q) ((key, place) ∷ filter (λ (e : Key × ℕ). is_before key e.0) q)
      ∙ rw here (sym (filter-append p (filter (λ (e : Key × ℕ). is_before e.0 key) q) (filter (λ (e : Key × ℕ). is_before key e.0) q)) ∙ ap (filter p) (split_is key q up new))

  -- its key is found, and it leaves a list that is shorter by one
  pub key_there : (q : List (Key × ℕ)) → Has q (key, place) → IsSome (key_of place q)
  key_there [] h = absurd h
  key_there (e ∷ q) (inl same) = let here : (e.1 == place) ≡ true = eq-eqb e.1 place (ap (λ (x : Key × ℕ). x.1) (sym same)) in rw here refl
  key_there (e ∷ q) (inr further) = elim (cases_Bool (e.1 == place)) [ inl here ↦ rw here refl | inr other ↦ rw other (key_there q further) ]

  pub length-without : (q : List (Key × ℕ)) → AllPairs (λ a b. a.1 ≢ b.1) q → Has q (key, place) → length q ≡ length (without_place place q) + 1
  length-without [] distinct h = absurd h
  length-without (e ∷ q) distinct (inl same) =
      let at : e.1 ≡ place = ap (λ (x : Key × ℕ). x.1) (sym same) in
      rw (eq-eqb e.1 place at)
      (rw (filter_all (λ (x : Key × ℕ). not (x.1 == place)) q (λ k d lt. ap not (ne_eqb (get_or q k d).1 place (λ s. AllPairs-head (λ (a b : Key × ℕ). a.1 ≢ b.1) e q distinct k d lt (at ∙ sym s)))))
      (sym (add-one (length q))))
  length-without (e ∷ q) distinct (inr further) =
      let other : (e.1 == place) ≡ false = ne_eqb e.1 place (has_all (λ (x : Key × ℕ). e.1 ≢ x.1) q (key, place) further (AllPairs-head (λ (a b : Key × ℕ). a.1 ≢ b.1) e q distinct)) in
      rw other (ap suc (length-without q (AllPairs-tail (λ (a b : Key × ℕ). a.1 ≢ b.1) e q distinct) further) ∙ suc_plus (length (without_place place q)))

-- ---- what stands at the places

module _ (slots : List (Option Entry)) where
  pub new_listed : (key : Key) (q : List (Key × ℕ)) → NewKey key (shown slots q) → IsNewKey key q
  new_listed key [] new = All-nil (λ (e : Key × ℕ). e.0 ≢ key)
  new_listed key (e ∷ q) new = All-cons (λ (e : Key × ℕ). e.0 ≢ key) e q new.0 (new_listed key q new.1)

  -- a vacant place isn't listed
  pub vacant_is_new : (place : ℕ) (q : List (Key × ℕ)) → All (λ e. IsSome (entry_at slots e.1)) q → entry_at slots place ≡ None → IsNewItem place q
  vacant_is_new place q filled vacant k d lt same =
      let there = filled k d lt in
      let nothing : entry_at slots (get_or q k d).1 ≡ None = ap (entry_at slots) same ∙ vacant in
      let e = rw nothing at there in absurd (cc e)

  -- one entry more
  pub shown-with_entry : (key : Key) (place : ℕ) (q : List (Key × ℕ)) → AllPairs (λ a b. compare_keys a.0 b.0 ≡ Less) q → IsNewKey key q → shown slots (with_entry key place q) ≡ put key (entry_or (entry_at slots place)) (shown slots q)
  shown-with_entry key place [] up new = refl
  shown-with_entry key place (x ∷ q) up new =
      elim (before_cases x.0 key (All-head (λ e. e.0 ≢ key) x q new)) [
        | inl less ↦
            rw (before_from_less x.0 key less, not_before x.0 key less)
            (ap (λ ys. row slots x ∷ ys) (shown-with_entry key place q (AllPairs-tail (λ a b. compare_keys a.0 b.0 ≡ Less) x q up) (All-tail (λ e. e.0 ≢ key) x q new)))
        | inr more ↦
            let later : All (λ e. compare_keys key e.0 ≡ Less) q =
            λ k d lt. keys_total.trans key x.0 (get_or q k d).0 more (AllPairs-head (λ a b. compare_keys a.0 b.0 ≡ Less) x q up k d lt) in
            rw (
              not_before key x.0 more,
              before_from_less key x.0 more,
              filter_none (λ (e : Key × ℕ). is_before e.0 key) q (λ k d lt. not_before key (get_or q k d).0 (later k d lt)),
              filter_all (λ (e : Key × ℕ). is_before key e.0) q (λ k d lt. before_from_less key (get_or q k d).0 (later k d lt)),
            )
            refl
      ]

  -- none that passes is left
  none_passes : (test : Key × Entry → Bool) (q : List (Key × ℕ)) → count test (shown slots q) ≡ 0 → filter (λ f. not (test f)) (shown slots q) ≡ shown slots q
  none_passes test [] none = refl
  none_passes test (e ∷ q) none =
      let sum = sum_by-cons (λ (f : Key × Entry). if test f then 1 else 0) (row slots e) (shown slots q) in
      elim (cases_Bool (test (row slots e))) [
        | inl a ↦ let s = rw a at sum in absurd (omega (arith, s, none))
        | inr a ↦ let s = rw a at sum in rw a (ap (λ ys. row slots e ∷ ys) (none_passes test q (omega (arith, s, none))))
      ]

  counted : (test : Key × Entry → Bool) (q : List (Key × ℕ)) (e : Key × ℕ) → Has q e → test (row slots e) ≡ true → 1 ≤ count test (shown slots q)
  counted test [] e h fits = absurd h
  counted test (x ∷ q) e (inl same) fits =
      let sum = sum_by-cons (λ (f : Key × Entry). if test f then 1 else 0) (row slots x) (shown slots q) in
      let here : test (row slots x) ≡ true = subst (λ (y : Key × ℕ). test (row slots y) ≡ true) same fits in
      let s = rw here at sum in omega (arith, s)
  counted test (x ∷ q) e (inr further) fits =
      let sum = sum_by-cons (λ (f : Key × Entry). if test f then 1 else 0) (row slots x) (shown slots q) in
      let ih = counted test q e further fits in omega (arith, sum, ih)

  -- the one that fits leaves
  pub shown-without : (test : Key × Entry → Bool) (q : List (Key × ℕ)) (e : Key × ℕ) → AllPairs (λ a b. a.1 ≢ b.1) q → Has q e → test (row slots e) ≡ true → count test (shown slots q) ≤ 1 → shown slots (without_place e.1 q) ≡ without test (shown slots q)
  shown-without test [] e distinct h fits one = absurd h
  shown-without test (x ∷ q) e distinct (inl same) fits one =
      let sum = sum_by-cons (λ (f : Key × Entry). if test f then 1 else 0) (row slots x) (shown slots q) in
      let here : test (row slots x) ≡ true = subst (λ (y : Key × ℕ). test (row slots y) ≡ true) same fits in
      let at : x.1 ≡ e.1 = ap (λ (y : Key × ℕ). y.1) (sym same) in
      let s = rw here at sum in
      rw (eq-eqb x.1 e.1 at, here)
      (ap (shown slots) (filter_all (λ (y : Key × ℕ). not (y.1 == e.1)) q (λ k d lt. ap not (ne_eqb (get_or q k d).1 e.1 (λ t. AllPairs-head (λ (a b : Key × ℕ). a.1 ≢ b.1) x q distinct k d lt (at ∙ sym t)))))
      ∙ sym (none_passes test q (omega (arith, s, one))))
  shown-without test (x ∷ q) e distinct (inr further) fits one =
      let sum = sum_by-cons (λ (f : Key × Entry). if test f then 1 else 0) (row slots x) (shown slots q) in
      let some = counted test q e further fits in
      let other : (x.1 == e.1) ≡ false = ne_eqb x.1 e.1 (has_all (λ (y : Key × ℕ). x.1 ≢ y.1) q e further (AllPairs-head (λ (a b : Key × ℕ). a.1 ≢ b.1) x q distinct)) in
      elim (cases_Bool (test (row slots x))) [
        | inl a ↦ let s = rw a at sum in absurd (omega (arith, s, some, one))
        | inr a ↦ let s = rw a at sum in rw (other, a) (ap (λ ys. row slots x ∷ ys) (shown-without test q e (AllPairs-tail (λ (a b : Key × ℕ). a.1 ≢ b.1) x q distinct) further fits (omega (arith, s, one))))
      ]

  -- the first entry
  pub first_shown : (q : List (Key × ℕ)) (e : Key × ℕ) → slice_get q 0 ≡ Some e → slice_get (shown slots q) 0 ≡ Some (row slots e)
  first_shown [] e is = absurd (cc is)
  first_shown (x ∷ q) e is = ap (option_map (row slots)) is

  pub first_leaves : (q : List (Key × ℕ)) (e : Key × ℕ) → AllPairs (λ a b. a.1 ≢ b.1) q → slice_get q 0 ≡ Some e → shown slots (without_place e.1 q) ≡ drop 1 (shown slots q)
  first_leaves [] e distinct is = absurd (cc is)
  first_leaves (x ∷ q) e distinct is =
      let same : x ≡ e = cc is in
      let at : x.1 ≡ e.1 = ap (λ (y : Key × ℕ). y.1) same in
      rw (eq-eqb x.1 e.1 at)
      (ap (shown slots) (filter_all (λ (y : Key × ℕ). not (y.1 == e.1)) q (λ k d lt. ap not (ne_eqb (get_or q k d).1 e.1 (λ t. AllPairs-head (λ (a b : Key × ℕ). a.1 ≢ b.1) x q distinct k d lt (at ∙ sym t))))))

  pub shown_ascending : (q : List (Key × ℕ)) → AllPairs (λ a b. compare_keys a.0 b.0 ≡ Less) q → Ascending (shown slots q)
  shown_ascending [] up = tt
  shown_ascending (e ∷ q) up = (behind q (AllPairs-head (λ a b. compare_keys a.0 b.0 ≡ Less) e q up), shown_ascending q (AllPairs-tail (λ a b. compare_keys a.0 b.0 ≡ Less) e q up))
    where
      behind : (q : List (Key × ℕ)) → All (λ x. compare_keys e.0 x.0 ≡ Less) q → Behind e.0 (shown slots q)
      behind [] all = tt
      behind (x ∷ q) all = (before_from_less e.0 x.0 (All-head (λ x. compare_keys e.0 x.0 ≡ Less) x q all), behind q (All-tail (λ x. compare_keys e.0 x.0 ≡ Less) x q all))

-- a driver's notices are marked
and_swap : (a b : Bool) → (a && b) ≡ (b && a)
and_swap true true = refl
and_swap true false = refl
and_swap false true = refl
and_swap false false = refl

pub notice_is_marked : (origin : ℕ) (f : Key × Entry) → passes (Notice origin) f ≡ (is_marked f && (f.0.origin == origin))
notice_is_marked origin f = ap (λ b. b && (f.0.origin == origin)) (and_swap (not (is_data f.1)) (is_staged f))

-- two tables that have the same at every listed place
module _ (old new : List (Option Entry)) (q : List (Key × ℕ)) (same : All (λ e. entry_at new e.1 ≡ entry_at old e.1) q) where
  same_rows : All (λ e. row new e ≡ row old e) q
  same_rows k d lt = ap (λ (o : Option Entry). ((get_or q k d).0, entry_or o)) (same k d lt)

  pub shown_same : shown new q ≡ shown old q
  shown_same = mapped q same_rows
    where
      mapped : (es : List (Key × ℕ)) → All (λ e. row new e ≡ row old e) es → map (row new) es ≡ map (row old) es
      mapped [] all = refl
      mapped (e ∷ es) all = rw (All-head (λ e. row new e ≡ row old e) e es all, mapped es (All-tail (λ e. row new e ≡ row old e) e es all)) refl

  pub marked_same : filter (λ e. is_marked (row new e)) q ≡ filter (λ e. is_marked (row old e)) q
  marked_same = filter_same (λ e. is_marked (row new e)) (λ e. is_marked (row old e)) q (λ k d lt. ap is_marked (same_rows k d lt))

  pub filled_same : All (λ e. IsSome (entry_at old e.1)) q → All (λ e. IsSome (entry_at new e.1)) q
  filled_same filled k d lt = subst (λ (o : Option Entry). IsSome o) (sym (same k d lt)) (filled k d lt)
