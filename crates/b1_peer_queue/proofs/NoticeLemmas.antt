-- The staged notices of a driver, which get their final keys one by one.
use Rattle.std.proofs.Common.{◌≡◌, ◌≢◌, ◌==◌, refl, sym, ap, ◌∙◌, inl, inr, ℕ, ◌+◌, Bool, true, false, cond, not, ◌&&◌, List, [], ◌∷◌, length, get_or, map, filter, find, Option, Some, None, add-one}
use Rattle.std.specs.Prelude.{AllPairs}
use Rattle.std.proofs.lemmas.Bool.{cases_Bool, eq-eqb, ne_eqb}
use Rattle.b1_model.specs.declared.naming.Key.{Key}
use Rattle.b1_model.specs.declared.entries.Entry.{Entry}
use Rattle.b1_model.specs.MachineParts.{is_data, is_odd, key_before}
use Rattle.b1_model.specs.MachineTables.{is_staged_notice, put, put_all, without}
use Rattle.b1_model.specs.MachineSend.{with_stamp}
use Rattle.b1_step.specs.Ordered.{Ascending, Behind, NewKey}
use Rattle.b1_step.proofs.Orders.{behind_trans, key_after, key_not_itself, key_trans}
use Rattle.b1_queue.specs.Queue.{IsQueue, restamped, without as without_place}
use Rattle.b1_queue.proofs.Entries.{AllPairs-head, AllPairs-tail, IsNewKey-without, IsQueue-filter, filter_all}
use Rattle.b1_entry.specs.Table.{entry_at}
use Rattle.b1_peer_queue.specs.Mail.{DistinctIndexes, Every, NewIndex, NewUnder, notices_queue, staged_notices}
use Rattle.b1_peer_queue.specs.Rows.{entry_or, row, shown}
use Rattle.b1_peer_queue.proofs.ListLemmas.{find_passes, has_all, none_found}
use Rattle.b1_peer_queue.proofs.RowLemmas.{new_listed, shown-with_entry, shown_ascending}

abbrev Items : Type 0
Items = List (Key × Entry)

-- ---- what comes in

not_both : (a b : Key) → key_before a b ≡ true → key_before b a ≡ false
not_both a b h =
    elim (cases_Bool (key_before b a)) [
      | inl k ↦ let e = key_trans a b a h k in let f = key_not_itself a in absurd (cc (e, f))
      | inr k ↦ k
    ]

-- two entries with different keys come in in any order
pub put_swap : (a b : Key) (d e : Entry) (queue : Items) → a ≢ b → put a d (put b e queue) ≡ put b e (put a d queue)
put_swap a b d e [] apart =
    elim (cases_Bool (key_before a b)) [
      | inl h ↦ rw (h, not_both a b h) refl
      | inr h ↦ rw (h, key_after a b apart h) refl
    ]
put_swap a b d e (f ∷ rest) apart =
    elim (cases_Bool (key_before a f.0)) [
      | inl h ↦ elim (cases_Bool (key_before b f.0)) [
        | inl k ↦ elim (cases_Bool (key_before a b)) [
          | inl i ↦ rw (k, h, i, not_both a b i, k) refl
          | inr i ↦ rw (k, h, i, key_after a b apart i) refl
        ]
        | inr k ↦
            let i : key_before b a ≡ false = elim (cases_Bool (key_before b a)) [ inl j ↦ let l = key_trans b a f.0 j h in absurd (cc (l, k)) | inr j ↦ j ] in
            rw (k, h, i, k) refl
      ]
      | inr h ↦ elim (cases_Bool (key_before b f.0)) [
        | inl k ↦
            let i : key_before a b ≡ false = elim (cases_Bool (key_before a b)) [ inl j ↦ let l = key_trans a b f.0 j k in absurd (cc (l, h)) | inr j ↦ j ] in
            rw (k, h, i, k) refl
        | inr k ↦ rw (k, h, k) (ap (λ ys. f ∷ ys) (put_swap a b d e rest apart))
      ]
    ]

-- an entry that doesn't pass comes in unseen
pub filter_put_not : (p : Key × Entry → Bool) (k : Key) (e : Entry) (queue : Items) → p (k, e) ≡ false → filter p (put k e queue) ≡ filter p queue
filter_put_not p k e [] no_pass = rw no_pass refl
filter_put_not p k e (f ∷ rest) no_pass =
    elim (cases_Bool (key_before k f.0)) [
      | inl h ↦ rw (h, no_pass) refl
      | inr h ↦ rw h (elim (cases_Bool (p f)) [ inl i ↦ rw i (ap (λ ys. f ∷ ys) (filter_put_not p k e rest no_pass)) | inr i ↦ rw i (filter_put_not p k e rest no_pass) ])
    ]

put_before : (k : Key) (e : Entry) (queue : Items) → Behind k queue → put k e queue ≡ (k, e) ∷ queue
put_before k e [] h = refl
put_before k e (f ∷ rest) h = rw h.0 refl

behind_filter : (p : Key × Entry → Bool) (k : Key) (queue : Items) → Behind k queue → Behind k (filter p queue)
behind_filter p k [] h = h
behind_filter p k (f ∷ rest) h = elim (p f) as (λ b. Behind k (cond b (f ∷ filter p rest) (filter p rest))) [ true ↦ (h.0, behind_filter p k rest h.1) | false ↦ behind_filter p k rest h.1 ]

-- one that passes comes in among those that do
pub filter_put : (p : Key × Entry → Bool) (k : Key) (e : Entry) (queue : Items) → Ascending queue → p (k, e) ≡ true → filter p (put k e queue) ≡ put k e (filter p queue)
filter_put p k e [] up pass = rw pass refl
filter_put p k e (f ∷ rest) up pass =
    elim (cases_Bool (key_before k f.0)) [
      | inl h ↦ rw (h, pass) (sym (put_before k e (filter p (f ∷ rest)) (behind_filter p k (f ∷ rest) (h, behind_trans k f.0 rest h up.0))))
      | inr h ↦ rw h (elim (cases_Bool (p f)) [
        | inl i ↦ rw (i, h) (ap (λ ys. f ∷ ys) (filter_put p k e rest up.1 pass))
        | inr i ↦ rw i (filter_put p k e rest up.1 pass)
      ])
    ]

-- an entry comes in before several others
pub put_all_put : (k : Key) (e : Entry) (more queue : Items) → Every (λ f. f.0 ≢ k) more → put_all more (put k e queue) ≡ put k e (put_all more queue)
put_all_put k e [] queue apart = refl
put_all_put k e (f ∷ rest) queue apart =
    ap (put f.0 f.1) (put_all_put k e rest queue apart.1) ∙ put_swap f.0 k f.1 e (put_all rest queue) apart.0

pub new_put : (k a : Key) (e : Entry) (queue : Items) → a ≢ k → NewKey k queue → NewKey k (put a e queue)
new_put k a e [] apart new = (apart, new)
new_put k a e (f ∷ rest) apart new = elim (key_before a f.0) as (λ b. NewKey k (cond b ((a, e) ∷ f ∷ rest) (f ∷ put a e rest))) [ true ↦ (apart, new) | false ↦ (new.0, new_put k a e rest apart new.1) ]

-- ---- the first that passes leaves

module _ (slots : List (Option Entry)) (test : Key × Entry → Bool) where
  pub first_passes : (q : List (Key × ℕ)) (e : Key × ℕ) → AllPairs (λ a b. a.1 ≢ b.1) q → find (λ x. test (row slots x)) q ≡ Some e → (filter test (shown slots q) ≡ row slots e ∷ filter test (shown slots (without_place e.1 q))) × (without test (shown slots (without_place e.1 q)) ≡ without test (shown slots q))
  first_passes [] e distinct found = absurd (cc found)
  first_passes (x ∷ q) e distinct found =
      elim (cases_Bool (test (row slots x))) [
        | inl h ↦
            let same : x ≡ e = let f = rw h at found in cc f in
            let at : x.1 ≡ e.1 = ap (λ (y : Key × ℕ). y.1) same in
            let rest : without_place e.1 q ≡ q = filter_all (λ (y : Key × ℕ). not (y.1 == e.1)) q (λ k d lt. ap not (ne_eqb (get_or q k d).1 e.1 (λ t. AllPairs-head (λ (a b : Key × ℕ). a.1 ≢ b.1) x q distinct k d lt (at ∙ sym t)))) in
            rw (h, eq-eqb x.1 e.1 at, rest) (ap (λ (y : Key × ℕ). row slots y ∷ filter test (shown slots q)) same, refl)
        | inr h ↦
            let further = rw h at found in
            let there = find_passes (λ (y : Key × ℕ). test (row slots y)) q e further in
            let other : (x.1 == e.1) ≡ false = ne_eqb x.1 e.1 (has_all (λ (y : Key × ℕ). x.1 ≢ y.1) q e there.0 (AllPairs-head (λ (a b : Key × ℕ). a.1 ≢ b.1) x q distinct)) in
            let ih = first_passes q e (AllPairs-tail (λ (a b : Key × ℕ). a.1 ≢ b.1) x q distinct) further in
            rw (other, h) (ih.0, ap (λ ys. row slots x ∷ ys) ih.1)
      ]

  pub new_left : (k : Key) (place : ℕ) (q : List (Key × ℕ)) → NewKey k (shown slots q) → NewKey k (shown slots (without_place place q))
  new_left k place [] new = new
  new_left k place (x ∷ q) new =
      elim (cases_Bool (x.1 == place)) [ inl h ↦ rw h (new_left k place q new.1) | inr h ↦ rw h (new.0, new_left k place q new.1) ]

-- where none passes the queue stays
pub none_staged : (origin stamp : ℕ) (queue : Items) → find (is_staged_notice origin) queue ≡ None → notices_queue origin stamp queue ≡ queue
none_staged origin stamp queue is = rw (none_passes (is_staged_notice origin) queue is) (none_found (is_staged_notice origin) queue is)
  where
    none_passes : (t : Key × Entry → Bool) (q : Items) → find t q ≡ None → filter t q ≡ []
    none_passes t [] is = refl
    none_passes t (f ∷ q) is =
        elim (cases_Bool (t f)) [
          | inl a ↦ let e = rw a at is in absurd (cc e)
          | inr a ↦ rw a (none_passes t q (rw a at is))
        ]

-- ---- one notice gets its final key

index_apart : (stamp index : ℕ) (k : Key) (more : Items) → k.index ≡ index → NewIndex index more → Every (λ f. f.0 ≢ k) (map (with_stamp stamp) more)
index_apart stamp index k [] at new = tt
index_apart stamp index k (f ∷ rest) at new = (λ same. new.0 (ap (λ (a : Key). a.index) same ∙ at), index_apart stamp index k rest at new.1)

and_false : (a c : Bool) → (a && false && c) ≡ false
and_false true c = refl
and_false false c = refl

module _ (slots : List (Option Entry)) (room : ℕ) (listed : List (Key × ℕ)) (order : IsQueue room listed) (origin stamp : ℕ) (even : is_odd stamp ≡ false) (key : Key) (place : ℕ) (first : Some (key, place) ≡ find (λ e. is_staged_notice origin (row slots e)) listed) (distinct : DistinctIndexes (staged_notices origin (shown slots listed))) (fresh : NewUnder stamp (staged_notices origin (shown slots listed)) (shown slots listed)) where
  abbrev pub next_key : Key
  next_key = record { stamp = stamp; origin = key.origin; index = key.index }

  abbrev left : Items
  left = shown slots (without_place place listed)

  abbrev entry : Entry
  entry = entry_or (entry_at slots place)

  parts : (filter (is_staged_notice origin) (shown slots listed) ≡ row slots (key, place) ∷ filter (is_staged_notice origin) left) × (without (is_staged_notice origin) left ≡ without (is_staged_notice origin) (shown slots listed))
  parts = first_passes slots (is_staged_notice origin) listed (key, place) order.distinct (sym first)

  distinct_left : NewIndex key.index (filter (is_staged_notice origin) left) × DistinctIndexes (filter (is_staged_notice origin) left)
  distinct_left = rw parts.0 at distinct

  fresh_left : NewKey next_key (shown slots listed) × NewUnder stamp (filter (is_staged_notice origin) left) (shown slots listed)
  fresh_left = rw parts.0 at fresh

  -- the new key is new
  pub next_is_new : NewKey next_key (shown slots listed)
  next_is_new = fresh_left.0

  left_order : IsQueue room (without_place place listed)
  left_order = IsQueue-filter room (λ e. not (e.1 == place)) listed order

  restamped_is : shown slots (restamped place next_key listed) ≡ put next_key entry left
  restamped_is = shown-with_entry slots next_key place (without_place place listed) left_order.ascending (IsNewKey-without place listed next_key (new_listed slots next_key listed next_is_new))

  no_notice : is_staged_notice origin (next_key, entry) ≡ false
  no_notice = rw even (and_false (not (is_data entry)) (key.origin == origin))

  staged_is : staged_notices origin (shown slots (restamped place next_key listed)) ≡ filter (is_staged_notice origin) left
  staged_is = ap (filter (is_staged_notice origin)) restamped_is ∙ filter_put_not (is_staged_notice origin) next_key entry left no_notice

  others_are : without (is_staged_notice origin) (shown slots (restamped place next_key listed)) ≡ put next_key entry (without (is_staged_notice origin) (shown slots listed))
  others_are =
      ap (without (is_staged_notice origin)) restamped_is
      ∙ filter_put (λ f. not (is_staged_notice origin f)) next_key entry left (shown_ascending slots (without_place place listed) left_order.ascending) (ap not no_notice)
      ∙ ap (put next_key entry) parts.1

  pub next_distinct : DistinctIndexes (staged_notices origin (shown slots (restamped place next_key listed)))
  next_distinct = rw staged_is distinct_left.1

  pub next_fewer : length (staged_notices origin (shown slots (restamped place next_key listed))) + 1 ≡ length (staged_notices origin (shown slots listed))
  next_fewer = ap (λ (es : Items). length es + 1) staged_is ∙ add-one (length (filter (is_staged_notice origin) left)) ∙ ap (λ (es : Items). length es) (sym parts.0)

  pub next_kept : notices_queue origin stamp (shown slots (restamped place next_key listed)) ≡ notices_queue origin stamp (shown slots listed)
  next_kept =
      ap (λ (es : Items). put_all (map (with_stamp stamp) es) (without (is_staged_notice origin) (shown slots (restamped place next_key listed)))) staged_is
      ∙ ap (put_all (map (with_stamp stamp) (filter (is_staged_notice origin) left))) others_are
      ∙ put_all_put next_key entry (map (with_stamp stamp) (filter (is_staged_notice origin) left)) (without (is_staged_notice origin) (shown slots listed)) (index_apart stamp key.index next_key (filter (is_staged_notice origin) left) refl distinct_left.0)
      ∙ ap (λ (es : Items). put_all (map (with_stamp stamp) es) (without (is_staged_notice origin) (shown slots listed))) (sym parts.0)

  pub next_fresh : NewUnder stamp (staged_notices origin (shown slots (restamped place next_key listed))) (shown slots (restamped place next_key listed))
  next_fresh = rw (staged_is, restamped_is) (each (filter (is_staged_notice origin) left) distinct_left.0 fresh_left.1)
    where
      each : (more : Items) → NewIndex key.index more → NewUnder stamp more (shown slots listed) → NewUnder stamp more (put next_key entry left)
      each [] apart new = tt
      each (f ∷ rest) apart new =
          (new_put (with_stamp stamp f).0 next_key entry left (λ same. apart.0 (ap (λ (a : Key). a.index) (sym same))) (new_left slots (is_staged_notice origin) (with_stamp stamp f).0 place listed new.0), each rest apart.1 new.1)
