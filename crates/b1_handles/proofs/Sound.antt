-- What keeps the records in order and their numbers distinct.
use Rattle.std.proofs.Common.{◌≡◌, ◌≢◌, ℕ, suc, ◌+◌, ◌<◌, ◌≤◌, true, false, if◌then◌else◌, List, [], ◌∷◌, ◌++◌, length, get_or, ap, sym, subst, ◌∙◌, arith, inl, inr, Option, Some, None}
use Rattle.std.specs.Prelude.{All, AllPairs, insert, remove}
use Rattle.std.proofs.Common.{set, take, drop}
use Rattle.std.proofs.lemmas.List.{get_or-set_same, get_or-set_other, length-set, get_or_default, get_or-take, get_or-drop, length-take, length-drop, take-append-drop}
use Rattle.std.proofs.lemmas.List.Quantifiers.{all_pairs_remove}
use Rattle.std.specs.Option.{IfSome}
use Rattle.std.proofs.lemmas.List.Elements.{All-head, All-tail, All-cons, All-nil, All-weaker, All-append, All-take, All-drop, All-set}
use Rattle.std.proofs.lemmas.List.Kept.{AllPairs-cons}
use Rattle.std.proofs.lemmas.Bool.{cases_eq, cases_lt}
use Rattle.b1_model.specs.declared.naming.NodeRef.{NodeRef}
use Rattle.b1_model.specs.MachineParts.{HandleRecord, no_record, same_ref, ref_before}
use Rattle.b1_model.specs.MachineTables.{is_needed, next_number}
use Rattle.b1_handles.specs.Handles.{IsSound, IsGivenNumber}
use Rattle.b1_handles.proofs.Places.{IsPlaceFor, settled}
use Rattle.b1_handles.proofs.Order.{before_itself, before_total, before_trans}
use Rattle.b1_handles.proofs.ListLemmas.{AllPairs-head, AllPairs-tail, AllPairs-nil}
use Rattle.b1_handles.proofs.ChangedRecords.{not_from}

-- ---- pairs after one element changed, left or came in
module _ {X : Type 0} (R : X → X → Type 0) where
  pub AllPairs-set : (xs : List X) (i : ℕ) (y : X) → AllPairs R xs → ((k : ℕ) (d : X) → k < i → R (get_or xs k d) y) → ((k : ℕ) (d : X) → i < k → k < length xs → R y (get_or xs k d)) → AllPairs R (set xs i y)
  AllPairs-set xs i y pairs left right k m d lt within =
      let short : m < length xs = rw (length-set xs i y) at within in
      elim (cases_eq m i) [
        | inl at ↦
            let other : k ≢ i = omega arith in
            rw (get_or-set_other xs i k y d other)
            (subst (λ (n : ℕ). R (get_or xs k d) (get_or (set xs i y) n d)) (sym at)
            (rw (get_or-set_same xs i y d (omega arith)) (left k d (omega arith))))
        | inr other ↦
            rw (get_or-set_other xs i m y d other)
            (elim (cases_eq k i) [
              | inl here ↦
                  subst (λ (n : ℕ). R (get_or (set xs i y) n d) (get_or xs m d)) (sym here)
                  (rw (get_or-set_same xs i y d (omega arith)) (right m d (omega arith) short))
              | inr another ↦ rw (get_or-set_other xs i k y d another) (pairs k m d lt short)
            ])
      ]

  All-middle : (P : X → Type 0) (xs ys : List X) (y : X) → All P (xs ++ ys) → P y → All P (xs ++ y ∷ ys)
  All-middle P [] ys y all one = All-cons P y ys one all
  All-middle P (x ∷ xs) ys y all one =
      All-cons P x (xs ++ y ∷ ys) (All-head P x (xs ++ ys) all) (All-middle P xs ys y (All-tail P x (xs ++ ys) all) one)

  AllPairs-middle : (xs ys : List X) (y : X) → AllPairs R (xs ++ ys) → All (λ x. R x y) xs → All (R y) ys → AllPairs R (xs ++ y ∷ ys)
  AllPairs-middle [] ys y pairs left right = AllPairs-cons R y ys right pairs
  AllPairs-middle (x ∷ xs) ys y pairs left right =
      AllPairs-cons R x (xs ++ y ∷ ys)
      (All-middle (R x) xs ys y (AllPairs-head R x (xs ++ ys) pairs) (All-head (λ z. R z y) x xs left))
      (AllPairs-middle xs ys y (AllPairs-tail R x (xs ++ ys) pairs) (All-tail (λ z. R z y) x xs left) right)

  pub AllPairs-insert : (xs : List X) (i : ℕ) (y : X) → AllPairs R xs → ((k : ℕ) (d : X) → k < i → k < length xs → R (get_or xs k d) y) → ((k : ℕ) (d : X) → i ≤ k → k < length xs → R y (get_or xs k d)) → AllPairs R (insert xs i y)
  AllPairs-insert xs i y pairs left right =
      AllPairs-middle (take i xs) (drop i xs) y
      (rw (take-append-drop i xs) pairs)
      (λ k d lt. let low : k < i = omega (arith, length-take i xs) in rw (get_or-take i xs k d low) (left k d low (omega (arith, length-take i xs))))
      (λ k d lt. rw (get_or-drop i xs k d) (right (i + k) d (omega arith) (omega (arith, length-drop i xs))))

  pub All-insert : (P : X → Type 0) (xs : List X) (i : ℕ) (y : X) → All P xs → P y → All P (insert xs i y)
  All-insert P xs i y all one = All-middle P (take i xs) (drop i xs) y (rw (take-append-drop i xs) all) one

pub All-remove : {X : Type 0} (P : X → Type 0) (xs : List X) (i : ℕ) → All P xs → All P (remove xs i)
All-remove P xs i all = All-append P (take i xs) (drop (suc i) xs) (All-take P i xs all) (All-drop P (suc i) xs all)

-- ---- numbers
IfSome-weaker : {X : Type 0} (P Q : X → Type 0) (o : Option X) → ((x : X) → P x → Q x) → IfSome o P → IfSome o Q
IfSome-weaker P Q None weaker h = tt
IfSome-weaker P Q (Some x) weaker h = weaker x h

given_within : (given later : ℕ) (records : List HandleRecord) → given ≤ later → All (λ h. IfSome h.number (IsGivenNumber given)) records → All (λ h. IfSome h.number (IsGivenNumber later)) records
given_within given later records le all =
    All-weaker (λ h. IfSome h.number (IsGivenNumber given)) (λ h. IfSome h.number (IsGivenNumber later))
    (λ h is. IfSome-weaker (IsGivenNumber given) (IsGivenNumber later) h.number (λ n g. record { form = g.form; low = omega (arith, g.low) }) is)
    records all

pub next_is_given : (given : ℕ) → IsGivenNumber (given + 1) (next_number given)
next_is_given given = record { form = omega arith; low = omega arith }

-- a number that no record has
abbrev pub IsFresh : List HandleRecord → Option ℕ → Type 0
IsFresh records number = All (λ h. IfSome h.number (λ n. number ≢ Some n) × IfSome number (λ n. h.number ≢ Some n)) records

fresh_from : (given : ℕ) (o : Option ℕ) → IfSome o (IsGivenNumber given) → IfSome o (λ n. Some (next_number given) ≢ Some n) × (o ≢ Some (next_number given))
fresh_from given None is = (tt, λ e. cc)
fresh_from given (Some n) is =
    let other : next_number given ≢ n = omega (arith, is.low) in
    (λ e. other cc, λ e. other cc)

none_from : (o : Option ℕ) → IfSome o (λ n. ◌≡◌ {A = Option ℕ} None (Some n) → ⊥) × Unit {0}
none_from None = (tt, tt)
none_from (Some n) = (λ e. cc, tt)

pub next_is_fresh : (given : ℕ) (records : List HandleRecord) → All (λ h. IfSome h.number (IsGivenNumber given)) records → IsFresh records (Some (next_number given))
next_is_fresh given records all = λ k d lt. fresh_from given (get_or records k d).number (all k d lt)

pub none_is_fresh : (records : List HandleRecord) → IsFresh records None
none_is_fresh records = λ k d lt. none_from (get_or records k d).number

-- ---- sound records
pub IsSound-nil : (given : ℕ) → IsSound given []
IsSound-nil given = record {
  ordered = AllPairs-nil (λ a b. ref_before a.node b.node ≡ true);
  numbered = All-nil (λ h. IfSome h.number (IsGivenNumber given));
  distinct = AllPairs-nil (λ a b. IfSome a.number (λ n. b.number ≢ Some n));
}

pub IsSound-remove : (given place : ℕ) (records : List HandleRecord) → place < length records → IsSound given records → IsSound given (remove records place)
IsSound-remove given place records within sound = record {
  ordered = all_pairs_remove (λ a b. ref_before a.node b.node ≡ true) records place within sound.ordered;
  numbered = All-remove (λ h. IfSome h.number (IsGivenNumber given)) records place sound.numbered;
  distinct = all_pairs_remove (λ a b. IfSome a.number (λ n. b.number ≢ Some n)) records place within sound.distinct;
}

pub IsSound-settled : (given place : ℕ) (records : List HandleRecord) → place < length records → IsSound given records → IsSound given (settled place records)
IsSound-settled given place records within sound =
    elim (is_needed (get_or records place (no_record (record { owner = 0; serial = 0 })))) as (λ b. IsSound given (if b then records else remove records place)) [
      | true ↦ sound
      | false ↦ IsSound-remove given place records within sound
    ]

-- a record that changes under the same name, and keeps its number or gets a fresh one or none
module _ (given later : ℕ) (records : List HandleRecord) (i : ℕ) (x y : HandleRecord) (within : i < length records) (read : x ≡ get_or records i x) (same : y.node ≡ x.node) (le : given ≤ later) (sound : IsSound given records) where
  node_is : (d : HandleRecord) → y.node ≡ (get_or records i d).node
  node_is d = same ∙ ap (λ (h : HandleRecord). h.node) (read ∙ get_or_default records i x d within)

  ordered_set : AllPairs (λ a b. ref_before a.node b.node ≡ true) (set records i y)
  ordered_set =
      AllPairs-set (λ a b. ref_before a.node b.node ≡ true) records i y sound.ordered
      (λ k d low. rw (node_is d) (sound.ordered k i d low within))
      (λ k d low lt. rw (node_is d) (sound.ordered i k d low lt))

  pub IsSound-kept : y.number ≡ x.number → IsSound later (set records i y)
  IsSound-kept stays =
      let number_is = λ (d : HandleRecord). stays ∙ ap (λ (h : HandleRecord). h.number) (read ∙ get_or_default records i x d within) in
      record {
        ordered = ordered_set;
        numbered =
            All-set (λ h. IfSome h.number (IsGivenNumber later)) records i y
            (rw (number_is x) (given_within given later records le sound.numbered i x within))
            (given_within given later records le sound.numbered);
        distinct =
            AllPairs-set (λ a b. IfSome a.number (λ n. b.number ≢ Some n)) records i y sound.distinct
            (λ k d low. rw (number_is d) (sound.distinct k i d low within))
            (λ k d low lt. rw (number_is d) (sound.distinct i k d low lt));
      }

  pub IsSound-fresh : IsFresh records y.number → IfSome y.number (IsGivenNumber later) → IsSound later (set records i y)
  IsSound-fresh fresh is = record {
    ordered = ordered_set;
    numbered = All-set (λ h. IfSome h.number (IsGivenNumber later)) records i y is (given_within given later records le sound.numbered);
    distinct =
        AllPairs-set (λ a b. IfSome a.number (λ n. b.number ≢ Some n)) records i y sound.distinct
        (λ k d low. (fresh k d (omega arith)).0)
        (λ k d low lt. (fresh k d lt).1);
  }

-- a record that is made at its node's place
module _ (records : List HandleRecord) (node : NodeRef) (p : ℕ) (ordered : AllPairs (λ a b. ref_before a.node b.node ≡ true) records) (at : IsPlaceFor node records p) (other : p < length records → (d : HandleRecord) → same_ref (get_or records p d).node node ≡ false) where
  earlier : (k : ℕ) (d : HandleRecord) → k < p → (same_ref (get_or records k d).node node ≡ false) × (ref_before (get_or records k d).node node ≡ true)
  earlier k d low =
      let h = get_or records k d in
      let no = not_from node h (at.before k d (omega arith) low) in
      (no.0, before_total node h.node no.0 no.1)

  later_one : (k : ℕ) (d : HandleRecord) → p ≤ k → k < length records → ref_before node (get_or records k d).node ≡ true
  later_one k d high lt =
      let here : ref_before node (get_or records p d).node ≡ true = rw (other (omega arith) d) at (at.here (omega arith) d) in
      elim (cases_eq k p) [
        | inl same ↦ rw same here
        | inr more ↦ before_trans node (get_or records p d).node (get_or records k d).node here (ordered p k d (omega arith) lt)
      ]

  pub none_there : All (λ h. same_ref h.node node ≡ false) records
  none_there k d lt =
      elim (cases_lt k p) [
        | inl low ↦ (earlier k d low).0
        | inr high ↦ before_itself node (get_or records k d).node (later_one k d high lt)
      ]

  pub IsSound-made : (given later : ℕ) (y : HandleRecord) → y.node ≡ node → given ≤ later → IsFresh records y.number → IfSome y.number (IsGivenNumber later) → IsSound given records → IsSound later (insert records p y)
  IsSound-made given later y same le fresh is sound = record {
    ordered =
        AllPairs-insert (λ a b. ref_before a.node b.node ≡ true) records p y ordered
        (λ k d low lt. rw same (earlier k d low).1)
        (λ k d high lt. rw same (later_one k d high lt));
    numbered = All-insert (λ a b. IfSome a.number (λ n. b.number ≢ Some n)) (λ h. IfSome h.number (IsGivenNumber later)) records p y (given_within given later records le sound.numbered) is;
    distinct =
        AllPairs-insert (λ a b. IfSome a.number (λ n. b.number ≢ Some n)) records p y sound.distinct
        (λ k d low lt. (fresh k d lt).0)
        (λ k d high lt. (fresh k d lt).1);
  }
