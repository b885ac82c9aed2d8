-- The places of the data receipts.
use Rattle.std.specs.Prelude.{◌≡◌, refl, ℕ, ◌+◌, zero, suc, true, false, if◌then◌else◌, List, [], ◌∷◌, ◌++◌, length, slice_get, None, Some}
use Rattle.std.proofs.Common.{arith, sym, ap, ◌∙◌, ◌⊎◌, inl, inr}
use Rattle.b1_model.specs.declared.answers.Receipt.TheVariants as rec
use Rattle.b1_model.specs.declared.answers.Answer.{Answer}
use Rattle.b1_model.specs.declared.answers.Answer.TheVariants as ans
use Rattle.b1_model.specs.declared.records.Call.{Call}
use Rattle.b1_model.specs.Script.{Data, data_of, data_receipts}
use Rattle.b1_receipts.specs.Places.{is_data, place_of, places_from, data_places}

assoc : {X : Type 0} (xs ys zs : List X) → (xs ++ ys) ++ zs ≡ xs ++ (ys ++ zs)
assoc [] ys zs = refl
assoc (x ∷ xs) ys zs = ap (λ l. x ∷ l) (assoc xs ys zs)

no_more : {X : Type 0} (xs : List X) → xs ++ [] ≡ xs
no_more [] = refl
no_more (x ∷ xs) = ap (λ l. x ∷ l) (no_more xs)

places_more : (k place : ℕ) (cs : List Call) (c : Call) → place ≡ k + length cs → places_from k (cs ++ c ∷ []) ≡ places_from k cs ++ place_of place c.answer
places_more k place [] c e =
    let same : k ≡ place = omega (arith, e) in
    no_more (place_of k c.answer) ∙ ap (λ p. place_of p c.answer) same
places_more k place (x ∷ xs) c e =
    let next : place ≡ (k + 1) + length xs = omega (arith, e) in
    ap (λ l. place_of k x.answer ++ l) (places_more (k + 1) place xs c next) ∙ sym (assoc (place_of k x.answer) (places_from (k + 1) xs) (place_of place c.answer))

-- with one call more
pub data_places_more : (cs : List Call) (c : Call) → data_places (cs ++ c ∷ []) ≡ data_places cs ++ place_of (length cs) c.answer
data_places_more cs c = places_more 0 (length cs) cs c (omega arith)

-- an answer is a data receipt, or it isn't
data_or_not : (a : Answer) → ((d : Data) × (is_data a ≡ true) × (data_of a ≡ d ∷ [])) ⊎ ((is_data a ≡ false) × (data_of a ≡ []))
data_or_not (ans.Got (rec.Message key number offset handles payload)) = inl (record { offset = offset; handles = handles }, refl, refl)
data_or_not a = inr (refl, refl)

-- the call that stands at the place of a data receipt
pub record IsAt (calls : List Call) (from place index : ℕ) : Type 0 where
  pub call : Call
  pub nth : ℕ
  pub shown : Data
  pub place_is : place ≡ from + nth
  pub found : slice_get calls nth ≡ Some call
  pub shows : data_of call.answer ≡ shown ∷ []
  pub is_nth : slice_get (data_receipts calls) index ≡ Some shown

at_from : (k : ℕ) (cs : List Call) (index place : ℕ) → slice_get (places_from k cs) index ≡ Some place → IsAt cs k place index
at_from k [] index place h = cc h
at_from k (x ∷ xs) index place h = elim (data_or_not x.answer) [
  | inl d ↦ first index (λ i. at_from (k + 1) xs i place) d.0 d.2 (ap (λ b. slice_get ((if b then k ∷ [] else []) ++ places_from (k + 1) xs) index) (sym d.1) ∙ h)
  | inr d ↦ later index d.1 (at_from (k + 1) xs index place (ap (λ b. slice_get ((if b then k ∷ [] else []) ++ places_from (k + 1) xs) index) (sym d.0) ∙ h))
]
  where
    shift : (nth : ℕ) → place ≡ (k + 1) + nth → place ≡ k + suc nth
    shift nth e = omega (arith, e)

    later : (i : ℕ) → data_of x.answer ≡ [] → IsAt xs (k + 1) place i → IsAt (x ∷ xs) k place i
    later i none a = record {
      call = a.call;
      nth = suc a.nth;
      shown = a.shown;
      place_is = shift a.nth a.place_is;
      found = a.found;
      shows = a.shows;
      is_nth = ap (λ l. slice_get (l ++ data_receipts xs) i) none ∙ a.is_nth;
    }

    first : (i : ℕ) → ((j : ℕ) → slice_get (places_from (k + 1) xs) j ≡ Some place → IsAt xs (k + 1) place j) → (d : Data) → data_of x.answer ≡ d ∷ [] → slice_get (k ∷ places_from (k + 1) xs) i ≡ Some place → IsAt (x ∷ xs) k place i
    first zero rest d one e = record {
      call = x;
      nth = 0;
      shown = d;
      place_is = (let same : k ≡ place = cc e in omega (arith, same));
      found = refl;
      shows = one;
      is_nth = ap (λ l. slice_get (l ++ data_receipts xs) 0) one;
    }
    first (suc j) rest d one e =
        let a = rest j e in
        record {
          call = a.call;
          nth = suc a.nth;
          shown = a.shown;
          place_is = shift a.nth a.place_is;
          found = a.found;
          shows = a.shows;
          is_nth = ap (λ l. slice_get (l ++ data_receipts xs) (suc j)) one ∙ a.is_nth;
        }

-- what stands at a place among the places
pub at_place : (cs : List Call) (index place : ℕ) → slice_get (data_places cs) index ≡ Some place → IsAt cs 0 place index
at_place cs index place h = at_from 0 cs index place h

none_from : (k : ℕ) (cs : List Call) (index : ℕ) → slice_get (places_from k cs) index ≡ None → slice_get (data_receipts cs) index ≡ None
none_from k [] index h = refl
none_from k (x ∷ xs) index h = elim (data_or_not x.answer) [
  | inl d ↦ ap (λ l. slice_get (l ++ data_receipts xs) index) d.2 ∙ first index d.0 (none_from (k + 1) xs) (ap (λ b. slice_get ((if b then k ∷ [] else []) ++ places_from (k + 1) xs) index) (sym d.1) ∙ h)
  | inr d ↦ ap (λ l. slice_get (l ++ data_receipts xs) index) d.1 ∙ none_from (k + 1) xs index (ap (λ b. slice_get ((if b then k ∷ [] else []) ++ places_from (k + 1) xs) index) (sym d.0) ∙ h)
]
  where
    first : (i : ℕ) → (d : Data) → ((j : ℕ) → slice_get (places_from (k + 1) xs) j ≡ None → slice_get (data_receipts xs) j ≡ None) → slice_get (k ∷ places_from (k + 1) xs) i ≡ None → slice_get (d ∷ data_receipts xs) i ≡ None
    first zero d rest e = cc e
    first (suc j) d rest e = rest j e

-- where no place is, no data receipt is
pub no_place : (cs : List Call) (index : ℕ) → slice_get (data_places cs) index ≡ None → slice_get (data_receipts cs) index ≡ None
no_place cs index h = none_from 0 cs index h
