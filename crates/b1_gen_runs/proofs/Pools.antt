-- The slices of a peer: how many there are, how long they are, and that one of them is always long enough.
use Rattle.std.proofs.Common.{◌≡◌, ◌⊎◌, inl, inr, refl, sym, ap, ◌∙◌, subst, ℕ, ◌+◌, ◌*◌, ◌-◌, ◌<◌, ◌≤◌, ◌==◌, max, Bool, true, false, cond, ◌&&◌, nat_lt, List, [], ◌∷◌, ◌++◌, length, Option, Some, None}
use Rattle.std.proofs.lemmas.Bool.{cases_lt}
use Rattle.std.proofs.lemmas.Option.{same_Some}
use Rattle.std.proofs.Math.Nat.{max-le, le-max_left, le-max_right}
use Rattle.std.proofs.lemmas.List.{length-append}
use native.Mathlib.Omega.{arith}
use Rattle.b1_model.specs.declared.tables.Usage.{Usage}
use Rattle.b1_model.specs.declared.tables.Usage.TheVariants.{Free, Unpublished, Published}
use Rattle.b1_model.specs.MachineParts.{Slice}
use Rattle.b1_model.specs.MachinePool.{slice_len, is_free, largest_free, least_fit, slice_at, replaced_at, divided, taken, used_as, joined, merged, given_back, published}
use Rattle.b1_step.specs.Rights.{Has}
use Rattle.b1_step.proofs.Lists.{has_append}
use Rattle.b1_inv_record.specs.Parts.{Cover}
use Rattle.b1_gen_runs.specs.Parts.{longest, IsSmall}

abbrev pub AllSmall : List Slice → Type 0
AllSmall slices = (t : Slice) → Has slices t → IsSmall t

-- ---- a message's slice

pub slice_small : (len : ℕ) → len ≤ longest → slice_len len 0 ≤ longest
slice_small len short = max-le (omega arith) (omega (arith, short))

pub lens : List Slice → ℕ
lens [] = 0
lens (s ∷ rest) = s.len + lens rest

cover_lens : (from end : ℕ) (slices : List Slice) → Cover from end slices → from + lens slices ≡ end
unfolding lens
cover_lens from end [] cover = omega (arith, cover)
cover_lens from end (s ∷ rest) cover = let k = cover_lens (from + s.len) end rest cover.3 in omega (arith, k)

-- where every free slice is shorter than a message, all together are not long
few_small : (slices : List Slice) → AllSmall slices → largest_free slices < longest → lens slices ≤ longest * length slices
unfolding lens
few_small [] small short = omega arith
few_small (s ∷ rest) small short = at (few_small rest (λ t has. small t (inr has))) (is_free s) refl short
  where
    at : (largest_free rest < longest → lens rest ≤ longest * length rest) → (b : Bool) → is_free s ≡ b → cond b (max s.len (largest_free rest)) (largest_free rest) < longest → s.len + lens rest ≤ longest * length (s ∷ rest)
    at further true is less =
        let one = le-max_left s.len (largest_free rest) in
        let two = le-max_right s.len (largest_free rest) in
        let k = further (omega (arith, two, less)) in
        omega (arith, k, one, less)
    at further false is less =
        let k = further less in
        elim (small s (inl refl)) [
          | inl free ↦ let e : true ≡ false = sym free ∙ is in absurd (cc e)
          | inr used ↦ omega (arith, k, used)
        ]

-- so a pool of few slices has room
pub has_room : (pool : ℕ) (slices : List Slice) → Cover 0 pool slices → AllSmall slices → longest * length slices < pool → longest ≤ largest_free slices
has_room pool slices cover small few =
    elim (cases_lt (largest_free slices) longest) [
      | inl short ↦ let k = few_small slices small short in let l = cover_lens 0 pool slices cover in absurd (omega (arith, k, l, few))
      | inr room ↦ room
    ]

-- ---- a slice is replaced

module _ (offset : ℕ) (f : Slice → List Slice) where
  replaced_has : (slices : List Slice) (t : Slice) → Has (replaced_at offset f slices) t → Has slices t ⊎ ((s : Slice) × (slice_at offset slices ≡ Some s) × Has (f s) t)
  replaced_has [] t has = absurd has
  replaced_has (s ∷ rest) t has = at (replaced_has rest t) (s.offset == offset) has
    where
      at : (Has (replaced_at offset f rest) t → Has rest t ⊎ ((g : Slice) × (slice_at offset rest ≡ Some g) × Has (f g) t)) → (b : Bool) → Has (cond b (f s ++ rest) (s ∷ replaced_at offset f rest)) t
          → Has (s ∷ rest) t ⊎ ((g : Slice) × (cond b (Some s) (slice_at offset rest) ≡ Some g) × Has (f g) t)
      at further true h = elim (has_append (f s) rest t h) [ inl new ↦ inr (s, refl, new) | inr old ↦ inl (inr old) ]
      at further false (inl same) = inl (inl same)
      at further false (inr h) = elim (further h) [ inl old ↦ inl (inr old) | inr new ↦ inr new ]

  replaced_small : (slices : List Slice) → AllSmall slices → ((s : Slice) → slice_at offset slices ≡ Some s → AllSmall (f s)) → AllSmall (replaced_at offset f slices)
  replaced_small slices small new t has = elim (replaced_has slices t has) [ inl old ↦ small t old | inr (s, at, one) ↦ new s at t one ]

  replaced_length : (most : ℕ) (slices : List Slice) → ((s : Slice) → length (f s) ≤ 1 + most) → length (replaced_at offset f slices) ≤ length slices + most
  replaced_length most [] few = omega arith
  replaced_length most (s ∷ rest) few =
      let k = replaced_length most rest few in
      let l = few s in
      let m = length-append (f s) rest in
      elim (s.offset == offset) as (λ b. length (cond b (f s ++ rest) (s ∷ replaced_at offset f rest)) ≤ length (s ∷ rest) + most) [
        | true ↦ omega (arith, l, m)
        | false ↦ omega (arith, k)
      ]

-- ---- taken

divided_small : (len : ℕ) (s : Slice) → len ≤ longest → AllSmall (divided len s)
divided_small len s short t (inl same) = inr (subst (λ z. z.len ≤ longest) (sym same) short)
divided_small len s short t (inr has) = at (nat_lt len s.len) has
  where
    at : (b : Bool) → Has (cond b (record { offset = s.offset + len; len = s.len - len; usage = Free } ∷ []) []) t → IsSmall t
    at true (inl same) = inl (ap is_free same)
    at true (inr none) = absurd none
    at false none = absurd none

divided_few : (len : ℕ) (s : Slice) → length (divided len s) ≤ 1 + 1
divided_few len s = elim (nat_lt len s.len) as (λ b. length {A = Slice} (record { offset = s.offset; len = len; usage = Unpublished } ∷ cond b (record { offset = s.offset + len; len = s.len - len; usage = Free } ∷ []) []) ≤ 1 + 1) [ true ↦ omega arith | false ↦ omega arith ]

pub taken_small : (len : ℕ) (slices : List Slice) → len ≤ longest → AllSmall slices → AllSmall (taken len slices)
taken_small len slices short small = at (least_fit len slices)
  where
    at : (found : Option Slice) → AllSmall (elim found [ None ↦ slices | Some s ↦ replaced_at s.offset (divided len) slices ])
    at None = small
    at (Some s) = replaced_small s.offset (divided len) slices small (λ g is. divided_small len g short)

pub taken_few : (len : ℕ) (slices : List Slice) → length (taken len slices) ≤ length slices + 1
taken_few len slices = at (least_fit len slices)
  where
    at : (found : Option Slice) → length {A = Slice} (elim found [ None ↦ slices | Some s ↦ replaced_at s.offset (divided len) slices ]) ≤ length slices + 1
    at None = omega arith
    at (Some s) = replaced_length s.offset (divided len) 1 slices (divided_few len)

-- ---- published

used_few : (usage : Usage) (s : Slice) → length (used_as usage s) ≤ 1 + 0
used_few usage s = omega arith

pub published_few : (offset : ℕ) (slices : List Slice) → length (published offset slices) ≤ length slices
published_few offset slices = let k = replaced_length offset (used_as Published) 0 slices (used_few Published) in omega (arith, k)

pub published_small : (offset : ℕ) (slices : List Slice) (t : Slice) → slice_at offset slices ≡ Some t → t.len ≤ longest → AllSmall slices → AllSmall (published offset slices)
published_small offset slices t is short small = replaced_small offset (used_as Published) slices small new
  where
    new : (s : Slice) → slice_at offset slices ≡ Some s → AllSmall (used_as Published s)
    new s at one (inl same) =
        let k : t ≡ s = same_Some t s (sym is ∙ at) in
        inr (subst (λ z. z.len ≤ longest) (sym same) (subst (λ z. z.len ≤ longest) k short))
    new s at one (inr none) = absurd none

-- ---- given back

joined_small : (s : Slice) (slices : List Slice) → IsSmall s → AllSmall slices → AllSmall (joined s slices)
joined_small s [] one small t (inl same) = subst IsSmall (sym same) one
joined_small s [] one small t (inr none) = absurd none
joined_small s (u ∷ rest) one small t has = at (is_free s) refl (is_free u) has
  where
    at : (a : Bool) → is_free s ≡ a → (b : Bool) → Has (cond (a && b) (record s { len = s.len + u.len } ∷ rest) (s ∷ u ∷ rest)) t → IsSmall t
    at true free true (inl same) = inl (ap is_free same ∙ free)
    at true free true (inr old) = small t (inr old)
    at true free false (inl same) = subst IsSmall (sym same) one
    at true free false (inr old) = small t old
    at false free b (inl same) = subst IsSmall (sym same) one
    at false free b (inr old) = small t old

joined_few : (s : Slice) (slices : List Slice) → length (joined s slices) ≤ 1 + length slices
joined_few s [] = omega arith
joined_few s (u ∷ rest) = elim (is_free s && is_free u) as (λ b. length (cond b (record s { len = s.len + u.len } ∷ rest) (s ∷ u ∷ rest)) ≤ 1 + length (u ∷ rest)) [ true ↦ omega arith | false ↦ omega arith ]

merged_small : (slices : List Slice) → AllSmall slices → AllSmall (merged slices)
merged_small [] small = small
merged_small (s ∷ rest) small = joined_small s (merged rest) (small s (inl refl)) (merged_small rest (λ t has. small t (inr has)))

merged_few : (slices : List Slice) → length (merged slices) ≤ length slices
merged_few [] = omega arith
merged_few (s ∷ rest) = let k = joined_few s (merged rest) in let l = merged_few rest in omega (arith, k, l)

pub back_few : (offset : ℕ) (slices : List Slice) → length (given_back offset slices) ≤ length slices
back_few offset slices = let k = replaced_length offset (used_as Free) 0 slices (used_few Free) in let l = merged_few (replaced_at offset (used_as Free) slices) in omega (arith, k, l)

pub back_small : (offset : ℕ) (slices : List Slice) → AllSmall slices → AllSmall (given_back offset slices)
back_small offset slices small = merged_small (replaced_at offset (used_as Free) slices) (replaced_small offset (used_as Free) slices small new)
  where
    new : (s : Slice) → slice_at offset slices ≡ Some s → AllSmall (used_as Free s)
    new s at one (inl same) = inl (ap is_free same)
    new s at one (inr none) = absurd none
