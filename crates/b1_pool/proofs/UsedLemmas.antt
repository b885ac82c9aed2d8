use Rattle.std.proofs.Common.{◌≡◌, ◌≢◌, ℕ, ◌+◌, ◌-◌, ◌<◌, ◌≤◌, ◌==◌, nat_lt, true, cond, ◌&&◌, List, [], ◌∷◌, ◌++◌, Some, None, refl, sym, ap, ◌∙◌, arith, inl, inr}
use Rattle.std.proofs.lemmas.Bool.{cases_Bool, cond_both, eqb-true, eqb-false, ne_eqb, and_parts, ltb-true}
use Rattle.std.proofs.lemmas.Option.{same_Some}
use Rattle.b1_pool.specs.declared.slices.Slice.{Slice}
use Rattle.b1_pool.specs.declared.slices.SliceState.TheVariants.{Free, Unpublished, Published}
use Rattle.b1_pool.specs.Slices.{is_free, Spans, IsPool, one_free, slice_at, used_of, used_at, replaced_at, divided, in_state, published, with_alloc, whole, joined, merged, given_back}
use Rattle.b1_pool.proofs.SliceLemmas.{Spans-replaced_at, Spans-in_state, Spans-merged, slice_at-among, slice_at-replaced_at, slice_at-with_alloc, slice_at-published}

-- no slice begins below the range that slices span
pub slice_at-below : (a b offset : ℕ) (xs : List Slice) → Spans a b xs → offset < a → slice_at offset xs ≡ None
slice_at-below a b offset [] spans below = refl
slice_at-below a b offset (x ∷ xs) spans below =
    let apart : x.offset ≢ offset = omega (arith, spans.0) in
    rw (ne_eqb x.offset offset apart) (slice_at-below (a + x.length) b offset xs spans.3 (omega arith))

used_free : (s : Slice) → is_free s ≡ true → used_of (Some s) ≡ None
used_free s free = rw free refl

used_at-joined : (a b offset : ℕ) (s : Slice) (rest : List Slice) → Spans a b (s ∷ rest) → used_at offset (joined s rest) ≡ used_at offset (s ∷ rest)
used_at-joined a b offset s [] spans = refl
used_at-joined a b offset s (t ∷ rest) spans =
    elim (cases_Bool (is_free s && is_free t)) [
      | inl both ↦
          let free = and_parts (is_free s) (is_free t) both in
          rw both (elim (cases_Bool (s.offset == offset)) [
            | inl here ↦ rw here (used_free (whole s t) free.0 ∙ sym (used_free s free.0))
            | inr past ↦ rw past (elim (cases_Bool (t.offset == offset)) [
              | inl next ↦
                  let below : offset < a + s.length + t.length = omega (arith, eqb-true t.offset offset next, spans.3.0, spans.3.1) in
                  rw next (ap used_of (slice_at-below (a + s.length + t.length) b offset rest spans.3.3 below) ∙ sym (used_free t free.1))
              | inr later ↦ rw later refl
            ])
          ])
      | inr apart ↦ rw apart refl
    ]

-- joining free slices leaves the ones in use
pub used_at-merged : (a b offset : ℕ) (xs : List Slice) → Spans a b xs → used_at offset (merged xs) ≡ used_at offset xs
used_at-merged a b offset [] spans = refl
used_at-merged a b offset (x ∷ xs) spans =
    used_at-joined a b offset x (merged xs) (spans.0, spans.1, spans.2, Spans-merged (a + x.length) b xs spans.3)
    ∙ (elim (cases_Bool (x.offset == offset)) [
      | inl here ↦ rw here refl
      | inr past ↦ rw past (used_at-merged (a + x.length) b offset xs spans.3)
    ])

-- a change of one slice leaves those that begin elsewhere, if its parts do so before any others
pub used_at-replaced_at : (a b here offset : ℕ) (f : Slice → List Slice) (xs : List Slice) (s : Slice) → Spans a b xs → slice_at here xs ≡ Some s → ((rest : List Slice) → Spans (s.offset + s.length) b rest → used_at offset (f s ++ rest) ≡ used_at offset rest) → here ≢ offset → used_at offset (replaced_at here f xs) ≡ used_at offset xs
used_at-replaced_at a b here offset f [] s spans found keeps apart = refl
used_at-replaced_at a b here offset f (x ∷ xs) s spans found keeps apart =
    elim (cases_Bool (x.offset == here)) [
      | inl begun ↦
          let same : x ≡ s = same_Some x s (rw begun at found) in
          let elsewhere : x.offset ≢ offset = omega (arith, eqb-true x.offset here begun, apart) in
          let rest : Spans (s.offset + s.length) b xs = rw (← same, spans.0) spans.3 in
          rw (begun, same) (keeps xs rest ∙ rw (← same, ne_eqb x.offset offset elsewhere) refl)
      | inr past ↦ rw past (elim (cases_Bool (x.offset == offset)) [
        | inl there ↦ rw there refl
        | inr later ↦ rw later (used_at-replaced_at (a + x.length) b here offset f xs s spans.3 (rw past at found) keeps apart)
      ])
    ]

-- which slices are in use once the front of a free one was taken
pub used_at-with_alloc : (size here len offset : ℕ) (xs : List Slice) (s : Slice) → IsPool size xs → slice_at here xs ≡ Some s → 0 < len → len ≤ s.length → used_at offset (with_alloc here len xs) ≡ cond (here == offset) (Some (record { offset = here; length = len; state = Unpublished })) (used_at offset xs)
used_at-with_alloc size here len offset xs s pool found some most =
    elim (cases_Bool (here == offset)) [
      | inl same ↦ rw same (rw (← eqb-true here offset same) (ap used_of (slice_at-with_alloc here len xs s found)))
      | inr past ↦ rw past (used_at-replaced_at 0 size here offset (divided len) xs s pool.covers found
          (λ rest spans.
          let begun = (slice_at-among here xs s found).1 in
          let front : s.offset ≢ offset = rw begun (eqb-false here offset past) in
          rw (ne_eqb s.offset offset front)
          (cond_both (nat_lt len s.length) (record { offset = s.offset + len; length = s.length - len; state = Free } ∷ []) [] (λ ys. used_at offset (ys ++ rest) ≡ used_at offset rest)
          (λ less. elim (cases_Bool ((s.offset + len) == offset)) [
            | inl next ↦
                let lt : len < s.length = ltb-true len s.length less in
                let below : offset < s.offset + s.length = omega (arith, eqb-true (s.offset + len) offset next) in
                rw (next, slice_at-below (s.offset + s.length) size offset rest spans below) refl
            | inr later ↦ rw later refl
          ])
          (λ _. refl)))
          (eqb-false here offset past))
    ]

-- which slices are in use once one was published
pub used_at-published : (size here offset : ℕ) (xs : List Slice) (s : Slice) → IsPool size xs → slice_at here xs ≡ Some s → used_at offset (published here xs) ≡ cond (here == offset) (Some (record s { state = Published })) (used_at offset xs)
used_at-published size here offset xs s pool found =
    elim (cases_Bool (here == offset)) [
      | inl same ↦ rw same (rw (← eqb-true here offset same) (ap used_of (slice_at-published here xs s found)))
      | inr past ↦ rw past (used_at-replaced_at 0 size here offset (in_state Published) xs s pool.covers found
          (λ rest spans.
          let front : s.offset ≢ offset = rw (slice_at-among here xs s found).1 (eqb-false here offset past) in
          rw (ne_eqb s.offset offset front) refl)
          (eqb-false here offset past))
    ]

-- which slices are in use once one was given back
pub used_at-given_back : (size here offset : ℕ) (xs : List Slice) (s : Slice) → IsPool size xs → slice_at here xs ≡ Some s → used_at offset (given_back here xs) ≡ cond (here == offset) None (used_at offset xs)
used_at-given_back size here offset xs s pool found =
    used_at-merged 0 size offset (replaced_at here (in_state Free) xs)
    (Spans-replaced_at 0 size here (in_state Free) xs (λ t at_t long multiple. Spans-in_state Free t long multiple) pool.covers)
    ∙ elim (cases_Bool (here == offset)) [
      | inl same ↦ rw same (rw (← eqb-true here offset same)
          (ap used_of (slice_at-replaced_at here (in_state Free) xs s (record s { state = Free }) [] found refl (slice_at-among here xs s found).1)))
      | inr past ↦ rw past (used_at-replaced_at 0 size here offset (in_state Free) xs s pool.covers found
          (λ rest spans.
          let front : s.offset ≢ offset = rw (slice_at-among here xs s found).1 (eqb-false here offset past) in
          rw (ne_eqb s.offset offset front) refl)
          (eqb-false here offset past))
    ]

-- a pool that is one free slice has none in use
pub used_at-one_free : (size offset : ℕ) → used_at offset (one_free size) ≡ None
used_at-one_free size offset = elim (cases_Bool (0 == offset)) [ inl here ↦ rw here refl | inr past ↦ rw past refl ]
