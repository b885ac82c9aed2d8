-- The lengths of published slices: what taking, giving back and publishing a slice make of them.
use Rattle.std.proofs.Common.{◌≡◌, refl, sym, ap, ◌∙◌, ℕ, ◌≤◌, ◌==◌, Bool, true, false, cond, List, Option, Some, None}
use Rattle.std.proofs.lemmas.Bool.{eqb-true}
use Rattle.b1_model.specs.declared.tables.Usage.{Usage}
use Rattle.b1_model.specs.declared.tables.Usage.TheVariants.{Free, Unpublished, Published}
use Rattle.b1_model.specs.MachineParts.{Slice}
use Rattle.b1_model.specs.MachinePool.{slice_at, largest_free, taken, taken_offset, given_back, published, whole_pool}
use Rattle.b1_pool.specs.Slices.{IsLength}
use Rattle.b1_peer_pool.specs.Slices.{used_of, used_at, IsPool}
use Rattle.b1_peer_pool.proofs.Found.{used_at-found}
use Rattle.b1_peer_pool.proofs.Laws.{used_at-taken, taken_offset-new, used_at-published, used_at-given_back}
use Rattle.b1_inv_slices.specs.Slices.{published_len, received_len}

-- a published slice is in use
used_usage : (offset len : ℕ) (u : Usage) → published_len (used_of (Some (record { offset = offset; len = len; usage = u }))) ≡ published_len (Some (record { offset = offset; len = len; usage = u }))
used_usage offset len Free = refl
used_usage offset len Unpublished = refl
used_usage offset len Published = refl

by_used : (s : Option Slice) → published_len (used_of s) ≡ published_len s
by_used None = refl
by_used (Some s) = used_usage s.offset s.len s.usage

unpublished_none : (offset len : ℕ) (u : Usage) → u ≡ Unpublished → published_len (Some (record { offset = offset; len = len; usage = u })) ≡ None
unpublished_none offset len Free is = refl
unpublished_none offset len Unpublished is = refl
unpublished_none offset len Published is = absurd (cc is)

module _ (size : ℕ) (ys : List Slice) (pool : IsPool size ys) (offset : ℕ) where
  pub taken_same : (len : ℕ) → IsLength len → len ≤ largest_free ys → received_len offset (taken len ys) ≡ received_len offset ys
  taken_same len long fits =
      sym (by_used (slice_at offset (taken len ys)))
      ∙ ap published_len (used_at-taken size len offset ys pool long fits)
      ∙ by (taken_offset len ys == offset) refl
      ∙ by_used (slice_at offset ys)
    where
      by : (b : Bool) → (taken_offset len ys == offset) ≡ b → published_len (cond b (Some (record { offset = taken_offset len ys; len = len; usage = Unpublished })) (used_at offset ys)) ≡ published_len (used_at offset ys)
      by true here = sym (ap (λ n. published_len (used_at n ys)) (sym (eqb-true (taken_offset len ys) offset here)) ∙ ap published_len (taken_offset-new size len ys pool long fits))
      by false other = refl

  pub back_is : (here : ℕ) (s : Slice) → slice_at here ys ≡ Some s → received_len offset (given_back here ys) ≡ cond (here == offset) None (received_len offset ys)
  back_is here s found =
      sym (by_used (slice_at offset (given_back here ys)))
      ∙ ap published_len (used_at-given_back size here offset ys s pool found)
      ∙ by (here == offset)
    where
      by : (b : Bool) → published_len (cond b None (used_at offset ys)) ≡ cond b None (received_len offset ys)
      by true = refl
      by false = by_used (slice_at offset ys)

  pub back_same : (here : ℕ) (s : Slice) → used_at here ys ≡ Some s → s.usage ≡ Unpublished → received_len offset (given_back here ys) ≡ received_len offset ys
  back_same here s used un = back_is here s (used_at-found here ys s used).0 ∙ by (here == offset) refl
    where
      by : (b : Bool) → (here == offset) ≡ b → cond b None (received_len offset ys) ≡ received_len offset ys
      by true same = sym (ap (λ n. received_len n ys) (sym (eqb-true here offset same)) ∙ ap published_len (used_at-found here ys s used).0 ∙ unpublished_none s.offset s.len s.usage un)
      by false other = refl

  pub published_is : (here : ℕ) (s : Slice) → slice_at here ys ≡ Some s → received_len offset (published here ys) ≡ cond (here == offset) (Some s.len) (received_len offset ys)
  published_is here s found =
      sym (by_used (slice_at offset (published here ys)))
      ∙ ap published_len (used_at-published size here offset ys s pool found)
      ∙ by (here == offset)
    where
      by : (b : Bool) → published_len (cond b (Some (record s { usage = Published })) (used_at offset ys)) ≡ cond b (Some s.len) (received_len offset ys)
      by true = refl
      by false = by_used (slice_at offset ys)

pub whole_none : (size offset : ℕ) → received_len offset (whole_pool size) ≡ None
whole_none size offset = by (0 == offset)
  where
    by : (b : Bool) → published_len (cond b (Some (record { offset = 0; len = size; usage = Free })) None) ≡ None
    by true = refl
    by false = refl
