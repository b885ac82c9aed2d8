-- The words of the pool and those of the machine say the same of the same slices.
use Rattle.std.proofs.Common.{◌≡◌, ℕ, ◌+◌, ◌-◌, ◌==◌, nat_lt, nat_le, Bool, true, false, cond, ◌&&◌, List, [], ◌∷◌, ◌++◌, Option, Some, None, map, refl, sym, ap, ◌∙◌, subst, inl, inr}
use Rattle.std.specs.Prelude.{option_map}
use Rattle.std.proofs.lemmas.Bool.{cases_Bool}
use Rattle.b1_model.specs.declared.tables.Usage.{Usage}
use Rattle.b1_model.specs.declared.tables.Usage.TheVariants as usage
use Rattle.b1_model.specs.MachineParts.{Slice}
use Rattle.b1_model.specs.MachinePool as machine
use Rattle.b1_pool.specs.declared.slices.Slice.{Slice as PoolSlice}
use Rattle.b1_pool.specs.declared.slices.SliceState.{SliceState}
use Rattle.b1_pool.specs.declared.slices.SliceState.TheVariants as state
use Rattle.b1_pool.specs.Slices as pool
use Rattle.b1_peer_pool.specs.Words.{usage_of, in_words, all_in_words}
use Rattle.b1_peer_pool.specs.Slices.{is_unpublished, is_queued, used_of, used_at, len_at, Spans, starts_free, IsMerged, IsPool}

-- ---- one slice

free_at : (offset len : ℕ) (u : SliceState) → machine.is_free (record { offset = offset; len = len; usage = usage_of u }) ≡ pool.is_free (record { offset = offset; length = len; state = u })
free_at offset len state.Free = refl
free_at offset len state.Unpublished = refl
free_at offset len state.Published = refl

published_at : (offset len : ℕ) (u : SliceState) → machine.is_published (record { offset = offset; len = len; usage = usage_of u }) ≡ pool.is_published (record { offset = offset; length = len; state = u })
published_at offset len state.Free = refl
published_at offset len state.Unpublished = refl
published_at offset len state.Published = refl

unpublished_at : (offset len : ℕ) (u : SliceState) → is_unpublished (record { offset = offset; len = len; usage = usage_of u }) ≡ pool.is_unpublished (record { offset = offset; length = len; state = u })
unpublished_at offset len state.Free = refl
unpublished_at offset len state.Unpublished = refl
unpublished_at offset len state.Published = refl

pub is_free-in_words : (s : PoolSlice) → machine.is_free (in_words s) ≡ pool.is_free s
is_free-in_words s = free_at s.offset s.length s.state

pub is_published-in_words : (s : PoolSlice) → machine.is_published (in_words s) ≡ pool.is_published s
is_published-in_words s = published_at s.offset s.length s.state

pub is_unpublished-in_words : (s : PoolSlice) → is_unpublished (in_words s) ≡ pool.is_unpublished s
is_unpublished-in_words s = unpublished_at s.offset s.length s.state

-- ---- the least fit

pub largest_free-in_words : (xs : List PoolSlice) → machine.largest_free (all_in_words xs) ≡ pool.largest_free xs
largest_free-in_words [] = refl
largest_free-in_words (x ∷ xs) = rw (is_free-in_words x, largest_free-in_words xs) refl

is_fit-in_words : (len : ℕ) (s : PoolSlice) → machine.is_fit len (in_words s) ≡ pool.is_fit len s
is_fit-in_words len s = ap (λ b. b && nat_le len s.length) (is_free-in_words s)

-- one of two slices
either_in_words : (b : Bool) (s t : PoolSlice) → cond b (in_words s) (in_words t) ≡ in_words (cond b s t)
either_in_words true s t = refl
either_in_words false s t = refl

lesser_of-in_words : (s : PoolSlice) (t : Option PoolSlice) → machine.lesser_of (in_words s) (option_map in_words t) ≡ in_words (pool.lesser_of s t)
lesser_of-in_words s None = refl
lesser_of-in_words s (Some t) = either_in_words (pool.is_before t s) t s

pub least_fit-in_words : (len : ℕ) (xs : List PoolSlice) → machine.least_fit len (all_in_words xs) ≡ option_map in_words (pool.least_fit len xs)
least_fit-in_words len [] = refl
least_fit-in_words len (x ∷ xs) =
    elim (cases_Bool (pool.is_fit len x)) [
      | inl fit ↦ rw (is_fit-in_words len x, fit, least_fit-in_words len xs) (ap (λ s. Some s) (lesser_of-in_words x (pool.least_fit len xs)))
      | inr unfit ↦ rw (is_fit-in_words len x, unfit) (least_fit-in_words len xs)
    ]

-- ---- changes of one slice

all-append : (xs ys : List PoolSlice) → all_in_words (xs ++ ys) ≡ all_in_words xs ++ all_in_words ys
all-append [] ys = refl
all-append (x ∷ xs) ys = ap (λ r. in_words x ∷ r) (all-append xs ys)

replaced_at-in_words : (offset : ℕ) (f : PoolSlice → List PoolSlice) (g : Slice → List Slice) → ((s : PoolSlice) → g (in_words s) ≡ all_in_words (f s)) → (xs : List PoolSlice) → machine.replaced_at offset g (all_in_words xs) ≡ all_in_words (pool.replaced_at offset f xs)
replaced_at-in_words offset f g same [] = refl
replaced_at-in_words offset f g same (x ∷ xs) =
    elim (cases_Bool (x.offset == offset)) [
      | inl here ↦ rw here (ap (λ ys. ys ++ all_in_words xs) (same x) ∙ sym (all-append (f x) xs))
      | inr past ↦ rw past (ap (λ r. in_words x ∷ r) (replaced_at-in_words offset f g same xs))
    ]

rest_in_words : (b : Bool) (s : PoolSlice) → cond b (in_words s ∷ []) [] ≡ all_in_words (cond b (s ∷ []) [])
rest_in_words true s = refl
rest_in_words false s = refl

divided-in_words : (len : ℕ) (s : PoolSlice) → machine.divided len (in_words s) ≡ all_in_words (pool.divided len s)
divided-in_words len s =
    ap (λ r. record { offset = s.offset; len = len; usage = usage.Unpublished } ∷ r)
    (rest_in_words (nat_lt len s.length) (record { offset = s.offset + len; length = s.length - len; state = state.Free }))

pub taken_offset-in_words : (len : ℕ) (xs : List PoolSlice) (s : PoolSlice) → pool.least_fit len xs ≡ Some s → machine.taken_offset len (all_in_words xs) ≡ s.offset
taken_offset-in_words len xs s found =
    ap (λ (o : Option Slice). elim o as (λ _. ℕ) [ None ↦ 0 | Some t ↦ t.offset ]) (least_fit-in_words len xs ∙ ap (option_map in_words) found)

pub taken-in_words : (len : ℕ) (xs : List PoolSlice) (s : PoolSlice) → pool.least_fit len xs ≡ Some s → machine.taken len (all_in_words xs) ≡ all_in_words (pool.with_alloc s.offset len xs)
taken-in_words len xs s found =
    ap (λ (o : Option Slice). elim o as (λ _. List Slice) [ None ↦ all_in_words xs | Some t ↦ machine.replaced_at t.offset (machine.divided len) (all_in_words xs) ])
    (least_fit-in_words len xs ∙ ap (option_map in_words) found)
    ∙ (replaced_at-in_words s.offset (pool.divided len) (machine.divided len) (divided-in_words len) xs)

pub published-in_words : (offset : ℕ) (xs : List PoolSlice) → machine.published offset (all_in_words xs) ≡ all_in_words (pool.published offset xs)
published-in_words offset xs = replaced_at-in_words offset (pool.in_state state.Published) (machine.used_as usage.Published) (λ s. refl) xs

either_list : (b : Bool) (xs ys : List PoolSlice) → cond b (all_in_words xs) (all_in_words ys) ≡ all_in_words (cond b xs ys)
either_list true xs ys = refl
either_list false xs ys = refl

joined-in_words : (s : PoolSlice) (xs : List PoolSlice) → machine.joined (in_words s) (all_in_words xs) ≡ all_in_words (pool.joined s xs)
joined-in_words s [] = refl
joined-in_words s (t ∷ xs) = rw (is_free-in_words s, is_free-in_words t) (either_list (pool.is_free s && pool.is_free t) (pool.whole s t ∷ xs) (s ∷ t ∷ xs))

merged-in_words : (xs : List PoolSlice) → machine.merged (all_in_words xs) ≡ all_in_words (pool.merged xs)
merged-in_words [] = refl
merged-in_words (x ∷ xs) = ap (machine.joined (in_words x)) (merged-in_words xs) ∙ joined-in_words x (pool.merged xs)

pub given_back-in_words : (offset : ℕ) (xs : List PoolSlice) → machine.given_back offset (all_in_words xs) ≡ all_in_words (pool.given_back offset xs)
given_back-in_words offset xs =
    ap machine.merged (replaced_at-in_words offset (pool.in_state state.Free) (machine.used_as usage.Free) (λ s. refl) xs)
    ∙ merged-in_words (pool.replaced_at offset (pool.in_state state.Free) xs)

-- ---- what begins at an offset

pub slice_at-in_words : (offset : ℕ) (xs : List PoolSlice) → machine.slice_at offset (all_in_words xs) ≡ option_map in_words (pool.slice_at offset xs)
slice_at-in_words offset [] = refl
slice_at-in_words offset (x ∷ xs) =
    elim (cases_Bool (x.offset == offset)) [
      | inl here ↦ rw here refl
      | inr past ↦ rw past (slice_at-in_words offset xs)
    ]

received_by : (s : Option PoolSlice) → elim (option_map in_words s) as (λ _. Bool) [ None ↦ false | Some t ↦ machine.is_published t ] ≡ pool.passes pool.is_published s
received_by None = refl
received_by (Some s) = is_published-in_words s

pub is_received-in_words : (offset : ℕ) (xs : List PoolSlice) → machine.is_received offset (all_in_words xs) ≡ pool.begins pool.is_published offset xs
is_received-in_words offset xs = rw (machine.is_received, slice_at-in_words offset xs) (received_by (pool.slice_at offset xs))

queued_by : (s : Option PoolSlice) → elim (option_map in_words s) as (λ _. Bool) [ None ↦ false | Some t ↦ is_unpublished t ] ≡ pool.passes pool.is_unpublished s
queued_by None = refl
queued_by (Some s) = is_unpublished-in_words s

pub is_queued-in_words : (offset : ℕ) (xs : List PoolSlice) → is_queued offset (all_in_words xs) ≡ pool.begins pool.is_unpublished offset xs
is_queued-in_words offset xs = rw (is_queued, slice_at-in_words offset xs) (queued_by (pool.slice_at offset xs))

len_by : (s : Option PoolSlice) → elim (option_map in_words s) as (λ _. ℕ) [ None ↦ 0 | Some t ↦ t.len ] ≡ pool.length_of s
len_by None = refl
len_by (Some s) = refl

pub len_at-in_words : (offset : ℕ) (xs : List PoolSlice) → len_at offset (all_in_words xs) ≡ pool.length_at offset xs
len_at-in_words offset xs = rw (len_at, slice_at-in_words offset xs) (len_by (pool.slice_at offset xs))

used_kept : (b : Bool) (s : PoolSlice) → cond b (Some (in_words s)) None ≡ option_map in_words (cond b (Some s) None)
used_kept true s = refl
used_kept false s = refl

used_by : (s : Option PoolSlice) → used_of (option_map in_words s) ≡ option_map in_words (pool.used_of s)
used_by None = refl
used_by (Some s) = rw (is_free-in_words s) (used_kept (pool.is_used s) s)

pub used_at-in_words : (offset : ℕ) (xs : List PoolSlice) → used_at offset (all_in_words xs) ≡ option_map in_words (pool.used_at offset xs)
used_at-in_words offset xs = rw (slice_at-in_words offset xs) (used_by (pool.slice_at offset xs))

-- ---- slices that cover a pool

Spans-in_words : (a b : ℕ) (xs : List PoolSlice) → pool.Spans a b xs → Spans a b (all_in_words xs)
Spans-in_words a b [] spans = spans
Spans-in_words a b (x ∷ xs) spans = (spans.0, spans.1, spans.2, Spans-in_words (a + x.length) b xs spans.3)

Spans-of_words : (a b : ℕ) (xs : List PoolSlice) → Spans a b (all_in_words xs) → pool.Spans a b xs
Spans-of_words a b [] spans = spans
Spans-of_words a b (x ∷ xs) spans = (spans.0, spans.1, spans.2, Spans-of_words (a + x.length) b xs spans.3)

starts_free-in_words : (xs : List PoolSlice) → starts_free (all_in_words xs) ≡ pool.starts_free xs
starts_free-in_words [] = refl
starts_free-in_words (x ∷ xs) = is_free-in_words x

apart-in_words : (x : PoolSlice) (xs : List PoolSlice) → (machine.is_free (in_words x) && starts_free (all_in_words xs)) ≡ (pool.is_free x && pool.starts_free xs)
apart-in_words x xs = rw (is_free-in_words x, starts_free-in_words xs) refl

IsMerged-in_words : (xs : List PoolSlice) → pool.IsMerged xs → IsMerged (all_in_words xs)
IsMerged-in_words [] merged = tt
IsMerged-in_words (x ∷ xs) merged = (apart-in_words x xs ∙ merged.0, IsMerged-in_words xs merged.1)

IsMerged-of_words : (xs : List PoolSlice) → IsMerged (all_in_words xs) → pool.IsMerged xs
IsMerged-of_words [] merged = tt
IsMerged-of_words (x ∷ xs) merged = (sym (apart-in_words x xs) ∙ merged.0, IsMerged-of_words xs merged.1)

pub IsPool-in_words : (size : ℕ) (xs : List PoolSlice) → pool.IsPool size xs → IsPool size (all_in_words xs)
IsPool-in_words size xs p = record { in_range = p.in_range; covers = Spans-in_words 0 size xs p.covers; merged = IsMerged-in_words xs p.merged }

pub IsPool-of_words : (size : ℕ) (xs : List PoolSlice) → IsPool size (all_in_words xs) → pool.IsPool size xs
IsPool-of_words size xs p = record { in_range = p.in_range; covers = Spans-of_words 0 size xs p.covers; merged = IsMerged-of_words xs p.merged }

-- ---- the machine's slices in the pool's words

abbrev pub state_of : Usage → SliceState
state_of usage.Free = state.Free
state_of usage.Unpublished = state.Unpublished
state_of usage.Published = state.Published

abbrev pub of_words : Slice → PoolSlice
of_words s = record { offset = s.offset; length = s.len; state = state_of s.usage }

usage-state : (u : Usage) → usage_of (state_of u) ≡ u
usage-state usage.Free = refl
usage-state usage.Unpublished = refl
usage-state usage.Published = refl

state-usage : (u : SliceState) → state_of (usage_of u) ≡ u
state-usage state.Free = refl
state-usage state.Unpublished = refl
state-usage state.Published = refl

pub in-of_words : (s : Slice) → in_words (of_words s) ≡ s
in-of_words s = ap (λ u. record { offset = s.offset; len = s.len; usage = u }) (usage-state s.usage)

all-of_words : (ys : List Slice) → all_in_words (map of_words ys) ≡ ys
all-of_words [] = refl
all-of_words (y ∷ ys) = rw (in-of_words y, all-of_words ys) refl

-- what holds of all slices of pools holds of all slices of the machine
pub each_in_words : (P : List Slice → Type 0) → ((xs : List PoolSlice) → P (all_in_words xs)) → (ys : List Slice) → P ys
each_in_words P holds ys = subst P (all-of_words ys) (holds (map of_words ys))
