-- What is known of a slice that begins at an offset, in the machine's words.
use Rattle.std.proofs.Common.{◌≡◌, ◌≢◌, ℕ, ◌+◌, ◌%◌, ◌<◌, ◌≤◌, ◌==◌, ◌^◌, Bool, true, false, cond, List, [], ◌∷◌, Option, Some, None, refl, sym, ap, ◌∙◌, inl, inr, ◌⊎◌, arith}
use Rattle.std.proofs.lemmas.Bool.{cases_Bool, cases_lt, false≢true, eqb-true}
use Rattle.std.proofs.lemmas.Option.{same_Some}
use Rattle.b1_model.specs.declared.tables.Usage.{Usage}
use Rattle.b1_model.specs.declared.tables.Usage.TheVariants.{Free, Unpublished, Published}
use Rattle.b1_model.specs.MachineParts.{Slice}
use Rattle.b1_model.specs.MachinePool.{is_free, is_published, slice_at, is_received}
use Rattle.b1_peer_pool.specs.Slices.{is_used, is_unpublished, is_queued, used_of, used_at, len_at, Spans, IsPool}

-- ---- where it stands

-- slices that span a range don't end before they begin
Spans-le : (a b : ℕ) (ys : List Slice) → Spans a b ys → a ≤ b
Spans-le a b [] spans = omega (arith, spans)
Spans-le a b (y ∷ ys) spans = let rest = Spans-le (a + y.len) b ys spans.3 in omega arith

-- a slice that is found begins at the offset, has a length that slices may have, and stands within the range
pub record IsWithin (a b offset : ℕ) (s : Slice) : Type 0 where
  pub begins_here : s.offset ≡ offset
  pub long : 8 ≤ s.len
  pub multiple : s.len % 8 ≡ 0
  pub low : a ≤ offset
  pub high : offset + s.len ≤ b

found_within : (a b offset : ℕ) (ys : List Slice) (s : Slice) → Spans a b ys → slice_at offset ys ≡ Some s → IsWithin a b offset s
found_within a b offset [] s spans found = absurd (let e : None ≡ Some s = found in cc)
found_within a b offset (y ∷ ys) s spans found =
    elim (cases_Bool (y.offset == offset)) [
      | inl here ↦
          let same : y ≡ s = same_Some y s (rw here at found) in
          let begun : y.offset ≡ offset = eqb-true y.offset offset here in
          let rest : a + y.len ≤ b = Spans-le (a + y.len) b ys spans.3 in
          rw (← same) (record { begins_here = begun; long = spans.1; multiple = spans.2; low = omega (arith, begun, spans.0); high = omega (arith, begun, spans.0, rest) })
      | inr past ↦
          let r = found_within (a + y.len) b offset ys s spans.3 (rw past at found) in
          record { begins_here = r.begins_here; long = r.long; multiple = r.multiple; low = omega (arith, r.low); high = r.high }
    ]

-- a slice of a pool that is found
pub slice_at-within : (size offset : ℕ) (ys : List Slice) (s : Slice) → IsPool size ys → slice_at offset ys ≡ Some s → IsWithin 0 size offset s
slice_at-within size offset ys s p found = found_within 0 size offset ys s p.covers found

-- offsets of slices are below 2 ^ 22
pub offset-below : (size offset : ℕ) (ys : List Slice) (s : Slice) → IsPool size ys → slice_at offset ys ≡ Some s → offset < 2 ^ 22
offset-below size offset ys s p found =
    let w = slice_at-within size offset ys s p found in
    omega (arith, w.high, w.long, p.in_range.most)

ends_before : (a b i j : ℕ) (ys : List Slice) (s t : Slice) → Spans a b ys → slice_at i ys ≡ Some s → slice_at j ys ≡ Some t → i < j → i + s.len ≤ j
ends_before a b i j [] s t spans at_i at_j less = absurd (let e : None ≡ Some s = at_i in cc)
ends_before a b i j (y ∷ ys) s t spans at_i at_j less =
    elim (cases_Bool (y.offset == i)) [
      | inl here ↦
          let same : y ≡ s = same_Some y s (rw here at at_i) in
          let begun : y.offset ≡ i = eqb-true y.offset i here in
          elim (cases_Bool (y.offset == j)) [
            | inl there ↦ absurd (omega (arith, begun, eqb-true y.offset j there))
            | inr later ↦
                let r = found_within (a + y.len) b j ys t spans.3 (rw later at at_j) in
                rw (← same) (omega (arith, r.low, begun, spans.0))
          ]
      | inr past ↦
          elim (cases_Bool (y.offset == j)) [
            | inl there ↦
                let r = found_within (a + y.len) b i ys s spans.3 (rw past at at_i) in
                absurd (omega (arith, r.low, eqb-true y.offset j there, spans.0))
            | inr later ↦ ends_before (a + y.len) b i j ys s t spans.3 (rw past at at_i) (rw later at at_j) less
          ]
    ]

-- two slices don't overlap
pub slices-apart : (size i j : ℕ) (ys : List Slice) (s t : Slice) → IsPool size ys → slice_at i ys ≡ Some s → slice_at j ys ≡ Some t → i ≢ j → (i + s.len ≤ j) ⊎ (j + t.len ≤ i)
slices-apart size i j ys s t p at_i at_j apart =
    elim (cases_lt i j) [
      | inl less ↦ inl (ends_before 0 size i j ys s t p.covers at_i at_j less)
      | inr most ↦ inr (ends_before 0 size j i ys t s p.covers at_j at_i (omega (arith, most, apart)))
    ]

-- ---- slices in use

used_of-some : (o : Option Slice) (s : Slice) → used_of o ≡ Some s → (o ≡ Some s) × (is_used s ≡ true)
used_of-some None s used = absurd (let e : None ≡ Some s = used in cc)
used_of-some (Some t) s used =
    elim (cases_Bool (is_used t)) [
      | inl in_use ↦
          let same : t ≡ s = same_Some t s (rw in_use at used) in
          (ap (λ x. Some x) same, ap is_used (sym same) ∙ in_use)
      | inr free ↦ absurd (let e : None ≡ Some s = rw free at used in cc)
    ]

pub used_at-found : (offset : ℕ) (ys : List Slice) (s : Slice) → used_at offset ys ≡ Some s → (slice_at offset ys ≡ Some s) × (is_used s ≡ true)
used_at-found offset ys s used = used_of-some (slice_at offset ys) s used

pub used_at-slice : (offset : ℕ) (ys : List Slice) (s : Slice) → slice_at offset ys ≡ Some s → is_used s ≡ true → used_at offset ys ≡ Some s
used_at-slice offset ys s found in_use = ap used_of found ∙ ap (λ b. cond b (Some s) None) in_use

unpublished_by : (u : Usage) → elim u as (λ _. Bool) [ Free ↦ false | Unpublished ↦ true | Published ↦ false ] ≡ true → u ≡ Unpublished
unpublished_by Free h = absurd (false≢true h)
unpublished_by Unpublished h = refl
unpublished_by Published h = absurd (false≢true h)

published_by : (u : Usage) → elim u as (λ _. Bool) [ Free ↦ false | Unpublished ↦ false | Published ↦ true ] ≡ true → u ≡ Published
published_by Free h = absurd (false≢true h)
published_by Unpublished h = absurd (false≢true h)
published_by Published h = refl

pub usage-used : (s : Slice) (u : Usage) → s.usage ≡ u → (u ≡ Unpublished) ⊎ (u ≡ Published) → is_used s ≡ true
usage-used s u is (inl queued) = rw (is_used, is_free, is, queued) refl
usage-used s u is (inr received) = rw (is_used, is_free, is, received) refl

queued_by : (o : Option Slice) → elim o as (λ _. Bool) [ None ↦ false | Some s ↦ is_unpublished s ] ≡ true → (s : Slice) × (o ≡ Some s) × (s.usage ≡ Unpublished)
queued_by None h = absurd (false≢true h)
queued_by (Some s) h = (s, refl, unpublished_by s.usage h)

-- the slice of a queued message is in use
pub is_queued-used : (offset : ℕ) (ys : List Slice) → is_queued offset ys ≡ true → (s : Slice) × (used_at offset ys ≡ Some s) × (s.usage ≡ Unpublished)
is_queued-used offset ys queued =
    let q = queued_by (slice_at offset ys) queued in
    (q.0, used_at-slice offset ys q.0 q.1 (usage-used q.0 Unpublished q.2 (inl refl)), q.2)

pub used-is_queued : (offset : ℕ) (ys : List Slice) (s : Slice) → used_at offset ys ≡ Some s → s.usage ≡ Unpublished → is_queued offset ys ≡ true
used-is_queued offset ys s used is =
    ap (λ (o : Option Slice). elim o as (λ _. Bool) [ None ↦ false | Some t ↦ is_unpublished t ]) (used_at-found offset ys s used).0
    ∙ rw (is_unpublished, is) refl

received_by : (o : Option Slice) → elim o as (λ _. Bool) [ None ↦ false | Some s ↦ is_published s ] ≡ true → (s : Slice) × (o ≡ Some s) × (s.usage ≡ Published)
received_by None h = absurd (false≢true h)
received_by (Some s) h = (s, refl, published_by s.usage h)

-- the slice of a received message is in use
pub is_received-used : (offset : ℕ) (ys : List Slice) → is_received offset ys ≡ true → (s : Slice) × (used_at offset ys ≡ Some s) × (s.usage ≡ Published)
is_received-used offset ys received =
    let q = received_by (slice_at offset ys) received in
    (q.0, used_at-slice offset ys q.0 q.1 (usage-used q.0 Published q.2 (inr refl)), q.2)

-- the length of a slice in use
pub used-len_at : (offset : ℕ) (ys : List Slice) (s : Slice) → used_at offset ys ≡ Some s → len_at offset ys ≡ s.len
used-len_at offset ys s used = ap (λ (o : Option Slice). elim o as (λ _. ℕ) [ None ↦ 0 | Some t ↦ t.len ]) (used_at-found offset ys s used).0

pub used-is_received : (offset : ℕ) (ys : List Slice) (s : Slice) → used_at offset ys ≡ Some s → s.usage ≡ Published → is_received offset ys ≡ true
used-is_received offset ys s used is =
    ap (λ (o : Option Slice). elim o as (λ _. Bool) [ None ↦ false | Some t ↦ is_published t ]) (used_at-found offset ys s used).0
    ∙ rw (is_published, is) refl

-- a received message's slice is no queued message's
pub received-apart : (here offset : ℕ) (ys : List Slice) (s : Slice) → is_received here ys ≡ true → used_at offset ys ≡ Some s → s.usage ≡ Unpublished → here ≢ offset
received-apart here offset ys s received used is same =
    let r = is_received-used here ys received in
    let there : used_at offset ys ≡ Some r.0 = rw (← same) r.1 in
    let e : s ≡ r.0 = same_Some s r.0 (sym used ∙ there) in
    let u : Unpublished ≡ Published = sym is ∙ ap (λ t. t.usage) e ∙ r.2 in
    cc
