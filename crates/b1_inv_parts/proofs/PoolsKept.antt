-- Pools stay covered by their slices, and messages keep theirs, in every step.
use Rattle.std.proofs.Common.{◌≡◌, refl, sym, ap, ◌∙◌, inl, inr, subst, arith, ℕ, zero, suc, ◌+◌, ◌≤◌, ◌==◌, Bool, true, false, cond, List, [], ◌∷◌, Option, Some, None}
use Rattle.std.specs.Prelude.{slice_get}
use Rattle.std.specs.List.{AllByRecursion}
use Rattle.std.proofs.lemmas.Bool.{eq-eqb, ne_eqb}
use Rattle.std.proofs.lemmas.Option.{same_Some}
use Rattle.b1_model.specs.declared.naming.Opening.{Opening}
use Rattle.b1_model.specs.declared.naming.PeerSpec.{PeerSpec}
use Rattle.b1_model.specs.declared.commands.Command.{Command}
use Rattle.b1_model.specs.declared.entries.Entry.{Entry}
use Rattle.b1_model.specs.declared.tables.Usage.TheVariants.{Unpublished}
use Rattle.b1_model.specs.Names.{is_own}
use Rattle.b1_model.specs.Opening.{HasPool, IsOpening}
use Rattle.b1_model.specs.MachineParts.{PeerPart, Slice, State}
use Rattle.b1_model.specs.MachinePool.{slice_at, whole_pool}
use Rattle.b1_model.specs.MachineSend.{offset_of}
use Rattle.b1_model.specs.MachineTables.{with_made}
use Rattle.b1_model.specs.MachineStep.{Step, opening_state, wire_made}
use Rattle.b1_step.specs.Rights.{Has}
use Rattle.b1_step.specs.Fixed.{IsNumbered}
use Rattle.b1_step.proofs.Numbers.{opening_numbered}
use Rattle.b1_inv.specs.Words.{IsPeer}
use Rattle.b1_inv.specs.Sound.{IsSound}
use Rattle.b1_inv_record.specs.Parts.{Cover, AreMerged, IsSliceOf, KeysAscend, PoolRight}
use Rattle.b1_inv_sends.proofs.StagesKept.{opening_queue}
use Rattle.b1_inv_tools.proofs.Leaves.{step_did}
use Rattle.b1_inv_tools.proofs.Openings.{opening_each}
use Rattle.b1_pool.specs.Slices.{IsPoolSize}
use Rattle.b1_peer_pool.specs.Slices.{is_used, used_at, Spans, IsMerged}
use Rattle.b1_peer_pool.proofs.Found.{used_at-found, used_at-slice, usage-used}
use Rattle.b1_peer_pool.proofs.Laws.{IsPool-whole_pool}
use Rattle.b1_inv_parts.proofs.Steps.{kept_by_step}
use Rattle.b1_inv_parts.proofs.Slices.{AreSliced, slice_offset, slice_usage, nothing_sliced}
use Rattle.b1_inv_parts.proofs.Pools.{PartSliced, event_sliced}

-- ---- slices that cover a pool

spans_of : (a b : ℕ) (ys : List Slice) → Cover a b ys → Spans a b ys
spans_of a b [] c = c
spans_of a b (y ∷ ys) c = (c.0, c.1, c.2, spans_of (a + y.len) b ys c.3)

cover_of : (a b : ℕ) (ys : List Slice) → Spans a b ys → Cover a b ys
cover_of a b [] c = c
cover_of a b (y ∷ ys) c = (c.0, c.1, c.2, cover_of (a + y.len) b ys c.3)

is_merged : (ys : List Slice) → AreMerged ys → IsMerged ys
is_merged [] m = tt
is_merged (y ∷ []) m = (m.0, is_merged [] m.1)
is_merged (y ∷ z ∷ ys) m = (m.0, is_merged (z ∷ ys) m.1)

are_merged : (ys : List Slice) → IsMerged ys → AreMerged ys
are_merged [] m = tt
are_merged (y ∷ []) m = (m.0, are_merged [] m.1)
are_merged (y ∷ z ∷ ys) m = (m.0, are_merged (z ∷ ys) m.1)

-- a slice of them begins at or behind the first offset
low : (a b : ℕ) (ys : List Slice) (t : Slice) → Cover a b ys → Has ys t → a ≤ t.offset
low a b [] t c h = absurd h
low a b (y ∷ ys) t c (inl same) = let start = ap (λ s. s.offset) same in let first = c.0 in omega (arith, start, first)
low a b (y ∷ ys) t c (inr there) = let further = low (a + y.len) b ys t c.3 there in omega (arith, further)

-- and is the one that begins there
pub at_own_offset : (a b : ℕ) (ys : List Slice) (t : Slice) → Cover a b ys → Has ys t → slice_at t.offset ys ≡ Some t
at_own_offset a b [] t c h = absurd h
at_own_offset a b (y ∷ ys) t c (inl same) = ap (λ e. cond e (Some y) (slice_at t.offset ys)) (eq-eqb y.offset t.offset (ap (λ s. s.offset) (sym same))) ∙ ap Some (sym same)
at_own_offset a b (y ∷ ys) t c (inr there) =
    let further = low (a + y.len) b ys t c.3 there in
    let first = c.0 in
    let long = c.1 in
    ap (λ e. cond e (Some y) (slice_at t.offset ys)) (ne_eqb y.offset t.offset (λ same. absurd (omega (arith, same, further, first, long)))) ∙ at_own_offset (a + y.len) b ys t c.3 there

there_at : (offset : ℕ) (ys : List Slice) (t : Slice) → slice_at offset ys ≡ Some t → Has ys t
there_at offset [] t is = absurd (let e : None ≡ Some t = is in cc e)
there_at offset (y ∷ ys) t is = at (there_at offset ys t) (y.offset == offset) is
  where
    at : (slice_at offset ys ≡ Some t → Has ys t) → (b : Bool) → cond b (Some y) (slice_at offset ys) ≡ Some t → Has (y ∷ ys) t
    at further true here = inl (sym (same_Some y t here))
    at further false here = inr (further here)

unpublished_used : (t : Slice) → t.usage ≡ Unpublished → is_used t ≡ true
unpublished_used t is = usage-used t Unpublished is (inl refl)

-- ---- from the state's facts to a part's, and back

pub pool_size : (o : Opening) (s : State) → IsOpening o → IsNumbered o s → (q : ℕ) (x : PeerPart) → IsPeer s q x → IsPoolSize x.pool
pool_size o s opening numbered q x is =
    let n = numbered.peers q x is in
    subst IsPoolSize (sym n.pool) (size_of o.peers q n.spec opening.pools n.is_spec)
  where
    size_of : (specs : List PeerSpec) (i : ℕ) (spec : PeerSpec) → AllByRecursion HasPool specs → slice_get specs i ≡ Some spec → IsPoolSize spec.pool
    size_of [] i spec all is = absurd (cc is)
    size_of (one ∷ rest) zero spec all is = subst (λ z. IsPoolSize z.pool) (same_Some one spec is) (record { least = all.0.least; most = all.0.most; multiple = all.0.eighths })
    size_of (one ∷ rest) (suc i) spec all is = size_of rest i spec all.1 is

module _ (s : State) (right : PoolRight s) (q : ℕ) (x : PeerPart) (is : IsPeer s q x) (size : IsPoolSize x.pool) where
  used_slice : (e : Entry) (t : Slice) → Has x.slices t → IsSliceOf e t → used_at (offset_of e) x.slices ≡ Some t
  used_slice e t there slice =
      ap (λ o. used_at o x.slices) (sym (slice_offset e t slice))
      ∙ used_at-slice t.offset x.slices t (at_own_offset 0 x.pool x.slices t (right.cover q x is) there) (unpublished_used t (slice_usage e t slice))

  pub sliced_of : PartSliced x
  sliced_of = record {
    pool = record { in_range = size; covers = spans_of 0 x.pool x.slices (right.cover q x is); merged = is_merged x.slices (right.merged q x is) };
    sliced = λ f there message. let t = right.sliced q x f is there message in (t.0, used_slice f.1 t.0 t.1 t.2, t.2);
    apart = λ f g there also one two same. right.apart q x f g is there also one two same;
    needed = λ offset t used un. right.needed q x t is (there_at offset x.slices t (used_at-found offset x.slices t used).0) un;
  }

pool_of : (s : State) → ((q : ℕ) (x : PeerPart) → IsPeer s q x → PartSliced x) → PoolRight s
pool_of s each = record {
  cover = λ q x is. cover_of 0 x.pool x.slices (each q x is).pool.covers;
  merged = λ q x is. are_merged x.slices (each q x is).pool.merged;
  sliced = λ q x f is there message. let t = (each q x is).sliced f there message in (t.0, there_at (offset_of f.1) x.slices t.0 (used_at-found (offset_of f.1) x.slices t.0 t.1).0, t.2);
  apart = λ q x f g is there also one two same. (each q x is).apart f g there also one two same;
  needed = λ q x t is there un.
      let all = each q x is in
      all.needed t.offset t (used_at-slice t.offset x.slices t (at_own_offset 0 x.pool x.slices t (cover_of 0 x.pool x.slices all.pool.covers) there) (unpublished_used t un)) un;
}

-- ---- steps

pub pools_kept : (o : Opening) (s : State) (p : ℕ) (c : Option Command) (t : State) → IsSound o s → KeysAscend s → PoolRight s → Step o s p c t → PoolRight t
pools_kept o s p c t sound keys right step =
    pool_of t
    (kept_by_step step PartSliced (λ q x is. sliced_of s right q x is (pool_size o s sound.opening sound.numbered q x is))
    (λ ok. event_sliced o step.local.memory (step_did step).e (step_did step).doing step.peer (sound.stages.once step.at step.peer step.is_peer)
    (record { rising = sound.rising step.at step.peer step.is_peer; ascending = keys.ascending step.at step.peer step.is_peer; sliced = ok }) step.action))

made_whole : (number : ℕ) (x : PeerPart) → x.slices ≡ whole_pool x.pool → (wire_made number x).slices ≡ whole_pool (wire_made number x).pool
made_whole number x whole = elim (is_own number) as (λ b. (cond b (record x { nodes = with_made x.peers number x.nodes }) x).slices ≡ whole_pool (cond b (record x { nodes = with_made x.peers number x.nodes }) x).pool) [ true ↦ whole | false ↦ whole ]

-- the pool of every part is free as a whole when a bus begins
pub opening_whole : (o : Opening) (q : ℕ) (x : PeerPart) → IsPeer (opening_state o) q x → x.slices ≡ whole_pool x.pool
opening_whole o = opening_each (λ y. y.slices ≡ whole_pool y.pool) made_whole (λ node dest y it. it) (λ node y it. it) o (λ me spec. refl)

pub pools_begin : (o : Opening) → IsOpening o → PoolRight (opening_state o)
pools_begin o opening =
    pool_of (opening_state o)
    (λ q x is.
    subst (λ ys. AreSliced x.pool x.queue ys) (sym (opening_whole o q x is))
    (subst (λ queue. AreSliced x.pool queue (whole_pool x.pool)) (sym (opening_queue o q x is))
    (nothing_sliced x.pool (IsPool-whole_pool x.pool (pool_size o (opening_state o) opening (opening_numbered o) q x is)))))
