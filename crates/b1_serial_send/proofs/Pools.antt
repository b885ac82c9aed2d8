-- A pool's slices are known by those that are in use.
use Rattle.std.proofs.Common.{◌≡◌, ◌⊎◌, refl, sym, ap, ◌∙◌, subst, inl, inr, ℕ, ◌+◌, ◌<◌, ◌≤◌, ◌==◌, ◌&&◌, Bool, true, false, cond, List, [], ◌∷◌, Option, Some, None, arith}
use Rattle.std.proofs.lemmas.Bool.{cases_lt, eqb-true}
use Rattle.std.proofs.lemmas.Option.{same_Some}
use Rattle.b1_model.specs.declared.tables.Usage.{Usage}
use Rattle.b1_model.specs.declared.tables.Usage.TheVariants.{Free, Unpublished, Published}
use Rattle.b1_model.specs.declared.entries.Entry.{Entry}
use Rattle.b1_model.specs.declared.entries.Entry.TheVariants.{Message, OwnNotice, ForeignNotice, ReleaseNotice}
use Rattle.b1_model.specs.MachineParts.{PeerPart, Slice, State, is_data}
use Rattle.b1_model.specs.MachinePool.{is_free, is_published, slice_at}
use Rattle.b1_step.specs.Rights.{Has}
use Rattle.b1_inv.specs.Words.{IsPeer}
use Rattle.b1_inv_record.specs.Parts.{Cover, AreMerged, IsSliceOf, PoolRight}
use Rattle.b1_inv_parts.proofs.PoolsKept.{at_own_offset}
use Rattle.b1_inv_slices.specs.Slices.{published_len, received_len}

free_is : (u : Usage) → elim u [ Free ↦ true | Unpublished ↦ false | Published ↦ false ] ≡ true → u ≡ Free
free_is Free is = refl
free_is Unpublished is = absurd (cc is)
free_is Published is = absurd (cc is)

cover_end : (a b : ℕ) (ys : List Slice) → Cover a b ys → a ≤ b
cover_end a b [] c = let e = c in omega (arith, e)
cover_end a b (y ∷ ys) c = let further = cover_end (a + y.len) b ys c.3 in omega (arith, further)

-- a slice behind the first one begins behind it
cover_low : (a b : ℕ) (ys : List Slice) (t : Slice) → Cover a b ys → Has ys t → a ≤ t.offset
cover_low a b [] t c h = absurd h
cover_low a b (y ∷ ys) t c (inl same) = let start = ap (λ s. s.offset) same in let first = c.0 in omega (arith, start, first)
cover_low a b (y ∷ ys) t c (inr there) = let further = cover_low (a + y.len) b ys t c.3 there in omega (arith, further)

abbrev AreUsedOf : List Slice → List Slice → Type 0
AreUsedOf xs ys = (t : Slice) → is_free t ≡ false → Has xs t → Has ys t

-- the first slice is the other list's first one, where it is in use
used_first : (a b : ℕ) (x y : Slice) (ys : List Slice) → x.offset ≡ a → Cover a b (y ∷ ys) → Has (y ∷ ys) x → x ≡ y
used_first a b x y ys begins c (inl same) = same
used_first a b x y ys begins c (inr there) = let far = cover_low (a + y.len) b ys x c.3 there in let long = c.1 in absurd (omega (arith, begins, far, long))

-- of two free first slices none is shorter
not_shorter : (a b : ℕ) (x y : Slice) (xs ys : List Slice) → Cover a b (x ∷ xs) → Cover a b (y ∷ ys) → AreMerged (x ∷ xs) → AreUsedOf (x ∷ xs) (y ∷ ys) → is_free x ≡ true → is_free y ≡ true → x.len < y.len → ⊥
not_shorter a b x y [] ys c e merged used free_x free_y less =
    let end : a + x.len ≡ b = c.3 in let far = cover_end (a + y.len) b ys e.3 in absurd (omega (arith, end, far, less))
not_shorter a b x y (z ∷ zs) ys c e merged used free_x free_y less =
    let busy : is_free z ≡ false = sym (ap (λ v. v && is_free z) free_x) ∙ merged.0 in
    by (used z busy (inr (inl refl)))
  where
    by : Has (y ∷ ys) z → ⊥
    by (inl same) = absurd (cc (sym free_y ∙ ap is_free (sym same) ∙ (sym (ap (λ v. v && is_free z) free_x) ∙ merged.0)))
    by (inr there) = let far = cover_low (a + y.len) b ys z e.3 there in let begins = c.3.0 in absurd (omega (arith, far, begins, less))

pub slices_same : (a b : ℕ) (xs ys : List Slice) → Cover a b xs → Cover a b ys → AreMerged xs → AreMerged ys → AreUsedOf xs ys → AreUsedOf ys xs → xs ≡ ys
slices_same a b [] [] c e m n used back = refl
slices_same a b [] (y ∷ ys) c e m n used back = let end : a ≡ b = c in let far = cover_end (a + y.len) b ys e.3 in let long = e.1 in absurd (omega (arith, end, far, long))
slices_same a b (x ∷ xs) [] c e m n used back = let end : a ≡ b = e in let far = cover_end (a + x.len) b xs c.3 in let long = c.1 in absurd (omega (arith, end, far, long))
slices_same a b (x ∷ xs) (y ∷ ys) c e m n used back = by (slices_same (a + x.len) b xs ys) (first (is_free x) refl (is_free y) refl)
  where
    lens : is_free x ≡ true → is_free y ≡ true → x.len ≡ y.len
    lens free_x free_y = elim (cases_lt x.len y.len) [
      | inl less ↦ absurd (not_shorter a b x y xs ys c e m used free_x free_y less)
      | inr not_less ↦ elim (cases_lt y.len x.len) [
        | inl less ↦ absurd (not_shorter a b y x ys xs e c n back free_y free_x less)
        | inr not_more ↦ omega (arith, not_less, not_more)
      ]
    ]

    first : (v : Bool) → is_free x ≡ v → (w : Bool) → is_free y ≡ w → x ≡ y
    first false busy w other = used_first a b x y ys c.0 e (used x busy (inl refl))
    first true free_x false busy = sym (used_first a b y x xs e.0 c (back y busy (inl refl)))
    first true free_x true free_y =
        let offsets : x.offset ≡ y.offset = c.0 ∙ sym e.0 in
        let lengths = lens free_x free_y in
        let usages : x.usage ≡ y.usage = free_is x.usage free_x ∙ sym (free_is y.usage free_y) in
        λ i. record { offset = offsets i; len = lengths i; usage = usages i }

    behind : (p q : Slice) (ps qs : List Slice) → p ≡ q → Cover a b (p ∷ ps) → AreUsedOf (p ∷ ps) (q ∷ qs) → AreUsedOf ps qs
    behind p q ps qs same cover whole t busy there = at (whole t busy (inr there))
      where
        at : Has (q ∷ qs) t → Has qs t
        at (inl head) =
            let far = cover_low (a + p.len) b ps t cover.3 there in
            let begins : t.offset ≡ p.offset = ap (λ s. s.offset) (head ∙ sym same) in
            let start = cover.0 in let long = cover.1 in
            absurd (omega (arith, far, begins, start, long))
        at (inr further) = further

    by : (Cover (a + x.len) b xs → Cover (a + x.len) b ys → AreMerged xs → AreMerged ys → AreUsedOf xs ys → AreUsedOf ys xs → xs ≡ ys) → x ≡ y → x ∷ xs ≡ y ∷ ys
    by further same =
        ap (λ z. z ∷ xs) same
        ∙ ap (λ zs. y ∷ zs) (further c.3 (subst (λ z. Cover (a + z.len) b ys) (sym same) e.3) m.1 n.1 (behind x y xs ys same c used) (behind y x ys xs (sym same) e back))

-- ---- pools of reached states

usage_cases : (u : Usage) → elim u [ Free ↦ true | Unpublished ↦ false | Published ↦ false ] ≡ false → (u ≡ Unpublished) ⊎ (u ≡ Published)
usage_cases Free free = absurd (cc free)
usage_cases Unpublished busy = inl refl
usage_cases Published busy = inr refl

slice_one : (e : Entry) (t z : Slice) → IsSliceOf e t → IsSliceOf e z → t ≡ z
slice_one (Message origin user index serial offset len nodes slots handles payload) t z one two = one.1 ∙ sym two.1
slice_one (OwnNotice serial index) t z one two = absurd one
slice_one (ForeignNotice node index) t z one two = absurd one
slice_one (ReleaseNotice serial) t z one two = absurd one

sliced_data : (e : Entry) (t : Slice) → IsSliceOf e t → is_data e ≡ true
sliced_data (Message origin user index serial offset len nodes slots handles payload) t is = refl
sliced_data (OwnNotice serial index) t is = absurd is
sliced_data (ForeignNotice node index) t is = absurd is
sliced_data (ReleaseNotice serial) t is = absurd is

published_here : (s : Slice) → s.usage ≡ Published → is_published s ≡ true
published_here s is = ap (λ u. elim u [ Free ↦ false | Unpublished ↦ false | Published ↦ true ]) is

published_usage : (u : Usage) → elim u [ Free ↦ false | Unpublished ↦ false | Published ↦ true ] ≡ true → u ≡ Published
published_usage Free is = absurd (cc is)
published_usage Unpublished is = absurd (cc is)
published_usage Published is = refl

there_at : (offset : ℕ) (ys : List Slice) (t : Slice) → slice_at offset ys ≡ Some t → Has ys t
there_at offset [] t is = absurd (let e : None ≡ Some t = is in cc e)
there_at offset (y ∷ ys) t is = at (there_at offset ys t) (y.offset == offset) is
  where
    at : (slice_at offset ys ≡ Some t → Has ys t) → (b : Bool) → cond b (Some y) (slice_at offset ys) ≡ Some t → Has (y ∷ ys) t
    at further true here = inl (sym (same_Some y t here))
    at further false here = inr (further here)

found_offset : (offset : ℕ) (ys : List Slice) (t : Slice) → slice_at offset ys ≡ Some t → t.offset ≡ offset
found_offset offset [] t is = absurd (let e : None ≡ Some t = is in cc e)
found_offset offset (y ∷ ys) t is = at (found_offset offset ys t) (y.offset == offset) refl is
  where
    at : (slice_at offset ys ≡ Some t → t.offset ≡ offset) → (b : Bool) → y.offset == offset ≡ b → cond b (Some y) (slice_at offset ys) ≡ Some t → t.offset ≡ offset
    at further true same here = ap (λ s. s.offset) (sym (same_Some y t here)) ∙ eqb-true y.offset offset same
    at further false other here = further here

module _ (s t : State) (q : ℕ) (x y : PeerPart) (is_x : IsPeer s q x) (is_y : IsPeer t q y) (pool_x : PoolRight s) (pool_y : PoolRight t)
    (queues : x.queue ≡ y.queue) (received : (offset : ℕ) → received_len offset x.slices ≡ received_len offset y.slices) where
  pub used_also : AreUsedOf x.slices y.slices
  used_also w busy there = by (usage_cases w.usage busy)
    where
      -- a received slice is received there too
      received_by : w.usage ≡ Published → (r : Option Slice) → slice_at w.offset y.slices ≡ r → Has y.slices w
      received_by is None none =
          let len : Some w.len ≡ None = sym (ap (λ b. cond b (Some w.len) None) (published_here w is)) ∙ sym (ap published_len (at_own_offset 0 x.pool x.slices w (pool_x.cover q x is_x) there)) ∙ received w.offset ∙ ap published_len none in
          absurd (cc len)
      received_by is (Some z) found = at (is_published z) refl
        where
          len : Some w.len ≡ published_len (Some z)
          len = sym (ap (λ b. cond b (Some w.len) None) (published_here w is)) ∙ sym (ap published_len (at_own_offset 0 x.pool x.slices w (pool_x.cover q x is_x) there)) ∙ received w.offset ∙ ap published_len found

          at : (b : Bool) → is_published z ≡ b → Has y.slices w
          at true published =
              let lens : w.len ≡ z.len = same_Some w.len z.len (len ∙ ap (λ b. cond b (Some z.len) None) published) in
              let offsets : w.offset ≡ z.offset = sym (found_offset w.offset y.slices z found) in
              let usages : w.usage ≡ z.usage = is ∙ sym (published_usage z.usage published) in
              let same : w ≡ z = (λ i. record { offset = offsets i; len = lens i; usage = usages i }) in
              subst (Has y.slices) (sym same) (there_at w.offset y.slices z found)
          at false unpublished = absurd (cc (len ∙ ap (λ b. cond b (Some z.len) None) unpublished))

      by : (w.usage ≡ Unpublished) ⊎ (w.usage ≡ Published) → Has y.slices w
      by (inl queued) =
          let f = pool_x.needed q x w is_x there queued in
          let z = pool_y.sliced q y f.0 is_y (subst (λ zs. Has zs f.0) queues f.1) (sliced_data f.0.1 w f.2) in
          subst (Has y.slices) (slice_one f.0.1 z.0 w z.2 f.2) z.1
      by (inr is) = received_by is (slice_at w.offset y.slices) refl

-- the slices of a part are those of another one with the same queue, in a pool of the same size, that keeps the same received slices
pub pools_same : (s t : State) (q : ℕ) (x y : PeerPart) → IsPeer s q x → IsPeer t q y → PoolRight s → PoolRight t → x.pool ≡ y.pool → x.queue ≡ y.queue → ((offset : ℕ) → received_len offset x.slices ≡ received_len offset y.slices) → x.slices ≡ y.slices
pools_same s t q x y is_x is_y pool_x pool_y sizes queues received =
    slices_same 0 x.pool x.slices y.slices (pool_x.cover q x is_x) (subst (λ n. Cover 0 n y.slices) (sym sizes) (pool_y.cover q y is_y)) (pool_x.merged q x is_x) (pool_y.merged q y is_y)
    (used_also s t q x y is_x is_y pool_x pool_y queues received) (used_also t s q y x is_y is_x pool_y pool_x (sym queues) (λ offset. sym (received offset)))
