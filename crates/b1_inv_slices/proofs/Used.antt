-- Each slice is free, a queued message's, or one that its peer received and keeps.
use Rattle.std.proofs.Common.{◌≡◌, ◌⊎◌, refl, sym, ap, ◌∙◌, inl, inr, ℕ, Some}
use Rattle.b1_model.specs.declared.naming.Key.{Key}
use Rattle.b1_model.specs.declared.entries.Entry.{Entry}
use Rattle.b1_model.specs.declared.tables.Usage.{Usage}
use Rattle.b1_model.specs.declared.tables.Usage.TheVariants.{Free, Unpublished, Published}
use Rattle.b1_model.specs.MachineParts.{PeerPart, DriverPart, Slice, State}
use Rattle.b1_step.specs.Rights.{Has}
use Rattle.b1_inv.specs.Words.{IsPeer, IsDriver}
use Rattle.b1_inv_record.specs.Epochs.{flushed_calls}
use Rattle.b1_inv_record.specs.Parts.{IsSliceOf, PoolRight}
use Rattle.b1_inv_parts.proofs.PoolsKept.{at_own_offset}
use Rattle.b1_inv_slices.specs.Slices.{kept_len, published_len, ReceivedKept, SlicesUsed}

published_is : (offset len : ℕ) (u : Usage) → u ≡ Published → published_len (Some (record { offset = offset; len = len; usage = u })) ≡ Some len
published_is offset len Free is = absurd (cc is)
published_is offset len Unpublished is = absurd (cc is)
published_is offset len Published is = refl

pub slices_used : {s : State} → PoolRight s → ReceivedKept s → SlicesUsed s
slices_used {s} pool kept = record { used = λ q x d t is is_driver has. by q x d t is is_driver has t.usage refl }
  where
    by : (q : ℕ) (x : PeerPart) (d : DriverPart) (t : Slice) → IsPeer s q x → IsDriver s q d → Has x.slices t → (u : Usage) → t.usage ≡ u
        → (t.usage ≡ Free) ⊎ (((t.usage ≡ Unpublished) × ((f : Key × Entry) × Has x.queue f × IsSliceOf f.1 t)) ⊎ ((t.usage ≡ Published) × (kept_len t.offset (flushed_calls d) ≡ Some t.len)))
    by q x d t is is_driver has Free usage = inl usage
    by q x d t is is_driver has Unpublished usage = inr (inl (usage, pool.needed q x t is has usage))
    by q x d t is is_driver has Published usage =
        inr (inr (usage, sym (kept.kept q t.offset x d is is_driver) ∙ ap published_len (at_own_offset 0 x.pool x.slices t (pool.cover q x is) has) ∙ published_is t.offset t.len t.usage usage))
