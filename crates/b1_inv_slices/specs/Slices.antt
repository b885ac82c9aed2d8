-- The slices of a peer's pool, against what its queue needs and what its calls received.
use Rattle.std.specs.Prelude.{◌≡◌, ◌⊎◌, ◌==◌, ℕ, if◌then◌else◌, List, [], ◌∷◌, length, Option, Some, None}
use Rattle.b1_model.specs.declared.naming.Key.{Key}
use Rattle.b1_model.specs.declared.commands.Command.{Command}
use Rattle.b1_model.specs.declared.commands.Command.TheVariants as cmd
use Rattle.b1_model.specs.declared.answers.Answer.{Answer}
use Rattle.b1_model.specs.declared.answers.Answer.TheVariants as ans
use Rattle.b1_model.specs.declared.answers.Receipt.{Receipt}
use Rattle.b1_model.specs.declared.answers.Receipt.TheVariants as rec
use Rattle.b1_model.specs.declared.entries.Entry.{Entry}
use Rattle.b1_model.specs.declared.records.Call.{Call}
use Rattle.b1_model.specs.declared.tables.Usage.TheVariants.{Free, Unpublished, Published}
use Rattle.b1_model.specs.MachineParts.{PeerPart, DriverPart, Slice, State}
use Rattle.b1_model.specs.MachinePool.{slice_len, slice_at, is_published}
use Rattle.b1_step.specs.Rights.{Has}
use Rattle.b1_inv.specs.Words.{IsPeer, IsDriver}
use Rattle.b1_inv_record.specs.Epochs.{flushed_calls}
use Rattle.b1_inv_record.specs.Parts.{IsSliceOf}

-- ---- by the calls of a peer

-- the length that a peer keeps at an offset, after a receipt
abbrev pub kept_got : ℕ → Receipt → Option ℕ → Option ℕ
kept_got offset (rec.Message key number at handles payload) kept =
    if at == offset then Some (slice_len (length payload) (length handles)) else kept
kept_got offset receipt kept = kept

-- after a command that is done
abbrev pub kept_done : ℕ → Command → Option ℕ → Option ℕ
kept_done offset (cmd.SliceRelease at) kept = if at == offset then None else kept
kept_done offset command kept = kept

-- after a call: the receipt of a message puts a slice there, its SLICE_RELEASE gives it back, and a
-- flush gives all back
abbrev pub kept_after : ℕ → Command → Answer → Option ℕ → Option ℕ
kept_after offset command (ans.Got receipt) kept = kept_got offset receipt kept
kept_after offset command ans.Done kept = kept_done offset command kept
kept_after offset command (ans.Reset stamp) kept = None
kept_after offset command answer kept = kept

-- after some calls, from what was kept there on
abbrev pub kept_from : ℕ → List Call → Option ℕ → Option ℕ
kept_from offset [] kept = kept
kept_from offset (c ∷ rest) kept = kept_from offset rest (kept_after offset c.command c.answer kept)

-- the length of the slice at an offset that a peer has received by its calls, and not given back
abbrev pub kept_len : ℕ → List Call → Option ℕ
kept_len offset calls = kept_from offset calls None

-- ---- by its pool

abbrev pub published_len : Option Slice → Option ℕ
published_len None = None
published_len (Some s) = if is_published s then Some s.len else None

-- the length of the published slice that begins at an offset, if one does
abbrev pub received_len : ℕ → List Slice → Option ℕ
received_len offset slices = published_len (slice_at offset slices)

-- ---- both

-- The published slices of a pool are those that its peer has received and not given back, in the
-- epoch of its part, with the lengths of payload and handles.
pub record ReceivedKept (s : State) : Type 0 where
  pub kept : (q offset : ℕ) (x : PeerPart) (d : DriverPart) → IsPeer s q x → IsDriver s q d
      → received_len offset x.slices ≡ kept_len offset (flushed_calls d)

-- Each slice is free, or a queued message's, or one that the peer has received and not given back.
pub record SlicesUsed (s : State) : Type 0 where
  pub used : (q : ℕ) (x : PeerPart) (d : DriverPart) (t : Slice) → IsPeer s q x → IsDriver s q d
      → Has x.slices t
      → (t.usage ≡ Free)
      ⊎ (((t.usage ≡ Unpublished) × ((f : Key × Entry) × Has x.queue f × IsSliceOf f.1 t))
      ⊎ ((t.usage ≡ Published) × (kept_len t.offset (flushed_calls d) ≡ Some t.len)))
