-- What one change makes of slices, of a queue and of handle records, as far as other parts of a peer rest on it.
use Rattle.std.specs.Prelude.{◌≡◌, ◌≢◌, ℕ, ◌+◌, ◌-◌, ◌≤◌, false, true, List, length, sum_by, Some}
use Rattle.b1_model.specs.declared.naming.Key.{Key}
use Rattle.b1_model.specs.declared.naming.NodeRef.{NodeRef}
use Rattle.b1_model.specs.declared.tables.Usage.TheVariants.{Unpublished}
use Rattle.b1_model.specs.declared.entries.Entry.{Entry}
use Rattle.b1_model.specs.MachineParts.{HandleRecord, Slice, record_or_none}
use Rattle.b1_model.specs.MachinePool.{slice_at, is_free}
use Rattle.b1_model.specs.MachineTables.{is_needed}
use Rattle.b1_step.specs.Rights.{Has}
use Rattle.b1_step.specs.Ordered.{Rising}
use Rattle.b1_inv_peer.specs.PeerOk.{times, unnoticed as without_notice}

-- slices in use that begin elsewhere stay
abbrev pub KeepsOthers : ℕ → List Slice → List Slice → Type 0
KeepsOthers here old new = (offset : ℕ) (s : Slice) → slice_at offset old ≡ Some s → is_free s ≡ false → offset ≢ here → slice_at offset new ≡ Some s

-- a free slice is taken, and no other one in use changes
pub record Takes (here len : ℕ) (old new : List Slice) : Type 0 where
  pub taken : slice_at here new ≡ Some (record { offset = here; len = len; usage = Unpublished })
  pub was_free : (s : Slice) → slice_at here old ≡ Some s → is_free s ≡ true
  pub others : KeepsOthers here old new

-- one entry leaves a queue
pub record Removes (old new : List (Key × Entry)) (f : Key × Entry) : Type 0 where
  pub was : Has old f
  pub less : (g : Key × Entry) → Has new g → Has old g
  pub sums : (size : Key × Entry → ℕ) → size f + sum_by size new ≡ sum_by size old

-- an entry that carries nodes is counted no more in a peer's records, and its notices stay
pub record LessFlight (me : ℕ) (nodes : List NodeRef) (old new : List HandleRecord) : Type 0 where
  pub rising : Rising new
  pub needed : (h : HandleRecord) → Has new h → is_needed h ≡ true
  pub flight : (node : NodeRef) → node.owner ≢ me → (record_or_none node new).flight ≡ (record_or_none node old).flight - times node nodes
  pub notice : (node : NodeRef) → (record_or_none node new).notice ≡ (record_or_none node old).notice
  pub fewer : length new ≤ length old
  pub unnoticed : without_notice new ≤ without_notice old
