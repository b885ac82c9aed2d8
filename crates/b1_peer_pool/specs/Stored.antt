-- What callers see of a store.
use Rattle.std.specs.Prelude.{◌≡◌, ℕ, nat_lt, List, Option, length}
use Rattle.std.specs.Bool.{then_some}
use Rattle.b1_model.specs.declared.answers.Reason.{Reason}
use Rattle.b1_model.specs.declared.answers.Reason.TheVariants as reason
use Rattle.b1_model.specs.MachineParts.{Slice}
use Rattle.b1_model.specs.MachinePool.{slice_len, largest_free}
use Rattle.b1_peer_pool.specs.Slices.{IsPool}

-- a store: its size, its slices in the machine's words, all its bytes, and how many messages it takes without memory
pub record Stored : Type 0 where
  pub size : ℕ
  pub slices : List Slice
  pub bytes : List ℕ
  pub spare : ℕ

-- the refusal of a message, if no free slice is long enough
abbrev pub full_reason : List Slice → ℕ → ℕ → Option Reason
full_reason slices payload handles = then_some (nat_lt (largest_free slices) (slice_len payload handles)) (reason.Full (slice_len payload handles) (largest_free slices))

-- the slices cover the store's pool, and there are as many bytes
pub record IsStored (s : Stored) : Type 0 where
  pub pool : IsPool s.size s.slices
  pub as_long : length s.bytes ≡ s.size
