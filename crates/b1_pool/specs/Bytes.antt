use Rattle.std.specs.Prelude.{ℕ, ◌+◌, List, ◌++◌, length, take, drop}
use Rattle.b1_pool.specs.declared.slices.Slice.{Slice}

-- so many of a pool's bytes from one place on
abbrev pub bytes_from : ℕ → ℕ → List ℕ → List ℕ
bytes_from start n bytes = take n (drop start bytes)

-- a pool's bytes with others written over them from one place on
abbrev pub written : ℕ → List ℕ → List ℕ → List ℕ
written start new bytes = take start bytes ++ new ++ drop (start + length new) bytes

-- what callers see of a pool: its slices, its bytes, and for how many slices more it has room
pub record Shown : Type 0 where
  pub slices : List Slice
  pub bytes : List ℕ
  pub spare : ℕ
