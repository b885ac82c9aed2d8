-- Numbers as bytes in a file, the lowest byte first.
use Rattle.std.specs.Prelude.{◌≡◌, ℕ, ◌+◌, List, length, take, drop, Result, Ok, Err, nat_lt, if◌then◌else◌}
use Rattle.std.specs.Int.{w32, w64, to_le_bytes, from_le_bytes}
use Rattle.b1_wire.specs.declared.Short.{Short}

-- the four bytes of a number below 2 ^ 32
abbrev pub u32_bytes : ℕ → List ℕ
u32_bytes n = to_le_bytes w32 n

-- the eight bytes of a number below 2 ^ 64
abbrev pub u64_bytes : ℕ → List ℕ
u64_bytes n = to_le_bytes w64 n

-- a text stands in the bytes from a place on
abbrev pub StandsAt : List ℕ → ℕ → List ℕ → Type 0
StandsAt bytes at text = take (length text) (drop at bytes) ≡ text

-- the number of the four bytes at a place, where so many are there
abbrev pub u32_at : List ℕ → ℕ → Result ℕ Short
u32_at bytes at = if nat_lt (length bytes) (at + 4) then Err (record { at = at }) else Ok (from_le_bytes w32 (take 4 (drop at bytes)))

-- the number of the eight bytes at a place, where so many are there
abbrev pub u64_at : List ℕ → ℕ → Result ℕ Short
u64_at bytes at = if nat_lt (length bytes) (at + 8) then Err (record { at = at }) else Ok (from_le_bytes w64 (take 8 (drop at bytes)))
