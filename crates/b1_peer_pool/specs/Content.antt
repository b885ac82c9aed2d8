-- What stands in a slice: the payload, zeros up to a multiple of 8, and the handles' numbers.
use Rattle.std.specs.Prelude.{◌≡◌, ◌≢◌, ℕ, ◌+◌, ◌-◌, ◌*◌, ◌/◌, List, [], ◌∷◌, ◌++◌, Some, length, replicate}
use Rattle.std.specs.Int.{w64, to_le_bytes}
use Rattle.b1_model.specs.MachineParts.{Slice}
use Rattle.b1_pool.specs.Bytes.{bytes_from}
use Rattle.b1_peer_pool.specs.Slices.{used_at}

-- a payload's length, rounded up to a multiple of 8
abbrev pub padded_len : ℕ → ℕ
padded_len payload = (payload + 7) / 8 * 8

-- a payload, and zeros up to a multiple of 8
abbrev pub padded : List ℕ → List ℕ
padded payload = payload ++ replicate (padded_len (length payload) - length payload) 0

-- numbers one after another, as eight bytes each, the lowest first
abbrev pub number_bytes : List ℕ → List ℕ
number_bytes [] = []
number_bytes (n ∷ numbers) = to_le_bytes w64 n ++ number_bytes numbers

-- a received message: its payload, and the handles' numbers behind it
abbrev pub message_bytes : List ℕ → List ℕ → List ℕ
message_bytes payload numbers = padded payload ++ number_bytes numbers

-- the bytes from an offset on begin with the expected ones
abbrev pub Holds : ℕ → List ℕ → List ℕ → Type 0
Holds offset bytes expected = bytes_from offset (length expected) bytes ≡ expected

-- the slices in use that begin elsewhere have the bytes that they had
abbrev pub SameElsewhere : ℕ → List Slice → List ℕ → List ℕ → Type 0
SameElsewhere here slices old new =
    (offset : ℕ) (s : Slice) → used_at offset slices ≡ Some s → here ≢ offset → bytes_from offset s.len new ≡ bytes_from offset s.len old
