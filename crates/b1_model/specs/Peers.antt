-- The peers of a set, by the bits of its words.
use Rattle.std.specs.Prelude.{ℕ, ◌/◌, ◌%◌, ◌==◌, Bool, List, get_or}
use Rattle.std.specs.List.{filter, range_with_len}
use Rattle.std.specs.Int.{bit_at}

-- a peer's bit is set: bit `peer % 64` of word `peer / 64`
abbrev pub has_peer : List ℕ → ℕ → Bool
has_peer words peer = bit_at (get_or words (peer / 64) 0) (peer % 64) == 1

-- the peers below a number whose bits are set
unfoldable pub peers_below : ℕ → List ℕ → List ℕ
peers_below most words = filter (has_peer words) (range_with_len 0 most)
