-- Scripts whose bytes come in pieces.
use Rattle.std.specs.Prelude.{◌≢◌, ◌<◌, ◌+◌, ℕ, Bool, List, [], ◌++◌, length, take, drop}
use Rattle.std.specs.Int.{w32, from_le_bytes}
use Rattle.b1_script.specs.declared.script.Script.{Script}
use Rattle.b1_script.specs.Reading.{len_place}
use Rattle.b1_script.specs.Spelling.{IsWhole}

-- the bytes are one whole script
abbrev pub IsWholeScript : List ℕ → Type 0
IsWholeScript bytes = (s : Script) × IsWhole bytes s

-- no shorter front of the bytes is a whole script
pub record HasNoShorter (bytes : List ℕ) : Type 0 where
  pub none : (n : ℕ) → n < length bytes → ¬ IsWholeScript (take n bytes)

-- the bytes that a reader has taken, and whether memory was wanting for one of them
pub record Taken : Type 0 where
  pub bytes : List ℕ
  pub wanting : Bool

-- the length that the header tells, where the bytes reach behind it
abbrev pub told : List ℕ → ℕ
told bytes = from_le_bytes w32 (take 4 (drop len_place bytes))

-- the end of the field that tells it
abbrev pub told_end : ℕ
told_end = len_place + 4

-- however the bytes go on, they are no whole script while they are fewer than so many
pub record HasNoneBefore (bytes : List ℕ) (stop : ℕ) : Type 0 where
  pub none : (more : List ℕ) → more ≢ [] → length bytes + length more < stop → ¬ IsWholeScript (bytes ++ more)
