-- What a writer that runs out of memory has done.
use Rattle.std.specs.Prelude.{◌≡◌, ℕ, List, length, take}

-- bytes that were added stand behind those that were there
abbrev pub Extends : List ℕ → List ℕ → Type 0
Extends old new = take (length old) new ≡ old
