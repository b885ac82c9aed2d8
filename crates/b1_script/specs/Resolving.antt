-- What a data receipt gives to refer to, as the program hands it on.
use Rattle.std.specs.Prelude.{ℕ, List, [], ◌∷◌, Option, Some, None}
use Rattle.std.specs.Borrow.{Bor}
use Rattle.b1_model.specs.Script.{Data}

-- an offset, and handles behind a reference
abbrev pub data_seen : ℕ × Bor (List ℕ) → Data
data_seen found = record { offset = found.0; handles = found.1.now }

-- what was found, as a list of one or none
abbrev pub list_seen : Option (ℕ × Bor (List ℕ)) → List Data
list_seen None = []
list_seen (Some found) = data_seen found ∷ []
