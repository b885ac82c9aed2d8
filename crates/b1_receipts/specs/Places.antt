-- Where the data receipts stand among calls.
use Rattle.std.specs.Prelude.{ℕ, ◌+◌, Bool, true, false, if◌then◌else◌, List, [], ◌∷◌, ◌++◌}
use Rattle.b1_model.specs.declared.answers.Receipt.TheVariants as rec
use Rattle.b1_model.specs.declared.answers.Answer.{Answer}
use Rattle.b1_model.specs.declared.answers.Answer.TheVariants as ans
use Rattle.b1_model.specs.declared.records.Call.{Call}

-- an answer that is a data receipt
abbrev pub is_data : Answer → Bool
is_data (ans.Got (rec.Message key number offset handles payload)) = true
is_data a = false

-- the place of an answer, if it is a data receipt
abbrev pub place_of : ℕ → Answer → List ℕ
place_of place a = if is_data a then place ∷ [] else []

-- the places of the data receipts among calls that begin at a place
abbrev pub places_from : ℕ → List Call → List ℕ
places_from place [] = []
places_from place (c ∷ cs) = place_of place c.answer ++ places_from (place + 1) cs

-- the places of the data receipts among calls
abbrev pub data_places : List Call → List ℕ
data_places calls = places_from 0 calls
