-- What a driver keeps beside its calls.
use Rattle.std.specs.Prelude.{◌≡◌, ◌+◌, ◌≤◌, ℕ, vec_len, vec_capacity}
use Rattle.std.specs.Global.{Vec}
use Rattle.b1_model.specs.declared.records.Call.{Call}
use Rattle.b1_receipts.specs.Places.{data_places}

-- the places of the data receipts among the calls, with room for as many more as there is room for calls
pub record ArePlaces (calls : Vec Call) (places : Vec ℕ) : Type 0 where
  pub places_are : places.items ≡ data_places calls.items
  pub room : vec_capacity calls + vec_len places ≤ vec_capacity places + vec_len calls
