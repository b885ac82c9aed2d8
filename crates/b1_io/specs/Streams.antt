-- What calls of a source and a sink do to their counts of faults and to the bytes that they tell of.
use Rattle.std.specs.Prelude.{◌≡◌, ℕ, ◌<◌, ◌-◌, ◌^◌, ◌⊎◌, List, [], ◌++◌, Option, take, IfSome}
use Rattle.std.specs.Option.{option_map}

-- a count of faults rose, or stands at 2^64 - 1
abbrev pub Rose : ℕ → ℕ → Type 0
Rose old new = (old < new) ⊎ (new ≡ 2 ^ 64 - 1)

-- what was left, where that is told, is these bytes and then what is left now
abbrev pub Gave : Option (List ℕ) → Option (List ℕ) → List ℕ → Type 0
Gave old new bytes = old ≡ option_map (λ rest. bytes ++ rest) new

-- some bytes of this kind were given
abbrev pub GaveSuch : Option (List ℕ) → Option (List ℕ) → (List ℕ → Type 0) → Type 0
GaveSuch old new P = (given : List ℕ) × P given × Gave old new given

-- what is taken now, where that is told, is what was taken before and then these bytes
abbrev pub Took : Option (List ℕ) → Option (List ℕ) → List ℕ → Type 0
Took old new bytes = new ≡ option_map (λ former. former ++ bytes) old

-- the first bytes were taken, as many as such a number says
abbrev pub TookSuch : Option (List ℕ) → Option (List ℕ) → List ℕ → (ℕ → Type 0) → Type 0
TookSuch old new bytes P = (n : ℕ) × P n × Took old new (take n bytes)

-- nothing is left, where that is told
abbrev pub IsAtEnd : Option (List ℕ) → Type 0
IsAtEnd left = IfSome left (λ rest. rest ≡ [])
