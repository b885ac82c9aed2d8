-- The stamps of calls.
use Rattle.std.specs.Prelude.{◌≡◌, ℕ, ◌<◌, ◌↔◌, true, ◌==◌, if◌then◌else◌, List, slice_get, Option, Some, None, IsTrue}
use Rattle.std.specs.Ordering.{nat_cmp}
use Rattle.std.specs.BTreeSet.{BTreeSet, contains}
use Rattle.b1_model.specs.declared.records.Call.{Call}
use Rattle.b1_model.specs.Ledger.{stamp_of}
use Rattle.b1_model.specs.Legal.{seen_stamp}

-- one of the calls has this stamp
abbrev pub IsGivenIn : ℕ → List Call → Type 0
IsGivenIn stamp cs = (i : ℕ) × (b : Call) × (slice_get cs i ≡ Some b) × (stamp_of b.answer ≡ Some stamp)

-- what the calls gave or received is below this stamp
abbrev pub AreSeenBelow : ℕ → List Call → Type 0
AreSeenBelow stamp cs = (i s : ℕ) (b : Call) → slice_get cs i ≡ Some b → seen_stamp b.answer ≡ Some s → s < stamp

-- a set has the stamps of the calls
abbrev pub AreGiven : BTreeSet ℕ → List Call → Type 0
AreGiven given cs = (t : ℕ) → IsTrue (contains nat_cmp given t) ↔ IsGivenIn t cs

-- a set with a stamp, if there is one
abbrev pub Gives : Option ℕ → BTreeSet ℕ → BTreeSet ℕ → Type 0
Gives None given more = (t : ℕ) → contains nat_cmp more t ≡ contains nat_cmp given t
Gives (Some stamp) given more = (t : ℕ) → contains nat_cmp more t ≡ (if stamp == t then true else contains nat_cmp given t)

-- a stamp, if there is one, is below another
abbrev pub IsBelow : Option ℕ → ℕ → Type 0
IsBelow seen stamp = (s : ℕ) → seen ≡ Some s → s < stamp

-- a stamp, if there is one, is the greatest that the calls gave or received
abbrev pub IsMost : Option ℕ → List Call → Type 0
IsMost most cs = (t : ℕ) → IsBelow most t ↔ AreSeenBelow t cs
