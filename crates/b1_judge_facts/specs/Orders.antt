-- What the bus order of a record has.
use Rattle.std.specs.Prelude.{◌≡◌, ℕ, ◌<◌, true, false, ◌==◌, filter, slice_get, Some}
use Rattle.b1_model.specs.declared.records.Call.{Call}
use Rattle.b1_model.specs.declared.records.Record.{Record}
use Rattle.b1_model.specs.declared.records.Stamp.{Stamp}
use Rattle.b1_model.specs.Names.{calls_of}
use Rattle.b1_model.specs.Ledger.{stamp_of, is_before, stamps_from, order}

-- the second call doesn't come before the first, by stamp and origin
abbrev pub IsNotAfter : Stamp → Stamp → Type 0
IsNotAfter s t = is_before t.stamp t.origin s.stamp s.origin ≡ false

-- each stamped call stands in the order
abbrev pub HasEachStamp : Record → Type 0
HasEachStamp r = (q k stamp : ℕ) (c : Call) → slice_get (calls_of r q) k ≡ Some c → stamp_of c.answer ≡ Some stamp → (i : ℕ) × (slice_get (order r) i ≡ Some (record { stamp = stamp; origin = q; call = k }))

-- what stands in the order is a stamped call
abbrev pub HasStampsAlone : Record → Type 0
HasStampsAlone r = (i : ℕ) (s : Stamp) → slice_get (order r) i ≡ Some s → (c : Call) × (slice_get (calls_of r s.origin) s.call ≡ Some c) × (stamp_of c.answer ≡ Some s.stamp)

-- what stands earlier in the order comes before, by stamp and origin
abbrev pub Ascends : Record → Type 0
Ascends r = (i j : ℕ) (s t : Stamp) → i < j → slice_get (order r) i ≡ Some s → slice_get (order r) j ≡ Some t → is_before s.stamp s.origin t.stamp t.origin ≡ true

-- one peer's calls stand in the order as in that peer's list
abbrev pub KeepsEachList : Record → Type 0
KeepsEachList r = (q : ℕ) → filter (λ s. s.origin == q) (order r) ≡ stamps_from q 0 (calls_of r q)
