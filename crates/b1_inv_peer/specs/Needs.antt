-- What the methods of a peer need of its part and their arguments.
use Rattle.std.specs.Prelude.{◌≡◌, ◌≢◌, ℕ, ◌+◌, ◌<◌, ◌%◌, ◌^◌, max, true, List, [], ◌∷◌, All, length, slice_get, Option, Some, None}
use Rattle.b1_model.specs.declared.naming.Key.{Key}
use Rattle.b1_model.specs.declared.naming.NodeRef.{NodeRef}
use Rattle.b1_model.specs.declared.parts.Slot.{Slot}
use Rattle.b1_model.specs.declared.parts.Slot.TheVariants as slot
use Rattle.b1_model.specs.declared.entries.Entry.{Entry}
use Rattle.b1_model.specs.MachineParts.{PeerPart, HandleRecord, node_at, is_dying, carried, no_origin}
use Rattle.b1_model.specs.MachineReceive.{dropped_refs, is_released}
use Rattle.b1_model.specs.MachineDestroy.{needs_notice}
use Rattle.b1_step.specs.Rights.{Has}
use Rattle.b1_step.specs.Ordered.{NewKey}

-- a clock or a final stamp: even, and below 2^63
pub record IsClock (clock : ℕ) : Type 0 where
  pub even : clock % 2 ≡ 0
  pub low : clock < 2 ^ 63

-- a slot that a message's carried node may have at a peer: an own node is one that was made there
abbrev pub IsSlot : ℕ → ℕ → NodeRef → Slot → Type 0
IsSlot me made node slot.Unattached = ⊥
IsSlot me made node slot.Attached = node.owner ≢ me
IsSlot me made node slot.Own = (node.owner ≡ me) × (node.serial < made)
IsSlot me made node slot.Void = Unit {0}

-- one such slot for each carried node
abbrev pub AreSlots : ℕ → ℕ → List NodeRef → List Slot → Type 0
AreSlots me made [] [] = Unit {0}
AreSlots me made [] (s ∷ slots) = ⊥
AreSlots me made (node ∷ nodes) [] = ⊥
AreSlots me made (node ∷ nodes) (s ∷ slots) = IsSlot me made node s × AreSlots me made nodes slots

-- the slots are those of the staged message, where it is there
abbrev pub SlotsFit : PeerPart → Option (Key × Entry) → List Slot → Type 0
SlotsFit x None slots = Unit {0}
SlotsFit x (Some f) slots = AreSlots x.me (length x.nodes) (carried f.1) slots

-- the key of a staged message once it is committed is new, where the message is there
abbrev pub CommitsAnew : PeerPart → Option (Key × Entry) → Key → Type 0
CommitsAnew x None key = Unit {0}
CommitsAnew x (Some f) key = NewKey key x.queue

-- so many keys under an odd stamp behind the clock are new
abbrev pub StagesAnew : PeerPart → ℕ → ℕ → Type 0
StagesAnew x origin count = (index : ℕ) → index < count → NewKey (record { stamp = x.clock + 1; origin = origin; index = index }) x.queue

-- the keys of the notices that a visit stages are new
abbrev pub VisitsAnew : PeerPart → ℕ → List ℕ → Type 0
VisitsAnew x origin doomed = (index serial : ℕ) → slice_get doomed index ≡ Some serial → needs_notice x (record { owner = origin; serial = serial }) ≡ true → NewKey (record { stamp = x.clock + 1; origin = origin; index = index }) x.queue

-- a release notice that a drop makes due has a new key
abbrev pub ReleasesAnew : PeerPart → ℕ → ℕ → ℕ → ℕ → Type 0
ReleasesAnew x serial holder k clock = is_released (dropped_refs x serial holder k clock) serial ≡ true → NewKey (record { stamp = max x.clock clock; origin = no_origin; index = serial }) x.queue

-- nothing is held 2^62 times
abbrev pub HeldFew : PeerPart → Type 0
HeldFew x = (h : HandleRecord) → Has x.handles h → h.held < 2 ^ 62

-- each serial is that of a dying node that was made
abbrev pub AreDying : PeerPart → List ℕ → Type 0
AreDying x serials = All (λ serial. (serial < length x.nodes) × (is_dying (node_at x serial).state ≡ true)) serials
