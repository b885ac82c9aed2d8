-- What receiving, giving up and dropping do at one peer: recv, reap, release, drop, and the local commands.
use Rattle.std.specs.Prelude.{ℕ, ◌+◌, ◌==◌, max, Bool, true, false, ◌&&◌, not, if◌then◌else◌, List, [], ◌∷◌, ◌++◌, drop, take_while, Option, Some, None, Ok, Err, Result, fold, filter_map, zip, length, unwrap_or}
use Rattle.b1_model.specs.declared.naming.Key.{Key}
use Rattle.b1_model.specs.declared.naming.Limits.{Limits}
use Rattle.b1_model.specs.declared.naming.NodeRef.{NodeRef}
use Rattle.b1_model.specs.declared.parts.Slot.{Slot}
use Rattle.b1_model.specs.declared.parts.Slot.TheVariants as slot
use Rattle.b1_model.specs.declared.parts.Received.{Received}
use Rattle.b1_model.specs.declared.parts.Dead.{Dead}
use Rattle.b1_model.specs.declared.parts.Owed.{Owed}
use Rattle.b1_model.specs.declared.entries.Entry.{Entry}
use Rattle.b1_model.specs.declared.entries.Entry.TheVariants.{Message, OwnNotice, ForeignNotice, ReleaseNotice}
use Rattle.b1_model.specs.declared.answers.Front.{Front}
use Rattle.b1_model.specs.declared.answers.Front.TheVariants.{Absent, Staged}
use Rattle.b1_model.specs.declared.answers.Receipt.{Receipt}
use Rattle.b1_model.specs.declared.answers.Receipt.TheVariants as receipt
use Rattle.b1_model.specs.declared.answers.Reason.{Reason}
use Rattle.b1_model.specs.declared.answers.Reason.TheVariants as reason
use Rattle.b1_model.specs.Names.{invalid, is_given}
use Rattle.b1_model.specs.MachineParts.{PeerPart, no_origin, is_staged, is_live, node_at, record_or_none, carried, slots_of}
use Rattle.b1_model.specs.MachinePool.{given_back, published, is_received}
use Rattle.b1_model.specs.MachineTables.{put, changed, less_flight, more_held, less_held, made_dead, unexpected, foreign, next_number, held_node, with_node, uncounted, notice_taken, is_unheld}

-- ---- recv: what is for nobody

-- a data entry for an own node whose destroy notice was taken, or the destroy notice of a foreign node that isn't held
abbrev pub is_for_nobody : PeerPart → Entry → Bool
is_for_nobody x (Message origin user index serial offset len nodes slots handles payload) = (node_at x serial).taken
is_for_nobody x (OwnNotice serial index) = false
is_for_nobody x (ForeignNotice node index) = (record_or_none node x.handles).held == 0
is_for_nobody x (ReleaseNotice serial) = false

-- the committed entries for nobody at the front
abbrev pub discards : PeerPart → List (Key × Entry)
discards x = take_while (λ f. not (is_staged f) && is_for_nobody x f.1) x.queue

-- a reference that a slot has, with the amount 1
abbrev pub reference_of : NodeRef × Slot → Option (NodeRef × ℕ)
reference_of (node, slot.Unattached) = None
reference_of (node, slot.Attached) = Some (node, 1)
reference_of (node, slot.Own) = None
reference_of (node, slot.Void) = None

-- the references of an entry, in the order of its slots
abbrev pub references : Entry → List (NodeRef × ℕ)
references e = filter_map reference_of (zip (carried e) (slots_of e))

-- references become an item of the dead list; none make no item
abbrev pub with_item : List (NodeRef × ℕ) → List (List (NodeRef × ℕ)) → List (List (NodeRef × ℕ))
with_item [] dead = dead
with_item (r ∷ rest) dead = dead ++ (r ∷ rest) ∷ []

-- a removed data entry gives back its slice and goes on the dead list; a removed destroy notice marks its node dead
abbrev pub discarded : PeerPart → Entry → PeerPart
discarded x (Message origin user index serial offset len nodes slots handles payload) =
    record x { slices = given_back offset x.slices; handles = unexpected (foreign x.me nodes) x.handles; dead = with_item (references (Message origin user index serial offset len nodes slots handles payload)) x.dead }
discarded x (OwnNotice serial index) = x
discarded x (ForeignNotice node index) = record x { handles = changed node made_dead x.handles }
discarded x (ReleaseNotice serial) = x

-- the part after the removals
abbrev pub cleared : PeerPart → PeerPart
cleared x = fold (λ y f. discarded y f.1) (record x { queue = drop (length (discards x)) x.queue }) (discards x)

-- ---- recv: what is taken

-- a peer's part while the slots of a taken message arrive: the part so far, the handles' numbers, the references for the dead list
pub record Arriving : Type 0 where
  pub part : PeerPart
  pub numbers : List ℕ
  pub refs : List (NodeRef × ℕ)

-- a carried foreign node that arrives as a reference: at a dead record it is given up at once, else the node is held once more
abbrev pub reference_by : Bool → Arriving → NodeRef → Arriving
reference_by true a node = record { part = record a.part { handles = changed node less_flight a.part.handles }; numbers = a.numbers ++ invalid ∷ []; refs = a.refs ++ (node, 1) ∷ [] }
reference_by false a node =
    let h = record_or_none node a.part.handles in
    record {
      part = record a.part { handles = changed node (λ g. more_held (next_number a.part.given) (less_flight g)) a.part.handles; given = if h.held == 0 then a.part.given + 1 else a.part.given };
      numbers = a.numbers ++ unwrap_or h.number (next_number a.part.given) ∷ [];
      refs = a.refs;
    }

-- the same, by its own record
abbrev pub reference_arrives : Arriving → NodeRef → Arriving
reference_arrives a node = reference_by (record_or_none node a.part.handles).dead a node

-- one slot arrives
abbrev pub slot_arrives : Arriving → NodeRef × Slot → Arriving
slot_arrives a (node, slot.Unattached) = record a { part = record a.part { handles = unexpected (foreign a.part.me (node ∷ [])) a.part.handles }; numbers = a.numbers ++ invalid ∷ [] }
slot_arrives a (node, slot.Void) = record a { part = record a.part { handles = unexpected (foreign a.part.me (node ∷ [])) a.part.handles }; numbers = a.numbers ++ invalid ∷ [] }
slot_arrives a (node, slot.Own) = record a { numbers = a.numbers ++ (if (node_at a.part node.serial).taken then invalid else (node_at a.part node.serial).number) ∷ [] }
slot_arrives a (node, slot.Attached) = reference_arrives a node

-- the slots of a message, from the first on
abbrev pub slots_arrived : PeerPart → List NodeRef → List Slot → Arriving
slots_arrived x nodes slots = fold slot_arrives (record { part = x; numbers = []; refs = [] }) (zip nodes slots)

-- what an entry is to its receiver, and the part without it
abbrev pub taken_entry : PeerPart → Key → Entry → Receipt × PeerPart
taken_entry x k (Message origin user index serial offset len nodes slots handles payload) =
    let a = slots_arrived (record x { slices = published offset x.slices }) nodes slots in
    (receipt.Message k (node_at x serial).number offset a.numbers payload, record a.part { dead = with_item a.refs a.part.dead })
taken_entry x k (OwnNotice serial index) = (receipt.Destroyed k (node_at x serial).number, record x { nodes = with_node serial notice_taken x.nodes })
taken_entry x k (ForeignNotice node index) = (receipt.Destroyed k (unwrap_or (record_or_none node x.handles).number invalid), record x { handles = changed node made_dead x.handles })
taken_entry x k (ReleaseNotice serial) = (receipt.Released k.stamp (node_at x serial).number, x)

-- what stands at the front, and the part after it was taken, where it is committed
abbrev pub front_by : Bool → PeerPart → Key × Entry → List (Key × Entry) → Result Receipt Front × PeerPart
front_by true x f rest = (Err (Staged f.0.origin f.0.stamp), x)
front_by false x f rest = (Ok (taken_entry (record x { queue = rest }) f.0 f.1).0, (taken_entry (record x { queue = rest }) f.0 f.1).1)

-- the front of a queue, if there is one
abbrev pub front_taken : PeerPart → List (Key × Entry) → Result Receipt Front × PeerPart
front_taken x [] = (Err Absent, x)
front_taken x (f ∷ rest) = front_by (is_staged f) x f rest

-- what RECV answers: the front after the removals, and how many entries were removed
abbrev pub received : PeerPart → Received
received x = record { front = (front_taken (cleared x) (cleared x).queue).0; removed = length (discards x) }

-- the part that RECV leaves
abbrev pub received_part : PeerPart → PeerPart
received_part x = (front_taken (cleared x) (cleared x).queue).1

-- ---- reap

-- whether references are to be given up
abbrev pub has_dead : PeerPart → Bool
has_dead x = elim x.dead [ [] ↦ false | item ∷ rest ↦ true ]

-- the next item of the dead list, with the clock
abbrev pub reaped : PeerPart → Option Dead
reaped x = elim x.dead [ [] ↦ None | item ∷ rest ↦ Some (record { drops = item; clock = x.clock }) ]

-- the part without that item
abbrev pub reaped_part : PeerPart → PeerPart
reaped_part x = record x { dead = drop 1 x.dead }

-- ---- release

-- the reference to be dropped; or the number is no given one by its form, or it isn't held
abbrev pub released_by : Bool → Option NodeRef → PeerPart → ℕ → Result Owed Reason
released_by false held x number = Err reason.Invalid
released_by true None x number = Err (reason.Unknown number)
released_by true (Some node) x number = Ok (record { node = node; clock = x.clock })

-- the same, by the number's form and the held records
abbrev pub released : PeerPart → ℕ → Result Owed Reason
released x number = released_by (is_given number) (held_node number x.handles) x number

-- the node is held once less; a refused release changes nothing
abbrev pub given_up : Bool → Option NodeRef → PeerPart → PeerPart
given_up false held x = x
given_up true None x = x
given_up true (Some node) x = record x { handles = changed node less_held x.handles }

-- the same, by the number's form and the held records
abbrev pub released_part : PeerPart → ℕ → PeerPart
released_part x number = given_up (is_given number) (held_node number x.handles) x

-- ---- drop

-- the owner takes k references of a holder back, and its clock rises to the drop's
abbrev pub dropped_refs : PeerPart → ℕ → ℕ → ℕ → ℕ → PeerPart
dropped_refs x serial holder k clock = record x { nodes = with_node serial (uncounted holder k) x.nodes; clock = max x.clock clock }

-- a node's release notice is queued with the clock
abbrev pub with_release_notice : Bool → PeerPart → ℕ → PeerPart
with_release_notice false x serial = x
with_release_notice true x serial = record x { queue = put (record { stamp = x.clock; origin = no_origin; index = serial }) (ReleaseNotice serial) x.queue }

-- the node is live and nobody has a reference
abbrev pub is_released : PeerPart → ℕ → Bool
is_released x serial = is_live (node_at x serial).state && is_unheld (node_at x serial)

-- a drop: the references go, the clock rises, and then the notice may be due
abbrev pub dropped : PeerPart → ℕ → ℕ → ℕ → ℕ → PeerPart
dropped x serial holder k clock = with_release_notice (is_released (dropped_refs x serial holder k clock) serial) (dropped_refs x serial holder k clock) serial

-- ---- local

-- a received slice is given back
abbrev pub slice_given_back : Bool → PeerPart → ℕ → PeerPart
slice_given_back false x offset = x
slice_given_back true x offset = record x { slices = given_back offset x.slices }

-- the same, where a received slice begins at the offset
abbrev pub slice_released : PeerPart → ℕ → PeerPart
slice_released x offset = slice_given_back (is_received offset x.slices) x offset

-- new limits, and nothing else
abbrev pub limited : PeerPart → Limits → PeerPart
limited x limits = record x { limits = limits }
