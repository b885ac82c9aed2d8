-- What of a command changes no peer's number and adds no call: giving up, delivering, receiving, destroying.
use Rattle.std.specs.Prelude.{◌≡◌, refl, ℕ, ◌+◌, Bool, true, false, if◌then◌else◌, List, [], ◌∷◌, ◌++◌, map, fold, zip, Option, Some, None, is_some}
use Rattle.std.proofs.Common.{◌∙◌}
use Rattle.b1_model.specs.declared.naming.Key.{Key}
use Rattle.b1_model.specs.declared.naming.NodeRef.{NodeRef}
use Rattle.b1_model.specs.declared.parts.Slot.{Slot}
use Rattle.b1_model.specs.declared.parts.Slot.TheVariants as slot
use Rattle.b1_model.specs.declared.entries.Entry.{Entry}
use Rattle.b1_model.specs.declared.entries.Entry.TheVariants as entry
use Rattle.b1_model.specs.declared.answers.Reason.{Reason}
use Rattle.b1_model.specs.MachineTables.{foreign}
use Rattle.b1_serial_bus.specs.Parts.{Part, Bus, at_peer}
use Rattle.b1_serial_bus.specs.Named.{line_of}
use Rattle.b1_serial_bus.specs.References.{refers, is_abroad, raised, new_line, with_reference}
use Rattle.b1_serial_bus.specs.GivenUp.{noticed, told, given_up}
use Rattle.b1_serial_bus.specs.Letters.{Letter}
use Rattle.b1_serial_bus.specs.Delivery.{with_message, without_notice, delivered, delivered_from}
use Rattle.b1_serial_bus.specs.Arrival.{Arriving, arrives, taken_entry}
use Rattle.b1_serial_bus.specs.Notices.{node_of, with_notice, with_notices}
use Rattle.b1_serial_bus.specs.Doom.{with_doomed, with_all_doomed, destroyed}
use Rattle.b1_serial_bus.proofs.Shapes.{shape, shapes, quiet_at, quiet_all, quiet_fold}

-- ---- giving up

noticed_quiet : (due : Bool) (serial : ℕ) (y : Part) → shape (noticed due serial y) ≡ shape y
noticed_quiet false serial y = refl
noticed_quiet true serial y = refl

pub given_up_quiet : (clock : ℕ) (bus : Bus) (x : NodeRef) → shapes (given_up clock bus x) ≡ shapes bus
given_up_quiet clock bus x = quiet_at x.owner (told clock (is_abroad x bus) x.serial) bus (λ y. noticed_quiet _ x.serial _)

-- ---- delivering

delivered_quiet : (s : Letter) (stamp place : ℕ) (x : NodeRef) (bus : Bus) → shapes (delivered s stamp place x bus) ≡ shapes bus
delivered_quiet s stamp place x bus =
    quiet_fold without_notice (foreign x.owner s.with) (at_peer x.owner (with_message bus s stamp place x) bus) (λ b y. quiet_at y.owner _ b (λ z. refl))
    ∙ quiet_at x.owner (with_message bus s stamp place x) bus (λ y. refl)

pub delivered_from_quiet : (s : Letter) (stamp place : ℕ) (places : List (NodeRef × Option Reason)) (bus : Bus) → shapes (delivered_from s stamp place places bus) ≡ shapes bus
delivered_from_quiet s stamp place [] bus = refl
delivered_from_quiet s stamp place ((x, Some r) ∷ rest) bus = delivered_from_quiet s stamp (place + 1) rest bus
delivered_from_quiet s stamp place ((x, None) ∷ rest) bus = delivered_from_quiet s stamp (place + 1) rest (delivered s stamp place x bus) ∙ delivered_quiet s stamp place x bus

-- ---- receiving

pub reference_quiet : (x : NodeRef) (y : Part) → shape (with_reference x y) ≡ shape y
reference_quiet x y = by (is_some (line_of x y.lines))
  where
    by : (b : Bool) → shape (if b then record y { lines = map (raised x) y.lines } else record y { lines = y.lines ++ new_line y.given x ∷ []; given = y.given + 1 }) ≡ shape y
    by false = refl
    by true = refl

arrives_quiet : (a : Arriving) (x : NodeRef × Slot) → shape (arrives a x).part ≡ shape a.part
arrives_quiet a (x, slot.Unattached) = refl
arrives_quiet a (x, slot.Void) = refl
arrives_quiet a (x, slot.Own) = refl
arrives_quiet a (x, slot.Attached) = reference_quiet x a.part

arrived_quiet : (slots : List (NodeRef × Slot)) (a : Arriving) → shape (fold arrives a slots).part ≡ shape a.part
arrived_quiet [] a = refl
arrived_quiet (x ∷ rest) a = arrived_quiet rest (arrives a x) ∙ arrives_quiet a x

pub taken_quiet : (k : Key) (e : Entry) (y : Part) → shape (taken_entry k e y).1 ≡ shape y
taken_quiet k (entry.Message origin user index serial offset len nodes slots handles payload) y = arrived_quiet (zip nodes slots) _
taken_quiet k (entry.OwnNotice serial index) y = refl
taken_quiet k (entry.ForeignNotice node index) y = refl
taken_quiet k (entry.ReleaseNotice serial) y = refl

-- ---- destroying

notices_quiet : (stamp p index : ℕ) (doomed : List ℕ) (y : Part) → shape (with_notices stamp p index doomed y) ≡ shape y
notices_quiet stamp p index [] y = refl
notices_quiet stamp p index (serial ∷ rest) y = notices_quiet stamp p (index + 1) rest _ ∙ by (refers (node_of p serial) y)
  where
    by : (b : Bool) → shape (if b then with_notice stamp p index serial y else y) ≡ shape y
    by false = refl
    by true = refl

doomed_quiet : (stamp index : ℕ) (doomed : List ℕ) (x : Part) → shape (with_all_doomed stamp index doomed x) ≡ shape x
doomed_quiet stamp index [] x = refl
doomed_quiet stamp index (serial ∷ rest) x = doomed_quiet stamp (index + 1) rest (with_doomed stamp index serial x)

pub destroyed_quiet : (stamp : ℕ) (x : Part) (doomed : List ℕ) (bus : Bus) → shapes (destroyed stamp x doomed bus) ≡ shapes bus
destroyed_quiet stamp x doomed bus =
    quiet_at x.me (with_all_doomed stamp 0 doomed) (map (with_notices stamp x.me 0 doomed) bus) (λ y. doomed_quiet stamp 0 doomed y)
    ∙ quiet_all (with_notices stamp x.me 0 doomed) bus (λ y. notices_quiet stamp x.me 0 doomed y)
