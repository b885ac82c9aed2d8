-- A pass of the drain empties the box of each peer that hasn't disconnected, so a second one finds nothing.
use Rattle.std.specs.Prelude.{◌≡◌, refl, ℕ, zero, suc, ◌+◌, ◌≤◌, Bool, true, false, ◌&&◌, not, if◌then◌else◌, List, [], ◌∷◌, ◌++◌, length, map, fold, zip, is_some}
use Rattle.std.specs.List.{list_any}
use Rattle.std.proofs.Common.{arith, sym, ap, ◌∙◌}
use Rattle.b1_model.specs.declared.naming.Key.{Key}
use Rattle.b1_model.specs.declared.naming.NodeRef.{NodeRef}
use Rattle.b1_model.specs.declared.parts.Slot.{Slot}
use Rattle.b1_model.specs.declared.parts.Slot.TheVariants as slot
use Rattle.b1_model.specs.declared.entries.Entry.{Entry}
use Rattle.b1_model.specs.declared.entries.Entry.TheVariants as entry
use Rattle.b1_serial_bus.specs.Parts.{Part, Bus}
use Rattle.b1_serial_bus.specs.Named.{line_of}
use Rattle.b1_serial_bus.specs.References.{raised, new_line, with_reference}
use Rattle.b1_serial_bus.specs.Arrival.{Arriving, arrives, taken_entry}
use Rattle.b1_serial_bus.specs.Receive.{is_for_nobody, without_discards, is_empty, cleared, received_from, received, waits}
use Rattle.b1_serial_bus.specs.Drain.{received_times, is_full, pass}
use Rattle.b1_serial_bus.proofs.Settled.{waits_empty}

-- whether a peer has disconnected, and its box
abbrev kept : Part → Bool × List (Key × Entry)
kept x = (x.shut, x.box)

-- ---- what arrives leaves both

reference_keeps : (x : NodeRef) (y : Part) → kept (with_reference x y) ≡ kept y
reference_keeps x y = by (is_some (line_of x y.lines))
  where
    by : (b : Bool) → kept (if b then record y { lines = map (raised x) y.lines } else record y { lines = y.lines ++ new_line y.given x ∷ []; given = y.given + 1 }) ≡ kept y
    by false = refl
    by true = refl

arrives_keeps : (a : Arriving) (x : NodeRef × Slot) → kept (arrives a x).part ≡ kept a.part
arrives_keeps a (x, slot.Unattached) = refl
arrives_keeps a (x, slot.Void) = refl
arrives_keeps a (x, slot.Own) = refl
arrives_keeps a (x, slot.Attached) = reference_keeps x a.part

arrived_keeps : (slots : List (NodeRef × Slot)) (a : Arriving) → kept (fold arrives a slots).part ≡ kept a.part
arrived_keeps [] a = refl
arrived_keeps (x ∷ rest) a = arrived_keeps rest (arrives a x) ∙ arrives_keeps a x

taken_keeps : (k : Key) (e : Entry) (y : Part) → kept (taken_entry k e y).1 ≡ kept y
taken_keeps k (entry.Message origin user index serial offset len nodes slots handles payload) y = arrived_keeps (zip nodes slots) _
taken_keeps k (entry.OwnNotice serial index) y = refl
taken_keeps k (entry.ForeignNotice node index) y = refl
taken_keeps k (entry.ReleaseNotice serial) y = refl

-- ---- an attempt takes something of a box

discards_shorten : (y : Part) (box : List (Key × Entry)) → length (without_discards y box) ≤ length box
discards_shorten y [] = omega arith
discards_shorten y (f ∷ rest) = by (discards_shorten y rest) (is_for_nobody y f.1)
  where
    by : length (without_discards y rest) ≤ length rest → (b : Bool) → length (if b then without_discards y rest else f ∷ rest) ≤ length (f ∷ rest)
    by further true = omega (arith, further)
    by further false = omega arith

-- a peer after an attempt
abbrev pub tried : Part → Part
tried x = if waits x then cleared x else received x

-- a receive from a box that isn't empty takes its first entry
taken_shortens : (box : List (Key × Entry)) (y : Part) → is_empty box ≡ false → ((received_from box y).shut ≡ y.shut) × (suc (length (received_from box y).box) ≡ length box)
taken_shortens [] y e = cc
taken_shortens (f ∷ rest) y e =
    let same = taken_keeps f.0 f.1 (record y { box = rest }) in
    (ap (λ k. k.0) same, ap (λ k. suc (length k.1)) same)

-- where the peer hasn't disconnected, an attempt leaves less in its box, or nothing
pub tried_shortens : (n : ℕ) (x : Part) → x.shut ≡ false → length x.box ≤ suc n → ((tried x).shut ≡ false) × (length (tried x).box ≤ n)
tried_shortens n x connected few = by (waits x) refl
  where
    fewer : length (cleared x).box ≤ length x.box
    fewer = discards_shorten x x.box

    by : (b : Bool) → waits x ≡ b → ((if b then cleared x else received x).shut ≡ false) × (length (if b then cleared x else received x).box ≤ n)
    by true w = (connected, let none = ap length (waits_empty x w) in omega (arith, none))
    by false w =
        let full : is_empty (cleared x).box ≡ false = sym (rw connected refl) ∙ w in
        let one = taken_shortens (cleared x).box (cleared x) full in
        let less = one.1 in
        (one.0 ∙ connected, omega (arith, less, fewer, few))

nothing_left : (box : List (Key × Entry)) → length box ≤ 0 → box ≡ []
nothing_left [] few = refl
nothing_left (f ∷ rest) few = absurd (omega (arith, few))

-- as many attempts as there are entries empty the box
times_empty : (n : ℕ) (x : Part) → x.shut ≡ false → length x.box ≤ n → (received_times n x).box ≡ []
times_empty zero x connected few = nothing_left x.box few
times_empty (suc n) x connected few = let less = tried_shortens n x connected few in times_empty n (tried x) less.0 less.1

-- ---- a pass

-- a peer after a pass
abbrev pub passed : Part → Part
passed x = if is_full x then received_times (length x.box) x else x

empty_is : (shut : Bool) (box : List (Key × Entry)) → box ≡ [] → (not shut && not (is_empty box)) ≡ false
empty_is false box e = rw e refl
empty_is true box e = refl

open_is : (shut : Bool) (b : Bool) → (not shut && b) ≡ true → shut ≡ false
open_is false b e = refl
open_is true b e = cc

passed_empty : (x : Part) → is_full (passed x) ≡ false
passed_empty x = by (is_full x) refl
  where
    by : (b : Bool) → is_full x ≡ b → is_full (if b then received_times (length x.box) x else x) ≡ false
    by false e = e
    by true e = empty_is _ _ (times_empty (length x.box) x (open_is x.shut (not (is_empty x.box)) e) (omega arith))

none_full : (bus : Bus) → list_any is_full (map passed bus) ≡ false
none_full [] = refl
none_full (x ∷ xs) = rw (passed_empty x) (none_full xs)

-- a second pass gains nothing
pub second_pass : (bus : Bus) → (pass (pass bus).bus).gained ≡ false
second_pass bus = none_full bus
