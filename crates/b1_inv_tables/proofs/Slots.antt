-- One slot of a message arrives: the table and the records change alike, and its number is that of the record's contents.
use Rattle.std.proofs.Common.{◌≡◌, ◌≢◌, refl, sym, ap, subst, ◌∙◌, ℕ, ◌≤◌, ◌==◌, Bool, true, false, cond, not, List, [], ◌∷◌, ◌++◌, get_or, Option, Some, None}
use Rattle.std.specs.Prelude.{unwrap_or}
use Rattle.std.proofs.lemmas.Bool.{ne_eqb, eq-eqb}
use native.Mathlib.Omega.{arith}
use Rattle.b1_model.specs.declared.naming.NodeRef.{NodeRef}
use Rattle.b1_model.specs.declared.parts.Slot.{Slot}
use Rattle.b1_model.specs.declared.parts.Slot.TheVariants as slot
use Rattle.b1_model.specs.Names.{invalid, is_given, Node, Name, number_at}
use Rattle.b1_model.specs.Ledger.{Table, line_number, gained, given_number, received}
use Rattle.b1_model.specs.Legal.{arrives, handle_number}
use Rattle.b1_model.specs.MachineParts.{NodePart, HandleRecord, same_ref, record_of, record_or_none, no_node}
use Rattle.b1_model.specs.MachineTables.{is_needed, changed, less_flight, more_held, next_number, foreign, unexpected}
use Rattle.b1_model.specs.MachineReceive.{Arriving, reference_by, slot_arrives}
use Rattle.b1_step.specs.Ordered.{Rising}
use Rattle.b1_step.proofs.Orders.{same_ref_is}
use Rattle.b1_step.proofs.Lookups.{kept_by, own_changed, other_changed}
use Rattle.b1_step.proofs.Records.{kept_unexpected}
use Rattle.b1_inv.specs.Sends.{IsFilled}
use Rattle.b1_inv.specs.Numbers.{AreNumbered}
use Rattle.b1_inv_record.specs.Epochs.{ref_of}
use Rattle.b1_inv_refs.proofs.Views.{Handles, or_none}
use Rattle.b1_inv_refs.proofs.Arrivals.{flight_in}
use Rattle.b1_inv_refs.proofs.Numbered.{given_then, numbers_same, numbers_come}
use Rattle.b1_inv_tables.proofs.Agrees.{IsTable, LinesKept, lines_of_kept, kept_table, same_kept}
use Rattle.b1_inv_tables.proofs.References.{come_table, number_of_slot}

-- ---- a record in flight

-- a node in flight has a record
pub in_flight : (node : NodeRef) (hs : Handles) → 1 ≤ flight_in node hs → (h : HandleRecord) × (record_of node hs ≡ Some h)
in_flight node hs flies = by (record_of node hs) refl flies
  where
    by : (z : Option HandleRecord) → record_of node hs ≡ z → 1 ≤ (or_none node z).flight → (h : HandleRecord) × (record_of node hs ≡ Some h)
    by None at none = absurd (omega (arith, none))
    by (Some h) at some = (h, at)

-- a change that leaves whether a record is dead leaves it under every node in flight
dead_changed : (node other : NodeRef) (f : HandleRecord → HandleRecord) → ((h : HandleRecord) → (f h).node ≡ h.node) → ((h : HandleRecord) → (f h).dead ≡ h.dead) → (hs : Handles) → Rising hs → 1 ≤ flight_in other (changed node f hs)
    → (record_or_none other (changed node f hs)).dead ≡ (record_or_none other hs).dead
dead_changed node other f keeps same hs up flies = by (same_ref node other) refl
  where
    own : (z : Option HandleRecord) → 1 ≤ (or_none other (kept_by f z)).flight → (or_none other (kept_by f z)).dead ≡ (or_none other z).dead
    own None none = absurd (omega (arith, none))
    own (Some h) some = need (is_needed (f h)) some
      where
        need : (b : Bool) → 1 ≤ (or_none other (cond b (Some (f h)) None)).flight → (or_none other (cond b (Some (f h)) None)).dead ≡ h.dead
        need true there = same h
        need false none = absurd (omega (arith, none))

    by : (b : Bool) → same_ref node other ≡ b → (record_or_none other (changed node f hs)).dead ≡ (record_or_none other hs).dead
    by false apart = ap (λ r. (or_none other r).dead) (other_changed node f keeps other apart hs)
    by true is =
        let found : record_of other (changed node f hs) ≡ kept_by f (record_of other hs) = subst (λ n. record_of n (changed node f hs) ≡ kept_by f (record_of n hs)) (same_ref_is node other is) (own_changed node f keeps hs up) in
        ap (λ r. (or_none other r).dead) found ∙ own (record_of other hs) (subst (λ r. 1 ≤ (or_none other r).flight) found flies)

-- whether a record in flight is dead stays where one slot fewer carries a node
dead_unexpected : (me : ℕ) (node other : NodeRef) (hs : Handles) → Rising hs → 1 ≤ flight_in other (unexpected (foreign me (node ∷ [])) hs) → (record_or_none other (unexpected (foreign me (node ∷ [])) hs)).dead ≡ (record_or_none other hs).dead
dead_unexpected me node other hs up = by (not (node.owner == me))
  where
    by : (b : Bool) → 1 ≤ flight_in other (unexpected (cond b (node ∷ []) []) hs) → (record_or_none other (unexpected (cond b (node ∷ []) []) hs)).dead ≡ (record_or_none other hs).dead
    by true flies = dead_changed node other less_flight (λ h. refl) (λ h. refl) hs up flies
    by false flies = refl

-- whether a record in flight is dead stays where a slot arrives
pub slot_dead : (a : Arriving) (node other : NodeRef) (s : Slot) → Rising a.part.handles → 1 ≤ flight_in other (slot_arrives a (node, s)).part.handles → (record_or_none other (slot_arrives a (node, s)).part.handles).dead ≡ (record_or_none other a.part.handles).dead
slot_dead a node other slot.Unattached up flies = dead_unexpected a.part.me node other a.part.handles up flies
slot_dead a node other slot.Void up flies = dead_unexpected a.part.me node other a.part.handles up flies
slot_dead a node other slot.Own up flies = refl
slot_dead a node other slot.Attached up flies = by (record_or_none node a.part.handles).dead flies
  where
    by : (b : Bool) → 1 ≤ flight_in other (reference_by b a node).part.handles → (record_or_none other (reference_by b a node).part.handles).dead ≡ (record_or_none other a.part.handles).dead
    by true there = dead_changed node other less_flight (λ h. refl) (λ h. refl) a.part.handles up there
    by false there = dead_changed node other (λ g. more_held (next_number a.part.given) (less_flight g)) (λ h. refl) (λ h. refl) a.part.handles up there

-- ---- numbers stay apart

-- numbers stay apart where one slot fewer carries a node
numbers_less_flight : (count : ℕ) (node : NodeRef) (hs : Handles) → AreNumbered count hs → AreNumbered count (changed node less_flight hs)
numbers_less_flight count node hs all = numbers_same count node less_flight (λ h. refl) (λ h. refl) (λ h. refl) hs all

-- and where fewer slots carry nodes
numbers_unexpected : (count : ℕ) (nodes : List NodeRef) (hs : Handles) → AreNumbered count hs → AreNumbered count (unexpected nodes hs)
numbers_unexpected count [] hs all = all
numbers_unexpected count (node ∷ rest) hs all = numbers_unexpected count rest (changed node less_flight hs) (numbers_less_flight count node hs all)

-- numbers stay apart where a slot arrives
pub slot_numbered : (a : Arriving) (node : NodeRef) (s : Slot) → AreNumbered a.part.given a.part.handles → AreNumbered (slot_arrives a (node, s)).part.given (slot_arrives a (node, s)).part.handles
slot_numbered a node slot.Unattached all = numbers_unexpected a.part.given (foreign a.part.me (node ∷ [])) a.part.handles all
slot_numbered a node slot.Void all = numbers_unexpected a.part.given (foreign a.part.me (node ∷ [])) a.part.handles all
slot_numbered a node slot.Own all = all
slot_numbered a node slot.Attached all = by (record_or_none node a.part.handles).dead
  where
    by : (b : Bool) → AreNumbered (reference_by b a node).part.given (reference_by b a node).part.handles
    by true = numbers_less_flight a.part.given node a.part.handles all
    by false = numbers_come a.part.given less_flight (λ h. refl) (λ h. refl) (λ h. refl) node a.part.handles all

-- ---- one slot

-- how the record judges a slot of a node: a void one is late, an own one is late where its notice was taken, and has the node's number, and a reference is late where the holder's record is dead
abbrev pub IsJudged : (Node → Bool) → List Name → (NodeRef → Bool) → List NodePart → Slot → Node → Type 0
IsJudged late known dead nodes slot.Unattached x = ⊥
IsJudged late known dead nodes slot.Void x = late x ≡ true
IsJudged late known dead nodes slot.Own x = (late x ≡ (get_or nodes x.serial no_node).taken) × (late x ≡ false → number_at known x.serial ≡ Some (get_or nodes x.serial no_node).number)
IsJudged late known dead nodes slot.Attached x = late x ≡ dead (ref_of x)

-- own numbers are no given ones
abbrev pub OwnNumbers : List NodePart → Type 0
OwnNumbers nodes = (serial : ℕ) → is_given (get_or nodes serial no_node).number ≡ false

-- what a slot's arrival makes: one number more, the table after it, and the number that the record's contents have
pub record SlotComes (q : ℕ) (late : Node → Bool) (known : List Name) (dead : NodeRef → Bool) (a b : Arriving) (t : Table) (s : Slot) (x : Node) : Type 0 where
  pub number : ℕ
  pub added : b.numbers ≡ a.numbers ++ number ∷ []
  pub table : IsTable (received number (Some x) t) b.part.given b.part.handles
  pub judged : IsJudged late known dead a.part.nodes s x → (x.owner ≢ q → (record_or_none (ref_of x) a.part.handles).dead ≡ dead (ref_of x)) → number ≡ arrives late q known t (Some x)

module _ (q : ℕ) (late : Node → Bool) (known : List Name) (dead : NodeRef → Bool) (a : Arriving) (t : Table) (x : Node) (up : Rising a.part.handles) (all : AreNumbered a.part.given a.part.handles) (k : IsTable t a.part.given a.part.handles) where
  -- a late node arrives as nothing
  is_late : (b : Bool) → late x ≡ true → invalid ≡ cond (late x) invalid (handle_number q known t x)
  is_late b is = rw is refl

  -- nothing arrives
  nothing : (handles : Handles) → LinesKept a.part.handles handles → IsTable (received invalid (Some x) t) a.part.given handles
  nothing handles kept = kept_table t a.part.given a.part.handles handles all kept k

  -- a void slot
  slot_void : SlotComes q late known dead a (slot_arrives a (ref_of x, slot.Void)) t slot.Void x
  slot_void = record {
    number = invalid;
    added = refl;
    table = nothing (unexpected (foreign a.part.me (ref_of x ∷ [])) a.part.handles) (lines_of_kept a.part.handles _ (kept_unexpected (foreign a.part.me (ref_of x ∷ [])) a.part.handles));
    judged = λ is same. is_late true is;
  }

  module _ (own : OwnNumbers a.part.nodes) (mine : x.owner ≡ q) where
    -- the own node
    abbrev node : NodePart
    node = get_or a.part.nodes x.serial no_node

    -- its number is no given one
    own_number : (b : Bool) → is_given (cond b invalid node.number) ≡ false
    own_number true = refl
    own_number false = own x.serial

    -- the number by which the record hands it
    own_arrives : (b : Bool) → late x ≡ b → (late x ≡ false → number_at known x.serial ≡ Some node.number) → cond b invalid node.number ≡ arrives late q known t (Some x)
    own_arrives true is number = is_late true is
    own_arrives false is number = rw (is, eq-eqb x.owner q mine, number is) refl

    -- an own slot
    slot_own : SlotComes q late known dead a (slot_arrives a (ref_of x, slot.Own)) t slot.Own x
    slot_own = record {
      number = cond node.taken invalid node.number;
      added = refl;
      table = subst (λ u. IsTable u a.part.given a.part.handles) (sym (ap (λ b. cond b (gained (cond node.taken invalid node.number) (Some x) t) t) (own_number node.taken))) k;
      judged = λ is same. own_arrives node.taken is.0 is.1;
    }

  module _ (apart : x.owner ≢ q) (flies : 1 ≤ flight_in (ref_of x) a.part.handles) where
    -- the record of the node
    found : (h : HandleRecord) × (record_of (ref_of x) a.part.handles ≡ Some h)
    found = in_flight (ref_of x) a.part.handles flies

    -- it is what is found
    is_record : record_or_none (ref_of x) a.part.handles ≡ found.0
    is_record = ap (or_none (ref_of x)) found.1

    -- a reference to a node whose record is dead
    dead_reference : (record_or_none (ref_of x) a.part.handles).dead ≡ true → SlotComes q late known dead a (reference_by true a (ref_of x)) t slot.Attached x
    dead_reference is = record {
      number = invalid;
      added = refl;
      table = nothing (changed (ref_of x) less_flight a.part.handles) (same_kept (ref_of x) less_flight (λ h. refl) a.part.handles up (λ h. record { node = refl; number = refl; held = refl }));
      judged = λ judged same. is_late true (judged ∙ sym (same apart) ∙ is);
    }

    -- a reference to another node
    live_reference : (record_or_none (ref_of x) a.part.handles).dead ≡ false → SlotComes q late known dead a (reference_by false a (ref_of x)) t slot.Attached x
    live_reference is = record {
      number = unwrap_or (record_or_none (ref_of x) a.part.handles).number (next_number a.part.given);
      added = refl;
      table = subst (λ h. IsTable (received (unwrap_or h.number (next_number a.part.given)) (Some x) t) (given_then a.part.given h.held) (changed (ref_of x) (λ g. more_held (next_number a.part.given) (less_flight g)) a.part.handles)) (sym is_record)
          (come_table t a.part.given a.part.handles up all k x found.0 found.1);
      judged = λ judged same.
          ap (λ h. unwrap_or h.number (next_number a.part.given)) is_record ∙ sym (number_of_slot t a.part.given a.part.handles up all k x found.0 found.1)
          ∙ sym (arrives_number (judged ∙ sym (same apart) ∙ is));
    }
      where
        arrives_number : late x ≡ false → arrives late q known t (Some x) ≡ given_number t.given (line_number x t.lines)
        arrives_number on_time = rw (on_time, ne_eqb x.owner q apart) refl

    -- a reference
    slot_attached : SlotComes q late known dead a (slot_arrives a (ref_of x, slot.Attached)) t slot.Attached x
    slot_attached = by (record_or_none (ref_of x) a.part.handles).dead refl
      where
        by : (b : Bool) → (record_or_none (ref_of x) a.part.handles).dead ≡ b → SlotComes q late known dead a (reference_by b a (ref_of x)) t slot.Attached x
        by true is = dead_reference is
        by false is = live_reference is

  -- a slot arrives
  pub slot_comes : (s : Slot) → IsFilled (record { owner = q; serial = 0 }) (ref_of x) s → OwnNumbers a.part.nodes → (x.owner ≢ q → 1 ≤ flight_in (ref_of x) a.part.handles) → SlotComes q late known dead a (slot_arrives a (ref_of x, s)) t s x
  slot_comes slot.Unattached filled own flies = absurd filled
  slot_comes slot.Void filled own flies = slot_void
  slot_comes slot.Own filled own flies = slot_own own filled
  slot_comes slot.Attached filled own flies = slot_attached filled (flies filled)
