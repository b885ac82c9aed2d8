-- A SEND that has ended: the state is at rest, where it shows the bus that is wanted and the boxes of that are right.
use Rattle.std.proofs.Common.{◌≡◌, ◌⊎◌, refl, sym, ap, ap₂, ◌∙◌, subst, inl, inr, ℕ, zero, suc, ◌+◌, ◌==◌, false, cond, List, [], ◌∷◌, map, set, fold, Option, Some, None, option_map, is_some, arith}
use Rattle.std.specs.Prelude.{slice_get}
use Rattle.std.proofs.lemmas.Bool.{eq-eqb, ne_eqb, cases_eq}
use Rattle.std.proofs.lemmas.Option.{slice_get-map}
use Rattle.b1_model.specs.declared.naming.NodeRef.{NodeRef}
use Rattle.b1_model.specs.declared.naming.Opening.{Opening}
use Rattle.b1_model.specs.Opening.{IsOpening}
use Rattle.b1_model.specs.MachineParts.{PeerPart, DriverPart, State, is_release_notice}
use Rattle.b1_model.specs.MachineTables.{without, foreign}
use Rattle.b1_schedule.specs.Shortage.{Shortage}
use Rattle.b1_step.proofs.Lists.{read_same, read_other, set_cases}
use Rattle.b1_inv.specs.Words.{IsDriver}
use Rattle.b1_serial_bus.specs.Parts.{Part, Bus, at_peer}
use Rattle.b1_serial_bus.specs.Letters.{Letter}
use Rattle.b1_serial_bus.specs.Delivery.{with_message, without_notice, delivered, delivered_from}
use Rattle.b1_serial_rest.specs.Standing.{part_of, parts_of, bus_of}
use Rattle.b1_serial_rest.specs.Rest.{BoxesRight, IsQuiet}
use Rattle.b1_serial_whole.proofs.Determined.{rests_by}
use Rattle.b1_serial_send.proofs.Midway.{Answered, midway}
use Rattle.b1_serial_send.proofs.Parts.{lists_same}
use Rattle.b1_serial_send.proofs.Goes.{WillEnd}

-- ---- what a bus shows

abbrev paired : Option PeerPart → Option DriverPart → Option Part
paired r v = elim r [ None ↦ None | Some x ↦ elim v [ None ↦ None | Some w ↦ Some (part_of x w) ] ]

none_paired : (r : Option PeerPart) → paired r None ≡ None
none_paired None = refl
none_paired (Some x) = refl

parts_read : (xs : List PeerPart) (ds : List DriverPart) (q : ℕ) → slice_get (parts_of xs ds) q ≡ paired (slice_get xs q) (slice_get ds q)
parts_read [] ds q = refl
parts_read (x ∷ xs) [] q = sym (none_paired (slice_get (x ∷ xs) q))
parts_read (x ∷ xs) (d ∷ ds) zero = refl
parts_read (x ∷ xs) (d ∷ ds) (suc q) = parts_read xs ds q

pub bus_there : (s : State) (q : ℕ) (x : PeerPart) (w : DriverPart) → slice_get s.peers q ≡ Some x → slice_get s.drivers q ≡ Some w → slice_get (bus_of s) q ≡ Some (part_of x w)
bus_there s q x w is_x is_w = parts_read s.peers s.drivers q ∙ ap₂ paired is_x is_w

pub bus_none : (s : State) (q : ℕ) → slice_get s.peers q ≡ None → slice_get (bus_of s) q ≡ None
bus_none s q none = parts_read s.peers s.drivers q ∙ ap (λ r. paired r (slice_get s.drivers q)) none

pub set_read : {X : Type 0} (xs : List X) (i j : ℕ) (y z : X) → slice_get xs j ≡ Some z → slice_get (set xs i y) j ≡ Some (cond (i == j) y z)
set_read xs i j y z is = by (cases_eq i j)
  where
    by : (i ≡ j) ⊎ (i ≡ j → ⊥) → slice_get (set xs i y) j ≡ Some (cond (i == j) y z)
    by (inl same) = subst (λ k. slice_get (set xs k y) j ≡ Some y) (sym same) (read_same xs j z y is) ∙ sym (ap (λ b. Some (cond b y z)) (eq-eqb i j same))
    by (inr apart) = read_other xs i j y apart ∙ is ∙ sym (ap (λ b. Some (cond b y z)) (ne_eqb i j apart))

set_none : {X : Type 0} (xs : List X) (i j : ℕ) (y : X) → slice_get xs j ≡ None → slice_get (set xs i y) j ≡ None
set_none [] i j y none = none
set_none (x ∷ xs) zero zero y none = absurd (cc none)
set_none (x ∷ xs) zero (suc j) y none = none
set_none (x ∷ xs) (suc i) zero y none = none
set_none (x ∷ xs) (suc i) (suc j) y none = set_none xs i j y none

module _ (s : State) (p : ℕ) (e : DriverPart) (f : PeerPart → PeerPart) (target : Bus)
    (own : (q : ℕ) (x : PeerPart) (w : DriverPart) → slice_get s.peers q ≡ Some x → slice_get s.drivers q ≡ Some w → slice_get target q ≡ Some (part_of (f x) (cond (p == q) e w)))
    (none : (q : ℕ) → slice_get (bus_of s) q ≡ None → slice_get target q ≡ None) where
  -- the bus of the state midway, peer by peer
  pub bus_same : target ≡ bus_of (midway s p e f)
  bus_same = lists_same target (bus_of (midway s p e f)) (λ q. by q (slice_get s.peers q) refl (slice_get s.drivers q) refl)
    where
      by : (q : ℕ) (r : Option PeerPart) → slice_get s.peers q ≡ r → (v : Option DriverPart) → slice_get s.drivers q ≡ v → slice_get target q ≡ slice_get (bus_of (midway s p e f)) q
      by q None is_x v is_w =
          none q (parts_read s.peers s.drivers q ∙ ap (λ r. paired r (slice_get s.drivers q)) is_x)
          ∙ sym (parts_read (map f s.peers) (set s.drivers p e) q ∙ ap (λ r. paired r (slice_get (set s.drivers p e) q)) (slice_get-map f s.peers q ∙ ap (option_map f) is_x))
      by q (Some x) is_x None is_w =
          none q (parts_read s.peers s.drivers q ∙ ap (paired (slice_get s.peers q)) is_w ∙ none_paired (slice_get s.peers q))
          ∙ sym (parts_read (map f s.peers) (set s.drivers p e) q ∙ ap (paired (slice_get (map f s.peers) q)) (set_none s.drivers p q e is_w) ∙ none_paired (slice_get (map f s.peers) q))
      by q (Some x) is_x (Some w) is_w =
          own q x w is_x is_w
          ∙ sym (parts_read (map f s.peers) (set s.drivers p e) q ∙ ap₂ paired (slice_get-map f s.peers q ∙ ap (option_map f) is_x) (set_read s.drivers p q e w is_w))

-- ---- peers that aren't there

pub at_none : (p q : ℕ) (g : Part → Part) (bus : Bus) → slice_get bus q ≡ None → slice_get (at_peer p g bus) q ≡ None
at_none p q g [] none = none
at_none zero zero g (y ∷ ys) none = absurd (cc none)
at_none zero (suc q) g (y ∷ ys) none = none
at_none (suc p) zero g (y ∷ ys) none = none
at_none (suc p) (suc q) g (y ∷ ys) none = at_none p q g ys none

notices_none : (nodes : List NodeRef) (q : ℕ) (bus : Bus) → slice_get bus q ≡ None → slice_get (fold without_notice bus nodes) q ≡ None
notices_none [] q bus none = none
notices_none (n ∷ rest) q bus none = notices_none rest q (without_notice bus n) (at_none n.owner q (λ y. record y { box = without (is_release_notice n.serial) y.box }) bus none)

pub delivered_none : (s : Letter) (stamp place : ℕ) (ds : Answered) (q : ℕ) (bus : Bus) → slice_get bus q ≡ None → slice_get (delivered_from s stamp place ds bus) q ≡ None
delivered_none s stamp place [] q bus none = none
delivered_none s stamp place ((to, Some r) ∷ rest) q bus none = delivered_none s stamp (place + 1) rest q bus none
delivered_none s stamp place ((to, None) ∷ rest) q bus none =
    delivered_none s stamp (place + 1) rest q (delivered s stamp place to bus)
    (notices_none (foreign to.owner s.with) q (at_peer to.owner (with_message bus s stamp place to) bus) (at_none to.owner q (with_message bus s stamp place to) bus none))

-- ---- the end

module _ (o : Opening) (m : Shortage) (p : ℕ) (target : Bus) (s : State) (d : DriverPart) (opens : IsOpening o) (quiet : IsQuiet s) (is_driver : slice_get s.drivers p ≡ Some d) where
  pub ends_here : (e : DriverPart) (f : PeerPart → PeerPart) → e.doing ≡ None → target ≡ bus_of (midway s p e f) → BoxesRight target → WillEnd o m p target (midway s p e f)
  ends_here e f idle is_bus boxes reached = record {
    count = 0;
    last = midway s p e f;
    leads = refl;
    open_before = λ n less. absurd (omega (arith, less));
    over = ap (λ r. elim r [ None ↦ false | Some z ↦ is_some z.doing ]) (read_same s.drivers p d e is_driver) ∙ ap is_some idle;
    rests = rests_by o (midway s p e f) target opens reached idle_all is_bus boxes;
  }
    where
      idle_all : (r : ℕ) (z : DriverPart) → IsDriver (midway s p e f) r z → z.doing ≡ None
      idle_all r z is = elim (set_cases s.drivers p r e z is) [ inl one ↦ ap (λ w. w.doing) one.1 ∙ idle | inr other ↦ quiet.idle r z other.1 ]
