-- Numbers of the record of a node, where records change: how often it is held, and how often it is in flight.
use Rattle.std.proofs.Common.{◌≡◌, ◌≢◌, refl, sym, ap, ◌∙◌, subst, ℕ, ◌+◌, ◌-◌, ◌≤◌, ◌==◌, Bool, true, false, cond, not, List, [], ◌∷◌, Option, Some, None}
use Rattle.std.proofs.lemmas.List.Sums.{sum_by-cons}
use Rattle.std.proofs.lemmas.Bool.{eqb-true}
use native.Mathlib.Omega.{arith}
use Rattle.b1_model.specs.declared.naming.NodeRef.{NodeRef}
use Rattle.b1_model.specs.MachineParts.{HandleRecord, same_ref, record_of, record_or_none, no_record}
use Rattle.b1_model.specs.MachineTables.{is_needed, changed, changed_or_made, more_flight, less_flight, more_held, expected, unexpected, foreign}
use Rattle.b1_step.specs.Ordered.{Rising}
use Rattle.b1_step.proofs.Orders.{same_ref_is}
use Rattle.b1_step.proofs.Lookups.{kept_by, rising_changed, rising_made, other_changed, own_changed, other_made, own_made}
use Rattle.b1_inv.specs.References.{times_in}

abbrev pub Handles : Type 0
Handles = List HandleRecord

-- the record, or what stands in its place
abbrev pub or_none : NodeRef → Option HandleRecord → HandleRecord
or_none node r = elim r [ None ↦ no_record node | Some h ↦ h ]

-- a record that isn't needed isn't held, and isn't in flight
pub unneeded_held : (h : HandleRecord) → is_needed h ≡ false → h.held ≡ 0
unneeded_held h e = grind (arith, e)

pub unneeded_flight : (h : HandleRecord) → is_needed h ≡ false → h.flight ≡ 0
unneeded_flight h e = grind (arith, e)

-- ---- one change

module _ (view : HandleRecord → ℕ) (f : HandleRecord → HandleRecord) (keeps : (h : HandleRecord) → (f h).node ≡ h.node) where
  -- under another node nothing changes
  pub view_other : (other node : NodeRef) (hs : Handles) → same_ref other node ≡ false → view (record_or_none node (changed other f hs)) ≡ view (record_or_none node hs)
  view_other other node hs apart = ap (λ r. view (or_none node r)) (other_changed other f keeps node apart hs)

  pub view_made_other : (other node : NodeRef) (hs : Handles) → same_ref other node ≡ false → view (record_or_none node (changed_or_made other f hs)) ≡ view (record_or_none node hs)
  view_made_other other node hs apart = ap (λ r. view (or_none node r)) (other_made other f keeps node apart hs)

  -- under the node itself, the change
  pub view_made : (node : NodeRef) (hs : Handles) → Rising hs → view (record_or_none node (changed_or_made node f hs)) ≡ view (f (record_or_none node hs))
  view_made node hs up = ap (λ r. view (or_none node r)) (own_made node f keeps hs up)

  module _ (to : ℕ → ℕ) (nothing : to 0 ≡ 0) (none : (n : NodeRef) → view (no_record n) ≡ 0)
      (moves : (h : HandleRecord) → view (f h) ≡ to (view h)) (unneeded : (h : HandleRecord) → is_needed h ≡ false → view h ≡ 0) where
    by_need : (node : NodeRef) (h : HandleRecord) (b : Bool) → is_needed (f h) ≡ b → view (or_none node (cond b (Some (f h)) None)) ≡ to (view h)
    by_need node h true is = moves h
    by_need node h false is = none node ∙ sym (unneeded (f h) is) ∙ moves h

    by_record : (node : NodeRef) (r : Option HandleRecord) → view (or_none node (kept_by f r)) ≡ to (view (or_none node r))
    by_record node None = none node ∙ sym nothing ∙ ap to (sym (none node))
    by_record node (Some h) = by_need node h (is_needed (f h)) refl

    pub view_own : (node : NodeRef) (hs : Handles) → Rising hs → view (record_or_none node (changed node f hs)) ≡ to (view (record_or_none node hs))
    view_own node hs up = ap (λ r. view (or_none node r)) (own_changed node f keeps hs up) ∙ by_record node (record_of node hs)

-- a change that leaves the number leaves it under every node
pub view_same : (view : HandleRecord → ℕ) (f : HandleRecord → HandleRecord) (keeps : (h : HandleRecord) → (f h).node ≡ h.node) (none : (n : NodeRef) → view (no_record n) ≡ 0)
    (same : (h : HandleRecord) → view (f h) ≡ view h) (unneeded : (h : HandleRecord) → is_needed h ≡ false → view h ≡ 0)
    (other node : NodeRef) (hs : Handles) → Rising hs → view (record_or_none node (changed other f hs)) ≡ view (record_or_none node hs)
view_same view f keeps none same unneeded other node hs up = at (same_ref other node) refl
  where
    at : (b : Bool) → same_ref other node ≡ b → view (record_or_none node (changed other f hs)) ≡ view (record_or_none node hs)
    at false is = view_other view f keeps other node hs is
    at true is = subst (λ m. view (record_or_none node (changed m f hs)) ≡ view (record_or_none node hs)) (sym (same_ref_is other node is)) (view_own view f keeps (λ n. n) refl none same unneeded node hs up)

pub held_same : (f : HandleRecord → HandleRecord) → ((h : HandleRecord) → (f h).node ≡ h.node) → ((h : HandleRecord) → (f h).held ≡ h.held) → (other node : NodeRef) (hs : Handles) → Rising hs → (record_or_none node (changed other f hs)).held ≡ (record_or_none node hs).held
held_same f keeps same other node hs up = view_same (λ h. h.held) f keeps (λ n. refl) same unneeded_held other node hs up

pub flight_same : (f : HandleRecord → HandleRecord) → ((h : HandleRecord) → (f h).node ≡ h.node) → ((h : HandleRecord) → (f h).flight ≡ h.flight) → (other node : NodeRef) (hs : Handles) → Rising hs → (record_or_none node (changed other f hs)).flight ≡ (record_or_none node hs).flight
flight_same f keeps same other node hs up = view_same (λ h. h.flight) f keeps (λ n. refl) same unneeded_flight other node hs up

-- a change that takes a slot away takes one from the flight of its node
pub flight_less : (f : HandleRecord → HandleRecord) → ((h : HandleRecord) → (f h).node ≡ h.node) → ((h : HandleRecord) → (f h).flight ≡ h.flight - 1) → (other node : NodeRef) (hs : Handles) → Rising hs → (record_or_none node (changed other f hs)).flight ≡ (record_or_none node hs).flight - cond (same_ref other node) 1 0
flight_less f keeps less other node hs up = at (same_ref other node) refl
  where
    at : (b : Bool) → same_ref other node ≡ b → (record_or_none node (changed other f hs)).flight ≡ (record_or_none node hs).flight - cond b 1 0
    at false is = let k = view_other (λ h. h.flight) f keeps other node hs is in omega (arith, k)
    at true is = subst (λ m. (record_or_none node (changed m f hs)).flight ≡ (record_or_none node hs).flight - 1) (sym (same_ref_is other node is)) (view_own (λ h. h.flight) f keeps (λ n. n - 1) refl (λ n. refl) less unneeded_flight node hs up)

-- one that brings a slot adds one
pub flight_more : (other node : NodeRef) (hs : Handles) → Rising hs → (record_or_none node (changed_or_made other more_flight hs)).flight ≡ (record_or_none node hs).flight + cond (same_ref other node) 1 0
flight_more other node hs up = at (same_ref other node) refl
  where
    at : (b : Bool) → same_ref other node ≡ b → (record_or_none node (changed_or_made other more_flight hs)).flight ≡ (record_or_none node hs).flight + cond b 1 0
    at false is = let k = view_made_other (λ h. h.flight) more_flight (λ h. refl) other node hs is in omega (arith, k)
    at true is = subst (λ m. (record_or_none node (changed_or_made m more_flight hs)).flight ≡ (record_or_none node hs).flight + 1) (sym (same_ref_is other node is)) (view_made (λ h. h.flight) more_flight (λ h. refl) node hs up)

-- one that leaves how often a node is held, where it is made too
pub held_made_same : (f : HandleRecord → HandleRecord) → ((h : HandleRecord) → (f h).node ≡ h.node) → ((h : HandleRecord) → (f h).held ≡ h.held) → (other node : NodeRef) (hs : Handles) → Rising hs → (record_or_none node (changed_or_made other f hs)).held ≡ (record_or_none node hs).held
held_made_same f keeps same other node hs up = at (same_ref other node) refl
  where
    at : (b : Bool) → same_ref other node ≡ b → (record_or_none node (changed_or_made other f hs)).held ≡ (record_or_none node hs).held
    at false is = view_made_other (λ h. h.held) f keeps other node hs is
    at true is = subst (λ m. (record_or_none node (changed_or_made m f hs)).held ≡ (record_or_none node hs).held) (sym (same_ref_is other node is)) (view_made (λ h. h.held) f keeps node hs up ∙ same (record_or_none node hs))

-- ---- an entry comes in, or leaves

pub rising_expected : (nodes : List NodeRef) (hs : Handles) → Rising hs → Rising (expected nodes hs)
rising_expected [] hs up = up
rising_expected (node ∷ rest) hs up = rising_expected rest (changed_or_made node more_flight hs) (rising_made node more_flight (λ h. refl) hs up)

pub rising_unexpected : (nodes : List NodeRef) (hs : Handles) → Rising hs → Rising (unexpected nodes hs)
rising_unexpected [] hs up = up
rising_unexpected (node ∷ rest) hs up = rising_unexpected rest (changed node less_flight hs) (rising_changed node less_flight (λ h. refl) hs up)

pub times_cons : (node m : NodeRef) (rest : List NodeRef) → times_in node (m ∷ rest) ≡ cond (same_ref m node) 1 0 + times_in node rest
times_cons node m rest = sum_by-cons _ m rest

pub flight_expected : (node : NodeRef) (nodes : List NodeRef) (hs : Handles) → Rising hs → (record_or_none node (expected nodes hs)).flight ≡ (record_or_none node hs).flight + times_in node nodes
flight_expected node [] hs up = omega arith
flight_expected node (m ∷ rest) hs up =
    let one = flight_more m node hs up in
    let two = flight_expected node rest (changed_or_made m more_flight hs) (rising_made m more_flight (λ h. refl) hs up) in
    let three = times_cons node m rest in
    omega (arith, one, two, three)

pub flight_unexpected : (node : NodeRef) (nodes : List NodeRef) (hs : Handles) → Rising hs → (record_or_none node (unexpected nodes hs)).flight ≡ (record_or_none node hs).flight - times_in node nodes
flight_unexpected node [] hs up = omega arith
flight_unexpected node (m ∷ rest) hs up =
    let one = flight_less less_flight (λ h. refl) (λ h. refl) m node hs up in
    let two = flight_unexpected node rest (changed m less_flight hs) (rising_changed m less_flight (λ h. refl) hs up) in
    let three = times_cons node m rest in
    omega (arith, one, two, three)

pub held_expected : (node : NodeRef) (nodes : List NodeRef) (hs : Handles) → Rising hs → (record_or_none node (expected nodes hs)).held ≡ (record_or_none node hs).held
held_expected node [] hs up = refl
held_expected node (m ∷ rest) hs up =
    held_expected node rest (changed_or_made m more_flight hs) (rising_made m more_flight (λ h. refl) hs up) ∙ held_made_same more_flight (λ h. refl) (λ h. refl) m node hs up

pub held_unexpected : (node : NodeRef) (nodes : List NodeRef) (hs : Handles) → Rising hs → (record_or_none node (unexpected nodes hs)).held ≡ (record_or_none node hs).held
held_unexpected node [] hs up = refl
held_unexpected node (m ∷ rest) hs up =
    held_unexpected node rest (changed m less_flight hs) (rising_changed m less_flight (λ h. refl) hs up) ∙ held_same less_flight (λ h. refl) (λ h. refl) m node hs up

-- another peer's node is as often among the nodes of other peers as among all
pub times_foreign : (me : ℕ) (node : NodeRef) (nodes : List NodeRef) → node.owner ≢ me → times_in node (foreign me nodes) ≡ times_in node nodes
times_foreign me node [] apart = refl
times_foreign me node (m ∷ rest) apart = at (times_foreign me node rest apart) (m.owner == me) refl (same_ref m node) refl
  where
    at : times_in node (foreign me rest) ≡ times_in node rest → (b : Bool) → (m.owner == me) ≡ b → (c : Bool) → same_ref m node ≡ c → times_in node (cond (not b) (m ∷ foreign me rest) (foreign me rest)) ≡ times_in node (m ∷ rest)
    at further false own c is = times_cons node m (foreign me rest) ∙ ap (λ n. cond (same_ref m node) 1 0 + n) further ∙ sym (times_cons node m rest)
    at further true own true is = absurd (apart (sym (ap (λ z. z.owner) (same_ref_is m node is)) ∙ eqb-true m.owner me own))
    at further true own false is = let k = times_cons node m rest in let none : cond {A = ℕ} (same_ref m node) 1 0 ≡ 0 = ap (λ b. cond b 1 0) is in omega (arith, k, none, further)

-- a reference arrives at a record that stands there: the node is held once more
pub held_more : (number : ℕ) (other node : NodeRef) (hs : Handles) → Rising hs → 1 ≤ (record_or_none other hs).flight → (record_or_none node (changed other (λ g. more_held number (less_flight g)) hs)).held ≡ (record_or_none node hs).held + cond (same_ref other node) 1 0
held_more number other node hs up some = at (same_ref other node) refl
  where
    stays : (h : HandleRecord) → is_needed (more_held number (less_flight h)) ≡ true
    stays h = grind arith

    own : (r : Option HandleRecord) → 1 ≤ (or_none other r).flight → (or_none other (kept_by (λ g. more_held number (less_flight g)) r)).held ≡ (or_none other r).held + 1
    own None k = absurd (omega (arith, k))
    own (Some h) k = rw (stays h) refl

    at : (b : Bool) → same_ref other node ≡ b → (record_or_none node (changed other (λ g. more_held number (less_flight g)) hs)).held ≡ (record_or_none node hs).held + cond b 1 0
    at false is = let k = view_other (λ h. h.held) (λ g. more_held number (less_flight g)) (λ h. refl) other node hs is in omega (arith, k)
    at true is =
        subst (λ m. (record_or_none m (changed other (λ g. more_held number (less_flight g)) hs)).held ≡ (record_or_none m hs).held + 1) (same_ref_is other node is)
        (ap (λ r. (or_none other r).held) (own_changed other (λ g. more_held number (less_flight g)) (λ h. refl) hs up) ∙ own (record_of other hs) some)
