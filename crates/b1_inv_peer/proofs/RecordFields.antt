-- What changes of handle records make of one field of them.
use Rattle.std.proofs.Common.{◌≡◌, ◌≢◌, ◌⊎◌, refl, sym, ap, ◌∙◌, inl, inr, subst, ℕ, ◌+◌, ◌-◌, Bool, true, false, cond, not, List, [], ◌∷◌, Option, Some, None, ◌==◌, ◌||◌, nat_lt}
use Rattle.std.proofs.lemmas.List.Sums.{sum_by-cons}
use native.Mathlib.Omega.{arith}
use Rattle.b1_model.specs.declared.naming.NodeRef.{NodeRef}
use Rattle.b1_model.specs.MachineParts.{HandleRecord, same_ref, record_of, record_or_none, no_record}
use Rattle.b1_model.specs.MachineTables.{is_needed, changed, changed_or_made, more_flight, less_flight, expected, unexpected, foreign}
use Rattle.b1_step.specs.Ordered.{Rising}
use Rattle.b1_step.proofs.Orders.{same_ref_is, same_ref_itself}
use Rattle.b1_step.proofs.Lookups.{rising_changed, rising_made, own_changed, own_made, other_changed, other_made, kept_by}
use Rattle.b1_inv_peer.specs.PeerOk.{times}
use Rattle.b1_inv_peer.proofs.Counts.{one}

abbrev Handles : Type 0
Handles = List HandleRecord

abbrev pub or_none : NodeRef → Option HandleRecord → HandleRecord
or_none node o = elim o [ None ↦ no_record node | Some h ↦ h ]

-- two names of one node are one name
pub same_or_apart : (a b : NodeRef) → (a ≡ b) ⊎ (same_ref a b ≡ false)
same_or_apart a b = at (same_ref a b) refl
  where
    at : (c : Bool) → same_ref a b ≡ c → (a ≡ b) ⊎ (same_ref a b ≡ false)
    at true is = inl (same_ref_is a b is)
    at false is = inr is

-- ---- one field of a node's record

module _ {A : Type 0} (g : HandleRecord → A) (d : A) (unneeded : (h : HandleRecord) → is_needed h ≡ false → g h ≡ d) (absent : (node : NodeRef) → g (no_record node) ≡ d)
    (node : NodeRef) (f : HandleRecord → HandleRecord) (keeps : (h : HandleRecord) → (f h).node ≡ h.node) (hs : Handles) (up : Rising hs) where
  -- of the node itself
  pub field_changed : (φ : A → A) → ((h : HandleRecord) → g (f h) ≡ φ (g h)) → φ d ≡ d → g (record_or_none node (changed node f hs)) ≡ φ (g (record_or_none node hs))
  field_changed φ step none = ap (λ o. g (or_none node o)) (own_changed node f keeps hs up) ∙ at (record_of node hs)
    where
      needed_or : (h : HandleRecord) (b : Bool) → is_needed (f h) ≡ b → g (or_none node (cond b (Some (f h)) None)) ≡ φ (g h)
      needed_or h true is = step h
      needed_or h false is = absent node ∙ sym (unneeded (f h) is) ∙ step h

      at : (o : Option HandleRecord) → g (or_none node (kept_by f o)) ≡ φ (g (or_none node o))
      at None = absent node ∙ sym none ∙ ap φ (sym (absent node))
      at (Some h) = needed_or h (is_needed (f h)) refl

  pub field_made : g (record_or_none node (changed_or_made node f hs)) ≡ g (f (record_or_none node hs))
  field_made = ap (λ o. g (or_none node o)) (own_made node f keeps hs up)

-- of another node
pub other_record : (node other : NodeRef) (f : HandleRecord → HandleRecord) → ((h : HandleRecord) → (f h).node ≡ h.node) → same_ref node other ≡ false → (hs : Handles) → record_or_none other (changed node f hs) ≡ record_or_none other hs
other_record node other f keeps apart hs = ap (or_none other) (other_changed node f keeps other apart hs)

pub other_record_made : (node other : NodeRef) (f : HandleRecord → HandleRecord) → ((h : HandleRecord) → (f h).node ≡ h.node) → same_ref node other ≡ false → (hs : Handles) → record_or_none other (changed_or_made node f hs) ≡ record_or_none other hs
other_record_made node other f keeps apart hs = ap (or_none other) (other_made node f keeps other apart hs)

-- ---- the fields of records that aren't needed

or_false : (a b c : Bool) → (a || b || c) ≡ false → (a ≡ false) × (b ≡ false) × (c ≡ false)
or_false false false false is = (refl, refl, refl)
or_false true b c is = absurd (cc is)
or_false false true c is = absurd (cc is)
or_false false false true is = absurd (cc is)

not_above : (n : ℕ) → nat_lt 0 n ≡ false → n ≡ 0
not_above n is = grind (arith, is)

pub unneeded_held : (h : HandleRecord) → is_needed h ≡ false → h.held ≡ 0
unneeded_held h is = not_above h.held (or_false (nat_lt 0 h.held) (nat_lt 0 h.flight) h.notice is).0

pub unneeded_flight : (h : HandleRecord) → is_needed h ≡ false → h.flight ≡ 0
unneeded_flight h is = not_above h.flight (or_false (nat_lt 0 h.held) (nat_lt 0 h.flight) h.notice is).1

pub unneeded_notice : (h : HandleRecord) → is_needed h ≡ false → h.notice ≡ false
unneeded_notice h is = (or_false (nat_lt 0 h.held) (nat_lt 0 h.flight) h.notice is).2

-- ---- a field that a change leaves stays for every node

module _ {A : Type 0} (g : HandleRecord → A) (d : A) (unneeded : (h : HandleRecord) → is_needed h ≡ false → g h ≡ d) (absent : (node : NodeRef) → g (no_record node) ≡ d)
    (f : HandleRecord → HandleRecord) (keeps : (h : HandleRecord) → (f h).node ≡ h.node) (same : (h : HandleRecord) → g (f h) ≡ g h) where
  pub field_stays : (node other : NodeRef) (hs : Handles) → Rising hs → g (record_or_none other (changed node f hs)) ≡ g (record_or_none other hs)
  field_stays node other hs up = at (same_or_apart node other)
    where
      at : (node ≡ other) ⊎ (same_ref node other ≡ false) → g (record_or_none other (changed node f hs)) ≡ g (record_or_none other hs)
      at (inl e) = subst (λ n. g (record_or_none n (changed node f hs)) ≡ g (record_or_none n hs)) e (field_changed g d unneeded absent node f keeps hs up (λ a. a) same refl)
      at (inr apart) = ap g (other_record node other f keeps apart hs)

  pub field_stays_made : (node other : NodeRef) (hs : Handles) → Rising hs → g (record_or_none other (changed_or_made node f hs)) ≡ g (record_or_none other hs)
  field_stays_made node other hs up = at (same_or_apart node other)
    where
      at : (node ≡ other) ⊎ (same_ref node other ≡ false) → g (record_or_none other (changed_or_made node f hs)) ≡ g (record_or_none other hs)
      at (inl e) = subst (λ n. g (record_or_none n (changed_or_made node f hs)) ≡ g (record_or_none n hs)) e (field_made g d unneeded absent node f keeps hs up ∙ same (record_or_none node hs))
      at (inr apart) = ap g (other_record_made node other f keeps apart hs)

-- ---- flight

abbrev pub flight_of : NodeRef → Handles → ℕ
flight_of node hs = (record_or_none node hs).flight

pub times_cons : (node n : NodeRef) (rest : List NodeRef) → times node (n ∷ rest) ≡ one (same_ref n node) + times node rest
times_cons node n rest = sum_by-cons (λ m. one (same_ref m node)) n rest

more_one : (node n : NodeRef) (hs : Handles) → Rising hs → flight_of node (changed_or_made n more_flight hs) ≡ flight_of node hs + one (same_ref n node)
more_one node n hs up = at (same_or_apart n node)
  where
    at : (n ≡ node) ⊎ (same_ref n node ≡ false) → flight_of node (changed_or_made n more_flight hs) ≡ flight_of node hs + one (same_ref n node)
    at (inl e) = subst (λ m. flight_of m (changed_or_made n more_flight hs) ≡ flight_of m hs + one (same_ref n m)) e (field_made (λ h. h.flight) 0 unneeded_flight (λ m. refl) n more_flight (λ h. refl) hs up ∙ ap (λ b. flight_of n hs + one b) (sym (same_ref_itself n)))
    at (inr apart) = let same = ap (λ h. h.flight) (other_record_made n node more_flight (λ h. refl) apart hs) in let none : one (same_ref n node) ≡ 0 = rw apart refl in omega (arith, same, none)

less_one : (node n : NodeRef) (hs : Handles) → Rising hs → flight_of node (changed n less_flight hs) ≡ flight_of node hs - one (same_ref n node)
less_one node n hs up = at (same_or_apart n node)
  where
    at : (n ≡ node) ⊎ (same_ref n node ≡ false) → flight_of node (changed n less_flight hs) ≡ flight_of node hs - one (same_ref n node)
    at (inl e) = subst (λ m. flight_of m (changed n less_flight hs) ≡ flight_of m hs - one (same_ref n m)) e (field_changed (λ h. h.flight) 0 unneeded_flight (λ m. refl) n less_flight (λ h. refl) hs up (λ k. k - 1) (λ h. refl) refl ∙ ap (λ b. flight_of n hs - one b) (sym (same_ref_itself n)))
    at (inr apart) = let same = ap (λ h. h.flight) (other_record n node less_flight (λ h. refl) apart hs) in let none : one (same_ref n node) ≡ 0 = rw apart refl in omega (arith, same, none)

pub rising_expected : (nodes : List NodeRef) (hs : Handles) → Rising hs → Rising (expected nodes hs)
rising_expected [] hs up = up
rising_expected (n ∷ rest) hs up = rising_expected rest (changed_or_made n more_flight hs) (rising_made n more_flight (λ h. refl) hs up)

pub rising_unexpected : (nodes : List NodeRef) (hs : Handles) → Rising hs → Rising (unexpected nodes hs)
rising_unexpected [] hs up = up
rising_unexpected (n ∷ rest) hs up = rising_unexpected rest (changed n less_flight hs) (rising_changed n less_flight (λ h. refl) hs up)

pub flight_expected : (node : NodeRef) (nodes : List NodeRef) (hs : Handles) → Rising hs → flight_of node (expected nodes hs) ≡ flight_of node hs + times node nodes
flight_expected node [] hs up = omega arith
flight_expected node (n ∷ rest) hs up =
    let further = flight_expected node rest (changed_or_made n more_flight hs) (rising_made n more_flight (λ h. refl) hs up) in
    let head = more_one node n hs up in
    let more = times_cons node n rest in
    omega (arith, further, head, more)

pub flight_unexpected : (node : NodeRef) (nodes : List NodeRef) (hs : Handles) → Rising hs → flight_of node (unexpected nodes hs) ≡ flight_of node hs - times node nodes
flight_unexpected node [] hs up = omega arith
flight_unexpected node (n ∷ rest) hs up =
    let further = flight_unexpected node rest (changed n less_flight hs) (rising_changed n less_flight (λ h. refl) hs up) in
    let head = less_one node n hs up in
    let more = times_cons node n rest in
    omega (arith, further, head, more)

-- a node of another peer stands as often among the foreign ones
pub times_foreign : (me : ℕ) (node : NodeRef) (nodes : List NodeRef) → node.owner ≢ me → times node (foreign me nodes) ≡ times node nodes
times_foreign me node [] other = refl
times_foreign me node (n ∷ rest) other = at (times_foreign me node rest other) (n.owner == me) refl
  where
    at : times node (foreign me rest) ≡ times node rest → (b : Bool) → (n.owner == me) ≡ b → times node (cond (not b) (n ∷ foreign me rest) (foreign me rest)) ≡ times node (n ∷ rest)
    at further false is = let here = times_cons node n (foreign me rest) in let whole = times_cons node n rest in omega (arith, further, here, whole)
    at further true is =
        let whole = times_cons node n rest in
        let none : one (same_ref n node) ≡ 0 = apart (same_or_apart n node) in
        omega (arith, further, whole, none)
      where
        apart : (n ≡ node) ⊎ (same_ref n node ≡ false) → one (same_ref n node) ≡ 0
        apart (inl e) = absurd (other (ap (λ m. m.owner) (sym e) ∙ owner_is))
          where
            owner_is : n.owner ≡ me
            owner_is = grind (arith, is)
        apart (inr no_same) = rw no_same refl

-- ---- notices while messages come and go

pub notice_expected : (node : NodeRef) (nodes : List NodeRef) (hs : Handles) → Rising hs → (record_or_none node (expected nodes hs)).notice ≡ (record_or_none node hs).notice
notice_expected node [] hs up = refl
notice_expected node (n ∷ rest) hs up =
    notice_expected node rest (changed_or_made n more_flight hs) (rising_made n more_flight (λ h. refl) hs up)
    ∙ field_stays_made (λ h. h.notice) false unneeded_notice (λ m. refl) more_flight (λ h. refl) (λ h. refl) n node hs up

pub notice_unexpected : (node : NodeRef) (nodes : List NodeRef) (hs : Handles) → Rising hs → (record_or_none node (unexpected nodes hs)).notice ≡ (record_or_none node hs).notice
notice_unexpected node [] hs up = refl
notice_unexpected node (n ∷ rest) hs up =
    notice_unexpected node rest (changed n less_flight hs) (rising_changed n less_flight (λ h. refl) hs up)
    ∙ field_stays (λ h. h.notice) false unneeded_notice (λ m. refl) less_flight (λ h. refl) (λ h. refl) n node hs up
