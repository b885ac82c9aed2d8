-- A record that changes, among records of which each is needed, held so often and carried so often.
use Rattle.std.proofs.Common.{◌≡◌, ◌≢◌, ℕ, ◌+◌, ◌-◌, ◌<◌, ◌≤◌, true, false, cond, List, [], ◌∷◌, refl, ap, ◌∙◌, arith, inl, inr}
use Rattle.std.specs.Prelude.{All}
use Rattle.std.proofs.lemmas.Bool.{cases_Bool, cases_eq, eq-eqb, ne_eqb}
use Rattle.std.proofs.lemmas.Bool.Decides.{nat_tests}
use Rattle.std.proofs.lemmas.List.Sums.{sum_by-cons}
use Rattle.std.proofs.lemmas.List.Elements.{All-head, All-tail, All-cons, All-nil, All-weaker}
use Rattle.b1_model.specs.declared.naming.NodeRef.{NodeRef}
use Rattle.b1_model.specs.MachineParts.{HandleRecord, no_record, same_ref, ref_before, record_or_none}
use Rattle.b1_model.specs.MachineTables.{is_needed, changed, changed_or_made, more_flight, less_flight, foreign}
use Rattle.b1_peer_carried.specs.Carry.{AreCarried, AreNeeded, times}

-- ---- names of nodes
same_one : (a b : NodeRef) → same_ref a b ≡ true → a ≡ b
same_one a b same =
    let owner : a.owner ≡ b.owner = grind (arith, nat_tests) in
    let serial : a.serial ≡ b.serial = grind (arith, nat_tests) in
    ap (λ (n : ℕ). record { owner = n; serial = a.serial }) owner ∙ ap (λ (n : ℕ). record { owner = b.owner; serial = n }) serial

-- ---- what is needed
unneeded_flight : (h : HandleRecord) → is_needed h ≡ false → h.flight ≡ 0
unneeded_flight h gone = grind (arith, nat_tests)

-- the first record, or one behind it
here : (node : NodeRef) (h : HandleRecord) (rest : List HandleRecord) → same_ref h.node node ≡ true → record_or_none node (h ∷ rest) ≡ h
here node h rest same = rw (record_or_none, same) refl

further : (node : NodeRef) (h : HandleRecord) (rest : List HandleRecord) → same_ref h.node node ≡ false → record_or_none node (h ∷ rest) ≡ record_or_none node rest
further node h rest other = rw (record_or_none, other) refl

module _ (node : NodeRef) (f : HandleRecord → HandleRecord) where
  pub needed_changed : (hs : List HandleRecord) → AreNeeded hs → AreNeeded (changed node f hs)
  needed_changed [] all = all
  needed_changed (h ∷ rest) all =
      let first : is_needed h ≡ true = All-head (λ h. is_needed h ≡ true) h rest all in
      let behind : AreNeeded rest = All-tail (λ h. is_needed h ≡ true) h rest all in
      elim (cases_Bool (same_ref h.node node)) [
        | inl same ↦
            rw same
            (elim (cases_Bool (is_needed (f h))) [
              | inl needed ↦ rw needed (All-cons (λ h. is_needed h ≡ true) (f h) rest needed behind)
              | inr gone ↦ rw gone behind
            ])
        | inr other ↦ rw other (All-cons (λ h. is_needed h ≡ true) h (changed node f rest) first (needed_changed rest behind))
      ]

  pub needed_changed_or_made : ((h : HandleRecord) → is_needed (f h) ≡ true) → (hs : List HandleRecord) → AreNeeded hs → AreNeeded (changed_or_made node f hs)
  needed_changed_or_made needs [] all = All-cons (λ h. is_needed h ≡ true) (f (no_record node)) [] (needs (no_record node)) all
  needed_changed_or_made needs (h ∷ rest) all =
      let first : is_needed h ≡ true = All-head (λ h. is_needed h ≡ true) h rest all in
      let behind : AreNeeded rest = All-tail (λ h. is_needed h ≡ true) h rest all in
      elim (cases_Bool (same_ref h.node node)) [
        | inl same ↦ rw same (All-cons (λ h. is_needed h ≡ true) (f h) rest (needs h) behind)
        | inr other ↦
            rw other
            (elim (cases_Bool (ref_before node h.node)) [
              | inl before ↦ rw before (All-cons (λ h. is_needed h ≡ true) (f (no_record node)) (h ∷ rest) (needs (no_record node)) all)
              | inr behind_it ↦ rw behind_it (All-cons (λ h. is_needed h ≡ true) h (changed_or_made node f rest) first (needed_changed_or_made needs rest behind))
            ])
      ]

  -- the held records rise by one at most
  pub held_changed : ((h : HandleRecord) → (f h).held ≤ h.held + 1) → (most : ℕ) → (hs : List HandleRecord) → All (λ h. h.held < most) hs → All (λ h. h.held < most + 1) (changed node f hs)
  held_changed rises most [] all = All-nil (λ h. h.held < most + 1)
  held_changed rises most (h ∷ rest) all =
      let first : h.held < most = All-head (λ h. h.held < most) h rest all in
      let behind : All (λ h. h.held < most) rest = All-tail (λ h. h.held < most) h rest all in
      let weaker : All (λ h. h.held < most + 1) rest = All-weaker (λ h. h.held < most) (λ h. h.held < most + 1) (λ h low. omega arith) rest behind in
      elim (cases_Bool (same_ref h.node node)) [
        | inl same ↦
            rw same
            (elim (cases_Bool (is_needed (f h))) [
              | inl needed ↦ rw needed (All-cons (λ h. h.held < most + 1) (f h) rest (omega (arith, rises h)) weaker)
              | inr gone ↦ rw gone weaker
            ])
        | inr other ↦ rw other (All-cons (λ h. h.held < most + 1) h (changed node f rest) (omega arith) (held_changed rises most rest behind))
      ]

  -- no record is held more often
  pub held_lower : ((h : HandleRecord) → (f h).held ≤ h.held) → (most : ℕ) → (hs : List HandleRecord) → All (λ h. h.held < most) hs → All (λ h. h.held < most) (changed node f hs)
  held_lower stays most [] all = all
  held_lower stays most (h ∷ rest) all =
      let first : h.held < most = All-head (λ h. h.held < most) h rest all in
      let behind : All (λ h. h.held < most) rest = All-tail (λ h. h.held < most) h rest all in
      elim (cases_Bool (same_ref h.node node)) [
        | inl same ↦
            rw same
            (elim (cases_Bool (is_needed (f h))) [
              | inl needed ↦ rw needed (All-cons (λ h. h.held < most) (f h) rest (omega (arith, stays h)) behind)
              | inr gone ↦ rw gone behind
            ])
        | inr other ↦ rw other (All-cons (λ h. h.held < most) h (changed node f rest) first (held_lower stays most rest behind))
      ]

  -- one slot fewer carries the node
  module _ (keeps : (h : HandleRecord) → (f h).node ≡ h.node) (falls : (h : HandleRecord) → h.flight ≤ (f h).flight + 1) (other : NodeRef) where
    flight_kept : (h : HandleRecord) (rest : List HandleRecord) → (record_or_none other (h ∷ rest)).flight ≤ (record_or_none other (f h ∷ rest)).flight + cond (same_ref h.node other) 1 0
    flight_kept h rest =
        elim (cases_Bool (same_ref h.node other)) [
          | inl mine ↦
              let now : same_ref (f h).node other ≡ true = rw (keeps h) mine in
              rw (here other h rest mine, here other (f h) rest now, mine) (falls h)
          | inr not_mine ↦
              let now : same_ref (f h).node other ≡ false = rw (keeps h) not_mine in
              rw (further other h rest not_mine, further other (f h) rest now, not_mine) (omega arith)
        ]

    flight_gone : (h : HandleRecord) (rest : List HandleRecord) → (f h).flight ≡ 0 → (record_or_none other (h ∷ rest)).flight ≤ (record_or_none other rest).flight + cond (same_ref h.node other) 1 0
    flight_gone h rest none =
        elim (cases_Bool (same_ref h.node other)) [
          | inl mine ↦ rw (here other h rest mine, mine) (omega (arith, falls h, none))
          | inr not_mine ↦ rw (further other h rest not_mine, not_mine) (omega arith)
        ]

    pub flight_left : (hs : List HandleRecord) → (record_or_none other hs).flight ≤ (record_or_none other (changed node f hs)).flight + cond (same_ref node other) 1 0
    flight_left [] = omega arith
    flight_left (h ∷ rest) =
        elim (cases_Bool (same_ref h.node node)) [
          | inl same ↦
              rw (same, ← same_one h.node node same)
              (elim (cases_Bool (is_needed (f h))) [
                | inl needed ↦ rw needed (flight_kept h rest)
                | inr gone ↦ rw gone (flight_gone h rest (unneeded_flight (f h) gone))
              ])
          | inr not_node ↦
              rw not_node
              (elim (cases_Bool (same_ref h.node other)) [
                | inl mine ↦ rw (here other h rest mine, here other h (changed node f rest) mine) (omega arith)
                | inr not_mine ↦ rw (further other h rest not_mine, further other h (changed node f rest) not_mine) (flight_left rest)
              ])
        ]

-- a node's record is held as often as one of the records, or not
pub held_record : (node : NodeRef) (most : ℕ) (hs : List HandleRecord) → 0 < most → All (λ h. h.held < most) hs → (record_or_none node hs).held < most
held_record node most [] some all = some
held_record node most (h ∷ rest) some all =
    elim (cases_Bool (same_ref h.node node)) [
      | inl same ↦ rw (here node h rest same) (All-head (λ h. h.held < most) h rest all)
      | inr other ↦ rw (further node h rest other) (held_record node most rest some (All-tail (λ h. h.held < most) h rest all))
    ]

-- ---- a node that is expected and then not
same_itself : (a : NodeRef) → same_ref a a ≡ true
same_itself a = grind (arith, nat_tests)

pub more_is_needed : (h : HandleRecord) → is_needed (more_flight h) ≡ true
more_is_needed h = grind (arith, nat_tests)

less_more : (h : HandleRecord) → less_flight (more_flight h) ≡ h
less_more h =
    let e : h.flight + 1 - 1 ≡ h.flight = omega arith in
    ap (λ (n : ℕ). record h { flight = n }) e

pub taken_back : (node : NodeRef) (hs : List HandleRecord) → AreNeeded hs → changed node less_flight (changed_or_made node more_flight hs) ≡ hs
taken_back node [] all = rw (same_itself node) refl
taken_back node (h ∷ rest) all =
    let first : is_needed h ≡ true = All-head (λ h. is_needed h ≡ true) h rest all in
    let behind : AreNeeded rest = All-tail (λ h. is_needed h ≡ true) h rest all in
    elim (cases_Bool (same_ref h.node node)) [
      | inl same ↦
          let now : is_needed (less_flight (more_flight h)) ≡ true = ap is_needed (less_more h) ∙ first in
          rw (same, same, now) (ap (λ (g : HandleRecord). g ∷ rest) (less_more h))
      | inr other ↦
          rw other
          (elim (cases_Bool (ref_before node h.node)) [
            | inl before ↦ rw (before, same_itself node) refl
            | inr behind_it ↦ rw (behind_it, other) (ap (λ hs. h ∷ hs) (taken_back node rest behind))
          ])
    ]

-- an expected node is carried
pub flight_made : (node : NodeRef) (hs : List HandleRecord) → 0 < (record_or_none node (changed_or_made node more_flight hs)).flight
flight_made node [] = rw (here node (more_flight (no_record node)) [] (same_itself node)) (omega arith)
flight_made node (h ∷ rest) =
    elim (cases_Bool (same_ref h.node node)) [
      | inl same ↦ rw (same, here node (more_flight h) rest same) (omega arith)
      | inr other ↦
          rw other
          (elim (cases_Bool (ref_before node h.node)) [
            | inl before ↦ rw (before, here node (more_flight (no_record node)) (h ∷ rest) (same_itself node)) (omega arith)
            | inr behind_it ↦ rw (behind_it, further node h (changed_or_made node more_flight rest) other) (flight_made node rest)
          ])
    ]

-- ---- the carried nodes that are left
times_more : (node n : NodeRef) (nodes : List NodeRef) → times node (n ∷ nodes) ≡ cond (same_ref n node) 1 0 + times node nodes
times_more node n nodes = sum_by-cons (λ (m : NodeRef). cond (same_ref m node) 1 0) n nodes

pub carried_less : (node : NodeRef) (f : HandleRecord → HandleRecord) → ((h : HandleRecord) → (f h).node ≡ h.node) → ((h : HandleRecord) → h.flight ≤ (f h).flight + 1) → (nodes : List NodeRef) (hs : List HandleRecord) → AreCarried (node ∷ nodes) hs → AreCarried nodes (changed node f hs)
carried_less node f keeps falls nodes hs carried other = omega (arith, carried other, times_more other node nodes, flight_left node f keeps falls other hs)

pub carried_first : (node : NodeRef) (nodes : List NodeRef) (hs : List HandleRecord) → AreCarried (node ∷ nodes) hs → 0 < (record_or_none node hs).flight
carried_first node nodes hs carried =
    let one : times node (node ∷ nodes) ≡ 1 + times node nodes = times_more node node nodes ∙ rw (same_itself node) refl in
    omega (arith, one, carried node)

-- an own node is no foreign one, and another's is
pub carried_own : (me : ℕ) (node : NodeRef) (nodes : List NodeRef) (hs : List HandleRecord) → node.owner ≡ me → AreCarried (foreign me (node ∷ nodes)) hs → AreCarried (foreign me nodes) hs
carried_own me node nodes hs own carried = rw (eq-eqb node.owner me own) at carried

pub carried_other : (me : ℕ) (node : NodeRef) (nodes : List NodeRef) (hs : List HandleRecord) → node.owner ≢ me → AreCarried (foreign me (node ∷ nodes)) hs → AreCarried (node ∷ foreign me nodes) hs
carried_other me node nodes hs other carried = rw (ne_eqb node.owner me other) at carried

-- ---- counts over another's nodes alone, and over all
times_own : (me : ℕ) (node : NodeRef) (nodes : List NodeRef) → node.owner ≡ me → times node (foreign me nodes) ≡ 0
times_own me node [] own = refl
times_own me node (n ∷ rest) own =
    elim (cases_eq n.owner me) [
      | inl mine ↦ rw (eq-eqb n.owner me mine) (times_own me node rest own)
      | inr other ↦
          let apart : same_ref n node ≡ false = grind (arith, nat_tests) in
          rw (ne_eqb n.owner me other) (times_more node n (foreign me rest) ∙ rw apart (omega (arith, times_own me node rest own)))
    ]

times_other : (me : ℕ) (node : NodeRef) (nodes : List NodeRef) → times node (foreign me nodes) ≤ times node nodes
times_other me node [] = omega arith
times_other me node (n ∷ rest) =
    elim (cases_eq n.owner me) [
      | inl mine ↦ rw (eq-eqb n.owner me mine) (omega (arith, times_more node n rest, times_other me node rest))
      | inr other ↦ rw (ne_eqb n.owner me other) (omega (arith, times_more node n rest, times_more node n (foreign me rest), times_other me node rest))
    ]

-- it is enough that other peers' nodes are carried as often as they stand among all
pub carried_from : (me : ℕ) (nodes : List NodeRef) (hs : List HandleRecord) → ((node : NodeRef) → node.owner ≢ me → times node nodes ≤ (record_or_none node hs).flight) → AreCarried (foreign me nodes) hs
carried_from me nodes hs enough node =
    elim (cases_eq node.owner me) [
      | inl own ↦ omega (arith, times_own me node nodes own)
      | inr other ↦ omega (arith, times_other me node nodes, enough node other)
    ]
