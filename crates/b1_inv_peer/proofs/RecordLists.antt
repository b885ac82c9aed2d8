-- What changes of handle records leave of the list: every record is needed, how many there are, how many have no notice.
use Rattle.std.proofs.Common.{◌≡◌, refl, ap, ◌∙◌, inl, inr, ℕ, ◌+◌, ◌≤◌, Bool, true, false, cond, not, List, [], ◌∷◌, length, Some, None, ◌||◌, nat_lt}
use Rattle.std.proofs.lemmas.List.Sums.{sum_by-cons}
use native.Mathlib.Omega.{arith}
use Rattle.b1_model.specs.declared.naming.NodeRef.{NodeRef}
use Rattle.b1_model.specs.MachineParts.{HandleRecord, same_ref, ref_before, record_of, no_record}
use Rattle.b1_model.specs.MachineTables.{is_needed, changed, changed_or_made, more_flight, less_flight, noticed, expected, unexpected}
use Rattle.b1_step.specs.Rights.{Has}
use Rattle.b1_inv_peer.specs.PeerOk.{unnoticed}

abbrev Handles : Type 0
Handles = List HandleRecord

abbrev pub AllNeeded : Handles → Type 0
AllNeeded hs = (h : HandleRecord) → Has hs h → is_needed h ≡ true

-- ---- every record is needed

needed_cons : (h : HandleRecord) (rest : Handles) → is_needed h ≡ true → AllNeeded rest → AllNeeded (h ∷ rest)
needed_cons h rest is all g (inl same) = ap is_needed same ∙ is
needed_cons h rest is all g (inr there) = all g there

needed_rest : (h : HandleRecord) (rest : Handles) → AllNeeded (h ∷ rest) → AllNeeded rest
needed_rest h rest all g there = all g (inr there)

pub needed_changed : (node : NodeRef) (f : HandleRecord → HandleRecord) (hs : Handles) → AllNeeded hs → AllNeeded (changed node f hs)
needed_changed node f [] all = all
needed_changed node f (h ∷ rest) all = at (needed_changed node f rest (needed_rest h rest all)) (same_ref h.node node) (is_needed (f h)) refl
  where
    at : AllNeeded (changed node f rest) → (b c : Bool) → is_needed (f h) ≡ c → AllNeeded (cond b (cond c (f h ∷ rest) rest) (h ∷ changed node f rest))
    at further true true is = needed_cons (f h) rest is (needed_rest h rest all)
    at further true false is = needed_rest h rest all
    at further false c is = needed_cons h (changed node f rest) (all h (inl refl)) further

pub needed_made : (node : NodeRef) (f : HandleRecord → HandleRecord) → ((h : HandleRecord) → is_needed (f h) ≡ true) → (hs : Handles) → AllNeeded hs → AllNeeded (changed_or_made node f hs)
needed_made node f needs [] all = needed_cons (f (no_record node)) [] (needs (no_record node)) all
needed_made node f needs (h ∷ rest) all = at (needed_made node f needs rest (needed_rest h rest all)) (same_ref h.node node) (ref_before node h.node)
  where
    at : AllNeeded (changed_or_made node f rest) → (b c : Bool) → AllNeeded (cond b (f h ∷ rest) (cond c (f (no_record node) ∷ h ∷ rest) (h ∷ changed_or_made node f rest)))
    at further true c = needed_cons (f h) rest (needs h) (needed_rest h rest all)
    at further false true = needed_cons (f (no_record node)) (h ∷ rest) (needs (no_record node)) all
    at further false false = needed_cons h (changed_or_made node f rest) (all h (inl refl)) further

above_one : (n : ℕ) → nat_lt 0 (n + 1) ≡ true
above_one n = grind arith

or_middle : (a b c : Bool) → b ≡ true → (a || b || c) ≡ true
or_middle true b c is = refl
or_middle false b c is = rw is refl

or_first : (a b c : Bool) → a ≡ true → (a || b || c) ≡ true
or_first a b c is = rw is refl

or_last : (a b c : Bool) → c ≡ true → (a || b || c) ≡ true
or_last true b c is = refl
or_last false true c is = refl
or_last false false c is = is

pub flight_needs : (h : HandleRecord) → is_needed (more_flight h) ≡ true
flight_needs h = or_middle (nat_lt 0 h.held) (nat_lt 0 (h.flight + 1)) h.notice (above_one h.flight)

pub notice_needs : (h : HandleRecord) → is_needed (noticed h) ≡ true
notice_needs h = or_last (nat_lt 0 h.held) (nat_lt 0 h.flight) true refl

pub held_needs : (h : HandleRecord) (n : ℕ) → h.held ≡ n + 1 → is_needed h ≡ true
held_needs h n is = or_first (nat_lt 0 h.held) (nat_lt 0 h.flight) h.notice (ap (nat_lt 0) is ∙ above_one n)

pub needed_expected : (nodes : List NodeRef) (hs : Handles) → AllNeeded hs → AllNeeded (expected nodes hs)
needed_expected [] hs all = all
needed_expected (n ∷ rest) hs all = needed_expected rest (changed_or_made n more_flight hs) (needed_made n more_flight flight_needs hs all)

pub needed_unexpected : (nodes : List NodeRef) (hs : Handles) → AllNeeded hs → AllNeeded (unexpected nodes hs)
needed_unexpected [] hs all = all
needed_unexpected (n ∷ rest) hs all = needed_unexpected rest (changed n less_flight hs) (needed_changed n less_flight hs all)

-- ---- how many records there are

pub fewer_changed : (node : NodeRef) (f : HandleRecord → HandleRecord) (hs : Handles) → length (changed node f hs) ≤ length hs
fewer_changed node f [] = omega arith
fewer_changed node f (h ∷ rest) = at (fewer_changed node f rest) (same_ref h.node node) (is_needed (f h))
  where
    at : length (changed node f rest) ≤ length rest → (b c : Bool) → length (cond b (cond c (f h ∷ rest) rest) (h ∷ changed node f rest)) ≤ length (h ∷ rest)
    at further true true = omega arith
    at further true false = omega arith
    at further false c = omega (arith, further)

pub one_more_made : (node : NodeRef) (f : HandleRecord → HandleRecord) (hs : Handles) → length (changed_or_made node f hs) ≤ length hs + 1
one_more_made node f [] = omega arith
one_more_made node f (h ∷ rest) = at (one_more_made node f rest) (same_ref h.node node) (ref_before node h.node)
  where
    at : length (changed_or_made node f rest) ≤ length rest + 1 → (b c : Bool) → length (cond b (f h ∷ rest) (cond c (f (no_record node) ∷ h ∷ rest) (h ∷ changed_or_made node f rest))) ≤ length (h ∷ rest) + 1
    at further true c = omega arith
    at further false true = omega arith
    at further false false = omega (arith, further)

pub more_expected : (nodes : List NodeRef) (hs : Handles) → length (expected nodes hs) ≤ length hs + length nodes
more_expected [] hs = omega arith
more_expected (n ∷ rest) hs = let further = more_expected rest (changed_or_made n more_flight hs) in let head = one_more_made n more_flight hs in omega (arith, further, head)

pub fewer_unexpected : (nodes : List NodeRef) (hs : Handles) → length (unexpected nodes hs) ≤ length hs
fewer_unexpected [] hs = omega arith
fewer_unexpected (n ∷ rest) hs = let further = fewer_unexpected rest (changed n less_flight hs) in let head = fewer_changed n less_flight hs in omega (arith, further, head)

-- ---- how many records have no notice

abbrev free : HandleRecord → ℕ
free h = cond h.notice 0 1

free_cons : (h : HandleRecord) (rest : Handles) → unnoticed (h ∷ rest) ≡ free h + unnoticed rest
free_cons h rest = sum_by-cons free h rest

-- a change that leaves notices
pub unnoticed_changed : (node : NodeRef) (f : HandleRecord → HandleRecord) → ((h : HandleRecord) → (f h).notice ≡ h.notice) → (hs : Handles) → unnoticed (changed node f hs) ≤ unnoticed hs
unnoticed_changed node f same [] = omega arith
unnoticed_changed node f same (h ∷ rest) = at (unnoticed_changed node f same rest) (same_ref h.node node) (is_needed (f h))
  where
    at : unnoticed (changed node f rest) ≤ unnoticed rest → (b c : Bool) → unnoticed (cond b (cond c (f h ∷ rest) rest) (h ∷ changed node f rest)) ≤ unnoticed (h ∷ rest)
    at further true true = let head : free (f h) ≡ free h = ap (λ b. cond b 0 1) (same h) in let new = free_cons (f h) rest in let old = free_cons h rest in omega (arith, head, new, old)
    at further true false = let old = free_cons h rest in omega (arith, old)
    at further false c = let new = free_cons h (changed node f rest) in let old = free_cons h rest in omega (arith, further, new, old)

free_one : (h : HandleRecord) → free h ≤ 1
free_one h = elim h.notice as (λ b. cond b 0 1 ≤ 1) [ true ↦ omega arith | false ↦ omega arith ]

-- any change
pub unnoticed_one_more : (node : NodeRef) (f : HandleRecord → HandleRecord) (hs : Handles) → unnoticed (changed node f hs) ≤ unnoticed hs + 1
unnoticed_one_more node f [] = omega arith
unnoticed_one_more node f (h ∷ rest) = at (unnoticed_one_more node f rest) (same_ref h.node node) (is_needed (f h))
  where
    at : unnoticed (changed node f rest) ≤ unnoticed rest + 1 → (b c : Bool) → unnoticed (cond b (cond c (f h ∷ rest) rest) (h ∷ changed node f rest)) ≤ unnoticed (h ∷ rest) + 1
    at further true true = let head = free_one (f h) in let new = free_cons (f h) rest in let old = free_cons h rest in omega (arith, head, new, old)
    at further true false = let old = free_cons h rest in omega (arith, old)
    at further false c = let new = free_cons h (changed node f rest) in let old = free_cons h rest in omega (arith, further, new, old)

-- a record that gets its notice
pub unnoticed_noticed : (node : NodeRef) (hs : Handles) → (elim (record_of node hs) [ None ↦ false | Some h ↦ not h.notice ]) ≡ true → unnoticed (changed node noticed hs) + 1 ≡ unnoticed hs
unnoticed_noticed node [] is = absurd (cc is)
unnoticed_noticed node (h ∷ rest) is = at (unnoticed_noticed node rest) (same_ref h.node node) (is_needed (noticed h)) (notice_needs h) is
  where
    at : ((elim (record_of node rest) [ None ↦ false | Some g ↦ not g.notice ]) ≡ true → unnoticed (changed node noticed rest) + 1 ≡ unnoticed rest) → (b c : Bool) → c ≡ true → (elim (cond b (Some h) (record_of node rest)) [ None ↦ false | Some g ↦ not g.notice ]) ≡ true → unnoticed (cond b (cond c (noticed h ∷ rest) rest) (h ∷ changed node noticed rest)) + 1 ≡ unnoticed (h ∷ rest)
    at further true true needs here = let head : free h ≡ 1 = fresh h.notice here in let new = free_cons (noticed h) rest in let old = free_cons h rest in omega (arith, head, new, old)
      where
        fresh : (b : Bool) → not b ≡ true → ◌≡◌ {A = ℕ} (cond b 0 1) 1
        fresh true is_not = absurd (cc is_not)
        fresh false is_not = refl
    at further true false needs here = absurd (cc needs)
    at further false c needs here = let new = free_cons h (changed node noticed rest) in let old = free_cons h rest in let less = further here in omega (arith, less, new, old)

pub unnoticed_made : (node : NodeRef) (f : HandleRecord → HandleRecord) → ((h : HandleRecord) → (f h).notice ≡ h.notice) → (hs : Handles) → unnoticed (changed_or_made node f hs) ≤ unnoticed hs + 1
unnoticed_made node f same [] = let head = free_one (f (no_record node)) in let new = free_cons (f (no_record node)) [] in omega (arith, head, new)
unnoticed_made node f same (h ∷ rest) = at (unnoticed_made node f same rest) (same_ref h.node node) (ref_before node h.node)
  where
    at : unnoticed (changed_or_made node f rest) ≤ unnoticed rest + 1 → (b c : Bool) → unnoticed (cond b (f h ∷ rest) (cond c (f (no_record node) ∷ h ∷ rest) (h ∷ changed_or_made node f rest))) ≤ unnoticed (h ∷ rest) + 1
    at further true c = let head : free (f h) ≡ free h = ap (λ b. cond b 0 1) (same h) in let new = free_cons (f h) rest in let old = free_cons h rest in omega (arith, head, new, old)
    at further false true = let head = free_one (f (no_record node)) in let new = free_cons (f (no_record node)) (h ∷ rest) in omega (arith, head, new)
    at further false false = let new = free_cons h (changed_or_made node f rest) in let old = free_cons h rest in omega (arith, further, new, old)

pub unnoticed_expected : (nodes : List NodeRef) (hs : Handles) → unnoticed (expected nodes hs) ≤ unnoticed hs + length nodes
unnoticed_expected [] hs = omega arith
unnoticed_expected (n ∷ rest) hs = let further = unnoticed_expected rest (changed_or_made n more_flight hs) in let head = unnoticed_made n more_flight (λ h. refl) hs in omega (arith, further, head)

pub unnoticed_unexpected : (nodes : List NodeRef) (hs : Handles) → unnoticed (unexpected nodes hs) ≤ unnoticed hs
unnoticed_unexpected [] hs = omega arith
unnoticed_unexpected (n ∷ rest) hs = let further = unnoticed_unexpected rest (changed n less_flight hs) in let head = unnoticed_changed n less_flight (λ h. refl) hs in omega (arith, further, head)
