-- What a release and a flush leave of the amounts: what was held is owed, or is to be given up.
use Rattle.std.proofs.Common.{◌≡◌, ◌≢◌, ◌⊎◌, refl, sym, ap, ◌∙◌, inl, inr, subst, ℕ, zero, suc, ◌+◌, ◌-◌, ◌<◌, ◌≤◌, ◌==◌, Bool, true, false, cond, List, [], ◌∷◌, sum_by, find, filter_map, Option, Some, None, option_map}
use Rattle.std.specs.List.{range_with_len}
use Rattle.std.proofs.lemmas.List.Sums.{sum_by-cons}
use Rattle.std.proofs.lemmas.Bool.{cases_eq, eqb-true, eq-eqb}
use native.Mathlib.Omega.{arith}
use Rattle.b1_model.specs.declared.naming.NodeRef.{NodeRef}
use Rattle.b1_model.specs.MachineParts.{HandleRecord, same_ref, ref_before, is_staged, record_of}
use Rattle.b1_model.specs.MachineTables.{changed, less_held, is_number, held_node, next_number}
use Rattle.b1_model.specs.MachineReceive.{references, with_item}
use Rattle.b1_model.specs.MachineDestroy.{queued_items, held_item, held_items}
use Rattle.b1_model.specs.MachineCounts.{amount_in, queue_amount, dead_amount}
use Rattle.b1_step.specs.Rights.{Has}
use Rattle.b1_step.specs.Ordered.{BehindNode, Rising}
use Rattle.b1_step.proofs.Orders.{same_ref_is, same_ref_itself}
use Rattle.b1_inv.specs.Numbers.{AreNumbered}
use Rattle.b1_inv_refs.proofs.Amounts.{Refs, Items, dead_cons, dead_with_item, refs_cons, entry_amount, queue_cons}
use Rattle.b1_inv_refs.proofs.Views.{Handles, or_none, view_own, view_other, unneeded_held}
use Rattle.b1_inv_refs.proofs.Arrivals.{held_in}

-- ---- one record for a node, and one for a number

before_apart : (a b : NodeRef) → ref_before a b ≡ true → same_ref a b ≡ false
before_apart a b is = grind (arith, is)

behind_apart : (node : NodeRef) (hs : Handles) (h : HandleRecord) → BehindNode node hs → Has hs h → same_ref node h.node ≡ false
behind_apart node [] h b there = absurd there
behind_apart node (g ∷ rest) h b (inl same) = before_apart node h.node (subst (λ z. ref_before node z.node ≡ true) (sym same) b.0)
behind_apart node (g ∷ rest) h b (inr there) = behind_apart node rest h b.1 there

-- a record that stands there is found under its node
pub record_found : (hs : Handles) (h : HandleRecord) → Rising hs → Has hs h → record_of h.node hs ≡ Some h
record_found [] h up there = absurd there
record_found (g ∷ rest) h up (inl same) = subst (λ z. record_of z.node (g ∷ rest) ≡ Some z) (sym same) (rw (same_ref_itself g.node) refl)
record_found (g ∷ rest) h up (inr there) = rw (behind_apart g.node rest h up.0 there) (record_found rest h up.1 there)

pub one_record : (hs : Handles) (h k : HandleRecord) → Rising hs → Has hs h → Has hs k → h.node ≡ k.node → h ≡ k
one_record hs h k up a b same =
    let both : Some h ≡ Some k = sym (record_found hs h up a) ∙ ap (λ n. record_of n hs) same ∙ record_found hs k up b in
    cc both

pub found_has : (test : HandleRecord → Bool) (hs : Handles) (h : HandleRecord) → find test hs ≡ Some h → Has hs h × (test h ≡ true)
found_has test [] h is = absurd (cc is)
found_has test (g ∷ rest) h is = at (found_has test rest h) (test g) refl is
  where
    at : (find test rest ≡ Some h → Has rest h × (test h ≡ true)) → (b : Bool) → test g ≡ b → cond b (Some g) (find test rest) ≡ Some h → Has (g ∷ rest) h × (test h ≡ true)
    at further true passes here = let same : g ≡ h = cc here in (inl (sym same), ap test (sym same) ∙ passes)
    at further false passes here = let k = further here in (inr k.0, k.1)

pub found_none : (test : HandleRecord → Bool) (hs : Handles) (h : HandleRecord) → find test hs ≡ None → Has hs h → test h ≡ false
found_none test [] h is there = absurd there
found_none test (g ∷ rest) h is there = at (found_none test rest h) (test g) refl is there
  where
    at : (find test rest ≡ None → Has rest h → test h ≡ false) → (b : Bool) → test g ≡ b → cond b (Some g) (find test rest) ≡ None → Has (g ∷ rest) h → test h ≡ false
    at further true passes none here = absurd (cc none)
    at further false passes none (inl same) = ap test same ∙ passes
    at further false passes none (inr here) = further none here

by_number : (number : ℕ) (n : Option ℕ) → elim n [ None ↦ false | Some m ↦ m == number ] ≡ true → n ≡ Some number
by_number number None is = absurd (cc is)
by_number number (Some m) is = ap Some (eqb-true m number is)

pub number_is : (number : ℕ) (h : HandleRecord) → is_number number h ≡ true → h.number ≡ Some number
number_is number h is = by_number number h.number is

-- ---- a release

-- one reference fewer is held
pub held_less : (other node : NodeRef) (hs : Handles) → Rising hs → 1 ≤ held_in other hs → held_in node (changed other less_held hs) + cond (same_ref other node) 1 0 ≡ held_in node hs
held_less other node hs up some = at (same_ref other node) refl
  where
    at : (b : Bool) → same_ref other node ≡ b → held_in node (changed other less_held hs) + cond b 1 0 ≡ held_in node hs
    at false is = let k = view_other (λ h. h.held) less_held (λ h. refl) other node hs is in omega (arith, k)
    at true is =
        let same = same_ref_is other node is in
        subst (λ m. held_in m (changed other less_held hs) + 1 ≡ held_in m hs) same
        (let k = view_own (λ h. h.held) less_held (λ h. refl) (λ n. n - 1) refl (λ n. refl) (λ h. refl) unneeded_held other hs up in omega (arith, k, some))

-- what a held number names is held
pub held_found : (given number : ℕ) (hs : Handles) (node : NodeRef) → AreNumbered given hs → held_node number hs ≡ Some node → (h : HandleRecord) × Has hs h × (h.node ≡ node) × (1 ≤ h.held)
held_found given number hs node all is = at (find (is_number number) hs) refl is
  where
    at : (r : Option HandleRecord) → find (is_number number) hs ≡ r → elim r [ None ↦ None | Some h ↦ Some h.node ] ≡ Some node → (h : HandleRecord) × Has hs h × (h.node ≡ node) × (1 ≤ h.held)
    at None found here = absurd (cc here)
    at (Some h) found here =
        let k = found_has (is_number number) hs h found in
        let same : h.node ≡ node = cc here in
        (h, k.0, same, (all.held h number k.0 (number_is number h k.1)).0)

pub held_of : (hs : Handles) (h : HandleRecord) → Rising hs → Has hs h → held_in h.node hs ≡ h.held
held_of hs h up there = ap (λ r. (or_none h.node r).held) (record_found hs h up there)

-- ---- a flush: the queue's references

pub queued_amount : (node : NodeRef) (queue : Items) (dead : List Refs) → dead_amount node (queued_items queue dead) ≡ dead_amount node dead + queue_amount node queue
queued_amount node [] dead = omega arith
queued_amount node (f ∷ rest) dead = at (is_staged f) refl (queued_amount node rest)
  where
    at : (b : Bool) → is_staged f ≡ b → ((d : List Refs) → dead_amount node (queued_items rest d) ≡ dead_amount node d + queue_amount node rest) → dead_amount node (queued_items rest (cond b dead (with_item (references f.1) dead))) ≡ dead_amount node dead + queue_amount node (f ∷ rest)
    at true is further =
        let one = further dead in
        let two = queue_cons node f rest in
        let three : entry_amount node f ≡ 0 = ap (λ b. cond b 0 (amount_in node (references f.1))) is in
        omega (arith, one, two, three)
    at false is further =
        let one = further (with_item (references f.1) dead) in
        let two = queue_cons node f rest in
        let three : entry_amount node f ≡ amount_in node (references f.1) = ap (λ b. cond b 0 (amount_in node (references f.1))) is in
        let four = dead_with_item node (references f.1) dead in
        omega (arith, one, two, three, four)

-- ---- and what is held

sum_zero : (f : ℕ → ℕ) (len from : ℕ) → ((g : ℕ) → f g ≡ 0) → sum_by f (range_with_len from len) ≡ 0
sum_zero f zero from none = refl
sum_zero f (suc len) from none = let one = sum_by-cons f from (range_with_len (from + 1) len) in let two = none from in let three = sum_zero f len (from + 1) none in omega (arith, one, two, three)

sum_above : (f : ℕ → ℕ) (len from one : ℕ) → one < from → ((g : ℕ) → g ≢ one → f g ≡ 0) → sum_by f (range_with_len from len) ≡ 0
sum_above f zero from one less others = refl
sum_above f (suc len) from one less others =
    let a = sum_by-cons f from (range_with_len (from + 1) len) in
    let b = others from (λ e. absurd (omega (arith, e, less))) in
    let c = sum_above f len (from + 1) one (omega (arith, less)) others in
    omega (arith, a, b, c)

sum_single : (f : ℕ → ℕ) (len from one : ℕ) → from ≤ one → one < from + len → ((g : ℕ) → g ≢ one → f g ≡ 0) → sum_by f (range_with_len from len) ≡ f one
sum_single f zero from one low high others = absurd (omega (arith, low, high))
sum_single f (suc len) from one low high others = at (cases_eq from one) (sum_single f len (from + 1) one)
  where
    at : (from ≡ one) ⊎ (from ≡ one → ⊥) → (from + 1 ≤ one → one < from + 1 + len → ((g : ℕ) → g ≢ one → f g ≡ 0) → sum_by f (range_with_len (from + 1) len) ≡ f one) → sum_by f (range_with_len from (suc len)) ≡ f one
    at (inl same) further =
        let a = sum_by-cons f from (range_with_len (from + 1) len) in
        let b = sum_above f len (from + 1) one (omega (arith, same)) others in
        let c = ap f same in
        omega (arith, a, b, c)
    at (inr apart) further =
        let a = sum_by-cons f from (range_with_len (from + 1) len) in
        let b = others from apart in
        let c = further (omega (arith, low, apart)) (omega (arith, high)) others in
        omega (arith, a, b, c)

module _ (node : NodeRef) where
  -- what an item counts, where there is one
  abbrev option_amount : Option Refs → ℕ
  option_amount item = elim item [ None ↦ 0 | Some refs ↦ amount_in node refs ]

  items_amount : (make : ℕ → Option Refs) (gs : List ℕ) → dead_amount node (filter_map make gs) ≡ sum_by (λ g. option_amount (make g)) gs
  items_amount make [] = refl
  items_amount make (g ∷ rest) = at (make g) refl (items_amount make rest)
    where
      at : (item : Option Refs) → make g ≡ item → dead_amount node (filter_map make rest) ≡ sum_by (λ g. option_amount (make g)) rest → dead_amount node (filter_map make (g ∷ rest)) ≡ sum_by (λ g. option_amount (make g)) (g ∷ rest)
      at None is further =
          let one = sum_by-cons (λ g. option_amount (make g)) g rest in
          let two : option_amount (make g) ≡ 0 = ap option_amount is in
          let three : dead_amount node (filter_map make (g ∷ rest)) ≡ dead_amount node (filter_map make rest) = rw is refl in
          omega (arith, one, two, three, further)
      at (Some refs) is further =
          let one = sum_by-cons (λ g. option_amount (make g)) g rest in
          let two : option_amount (make g) ≡ amount_in node refs = ap option_amount is in
          let three : dead_amount node (filter_map make (g ∷ rest)) ≡ amount_in node refs + dead_amount node (filter_map make rest) = rw is (dead_cons node refs (filter_map make rest)) in
          omega (arith, one, two, three, further)

  module _ (given : ℕ) (hs : Handles) (all : AreNumbered given hs) (up : Rising hs) where
    -- what the record with the number g-th given counts
    abbrev number_amount : ℕ → ℕ
    number_amount g = option_amount (held_item hs (next_number g))

    item_of : Option HandleRecord → Option Refs
    item_of r = option_map (λ h. (h.node, h.held) ∷ []) r

    item_amount : (h : HandleRecord) → amount_in node ((h.node, h.held) ∷ []) ≡ cond (same_ref h.node node) h.held 0
    item_amount h = let k : amount_in node ((h.node, h.held) ∷ []) ≡ cond (same_ref h.node node) h.held 0 + 0 = refs_cons node (h.node, h.held) [] in omega (arith, k)

    no_amount : (g : ℕ) → ((h : HandleRecord) → Has hs h → h.number ≡ Some (next_number g) → same_ref h.node node ≡ false) → number_amount g ≡ 0
    no_amount g none = at (find (is_number (next_number g)) hs) refl
      where
        at : (r : Option HandleRecord) → find (is_number (next_number g)) hs ≡ r → option_amount (option_map (λ h. (h.node, h.held) ∷ []) r) ≡ 0
        at None found = refl
        at (Some h) found = let k = found_has (is_number (next_number g)) hs h found in item_amount h ∙ ap (λ b. cond b h.held 0) (none h k.0 (number_is (next_number g) h k.1))

    has_number : (number : ℕ) (h : HandleRecord) → h.number ≡ Some number → is_number number h ≡ true
    has_number number h is = rw is (eq-eqb number number refl)

    some_amount : (g : ℕ) (h : HandleRecord) → Has hs h → h.number ≡ Some (next_number g) → same_ref h.node node ≡ true → number_amount g ≡ h.held
    some_amount g h there is same = at (find (is_number (next_number g)) hs) refl
      where
        at : (r : Option HandleRecord) → find (is_number (next_number g)) hs ≡ r → option_amount (option_map (λ k. (k.node, k.held) ∷ []) r) ≡ h.held
        at None found = absurd (cc (sym (found_none (is_number (next_number g)) hs h found there) ∙ has_number (next_number g) h is))
        at (Some k) found =
            let l = found_has (is_number (next_number g)) hs k found in
            let one : k ≡ h = one_record hs k h up l.0 there (all.apart k h (next_number g) l.0 there (number_is (next_number g) k l.1) is) in
            item_amount k ∙ ap (λ z. cond (same_ref z.node node) z.held 0) one ∙ ap (λ b. cond b h.held 0) same

    same_record : (h k : HandleRecord) → Has hs h → Has hs k → same_ref h.node node ≡ true → same_ref k.node node ≡ true → h ≡ k
    same_record h k a b is_h is_k = one_record hs h k up a b (same_ref_is h.node node is_h ∙ sym (same_ref_is k.node node is_k))

    -- where the node has a record
    by_number_of : (h : HandleRecord) → Has hs h → same_ref h.node node ≡ true → (n : Option ℕ) → h.number ≡ n → sum_by number_amount (range_with_len 0 given) ≡ h.held
    by_number_of h there same None is =
        sum_zero number_amount given 0 (λ g. no_amount g (λ k has number. at g k has number (same_ref k.node node) refl)) ∙ sym (all.unheld h there is)
      where
        at : (g : ℕ) (k : HandleRecord) → Has hs k → k.number ≡ Some (next_number g) → (b : Bool) → same_ref k.node node ≡ b → b ≡ false
        at g k has number true alike = absurd (cc (sym is ∙ ap (λ z. z.number) (same_record h k there has same alike) ∙ number))
        at g k has number false alike = refl
    by_number_of h there same (Some number) is =
        let was = (all.held h number there is).1 in
        sum_single number_amount given 0 was.0 (omega arith) (omega (arith, was.1)) (λ g apart. no_amount g (λ k has of_k. at was.0 was.2 g apart k has of_k (same_ref k.node node) refl))
        ∙ some_amount was.0 h there (is ∙ ap Some was.2) same
      where
        at : (one : ℕ) → number ≡ next_number one → (g : ℕ) → g ≢ one → (k : HandleRecord) → Has hs k → k.number ≡ Some (next_number g) → (b : Bool) → same_ref k.node node ≡ b → b ≡ false
        at one number_of g apart k has of_k true alike =
            let equal : Some number ≡ Some (next_number g) = sym is ∙ ap (λ z. z.number) (same_record h k there has same alike) ∙ of_k in
            let numbers : number ≡ next_number g = cc equal in
            absurd (apart (omega (arith, numbers, number_of)))
        at one number_of g apart k has of_k false alike = refl

    by_record : (r : Option HandleRecord) → record_of node hs ≡ r → sum_by number_amount (range_with_len 0 given) ≡ (or_none node r).held
    by_record None found = sum_zero number_amount given 0 (λ g. no_amount g (λ h there is. found_none (λ z. same_ref z.node node) hs h found there))
    by_record (Some h) found = let k = found_has (λ z. same_ref z.node node) hs h found in by_number_of h k.0 k.1 h.number refl

    pub held_items_amount : dead_amount node (held_items given hs) ≡ held_in node hs
    held_items_amount = items_amount (λ g. held_item hs (next_number g)) (range_with_len 0 given) ∙ by_record (record_of node hs) refl
