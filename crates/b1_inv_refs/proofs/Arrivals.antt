-- What receiving leaves of flights and of amounts: removals, then the slots of the entry that is taken.
use Rattle.std.proofs.Common.{◌≡◌, ◌≢◌, refl, sym, ap, ◌∙◌, inl, inr, subst, ℕ, zero, suc, ◌+◌, ◌-◌, ◌≤◌, Bool, true, false, cond, ◌&&◌, not, List, [], ◌∷◌, ◌++◌, take, drop, take_while, fold, zip, length, sum_by}
use Rattle.std.proofs.lemmas.List.Sums.{sum_by-cons, sum_by-append, take_while-cons}
use Rattle.std.proofs.lemmas.Bool.{and_parts, not-true}
use native.Mathlib.Omega.{arith}
use Rattle.b1_model.specs.declared.naming.Key.{Key}
use Rattle.b1_model.specs.declared.naming.NodeRef.{NodeRef}
use Rattle.b1_model.specs.declared.parts.Slot.{Slot}
use Rattle.b1_model.specs.declared.parts.Slot.TheVariants as slot
use Rattle.b1_model.specs.declared.entries.Entry.{Entry}
use Rattle.b1_model.specs.declared.entries.Entry.TheVariants.{Message, OwnNotice, ForeignNotice, ReleaseNotice}
use Rattle.b1_model.specs.MachineParts.{PeerPart, same_ref, is_staged, record_or_none, carried}
use Rattle.b1_model.specs.MachineTables.{less_flight, more_held, made_dead, foreign, next_number}
use Rattle.b1_model.specs.MachineReceive.{is_for_nobody, discards, discarded, cleared, references, Arriving, reference_by, slot_arrives}
use Rattle.b1_model.specs.MachineCounts.{amount_in, dead_amount, queue_amount}
use Rattle.b1_step.specs.Rights.{Has}
use Rattle.b1_step.specs.Ordered.{Rising}
use Rattle.b1_step.proofs.Lookups.{rising_changed}
use Rattle.b1_step.proofs.Orders.{same_ref_is, same_ref_itself}
use Rattle.b1_inv.specs.Sends.{IsFilled}
use Rattle.b1_inv.specs.References.{AreFilled, times_in, carried_times}
use Rattle.b1_inv_refs.proofs.Amounts.{Items, refs_append, refs_cons, slot_amount, slots_amount, slots_cons, nothing_of, dead_with_item, entry_amount, queue_cons}
use Rattle.b1_inv_refs.proofs.Views.{Handles, rising_unexpected, flight_less, flight_same, flight_unexpected, held_same, held_unexpected, held_more, times_cons, times_foreign}

-- how often a node is held, and in flight, by the records
abbrev pub held_in : NodeRef → Handles → ℕ
held_in node hs = (record_or_none node hs).held

abbrev pub flight_in : NodeRef → Handles → ℕ
flight_in node hs = (record_or_none node hs).flight

-- what receiving leaves of a part, until its item joins the dead list
pub record SameRest (x y : PeerPart) : Type 0 where
  pub me : y.me ≡ x.me
  pub queue : y.queue ≡ x.queue
  pub nodes : y.nodes ≡ x.nodes
  pub dead : y.dead ≡ x.dead

same_rest : (x y z : PeerPart) → SameRest x y → SameRest y z → SameRest x z
same_rest x y z a b = record { me = b.me ∙ a.me; queue = b.queue ∙ a.queue; nodes = b.nodes ∙ a.nodes; dead = b.dead ∙ a.dead }

-- ---- one slot

pub slot_rest : (a : Arriving) (with : NodeRef) (t : Slot) → SameRest a.part (slot_arrives a (with, t)).part
slot_rest a with slot.Unattached = record { me = refl; queue = refl; nodes = refl; dead = refl }
slot_rest a with slot.Own = record { me = refl; queue = refl; nodes = refl; dead = refl }
slot_rest a with slot.Void = record { me = refl; queue = refl; nodes = refl; dead = refl }
slot_rest a with slot.Attached = at (record_or_none with a.part.handles).dead
  where
    at : (b : Bool) → SameRest a.part (reference_by b a with).part
    at true = record { me = refl; queue = refl; nodes = refl; dead = refl }
    at false = record { me = refl; queue = refl; nodes = refl; dead = refl }

pub slot_rising : (a : Arriving) (with : NodeRef) (t : Slot) → Rising a.part.handles → Rising (slot_arrives a (with, t)).part.handles
slot_rising a with slot.Unattached up = rising_unexpected (foreign a.part.me (with ∷ [])) a.part.handles up
slot_rising a with slot.Own up = up
slot_rising a with slot.Void up = rising_unexpected (foreign a.part.me (with ∷ [])) a.part.handles up
slot_rising a with slot.Attached up = at (record_or_none with a.part.handles).dead
  where
    at : (b : Bool) → Rising (reference_by b a with).part.handles
    at true = rising_changed with less_flight (λ h. refl) a.part.handles up
    at false = rising_changed with (λ g. more_held (next_number a.part.given) (less_flight g)) (λ h. refl) a.part.handles up

abbrev at_peer : ℕ → NodeRef
at_peer q = record { owner = q; serial = 0 }

-- one carried node fewer is in flight
pub slot_flight : (q : ℕ) (a : Arriving) (with : NodeRef) (t : Slot) (node : NodeRef) → a.part.me ≡ q → IsFilled (at_peer q) with t → node.owner ≢ q → Rising a.part.handles → flight_in node (slot_arrives a (with, t)).part.handles ≡ flight_in node a.part.handles - cond (same_ref with node) 1 0
slot_flight q a with slot.Unattached node me filled apart up = absurd filled
slot_flight q a with slot.Void node me filled apart up =
    let one = flight_unexpected node (foreign a.part.me (with ∷ [])) a.part.handles up in
    let two = times_foreign a.part.me node (with ∷ []) (λ e. apart (e ∙ me)) in
    let three : times_in node (with ∷ []) ≡ cond (same_ref with node) 1 0 + 0 = times_cons node with [] in
    omega (arith, one, two, three)
slot_flight q a with slot.Own node me filled apart up = at (same_ref with node) refl
  where
    at : (b : Bool) → same_ref with node ≡ b → flight_in node a.part.handles ≡ flight_in node a.part.handles - cond b 1 0
    at true is = absurd (apart (sym (ap (λ z. z.owner) (same_ref_is with node is)) ∙ filled))
    at false is = omega arith
slot_flight q a with slot.Attached node me filled apart up = at (record_or_none with a.part.handles).dead
  where
    at : (b : Bool) → flight_in node (reference_by b a with).part.handles ≡ flight_in node a.part.handles - cond (same_ref with node) 1 0
    at true = flight_less less_flight (λ h. refl) (λ h. refl) with node a.part.handles up
    at false = flight_less (λ g. more_held (next_number a.part.given) (less_flight g)) (λ h. refl) (λ h. refl) with node a.part.handles up

-- an attached slot is held once more, or goes to the references that are given up
pub slot_held : (q : ℕ) (a : Arriving) (with : NodeRef) (t : Slot) (node : NodeRef) → IsFilled (at_peer q) with t → (with.owner ≢ q → 1 ≤ flight_in with a.part.handles) → Rising a.part.handles
    → held_in node (slot_arrives a (with, t)).part.handles + amount_in node (slot_arrives a (with, t)).refs ≡ held_in node a.part.handles + amount_in node a.refs + slot_amount node with t
slot_held q a with slot.Unattached node filled some up = absurd filled
slot_held q a with slot.Void node filled some up =
    let one = held_unexpected node (foreign a.part.me (with ∷ [])) a.part.handles up in
    let two = nothing_of node (same_ref with node) in
    omega (arith, one, two)
slot_held q a with slot.Own node filled some up = let two = nothing_of node (same_ref with node) in omega (arith, two)
slot_held q a with slot.Attached node filled some up = at (record_or_none with a.part.handles).dead
  where
    at : (b : Bool) → held_in node (reference_by b a with).part.handles + amount_in node (reference_by b a with).refs ≡ held_in node a.part.handles + amount_in node a.refs + cond (same_ref with node) 1 0
    at true =
        let one = held_same less_flight (λ h. refl) (λ h. refl) with node a.part.handles up in
        let two = refs_append node a.refs ((with, 1) ∷ []) in
        let three : amount_in node ((with, 1) ∷ []) ≡ cond (same_ref with node) 1 0 + 0 = refs_cons node (with, 1) [] in
        omega (arith, one, two, three)
    at false =
        let one = held_more (next_number a.part.given) with node a.part.handles up (some filled) in
        omega (arith, one)

-- ---- the slots of a message

pub slots_rest : (nodes : List NodeRef) (slots : List Slot) (a : Arriving) → SameRest a.part (fold slot_arrives a (zip nodes slots)).part
slots_rest [] slots a = record { me = refl; queue = refl; nodes = refl; dead = refl }
slots_rest (n ∷ nodes) [] a = record { me = refl; queue = refl; nodes = refl; dead = refl }
slots_rest (n ∷ nodes) (t ∷ slots) a = same_rest a.part (slot_arrives a (n, t)).part _ (slot_rest a n t) (slots_rest nodes slots (slot_arrives a (n, t)))

pub slots_rising : (nodes : List NodeRef) (slots : List Slot) (a : Arriving) → Rising a.part.handles → Rising (fold slot_arrives a (zip nodes slots)).part.handles
slots_rising [] slots a up = up
slots_rising (n ∷ nodes) [] a up = up
slots_rising (n ∷ nodes) (t ∷ slots) a up = slots_rising nodes slots (slot_arrives a (n, t)) (slot_rising a n t up)

pub slots_flight : (q : ℕ) (nodes : List NodeRef) (slots : List Slot) (a : Arriving) (node : NodeRef) → a.part.me ≡ q → AreFilled q nodes slots → node.owner ≢ q → Rising a.part.handles → flight_in node (fold slot_arrives a (zip nodes slots)).part.handles ≡ flight_in node a.part.handles - times_in node nodes
slots_flight q [] [] a node me filled apart up = omega arith
slots_flight q [] (t ∷ slots) a node me filled apart up = absurd filled
slots_flight q (n ∷ nodes) [] a node me filled apart up = absurd filled
slots_flight q (n ∷ nodes) (t ∷ slots) a node me filled apart up =
    let one = slot_flight q a n t node me filled.0 apart up in
    let two = slots_flight q nodes slots (slot_arrives a (n, t)) node ((slot_rest a n t).me ∙ me) filled.1 apart (slot_rising a n t up) in
    let three = times_cons node n nodes in
    omega (arith, one, two, three)

-- each carried node of another peer is so often in flight
abbrev pub InFlight : ℕ → List NodeRef → Handles → Type 0
InFlight q nodes hs = (m : NodeRef) → m.owner ≢ q → times_in m nodes ≤ flight_in m hs

pub slots_held : (q : ℕ) (nodes : List NodeRef) (slots : List Slot) (a : Arriving) (node : NodeRef) → a.part.me ≡ q → AreFilled q nodes slots → InFlight q nodes a.part.handles → Rising a.part.handles
    → held_in node (fold slot_arrives a (zip nodes slots)).part.handles + amount_in node (fold slot_arrives a (zip nodes slots)).refs ≡ held_in node a.part.handles + amount_in node a.refs + slots_amount node nodes slots
slots_held q [] [] a node me filled flies up = omega arith
slots_held q [] (t ∷ slots) a node me filled flies up = absurd filled
slots_held q (n ∷ nodes) [] a node me filled flies up = absurd filled
slots_held q (n ∷ nodes) (t ∷ slots) a node me filled flies up =
    let own : n.owner ≢ q → 1 ≤ flight_in n a.part.handles = λ apart.
    let k = flies n apart in
    let l = times_cons n n nodes in
    let m : cond {A = ℕ} (same_ref n n) 1 0 ≡ 1 = ap (λ b. cond b 1 0) (same_ref_itself n) in
    omega (arith, k, l, m)
    in
    let one = slot_held q a n t node filled.0 own up in
    let left : InFlight q nodes (slot_arrives a (n, t)).part.handles = λ m apart.
    let k = flies m apart in
    let l = times_cons m n nodes in
    let f = slot_flight q a n t m me filled.0 apart up in
    omega (arith, k, l, f)
    in
    let two = slots_held q nodes slots (slot_arrives a (n, t)) node ((slot_rest a n t).me ∙ me) filled.1 left (slot_rising a n t up) in
    let three = slots_cons node n t nodes slots in
    omega (arith, one, two, three)

-- ---- removals

pub carried_cons : (node : NodeRef) (f : Key × Entry) (rest : Items) → carried_times node (f ∷ rest) ≡ times_in node (carried f.1) + carried_times node rest
carried_cons node f rest = sum_by-cons _ f rest

-- what a removal leaves
pub record Removed (x y : PeerPart) (es : Items) : Type 0 where
  pub me : y.me ≡ x.me
  pub queue : y.queue ≡ x.queue
  pub nodes : y.nodes ≡ x.nodes
  pub given : y.given ≡ x.given
  pub rising : Rising x.handles → Rising y.handles
  pub held : (node : NodeRef) → Rising x.handles → held_in node y.handles ≡ held_in node x.handles
  pub flight : (node : NodeRef) → Rising x.handles → node.owner ≢ x.me → flight_in node y.handles ≡ flight_in node x.handles - carried_times node es
  pub dead : (node : NodeRef) → dead_amount node y.dead ≡ dead_amount node x.dead + sum_by (λ (f : Key × Entry). amount_in node (references f.1)) es

one_removed : (x : PeerPart) (k : Key) (e : Entry) → Removed x (discarded x e) ((k, e) ∷ [])
one_removed x k (Message origin user index serial offset len nodes slots handles payload) = record {
  me = refl;
  queue = refl;
  nodes = refl;
  given = refl;
  rising = λ up. rising_unexpected (foreign x.me nodes) x.handles up;
  held = λ node up. held_unexpected node (foreign x.me nodes) x.handles up;
  flight = λ node up apart.
      let one = flight_unexpected node (foreign x.me nodes) x.handles up in
      let two = times_foreign x.me node nodes apart in
      let three : carried_times node ((k, Message origin user index serial offset len nodes slots handles payload) ∷ []) ≡ times_in node nodes + 0 = carried_cons node (k, Message origin user index serial offset len nodes slots handles payload) [] in
      omega (arith, one, two, three);
  dead = λ node. dead_with_item node (references (Message origin user index serial offset len nodes slots handles payload)) x.dead ∙ ap (λ n. dead_amount node x.dead + n) (sym (sum_by-cons (λ (f : Key × Entry). amount_in node (references f.1)) (k, Message origin user index serial offset len nodes slots handles payload) [] ∙ omega arith));
}
one_removed x k (OwnNotice serial index) = record { me = refl; queue = refl; nodes = refl; given = refl; rising = λ up. up; held = λ node up. refl; flight = λ node up apart. omega arith; dead = λ node. omega arith }
one_removed x k (ReleaseNotice serial) = record { me = refl; queue = refl; nodes = refl; given = refl; rising = λ up. up; held = λ node up. refl; flight = λ node up apart. omega arith; dead = λ node. omega arith }
one_removed x k (ForeignNotice other index) = record {
  me = refl;
  queue = refl;
  nodes = refl;
  given = refl;
  rising = λ up. rising_changed other made_dead (λ h. refl) x.handles up;
  held = λ node up. held_same made_dead (λ h. refl) (λ h. refl) other node x.handles up;
  flight = λ node up apart. flight_same made_dead (λ h. refl) (λ h. refl) other node x.handles up ∙ omega arith;
  dead = λ node. omega arith;
}

pub all_removed : (es : Items) (x : PeerPart) → Removed x (fold (λ y f. discarded y f.1) x es) es
all_removed [] x = record { me = refl; queue = refl; nodes = refl; given = refl; rising = λ up. up; held = λ node up. refl; flight = λ node up apart. omega arith; dead = λ node. omega arith }
all_removed (f ∷ rest) x =
    let a = one_removed x f.0 f.1 in
    let b = all_removed rest (discarded x f.1) in
    record {
      me = b.me ∙ a.me;
      queue = b.queue ∙ a.queue;
      nodes = b.nodes ∙ a.nodes;
      given = b.given ∙ a.given;
      rising = λ up. b.rising (a.rising up);
      held = λ node up. b.held node (a.rising up) ∙ a.held node up;
      flight = λ node up apart.
          let one = a.flight node up apart in
          let two = b.flight node (a.rising up) (λ e. apart (e ∙ a.me)) in
          let three = carried_cons node f rest in
          let four : carried_times node ((f.0, f.1) ∷ []) ≡ times_in node (carried f.1) + 0 = carried_cons node f [] in
          omega (arith, one, two, three, four);
      dead = λ node.
          let one = a.dead node in
          let two = b.dead node in
          let three = sum_by-cons (λ (g : Key × Entry). amount_in node (references g.1)) f rest in
          let four : sum_by (λ (g : Key × Entry). amount_in node (references g.1)) ((f.0, f.1) ∷ []) ≡ amount_in node (references f.1) + 0 = sum_by-cons (λ (g : Key × Entry). amount_in node (references g.1)) f [] in
          omega (arith, one, two, three, four);
    }

-- ---- the queue in two: what is removed, and what is left

parts : {X : Type 0} (n : ℕ) (xs : List X) → xs ≡ take n xs ++ drop (length (take n xs)) xs
parts zero xs = refl
parts (suc n) [] = refl
parts (suc n) (x ∷ xs) = ap (λ z. x ∷ z) (parts n xs)

pub passes : {X : Type 0} (test : X → Bool) (xs : List X) (x : X) → Has (take_while test xs) x → test x ≡ true
passes test [] x h = absurd h
passes {X} test (y ∷ xs) x h = at (passes test xs x) (test y) refl (subst (λ l. Has l x) (take_while-cons test y xs) h)
  where
    at : (Has (take_while test xs) x → test x ≡ true) → (b : Bool) → test y ≡ b → Has (cond b (y ∷ take_while test xs) []) x → test x ≡ true
    at further true is (inl same) = ap test same ∙ is
    at further true is (inr there) = further there
    at further false is there = absurd there

pub queue_parts : (x : PeerPart) → x.queue ≡ discards x ++ (cleared x).queue
queue_parts x = parts _ x.queue ∙ ap (λ l. discards x ++ l) (sym (all_removed (discards x) (record x { queue = drop (length (discards x)) x.queue })).queue)

committed_sum : (node : NodeRef) (es : Items) → ((f : Key × Entry) → Has es f → is_staged f ≡ false) → sum_by (λ (f : Key × Entry). amount_in node (references f.1)) es ≡ queue_amount node es
committed_sum node [] all = refl
committed_sum node (f ∷ rest) all =
    let one = sum_by-cons (λ (g : Key × Entry). amount_in node (references g.1)) f rest in
    let two = queue_cons node f rest in
    let three : entry_amount node f ≡ amount_in node (references f.1) = ap (λ b. cond b 0 (amount_in node (references f.1))) (all f (inl refl)) in
    let further = committed_sum node rest (λ g h. all g (inr h)) in
    omega (arith, one, two, three, further)

-- the part after the removals: its queue, flights and amounts
pub record Cleared (x : PeerPart) : Type 0 where
  pub me : (cleared x).me ≡ x.me
  pub nodes : (cleared x).nodes ≡ x.nodes
  pub given : (cleared x).given ≡ x.given
  pub rising : Rising (cleared x).handles
  pub held : (node : NodeRef) → held_in node (cleared x).handles ≡ held_in node x.handles
  pub amount : (node : NodeRef) → queue_amount node x.queue + dead_amount node x.dead ≡ queue_amount node (cleared x).queue + dead_amount node (cleared x).dead
  pub flight : (node : NodeRef) → node.owner ≢ x.me → flight_in node x.handles ≡ carried_times node x.queue → flight_in node (cleared x).handles ≡ carried_times node (cleared x).queue

pub is_cleared : (x : PeerPart) → Rising x.handles → Cleared x
is_cleared x up =
    let k = all_removed (discards x) (record x { queue = drop (length (discards x)) x.queue }) in
    let committed : (f : Key × Entry) → Has (discards x) f → is_staged f ≡ false = λ f h. not-true (is_staged f) (and_parts (not (is_staged f)) (is_for_nobody x f.1) (passes (λ g. not (is_staged g) && is_for_nobody x g.1) x.queue f h)).0 in
    record {
      me = k.me;
      nodes = k.nodes;
      given = k.given;
      rising = k.rising up;
      held = λ node. k.held node up;
      amount = λ node.
          let one = ap (queue_amount node) (queue_parts x) ∙ sum_by-append (entry_amount node) (discards x) (cleared x).queue in
          let two = committed_sum node (discards x) committed in
          let three = k.dead node in
          omega (arith, one, two, three);
      flight = λ node apart flies.
          let one = ap (carried_times node) (queue_parts x) ∙ sum_by-append (λ (f : Key × Entry). times_in node (carried f.1)) (discards x) (cleared x).queue in
          let two = k.flight node up apart in
          omega (arith, one, two, flies);
    }
