-- By how much an event lets a part's nodes, given numbers and held handles grow.
use Rattle.std.proofs.Common.{◌≡◌, ◌⊎◌, refl, sym, ap, ◌∙◌, inl, inr, subst, ℕ, suc, ◌+◌, ◌-◌, ◌≤◌, ◌==◌, Bool, true, false, cond, ◌||◌, nat_lt, List, [], ◌∷◌, ◌++◌, drop, fold, filter, zip, length, replicate, Option, Some, None, Ok, Err, Result}
use Rattle.std.specs.Bool.{then_some}
use Rattle.std.specs.List.{list_any}
use Rattle.std.proofs.lemmas.Bool.{ltb-false, or_parts}
use Rattle.std.proofs.lemmas.List.{length-set, length-append}
use native.Mathlib.Omega.{arith}
use Rattle.b1_model.specs.declared.naming.Key.{Key}
use Rattle.b1_model.specs.declared.naming.NodeRef.{NodeRef}
use Rattle.b1_model.specs.declared.commands.SendCmd.{SendCmd}
use Rattle.b1_model.specs.declared.parts.Slot.{Slot}
use Rattle.b1_model.specs.declared.parts.Slot.TheVariants as slot
use Rattle.b1_model.specs.declared.parts.NodeState.TheVariants.{Live}
use Rattle.b1_model.specs.declared.entries.Entry.{Entry}
use Rattle.b1_model.specs.declared.entries.Entry.TheVariants.{Message, OwnNotice, ForeignNotice, ReleaseNotice}
use Rattle.b1_model.specs.declared.answers.Front.{Front}
use Rattle.b1_model.specs.declared.answers.Receipt.{Receipt}
use Rattle.b1_model.specs.declared.answers.Reason.TheVariants as reason
use Rattle.b1_model.specs.Names.{is_own}
use Rattle.b1_model.specs.MachineParts.{PeerPart, NodePart, is_odd, is_staged, record_or_none, carried}
use Rattle.b1_model.specs.MachinePool.{published}
use Rattle.b1_model.specs.MachineTables.{serial_of, with_made, changed, changed_or_made, more_flight, less_flight, more_held, made_dead, expected, unexpected, foreign, next_number}
use Rattle.b1_model.specs.MachineSend.{first_reason, is_bad_send, send_reasons, send_refusal}
use Rattle.b1_model.specs.MachineReceive.{discards, discarded, cleared, Arriving, reference_by, slot_arrives, taken_entry, front_by, front_taken, received, received_part}
use Rattle.b1_model.specs.MachineEvents.{begin_by}
use Rattle.b1_step.specs.Rights.{Has}
use Rattle.b1_step.proofs.Changed.{changes}
use Rattle.b1_inv_refs.proofs.Views.{Handles}
use Rattle.b1_inv_refs.proofs.Arrivals.{all_removed, queue_parts}
use Rattle.b1_inv_refs.proofs.Numbered.{EachRecord, changed_has, each_changed, each_made}
use Rattle.b1_inv_refs.proofs.Widths.{TakenFrom, recv_nodes}

-- no record is held more often
abbrev pub HeldAtMost : ℕ → Handles → Type 0
HeldAtMost most hs = EachRecord (λ h. h.held ≤ most) hs

-- a part grows by so much at most
pub record GrowsBy (extra : ℕ) (x y : PeerPart) : Type 0 where
  pub nodes : length y.nodes ≤ length x.nodes + extra
  pub given : y.given ≤ x.given + extra
  pub held : (most : ℕ) → HeldAtMost most x.handles → HeldAtMost (most + extra) y.handles

same_most : (most : ℕ) (hs : Handles) → HeldAtMost most hs → HeldAtMost (most + 0) hs
same_most most hs each h there = let k = each h there in omega (arith, k)

-- a part with as many nodes and given numbers
pub by_handles : (x y : PeerPart) → length y.nodes ≡ length x.nodes → y.given ≡ x.given → ((most : ℕ) → HeldAtMost most x.handles → HeldAtMost most y.handles) → GrowsBy 0 x y
by_handles x y nodes given held = record { nodes = omega (arith, nodes); given = omega (arith, given); held = λ most each. same_most most y.handles (held most each) }

pub by_same : (x y : PeerPart) → y.nodes ≡ x.nodes → y.given ≡ x.given → y.handles ≡ x.handles → GrowsBy 0 x y
by_same x y nodes given handles = by_handles x y (ap length nodes) given (λ most each. subst (HeldAtMost most) (sym handles) each)

pub grows_zero : (x : PeerPart) → GrowsBy 0 x x
grows_zero x = by_same x x refl refl refl

-- ---- changes of records

less_most : (most held : ℕ) → held ≤ most → held - 1 ≤ most
less_most most held is = omega (arith, is)

pub most_expected : (most : ℕ) (nodes : List NodeRef) (hs : Handles) → HeldAtMost most hs → HeldAtMost most (expected nodes hs)
most_expected most [] hs each = each
most_expected most (m ∷ rest) hs each = most_expected most rest (changed_or_made m more_flight hs) (each_made (λ h. h.held ≤ most) m more_flight (λ h is. is) (omega arith) hs each)

pub most_unexpected : (most : ℕ) (nodes : List NodeRef) (hs : Handles) → HeldAtMost most hs → HeldAtMost most (unexpected nodes hs)
most_unexpected most [] hs each = each
most_unexpected most (m ∷ rest) hs each = most_unexpected most rest (changed m less_flight hs) (each_changed (λ h. h.held ≤ most) m less_flight (λ h is. is) hs each)

-- ---- a begin makes a node for each handle at most

pub one_made : (peers number : ℕ) (nodes : List NodePart) → length (with_made peers number nodes) ≤ length nodes + 1
one_made peers number nodes = at (serial_of number nodes)
  where
    at : (found : Option ℕ) → length {A = NodePart} (elim found [ None ↦ nodes ++ record { number = number; state = Live; counts = replicate peers 0; taken = false } ∷ [] | Some serial ↦ nodes ]) ≤ length nodes + 1
    at None = let k = length-append nodes (record { number = number; state = Live; counts = replicate peers 0; taken = false } ∷ []) in omega (arith, k)
    at (Some serial) = omega arith

all_made : (peers : ℕ) (numbers : List ℕ) (nodes : List NodePart) → length (fold (λ ns number. with_made peers number ns) nodes numbers) ≤ length nodes + length numbers
all_made peers [] nodes = omega arith
all_made peers (number ∷ rest) nodes = let one = one_made peers number nodes in let two = all_made peers rest (with_made peers number nodes) in omega (arith, one, two)

filter_short : (test : ℕ → Bool) (xs : List ℕ) → length (filter test xs) ≤ length xs
filter_short test [] = omega arith
filter_short test (x ∷ xs) = elim (test x) as (λ b. length (cond b (x ∷ filter test xs) (filter test xs)) ≤ suc (length xs)) [ true ↦ let k = filter_short test xs in omega (arith, k) | false ↦ let k = filter_short test xs in omega (arith, k) ]

-- an accepted SEND has at most 64 handles
not_bad : (x : PeerPart) (c : SendCmd) → send_refusal x c ≡ None → is_bad_send c ≡ false
not_bad x c is = at (is_bad_send c) is
  where
    at : (b : Bool) → first_reason (then_some b reason.Invalid ∷ drop 1 (send_reasons x c)) ≡ None → b ≡ false
    at true none = absurd (cc none)
    at false none = refl

accepted_handles : (x : PeerPart) (c : SendCmd) → send_refusal x c ≡ None → length c.with ≤ 64
accepted_handles x c is =
    let a = or_parts (((((length c.to == 0) || nat_lt 64 (length c.to)) || nat_lt 64 (length c.with)) || list_any is_odd c.to)) (list_any is_odd c.with) (not_bad x c is) in
    let b = or_parts ((((length c.to == 0) || nat_lt 64 (length c.to)) || nat_lt 64 (length c.with))) (list_any is_odd c.to) a.0 in
    let d = or_parts (((length c.to == 0) || nat_lt 64 (length c.to))) (nat_lt 64 (length c.with)) b.0 in
    ltb-false 64 (length c.with) d.1

pub begin_grows : (x : PeerPart) (c : SendCmd) → send_refusal x c ≡ None → GrowsBy 64 x (begin_by None false c x).1
begin_grows x c is = record {
  nodes = (let a = all_made x.peers (filter is_own c.with) x.nodes in let b = filter_short is_own c.with in let d = accepted_handles x c is in omega (arith, a, b, d));
  given = omega arith;
  held = λ most each h there. let k = each h there in omega (arith, k);
}

-- ---- a RECV

-- the slots of a taken message
pub slot_most : (most : ℕ) (a : Arriving) (n : NodeRef) (t : Slot) → HeldAtMost most a.part.handles → HeldAtMost (most + 1) (slot_arrives a (n, t)).part.handles × ((slot_arrives a (n, t)).part.given ≤ a.part.given + 1)
slot_most most a n slot.Unattached each = (λ h there. (let k = most_unexpected most (foreign a.part.me (n ∷ [])) a.part.handles each h there in omega (arith, k)), omega arith)
slot_most most a n slot.Void each = (λ h there. (let k = most_unexpected most (foreign a.part.me (n ∷ [])) a.part.handles each h there in omega (arith, k)), omega arith)
slot_most most a n slot.Own each = (λ h there. (let k = each h there in omega (arith, k)), omega arith)
slot_most most a n slot.Attached each = at (record_or_none n a.part.handles).dead
  where
    more : (hs : Handles) → HeldAtMost most hs → HeldAtMost (most + 1) (changed n (λ g. more_held (next_number a.part.given) (less_flight g)) hs)
    more hs all h there = elim (changed_has n (λ g. more_held (next_number a.part.given) (less_flight g)) hs h there) [
      | inl old ↦ let k = all h old in omega (arith, k)
      | inr (g, found, has, same) ↦ let k = all g has in let l = ap (λ z. z.held) same in omega (arith, k, l)
    ]

    given_more : (b : Bool) → cond b (a.part.given + 1) a.part.given ≤ a.part.given + 1
    given_more true = omega arith
    given_more false = omega arith

    at : (b : Bool) → HeldAtMost (most + 1) (reference_by b a n).part.handles × ((reference_by b a n).part.given ≤ a.part.given + 1)
    at true = (λ h there. (let k = each_changed (λ z. z.held ≤ most) n less_flight (λ z is. is) a.part.handles each h there in omega (arith, k)), omega arith)
    at false = (more a.part.handles each, given_more ((record_or_none n a.part.handles).held == 0))

slots_most : (nodes : List NodeRef) (slots : List Slot) (most : ℕ) (a : Arriving) → HeldAtMost most a.part.handles → HeldAtMost (most + length nodes) (fold slot_arrives a (zip nodes slots)).part.handles × ((fold slot_arrives a (zip nodes slots)).part.given ≤ a.part.given + length nodes)
slots_most [] slots most a each = (λ h there. (let k = each h there in omega (arith, k)), omega arith)
slots_most (n ∷ nodes) [] most a each = (λ h there. (let k = each h there in omega (arith, k)), omega arith)
slots_most (n ∷ nodes) (t ∷ slots) most a each =
    let one = slot_most most a n t each in
    let two = slots_most nodes slots (most + 1) (slot_arrives a (n, t)) one.0 in
    (λ h there. (let k = two.0 h there in omega (arith, k)), let k = two.1 in let l = one.1 in omega (arith, k, l))

-- a removal
one_discard : (most : ℕ) (e : Entry) (x : PeerPart) → HeldAtMost most x.handles → HeldAtMost most (discarded x e).handles
one_discard most (Message origin user index serial offset len nodes slots handles payload) x each = most_unexpected most (foreign x.me nodes) x.handles each
one_discard most (OwnNotice serial index) x each = each
one_discard most (ForeignNotice node index) x each = each_changed (λ h. h.held ≤ most) node made_dead (λ h is. is) x.handles each
one_discard most (ReleaseNotice serial) x each = each

all_discards : (most : ℕ) (es : List (Key × Entry)) (x : PeerPart) → HeldAtMost most x.handles → HeldAtMost most (fold (λ y f. discarded y f.1) x es).handles
all_discards most [] x each = each
all_discards most (f ∷ rest) x each = all_discards most rest (discarded x f.1) (one_discard most f.1 x each)

taken_length : (old new : List NodePart) → TakenFrom old new → length new ≡ length old
taken_length old new (inl same) = ap length same
taken_length old new (inr (serial, same)) = ap length same ∙ length-set old serial _

module _ (x : PeerPart) (short : (f : Key × Entry) → Has x.queue f → length (carried f.1) ≤ 64) where
  removed : (cleared x).given ≡ x.given
  removed = (all_removed (discards x) (record x { queue = drop (length (discards x)) x.queue })).given

  cleared_most : (most : ℕ) → HeldAtMost most x.handles → HeldAtMost most (cleared x).handles
  cleared_most most each = all_discards most (discards x) (record x { queue = drop (length (discards x)) x.queue }) each

  taken_most : (e : Entry) (key : Key) (rest : List (Key × Entry)) → length (carried e) ≤ 64 → ((taken_entry (record (cleared x) { queue = rest }) key e).1.given ≤ x.given + 64) × ((most : ℕ) → HeldAtMost most x.handles → HeldAtMost (most + 64) (taken_entry (record (cleared x) { queue = rest }) key e).1.handles)
  taken_most (Message origin user index serial offset len nodes slots handles payload) key rest few =
      let start : Arriving = record { part = record (cleared x) { queue = rest; slices = published offset (cleared x).slices }; numbers = []; refs = [] } in (
        (let l = given_only nodes slots start in omega (arith, l, removed, few)),
        λ most each h there. (let k = (slots_most nodes slots most start (cleared_most most each)).0 h there in omega (arith, k, few)),
      )
    where
      given_only : (nodes : List NodeRef) (slots : List Slot) (a : Arriving) → (fold slot_arrives a (zip nodes slots)).part.given ≤ a.part.given + length nodes
      given_only [] slots a = omega arith
      given_only (n ∷ nodes) [] a = omega arith
      given_only (n ∷ nodes) (t ∷ slots) a = let one = given_slot n t a in let two = given_only nodes slots (slot_arrives a (n, t)) in omega (arith, one, two)
        where
          given_slot : (n : NodeRef) (t : Slot) (a : Arriving) → (slot_arrives a (n, t)).part.given ≤ a.part.given + 1
          given_slot n slot.Unattached a = omega arith
          given_slot n slot.Void a = omega arith
          given_slot n slot.Own a = omega arith
          given_slot n slot.Attached a = at (record_or_none n a.part.handles).dead
            where
              more : (b : Bool) → cond b (a.part.given + 1) a.part.given ≤ a.part.given + 1
              more true = omega arith
              more false = omega arith

              at : (b : Bool) → (reference_by b a n).part.given ≤ a.part.given + 1
              at true = omega arith
              at false = more ((record_or_none n a.part.handles).held == 0)
  taken_most (OwnNotice serial index) key rest few = (omega (arith, removed), λ most each h there. (let k = cleared_most most each h there in omega (arith, k)))
  taken_most (ForeignNotice node index) key rest few = (omega (arith, removed), λ most each h there. (let k = each_changed (λ z. z.held ≤ most) node made_dead (λ z is. is) (cleared x).handles (cleared_most most each) h there in omega (arith, k)))
  taken_most (ReleaseNotice serial) key rest few = (omega (arith, removed), λ most each h there. (let k = cleared_most most each h there in omega (arith, k)))

  -- nothing was taken, and the part grows by nothing; or something was, and it grows by 64
  abbrev pub ReceivesBy : Result Receipt Front → PeerPart → Type 0
  ReceivesBy (Err front) y = (y.given ≡ x.given) × ((most : ℕ) → HeldAtMost most x.handles → HeldAtMost most y.handles)
  ReceivesBy (Ok receipt) y = (y.given ≤ x.given + 64) × ((most : ℕ) → HeldAtMost most x.handles → HeldAtMost (most + 64) y.handles)

  front_is : (b : Bool) (f : Key × Entry) (rest : List (Key × Entry)) → length (carried f.1) ≤ 64 → ReceivesBy (front_by b (cleared x) f rest).0 (front_by b (cleared x) f rest).1
  front_is true f rest few = (removed, cleared_most)
  front_is false f rest few = taken_most f.1 f.0 rest few

  has_right : (xs ys : List (Key × Entry)) (f : Key × Entry) → Has ys f → Has (xs ++ ys) f
  has_right [] ys f h = h
  has_right (z ∷ xs) ys f h = inr (has_right xs ys f h)

  by_queue : (queue : List (Key × Entry)) → (cleared x).queue ≡ queue → ReceivesBy (front_taken (cleared x) queue).0 (front_taken (cleared x) queue).1
  by_queue [] is = (removed, cleared_most)
  by_queue (f ∷ rest) is = front_is (is_staged f) f rest (short f (subst (λ l. Has l f) (sym (queue_parts x)) (has_right (discards x) (cleared x).queue f (subst (λ l. Has l f) (sym is) (inl refl)))))

  receives : ReceivesBy (received x).front (received_part x)
  receives = by_queue (cleared x).queue refl

  pub recv_grows : (front : Result Receipt Front) → (received x).front ≡ front → (GrowsBy 0 x (received_part x) × ((receipt : Receipt) → front ≡ Ok receipt → ⊥)) ⊎ (GrowsBy 64 x (received_part x) × ((receipt : Receipt) × (front ≡ Ok receipt)))
  recv_grows (Err front) is =
      let k = subst (λ r. ReceivesBy r (received_part x)) is receives in
      inl (by_handles x (received_part x) (taken_length x.nodes (received_part x).nodes (recv_nodes x)) k.0 k.1, λ receipt e. cc e)
  recv_grows (Ok receipt) is =
      let k = subst (λ r. ReceivesBy r (received_part x)) is receives in
      let l = taken_length x.nodes (received_part x).nodes (recv_nodes x) in
      inr (record { nodes = omega (arith, l); given = k.0; held = k.1 }, (receipt, refl))
