-- How long a part holds a node, or has references to it to be given up, over an event.
use Rattle.std.proofs.Common.{◌≡◌, refl, sym, ap, subst, ◌≤◌, Bool, true, false, cond, List, [], ◌∷◌, drop, fold, zip, length, Option, Some, None}
use native.Mathlib.Omega.{arith}
use Rattle.b1_model.specs.declared.naming.Key.{Key}
use Rattle.b1_model.specs.declared.naming.NodeRef.{NodeRef}
use Rattle.b1_model.specs.declared.parts.Slot.{Slot}
use Rattle.b1_model.specs.declared.parts.Slot.TheVariants as slot
use Rattle.b1_model.specs.declared.entries.Entry.{Entry}
use Rattle.b1_model.specs.declared.entries.Entry.TheVariants.{Message, OwnNotice, ForeignNotice, ReleaseNotice}
use Rattle.b1_model.specs.MachineParts.{PeerPart, HandleRecord, is_staged, same_ref, record_of, record_or_none}
use Rattle.b1_model.specs.MachineTables.{is_needed, changed, less_flight, more_held, made_dead, next_number, foreign}
use Rattle.b1_model.specs.MachinePool.{published}
use Rattle.b1_model.specs.MachineReceive.{Arriving, discards, cleared, reference_by, slot_arrives, taken_entry, front_by, front_taken, received_part}
use Rattle.b1_model.specs.MachineCounts.{dead_amount}
use Rattle.b1_step.specs.Ordered.{Rising}
use Rattle.b1_step.proofs.Lookups.{kept_by, own_changed}
use Rattle.b1_step.proofs.Orders.{same_ref_is}
use Rattle.b1_inv_refs.proofs.Amounts.{Items, dead_with_item}
use Rattle.b1_inv_refs.proofs.Views.{Handles, or_none, view_other, unneeded_held, held_unexpected}
use Rattle.b1_inv_refs.proofs.Arrivals.{held_in, slots_rest, slot_rising, is_cleared, all_removed}

-- ---- records

module _ (node : NodeRef) where
  -- a change that holds no node less often
  held_grows : (other : NodeRef) (f : HandleRecord → HandleRecord) → ((h : HandleRecord) → (f h).node ≡ h.node) → ((h : HandleRecord) → h.held ≤ (f h).held) → (hs : Handles) → Rising hs → held_in node hs ≤ held_in node (changed other f hs)
  held_grows other f keeps grows hs up = by (same_ref other node) refl
    where
      own : (z : Option HandleRecord) → (or_none node z).held ≤ (or_none node (kept_by f z)).held
      own None = omega arith
      own (Some h) = need (is_needed (f h)) refl
        where
          need : (b : Bool) → is_needed (f h) ≡ b → h.held ≤ (or_none node (cond b (Some (f h)) None)).held
          need true is = grows h
          need false is = let none = unneeded_held (f h) is in let more = grows h in omega (arith, none, more)

      by : (b : Bool) → same_ref other node ≡ b → held_in node hs ≤ held_in node (changed other f hs)
      by false apart = let same = view_other (λ h. h.held) f keeps other node hs apart in omega (arith, same)
      by true is =
          let found : record_of node (changed other f hs) ≡ kept_by f (record_of node hs) = subst (λ n. record_of n (changed other f hs) ≡ kept_by f (record_of n hs)) (same_ref_is other node is) (own_changed other f keeps hs up) in
          subst (λ z. held_in node hs ≤ (or_none node z).held) (sym found) (own (record_of node hs))

  -- one slot arrives
  slot_holds : (a : Arriving) (with : NodeRef) (s : Slot) → Rising a.part.handles → held_in node a.part.handles ≤ held_in node (slot_arrives a (with, s)).part.handles
  slot_holds a with slot.Unattached up = let same = held_unexpected node (foreign a.part.me (with ∷ [])) a.part.handles up in omega (arith, same)
  slot_holds a with slot.Void up = let same = held_unexpected node (foreign a.part.me (with ∷ [])) a.part.handles up in omega (arith, same)
  slot_holds a with slot.Own up = omega arith
  slot_holds a with slot.Attached up = by (record_or_none with a.part.handles).dead
    where
      by : (b : Bool) → held_in node a.part.handles ≤ held_in node (reference_by b a with).part.handles
      by true = held_grows with less_flight (λ h. refl) (λ h. omega arith) a.part.handles up
      by false = held_grows with (λ g. more_held (next_number a.part.given) (less_flight g)) (λ h. refl) (λ h. omega arith) a.part.handles up

  -- all slots arrive
  slots_hold : (nodes : List NodeRef) (slots : List Slot) (a : Arriving) → Rising a.part.handles → held_in node a.part.handles ≤ held_in node (fold slot_arrives a (zip nodes slots)).part.handles
  slots_hold [] slots a up = omega arith
  slots_hold (n ∷ nodes) [] a up = omega arith
  slots_hold (n ∷ nodes) (s ∷ slots) a up =
      let one = slot_holds a n s up in
      let rest = slots_hold nodes slots (slot_arrives a (n, s)) (slot_rising a n s up) in
      omega (arith, one, rest)

  -- an entry is taken
  taken_holds : (e : Entry) (k : Key) (x : PeerPart) → Rising x.handles → held_in node x.handles ≤ held_in node (taken_entry x k e).1.handles
  taken_holds (Message origin user index serial offset len nodes slots handles payload) k x up = slots_hold nodes slots _ up
  taken_holds (OwnNotice serial index) k x up = omega arith
  taken_holds (ForeignNotice other index) k x up = held_grows other made_dead (λ h. refl) (λ h. omega arith) x.handles up
  taken_holds (ReleaseNotice serial) k x up = omega arith

  -- the front is taken, where it is committed
  front_holds : (b : Bool) (x : PeerPart) (f : Key × Entry) (rest : Items) → Rising x.handles → held_in node x.handles ≤ held_in node (front_by b x f rest).1.handles
  front_holds true x f rest up = omega arith
  front_holds false x f rest up = taken_holds f.1 f.0 (record x { queue = rest }) up

  -- the front is taken, if there is one
  by_queue_holds : (queue : Items) (x : PeerPart) → Rising x.handles → held_in node x.handles ≤ held_in node (front_taken x queue).1.handles
  by_queue_holds [] x up = omega arith
  by_queue_holds (f ∷ rest) x up = front_holds (is_staged f) x f rest up

  -- a RECV holds no node less often
  pub recv_holds : (x : PeerPart) → Rising x.handles → held_in node x.handles ≤ held_in node (received_part x).handles
  recv_holds x up =
      let k = is_cleared x up in
      let one = k.held node in
      let two = by_queue_holds (cleared x).queue (cleared x) k.rising in
      omega (arith, one, two)

  -- ---- what is to be given up

  -- an entry is taken
  taken_dead : (e : Entry) (k : Key) (x : PeerPart) → dead_amount node x.dead ≤ dead_amount node (taken_entry x k e).1.dead
  taken_dead (Message origin user index serial offset len nodes slots handles payload) k x =
      let a : Arriving = record { part = record x { slices = published offset x.slices }; numbers = []; refs = [] } in
      let same = ap (dead_amount node) (slots_rest nodes slots a).dead in
      let more = dead_with_item node (fold slot_arrives a (zip nodes slots)).refs (fold slot_arrives a (zip nodes slots)).part.dead in
      omega (arith, same, more)
  taken_dead (OwnNotice serial index) k x = omega arith
  taken_dead (ForeignNotice other index) k x = omega arith
  taken_dead (ReleaseNotice serial) k x = omega arith

  -- the front is taken, where it is committed
  front_dead : (b : Bool) (x : PeerPart) (f : Key × Entry) (rest : Items) → dead_amount node x.dead ≤ dead_amount node (front_by b x f rest).1.dead
  front_dead true x f rest = omega arith
  front_dead false x f rest = taken_dead f.1 f.0 (record x { queue = rest })

  -- the front is taken, if there is one
  by_queue_dead : (queue : Items) (x : PeerPart) → dead_amount node x.dead ≤ dead_amount node (front_taken x queue).1.dead
  by_queue_dead [] x = omega arith
  by_queue_dead (f ∷ rest) x = front_dead (is_staged f) x f rest

  -- a RECV leaves what is to be given up
  pub recv_dead : (x : PeerPart) → dead_amount node x.dead ≤ dead_amount node (received_part x).dead
  recv_dead x =
      let one = (all_removed (discards x) (record x { queue = drop (length (discards x)) x.queue })).dead node in
      let two = by_queue_dead (cleared x).queue (cleared x) in
      omega (arith, one, two)
