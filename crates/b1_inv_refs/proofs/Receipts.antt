-- What a RECV leaves of flights, amounts and counts.
use Rattle.std.proofs.Common.{◌≡◌, ◌≢◌, refl, sym, ap, ◌∙◌, inl, subst, ℕ, zero, suc, ◌-◌, Bool, true, false, cond, List, [], ◌∷◌, fold, zip, set, get_or}
use native.Mathlib.Omega.{arith}
use Rattle.b1_model.specs.declared.naming.Key.{Key}
use Rattle.b1_model.specs.declared.naming.NodeRef.{NodeRef}
use Rattle.b1_model.specs.declared.parts.Slot.{Slot}
use Rattle.b1_model.specs.declared.entries.Entry.{Entry}
use Rattle.b1_model.specs.declared.entries.Entry.TheVariants.{Message, OwnNotice, ForeignNotice, ReleaseNotice}
use Rattle.b1_model.specs.MachineParts.{PeerPart, no_node, node_at, is_staged, is_data, carried, slots_of}
use Rattle.b1_model.specs.MachinePool.{published}
use Rattle.b1_model.specs.MachineTables.{made_dead, count_of}
use Rattle.b1_model.specs.MachineReceive.{discards, cleared, Arriving, slot_arrives, taken_entry, front_by, front_taken, received_part}
use Rattle.b1_model.specs.MachineCounts.{dead_amount, queue_amount, peer_amount}
use Rattle.b1_step.specs.Rights.{Has}
use Rattle.b1_step.specs.Ordered.{Rising}
use Rattle.b1_step.proofs.Lookups.{rising_changed}
use Rattle.b1_inv.specs.References.{AreFilled, times_in, carried_times}
use Rattle.b1_inv_refs.proofs.Amounts.{Items, dead_with_item, entry_amount, notice_none, queue_cons, slots_amount}
use Rattle.b1_inv_refs.proofs.Views.{held_same, flight_same}
use Rattle.b1_inv_refs.proofs.Arrivals.{held_in, flight_in, InFlight, slots_rest, slots_rising, slots_flight, slots_held, carried_cons, queue_parts, Cleared, is_cleared}
use Rattle.b1_step.proofs.Lists.{has_right}

-- an update leaves what a view sees that it keeps
pub read_view : {X Y : Type 0} (view : X → Y) (xs : List X) (i j : ℕ) (y d : X) → view y ≡ view (get_or xs i d) → view (get_or (set xs i y) j d) ≡ view (get_or xs j d)
read_view view [] i j y d same = refl
read_view view (x ∷ xs) zero zero y d same = same
read_view view (x ∷ xs) zero (suc j) y d same = refl
read_view view (x ∷ xs) (suc i) zero y d same = refl
read_view view (x ∷ xs) (suc i) (suc j) y d same = read_view view xs i j y d same

-- the counts of all nodes are the same
abbrev pub SameCounts : PeerPart → PeerPart → Type 0
SameCounts x y = (serial holder : ℕ) → count_of (node_at y serial) holder ≡ count_of (node_at x serial) holder

-- the flight of each node of another peer is how often the queue carries it
abbrev pub Flies : PeerPart → Type 0
Flies x = (node : NodeRef) → node.owner ≢ x.me → flight_in node x.handles ≡ carried_times node x.queue

-- every committed message of a part has its slots
abbrev pub HasSlots : PeerPart → Type 0
HasSlots x = (f : Key × Entry) → Has x.queue f → is_data f.1 ≡ true → is_staged f ≡ false → AreFilled x.me (carried f.1) (slots_of f.1)

-- what a RECV leaves
pub record Receives (x y : PeerPart) : Type 0 where
  pub me : y.me ≡ x.me
  pub rising : Rising y.handles
  pub counts : SameCounts x y
  pub flies : (node : NodeRef) → node.owner ≢ x.me → flight_in node y.handles ≡ carried_times node y.queue
  pub amount : (node : NodeRef) → peer_amount node x ≡ peer_amount node y

module _ (x : PeerPart) (up : Rising x.handles) (flies : Flies x) (slots : HasSlots x) where
  k : Cleared x
  k = is_cleared x up

  flown : (node : NodeRef) → node.owner ≢ x.me → flight_in node (cleared x).handles ≡ carried_times node (cleared x).queue
  flown node apart = k.flight node apart (flies node apart)

  cleared_counts : SameCounts x (cleared x)
  cleared_counts serial holder = ap (λ ns. count_of (get_or ns serial no_node) holder) k.nodes

  cleared_amount : (node : NodeRef) → peer_amount node x ≡ peer_amount node (cleared x)
  cleared_amount node = let one = k.held node in let two = k.amount node in omega (arith, one, two)

  left_as_is : Receives x (cleared x)
  left_as_is = record { me = k.me; rising = k.rising; counts = cleared_counts; flies = flown; amount = cleared_amount }

  module _ (rest : Items) (key : Key) where
    -- a message is taken
    message_taken : (origin user index serial offset len : ℕ) (nodes : List NodeRef) (list : List Slot) (handles payload : List ℕ) → (cleared x).queue ≡ (key, Message origin user index serial offset len nodes list handles payload) ∷ rest
        → is_staged (key, Message origin user index serial offset len nodes list handles payload) ≡ false → AreFilled x.me nodes list
        → Receives x (taken_entry (record (cleared x) { queue = rest }) key (Message origin user index serial offset len nodes list handles payload)).1
    message_taken origin user index serial offset len nodes list handles payload queue committed filled =
        let whole : Key × Entry = (key, Message origin user index serial offset len nodes list handles payload) in
        let start : Arriving = record { part = record (cleared x) { queue = rest; slices = published offset (cleared x).slices }; numbers = []; refs = [] } in
        let in_flight : InFlight x.me nodes (cleared x).handles = λ m apart.
        let one = flown m apart ∙ ap (carried_times m) queue ∙ carried_cons m whole rest in
        omega (arith, one)
        in
        let same = slots_rest nodes list start in
        record {
          me = same.me ∙ k.me;
          rising = slots_rising nodes list start k.rising;
          counts = λ s holder. ap (λ ns. count_of (get_or ns s no_node) holder) (same.nodes ∙ k.nodes);
          flies = λ node apart.
              let one = flown node apart ∙ ap (carried_times node) queue ∙ carried_cons node whole rest in
              let two = slots_flight x.me nodes list start node k.me filled apart k.rising in
              let three = ap (carried_times node) same.queue in
              omega (arith, one, two, three);
          amount = λ node.
              let zero_part = cleared_amount node in
              let one = ap (queue_amount node) queue ∙ queue_cons node whole rest in
              let two : entry_amount node whole ≡ slots_amount node nodes list = ap (λ b. cond b 0 (slots_amount node nodes list)) committed in
              let three = slots_held x.me nodes list start node k.me filled in_flight k.rising in
              let four = ap (queue_amount node) same.queue in
              let five = ap (dead_amount node) same.dead in
              let six = dead_with_item node (fold slot_arrives start (zip nodes list)).refs (fold slot_arrives start (zip nodes list)).part.dead in
              omega (arith, zero_part, one, two, three, four, five, six);
        }

    -- a notice is taken
    notice_amount : (e : Entry) (y : PeerPart) → (cleared x).queue ≡ (key, e) ∷ rest → is_data e ≡ false → y.queue ≡ rest → y.dead ≡ (cleared x).dead → ((node : NodeRef) → held_in node y.handles ≡ held_in node (cleared x).handles) → (node : NodeRef) → peer_amount node x ≡ peer_amount node y
    notice_amount e y queue notice queue_after dead_after held node =
        let one = cleared_amount node in
        let two = ap (queue_amount node) queue ∙ queue_cons node (key, e) rest in
        let three = notice_none node key e notice in
        let four = ap (queue_amount node) queue_after in
        let five = ap (dead_amount node) dead_after in
        let six = held node in
        omega (arith, one, two, three, four, five, six)

    notice_flight : (e : Entry) → (cleared x).queue ≡ (key, e) ∷ rest → carried e ≡ [] → (node : NodeRef) → node.owner ≢ x.me → flight_in node (cleared x).handles ≡ carried_times node rest
    notice_flight e queue none node apart =
        let one = flown node apart ∙ ap (carried_times node) queue ∙ carried_cons node (key, e) rest in
        let two : times_in node (carried e) ≡ 0 = ap (times_in node) none in
        omega (arith, one, two)

    entry_taken : (e : Entry) → (cleared x).queue ≡ (key, e) ∷ rest → is_staged (key, e) ≡ false → (is_data e ≡ true → AreFilled x.me (carried e) (slots_of e)) → Receives x (taken_entry (record (cleared x) { queue = rest }) key e).1
    entry_taken (Message origin user index serial offset len nodes list handles payload) queue committed filled = message_taken origin user index serial offset len nodes list handles payload queue committed (filled refl)
    entry_taken (OwnNotice serial index) queue committed filled = record {
      me = k.me;
      rising = k.rising;
      counts = λ s holder. read_view (λ n. count_of n holder) (cleared x).nodes serial s _ no_node refl ∙ cleared_counts s holder;
      flies = λ node apart. notice_flight (OwnNotice serial index) queue refl node apart;
      amount = λ node. notice_amount (OwnNotice serial index) (taken_entry (record (cleared x) { queue = rest }) key (OwnNotice serial index)).1 queue refl refl refl (λ m. refl) node;
    }
    entry_taken (ForeignNotice other index) queue committed filled = record {
      me = k.me;
      rising = rising_changed other made_dead (λ h. refl) (cleared x).handles k.rising;
      counts = cleared_counts;
      flies = λ node apart. flight_same made_dead (λ h. refl) (λ h. refl) other node (cleared x).handles k.rising ∙ notice_flight (ForeignNotice other index) queue refl node apart;
      amount = λ node. notice_amount (ForeignNotice other index) (taken_entry (record (cleared x) { queue = rest }) key (ForeignNotice other index)).1 queue refl refl refl (λ m. held_same made_dead (λ h. refl) (λ h. refl) other m (cleared x).handles k.rising) node;
    }
    entry_taken (ReleaseNotice serial) queue committed filled = record {
      me = k.me;
      rising = k.rising;
      counts = cleared_counts;
      flies = λ node apart. notice_flight (ReleaseNotice serial) queue refl node apart;
      amount = λ node. notice_amount (ReleaseNotice serial) (taken_entry (record (cleared x) { queue = rest }) key (ReleaseNotice serial)).1 queue refl refl refl (λ m. refl) node;
    }

  front_is : (b : Bool) (f : Key × Entry) (rest : Items) → (cleared x).queue ≡ f ∷ rest → is_staged f ≡ b → (is_data f.1 ≡ true → is_staged f ≡ false → AreFilled x.me (carried f.1) (slots_of f.1)) → Receives x (front_by b (cleared x) f rest).1
  front_is true f rest queue is filled = left_as_is
  front_is false f rest queue is filled = entry_taken rest f.0 f.1 queue is (λ message. filled message is)

  by_queue : (queue : Items) → (cleared x).queue ≡ queue → Receives x (front_taken (cleared x) queue).1
  by_queue [] is = left_as_is
  by_queue (f ∷ rest) is =
      front_is (is_staged f) f rest is refl
      (λ message committed. slots f (subst (λ l. Has l f) (sym (queue_parts x)) (has_right (discards x) (cleared x).queue f (subst (λ l. Has l f) (sym is) (inl refl)))) message committed)

  pub receives : Receives x (received_part x)
  receives = by_queue (cleared x).queue refl
