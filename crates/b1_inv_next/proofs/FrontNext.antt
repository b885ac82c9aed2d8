-- The front that a peer takes is its next entry, in key and kind.
use Rattle.std.proofs.Common.{◌≡◌, refl, sym, ap, subst, ◌∙◌, inl, inr, ℕ, zero, suc, ◌≤◌, ◌==◌, Bool, true, false, cond, not, List, [], ◌∷◌, Option, Some, None}
use Rattle.std.specs.Prelude.{slice_get, is_some}
use Rattle.std.proofs.lemmas.Bool.{and_parts, eq-eqb, eqb-true, ne_eqb}
use Rattle.std.proofs.lemmas.Option.{get_or_from_slice_get}
use native.Mathlib.Omega.{arith}
use Rattle.b1_model.specs.declared.naming.Key.{Key}
use Rattle.b1_model.specs.declared.naming.NodeRef.{NodeRef}
use Rattle.b1_model.specs.declared.naming.Opening.{Opening}
use Rattle.b1_model.specs.declared.parts.Slot.{Slot}
use Rattle.b1_model.specs.declared.entries.Entry.{Entry}
use Rattle.b1_model.specs.declared.entries.Entry.TheVariants.{Message, OwnNotice, ForeignNotice, ReleaseNotice}
use Rattle.b1_model.specs.declared.records.Record.{Record}
use Rattle.b1_model.specs.Names.{Node, same_node, epoch_at}
use Rattle.b1_model.specs.Ledger.{Line, is_below, is_before, is_the_node, line_number, table, message, doomed_at, to_at, is_accepted, is_node_of, is_entry, is_late}
use Rattle.b1_model.specs.Legal.{is_above, last_key, is_open_to, is_message_in, is_message, is_notice_of, is_notice, IsNextReceipt}
use Rattle.b1_model.specs.MachineParts.{PeerPart, NodePart, DriverPart, HandleRecord, State, is_staged, no_node, node_at, record_of, record_or_none, is_data}
use Rattle.b1_model.specs.MachineReceive.{cleared}
use Rattle.b1_model.specs.MachineStep.{record_of_state}
use Rattle.b1_step.specs.Rights.{Has}
use Rattle.b1_step.proofs.Orders.{behind_has}
use Rattle.b1_inv.specs.Words.{IsPeer, IsDriver}
use Rattle.b1_inv.specs.Sound.{IsSound}
use Rattle.b1_ledger.specs.Growth.{calls_len, WasMade}
use Rattle.b1_ledger.proofs.KeyOrder.{below_is, Below, Before, before_is}
use Rattle.b1_ledger.proofs.Made.{to_made, doomed_made}
use Rattle.b1_ledger.proofs.NextAfter.{below_is_less}
use Rattle.b1_ledger.proofs.Sequences.{and_of}
use Rattle.b1_inv_record.specs.Destructions.{own_ref, doomed_key, awaits_commit}
use Rattle.b1_inv_record.specs.Epochs.{first_now, first_done, ref_of, is_ref}
use Rattle.b1_inv_record.specs.Right.{IsRight}
use Rattle.b1_inv_notices.proofs.Turns.{get_there}
use Rattle.b1_inv_peer.proofs.RecordFields.{or_none}
use Rattle.b1_inv_taken.proofs.Clears.{Queue}
use Rattle.b1_inv_legal.specs.Fronts.{taken_answer, FrontIsNext}
use Rattle.b1_inv_next.proofs.Facts.{late_notice}
use Rattle.b1_inv_next.proofs.Idle.{no_gap, first_same, is_present, node_there}
use Rattle.b1_inv_next.proofs.Nobody.{MessageNode, ref_found, noticed_record, noticed_node, message_node}
use Rattle.b1_inv_next.proofs.Fronts.{all_removed, there, served, ascending, least, above}

-- a message isn't before what it is behind
apart_order : (a b : Key) → is_below a b ≡ true → is_before b.stamp b.origin a.stamp a.origin ≡ true → ⊥
apart_order a b below before = by (below_is a b below) (before_is b.stamp b.origin a.stamp a.origin before)
  where
    by : Below a b → Before b.stamp b.origin a.stamp a.origin → ⊥
    by one two = grind (arith, one, two)

-- a line of a list names a node that is the node
line_there : (y : Node) (ls : List Line) (l : Line) → Has ls l → is_the_node y l.node ≡ true → is_some (line_number y ls) ≡ true
line_there y [] l h is = absurd h
line_there y (k ∷ rest) l h is = by (is_the_node y k.node) refl h (line_there y rest l)
  where
    by : (b : Bool) → is_the_node y k.node ≡ b → Has (k ∷ rest) l → (Has rest l → is_the_node y l.node ≡ true → is_some (line_number y rest) ≡ true) → is_some (cond b (Some k.number) (line_number y rest)) ≡ true
    by true at there further = refl
    by false at (inl same) further = let both : true ≡ false = sym is ∙ ap (λ z. is_the_node y z.node) same ∙ at in absurd (cc both)
    by false at (inr there) further = further there is

module _ {o : Opening} {s : State} (sound : IsSound o s) (right : IsRight o s) (p : ℕ) (d : DriverPart) (x : PeerPart) (is_driver : IsDriver s p d) (is_peer : IsPeer s p x) (idle : d.doing ≡ None) where
  abbrev r : Record
  r = record_of_state s

  module _ (key : Key) (origin user index serial offset len : ℕ) (nodes : List NodeRef) (slots : List Slot) (handles payload : List ℕ) (rest : Queue) (front : (cleared x).queue ≡ (key, Message origin user index serial offset len nodes slots handles payload) ∷ rest)
      (even : is_staged (key, Message origin user index serial offset len nodes slots handles payload) ≡ false) where
    abbrev f : Key × Entry
    f = (key, Message origin user index serial offset len nodes slots handles payload)

    m : MessageNode sound right p d x is_driver is_peer idle key serial
    m = message_node sound right p d x is_driver is_peer idle key origin user index serial offset len nodes slots handles payload (there sound right p d x is_driver is_peer idle f rest front even) even

    owner : m.node.owner ≡ p
    owner = ap (λ n. n.owner) m.is

    serial_is : m.node.serial ≡ serial
    serial_is = ap (λ n. n.serial) m.is

    made : WasMade o.wires r m.node
    made = to_made o.wires r key.stamp key.origin m.message key.index m.node m.sent m.to

    done : first_done o s p ≤ m.node.serial
    done = subst (λ n. first_done o s p ≤ n) (sym serial_is) (right.entries.present.present p x f is_peer (there sound right p d x is_driver is_peer idle f rest front even))

    -- the end of its node would be taken before it, or would be its front
    not_late : is_late o.wires r m.node key ≡ true → ⊥
    not_late late = elim (right.destructions.own.ended p m.node.serial d x n.0 notice.0 is_driver is_peer n.1 low ref waits) [
      | inl taken ↦ served sound right p d x is_driver is_peer idle f rest front even (ap (λ i. (node_at x i).taken) (sym serial_is) ∙ ap (λ k. k.taken) (get_or_from_slice_get x.nodes m.node.serial n.0 no_node n.1) ∙ taken)
      | inr queued ↦ behind (subst (λ q. Has q (notice.0, OwnNotice m.node.serial notice.0.index)) front ((all_removed sound right p d x is_driver is_peer idle).0.own notice.0 m.node.serial notice.0.index queued))
    ]
      where
        notice : (key_too : Key) × (y : Node) × (doomed_at o.wires r key_too ≡ Some y) × (same_node m.node y ≡ true) × (is_before key_too.stamp key_too.origin key.stamp key.origin ≡ true)
        notice = late_notice o.wires r right.legal.order m.node key late

        n : (k : NodePart) × (slice_get x.nodes m.node.serial ≡ Some k)
        n = node_there sound right m.node made p d x is_driver is_peer owner

        low : first_now o s p ≤ m.node.serial
        low = let same = first_same sound right p d x is_driver is_peer idle in let least_serial = done in omega (arith, least_serial, same)

        waits : awaits_commit d m.node.serial ≡ false
        waits = ap (λ z. awaits_commit (record d { doing = z }) m.node.serial) idle

        same : ref_of notice.1 ≡ own_ref p m.node.serial
        same =
            let parts = and_parts (m.node.owner == notice.1.owner) (m.node.serial == notice.1.serial) notice.3 in
            ap (λ q. record { owner = q; serial = notice.1.serial }) (sym (eqb-true m.node.owner notice.1.owner parts.0) ∙ owner) ∙ ap (λ i. record { owner = p; serial = i }) (sym (eqb-true m.node.serial notice.1.serial parts.1))

        ref : doomed_key o s (own_ref p m.node.serial) ≡ Some notice.0
        ref = ap (doomed_key o s) (sym same) ∙ right.destructions.keys.key notice.0 notice.1 notice.2

        behind : Has (f ∷ rest) (notice.0, OwnNotice m.node.serial notice.0.index) → ⊥
        behind (inl first) = let both : true ≡ false = ap (λ g. is_data g.1) (sym first) in absurd (cc both)
        behind (inr further) =
            apart_order key notice.0 (below_is_less key notice.0 ∙ behind_has key rest (notice.0, OwnNotice m.node.serial notice.0.index) (ascending sound right p d x is_driver is_peer idle f rest front even).0 further) notice.4

    fresh : is_late o.wires r m.node key ≡ false
    fresh = by (is_late o.wires r m.node key) refl
      where
        by : (b : Bool) → is_late o.wires r m.node key ≡ b → is_late o.wires r m.node key ≡ false
        by true late = absurd (not_late late)
        by false late = late

    -- a committed message at the front may be received
    front_message : is_message o.wires r p (calls_len r p) key ≡ true
    front_message =
        and_of (is_above key (last_key r p (calls_len r p))) (is_message_in o.wires r p (calls_len r p) key (message o.wires r key.stamp key.origin)) (above sound right p d x is_driver is_peer idle f rest front even)
        (ap (is_message_in o.wires r p (calls_len r p) key) m.sent
        ∙ and_of (is_entry p key.index m.message) (is_open_to o.wires r p (calls_len r p) key (to_at m.message key.index))
        (and_of (is_accepted (slice_get m.message.places key.index)) (is_node_of p (to_at m.message key.index)) m.accepted (ap (is_node_of p) m.to ∙ eq-eqb m.node.owner p owner))
        (ap (is_open_to o.wires r p (calls_len r p) key) m.to
        ∙ and_of (m.node.epoch == epoch_at r p (calls_len r p)) (not (is_late o.wires r m.node key)) (is_present sound right p d x is_driver is_peer idle m.node made owner done) (ap not fresh)))

  -- the notice of an own node
  front_own : (key : Key) (serial index : ℕ) (rest : Queue) (front : (cleared x).queue ≡ (key, OwnNotice serial index) ∷ rest) (even : is_staged (key, OwnNotice serial index) ≡ false) → is_notice o.wires r p (calls_len r p) key ≡ true
  front_own key serial index rest front even =
      let has = there sound right p d x is_driver is_peer idle (key, OwnNotice serial index) rest front even in
      let ref = right.destructions.own.queued p index serial x key is_peer has even in
      let n = get_there x.nodes serial (right.parts.serials.made p x (key, OwnNotice serial index) is_peer has) in
      let y = ref_found (doomed_at o.wires r key) (own_ref p serial) (right.destructions.keys.node p serial x n.0 key is_peer n.1 ref) in
      let owner : y.0.owner ≡ p = ap (λ k. k.owner) y.2 in
      let low : first_done o s p ≤ y.0.serial = subst (λ i. first_done o s p ≤ i) (ap (λ k. k.serial) (sym y.2)) (right.destructions.own.present p index serial x key is_peer has) in
      and_of (is_above key (last_key r p (calls_len r p))) (is_notice_of o.wires r p (calls_len r p) (doomed_at o.wires r key)) (above sound right p d x is_driver is_peer idle (key, OwnNotice serial index) rest front even)
      (ap (is_notice_of o.wires r p (calls_len r p)) y.1
      ∙ ap (λ b. cond b (y.0.epoch == epoch_at r p (calls_len r p)) (is_some (line_number y.0 (table o.wires r p (calls_len r p)).lines))) (eq-eqb y.0.owner p owner)
      ∙ is_present sound right p d x is_driver is_peer idle y.0 (doomed_made o.wires r key y.0 y.1) owner low)

  -- the notice of another peer's node, which is held
  module _ (key : Key) (node : NodeRef) (index : ℕ) (rest : Queue) (front : (cleared x).queue ≡ (key, ForeignNotice node index) ∷ rest) (even : is_staged (key, ForeignNotice node index) ≡ false) where
    abbrev g : Key × Entry
    g = (key, ForeignNotice node index)

    has : Has x.queue g
    has = there sound right p d x is_driver is_peer idle g rest front even

    h : (k : HandleRecord) × Has x.handles k × (k.node ≡ node) × (record_of node x.handles ≡ Some k)
    h = noticed_record sound right p d x is_driver is_peer idle key index node has

    y : (k : Node) × (doomed_at o.wires r key ≡ Some k) × (ref_of k ≡ node)
    y = noticed_node sound right p d x is_driver is_peer idle key index node has even

    held : 1 ≤ h.0.held
    held = by h.0.held refl
      where
        by : (n : ℕ) → h.0.held ≡ n → 1 ≤ h.0.held
        by (suc n) is = omega (arith, is)
        by zero is = absurd (served sound right p d x is_driver is_peer idle g rest front even (eq-eqb (record_or_none node x.handles).held 0 (ap (λ z. (or_none node z).held) h.3 ∙ is)))

    numbered : (number : ℕ) × (h.0.number ≡ Some number)
    numbered = by h.0.number refl
      where
        by : (found : Option ℕ) → h.0.number ≡ found → (number : ℕ) × (h.0.number ≡ Some number)
        by None is = absurd (let none = (sound.numbers.numbered p x is_peer).unheld h.0 h.1 is in let some = held in omega (arith, none, some))
        by (Some number) is = (number, is)

    line : is_some (line_number y.0 (table o.wires r p (calls_len r p)).lines) ≡ true
    line =
        let l = right.names.lines.records p numbered.0 d x h.0 is_driver is_peer (no_gap sound right p d x is_driver is_peer idle) h.1 numbered.1 in
        line_there y.0 (table o.wires r p (calls_len r p)).lines l.0 l.1 (by l.0.node l.2.2)
      where
        by : (found : Option Node) → is_ref h.0.node found ≡ true → is_the_node y.0 found ≡ true
        by None is = absurd (cc is)
        by (Some z) is =
            let parts = and_parts (z.owner == h.0.node.owner) (z.serial == h.0.node.serial) is in
            let owner : y.0.owner ≡ z.owner = ap (λ k. k.owner) (y.2 ∙ sym h.2) ∙ sym (eqb-true z.owner h.0.node.owner parts.0) in
            let serial : y.0.serial ≡ z.serial = ap (λ k. k.serial) (y.2 ∙ sym h.2) ∙ sym (eqb-true z.serial h.0.node.serial parts.1) in
            and_of (y.0.owner == z.owner) (y.0.serial == z.serial) (eq-eqb y.0.owner z.owner owner) (eq-eqb y.0.serial z.serial serial)

    front_foreign : is_notice o.wires r p (calls_len r p) key ≡ true
    front_foreign =
        and_of (is_above key (last_key r p (calls_len r p))) (is_notice_of o.wires r p (calls_len r p) (doomed_at o.wires r key)) (above sound right p d x is_driver is_peer idle g rest front even)
        (ap (is_notice_of o.wires r p (calls_len r p)) y.1
        ∙ ap (λ b. cond b (y.0.epoch == epoch_at r p (calls_len r p)) (is_some (line_number y.0 (table o.wires r p (calls_len r p)).lines)))
        (ne_eqb y.0.owner p (λ same. sound.flights.foreign p x h.0 is_peer h.1 (ap (λ k. k.owner) (h.2 ∙ sym y.2) ∙ same)))
        ∙ line)

  -- the front is next, in key and kind
  front_next : (k : Key) (e : Entry) (rest : Queue) → (cleared x).queue ≡ (k, e) ∷ rest → is_staged (k, e) ≡ false → IsNextReceipt o.wires r p (calls_len r p) (taken_answer x (k, e) rest)
  front_next k (Message origin user index serial offset len nodes slots handles payload) rest front even =
      (front_message k origin user index serial offset len nodes slots handles payload rest front even, least sound right p d x is_driver is_peer idle (k, Message origin user index serial offset len nodes slots handles payload) rest front even)
  front_next k (OwnNotice serial index) rest front even = (front_own k serial index rest front even, least sound right p d x is_driver is_peer idle (k, OwnNotice serial index) rest front even)
  front_next k (ForeignNotice node index) rest front even = (front_foreign k node index rest front even, least sound right p d x is_driver is_peer idle (k, ForeignNotice node index) rest front even)
  front_next k (ReleaseNotice serial) rest front even = tt

-- whatever a peer takes next is its next entry
pub front_is_next : {o : Opening} {s : State} → IsSound o s → IsRight o s → FrontIsNext o s
front_is_next sound right p x f rest can = front_next sound right p can.driver x can.is_driver can.is_peer can.idle f.0 f.1 rest can.front can.committed
