-- What RECV removes for nobody is nothing that its peer may receive.
use Rattle.std.proofs.Common.{◌≡◌, refl, sym, ap, subst, ◌∙◌, inl, inr, ℕ, suc, ◌==◌, Bool, true, false, cond, not, List, [], ◌∷◌, Option, Some, None, option_map}
use Rattle.std.specs.Prelude.{slice_get, is_some}
use Rattle.std.proofs.lemmas.Bool.{and_parts, eqb-true, ne_eqb, not-true}
use Rattle.std.proofs.lemmas.Option.{same_Some, slice_get_within, get_or_from_slice_get}
use Rattle.std.specs.List.{All}
use native.Mathlib.Omega.{arith}
use Rattle.b1_model.specs.declared.naming.Key.{Key}
use Rattle.b1_model.specs.declared.naming.NodeRef.{NodeRef}
use Rattle.b1_model.specs.declared.naming.Opening.{Opening}
use Rattle.b1_model.specs.declared.parts.NodeState.{NodeState}
use Rattle.b1_model.specs.declared.parts.NodeState.TheVariants.{Live, Dying, Destroyed}
use Rattle.b1_model.specs.declared.entries.Entry.{Entry}
use Rattle.b1_model.specs.declared.entries.Entry.TheVariants.{Message, OwnNotice, ForeignNotice, ReleaseNotice}
use Rattle.b1_model.specs.declared.records.Record.{Record}
use Rattle.b1_model.specs.Names.{Node, epoch_at}
use Rattle.b1_model.specs.Ledger as ledger
use Rattle.b1_model.specs.Ledger.{is_below, line_number, table, message, doomed_at, to_at, is_accepted, is_entry, is_late}
use Rattle.b1_model.specs.Legal.{is_above, last_key, is_open_to, is_message_in, is_message, is_notice_of, is_notice, is_candidate}
use Rattle.b1_model.specs.MachineParts.{PeerPart, NodePart, DriverPart, HandleRecord, State, is_staged, is_destroyed, no_node, node_at, record_of, record_or_none, key_before, same_ref}
use Rattle.b1_model.specs.MachineReceive.{is_for_nobody}
use Rattle.b1_model.specs.MachineStep.{record_of_state}
use Rattle.b1_step.specs.Rights.{Has}
use Rattle.b1_step.proofs.Orders.{same_ref_is}
use Rattle.b1_inv.specs.Words.{IsPeer, IsDriver, IsMade}
use Rattle.b1_inv.specs.Sound.{IsSound}
use Rattle.b1_ledger.specs.Growth.{calls_len, all_names, WasMade}
use Rattle.b1_ledger.proofs.KeyOrder.{below_is, Below, Before, is_of_before}
use Rattle.b1_ledger.proofs.Made.{to_made, doomed_made}
use Rattle.b1_ledger.proofs.NextAfter.{below_is_less}
use Rattle.b1_ledger.proofs.Sequences.{or_true}
use Rattle.b1_inv_record.specs.Destructions.{own_ref}
use Rattle.b1_inv_record.specs.Epochs.{ref_of}
use Rattle.b1_inv_record.specs.Right.{IsRight}
use Rattle.b1_inv_refs.proofs.GivenUp.{record_found}
use Rattle.b1_inv_destroys.proofs.Taken.{at_or_none}
use Rattle.b1_inv_entries.proofs.NewCalls.{records_length}
use Rattle.b1_inv_notices.proofs.Turns.{get_there}
use Rattle.b1_ledger.proofs.Plain.{notice_source}
use Rattle.b1_inv_peer.proofs.RecordFields.{or_none}
use Rattle.b1_inv_next.proofs.Facts.{notice_late, one_kind}
use Rattle.b1_inv_next.proofs.Idle.{as_many}
use Rattle.b1_inv_next.proofs.Messages.{caller}
use Rattle.b1_inv_next.proofs.Notices.{line_held}

-- what an optional node maps to
pub ref_found : (found : Option Node) (node : NodeRef) → option_map ref_of found ≡ Some node → (y : Node) × (found ≡ Some y) × (ref_of y ≡ node)
ref_found None node is = absurd (cc is)
ref_found (Some y) node is = (y, refl, same_Some (ref_of y) node is)

-- a record is the first of its node
pub found_record : (node : NodeRef) (found : Option HandleRecord) → (or_none node found).notice ≡ true → (h : HandleRecord) × (found ≡ Some h)
found_record node None is = absurd (cc is)
found_record node (Some h) is = (h, refl)

pub has_record : (node : NodeRef) (hs : List HandleRecord) (h : HandleRecord) → record_of node hs ≡ Some h → Has hs h × (h.node ≡ node)
has_record node [] h is = absurd (cc is)
has_record node (g ∷ rest) h is = by (same_ref g.node node) refl is (has_record node rest h)
  where
    by : (b : Bool) → same_ref g.node node ≡ b → cond b (Some g) (record_of node rest) ≡ Some h → (record_of node rest ≡ Some h → Has rest h × (h.node ≡ node)) → Has (g ∷ rest) h × (h.node ≡ node)
    by true same found further = let one = same_Some g h found in (inl (sym one), ap (λ k. k.node) (sym one) ∙ same_ref_is g.node node same)
    by false other found further = let k = further found in (inr k.0, k.1)

module _ {o : Opening} {s : State} (sound : IsSound o s) (right : IsRight o s) where
  abbrev r : Record
  r = record_of_state s

  -- two nodes of the record with the same owner and serial
  pub one_node : (y z : Node) → WasMade o.wires r y → WasMade o.wires r z → ref_of y ≡ ref_of z → y ≡ z
  one_node y z made also same =
      let owner : y.owner ≡ z.owner = ap (λ n. n.owner) same in
      let serial : y.serial ≡ z.serial = ap (λ n. n.serial) same in
      let name = same_Some made.0 also.0 (sym made.1 ∙ ap (λ q. slice_get (all_names o.wires r q) y.serial) owner ∙ ap (slice_get (all_names o.wires r z.owner)) serial ∙ also.1) in
      let epoch : y.epoch ≡ z.epoch = made.2 ∙ ap (λ m. m.epoch) name ∙ sym also.2 in
      rw (owner, serial, epoch) refl

  -- no candidate that is a notice has a message, and the other way round
  pub message_alone : (p : ℕ) (key : Key) (m : ledger.Message) → message o.wires r key.stamp key.origin ≡ Some m → is_notice o.wires r p (calls_len r p) key ≡ true → ⊥
  message_alone p key m sent is =
      by (doomed_at o.wires r key) refl (and_parts (is_above key (last_key r p (calls_len r p))) (is_notice_of o.wires r p (calls_len r p) (doomed_at o.wires r key)) is).1
    where
      by : (found : Option Node) → doomed_at o.wires r key ≡ found → is_notice_of o.wires r p (calls_len r p) found ≡ true → ⊥
      by None at none = absurd (cc none)
      by (Some y) at some = one_kind o.wires r right.legal.order key m y sent at

  pub notice_alone : (p : ℕ) (key : Key) (y : Node) → doomed_at o.wires r key ≡ Some y → is_message o.wires r p (calls_len r p) key ≡ true → ⊥
  notice_alone p key y doomed is =
      by (message o.wires r key.stamp key.origin) refl (and_parts (is_above key (last_key r p (calls_len r p))) (is_message_in o.wires r p (calls_len r p) key (message o.wires r key.stamp key.origin)) is).1
    where
      by : (found : Option ledger.Message) → message o.wires r key.stamp key.origin ≡ found → is_message_in o.wires r p (calls_len r p) key found ≡ true → ⊥
      by None at none = absurd (cc none)
      by (Some m) at some = one_kind o.wires r right.legal.order key m y at doomed

  -- a notice behind which a message's key stands makes its node late
  pub makes_late : (notice key : Key) (m : ledger.Message) (y z : Node) → message o.wires r key.stamp key.origin ≡ Some m → doomed_at o.wires r notice ≡ Some z → WasMade o.wires r y → ref_of y ≡ ref_of z → is_below notice key ≡ true → is_late o.wires r y key ≡ true
  makes_late notice key m y z sent doomed made same below =
      let source = notice_source o.wires r notice z doomed in
      let who = caller sound right notice.origin source.0 source.1 source.2 in
      let within = slice_get_within s.peers notice.origin who.1 who.3 in
      let peers = records_length s.peers s.drivers (as_many sound right) in
      let node : z ≡ y = one_node z y (doomed_made o.wires r notice z doomed) made (sym same) in
      notice_late o.wires r right.legal.order y notice key (omega (arith, within, peers)) (doomed ∙ ap Some node) (is_of_before notice.stamp notice.origin key.stamp key.origin (before (below_is notice key below)))
    where
      before : Below notice key → Before notice.stamp notice.origin key.stamp key.origin
      before (inl is) = is
      before (inr (stamp, origin, index)) = absurd (one_kind o.wires r right.legal.order notice m z (ap (λ n. message o.wires r n notice.origin) stamp ∙ ap (message o.wires r key.stamp) origin ∙ sent) doomed)

  module _ (p : ℕ) (d : DriverPart) (x : PeerPart) (is_driver : IsDriver s p d) (is_peer : IsPeer s p x) (idle : d.doing ≡ None) where
    -- the record of a notice that is queued
    pub noticed_record : (k : Key) (i : ℕ) (node : NodeRef) → Has x.queue (k, ForeignNotice node i) → (h : HandleRecord) × Has x.handles h × (h.node ≡ node) × (record_of node x.handles ≡ Some h)
    noticed_record k i node has =
        let h = found_record node (record_of node x.handles) (right.parts.marks.marked p i x k node is_peer has) in
        let at = has_record node x.handles h.0 h.1 in (h.0, at.0, at.1, h.1)

    -- the node of a notice that is queued and committed
    pub noticed_node : (k : Key) (i : ℕ) (node : NodeRef) → Has x.queue (k, ForeignNotice node i) → is_staged (k, ForeignNotice node i) ≡ false → (y : Node) × (doomed_at o.wires r k ≡ Some y) × (ref_of y ≡ node)
    noticed_node k i node has even =
        let h = noticed_record k i node has in
        let m = subst (IsMade s) h.2 (sound.flights.made p x h.0 is_peer h.1) in
        let n = get_there m.0.nodes node.serial m.2 in
        let key = right.destructions.foreign.queued p i x k node is_peer has even in
        ref_found (doomed_at o.wires r k) node (right.destructions.keys.node node.owner node.serial m.0 n.0 k m.1 n.1 key)

    -- the place of a queued message in the record
    pub record MessageNode (key : Key) (serial : ℕ) : Type 0 where
      pub message : ledger.Message
      pub sent : ledger.message o.wires r key.stamp key.origin ≡ Some message
      pub accepted : is_accepted (slice_get message.places key.index) ≡ true
      pub node : Node
      pub to : to_at message key.index ≡ Some node
      pub is : ref_of node ≡ own_ref p serial

    pub message_node : (key : Key) (origin user index serial offset len : ℕ) (nodes : _) (slots : _) (handles : _) (payload : _) → Has x.queue (key, Message origin user index serial offset len nodes slots handles payload) → is_staged (key, Message origin user index serial offset len nodes slots handles payload) ≡ false → MessageNode key serial
    message_node key origin user index serial offset len nodes slots handles payload has even =
        let c = right.entries.called.sent p x (key, Message origin user index serial offset len nodes slots handles payload) is_peer has refl even in
        let y = ref_found (to_at c.0 key.index) (own_ref p serial) c.2.1 in
        record { message = c.0; sent = c.1; accepted = c.2.0; node = y.0; to = y.1; is = y.2 }

    -- a node whose notice was taken: its key is behind the queue
    taken_behind : (serial : ℕ) → (node_at x serial).taken ≡ true → (key : Key) × (z : Node) × (doomed_at o.wires r key ≡ Some z) × (ref_of z ≡ own_ref p serial) × All (λ f. key_before key f.0 ≡ true) x.queue
    taken_behind serial taken = elim (at_or_none x.nodes serial) [
      | inr none ↦ let both : false ≡ true = ap (λ m. m.taken) (sym none) ∙ taken in absurd (cc both)
      | inl (n, at) ↦
          let was : n.taken ≡ true = ap (λ m. m.taken) (sym (get_or_from_slice_get x.nodes serial n no_node at)) ∙ taken in
          by n at was n.state refl (right.destructions.own.taken p serial x n is_peer at was)
    ]
      where
        by : (n : NodePart) → slice_get x.nodes serial ≡ Some n → n.taken ≡ true → (state : NodeState) → n.state ≡ state → is_destroyed n.state ≡ true
            → (key : Key) × (z : Node) × (doomed_at o.wires r key ≡ Some z) × (ref_of z ≡ own_ref p serial) × All (λ f. key_before key f.0 ≡ true) x.queue
        by n at was (Destroyed stamp) state gone =
            let k = right.destructions.dying.destroyed p serial stamp x n is_peer at state in
            let z = ref_found (doomed_at o.wires r k.0) (own_ref p serial) (right.destructions.keys.node p serial x n k.0 is_peer at k.1) in
            (k.0, z.0, z.1, z.2, (right.entries.gone.taken p serial x n k.0 is_peer at was k.1).1)
        by n at was Live state gone = let both : false ≡ true = ap is_destroyed (sym state) ∙ gone in absurd (cc both)
        by n at was Dying state gone = let both : false ≡ true = ap is_destroyed (sym state) ∙ gone in absurd (cc both)

    pub all_has : (key : Key) (queue : List (Key × Entry)) (f : Key × Entry) → All (λ g. key_before key g.0 ≡ true) queue → Has queue f → key_before key f.0 ≡ true
    all_has key [] f all h = absurd h
    all_has key (g ∷ rest) f all (inl same) = ap (λ z. key_before key z.0) same ∙ all 0 g (omega arith)
    all_has key (g ∷ rest) f all (inr h) = all_has key rest f (λ k e low. all (suc k) e (omega (arith, low))) h

    -- an entry for nobody is no candidate
    pub nobody_apart : (f : Key × Entry) → Has x.queue f → is_staged f ≡ false → is_for_nobody x f.1 ≡ true → is_candidate o.wires r p (calls_len r p) f.0 ≡ true → ⊥
    nobody_apart (key, Message origin user index serial offset len nodes slots handles payload) has even nobody candidate =
        let m = message_node key origin user index serial offset len nodes slots handles payload has even in
        let behind = taken_behind serial nobody in
        let below : is_below behind.0 key ≡ true = below_is_less behind.0 key ∙ all_has behind.0 x.queue (key, Message origin user index serial offset len nodes slots handles payload) behind.4 has in
        let late = makes_late behind.0 key m.message m.node behind.1 m.sent behind.2 (to_made o.wires r key.stamp key.origin m.message key.index m.node m.sent m.to) (m.is ∙ sym behind.3) below in
        elim (or_true (is_message o.wires r p (calls_len r p) key) (is_notice o.wires r p (calls_len r p) key) candidate) [
          | inr notice ↦ message_alone p key m.message m.sent notice
          | inl is ↦
              let parts = and_parts (is_above key (last_key r p (calls_len r p))) (is_message_in o.wires r p (calls_len r p) key (message o.wires r key.stamp key.origin)) is in
              let in_record : is_message_in o.wires r p (calls_len r p) key (Some m.message) ≡ true = ap (is_message_in o.wires r p (calls_len r p) key) (sym m.sent) ∙ parts.1 in
              let open_part = and_parts (is_entry p key.index m.message) (is_open_to o.wires r p (calls_len r p) key (to_at m.message key.index)) in_record in
              let here : is_open_to o.wires r p (calls_len r p) key (Some m.node) ≡ true = ap (is_open_to o.wires r p (calls_len r p) key) (sym m.to) ∙ open_part.1 in
              let fresh = not-true (is_late o.wires r m.node key) (and_parts (m.node.epoch == epoch_at r p (calls_len r p)) (not (is_late o.wires r m.node key)) here).1 in
              let both : true ≡ false = sym late ∙ fresh in cc both
        ]
    nobody_apart (key, OwnNotice serial index) has even nobody candidate = cc nobody
    nobody_apart (key, ForeignNotice node index) has even nobody candidate =
        let y = noticed_node key index node has even in
        let h = noticed_record key index node has in
        elim (or_true (is_message o.wires r p (calls_len r p) key) (is_notice o.wires r p (calls_len r p) key) candidate) [
          | inl message ↦ notice_alone p key y.0 y.1 message
          | inr is ↦
              let parts = and_parts (is_above key (last_key r p (calls_len r p))) (is_notice_of o.wires r p (calls_len r p) (doomed_at o.wires r key)) is in
              let concerns : is_notice_of o.wires r p (calls_len r p) (Some y.0) ≡ true = ap (is_notice_of o.wires r p (calls_len r p)) (sym y.1) ∙ parts.1 in
              let other : (y.0.owner == p) ≡ false = ne_eqb y.0.owner p (λ same. sound.flights.foreign p x h.0 is_peer h.1 (ap (λ n. n.owner) h.2 ∙ ap (λ n. n.owner) (sym y.2) ∙ same)) in
              let line : is_some (line_number y.0 (table o.wires r p (calls_len r p)).lines) ≡ true = ap (λ b. cond b (y.0.epoch == epoch_at r p (calls_len r p)) (is_some (line_number y.0 (table o.wires r p (calls_len r p)).lines))) (sym other) ∙ concerns in
              let g = line_held sound right p d x is_driver is_peer idle y.0 line in
              let first : record_of node x.handles ≡ Some g.0 = ap (λ n. record_of n x.handles) (sym y.2 ∙ sym g.2) ∙ record_found x.handles g.0 (sound.rising p x is_peer) g.1 in
              let none : (record_or_none node x.handles).held ≡ 0 = eqb-true (record_or_none node x.handles).held 0 nobody in
              let held : (record_or_none node x.handles).held ≡ g.0.held = ap (λ z. (or_none node z).held) first in
              let some = g.3 in absurd (omega (arith, none, held, some))
        ]
    nobody_apart (key, ReleaseNotice serial) has even nobody candidate = cc nobody
