-- Every destroy notice that a peer may receive next is queued, or a staged entry below it is.
use Rattle.std.proofs.Common.{◌≡◌, ◌≢◌, refl, sym, ap, subst, ◌∙◌, inl, inr, ℕ, ◌≤◌, ◌<◌, ◌==◌, Bool, true, false, cond, [], Option, Some, None}
use Rattle.std.specs.Prelude.{slice_get, is_some}
use Rattle.std.proofs.lemmas.Bool.{and_parts, eq-eqb, eqb-true}
use Rattle.std.proofs.lemmas.Option.{same_Some, slice_get_within, get_or_from_slice_get}
use native.Mathlib.Omega.{arith}
use Rattle.b1_model.specs.declared.naming.Key.{Key}
use Rattle.b1_model.specs.declared.naming.Opening.{Opening}
use Rattle.b1_model.specs.declared.parts.NodeState.TheVariants.{Dying, Destroyed}
use Rattle.b1_model.specs.declared.entries.Entry.TheVariants as entry
use Rattle.b1_model.specs.declared.events.Doing.{Doing}
use Rattle.b1_model.specs.declared.events.Phase.{Phase}
use Rattle.b1_model.specs.declared.events.Phase.TheVariants.{Visiting, Dooming, SyncingNotices, CommittingOwn, CommittingNotices}
use Rattle.b1_model.specs.declared.records.Record.{Record}
use Rattle.b1_model.specs.Names.{Node, epoch_at}
use Rattle.b1_model.specs.Ledger.{Line, line_number, is_the_node, table, doomed_at}
use Rattle.b1_model.specs.Legal.{is_above, last_key, is_notice_of, is_notice, is_message, is_candidate}
use Rattle.b1_model.specs.MachineParts.{PeerPart, DriverPart, HandleRecord, State, is_staged, is_dying, is_live, no_node, node_at, same_ref}
use Rattle.b1_model.specs.MachineEvents.{doomed_of}
use Rattle.b1_model.specs.MachineStep.{record_of_state}
use Rattle.b1_step.specs.Rights.{Has}
use Rattle.b1_step.proofs.Lists.{has_at}
use Rattle.b1_step.proofs.Orders.{same_ref_is}
use Rattle.b1_inv.specs.Words.{IsPeer, IsDriver, stamp_of_phase, is_uncommitted}
use Rattle.b1_inv.specs.Notices.{DestructionShape, doomed_now, staged_now}
use Rattle.b1_inv.specs.Sound.{IsSound}
use Rattle.b1_ledger.specs.Growth.{calls_len}
use Rattle.b1_ledger.proofs.Made.{doomed_made}
use Rattle.b1_ledger.proofs.Sequences.{and_of, or_true}
use Rattle.b1_inv_record.specs.Destructions.{own_ref, doomed_key, awaits_commit}
use Rattle.b1_inv_record.specs.Epochs.{first_done, ref_of, is_ref, is_unstaging}
use Rattle.b1_inv_record.specs.Holders.{IsCovered}
use Rattle.b1_inv_record.specs.Right.{IsRight}
use Rattle.b1_inv_notices.proofs.Turns.{get_there}
use Rattle.b1_inv_legal.proofs.Lines.{line_number_of}
use Rattle.b1_inv_next.specs.Queued.{Queued}
use Rattle.b1_inv_next.proofs.Messages.{message_queued}
use Rattle.b1_inv_next.proofs.Idle.{as_many, node_there, no_gap, first_same, present_is, received_behind}

-- what a phase with doomed nodes says of their state and its stamp
stamp_of_doomed : (peers : ℕ) (y : PeerPart) (doing : Doing) (serial stamp : ℕ) → DestructionShape peers y doing.command doing.phase → Has (doomed_of doing.phase) serial → (node_at y serial).state ≡ Destroyed stamp
    → (stamp_of_phase doing.phase ≡ Some stamp) × (is_unstaging doing.phase ≡ false)
stamp_of_doomed peers y doing serial stamp shape has state = by doing.phase shape has
  where
    dies : Dying ≡ Destroyed stamp → ⊥
    dies is = let both : true ≡ false = ap is_dying is in absurd (cc both)

    same : (one : ℕ) → Destroyed one ≡ Destroyed stamp → Some one ≡ Some stamp
    same one is = let k : one ≡ stamp = cc is in ap Some k

    by : (phase : Phase) → DestructionShape peers y doing.command phase → Has (doomed_of phase) serial → (stamp_of_phase phase ≡ Some stamp) × (is_unstaging phase ≡ false)
    by (Visiting d left) h has = absurd (dies (sym (h.1.made serial has).1 ∙ state))
    by (Dooming d) h has = absurd (dies (sym (h.1.made serial has).1 ∙ state))
    by (SyncingNotices d one at) h has = (same one (sym (h.1.made serial has).1 ∙ state), refl)
    by (CommittingOwn d one) h has = (same one (sym (h.1.made serial has).1 ∙ state), refl)
    by (CommittingNotices d one at) h has = (same one (sym (h.1.made serial has).1 ∙ state), refl)
    by phase h has = absurd has

module _ {o : Opening} {s : State} (sound : IsSound o s) (right : IsRight o s) where
  abbrev r : Record
  r = record_of_state s

  driver_of : (q : ℕ) (y : PeerPart) → IsPeer s q y → (e : DriverPart) × IsDriver s q e
  driver_of q y is = get_there s.drivers q (let within = slice_get_within s.peers q y is in let same = as_many sound right in omega (arith, within, same))

  module _ (p : ℕ) (d : DriverPart) (x : PeerPart) (is_driver : IsDriver s p d) (is_peer : IsPeer s p x) (idle : d.doing ≡ None) where
    of_line : (y : Node) (l : Line) → is_the_node y l.node ≡ true → (h : HandleRecord) → is_ref h.node l.node ≡ true → h.node ≡ ref_of y
    of_line y l same h of = by l.node same of
      where
        by : (node : Option Node) → is_the_node y node ≡ true → is_ref h.node node ≡ true → h.node ≡ ref_of y
        by None one two = absurd (cc one)
        by (Some z) one two =
            let a = and_parts (y.owner == z.owner) (y.serial == z.serial) one in
            let b = and_parts (z.owner == h.node.owner) (z.serial == h.node.serial) two in
            sym (same_ref_is (ref_of y) h.node (both_same (eqb-true y.owner z.owner a.0 ∙ eqb-true z.owner h.node.owner b.0) (eqb-true y.serial z.serial a.1 ∙ eqb-true z.serial h.node.serial b.1)))
          where
            both_same : y.owner ≡ h.node.owner → y.serial ≡ h.node.serial → same_ref (ref_of y) h.node ≡ true
            both_same owner serial = and_of (y.owner == h.node.owner) (y.serial == h.node.serial) (eq-eqb y.owner h.node.owner owner) (eq-eqb y.serial h.node.serial serial)

    -- a line of the table is of a record that is held
    pub line_held : (y : Node) → is_some (line_number y (table o.wires r p (calls_len r p)).lines) ≡ true → (h : HandleRecord) × Has x.handles h × (h.node ≡ ref_of y) × (1 ≤ h.held)
    line_held y is = by (line_number y (table o.wires r p (calls_len r p)).lines) refl is
      where
        by : (found : Option ℕ) → line_number y (table o.wires r p (calls_len r p)).lines ≡ found → is_some found ≡ true → (h : HandleRecord) × Has x.handles h × (h.node ≡ ref_of y) × (1 ≤ h.held)
        by None at none = absurd (cc none)
        by (Some number) at some =
            let l = line_number_of y (table o.wires r p (calls_len r p)).lines number at in
            let g = right.names.lines.lines p d x l.0 is_driver is_peer (no_gap sound right p d x is_driver is_peer idle) l.1 in
            (g.0, g.1, of_line y l.0 l.3 g.0 g.2.2, ((sound.numbers.numbered p x is_peer).held g.0 l.0.number g.1 g.2.0).0)

  module _ (p : ℕ) (d : DriverPart) (x : PeerPart) (is_driver : IsDriver s p d) (is_peer : IsPeer s p x) (idle : d.doing ≡ None) (key : Key) (above : is_above key (last_key r p (calls_len r p)) ≡ true) where
    -- the end of an own node
    own_queued : (y : Node) → doomed_at o.wires r key ≡ Some y → y.owner ≡ p → (y.epoch == epoch_at r p (calls_len r p)) ≡ true → Queued x key
    own_queued y doomed here epoch =
        let made = doomed_made o.wires r key y doomed in
        let low = present_is sound right p d x is_driver is_peer idle y made here epoch in
        let n = node_there sound right y made p d x is_driver is_peer here in
        let ref : doomed_key o s (own_ref p y.serial) ≡ Some key = ap (λ q. doomed_key o s (own_ref q y.serial)) (sym here) ∙ right.destructions.keys.key key y doomed in
        let waits : awaits_commit d y.serial ≡ false = ap (λ z. awaits_commit (record d { doing = z }) y.serial) idle in
        elim (right.destructions.own.ended p y.serial d x n.0 key is_driver is_peer n.1 low ref waits) [
          | inr queued ↦ ((key, entry.OwnNotice y.serial key.index), queued, inl refl)
          | inl taken ↦
              let done : first_done o s p ≤ y.serial = (let same = first_same sound right p d x is_driver is_peer idle in omega (arith, low, same)) in
              absurd (received_behind sound right p d x is_driver is_peer idle key (right.destructions.taken.own p y.serial x n.0 key is_peer n.1 taken done ref) above)
        ]

    -- the end of another peer's node that it holds
    module _ (y : Node) (doomed : doomed_at o.wires r key ≡ Some y) (h : HandleRecord) (has : Has x.handles h) (of : h.node ≡ ref_of y) (held : 1 ≤ h.held) where
      owner : (z : PeerPart) × IsPeer s y.owner z
      owner = let m = sound.flights.made p x h is_peer has in (m.0, subst (λ node. IsPeer s node.owner m.0) of m.1)

      driver : (e : DriverPart) × IsDriver s y.owner e
      driver = driver_of y.owner owner.0 owner.1

      key_of : doomed_key o s (ref_of y) ≡ Some key
      key_of = right.destructions.keys.key key y doomed

      destroyed : (node_at owner.0 y.serial).state ≡ Destroyed key.stamp
      destroyed =
          let n = node_there sound right y (doomed_made o.wires r key y doomed) y.owner driver.0 owner.0 driver.1 owner.1 refl in
          ap (λ m. m.state) (get_or_from_slice_get owner.0.nodes y.serial n.0 no_node n.1) ∙ right.destructions.dying.recorded y.owner y.serial owner.0 n.0 key owner.1 n.1 key_of

      covered : IsCovered p h owner.0 driver.0
      covered =
          right.holders.covered.held p x h owner.0 driver.0 is_peer has held (subst (λ node. IsPeer s node.owner owner.0) (sym of) owner.1) (subst (λ node. IsDriver s node.owner driver.0) (sym of) driver.1)
          (ap (λ node. is_live (node_at owner.0 node.serial).state) of ∙ ap is_live destroyed)

      -- a staged notice is below the stamp
      staged_below : (k : Key) (i : ℕ) → Has x.queue (k, entry.ForeignNotice h.node i) → is_staged (k, entry.ForeignNotice h.node i) ≡ true → k.stamp < key.stamp
      staged_below k i there odd = by driver.0.doing refl shape.1
        where
          notice : (k.origin ≡ h.node.owner) × (k.index ≡ i) × (h.node.owner ≢ p) × ((e : DriverPart) → IsDriver s h.node.owner e → is_staged (k, entry.ForeignNotice h.node i) ≡ true → (is_uncommitted e p ≡ true) × (slice_get (doomed_now e) i ≡ Some h.node.serial) × Has (staged_now e) p)
          notice = sound.notices.queued p x (k, entry.ForeignNotice h.node i) is_peer there

          shape : (is_uncommitted driver.0 p ≡ true) × (slice_get (doomed_now driver.0) i ≡ Some h.node.serial) × Has (staged_now driver.0) p
          shape = notice.3 driver.0 (subst (λ node. IsDriver s node.owner driver.0) (sym of) driver.1) odd

          origin : k.origin ≡ y.owner
          origin = notice.0 ∙ ap (λ node. node.owner) of

          by : (doing : Option Doing) → driver.0.doing ≡ doing → slice_get (elim doing [ None ↦ [] | Some one ↦ doomed_of one.phase ]) i ≡ Some h.node.serial → k.stamp < key.stamp
          by None open_is at = absurd (cc at)
          by (Some doing) open_is at =
              let serial : Has (doomed_of doing.phase) y.serial = subst (Has (doomed_of doing.phase)) (ap (λ node. node.serial) of) (has_at (doomed_of doing.phase) i h.node.serial at) in
              let fixed = stamp_of_doomed owner.0.peers owner.0 doing y.serial key.stamp (sound.notices.shape y.owner driver.0 owner.0 doing driver.1 owner.1 open_is) serial destroyed in
              let low = right.clocks.staged.collected p x (k, entry.ForeignNotice h.node i) driver.0 doing is_peer there odd refl (subst (λ q. IsDriver s q driver.0) (sym origin) driver.1) open_is fixed.1 in
              let high = right.clocks.above.above y.owner key.stamp driver.0 doing driver.1 open_is fixed.0 in
              omega (arith, low, high)

      by_notice : (k : Key) (i : ℕ) → Has x.queue (k, entry.ForeignNotice h.node i) → Queued x key
      by_notice k i there = by (is_staged (k, entry.ForeignNotice h.node i)) refl
        where
          by : (b : Bool) → is_staged (k, entry.ForeignNotice h.node i) ≡ b → Queued x key
          by true odd = ((k, entry.ForeignNotice h.node i), there, inr (odd, staged_below k i there odd))
          by false even =
              let same : k ≡ key = same_Some k key (sym (right.destructions.foreign.queued p i x k h.node is_peer there even) ∙ ap (doomed_key o s) of ∙ key_of) in
              ((k, entry.ForeignNotice h.node i), there, inl same)

      held_queued : Queued x key
      held_queued = elim covered [
        | inl (inl noted) ↦ let n = right.parts.marks.queued p x h is_peer has noted in by_notice n.0 n.1 n.2
        | inl (inr dead) ↦ absurd (received_behind sound right p d x is_driver is_peer idle key (right.destructions.taken.held p x h key is_peer has dead held (ap (doomed_key o s) of ∙ key_of)) above)
        | inr (dies, due) ↦ let both : true ≡ false = sym dies ∙ ap (λ node. is_dying (node_at owner.0 node.serial).state) of ∙ ap is_dying destroyed in absurd (cc both)
      ]

    line_queued : (y : Node) → doomed_at o.wires r key ≡ Some y → is_some (line_number y (table o.wires r p (calls_len r p)).lines) ≡ true → Queued x key
    line_queued y doomed is = let g = line_held p d x is_driver is_peer idle y is in held_queued y doomed g.0 g.1 g.2 g.3

    by_doomed : (found : Option Node) → doomed_at o.wires r key ≡ found → is_notice_of o.wires r p (calls_len r p) found ≡ true → Queued x key
    by_doomed None doomed is = absurd (cc is)
    by_doomed (Some y) doomed is = by (y.owner == p) refl is
      where
        by : (b : Bool) → (y.owner == p) ≡ b → cond b (y.epoch == epoch_at r p (calls_len r p)) (is_some (line_number y (table o.wires r p (calls_len r p)).lines)) ≡ true → Queued x key
        by true own epoch = own_queued y doomed (eqb-true y.owner p own) epoch
        by false other line = line_queued y doomed line

  -- a destroy notice that may be received next is queued, or a staged entry below it is
  pub notice_queued : (p : ℕ) (d : DriverPart) (x : PeerPart) → IsDriver s p d → IsPeer s p x → d.doing ≡ None → (key : Key) → is_notice o.wires r p (calls_len r p) key ≡ true → Queued x key
  notice_queued p d x is_driver is_peer idle key is =
      let parts = and_parts (is_above key (last_key r p (calls_len r p))) (is_notice_of o.wires r p (calls_len r p) (doomed_at o.wires r key)) is in
      by_doomed p d x is_driver is_peer idle key parts.0 (doomed_at o.wires r key) refl parts.1

  -- an entry that may be received next is queued, or a staged one below it is
  pub candidate_queued : (p : ℕ) (d : DriverPart) (x : PeerPart) → IsDriver s p d → IsPeer s p x → d.doing ≡ None → (key : Key) → is_candidate o.wires r p (calls_len r p) key ≡ true → Queued x key
  candidate_queued p d x is_driver is_peer idle key is = elim (or_true (is_message o.wires r p (calls_len r p) key) (is_notice o.wires r p (calls_len r p) key) is) [
    | inl message ↦ message_queued sound right p d x is_driver is_peer idle key message
    | inr notice ↦ notice_queued p d x is_driver is_peer idle key notice
  ]
