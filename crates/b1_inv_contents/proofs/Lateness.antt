-- A node is destroyed before a call exactly where the key of its notice is before it.
use Rattle.std.proofs.Common.{◌≡◌, refl, sym, ap, ◌∙◌, ◌==◌, ◌&&◌, true, List, Option, Some, None}
use Rattle.std.specs.Prelude.{slice_get}
use Rattle.std.specs.List.{list_any}
use Rattle.b1_model.specs.declared.naming.Key.{Key}
use Rattle.b1_model.specs.declared.naming.Opening.{Opening}
use Rattle.b1_model.specs.declared.naming.Wire.{Wire}
use Rattle.b1_model.specs.declared.records.Record.{Record}
use Rattle.b1_model.specs.Names.{Node}
use Rattle.b1_model.specs.Ledger.{is_before, is_the_node, destructions, doomed_at, is_late}
use Rattle.b1_model.specs.MachineParts.{PeerPart, NodePart, State}
use Rattle.b1_model.specs.MachineStep.{record_of_state}
use Rattle.b1_step.proofs.Orders.{same_ref_is}
use Rattle.b1_inv.specs.Words.{IsPeer}
use Rattle.b1_ledger.specs.Growth.{RisesAt}
use Rattle.b1_ledger.proofs.Plain.{notice_source}
use Rattle.b1_ledger.proofs.NextAfter.{is_peer}
use Rattle.b1_inv_record.specs.Epochs.{ref_of}
use Rattle.b1_inv_record.specs.Destructions.{own_ref, doomed_key}
use Rattle.b1_inv_record.specs.Right.{IsRight}
use Rattle.b1_inv_next.proofs.Facts.{late_notice, notice_late}
use Rattle.b1_inv_legal.proofs.Notices.{mapped}

same_test : (x y : Node) → x.owner ≡ y.owner → x.serial ≡ y.serial → (z : Option Node) → is_the_node x z ≡ is_the_node y z
same_test x y owner serial None = refl
same_test x y owner serial (Some w) = ap (λ n. (n == w.owner) && (x.serial == w.serial)) owner ∙ ap (λ n. (y.owner == w.owner) && (n == w.serial)) serial

-- the same owner and serial are late alike
same_late : (ws : List Wire) (r : Record) (x y : Node) (key : Key) → x.owner ≡ y.owner → x.serial ≡ y.serial → is_late ws r x key ≡ is_late ws r y key
same_late ws r x y key owner serial = ap (λ test. list_any (λ d. is_before d.stamp d.origin key.stamp key.origin && list_any test d.nodes) (destructions ws r)) (λ i z. same_test x y owner serial z i)

module _ {o : Opening} {s : State} (right : IsRight o s) where
  abbrev r : Record
  r = record_of_state s

  -- the stamps of each peer's calls rise
  pub rises : RisesAt r
  rises = right.legal.order

  -- a node that was destroyed before a key has a notice's key before it
  pub late_key : (x : Node) (key : Key) → is_late o.wires r x key ≡ true → (notice : Key) × (y : Node) × (doomed_key o s (ref_of x) ≡ Some notice) × (doomed_at o.wires r notice ≡ Some y) × (is_before notice.stamp notice.origin key.stamp key.origin ≡ true)
  late_key x key is =
      let z = late_notice o.wires r rises x key is in
      (z.0, z.1, ap (doomed_key o s) (same_ref_is (ref_of x) (ref_of z.1) z.3) ∙ right.destructions.keys.key z.0 z.1 z.2, z.2, z.4)

  module _ (x : Node) (w : PeerPart) (n : NodePart) (is : IsPeer s x.owner w) (at : slice_get w.nodes x.serial ≡ Some n) where
    -- the record has the node under the key of its notice
    pub key_node : (notice : Key) → doomed_key o s (ref_of x) ≡ Some notice → (y : Node) × (doomed_at o.wires r notice ≡ Some y) × (ref_of y ≡ ref_of x)
    key_node notice keyed = mapped (doomed_at o.wires r notice) (own_ref x.owner x.serial) (right.destructions.keys.node x.owner x.serial w n notice is at keyed)

    -- a node with a notice's key before another key was destroyed before that
    pub key_late : (notice key : Key) → doomed_key o s (ref_of x) ≡ Some notice → is_before notice.stamp notice.origin key.stamp key.origin ≡ true → is_late o.wires r x key ≡ true
    key_late notice key keyed before =
        let y = key_node notice keyed in
        let source = notice_source o.wires r notice y.0 y.1 in
        same_late o.wires r x y.0 key (ap (λ z. z.owner) (sym y.2)) (ap (λ z. z.serial) (sym y.2))
        ∙ notice_late o.wires r rises y.0 notice key (is_peer r notice.origin source.0 source.1 source.2) y.1 before
