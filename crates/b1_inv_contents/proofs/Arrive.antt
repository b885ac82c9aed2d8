-- The handles of a message that is taken arrive as the record's contents have them.
use Rattle.std.proofs.Common.{◌≡◌, refl, sym, ap, subst, ◌∙◌, ℕ, Bool, false, List, [], map, fold, zip, Some, None, option_map}
use Rattle.std.specs.Prelude.{slice_get}
use Rattle.std.proofs.lemmas.Option.{same_Some}
use Rattle.b1_model.specs.declared.naming.Key.{Key}
use Rattle.b1_model.specs.declared.naming.NodeRef.{NodeRef}
use Rattle.b1_model.specs.declared.naming.Opening.{Opening}
use Rattle.b1_model.specs.declared.parts.Slot.{Slot}
use Rattle.b1_model.specs.declared.parts.Slot.TheVariants as slot
use Rattle.b1_model.specs.declared.entries.Entry.{Entry}
use Rattle.b1_model.specs.Names.{Node, Name, made}
use Rattle.b1_model.specs.Ledger.{Table, Message, table, is_late}
use Rattle.b1_model.specs.Legal.{arrived}
use Rattle.b1_model.specs.MachineParts.{PeerPart, State, carried, slots_of}
use Rattle.b1_model.specs.MachinePool.{published}
use Rattle.b1_model.specs.MachineReceive.{Arriving, slot_arrives, cleared}
use Rattle.b1_model.specs.MachineStep.{record_of_state}
use Rattle.b1_inv.specs.Words.{IsMade}
use Rattle.b1_inv.specs.Sends.{IsFilled}
use Rattle.b1_inv.specs.Sound.{IsSound}
use Rattle.b1_ledger.specs.Growth.{calls_len}
use Rattle.b1_inv_record.specs.Epochs.{awaits_flush, in_gap, ref_of}
use Rattle.b1_inv_record.specs.Right.{IsRight}
use Rattle.b1_inv_notices.proofs.Turns.{get_there}
use Rattle.b1_inv_refs.proofs.Arrivals.{InFlight, Cleared, is_cleared}
use Rattle.b1_inv_tables.proofs.Slots.{IsJudged, OwnNumbers}
use Rattle.b1_inv_tables.proofs.Agrees.{IsTable}
use Rattle.b1_inv_tables.proofs.Arrives.{AreJudged, SlotsCome, slots_come}
use Rattle.b1_inv_tables.proofs.Receives.{cleared_table, front_flies}
use Rattle.b1_inv_tables.proofs.Kept.{table_before, numbered, flies, has_slots, own_numbered}
use Rattle.b1_inv_legal.specs.Fronts.{CanTake, delivered, IsTaking, SlotsArrive}
use Rattle.b1_inv_legal.proofs.Front.{cleared_numbered}
use Rattle.b1_inv_legal.proofs.Sends.{same_image}
use Rattle.b1_inv_contents.proofs.Judged.{dead, has, void_judged, own_judged, filled_at, all_at}
use Rattle.b1_inv_contents.proofs.References.{attached_judged}

module _ {o : Opening} {s : State} (sound : IsSound o s) (right : IsRight o s) (p : ℕ) (x : PeerPart) (f : Key × Entry) (nodes : List NodeRef) (slots : List Slot) (m : Message) (taking : IsTaking o s p x f nodes slots m) where
  can : CanTake s p x f taking.rest
  can = taking.can

  abbrev late : Node → Bool
  late y = is_late o.wires (record_of_state s) y f.0

  abbrev known : List Name
  known = made o.wires (record_of_state s) p (calls_len (record_of_state s) p)

  abbrev tab : Table
  tab = table o.wires (record_of_state s) p (calls_len (record_of_state s) p)

  abbrev is_dead : NodeRef → Bool
  is_dead = dead sound right can taking.is_message m taking.is_sent

  same_nodes : map (option_map ref_of) m.carried ≡ map Some (carried f.1)
  same_nodes = taking.sent_nodes ∙ ap (map Some) (sym taking.carries)

  filled : (j : ℕ) (node : NodeRef) (t : Slot) → slice_get (carried f.1) j ≡ Some node → slice_get (slots_of f.1) j ≡ Some t → IsFilled (record { owner = p; serial = 0 }) node t
  filled j node t at also = filled_at p (carried f.1) (slots_of f.1) j node t (sound.slots.filled p x f can.is_peer (has sound right can taking.is_message m taking.is_sent) taking.is_message can.committed) at also

  judged_as : (j : ℕ) (y : Node) (t : Slot) → slice_get (carried f.1) j ≡ Some (ref_of y) → slice_get (slots_of f.1) j ≡ Some t → IsJudged late known is_dead (cleared x).nodes t y
  judged_as j y t there slotted = by t slotted (filled j (ref_of y) t there slotted) (all_at (IsMade s) (carried f.1) j (ref_of y) (sound.slots.made p x f can.is_peer (has sound right can taking.is_message m taking.is_sent)) there)
    where
      by : (t : Slot) → slice_get (slots_of f.1) j ≡ Some t → IsFilled (record { owner = p; serial = 0 }) (ref_of y) t → IsMade s (ref_of y) → IsJudged late known is_dead (cleared x).nodes t y
      by slot.Unattached slotted fills made = fills
      by slot.Void slotted fills (w, is, low) = let n = get_there w.nodes y.serial low in void_judged sound right can taking.is_message m taking.is_sent y w n.0 is n.1 j there slotted
      by slot.Own slotted fills (w, is, low) = let n = get_there w.nodes y.serial low in own_judged sound right can taking.is_message m taking.is_sent y w n.0 is n.1 fills j there slotted
      by slot.Attached slotted fills (w, is, low) = let n = get_there w.nodes y.serial low in attached_judged sound right can taking.is_message m taking.is_sent y w n.0 is n.1 fills j there slotted

  all_judged : AreJudged late known is_dead (cleared x).nodes m.carried (slots_of f.1)
  all_judged j y t at slotted =
      let node = same_image (option_map ref_of) m.carried (carried f.1) j (Some y) same_nodes at in
      judged_as j y t (node.2 ∙ ap Some (sym (same_Some (ref_of y) node.0 node.1))) slotted

  arrive_so : (offset : ℕ) → delivered x taking.rest offset (carried f.1) (slots_of f.1) ≡ arrived late p known m.carried tab
  arrive_so offset = come.added ∙ come.judged all_judged (λ node apart some. refl)
    where
      clear : Cleared x
      clear = is_cleared x (sound.rising p x can.is_peer)

      me_is : x.me ≡ p
      me_is = (sound.numbered.peers p x can.is_peer).me

      no_gap : in_gap can.driver ≡ false
      no_gap = ap (λ doing. elim doing [ None ↦ false | Some one ↦ awaits_flush one.command one.phase ]) can.idle

      start : Arriving
      start = record { part = record (cleared x) { queue = taking.rest; slices = published offset (cleared x).slices }; numbers = []; refs = [] }

      is_table : IsTable tab x.given x.handles
      is_table = table_before sound right p can.driver x can.is_driver can.is_peer no_gap

      come : SlotsCome p late known is_dead start (fold slot_arrives start (zip (carried f.1) (slots_of f.1))) tab (carried f.1) (slots_of f.1) m.carried
      come = slots_come p late known is_dead (carried f.1) (slots_of f.1) m.carried start tab (clear.me ∙ me_is) clear.rising
          (cleared_numbered x (numbered sound right p x can.is_peer)) (subst OwnNumbers (sym clear.nodes) (own_numbered sound right p x can.is_peer))
          (sound.slots.filled p x f can.is_peer (has sound right can taking.is_message m taking.is_sent) taking.is_message can.committed)
          (subst (λ q. InFlight q (carried f.1) (cleared x).handles) me_is
          (front_flies x (sound.rising p x can.is_peer) (numbered sound right p x can.is_peer) (flies sound right p x can.is_peer) (has_slots sound right p x can.is_peer) (own_numbered sound right p x can.is_peer) tab is_table f.0 f.1 taking.rest can.front))
          same_nodes
          (cleared_table x (sound.rising p x can.is_peer) (numbered sound right p x can.is_peer) (flies sound right p x can.is_peer) (has_slots sound right p x can.is_peer) (own_numbered sound right p x can.is_peer) tab is_table)

  -- the handles of this message arrive so
  pub slots_arrive_here : (offset : ℕ) → delivered x taking.rest offset nodes slots ≡ arrived late p known m.carried tab
  slots_arrive_here offset =
      ap (λ ns. delivered x taking.rest offset ns slots) (sym taking.carries)
      ∙ ap (delivered x taking.rest offset (carried f.1)) (sym taking.has_slots)
      ∙ arrive_so offset

-- the handles of every message that a peer may take arrive so
pub slots_arrive : {o : Opening} {s : State} → IsSound o s → IsRight o s → SlotsArrive o s
slots_arrive sound right p offset x f nodes slots m taking = slots_arrive_here sound right p x f nodes slots m taking offset
