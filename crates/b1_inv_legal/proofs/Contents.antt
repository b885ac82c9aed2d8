-- What is taken has what was sent: a message its destination's number, its payload and its handles, and a destroy notice its node's number.
use Rattle.std.proofs.Common.{refl, sym, ap, ◌∙◌, ℕ, ◌<◌, List, get_or, length, Some}
use Rattle.b1_model.specs.declared.naming.Key.{Key}
use Rattle.b1_model.specs.declared.naming.NodeRef.{NodeRef}
use Rattle.b1_model.specs.declared.naming.Opening.{Opening}
use Rattle.b1_model.specs.declared.parts.Slot.{Slot}
use Rattle.b1_model.specs.declared.entries.Entry.{Entry}
use Rattle.b1_model.specs.declared.entries.Entry.TheVariants.{Message, OwnNotice, ForeignNotice, ReleaseNotice}
use Rattle.b1_model.specs.Names.{made, number_at}
use Rattle.b1_model.specs.Ledger.{to_at}
use Rattle.b1_model.specs.Legal.{own_number_of, IsWhatWasSent}
use Rattle.b1_model.specs.MachineParts.{PeerPart, State, no_node}
use Rattle.b1_model.specs.MachineStep.{record_of_state}
use Rattle.b1_inv.specs.Sound.{IsSound}
use Rattle.b1_ledger.specs.Growth.{calls_len}
use Rattle.b1_inv_record.specs.Destructions.{own_ref}
use Rattle.b1_inv_record.specs.Right.{IsRight}
use Rattle.b1_inv_refs.proofs.Arrivals.{is_cleared}
use Rattle.b1_inv_legal.specs.Fronts.{CanTake, taken_answer, FrontIsSent, SlotsArrive}
use Rattle.b1_inv_legal.proofs.Front.{front_queued, front_for_it}
use Rattle.b1_inv_legal.proofs.Notices.{mapped, own_number, own_notice_sent, foreign_notice_sent}

module _ {o : Opening} {s : State} (sound : IsSound o s) (right : IsRight o s) (arrive : SlotsArrive o s) {p : ℕ} {x : PeerPart} where
  message_sent : (k : Key) (origin user index serial offset len : ℕ) (nodes : List NodeRef) (slots : List Slot) (handles payload : List ℕ) (rest : List (Key × Entry))
      → CanTake s p x (k, Message origin user index serial offset len nodes slots handles payload) rest
      → IsWhatWasSent o.wires (record_of_state s) p (calls_len (record_of_state s) p) (taken_answer x (k, Message origin user index serial offset len nodes slots handles payload) rest)
  message_sent k origin user index serial offset len nodes slots handles payload rest can =
      let has = front_queued can in
      let called = right.entries.called.sent p x (k, Message origin user index serial offset len nodes slots handles payload) can.is_peer has refl can.committed in
      let of = called.2 in
      let to = mapped (to_at called.0 k.index) (own_ref p serial) of.1 in
      let low : serial < length x.nodes = right.parts.serials.made p x (k, Message origin user index serial offset len nodes slots handles payload) can.is_peer has in
      let nodes_stay = (is_cleared x (sound.rising p x can.is_peer)).nodes in (
        called.0,
        called.1,
        record {
          number =
              ap (own_number_of (made o.wires (record_of_state s) p (calls_len (record_of_state s) p))) to.1
              ∙ ap (number_at (made o.wires (record_of_state s) p (calls_len (record_of_state s) p))) (ap (λ z. z.serial) to.2)
              ∙ own_number sound right can serial low
              ∙ ap (λ ns. Some (get_or ns serial no_node).number) (sym nodes_stay);
          payload = sym of.3;
          handles = arrive p offset x (k, Message origin user index serial offset len nodes slots handles payload) nodes slots called.0 (record { rest = rest; can = can; is_message = refl; carries = refl; has_slots = refl; is_sent = called.1; sent_nodes = of.2 });
        },
      )

  entry_sent : (k : Key) (e : Entry) (rest : List (Key × Entry)) → CanTake s p x (k, e) rest → IsWhatWasSent o.wires (record_of_state s) p (calls_len (record_of_state s) p) (taken_answer x (k, e) rest)
  entry_sent k (Message origin user index serial offset len nodes slots handles payload) rest can = message_sent k origin user index serial offset len nodes slots handles payload rest can
  entry_sent k (OwnNotice serial index) rest can = own_notice_sent sound right can k serial index (front_queued can) can.committed
  entry_sent k (ForeignNotice node index) rest can = foreign_notice_sent sound right can k node index (front_queued can) can.committed (front_for_it can)
  entry_sent k (ReleaseNotice serial) rest can = tt

-- whatever a peer takes next has what was sent, where its handles arrive so
pub front_sent : {o : Opening} {s : State} → IsSound o s → IsRight o s → SlotsArrive o s → FrontIsSent o s
front_sent sound right arrive p x f rest can = entry_sent sound right arrive f.0 f.1 rest can
