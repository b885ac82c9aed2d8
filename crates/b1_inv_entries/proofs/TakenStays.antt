-- A node's notice that was taken stays so.
use Rattle.std.proofs.Common.{◌≡◌, refl, sym, ap, ◌∙◌, inl, inr, ℕ, zero, suc, Bool, true, false, List, [], ◌∷◌, fold, zip, get_or, length, Option}
use Rattle.std.specs.Prelude.{drop, slice_get}
use Rattle.std.proofs.lemmas.Option.{same_Some}
use Rattle.b1_model.specs.declared.commands.Command.{Command}
use Rattle.b1_model.specs.declared.naming.Key.{Key}
use Rattle.b1_model.specs.declared.naming.NodeRef.{NodeRef}
use Rattle.b1_model.specs.declared.naming.Opening.{Opening}
use Rattle.b1_model.specs.declared.parts.Slot.{Slot}
use Rattle.b1_model.specs.declared.parts.Slot.TheVariants as slot
use Rattle.b1_model.specs.declared.entries.Entry.{Entry}
use Rattle.b1_model.specs.declared.entries.Entry.TheVariants.{Message, OwnNotice, ForeignNotice, ReleaseNotice}
use Rattle.b1_model.specs.declared.events.Action.{Action}
use Rattle.b1_model.specs.declared.events.Action.TheVariants as act
use Rattle.b1_model.specs.MachineParts.{PeerPart, NodePart, State, is_staged, node_at, no_node, record_or_none}
use Rattle.b1_model.specs.MachineTables.{notice_taken, with_node}
use Rattle.b1_model.specs.MachineReceive.{Arriving, discards, discarded, cleared, reference_by, slot_arrives, taken_entry, front_by, front_taken, received_part}
use Rattle.b1_model.specs.MachineEvents.{happens}
use Rattle.b1_model.specs.MachineStep.{Step}
use Rattle.b1_inv.specs.Words.{IsPeer}
use Rattle.b1_inv_tools.proofs.Leaves.{peer_cases}
use Rattle.b1_inv_notices.proofs.Turns.{parts, going, going_doing, going_action}
use Rattle.b1_inv_destroys.proofs.Nodes.{taken_same}

-- taken nodes stay taken
abbrev TakenStay : List NodePart → List NodePart → Type 0
TakenStay old new = (serial : ℕ) → (get_or old serial no_node).taken ≡ true → (get_or new serial no_node).taken ≡ true

discard_nodes : (e : Entry) (x : PeerPart) → (discarded x e).nodes ≡ x.nodes
discard_nodes (Message origin user index serial offset len nodes slots handles payload) x = refl
discard_nodes (OwnNotice serial index) x = refl
discard_nodes (ForeignNotice node index) x = refl
discard_nodes (ReleaseNotice serial) x = refl

discards_nodes : (es : List (Key × Entry)) (x : PeerPart) → (fold (λ z f. discarded z f.1) x es).nodes ≡ x.nodes
discards_nodes [] x = refl
discards_nodes (f ∷ rest) x = discards_nodes rest (discarded x f.1) ∙ discard_nodes f.1 x

reference_nodes : (b : Bool) (a : Arriving) (node : NodeRef) → (reference_by b a node).part.nodes ≡ a.part.nodes
reference_nodes true a node = refl
reference_nodes false a node = refl

slot_nodes : (a : Arriving) (node : NodeRef) (s : Slot) → (slot_arrives a (node, s)).part.nodes ≡ a.part.nodes
slot_nodes a node slot.Unattached = refl
slot_nodes a node slot.Attached = reference_nodes (record_or_none node a.part.handles).dead a node
slot_nodes a node slot.Own = refl
slot_nodes a node slot.Void = refl

slots_nodes : (ss : List (NodeRef × Slot)) (a : Arriving) → (fold slot_arrives a ss).part.nodes ≡ a.part.nodes
slots_nodes [] a = refl
slots_nodes ((node, s) ∷ rest) a = slots_nodes rest (slot_arrives a (node, s)) ∙ slot_nodes a node s

same_taken : (old new : List NodePart) → new ≡ old → TakenStay old new
same_taken old new same serial taken = ap (λ nodes. (get_or nodes serial no_node).taken) same ∙ taken

-- a taken notice only makes one more node taken
one_taken : (nodes : List NodePart) (one : ℕ) → TakenStay nodes (with_node one notice_taken nodes)
one_taken [] one serial taken = taken
one_taken (n ∷ ns) zero zero taken = refl
one_taken (n ∷ ns) zero (suc serial) taken = taken
one_taken (n ∷ ns) (suc one) zero taken = taken
one_taken (n ∷ ns) (suc one) (suc serial) taken = one_taken ns one serial taken

entry_taken : (e : Entry) (k : Key) (x : PeerPart) → TakenStay x.nodes (taken_entry x k e).1.nodes
entry_taken (Message origin user index serial offset len nodes slots handles payload) k x = same_taken x.nodes _ (slots_nodes (zip nodes slots) _)
entry_taken (OwnNotice serial index) k x = one_taken x.nodes serial
entry_taken (ForeignNotice node index) k x = same_taken x.nodes x.nodes refl
entry_taken (ReleaseNotice serial) k x = same_taken x.nodes x.nodes refl

front_nodes : (b : Bool) (x : PeerPart) (f : Key × Entry) (rest : List (Key × Entry)) → TakenStay x.nodes (front_by b x f rest).1.nodes
front_nodes true x f rest = same_taken x.nodes x.nodes refl
front_nodes false x f rest = entry_taken f.1 f.0 (record x { queue = rest })

queue_nodes : (queue : List (Key × Entry)) (x : PeerPart) → TakenStay x.nodes (front_taken x queue).1.nodes
queue_nodes [] x = same_taken x.nodes x.nodes refl
queue_nodes (f ∷ rest) x = front_nodes (is_staged f) x f rest

recv_taken : (x : PeerPart) → TakenStay x.nodes (received_part x).nodes
recv_taken x serial taken = queue_nodes (cleared x).queue (cleared x) serial (same_taken x.nodes (cleared x).nodes (discards_nodes (discards x) (record x { queue = drop (length (discards x)) x.queue })) serial taken)

module _ {o : Opening} {s : State} {p : ℕ} {c : Option Command} {t : State} (step : Step o s p c t) where
  after : (action : Action) → TakenStay step.peer.nodes (happens o step.local.memory (going step) (going_doing step) action step.peer).1.nodes
  after act.Recv serial taken = recv_taken step.peer serial taken
  after action serial taken = taken_same o step.local.memory (going step) (going_doing step) action step.peer refl serial ∙ taken

  -- a node whose notice was taken before a step
  pub taken_stays : (q serial : ℕ) (x y : PeerPart) → IsPeer s q x → IsPeer t q y → (node_at x serial).taken ≡ true → (node_at y serial).taken ≡ true
  taken_stays q serial x y was is taken = elim (peer_cases step q y is) [
    | inr other ↦ ap (λ z. (node_at z serial).taken) (same_Some y x (sym other.1 ∙ was)) ∙ taken
    | inl here ↦
        let same : x ≡ step.peer = same_Some x step.peer (sym was ∙ ap (slice_get s.peers) here.0 ∙ step.is_peer) in
        ap (λ z. (node_at z serial).taken) (here.1 ∙ sym (parts step).is_peer) ∙ after (going_action step) serial (ap (λ z. (node_at z serial).taken) (sym same) ∙ taken)
  ]
