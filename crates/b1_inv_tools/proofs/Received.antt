-- What a RECV leaves of the queue and of the nodes: a rest of the one, and as many of the other.
use Rattle.std.proofs.Common.{◌≡◌, refl, sym, ◌∙◌, ℕ, zero, suc, Bool, true, false, List, [], ◌∷◌, drop, fold, zip, length}
use Rattle.std.proofs.lemmas.List.{length-set}
use Rattle.b1_model.specs.declared.naming.Key.{Key}
use Rattle.b1_model.specs.declared.naming.NodeRef.{NodeRef}
use Rattle.b1_model.specs.declared.parts.Slot.{Slot}
use Rattle.b1_model.specs.declared.parts.Slot.TheVariants as slot
use Rattle.b1_model.specs.declared.entries.Entry.{Entry}
use Rattle.b1_model.specs.declared.entries.Entry.TheVariants.{Message, OwnNotice, ForeignNotice, ReleaseNotice}
use Rattle.b1_model.specs.MachineParts.{PeerPart, is_staged, record_or_none}
use Rattle.b1_model.specs.MachineReceive.{Arriving, discards, discarded, cleared, reference_by, slot_arrives, taken_entry, front_by, front_taken, received_part}

-- the same queue, and as many nodes
abbrev pub AsMany : PeerPart → PeerPart → Type 0
AsMany x y = (y.queue ≡ x.queue) × (length y.nodes ≡ length x.nodes)

as_many_trans : (x y z : PeerPart) → AsMany x y → AsMany y z → AsMany x z
as_many_trans x y z a b = (b.0 ∙ a.0, b.1 ∙ a.1)

at_discard : (e : Entry) (x : PeerPart) → AsMany x (discarded x e)
at_discard (Message origin user index serial offset len nodes slots handles payload) x = (refl, refl)
at_discard (OwnNotice serial index) x = (refl, refl)
at_discard (ForeignNotice node index) x = (refl, refl)
at_discard (ReleaseNotice serial) x = (refl, refl)

at_discards : (es : List (Key × Entry)) (x : PeerPart) → AsMany x (fold (λ z f. discarded z f.1) x es)
at_discards [] x = (refl, refl)
at_discards (f ∷ rest) x = as_many_trans x (discarded x f.1) (fold (λ z g. discarded z g.1) (discarded x f.1) rest) (at_discard f.1 x) (at_discards rest (discarded x f.1))

at_reference : (b : Bool) (a : Arriving) (node : NodeRef) → AsMany a.part (reference_by b a node).part
at_reference true a node = (refl, refl)
at_reference false a node = (refl, refl)

at_slot : (a : Arriving) (node : NodeRef) (s : Slot) → AsMany a.part (slot_arrives a (node, s)).part
at_slot a node slot.Unattached = (refl, refl)
at_slot a node slot.Attached = at_reference (record_or_none node a.part.handles).dead a node
at_slot a node slot.Own = (refl, refl)
at_slot a node slot.Void = (refl, refl)

at_slots : (ss : List (NodeRef × Slot)) (a : Arriving) → AsMany a.part (fold slot_arrives a ss).part
at_slots [] a = (refl, refl)
at_slots ((node, s) ∷ rest) a = as_many_trans a.part (slot_arrives a (node, s)).part (fold slot_arrives (slot_arrives a (node, s)) rest).part (at_slot a node s) (at_slots rest (slot_arrives a (node, s)))

pub at_taken : (e : Entry) (k : Key) (x : PeerPart) → AsMany x (taken_entry x k e).1
at_taken (Message origin user index serial offset len nodes slots handles payload) k x = at_slots (zip nodes slots) _
at_taken (OwnNotice serial index) k x = (refl, length-set x.nodes serial _)
at_taken (ForeignNotice node index) k x = (refl, refl)
at_taken (ReleaseNotice serial) k x = (refl, refl)

pub at_cleared : (x : PeerPart) → ((cleared x).queue ≡ drop (length (discards x)) x.queue) × (length (cleared x).nodes ≡ length x.nodes)
at_cleared x = at_discards (discards x) (record x { queue = drop (length (discards x)) x.queue })

-- a rest of the queue, and as many nodes
abbrev pub Rests : PeerPart → PeerPart → Type 0
Rests x y = (n : ℕ) × (y.queue ≡ drop n x.queue) × (length y.nodes ≡ length x.nodes)

behind_first : {A : Type 0} (xs : List A) (n : ℕ) (f : A) (rest : List A) → f ∷ rest ≡ drop n xs → rest ≡ drop (suc n) xs
behind_first [] zero f rest is = absurd (cc is)
behind_first [] (suc n) f rest is = absurd (cc is)
behind_first (x ∷ xs) zero f rest is = cc is
behind_first (x ∷ xs) (suc n) f rest is = behind_first xs n f rest is

front_rests : (b : Bool) (x y : PeerPart) (f : Key × Entry) (rest : List (Key × Entry)) → Rests x y → y.queue ≡ f ∷ rest → Rests x (front_by b y f rest).1
front_rests true x y f rest k is = k
front_rests false x y f rest (n, queue, nodes) is =
    let same = at_taken f.1 f.0 (record y { queue = rest }) in
    (suc n, same.0 ∙ behind_first x.queue n f rest (sym is ∙ queue), same.1 ∙ nodes)

front_taken_rests : (queue : List (Key × Entry)) (x y : PeerPart) → Rests x y → y.queue ≡ queue → Rests x (front_taken y queue).1
front_taken_rests [] x y k is = k
front_taken_rests (f ∷ rest) x y k is = front_rests (is_staged f) x y f rest k is

pub recv_rests : (x : PeerPart) → Rests x (received_part x)
recv_rests x = front_taken_rests (cleared x).queue x (cleared x) (length (discards x), (at_cleared x).0, (at_cleared x).1) refl
