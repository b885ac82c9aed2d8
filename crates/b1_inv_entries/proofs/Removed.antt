-- What a RECV removes or takes is before all that it leaves; and the records that it makes dead are of notices that it removes or takes.
use Rattle.std.proofs.Common.{◌≡◌, refl, sym, ap, subst, ◌∙◌, inl, inr, ℕ, zero, suc, Bool, true, false, cond, not, List, [], ◌∷◌, drop, fold, zip, length}
use Rattle.std.specs.Prelude.{take_while, ⊤, ◌&&◌}
use Rattle.std.proofs.lemmas.List.Sums.{take_while-cons}
use Rattle.b1_model.specs.declared.naming.Key.{Key}
use Rattle.b1_model.specs.declared.naming.NodeRef.{NodeRef}
use Rattle.b1_model.specs.declared.parts.Slot.{Slot}
use Rattle.b1_model.specs.declared.parts.Slot.TheVariants as slot
use Rattle.b1_model.specs.declared.entries.Entry.{Entry}
use Rattle.b1_model.specs.declared.entries.Entry.TheVariants.{Message, OwnNotice, ForeignNotice, ReleaseNotice}
use Rattle.b1_model.specs.MachineParts.{PeerPart, HandleRecord, is_staged, same_ref, key_before, record_or_none}
use Rattle.b1_model.specs.MachineTables.{is_needed, changed, less_flight, more_held, next_number, made_dead, foreign, unexpected}
use Rattle.b1_model.specs.MachineReceive.{Arriving, is_for_nobody, discards, discarded, cleared, reference_by, slot_arrives, taken_entry, front_by, front_taken, received_part}
use Rattle.b1_step.specs.Rights.{Has}
use Rattle.b1_step.specs.Ordered.{Ascending}
use Rattle.b1_step.proofs.Orders.{same_ref_is, behind_has}
use Rattle.b1_inv_tools.proofs.Received.{at_taken, at_cleared}
use Rattle.b1_inv_entries.proofs.Keeping.{IsTakenFront}

-- ---- the order

-- what passes at the front of an ascending queue is before the rest
front_before : (test : Key × Entry → Bool) (queue : List (Key × Entry)) (f g : Key × Entry) → Ascending queue → Has (take_while test queue) f → Has (drop (length (take_while test queue)) queue) g → key_before f.0 g.0 ≡ true
front_before test [] f g up front rest = absurd front
front_before test (h ∷ queue) f g up front rest =
    by (test h) (subst (λ list. Has list f) (take_while-cons test h queue) front) (subst (λ list. Has (drop (length list) (h ∷ queue)) g) (take_while-cons test h queue) rest) (front_before test queue f g up.1)
  where
    behind : (n : ℕ) (list : List (Key × Entry)) → Has (drop n list) g → Has list g
    behind zero list has = has
    behind (suc n) [] has = absurd has
    behind (suc n) (e ∷ list) has = inr (behind n list has)

    by : (b : Bool) → Has (cond b (h ∷ take_while test queue) []) f → Has (drop (length (cond b (h ∷ take_while test queue) [])) (h ∷ queue)) g
        → (Has (take_while test queue) f → Has (drop (length (take_while test queue)) queue) g → key_before f.0 g.0 ≡ true) → key_before f.0 g.0 ≡ true
    by false first later further = absurd first
    by true (inl same) later further = ap (λ e. key_before e.0 g.0) same ∙ behind_has h.0 queue g up.0 (behind (length (take_while test queue)) queue later)
    by true (inr first) later further = further first later

pub drop_up : (n : ℕ) (queue : List (Key × Entry)) → Ascending queue → Ascending (drop n queue)
drop_up zero queue up = up
drop_up (suc n) [] up = up
drop_up (suc n) (f ∷ rest) up = drop_up n rest up.1

-- what a RECV leaves stood behind the removals
left_by : (b : Bool) (y : PeerPart) (f : Key × Entry) (rest : List (Key × Entry)) (g : Key × Entry) → y.queue ≡ f ∷ rest → Has (front_by b y f rest).1.queue g → Has y.queue g
left_by true y f rest g is has = has
left_by false y f rest g is has = subst (λ queue. Has queue g) (sym is) (inr (subst (λ queue. Has queue g) (at_taken f.1 f.0 (record y { queue = rest })).0 has))

left_taken : (y : PeerPart) (queue : List (Key × Entry)) (g : Key × Entry) → y.queue ≡ queue → Has (front_taken y queue).1.queue g → Has y.queue g
left_taken y [] g is has = has
left_taken y (f ∷ rest) g is has = left_by (is_staged f) y f rest g is has

left_behind : (x : PeerPart) (g : Key × Entry) → Has (received_part x).queue g → Has (drop (length (discards x)) x.queue) g
left_behind x g has = subst (λ queue. Has queue g) (at_cleared x).0 (left_taken (cleared x) (cleared x).queue g refl has)

front_left : (x : PeerPart) (queue : List (Key × Entry)) (f : Key × Entry) (rest : List (Key × Entry)) → queue ≡ f ∷ rest → is_staged f ≡ false → (front_taken x queue).1.queue ≡ rest
front_left x [] f rest is even = absurd (cc is)
front_left x (g ∷ others) f rest is even = by (is_staged g) (ap is_staged first ∙ even)
  where
    first : g ≡ f
    first = cc is

    same : others ≡ rest
    same = cc is

    by : (b : Bool) → b ≡ false → (front_by b x g others).1.queue ≡ rest
    by true none = absurd (cc none)
    by false none = (at_taken g.1 g.0 (record x { queue = others })).0 ∙ same

-- a removed entry is before all that is left
pub discard_before : (x : PeerPart) (f g : Key × Entry) → Ascending x.queue → Has (discards x) f → Has (received_part x).queue g → key_before f.0 g.0 ≡ true
discard_before x f g up front has = front_before (λ h. not (is_staged h) && is_for_nobody x h.1) x.queue f g up front (left_behind x g has)

-- the front that is taken is before all that is left
pub taken_before : (x : PeerPart) (f g : Key × Entry) → Ascending x.queue → IsTakenFront x f → Has (received_part x).queue g → key_before f.0 g.0 ≡ true
taken_before x f g up (rest, is, even) has =
    let ascending : Ascending (f ∷ rest) = subst Ascending (sym (at_cleared x).0 ∙ is) (drop_up (length (discards x)) x.queue up) in
    behind_has f.0 rest g ascending.0 (subst (λ queue. Has queue g) (front_left (cleared x) (cleared x).queue f rest is even) has)

-- ---- dead records

module _ (K : NodeRef → Type 0) where
  -- dead records are of such nodes
  abbrev pub AllDead : List HandleRecord → Type 0
  AllDead hs = (h : HandleRecord) → Has hs h → h.dead ≡ true → K h.node

  -- a notice of another peer's node is of such a node
  abbrev pub EntryOk : Entry → Type 0
  EntryOk (Message origin user index serial offset len nodes slots handles payload) = ⊤
  EntryOk (OwnNotice serial index) = ⊤
  EntryOk (ForeignNotice node index) = K node
  EntryOk (ReleaseNotice serial) = ⊤

  module _ (node : NodeRef) (f : HandleRecord → HandleRecord) (keeps : (h : HandleRecord) → same_ref h.node node ≡ true → (h.dead ≡ true → K h.node) → (f h).dead ≡ true → K (f h).node) where
    pub dead_changed : (hs : List HandleRecord) → AllDead hs → AllDead (changed node f hs)
    dead_changed [] all = all
    dead_changed (h ∷ rest) all = by (same_ref h.node node) refl (is_needed (f h)) (dead_changed rest (λ g i. all g (inr i)))
      where
        by : (b : Bool) → same_ref h.node node ≡ b → (c : Bool) → AllDead (changed node f rest) → AllDead (cond b (cond c (f h ∷ rest) rest) (h ∷ changed node f rest))
        by true is true further g (inl same) = subst (λ z. z.dead ≡ true → K z.node) (sym same) (keeps h is (all h (inl refl)))
        by true is true further g (inr i) = all g (inr i)
        by true is false further g i = all g (inr i)
        by false is c further g (inl same) = all g (inl same)
        by false is c further g (inr i) = further g i

  dead_unexpected : (nodes : List NodeRef) (hs : List HandleRecord) → AllDead hs → AllDead (unexpected nodes hs)
  dead_unexpected [] hs all = all
  dead_unexpected (node ∷ rest) hs all = dead_unexpected rest (changed node less_flight hs) (dead_changed node less_flight (λ h is ok. ok) hs all)

  dead_made : (node : NodeRef) (hs : List HandleRecord) → K node → AllDead hs → AllDead (changed node made_dead hs)
  dead_made node hs known all = dead_changed node made_dead (λ h is ok dead. subst K (sym (same_ref_is h.node node is)) known) hs all

  at_discard : (e : Entry) (x : PeerPart) → EntryOk e → AllDead x.handles → AllDead (discarded x e).handles
  at_discard (Message origin user index serial offset len nodes slots handles payload) x known all = dead_unexpected (foreign x.me nodes) x.handles all
  at_discard (OwnNotice serial index) x known all = all
  at_discard (ForeignNotice node index) x known all = dead_made node x.handles known all
  at_discard (ReleaseNotice serial) x known all = all

  at_discards : (es : List (Key × Entry)) (x : PeerPart) → ((f : Key × Entry) → Has es f → EntryOk f.1) → AllDead x.handles → AllDead (fold (λ z f. discarded z f.1) x es).handles
  at_discards [] x known all = all
  at_discards (f ∷ rest) x known all = at_discards rest (discarded x f.1) (λ g i. known g (inr i)) (at_discard f.1 x (known f (inl refl)) all)

  at_reference : (b : Bool) (a : Arriving) (node : NodeRef) → AllDead a.part.handles → AllDead (reference_by b a node).part.handles
  at_reference true a node all = dead_changed node less_flight (λ h is ok. ok) a.part.handles all
  at_reference false a node all = dead_changed node (λ g. more_held (next_number a.part.given) (less_flight g)) (λ h is ok. ok) a.part.handles all

  at_slot : (a : Arriving) (node : NodeRef) (s : Slot) → AllDead a.part.handles → AllDead (slot_arrives a (node, s)).part.handles
  at_slot a node slot.Unattached all = dead_unexpected (foreign a.part.me (node ∷ [])) a.part.handles all
  at_slot a node slot.Attached all = at_reference (record_or_none node a.part.handles).dead a node all
  at_slot a node slot.Own all = all
  at_slot a node slot.Void all = dead_unexpected (foreign a.part.me (node ∷ [])) a.part.handles all

  at_slots : (ss : List (NodeRef × Slot)) (a : Arriving) → AllDead a.part.handles → AllDead (fold slot_arrives a ss).part.handles
  at_slots [] a all = all
  at_slots ((node, s) ∷ rest) a all = at_slots rest (slot_arrives a (node, s)) (at_slot a node s all)

  at_taking : (e : Entry) (k : Key) (x : PeerPart) → EntryOk e → AllDead x.handles → AllDead (taken_entry x k e).1.handles
  at_taking (Message origin user index serial offset len nodes slots handles payload) k x known all = at_slots (zip nodes slots) _ all
  at_taking (OwnNotice serial index) k x known all = all
  at_taking (ForeignNotice node index) k x known all = dead_made node x.handles known all
  at_taking (ReleaseNotice serial) k x known all = all

  at_front : (b : Bool) (x : PeerPart) (f : Key × Entry) (rest : List (Key × Entry)) → (b ≡ false → EntryOk f.1) → AllDead x.handles → AllDead (front_by b x f rest).1.handles
  at_front true x f rest known all = all
  at_front false x f rest known all = at_taking f.1 f.0 (record x { queue = rest }) (known refl) all

  at_front_taken : (x y : PeerPart) (queue : List (Key × Entry)) → y.queue ≡ queue → ((f : Key × Entry) (rest : List (Key × Entry)) → y.queue ≡ f ∷ rest → is_staged f ≡ false → EntryOk f.1) → AllDead y.handles → AllDead (front_taken y queue).1.handles
  at_front_taken x y [] is known all = all
  at_front_taken x y (f ∷ rest) is known all = at_front (is_staged f) y f rest (known f rest is) all

  -- dead records after a RECV were dead, or are of a notice that it removed or took
  pub recv_dead : (x : PeerPart) → ((f : Key × Entry) → Has (discards x) f → EntryOk f.1) → ((f : Key × Entry) → IsTakenFront x f → EntryOk f.1) → AllDead x.handles → AllDead (received_part x).handles
  recv_dead x removed taken all =
      at_front_taken x (cleared x) (cleared x).queue refl (λ f rest is even. taken f (rest, is, even))
      (at_discards (discards x) (record x { queue = drop (length (discards x)) x.queue }) removed all)
