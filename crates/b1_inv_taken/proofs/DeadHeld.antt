-- Where dead records are held: a removal and a lost reference leave them unheld, and a notice that was taken is received.
use Rattle.std.proofs.Common.{◌≡◌, refl, sym, ap, subst, ◌∙◌, inl, inr, ℕ, ◌+◌, ◌≤◌, Bool, true, false, cond, List, [], ◌∷◌, fold, zip, Option, Some, None}
use Rattle.std.proofs.lemmas.Bool.{eqb-true}
use native.Mathlib.Omega.{arith}
use Rattle.b1_model.specs.declared.naming.Key.{Key}
use Rattle.b1_model.specs.declared.naming.NodeRef.{NodeRef}
use Rattle.b1_model.specs.declared.naming.Opening.{Opening}
use Rattle.b1_model.specs.declared.answers.Reason.{Reason}
use Rattle.b1_model.specs.declared.parts.Slot.{Slot}
use Rattle.b1_model.specs.declared.parts.Slot.TheVariants as slot
use Rattle.b1_model.specs.declared.entries.Entry.{Entry}
use Rattle.b1_model.specs.declared.entries.Entry.TheVariants.{Message, OwnNotice, ForeignNotice, ReleaseNotice}
use Rattle.b1_model.specs.declared.events.Action.{Action}
use Rattle.b1_model.specs.declared.events.Action.TheVariants as act
use Rattle.b1_model.specs.declared.events.Doing.{Doing}
use Rattle.b1_model.specs.Names.{is_given}
use Rattle.b1_model.specs.MachineParts.{PeerPart, DriverPart, HandleRecord, record_of, record_or_none, no_record, carried, same_ref, ref_before}
use Rattle.b1_model.specs.MachineTables.{is_needed, changed, changed_or_made, more_flight, less_flight, less_held, more_held, made_dead, noticed, next_number, foreign, expected, unexpected, held_node}
use Rattle.b1_model.specs.MachineSend.{find_stage, unstaged_by}
use Rattle.b1_model.specs.MachineReceive.{Arriving, is_for_nobody, discarded, reference_by, slot_arrives, taken_entry, given_up}
use Rattle.b1_model.specs.MachineDestroy.{needs_notice, notice_by, visited_from}
use Rattle.b1_model.specs.MachineEvents.{happens, stage_by, number_of, doomed_of}
use Rattle.b1_step.specs.Rights.{Has}
use Rattle.b1_step.proofs.Changed.{changes}
use Rattle.b1_step.proofs.Orders.{same_ref_is}
use Rattle.b1_inv_record.specs.Destructions.{own_ref}
use Rattle.b1_inv_peer.proofs.RecordFields.{or_none}

abbrev Handles : Type 0
Handles = List HandleRecord

abbrev pub is_recv : Action → Bool
is_recv act.Recv = true
is_recv action = false

-- R is what is known of a node whose notice was received
module _ (R : NodeRef → Type 0) where
  -- a record, where it is dead and held, is of such a node
  abbrev pub HeldOk : HandleRecord → Type 0
  HeldOk h = h.dead ≡ true → 1 ≤ h.held → R h.node

  abbrev pub AllHeld : Handles → Type 0
  AllHeld hs = (h : HandleRecord) → Has hs h → HeldOk h

  -- ---- one record changes

  module _ (node : NodeRef) (f : HandleRecord → HandleRecord) where
    -- where the first record of a node stays right
    held_changed : (hs : Handles) → ((h : HandleRecord) → record_of node hs ≡ Some h → same_ref h.node node ≡ true → HeldOk h → HeldOk (f h)) → AllHeld hs → AllHeld (changed node f hs)
    held_changed [] keeps all = all
    held_changed (h ∷ rest) keeps all = by (same_ref h.node node) refl (is_needed (f h)) (λ more. held_changed rest more (λ g i. all g (inr i)))
      where
        Keeps : Handles → Type 0
        Keeps gs = (g : HandleRecord) → record_of node gs ≡ Some g → same_ref g.node node ≡ true → HeldOk g → HeldOk (f g)

        by : (b : Bool) → same_ref h.node node ≡ b → (c : Bool) → (Keeps rest → AllHeld (changed node f rest)) → AllHeld (cond b (cond c (f h ∷ rest) rest) (h ∷ changed node f rest))
        by true is true further g (inl same) = subst HeldOk (sym same) (keeps h (ap (λ b. cond b (Some h) (record_of node rest)) is) is (all h (inl refl)))
        by true is true further g (inr i) = all g (inr i)
        by true is false further g i = all g (inr i)
        by false is c further g (inl same) = all g (inl same)
        by false is c further g (inr i) = further (λ k found. keeps k (ap (λ b. cond b (Some h) (record_of node rest)) is ∙ found)) g i

    held_made : ((h : HandleRecord) → HeldOk h → HeldOk (f h)) → HeldOk (f (no_record node)) → (hs : Handles) → AllHeld hs → AllHeld (changed_or_made node f hs)
    held_made keeps new [] all = λ g i. elim i [ inl same ↦ subst HeldOk (sym same) new | inr further ↦ absurd further ]
    held_made keeps new (h ∷ rest) all = by (same_ref h.node node) (ref_before node h.node) (held_made keeps new rest (λ g i. all g (inr i)))
      where
        by : (b c : Bool) → AllHeld (changed_or_made node f rest) → AllHeld (cond b (f h ∷ rest) (cond c (f (no_record node) ∷ h ∷ rest) (h ∷ changed_or_made node f rest)))
        by true c further g (inl same) = subst HeldOk (sym same) (keeps h (all h (inl refl)))
        by true c further g (inr i) = all g (inr i)
        by false true further g (inl same) = subst HeldOk (sym same) new
        by false true further g (inr i) = all g i
        by false false further g (inl same) = all g (inl same)
        by false false further g (inr i) = further g i

  held_less : (node : NodeRef) (hs : Handles) → AllHeld hs → AllHeld (changed node less_flight hs)
  held_less node hs = held_changed node less_flight hs (λ h found is ok. ok)

  held_noticed : (node : NodeRef) (hs : Handles) → AllHeld hs → AllHeld (changed node noticed hs)
  held_noticed node hs = held_changed node noticed hs (λ h found is ok. ok)

  held_expected : (nodes : List NodeRef) (hs : Handles) → AllHeld hs → AllHeld (expected nodes hs)
  held_expected [] hs all = all
  held_expected (node ∷ rest) hs all = held_expected rest (changed_or_made node more_flight hs) (held_made node more_flight (λ h ok. ok) (λ is. absurd (cc is)) hs all)

  pub held_unexpected : (nodes : List NodeRef) (hs : Handles) → AllHeld hs → AllHeld (unexpected nodes hs)
  held_unexpected [] hs all = all
  held_unexpected (node ∷ rest) hs all = held_unexpected rest (changed node less_flight hs) (held_less node hs all)

  -- a record dies unheld, or its node's notice was received
  held_dead : (node : NodeRef) (hs : Handles) → (1 ≤ (record_or_none node hs).held → R node) → AllHeld hs → AllHeld (changed node made_dead hs)
  held_dead node hs known = held_changed node made_dead hs (λ h found is ok dead some. subst R (sym (same_ref_is h.node node is)) (known (subst (λ r. 1 ≤ (or_none node r).held) (sym found) some)))

  -- ---- a RECV

  pub held_discarded : (x : PeerPart) (f : Key × Entry) → is_for_nobody x f.1 ≡ true → AllHeld x.handles → AllHeld (discarded x f.1).handles
  held_discarded x (k, Message origin user index serial offset len nodes slots handles payload) is all = held_unexpected (foreign x.me nodes) x.handles all
  held_discarded x (k, OwnNotice serial index) is all = all
  held_discarded x (k, ForeignNotice node index) is all = held_dead node x.handles (λ some. let none = eqb-true (record_or_none node x.handles).held 0 is in absurd (omega (arith, none, some))) all
  held_discarded x (k, ReleaseNotice serial) is all = all

  at_reference : (b : Bool) (a : Arriving) (node : NodeRef) → (record_or_none node a.part.handles).dead ≡ b → AllHeld a.part.handles → AllHeld (reference_by b a node).part.handles
  at_reference true a node is all = held_less node a.part.handles all
  at_reference false a node alive all =
      held_changed node (λ g. more_held (next_number a.part.given) (less_flight g)) a.part.handles
      (λ h found is ok dead some. let same : h.dead ≡ false = ap (λ r. (or_none node r).dead) (sym found) ∙ alive in let both : true ≡ false = sym dead ∙ same in absurd (cc both)) all

  at_slot : (a : Arriving) (node : NodeRef) (s : Slot) → AllHeld a.part.handles → AllHeld (slot_arrives a (node, s)).part.handles
  at_slot a node slot.Unattached all = held_unexpected (foreign a.part.me (node ∷ [])) a.part.handles all
  at_slot a node slot.Attached all = at_reference (record_or_none node a.part.handles).dead a node refl all
  at_slot a node slot.Own all = all
  at_slot a node slot.Void all = held_unexpected (foreign a.part.me (node ∷ [])) a.part.handles all

  at_slots : (ss : List (NodeRef × Slot)) (a : Arriving) → AllHeld a.part.handles → AllHeld (fold slot_arrives a ss).part.handles
  at_slots [] a all = all
  at_slots ((node, s) ∷ rest) a all = at_slots rest (slot_arrives a (node, s)) (at_slot a node s all)

  -- the front is taken, and if it is a notice of another peer's node, that is received
  pub held_taken : (e : Entry) (k : Key) (x : PeerPart) → ((node : NodeRef) (index : ℕ) → e ≡ ForeignNotice node index → R node) → AllHeld x.handles → AllHeld (taken_entry x k e).1.handles
  held_taken (Message origin user index serial offset len nodes slots handles payload) k x known all = at_slots (zip nodes slots) _ all
  held_taken (OwnNotice serial index) k x known all = all
  held_taken (ForeignNotice node index) k x known all = held_dead node x.handles (λ some. known node index refl) all
  held_taken (ReleaseNotice serial) k x known all = all

  -- ---- the other events

  at_stage : (r : Option Reason) (memory : Bool) (origin user place serial : ℕ) (payload : List ℕ) (nodes : List NodeRef) (x : PeerPart) → AllHeld x.handles → AllHeld (stage_by r memory origin user place serial payload nodes x).1.handles
  at_stage (Some r) memory origin user place serial payload nodes x all = all
  at_stage None true origin user place serial payload nodes x all = all
  at_stage None false origin user place serial payload nodes x all = held_expected (foreign x.me nodes) x.handles all

  at_unstage : (g : Option (Key × Entry)) (x : PeerPart) (origin index : ℕ) → AllHeld x.handles → AllHeld (unstaged_by g x origin index).handles
  at_unstage None x origin index all = all
  at_unstage (Some g) x origin index all = held_unexpected (foreign x.me (carried g.1)) x.handles all

  at_release : (b : Bool) (held : Option NodeRef) (x : PeerPart) → AllHeld x.handles → AllHeld (given_up b held x).handles
  at_release false held x all = all
  at_release true None x all = all
  at_release true (Some node) x all = held_changed node less_held x.handles (λ h found is ok dead some. ok dead (omega (arith, some))) all

  at_notice : (b : Bool) (origin : ℕ) (x : PeerPart) (index : ℕ) (node : NodeRef) → AllHeld x.handles → AllHeld (notice_by b origin x index node).handles
  at_notice false origin x index node all = all
  at_notice true origin x index node all = held_noticed node x.handles all

  at_visit : (origin : ℕ) (serials : List ℕ) (index : ℕ) (x : PeerPart) → AllHeld x.handles → AllHeld (visited_from origin index serials x).handles
  at_visit origin [] index x all = all
  at_visit origin (serial ∷ rest) index x all = at_visit origin rest (index + 1) _ (at_notice (needs_notice x (own_ref origin serial)) origin x index (own_ref origin serial) all)

  module _ (o : Opening) (memory : Bool) (d : DriverPart) (doing : Doing) (x : PeerPart) where
    same_records : (action : Action) → (happens o memory d doing action x).1.handles ≡ x.handles → AllHeld x.handles → AllHeld (happens o memory d doing action x).1.handles
    same_records action same all = subst AllHeld (sym same) all

    -- every other event than a RECV
    pub held_event : (action : Action) → is_recv action ≡ false → AllHeld x.handles → AllHeld (happens o memory d doing action x).1.handles
    held_event act.Recv is all = absurd (cc is)
    held_event (act.Stage peer place) is all = at_stage _ memory _ _ place _ _ _ x all
    held_event (act.Unstage peer place) is all = at_unstage (find_stage x d.me place) x d.me place all
    held_event act.Release is all = at_release (is_given (number_of doing.command)) (held_node (number_of doing.command) x.handles) x all
    held_event (act.Visit peer) is all = at_visit d.me (doomed_of doing.phase) 0 x all
    held_event act.Flush is all = λ h there. absurd there
    held_event action is all = same_records action (ap (λ y. y.handles) (changes o memory d doing action x)) all
