-- Dead records: each is of a node that the record destroys, and has no notice queued.
use Rattle.std.proofs.Common.{◌≡◌, refl, sym, ap, subst, ◌∙◌, inl, inr, ℕ, suc, ◌+◌, Bool, true, false, cond, ◌&&◌, not, List, [], ◌∷◌, drop, fold, zip, length, take_while, Option, Some, None}
use Rattle.std.specs.Prelude.{⊤, take}
use Rattle.std.specs.List.{prefix_len}
use native.Mathlib.Omega.{arith}
use Rattle.std.proofs.lemmas.Bool.{and_parts, not-true}
use Rattle.b1_model.specs.declared.naming.Key.{Key}
use Rattle.b1_model.specs.declared.naming.NodeRef.{NodeRef}
use Rattle.b1_model.specs.declared.naming.Opening.{Opening}
use Rattle.b1_model.specs.declared.parts.Slot.{Slot}
use Rattle.b1_model.specs.declared.parts.Slot.TheVariants as slot
use Rattle.b1_model.specs.declared.answers.Reason.{Reason}
use Rattle.b1_model.specs.declared.entries.Entry.{Entry}
use Rattle.b1_model.specs.declared.entries.Entry.TheVariants.{Message, OwnNotice, ForeignNotice, ReleaseNotice}
use Rattle.b1_model.specs.declared.events.Action.{Action}
use Rattle.b1_model.specs.declared.events.Action.TheVariants as act
use Rattle.b1_model.specs.declared.events.Doing.{Doing}
use Rattle.b1_model.specs.Names.{is_given}
use Rattle.b1_model.specs.MachineParts.{PeerPart, DriverPart, HandleRecord, record_or_none, is_staged, carried, same_ref, ref_before, no_record}
use Rattle.b1_model.specs.MachineTables.{is_needed, changed, changed_or_made, more_flight, less_flight, less_held, more_held, made_dead, noticed, next_number, foreign, expected, unexpected, held_node}
use Rattle.b1_model.specs.MachineSend.{find_stage, unstaged_by}
use Rattle.b1_model.specs.MachineReceive.{Arriving, discards, discarded, cleared, is_for_nobody, reference_by, slot_arrives, taken_entry, front_by, front_taken, received_part, given_up}
use Rattle.b1_model.specs.MachineDestroy.{needs_notice, notice_by, visited_from}
use Rattle.b1_model.specs.MachineEvents.{happens, stage_by, number_of, doomed_of}
use Rattle.b1_step.specs.Rights.{Has}
use Rattle.b1_step.proofs.Changed.{changes}
use Rattle.b1_step.proofs.Orders.{same_ref_is}
use Rattle.b1_inv_record.specs.Destructions.{own_ref}
use Rattle.b1_inv_tools.proofs.Comes.{has_drop}
use Rattle.b1_inv_tools.proofs.Received.{at_cleared}

abbrev Queue : Type 0
Queue = List (Key × Entry)

-- K is what is known of a destroyed node
module _ (K : NodeRef → Type 0) where
  -- a record, where it is dead, is of such a node and unmarked
  abbrev pub DeadOk : HandleRecord → Type 0
  DeadOk h = h.dead ≡ true → K h.node × (h.notice ≡ false)

  abbrev pub AllOk : List HandleRecord → Type 0
  AllOk hs = (h : HandleRecord) → Has hs h → DeadOk h

  -- a destroy notice of another peer's node is of such a node
  abbrev pub EntryKnown : Entry → Type 0
  EntryKnown (Message origin user index serial offset len nodes slots handles payload) = ⊤
  EntryKnown (OwnNotice serial index) = ⊤
  EntryKnown (ForeignNotice node index) = K node
  EntryKnown (ReleaseNotice serial) = ⊤

  -- the same of the committed ones of a queue
  abbrev pub QueueKnown : Queue → Type 0
  QueueKnown queue = (f : Key × Entry) → Has queue f → is_staged f ≡ false → EntryKnown f.1

  -- ---- one record changes

  module _ (node : NodeRef) (f : HandleRecord → HandleRecord) (keeps : (h : HandleRecord) → same_ref h.node node ≡ true → DeadOk h → DeadOk (f h)) where
    ok_changed : (hs : List HandleRecord) → AllOk hs → AllOk (changed node f hs)
    ok_changed [] all = all
    ok_changed (h ∷ rest) all = by (same_ref h.node node) refl (is_needed (f h)) (ok_changed rest (λ g i. all g (inr i)))
      where
        by : (b : Bool) → same_ref h.node node ≡ b → (c : Bool) → AllOk (changed node f rest) → AllOk (cond b (cond c (f h ∷ rest) rest) (h ∷ changed node f rest))
        by true is true further g (inl same) = subst DeadOk (sym same) (keeps h is (all h (inl refl)))
        by true is true further g (inr i) = all g (inr i)
        by true is false further g i = all g (inr i)
        by false is c further g (inl same) = all g (inl same)
        by false is c further g (inr i) = further g i

    pub ok_made : DeadOk (f (no_record node)) → (hs : List HandleRecord) → AllOk hs → AllOk (changed_or_made node f hs)
    ok_made new [] all = λ g i. elim i [ inl same ↦ subst DeadOk (sym same) new | inr further ↦ absurd further ]
    ok_made new (h ∷ rest) all = by (same_ref h.node node) refl (ref_before node h.node) (ok_made new rest (λ g i. all g (inr i)))
      where
        by : (b : Bool) → same_ref h.node node ≡ b → (c : Bool) → AllOk (changed_or_made node f rest) → AllOk (cond b (f h ∷ rest) (cond c (f (no_record node) ∷ h ∷ rest) (h ∷ changed_or_made node f rest)))
        by true is c further g (inl same) = subst DeadOk (sym same) (keeps h is (all h (inl refl)))
        by true is c further g (inr i) = all g (inr i)
        by false is true further g (inl same) = subst DeadOk (sym same) new
        by false is true further g (inr i) = all g i
        by false is false further g (inl same) = all g (inl same)
        by false is false further g (inr i) = further g i

  ok_expected : (nodes : List NodeRef) (hs : List HandleRecord) → AllOk hs → AllOk (expected nodes hs)
  ok_expected [] hs all = all
  ok_expected (node ∷ rest) hs all = ok_expected rest (changed_or_made node more_flight hs) (ok_made node more_flight (λ h is ok. ok) (λ is. absurd (cc is)) hs all)

  ok_unexpected : (nodes : List NodeRef) (hs : List HandleRecord) → AllOk hs → AllOk (unexpected nodes hs)
  ok_unexpected [] hs all = all
  ok_unexpected (node ∷ rest) hs all = ok_unexpected rest (changed node less_flight hs) (ok_changed node less_flight (λ h is ok. ok) hs all)

  ok_dead : (node : NodeRef) (hs : List HandleRecord) → K node → AllOk hs → AllOk (changed node made_dead hs)
  ok_dead node hs known all = ok_changed node made_dead (λ h is ok dead. (subst K (sym (same_ref_is h.node node is)) known, refl)) hs all

  ok_noticed : (node : NodeRef) (hs : List HandleRecord) → (K node → ⊥) → AllOk hs → AllOk (changed node noticed hs)
  ok_noticed node hs none all = ok_changed node noticed (λ h is ok dead. absurd (none (subst K (same_ref_is h.node node is) (ok dead).0))) hs all

  -- ---- a RECV

  at_discard : (e : Entry) (x : PeerPart) → EntryKnown e → AllOk x.handles → AllOk (discarded x e).handles
  at_discard (Message origin user index serial offset len nodes slots handles payload) x known all = ok_unexpected (foreign x.me nodes) x.handles all
  at_discard (OwnNotice serial index) x known all = all
  at_discard (ForeignNotice node index) x known all = ok_dead node x.handles known all
  at_discard (ReleaseNotice serial) x known all = all

  at_discards : (es : Queue) (x : PeerPart) → ((f : Key × Entry) → Has es f → EntryKnown f.1) → AllOk x.handles → AllOk (fold (λ z f. discarded z f.1) x es).handles
  at_discards [] x known all = all
  at_discards (f ∷ rest) x known all = at_discards rest (discarded x f.1) (λ g i. known g (inr i)) (at_discard f.1 x (known f (inl refl)) all)

  at_reference : (b : Bool) (a : Arriving) (node : NodeRef) → AllOk a.part.handles → AllOk (reference_by b a node).part.handles
  at_reference true a node all = ok_changed node less_flight (λ h is ok. ok) a.part.handles all
  at_reference false a node all = ok_changed node (λ g. more_held (next_number a.part.given) (less_flight g)) (λ h is ok. ok) a.part.handles all

  at_slot : (a : Arriving) (node : NodeRef) (s : Slot) → AllOk a.part.handles → AllOk (slot_arrives a (node, s)).part.handles
  at_slot a node slot.Unattached all = ok_unexpected (foreign a.part.me (node ∷ [])) a.part.handles all
  at_slot a node slot.Attached all = at_reference (record_or_none node a.part.handles).dead a node all
  at_slot a node slot.Own all = all
  at_slot a node slot.Void all = ok_unexpected (foreign a.part.me (node ∷ [])) a.part.handles all

  at_slots : (ss : List (NodeRef × Slot)) (a : Arriving) → AllOk a.part.handles → AllOk (fold slot_arrives a ss).part.handles
  at_slots [] a all = all
  at_slots ((node, s) ∷ rest) a all = at_slots rest (slot_arrives a (node, s)) (at_slot a node s all)

  at_taken : (e : Entry) (k : Key) (x : PeerPart) → EntryKnown e → AllOk x.handles → AllOk (taken_entry x k e).1.handles
  at_taken (Message origin user index serial offset len nodes slots handles payload) k x known all = at_slots (zip nodes slots) _ all
  at_taken (OwnNotice serial index) k x known all = all
  at_taken (ForeignNotice node index) k x known all = ok_dead node x.handles known all
  at_taken (ReleaseNotice serial) k x known all = all

  at_front : (b : Bool) (x : PeerPart) (f : Key × Entry) (rest : Queue) → (b ≡ false → EntryKnown f.1) → AllOk x.handles → AllOk (front_by b x f rest).1.handles
  at_front true x f rest known all = all
  at_front false x f rest known all = at_taken f.1 f.0 (record x { queue = rest }) (known refl) all

  at_front_taken : (queue : Queue) (x : PeerPart) → QueueKnown queue → AllOk x.handles → AllOk (front_taken x queue).1.handles
  at_front_taken [] x known all = all
  at_front_taken (f ∷ rest) x known all = at_front (is_staged f) x f rest (known f (inl refl)) all

  -- what is taken from the front passes
  passes : (test : Key × Entry → Bool) (queue : Queue) (f : Key × Entry) → Has (take_while test queue) f → Has queue f × (test f ≡ true)
  passes test [] f h = absurd h
  passes test (g ∷ rest) f h = by (test g) refl (passes test rest f) h
    where
      first : test g ≡ true → (Has (take_while test rest) f → Has rest f × (test f ≡ true)) → Has (g ∷ take_while test rest) f → Has (g ∷ rest) f × (test f ≡ true)
      first is further (inl same) = (inl same, ap test same ∙ is)
      first is further (inr i) = (inr (further i).0, (further i).1)

      by : (b : Bool) → test g ≡ b → (Has (take_while test rest) f → Has rest f × (test f ≡ true)) → Has (take (cond b (1 + prefix_len test rest) 0) (g ∷ rest)) f → Has (g ∷ rest) f × (test f ≡ true)
      by true is further i = let one : 1 + prefix_len test rest ≡ suc (prefix_len test rest) = omega arith in first is further (subst (λ n. Has (take n (g ∷ rest)) f) one i)
      by false is further i = absurd i

  pub at_recv : (x : PeerPart) → QueueKnown x.queue → AllOk x.handles → AllOk (received_part x).handles
  at_recv x known all =
      at_front_taken (cleared x).queue (cleared x) (λ f h even. known f (has_drop (length (discards x)) x.queue f (subst (λ queue. Has queue f) (at_cleared x).0 h)) even)
      (at_discards (discards x) (record x { queue = drop (length (discards x)) x.queue })
      (λ f h. let k = passes (λ g. not (is_staged g) && is_for_nobody x g.1) x.queue f h in known f k.0 (not-true (is_staged f) (and_parts (not (is_staged f)) (is_for_nobody x f.1) k.1).0)) all)

  -- ---- the other events

  at_stage : (r : Option Reason) (memory : Bool) (origin user place serial : ℕ) (payload : List ℕ) (nodes : List NodeRef) (x : PeerPart) → AllOk x.handles → AllOk (stage_by r memory origin user place serial payload nodes x).1.handles
  at_stage (Some r) memory origin user place serial payload nodes x all = all
  at_stage None true origin user place serial payload nodes x all = all
  at_stage None false origin user place serial payload nodes x all = ok_expected (foreign x.me nodes) x.handles all

  at_unstage : (g : Option (Key × Entry)) (x : PeerPart) (origin index : ℕ) → AllOk x.handles → AllOk (unstaged_by g x origin index).handles
  at_unstage None x origin index all = all
  at_unstage (Some g) x origin index all = ok_unexpected (foreign x.me (carried g.1)) x.handles all

  at_release : (b : Bool) (held : Option NodeRef) (x : PeerPart) → AllOk x.handles → AllOk (given_up b held x).handles
  at_release false held x all = all
  at_release true None x all = all
  at_release true (Some node) x all = ok_changed node less_held (λ h is ok. ok) x.handles all

  at_notice : (b : Bool) (origin : ℕ) (x : PeerPart) (index : ℕ) (node : NodeRef) → (K node → ⊥) → AllOk x.handles → AllOk (notice_by b origin x index node).handles
  at_notice false origin x index node none all = all
  at_notice true origin x index node none all = ok_noticed node x.handles none all

  at_visit : (origin : ℕ) (serials : List ℕ) (index : ℕ) (x : PeerPart) → ((serial : ℕ) → Has serials serial → K (own_ref origin serial) → ⊥) → AllOk x.handles → AllOk (visited_from origin index serials x).handles
  at_visit origin [] index x none all = all
  at_visit origin (serial ∷ rest) index x none all = at_visit origin rest (index + 1) _ (λ later i. none later (inr i)) (at_notice (needs_notice x (own_ref origin serial)) origin x index (own_ref origin serial) (none serial (inl refl)) all)

  -- a visit is for nodes that nothing is known of
  abbrev pub Spares : ℕ → List ℕ → Action → Type 0
  Spares me doomed (act.Visit peer) = (serial : ℕ) → Has doomed serial → K (own_ref me serial) → ⊥
  Spares me doomed action = ⊤

  module _ (o : Opening) (memory : Bool) (d : DriverPart) (doing : Doing) where
    same_records : (action : Action) (x : PeerPart) → (happens o memory d doing action x).1.handles ≡ x.handles → AllOk x.handles → AllOk (happens o memory d doing action x).1.handles
    same_records action x same all = subst AllOk (sym same) all

    pub event_dead : (action : Action) (x : PeerPart) → Spares d.me (doomed_of doing.phase) action → QueueKnown x.queue → AllOk x.handles → AllOk (happens o memory d doing action x).1.handles
    event_dead act.Rest x spares known all = all
    event_dead act.Begin x spares known all = same_records act.Begin x (ap (λ y. y.handles) (changes o memory d doing act.Begin x)) all
    event_dead (act.Stage peer place) x spares known all = at_stage _ memory _ _ place _ _ _ x all
    event_dead (act.Unstage peer place) x spares known all = at_unstage (find_stage x d.me place) x d.me place all
    event_dead (act.Attach peer serial dest) x spares known all = same_records (act.Attach peer serial dest) x (ap (λ y. y.handles) (changes o memory d doing (act.Attach peer serial dest) x)) all
    event_dead act.Stamp x spares known all = all
    event_dead (act.Sync peer stamp) x spares known all = all
    event_dead (act.Commit peer place stamp) x spares known all = same_records (act.Commit peer place stamp) x (ap (λ y. y.handles) (changes o memory d doing (act.Commit peer place stamp) x)) all
    event_dead (act.CommitNotices peer stamp) x spares known all = all
    event_dead act.Recv x spares known all = at_recv x known all
    event_dead act.Reap x spares known all = all
    event_dead act.Release x spares known all = at_release (is_given (number_of doing.command)) (held_node (number_of doing.command) x.handles) x all
    event_dead (act.DropRefs peer serial holder k clock) x spares known all = same_records (act.DropRefs peer serial holder k clock) x (ap (λ y. y.handles) (changes o memory d doing (act.DropRefs peer serial holder k clock) x)) all
    event_dead act.BeginDestroy x spares known all = same_records act.BeginDestroy x (ap (λ y. y.handles) (changes o memory d doing act.BeginDestroy x)) all
    event_dead (act.Visit peer) x spares known all = at_visit d.me (doomed_of doing.phase) 0 x spares all
    event_dead act.StampDestroy x spares known all = same_records act.StampDestroy x (ap (λ y. y.handles) (changes o memory d doing act.StampDestroy x)) all
    event_dead act.Flush x spares known all = λ h there. absurd there
    event_dead act.Local x spares known all = same_records act.Local x (ap (λ y. y.handles) (changes o memory d doing act.Local x)) all
