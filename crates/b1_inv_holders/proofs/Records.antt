-- Where handle records come from in an event: each is an old one of its node, that keeps its notice or is dead.
use Rattle.std.proofs.Common.{◌≡◌, ◌⊎◌, refl, sym, ap, subst, ◌∙◌, inl, inr, ℕ, zero, suc, ◌+◌, ◌≤◌, Bool, true, false, cond, List, [], ◌∷◌, fold, zip, length, Option, Some, None}
use Rattle.std.specs.Prelude.{slice_get}
use native.Mathlib.Omega.{arith}
use Rattle.b1_model.specs.declared.naming.Key.{Key}
use Rattle.b1_model.specs.declared.naming.NodeRef.{NodeRef}
use Rattle.b1_model.specs.declared.naming.Opening.{Opening}
use Rattle.b1_model.specs.declared.entries.Entry.{Entry}
use Rattle.b1_model.specs.declared.entries.Entry.TheVariants.{Message, OwnNotice, ForeignNotice, ReleaseNotice}
use Rattle.b1_model.specs.declared.answers.Reason.{Reason}
use Rattle.b1_model.specs.declared.events.Action.{Action}
use Rattle.b1_model.specs.declared.events.Action.TheVariants as act
use Rattle.b1_model.specs.declared.events.Doing.{Doing}
use Rattle.b1_model.specs.declared.parts.Slot.{Slot}
use Rattle.b1_model.specs.declared.parts.Slot.TheVariants as slot
use Rattle.b1_model.specs.MachineParts.{PeerPart, DriverPart, HandleRecord, is_staged, same_ref, ref_before, no_record, record_or_none, carried, slots_of}
use Rattle.b1_model.specs.MachineTables.{is_needed, changed, changed_or_made, more_flight, less_flight, more_held, less_held, noticed, made_dead, expected, unexpected, foreign, next_number}
use Rattle.b1_model.specs.MachineSend.{find_stage, unstaged_by}
use Rattle.b1_model.specs.MachineReceive.{Arriving, discards, discarded, cleared, reference_by, slot_arrives, taken_entry, front_by, front_taken, received_part, given_up}
use Rattle.b1_model.specs.MachineDestroy.{needs_notice, notice_by, visited_from}
use Rattle.b1_model.specs.MachineEvents.{happens, stage_by, doomed_of}
use Rattle.b1_step.specs.Rights.{Has}
use Rattle.b1_step.proofs.Changed.{changes}
use Rattle.b1_step.proofs.Orders.{same_ref_is}
use Rattle.b1_inv_tools.proofs.Comes.{has_drop}
use Rattle.b1_inv_tools.proofs.Received.{at_cleared}

abbrev Handles : Type 0
Handles = List HandleRecord

-- a committed message of a queue carries a counted reference to a node
abbrev pub TakenIn : PeerPart → NodeRef → Type 0
TakenIn x node = (f : Key × Entry) × (j : ℕ) × Has x.queue f × (is_staged f ≡ false) × (slice_get (carried f.1) j ≡ Some node) × (slice_get (slots_of f.1) j ≡ Some slot.Attached)

-- the event puts a message into a queue
abbrev pub stages_action : Action → Bool
stages_action (act.Stage peer place) = true
stages_action action = false

module _ (P : NodeRef → Type 0) where
  -- a record after another one of its node: held where that was, or where a reference came
  pub record Follows (g h : HandleRecord) : Type 0 where
    pub node : g.node ≡ h.node
    pub notice : g.notice ≡ true → (h.notice ≡ true) ⊎ (h.dead ≡ true)
    pub dead : g.dead ≡ true → h.dead ≡ true
    pub held : 1 ≤ h.held → (1 ≤ g.held) ⊎ P h.node

  pub itself : (h : HandleRecord) → Follows h h
  itself h = record { node = refl; notice = λ is. inl is; dead = λ is. is; held = λ some. inl some }

  follows_trans : (f g h : HandleRecord) → Follows f g → Follows g h → Follows f h
  follows_trans f g h one two = record {
    node = one.node ∙ two.node;
    notice = λ is. elim (one.notice is) [ inl noted ↦ two.notice noted | inr dies ↦ inr (two.dead dies) ];
    dead = λ is. two.dead (one.dead is);
    held = λ some. elim (two.held some) [ inl was ↦ elim (one.held was) [ inl before ↦ inl before | inr came ↦ inr (subst P two.node came) ] | inr came ↦ inr came ];
  }

  abbrev pub From : Handles → HandleRecord → Type 0
  From hs h = (g : HandleRecord) × Has hs g × Follows g h

  -- each record comes from an old one
  abbrev AllFrom : Handles → Handles → Type 0
  AllFrom old new = (h : HandleRecord) → Has new h → From old h

  from_same : (hs : Handles) → AllFrom hs hs
  from_same hs h there = (h, there, itself h)

  from_trans : (old mid new : Handles) → AllFrom old mid → AllFrom mid new → AllFrom old new
  from_trans old mid new one two h there = let k = two h there in let j = one k.0 k.1 in (j.0, j.1, follows_trans j.0 k.0 h j.2 k.2)

  module _ (node : NodeRef) (f : HandleRecord → HandleRecord) (follows : (g : HandleRecord) → same_ref g.node node ≡ true → Follows g (f g)) where
    changed_from : (hs : Handles) → AllFrom hs (changed node f hs)
    changed_from [] h there = absurd there
    changed_from (g ∷ rest) h there = by (same_ref g.node node) (is_needed (f g)) refl there (changed_from rest h)
      where
        by : (b c : Bool) → same_ref g.node node ≡ b → Has (cond b (cond c (f g ∷ rest) rest) (g ∷ changed node f rest)) h → (Has (changed node f rest) h → From rest h) → From (g ∷ rest) h
        by true true is (inl here) further = (g, inl refl, subst (Follows g) (sym here) (follows g is))
        by true true is (inr more) further = (h, inr more, itself h)
        by true false is more further = (h, inr more, itself h)
        by false c is (inl here) further = (g, inl refl, subst (Follows g) (sym here) (itself g))
        by false c is (inr more) further = let k = further more in (k.0, inr k.1, k.2)

  less_from : (node : NodeRef) (hs : Handles) → AllFrom hs (changed node less_flight hs)
  less_from node hs = changed_from node less_flight (λ g is. record { node = refl; notice = λ noted. inl noted; dead = λ dies. dies; held = λ some. inl some }) hs

  dead_from : (node : NodeRef) (hs : Handles) → AllFrom hs (changed node made_dead hs)
  dead_from node hs = changed_from node made_dead (λ g is. record { node = refl; notice = λ noted. inr refl; dead = λ dies. refl; held = λ some. inl some }) hs

  noticed_from : (node : NodeRef) (hs : Handles) → AllFrom hs (changed node noticed hs)
  noticed_from node hs = changed_from node noticed (λ g is. record { node = refl; notice = λ noted. inl refl; dead = λ dies. dies; held = λ some. inl some }) hs

  release_from : (node : NodeRef) (hs : Handles) → AllFrom hs (changed node less_held hs)
  release_from node hs = changed_from node less_held (λ g is. record { node = refl; notice = λ noted. inl noted; dead = λ dies. dies; held = λ some. inl (omega (arith, some)) }) hs

  held_from : (node : NodeRef) (number : ℕ) (hs : Handles) → P node → AllFrom hs (changed node (λ g. more_held number (less_flight g)) hs)
  held_from node number hs came = changed_from node (λ g. more_held number (less_flight g)) (λ g is. record { node = refl; notice = λ noted. inl noted; dead = λ dies. dies; held = λ some. inr (subst P (sym (same_ref_is g.node node is)) came) }) hs

  unexpected_from : (nodes : List NodeRef) (hs : Handles) → AllFrom hs (unexpected nodes hs)
  unexpected_from [] hs = from_same hs
  unexpected_from (node ∷ rest) hs = from_trans hs (changed node less_flight hs) (unexpected rest (changed node less_flight hs)) (less_from node hs) (unexpected_from rest (changed node less_flight hs))

  -- ---- receiving

  at_discard : (e : Entry) (x : PeerPart) → AllFrom x.handles (discarded x e).handles
  at_discard (Message origin user index serial offset len nodes slots handles payload) x = unexpected_from (foreign x.me nodes) x.handles
  at_discard (OwnNotice serial index) x = from_same x.handles
  at_discard (ForeignNotice node index) x = dead_from node x.handles
  at_discard (ReleaseNotice serial) x = from_same x.handles

  at_discards : (es : List (Key × Entry)) (x : PeerPart) → AllFrom x.handles (fold (λ z f. discarded z f.1) x es).handles
  at_discards [] x = from_same x.handles
  at_discards (f ∷ rest) x = from_trans x.handles (discarded x f.1).handles (fold (λ z g. discarded z g.1) (discarded x f.1) rest).handles (at_discard f.1 x) (at_discards rest (discarded x f.1))

  at_reference : (b : Bool) (a : Arriving) (node : NodeRef) → P node → AllFrom a.part.handles (reference_by b a node).part.handles
  at_reference true a node came = less_from node a.part.handles
  at_reference false a node came = held_from node (next_number a.part.given) a.part.handles came

  at_slot : (a : Arriving) (node : NodeRef) (s : Slot) → (s ≡ slot.Attached → P node) → AllFrom a.part.handles (slot_arrives a (node, s)).part.handles
  at_slot a node slot.Unattached came = unexpected_from (foreign a.part.me (node ∷ [])) a.part.handles
  at_slot a node slot.Attached came = at_reference (record_or_none node a.part.handles).dead a node (came refl)
  at_slot a node slot.Own came = from_same a.part.handles
  at_slot a node slot.Void came = unexpected_from (foreign a.part.me (node ∷ [])) a.part.handles

  at_slots : (nodes : List NodeRef) (slots : List Slot) (a : Arriving) → ((j : ℕ) (node : NodeRef) → slice_get nodes j ≡ Some node → slice_get slots j ≡ Some slot.Attached → P node) → AllFrom a.part.handles (fold slot_arrives a (zip nodes slots)).part.handles
  at_slots [] slots a came = from_same a.part.handles
  at_slots (node ∷ nodes) [] a came = from_same a.part.handles
  at_slots (node ∷ nodes) (s ∷ slots) a came =
      from_trans a.part.handles (slot_arrives a (node, s)).part.handles (fold slot_arrives (slot_arrives a (node, s)) (zip nodes slots)).part.handles
      (at_slot a node s (λ is. came zero node refl (ap Some is))) (at_slots nodes slots (slot_arrives a (node, s)) (λ j n is also. came (suc j) n is also))

  at_taken : (e : Entry) (k : Key) (x : PeerPart) → ((j : ℕ) (node : NodeRef) → slice_get (carried e) j ≡ Some node → slice_get (slots_of e) j ≡ Some slot.Attached → P node) → AllFrom x.handles (taken_entry x k e).1.handles
  at_taken (Message origin user index serial offset len nodes slots handles payload) k x came = at_slots nodes slots _ came
  at_taken (OwnNotice serial index) k x came = from_same x.handles
  at_taken (ForeignNotice node index) k x came = dead_from node x.handles
  at_taken (ReleaseNotice serial) k x came = from_same x.handles

  at_front : (b : Bool) (x : PeerPart) (f : Key × Entry) (rest : List (Key × Entry)) → (b ≡ false → (j : ℕ) (node : NodeRef) → slice_get (carried f.1) j ≡ Some node → slice_get (slots_of f.1) j ≡ Some slot.Attached → P node) → AllFrom x.handles (front_by b x f rest).1.handles
  at_front true x f rest came = from_same x.handles
  at_front false x f rest came = at_taken f.1 f.0 (record x { queue = rest }) (came refl)

  at_front_taken : (queue : List (Key × Entry)) (x : PeerPart) → ((f : Key × Entry) → Has queue f → is_staged f ≡ false → (j : ℕ) (node : NodeRef) → slice_get (carried f.1) j ≡ Some node → slice_get (slots_of f.1) j ≡ Some slot.Attached → P node)
      → AllFrom x.handles (front_taken x queue).1.handles
  at_front_taken [] x came = from_same x.handles
  at_front_taken (f ∷ rest) x came = at_front (is_staged f) x f rest (came f (inl refl))

  at_recv : (x : PeerPart) → ((node : NodeRef) → TakenIn x node → P node) → AllFrom x.handles (received_part x).handles
  at_recv x came =
      from_trans x.handles (cleared x).handles (received_part x).handles (at_discards (discards x) _)
      (at_front_taken (cleared x).queue (cleared x) (λ f there even j node is also. came node (f, j, has_drop (length (discards x)) x.queue f (subst (λ queue. Has queue f) (at_cleared x).0 there), even, is, also)))

  -- ---- the other events

  at_release : (b : Bool) (held : Option NodeRef) (x : PeerPart) → AllFrom x.handles (given_up b held x).handles
  at_release false held x = from_same x.handles
  at_release true None x = from_same x.handles
  at_release true (Some node) x = release_from node x.handles

  at_unstage : (found : Option (Key × Entry)) (x : PeerPart) (origin index : ℕ) → AllFrom x.handles (unstaged_by found x origin index).handles
  at_unstage None x origin index = from_same x.handles
  at_unstage (Some f) x origin index = unexpected_from (foreign x.me (carried f.1)) x.handles

  at_notice : (b : Bool) (origin : ℕ) (x : PeerPart) (index : ℕ) (node : NodeRef) → AllFrom x.handles (notice_by b origin x index node).handles
  at_notice false origin x index node = from_same x.handles
  at_notice true origin x index node = noticed_from node x.handles

  pub at_visit : (origin index : ℕ) (serials : List ℕ) (x : PeerPart) → AllFrom x.handles (visited_from origin index serials x).handles
  at_visit origin index [] x = from_same x.handles
  at_visit origin index (serial ∷ rest) x =
      let y = notice_by (needs_notice x (record { owner = origin; serial = serial })) origin x index (record { owner = origin; serial = serial }) in
      from_trans x.handles y.handles (visited_from origin (index + 1) rest y).handles (at_notice (needs_notice x (record { owner = origin; serial = serial })) origin x index (record { owner = origin; serial = serial })) (at_visit origin (index + 1) rest y)

  -- each held record comes from an old one
  abbrev pub HeldFrom : Handles → Handles → Type 0
  HeldFrom old new = (h : HandleRecord) → Has new h → 1 ≤ h.held → From old h

  all_held : (old new : Handles) → AllFrom old new → HeldFrom old new
  all_held old new all h there some = all h there

  made_from : (node : NodeRef) (hs : Handles) → (h : HandleRecord) → Has (changed_or_made node more_flight hs) h → 1 ≤ h.held → (g : HandleRecord) × Has hs g × Follows g h × (1 ≤ g.held)
  made_from node [] h (inl here) some = let none : h.held ≡ 0 = ap (λ g. g.held) here in absurd (omega (arith, none, some))
  made_from node [] h (inr there) some = absurd there
  made_from node (g ∷ rest) h there some = by (same_ref g.node node) (ref_before node g.node) there (made_from node rest h)
    where
      by : (b c : Bool) → Has (cond b (more_flight g ∷ rest) (cond c (more_flight (no_record node) ∷ g ∷ rest) (g ∷ changed_or_made node more_flight rest))) h
          → (Has (changed_or_made node more_flight rest) h → 1 ≤ h.held → (k : HandleRecord) × Has rest k × Follows k h × (1 ≤ k.held)) → (k : HandleRecord) × Has (g ∷ rest) k × Follows k h × (1 ≤ k.held)
      by true c (inl here) further = (g, inl refl, subst (Follows g) (sym here) (record { node = refl; notice = λ noted. inl noted; dead = λ dies. dies; held = λ more. inl more }), let same : h.held ≡ g.held = ap (λ k. k.held) here in omega (arith, same, some))
      by true c (inr more) further = (h, inr more, itself h, some)
      by false true (inl here) further = let none : h.held ≡ 0 = ap (λ k. k.held) here in absurd (omega (arith, none, some))
      by false true (inr more) further = (h, more, itself h, some)
      by false false (inl here) further = (g, inl refl, subst (Follows g) (sym here) (itself g), let same : h.held ≡ g.held = ap (λ k. k.held) here in omega (arith, same, some))
      by false false (inr more) further = let k = further more some in (k.0, inr k.1, k.2, k.3)

  expected_from : (nodes : List NodeRef) (hs : Handles) → HeldFrom hs (expected nodes hs)
  expected_from [] hs h there some = (h, there, itself h)
  expected_from (node ∷ rest) hs h there some = two (expected_held rest (changed_or_made node more_flight hs) h there some)
    where
      two : (g : HandleRecord) × Has (changed_or_made node more_flight hs) g × Follows g h × (1 ≤ g.held) → From hs h
      two (g, was, follows, held) = let k = made_from node hs g was held in (k.0, k.1, follows_trans k.0 g h k.2 follows)

      expected_held : (ns : List NodeRef) (gs : Handles) (k : HandleRecord) → Has (expected ns gs) k → 1 ≤ k.held → (g : HandleRecord) × Has gs g × Follows g k × (1 ≤ g.held)
      expected_held [] gs k was held = (k, was, itself k, held)
      expected_held (n ∷ ns) gs k was held =
          let j = expected_held ns (changed_or_made n more_flight gs) k was held in
          let i = made_from n gs j.0 j.1 j.3 in
          (i.0, i.1, follows_trans i.0 j.0 k i.2 j.2, i.3)

  at_stage : (r : Option Reason) (memory : Bool) (origin user place serial : ℕ) (payload : List ℕ) (nodes : List NodeRef) (x : PeerPart) → HeldFrom x.handles (stage_by r memory origin user place serial payload nodes x).1.handles
  at_stage (Some r) memory origin user place serial payload nodes x h there some = (h, there, itself h)
  at_stage None true origin user place serial payload nodes x h there some = (h, there, itself h)
  at_stage None false origin user place serial payload nodes x h there some = expected_from (foreign x.me nodes) x.handles h there some

  same_handles : (old new : Handles) → new ≡ old → HeldFrom old new
  same_handles old new same h there some = (h, subst (λ hs. Has hs h) same there, itself h)

  pub held_event : (o : Opening) (memory : Bool) (d : DriverPart) (doing : Doing) (action : Action) (x : PeerPart) → ((node : NodeRef) → TakenIn x node → P node) → HeldFrom x.handles (happens o memory d doing action x).1.handles
  held_event o memory d doing act.Recv x came h there some = at_recv x came h there
  held_event o memory d doing act.Release x came h there some = at_release _ _ x h there
  held_event o memory d doing act.Flush x came h there some = absurd there
  held_event o memory d doing (act.Stage peer place) x came h there some = at_stage _ memory _ _ place _ _ _ x h there some
  held_event o memory d doing (act.Unstage peer place) x came h there some = at_unstage (find_stage x d.me place) x d.me place h there
  held_event o memory d doing (act.Visit peer) x came h there some = at_visit d.me 0 (doomed_of doing.phase) x h there
  held_event o memory d doing action x came h there some = same_handles x.handles _ (ap (λ y. y.handles) (changes o memory d doing action x)) h there some

  same_from : (old new : Handles) → new ≡ old → AllFrom old new
  same_from old new same h there = (h, subst (λ hs. Has hs h) same there, itself h)

  pub record_event : (o : Opening) (memory : Bool) (d : DriverPart) (doing : Doing) (action : Action) (x : PeerPart) → stages_action action ≡ false → ((node : NodeRef) → TakenIn x node → P node) → (h : HandleRecord) → Has (happens o memory d doing action x).1.handles h → From x.handles h
  record_event o memory d doing (act.Stage peer place) x is came h there = absurd (cc is)
  record_event o memory d doing act.Recv x is came h there = at_recv x came h there
  record_event o memory d doing act.Release x is came h there = at_release _ _ x h there
  record_event o memory d doing act.Flush x is came h there = absurd there
  record_event o memory d doing (act.Unstage peer place) x is came h there = at_unstage (find_stage x d.me place) x d.me place h there
  record_event o memory d doing (act.Visit peer) x is came h there = at_visit d.me 0 (doomed_of doing.phase) x h there
  record_event o memory d doing action x is came h there = same_from x.handles _ (ap (λ y. y.handles) (changes o memory d doing action x)) h there
