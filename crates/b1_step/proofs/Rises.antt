-- Handle records stay in the order of their nodes.
use Rattle.std.proofs.Common.{refl, sym, ap, subst, ℕ, ◌+◌, Bool, true, false, List, [], ◌∷◌, fold, zip, Option, Some, None}
use Rattle.b1_model.specs.declared.naming.Key.{Key}
use Rattle.b1_model.specs.declared.naming.NodeRef.{NodeRef}
use Rattle.b1_model.specs.declared.naming.Opening.{Opening}
use Rattle.b1_model.specs.declared.parts.Slot.{Slot}
use Rattle.b1_model.specs.declared.parts.Slot.TheVariants as slot
use Rattle.b1_model.specs.declared.entries.Entry.{Entry}
use Rattle.b1_model.specs.declared.entries.Entry.TheVariants.{Message, OwnNotice, ForeignNotice, ReleaseNotice}
use Rattle.b1_model.specs.declared.answers.Reason.{Reason}
use Rattle.b1_model.specs.declared.events.Action.{Action}
use Rattle.b1_model.specs.declared.events.Action.TheVariants as act
use Rattle.b1_model.specs.declared.events.Doing.{Doing}
use Rattle.b1_model.specs.MachineParts.{PeerPart, DriverPart, HandleRecord, is_staged, record_or_none, carried}
use Rattle.b1_model.specs.MachineTables.{changed, changed_or_made, more_flight, less_flight, more_held, less_held, noticed, made_dead, expected, unexpected, foreign, next_number}
use Rattle.b1_model.specs.MachineSend.{unstaged_by, find_stage}
use Rattle.b1_model.specs.MachineReceive.{Arriving, discards, discarded, cleared, reference_by, slot_arrives, taken_entry, front_by, front_taken, received_part, given_up}
use Rattle.b1_model.specs.MachineDestroy.{needs_notice, notice_by, with_foreign_notice, visited_from}
use Rattle.b1_model.specs.MachineEvents.{happens, stage_by, doomed_of}
use Rattle.b1_step.specs.Ordered.{Rising}
use Rattle.b1_step.proofs.Lookups.{rising_changed, rising_made}
use Rattle.b1_step.proofs.Changed.{changes}

rising_expected : (nodes : List NodeRef) (hs : List HandleRecord) → Rising hs → Rising (expected nodes hs)
rising_expected [] hs up = up
rising_expected (node ∷ rest) hs up = rising_expected rest (changed_or_made node more_flight hs) (rising_made node more_flight (λ h. refl) hs up)

rising_unexpected : (nodes : List NodeRef) (hs : List HandleRecord) → Rising hs → Rising (unexpected nodes hs)
rising_unexpected [] hs up = up
rising_unexpected (node ∷ rest) hs up = rising_unexpected rest (changed node less_flight hs) (rising_changed node less_flight (λ h. refl) hs up)

-- ---- receiving

at_discard : (e : Entry) (x : PeerPart) → Rising x.handles → Rising (discarded x e).handles
at_discard (Message origin user index serial offset len nodes slots handles payload) x up = rising_unexpected (foreign x.me nodes) x.handles up
at_discard (OwnNotice serial index) x up = up
at_discard (ForeignNotice node index) x up = rising_changed node made_dead (λ h. refl) x.handles up
at_discard (ReleaseNotice serial) x up = up

at_discards : (es : List (Key × Entry)) (x : PeerPart) → Rising x.handles → Rising (fold (λ z f. discarded z f.1) x es).handles
at_discards [] x up = up
at_discards (f ∷ rest) x up = at_discards rest (discarded x f.1) (at_discard f.1 x up)

at_reference : (b : Bool) (a : Arriving) (node : NodeRef) → Rising a.part.handles → Rising (reference_by b a node).part.handles
at_reference true a node up = rising_changed node less_flight (λ h. refl) a.part.handles up
at_reference false a node up = rising_changed node (λ g. more_held (next_number a.part.given) (less_flight g)) (λ h. refl) a.part.handles up

at_slot : (a : Arriving) (node : NodeRef) (s : Slot) → Rising a.part.handles → Rising (slot_arrives a (node, s)).part.handles
at_slot a node slot.Unattached up = rising_unexpected (foreign a.part.me (node ∷ [])) a.part.handles up
at_slot a node slot.Attached up = at_reference (record_or_none node a.part.handles).dead a node up
at_slot a node slot.Own up = up
at_slot a node slot.Void up = rising_unexpected (foreign a.part.me (node ∷ [])) a.part.handles up

at_slots : (ss : List (NodeRef × Slot)) (a : Arriving) → Rising a.part.handles → Rising (fold slot_arrives a ss).part.handles
at_slots [] a up = up
at_slots ((node, s) ∷ rest) a up = at_slots rest (slot_arrives a (node, s)) (at_slot a node s up)

at_taken : (e : Entry) (k : Key) (x : PeerPart) → Rising x.handles → Rising (taken_entry x k e).1.handles
at_taken (Message origin user index serial offset len nodes slots handles payload) k x up = at_slots (zip nodes slots) _ up
at_taken (OwnNotice serial index) k x up = up
at_taken (ForeignNotice node index) k x up = rising_changed node made_dead (λ h. refl) x.handles up
at_taken (ReleaseNotice serial) k x up = up

at_front : (b : Bool) (x : PeerPart) (f : Key × Entry) (rest : List (Key × Entry)) → Rising x.handles → Rising (front_by b x f rest).1.handles
at_front true x f rest up = up
at_front false x f rest up = at_taken f.1 f.0 (record x { queue = rest }) up

at_front_taken : (queue : List (Key × Entry)) (x : PeerPart) → Rising x.handles → Rising (front_taken x queue).1.handles
at_front_taken [] x up = up
at_front_taken (f ∷ rest) x up = at_front (is_staged f) x f rest up

at_recv : (x : PeerPart) → Rising x.handles → Rising (received_part x).handles
at_recv x up = at_front_taken (cleared x).queue (cleared x) (at_discards (discards x) _ up)

-- ---- the other events that change records

at_stage : (r : Option Reason) (memory : Bool) (origin user place serial : ℕ) (payload : List ℕ) (nodes : List NodeRef) (x : PeerPart) → Rising x.handles → Rising (stage_by r memory origin user place serial payload nodes x).1.handles
at_stage (Some r) memory origin user place serial payload nodes x up = up
at_stage None true origin user place serial payload nodes x up = up
at_stage None false origin user place serial payload nodes x up = rising_expected (foreign x.me nodes) x.handles up

at_unstage : (f : Option (Key × Entry)) (x : PeerPart) (origin index : ℕ) → Rising x.handles → Rising (unstaged_by f x origin index).handles
at_unstage None x origin index up = up
at_unstage (Some f) x origin index up = rising_unexpected (foreign x.me (carried f.1)) x.handles up

at_release : (b : Bool) (held : Option NodeRef) (x : PeerPart) → Rising x.handles → Rising (given_up b held x).handles
at_release false held x up = up
at_release true None x up = up
at_release true (Some node) x up = rising_changed node less_held (λ h. refl) x.handles up

at_notice : (b : Bool) (origin : ℕ) (x : PeerPart) (index : ℕ) (node : NodeRef) → Rising x.handles → Rising (notice_by b origin x index node).handles
at_notice false origin x index node up = up
at_notice true origin x index node up = rising_changed node noticed (λ h. refl) x.handles up

at_visit : (doomed : List ℕ) (origin index : ℕ) (x : PeerPart) → Rising x.handles → Rising (visited_from origin index doomed x).handles
at_visit [] origin index x up = up
at_visit (serial ∷ rest) origin index x up = at_visit rest origin (index + 1) (with_foreign_notice origin x index (record { owner = origin; serial = serial })) (at_notice (needs_notice x (record { owner = origin; serial = serial })) origin x index (record { owner = origin; serial = serial }) up)

-- each event keeps the order
pub rises : (o : Opening) (memory : Bool) (d : DriverPart) (doing : Doing) (action : Action) (x : PeerPart) → Rising x.handles → Rising (happens o memory d doing action x).1.handles
rises o memory d doing (act.Stage peer place) x up = at_stage _ memory _ _ _ _ _ _ x up
rises o memory d doing (act.Unstage peer place) x up = at_unstage (find_stage x d.me place) x d.me place up
rises o memory d doing act.Recv x up = at_recv x up
rises o memory d doing act.Release x up = at_release _ _ x up
rises o memory d doing (act.Visit peer) x up = at_visit (doomed_of doing.phase) d.me 0 x up
rises o memory d doing act.Flush x up = tt
rises o memory d doing act.Rest x up = up
rises o memory d doing act.Begin x up = subst Rising (sym (ap (λ y. y.handles) (changes o memory d doing act.Begin x))) up
rises o memory d doing (act.Attach peer serial dest) x up = subst Rising (sym (ap (λ y. y.handles) (changes o memory d doing (act.Attach peer serial dest) x))) up
rises o memory d doing act.Stamp x up = up
rises o memory d doing (act.Sync peer stamp) x up = up
rises o memory d doing (act.Commit peer place stamp) x up = subst Rising (sym (ap (λ y. y.handles) (changes o memory d doing (act.Commit peer place stamp) x))) up
rises o memory d doing (act.CommitNotices peer stamp) x up = up
rises o memory d doing act.Reap x up = up
rises o memory d doing (act.DropRefs peer serial holder k clock) x up = subst Rising (sym (ap (λ y. y.handles) (changes o memory d doing (act.DropRefs peer serial holder k clock) x))) up
rises o memory d doing act.BeginDestroy x up = subst Rising (sym (ap (λ y. y.handles) (changes o memory d doing act.BeginDestroy x))) up
rises o memory d doing act.StampDestroy x up = subst Rising (sym (ap (λ y. y.handles) (changes o memory d doing act.StampDestroy x))) up
rises o memory d doing act.Local x up = subst Rising (sym (ap (λ y. y.handles) (changes o memory d doing act.Local x))) up
