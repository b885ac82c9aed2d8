-- Marks of records through one event: each node has as many queued notices as its record is marked.
use Rattle.std.proofs.Common.{◌≡◌, ◌⊎◌, refl, sym, ap, ◌∙◌, inl, inr, subst, arith, ℕ, ◌+◌, ◌≤◌, Bool, true, false, cond, not, List, [], ◌∷◌, fold, zip, Option, Some, None}
use Rattle.std.proofs.lemmas.Bool.{not-true}
use Rattle.b1_model.specs.declared.naming.Key.{Key}
use Rattle.b1_model.specs.declared.naming.NodeRef.{NodeRef}
use Rattle.b1_model.specs.declared.naming.Opening.{Opening}
use Rattle.b1_model.specs.declared.parts.Attach.{Attach}
use Rattle.b1_model.specs.declared.parts.Attach.TheVariants as attach
use Rattle.b1_model.specs.declared.parts.Slot.{Slot}
use Rattle.b1_model.specs.declared.parts.Slot.TheVariants as slot
use Rattle.b1_model.specs.declared.answers.Reason.{Reason}
use Rattle.b1_model.specs.declared.entries.Entry.{Entry}
use Rattle.b1_model.specs.declared.entries.Entry.TheVariants.{Message, OwnNotice, ForeignNotice, ReleaseNotice}
use Rattle.b1_model.specs.declared.events.Action.{Action}
use Rattle.b1_model.specs.declared.events.Action.TheVariants as act
use Rattle.b1_model.specs.declared.events.Doing.{Doing}
use Rattle.b1_model.specs.Names.{is_given}
use Rattle.b1_model.specs.MachineParts.{PeerPart, DriverPart, HandleRecord, same_ref, is_data, is_release_notice, record_of, record_or_none, carried}
use Rattle.b1_model.specs.MachineTables.{put, without, is_needed, is_stage, is_staged_notice, changed, noticed, made_dead, less_flight, less_held, more_held, next_number, foreign, held_node}
use Rattle.b1_model.specs.MachineSend.{find_stage, unstaged_by, attached_by, attach_answer, committed_by, with_slots, with_stamp, notices_committed}
use Rattle.b1_model.specs.MachineReceive.{Arriving, reference_by, slot_arrives, taken_entry, given_up, with_release_notice, is_released, dropped_refs}
use Rattle.b1_model.specs.MachineDestroy.{with_own_notices, needs_notice, notice_by, visited_from}
use Rattle.b1_model.specs.MachineEvents.{happens, stage_by, destroy_by, begin_refusal, begin_serials, number_of, doomed_of, slots_at}
use Rattle.b1_step.specs.Ordered.{Rising}
use Rattle.b1_step.proofs.Changed.{changes}
use Rattle.b1_step.proofs.Rises.{rises as records_rise}
use Rattle.b1_step.proofs.Lookups.{rising_changed, own_changed, kept_by}
use Rattle.b1_step.proofs.Orders.{same_ref_itself, find_has}
use Rattle.b1_inv_peer.specs.PeerOk.{count, is_notice_for}
use Rattle.b1_inv_peer.proofs.Counts.{one, count_cons, count_put, count_without_other, sum_moved}
use Rattle.b1_inv_peer.proofs.Entries.{notice_for_committed, notice_for_none}
use Rattle.b1_inv_peer.proofs.Clearing.{without_front}
use Rattle.b1_inv_peer.proofs.RecordFields.{same_or_apart, field_stays, other_record, or_none, unneeded_notice, rising_unexpected, notice_expected, notice_unexpected}
use Rattle.b1_inv_peer.proofs.RecordLists.{notice_needs}
use Rattle.b1_inv_refs.proofs.Arrivals.{slot_rest, slot_rising}
use Rattle.b1_inv_refs.proofs.Peers.{stage_is_message}
use Rattle.b1_inv_parts.proofs.Receives.{received_all}

abbrev Queue : Type 0
Queue = List (Key × Entry)

abbrev Handles : Type 0
Handles = List HandleRecord

-- whether a node's record is marked
abbrev pub mark : NodeRef → Handles → Bool
mark node handles = (record_or_none node handles).notice

-- what is so of one part
pub record MarksOk (x : PeerPart) : Type 0 where
  pub rising : Rising x.handles
  pub as_many : (node : NodeRef) → count (is_notice_for node) x.queue ≡ one (mark node x.handles)

-- the counts of a queue and the marks of records are as they were
abbrev AsBefore : Queue → Handles → Queue → Handles → Type 0
AsBefore queue handles new_queue new_handles = (node : NodeRef) → (count (is_notice_for node) new_queue ≡ count (is_notice_for node) queue) × (mark node new_handles ≡ mark node handles)

still : (x y : PeerPart) → Rising y.handles → AsBefore x.queue x.handles y.queue y.handles → MarksOk x → MarksOk y
still x y up same ok = record { rising = up; as_many = λ node. (same node).0 ∙ ok.as_many node ∙ ap one (sym (same node).1) }

-- ---- a queue in which no destroy notice of a foreign node comes or goes

put_other : (node : NodeRef) (k : Key) (e : Entry) (queue : Queue) → is_notice_for node (k, e) ≡ false → count (is_notice_for node) (put k e queue) ≡ count (is_notice_for node) queue
put_other node k e queue other = let new = count_put (is_notice_for node) k e queue in let none : one (is_notice_for node (k, e)) ≡ 0 = ap one other in omega (arith, new, none)

release_other : (node : NodeRef) (serial : ℕ) (f : Key × Entry) → is_release_notice serial f ≡ true → is_notice_for node f ≡ false
release_other node serial (k, Message origin user index dest offset len nodes slots handles payload) is = refl
release_other node serial (k, OwnNotice doomed index) is = refl
release_other node serial (k, ForeignNotice other index) is = absurd (cc is)
release_other node serial (k, ReleaseNotice mine) is = refl

unreleased : (node : NodeRef) (serial : ℕ) (queue : Queue) → count (is_notice_for node) (without (is_release_notice serial) queue) ≡ count (is_notice_for node) queue
unreleased node serial queue = count_without_other (is_notice_for node) (is_release_notice serial) queue (λ f h is. release_other node serial f is)

unstaged_queue : (node : NodeRef) (origin index : ℕ) (queue : Queue) → count (is_notice_for node) (without (is_stage origin index) queue) ≡ count (is_notice_for node) queue
unstaged_queue node origin index queue = count_without_other (is_notice_for node) (is_stage origin index) queue (λ f h is. notice_for_none node f (stage_is_message origin index f is))

-- ---- the events but RECV and visits

at_stage : (r : Option Reason) (memory : Bool) (origin user place serial : ℕ) (payload : List ℕ) (nodes : List NodeRef) (x : PeerPart) → Rising x.handles → AsBefore x.queue x.handles (stage_by r memory origin user place serial payload nodes x).1.queue (stage_by r memory origin user place serial payload nodes x).1.handles
at_stage (Some r) memory origin user place serial payload nodes x up node = (refl, refl)
at_stage None true origin user place serial payload nodes x up node = (refl, refl)
at_stage None false origin user place serial payload nodes x up node = (put_other node _ _ x.queue refl, notice_expected node (foreign x.me nodes) x.handles up)

at_unstage : (g : Option (Key × Entry)) (x : PeerPart) (origin index : ℕ) → Rising x.handles → AsBefore x.queue x.handles (unstaged_by g x origin index).queue (unstaged_by g x origin index).handles
at_unstage None x origin index up node = (refl, refl)
at_unstage (Some g) x origin index up node = (unstaged_queue node origin index x.queue, notice_unexpected node (foreign x.me (carried g.1)) x.handles up)

at_attach : (a : Attach) (x : PeerPart) (serial dest : ℕ) → AsBefore x.queue x.handles (attached_by a x serial dest).queue (attached_by a x serial dest).handles
at_attach attach.Counted x serial dest node = (unreleased node serial x.queue, refl)
at_attach attach.Own x serial dest node = (refl, refl)
at_attach (attach.Void stamp) x serial dest node = (refl, refl)

slots_other : (node : NodeRef) (k new : Key) (slots : List Slot) (e : Entry) → is_data e ≡ true → is_notice_for node (new, with_slots slots e) ≡ false
slots_other node k new slots e message = notice_for_committed node k new e slots ∙ notice_for_none node (k, e) message

at_commit : (g : Option (Key × Entry)) (x : PeerPart) (origin index stamp : ℕ) (slots : List Slot) → ((f : Key × Entry) → g ≡ Some f → is_data f.1 ≡ true) → AsBefore x.queue x.handles (committed_by g x origin index stamp slots).queue (committed_by g x origin index stamp slots).handles
at_commit None x origin index stamp slots message node = (refl, refl)
at_commit (Some g) x origin index stamp slots message node = (put_other node (record { stamp = stamp; origin = origin; index = index }) (with_slots slots g.1) (without (is_stage origin index) x.queue) (slots_other node g.0 (record { stamp = stamp; origin = origin; index = index }) slots g.1 (message g refl)) ∙ unstaged_queue node origin index x.queue, refl)

same_notice_for : (stamp : ℕ) (node : NodeRef) (f : Key × Entry) → is_notice_for node (with_stamp stamp f) ≡ is_notice_for node f
same_notice_for stamp node (k, Message o user index serial offset len carries slots hs payload) = refl
same_notice_for stamp node (k, OwnNotice serial index) = refl
same_notice_for stamp node (k, ForeignNotice other index) = refl
same_notice_for stamp node (k, ReleaseNotice serial) = refl

at_notices : (x : PeerPart) (origin stamp : ℕ) → AsBefore x.queue x.handles (notices_committed x origin stamp).queue (notices_committed x origin stamp).handles
at_notices x origin stamp node = (sum_moved (λ e. one (is_notice_for node e)) (is_staged_notice origin) (with_stamp stamp) x.queue (λ f is. ap one (same_notice_for stamp node f)), refl)

at_drop : (b : Bool) (x : PeerPart) (serial : ℕ) → AsBefore x.queue x.handles (with_release_notice b x serial).queue (with_release_notice b x serial).handles
at_drop false x serial node = (refl, refl)
at_drop true x serial node = (put_other node _ _ x.queue refl, refl)

own_notices : (x : PeerPart) (node : NodeRef) (index : ℕ) (doomed : List ℕ) (queue : Queue) → count (is_notice_for node) (with_own_notices x index doomed queue) ≡ count (is_notice_for node) queue
own_notices x node index [] queue = refl
own_notices x node index (serial ∷ rest) queue = own_notices x node (index + 1) rest _ ∙ put_other node _ _ (without (is_release_notice serial) queue) refl ∙ unreleased node serial queue

at_destroy : (r : Option Reason) (doomed : List ℕ) (x : PeerPart) → AsBefore x.queue x.handles (destroy_by r doomed x).1.queue (destroy_by r doomed x).1.handles
at_destroy (Some r) doomed x node = (refl, refl)
at_destroy None doomed x node = (own_notices x node 0 doomed x.queue, refl)

same_mark : (f : HandleRecord → HandleRecord) → ((h : HandleRecord) → (f h).node ≡ h.node) → ((h : HandleRecord) → (f h).notice ≡ h.notice) → (node other : NodeRef) (hs : Handles) → Rising hs → mark other (changed node f hs) ≡ mark other hs
same_mark f keeps same node other hs up = field_stays (λ h. h.notice) false unneeded_notice (λ m. refl) f keeps same node other hs up

at_release : (b : Bool) (held : Option NodeRef) (x : PeerPart) → Rising x.handles → AsBefore x.queue x.handles (given_up b held x).queue (given_up b held x).handles
at_release false held x up node = (refl, refl)
at_release true None x up node = (refl, refl)
at_release true (Some other) x up node = (refl, same_mark less_held (λ h. refl) (λ h. refl) other node x.handles up)

-- ---- a notice comes

told : (node : NodeRef) (handles : Handles) (h : HandleRecord) → Rising handles → record_of node handles ≡ Some h → mark node (changed node noticed handles) ≡ true
told node handles h up found =
    ap (λ o. (or_none node o).notice) (own_changed node noticed (λ g. refl) handles up ∙ ap (kept_by noticed) found)
    ∙ ap (λ b. (or_none node (cond b (Some (noticed h)) None)).notice) (notice_needs h)

unmarked_found : (node : NodeRef) (handles : Handles) → (o : Option HandleRecord) → record_of node handles ≡ o → elim o [ None ↦ false | Some h ↦ not h.notice ] ≡ true → (h : HandleRecord) × (record_of node handles ≡ Some h) × (mark node handles ≡ false)
unmarked_found node handles None is needs = absurd (cc needs)
unmarked_found node handles (Some h) is needs = (h, is, ap (λ o. (or_none node o).notice) is ∙ not-true h.notice needs)

at_notice : (b : Bool) (origin : ℕ) (x : PeerPart) (index : ℕ) (node : NodeRef) → needs_notice x node ≡ b → MarksOk x → MarksOk (notice_by b origin x index node)
at_notice false origin x index node needs ok = ok
at_notice true origin x index node needs ok = record {
  rising = rising_changed node noticed (λ h. refl) x.handles ok.rising;
  as_many = λ other. at other (same_or_apart node other);
}
  where
    key : Key
    key = record { stamp = x.clock + 1; origin = origin; index = index }

    at : (other : NodeRef) → (node ≡ other) ⊎ (same_ref node other ≡ false) → count (is_notice_for other) (put key (ForeignNotice node index) x.queue) ≡ one (mark other (changed node noticed x.handles))
    at other (inl e) =
        subst (λ m. count (is_notice_for m) (put key (ForeignNotice node index) x.queue) ≡ one (mark m (changed node noticed x.handles))) e
        (let found = unmarked_found node x.handles (record_of node x.handles) refl needs in
        let new = count_put (is_notice_for node) key (ForeignNotice node index) x.queue in
        let mine : one (same_ref node node) ≡ 1 = ap one (same_ref_itself node) in
        let old = ok.as_many node in
        let none : one (mark node x.handles) ≡ 0 = ap one found.2 in
        let now : one (mark node (changed node noticed x.handles)) ≡ 1 = ap one (told node x.handles found.0 ok.rising found.1) in
        omega (arith, new, mine, old, none, now))
    at other (inr apart) =
        let new = count_put (is_notice_for other) key (ForeignNotice node index) x.queue in
        let none : one (same_ref node other) ≡ 0 = ap one apart in
        let old = ok.as_many other in
        let same : one (mark other (changed node noticed x.handles)) ≡ one (mark other x.handles) = ap (λ h. one h.notice) (other_record node other noticed (λ h. refl) apart x.handles) in
        omega (arith, new, none, old, same)

at_visit : (origin : ℕ) (serials : List ℕ) (index : ℕ) (x : PeerPart) → MarksOk x → MarksOk (visited_from origin index serials x)
at_visit origin [] index x ok = ok
at_visit origin (serial ∷ rest) index x ok = at_visit origin rest (index + 1) _ (at_notice (needs_notice x (record { owner = origin; serial = serial })) origin x index (record { owner = origin; serial = serial }) refl ok)

-- ---- RECV

-- the front leaves
front_other : (x : PeerPart) (f : Key × Entry) (rest : Queue) → x.queue ≡ f ∷ rest → ((node : NodeRef) → is_notice_for node f ≡ false) → (node : NodeRef) → count (is_notice_for node) rest ≡ count (is_notice_for node) x.queue
front_other x f rest is other node =
    let whole = ap (count (is_notice_for node)) is in
    let more = count_cons (is_notice_for node) f rest in
    let none : one (is_notice_for node f) ≡ 0 = ap one (other node) in
    omega (arith, whole, more, none)

-- the front is a destroy notice, and its record is dead
dead_front : (x : PeerPart) (k : Key) (node : NodeRef) (index : ℕ) (rest : Queue) → x.queue ≡ (k, ForeignNotice node index) ∷ rest → MarksOk x → (other : NodeRef) → count (is_notice_for other) rest ≡ one (mark other (changed node made_dead x.handles))
dead_front x k node index rest is ok other = at (same_or_apart node other)
  where
    bit_one : (b : Bool) → one b ≤ 1
    bit_one true = omega arith
    bit_one false = omega arith

    unmarked : (o : Option HandleRecord) → mark node [] ≡ false → (or_none node (kept_by made_dead o)).notice ≡ false
    unmarked None none = refl
    unmarked (Some h) none = by (is_needed (made_dead h))
      where
        by : (b : Bool) → (or_none node (cond b (Some (made_dead h)) None)).notice ≡ false
        by true = refl
        by false = refl

    at : (node ≡ other) ⊎ (same_ref node other ≡ false) → count (is_notice_for other) rest ≡ one (mark other (changed node made_dead x.handles))
    at (inl e) =
        subst (λ m. count (is_notice_for m) rest ≡ one (mark m (changed node made_dead x.handles))) e
        (let whole = ap (count (is_notice_for node)) is in
        let more = count_cons (is_notice_for node) (k, ForeignNotice node index) rest in
        let mine : one (same_ref node node) ≡ 1 = ap one (same_ref_itself node) in
        let old = ok.as_many node in
        let low = bit_one (mark node x.handles) in
        let now : one (mark node (changed node made_dead x.handles)) ≡ 0 = ap one (ap (λ o. (or_none node o).notice) (own_changed node made_dead (λ h. refl) x.handles ok.rising) ∙ unmarked (record_of node x.handles) refl) in
        omega (arith, whole, more, mine, old, low, now))
    at (inr apart) =
        let whole = ap (count (is_notice_for other)) is in
        let more = count_cons (is_notice_for other) (k, ForeignNotice node index) rest in
        let none : one (same_ref node other) ≡ 0 = ap one apart in
        let old = ok.as_many other in
        let same : one (mark other (changed node made_dead x.handles)) ≡ one (mark other x.handles) = ap (λ h. one h.notice) (other_record node other made_dead (λ h. refl) apart x.handles) in
        omega (arith, whole, more, none, old, same)

front_gone : (x : PeerPart) (f : Key × Entry) (rest : Queue) → x.queue ≡ f ∷ rest → MarksOk x → MarksOk (without_front x f rest)
front_gone x (k, Message origin user index serial offset len nodes slots handles payload) rest is ok =
    still x _ (rising_unexpected (foreign x.me nodes) x.handles ok.rising) (λ node. (front_other x (k, Message origin user index serial offset len nodes slots handles payload) rest is (λ n. refl) node, notice_unexpected node (foreign x.me nodes) x.handles ok.rising)) ok
front_gone x (k, OwnNotice serial index) rest is ok = still x _ ok.rising (λ node. (front_other x (k, OwnNotice serial index) rest is (λ n. refl) node, refl)) ok
front_gone x (k, ForeignNotice node index) rest is ok = record { rising = rising_changed node made_dead (λ h. refl) x.handles ok.rising; as_many = dead_front x k node index rest is ok }
front_gone x (k, ReleaseNotice serial) rest is ok = still x _ ok.rising (λ node. (front_other x (k, ReleaseNotice serial) rest is (λ n. refl) node, refl)) ok

-- slots arrive
at_reference : (b : Bool) (a : Arriving) (with node : NodeRef) → Rising a.part.handles → mark node (reference_by b a with).part.handles ≡ mark node a.part.handles
at_reference true a with node up = same_mark less_flight (λ h. refl) (λ h. refl) with node a.part.handles up
at_reference false a with node up = same_mark (λ g. more_held (next_number a.part.given) (less_flight g)) (λ h. refl) (λ h. refl) with node a.part.handles up

at_slot : (a : Arriving) (with : NodeRef) (s : Slot) (node : NodeRef) → Rising a.part.handles → mark node (slot_arrives a (with, s)).part.handles ≡ mark node a.part.handles
at_slot a with slot.Unattached node up = notice_unexpected node (foreign a.part.me (with ∷ [])) a.part.handles up
at_slot a with slot.Attached node up = at_reference (record_or_none with a.part.handles).dead a with node up
at_slot a with slot.Own node up = refl
at_slot a with slot.Void node up = notice_unexpected node (foreign a.part.me (with ∷ [])) a.part.handles up

-- the part while slots arrive has the queue, and marks as before
pub record SameMarks (x y : PeerPart) : Type 0 where
  pub queue : y.queue ≡ x.queue
  pub rising : Rising y.handles
  pub marks : (node : NodeRef) → mark node y.handles ≡ mark node x.handles

at_slots : (ss : List (NodeRef × Slot)) (a : Arriving) → Rising a.part.handles → SameMarks a.part (fold slot_arrives a ss).part
at_slots [] a up = record { queue = refl; rising = up; marks = λ node. refl }
at_slots ((with, s) ∷ rest) a up =
    let further = at_slots rest (slot_arrives a (with, s)) (slot_rising a with s up) in
    record { queue = further.queue ∙ (slot_rest a with s).queue; rising = further.rising; marks = λ node. further.marks node ∙ at_slot a with s node up }

front_takes : (x : PeerPart) (f : Key × Entry) (rest : Queue) → x.queue ≡ f ∷ rest → MarksOk x → MarksOk (taken_entry (record x { queue = rest }) f.0 f.1).1
front_takes x (k, Message origin user index serial offset len nodes slots handles payload) rest is ok =
    let a = at_slots (zip nodes slots) _ ok.rising in
    still x _ a.rising (λ node. (ap (count (is_notice_for node)) a.queue ∙ front_other x (k, Message origin user index serial offset len nodes slots handles payload) rest is (λ n. refl) node, a.marks node)) ok
front_takes x (k, OwnNotice serial index) rest is ok = still x _ ok.rising (λ node. (front_other x (k, OwnNotice serial index) rest is (λ n. refl) node, refl)) ok
front_takes x (k, ForeignNotice node index) rest is ok = record { rising = rising_changed node made_dead (λ h. refl) x.handles ok.rising; as_many = dead_front x k node index rest is ok }
front_takes x (k, ReleaseNotice serial) rest is ok = still x _ ok.rising (λ node. (front_other x (k, ReleaseNotice serial) rest is (λ n. refl) node, refl)) ok

-- ---- one event

module _ (o : Opening) (memory : Bool) (d : DriverPart) (doing : Doing) (x : PeerPart) (ok : MarksOk x) where
  abbrev after : Action → PeerPart
  after action = (happens o memory d doing action x).1

  by_rest : (action : Action) → AsBefore x.queue x.handles (after action).queue (after action).handles → MarksOk (after action)
  by_rest action same = still x (after action) (records_rise o memory d doing action x ok.rising) same ok

  by_change : (action : Action) → (after action).queue ≡ x.queue → (after action).handles ≡ x.handles → MarksOk (after action)
  by_change action queue handles = by_rest action (λ node. (ap (count (is_notice_for node)) queue, ap (mark node) handles))

  same_handles : (action : Action) → (after action).handles ≡ x.handles → ((node : NodeRef) → count (is_notice_for node) (after action).queue ≡ count (is_notice_for node) x.queue) → MarksOk (after action)
  same_handles action handles counts = by_rest action (λ node. (counts node, ap (mark node) handles))

  found_message : (place : ℕ) (f : Key × Entry) → find_stage x d.me place ≡ Some f → is_data f.1 ≡ true
  found_message place f is = stage_is_message d.me place f (find_has (is_stage d.me place) x.queue f is).1

  pub event_marks : (action : Action) → MarksOk (after action)
  event_marks act.Rest = ok
  event_marks act.Begin = by_change act.Begin (ap (λ y. y.queue) (changes o memory d doing act.Begin x)) (ap (λ y. y.handles) (changes o memory d doing act.Begin x))
  event_marks (act.Stage peer place) = by_rest (act.Stage peer place) (at_stage _ memory _ _ place _ _ _ x ok.rising)
  event_marks (act.Unstage peer place) = by_rest (act.Unstage peer place) (at_unstage (find_stage x d.me place) x d.me place ok.rising)
  event_marks (act.Attach peer serial dest) = by_rest (act.Attach peer serial dest) (at_attach (attach_answer x serial dest) x serial dest)
  event_marks act.Stamp = by_change act.Stamp refl refl
  event_marks (act.Sync peer stamp) = by_change (act.Sync peer stamp) refl refl
  event_marks (act.Commit peer place stamp) = by_rest (act.Commit peer place stamp) (at_commit (find_stage x d.me place) x d.me place stamp (slots_at doing.phase place) (found_message place))
  event_marks (act.CommitNotices peer stamp) = by_rest (act.CommitNotices peer stamp) (at_notices x d.me stamp)
  event_marks act.Recv = received_all MarksOk (λ y is. is.rising) front_gone front_takes x ok
  event_marks act.Reap = by_change act.Reap refl refl
  event_marks act.Release = by_rest act.Release (at_release (is_given (number_of doing.command)) (held_node (number_of doing.command) x.handles) x ok.rising)
  event_marks (act.DropRefs peer serial holder n clock) = by_rest (act.DropRefs peer serial holder n clock) (at_drop (is_released (dropped_refs x serial holder n clock) serial) (dropped_refs x serial holder n clock) serial)
  event_marks act.BeginDestroy = by_rest act.BeginDestroy (at_destroy (begin_refusal doing.command x) (begin_serials doing.command x) x)
  event_marks (act.Visit peer) = at_visit d.me (doomed_of doing.phase) 0 x ok
  event_marks act.StampDestroy = by_change act.StampDestroy (ap (λ y. y.queue) (changes o memory d doing act.StampDestroy x)) (ap (λ y. y.handles) (changes o memory d doing act.StampDestroy x))
  event_marks act.Flush = record { rising = tt; as_many = λ node. refl }
  event_marks act.Local = by_change act.Local (ap (λ y. y.queue) (changes o memory d doing act.Local x)) (ap (λ y. y.handles) (changes o memory d doing act.Local x))
