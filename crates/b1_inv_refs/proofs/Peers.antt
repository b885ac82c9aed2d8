-- What a part has of a node after each event, where the event leaves it.
use Rattle.std.proofs.Common.{◌≡◌, refl, ap, ◌∙◌, ℕ, ◌+◌, ◌-◌, ◌==◌, Bool, true, false, cond, ◌&&◌, List, [], ◌∷◌, map, Option, Some, None, length}
use Rattle.std.proofs.lemmas.Bool.{and_parts}
use native.Mathlib.Omega.{arith}
use Rattle.b1_model.specs.declared.naming.Key.{Key}
use Rattle.b1_model.specs.declared.naming.NodeRef.{NodeRef}
use Rattle.b1_model.specs.declared.parts.Attach.{Attach}
use Rattle.b1_model.specs.declared.parts.Attach.TheVariants as attach
use Rattle.b1_model.specs.declared.parts.Slot.{Slot}
use Rattle.b1_model.specs.declared.parts.Slot.TheVariants as slot
use Rattle.b1_model.specs.declared.entries.Entry.{Entry}
use Rattle.b1_model.specs.declared.entries.Entry.TheVariants.{Message, OwnNotice, ForeignNotice, ReleaseNotice}
use Rattle.b1_model.specs.declared.answers.Reason.{Reason}
use Rattle.b1_model.specs.MachineParts.{PeerPart, is_staged, is_data, carried, is_odd}
use Rattle.b1_model.specs.MachineTables.{without, is_stage, noticed, foreign}
use Rattle.b1_model.specs.MachinePool.{slice_len, taken_offset}
use Rattle.b1_model.specs.MachineSend.{find_stage, unstaged_by, attached_by, committed_by, with_slots, notices_committed}
use Rattle.b1_model.specs.MachineReceive.{with_release_notice, dropped_refs}
use Rattle.b1_model.specs.MachineDestroy.{needs_notice, notice_by, visited_from}
use Rattle.b1_model.specs.MachineEvents.{stage_by, destroy_by}
use Rattle.b1_model.specs.MachineCounts.{queue_amount, dead_amount, peer_amount}
use Rattle.b1_step.specs.Ordered.{Rising}
use Rattle.b1_step.proofs.Lookups.{rising_changed}
use Rattle.b1_step.proofs.Orders.{find_has}
use Rattle.b1_inv_refs.proofs.Amounts.{entry_amount, notice_none, staged_none, queue_put, queue_left, slots_amount, slots_unattached}
use Rattle.b1_inv_refs.proofs.Views.{held_same, held_expected, held_unexpected}
use Rattle.b1_inv_refs.proofs.Weights.{release_left, release_queued, own_notices, visit_queued, notices_restamped}
use Rattle.b1_inv_refs.proofs.Arrivals.{held_in}

-- a staged message of a place is staged, and a message
pub stage_is_staged : (origin index : ℕ) (f : Key × Entry) → is_stage origin index f ≡ true → is_staged f ≡ true
stage_is_staged origin index f is = (and_parts (is_data f.1) (is_staged f) (and_parts (is_data f.1 && is_staged f) (f.0.origin == origin) (and_parts (is_data f.1 && is_staged f && (f.0.origin == origin)) (f.0.index == index) is).0).0).1

pub stage_is_message : (origin index : ℕ) (f : Key × Entry) → is_stage origin index f ≡ true → is_data f.1 ≡ true
stage_is_message origin index f is = (and_parts (is_data f.1) (is_staged f) (and_parts (is_data f.1 && is_staged f) (f.0.origin == origin) (and_parts (is_data f.1 && is_staged f && (f.0.origin == origin)) (f.0.index == index) is).0).0).0

module _ (node : NodeRef) where
  -- a part has as much of the node as another
  abbrev Same : PeerPart → PeerPart → Type 0
  Same x y = peer_amount node x ≡ peer_amount node y

  pub same_amount : (x y : PeerPart) → y.handles ≡ x.handles → y.queue ≡ x.queue → y.dead ≡ x.dead → Same x y
  same_amount x y handles queue dead =
      let one = ap (held_in node) handles in
      let two = ap (queue_amount node) queue in
      let three = ap (dead_amount node) dead in
      omega (arith, one, two, three)

  none_either : (b : Bool) (n : ℕ) → n ≡ 0 → cond b 0 n ≡ 0
  none_either true n is = refl
  none_either false n is = is

  module _ (x : PeerPart) (up : Rising x.handles) where
    pub stage_amount : (r : Option Reason) (memory : Bool) (origin user place serial : ℕ) (payload : List ℕ) (nodes : List NodeRef) → Same x (stage_by r memory origin user place serial payload nodes x).1
    stage_amount (Some r) memory origin user place serial payload nodes = refl
    stage_amount None true origin user place serial payload nodes = refl
    stage_amount None false origin user place serial payload nodes =
        let one = held_expected node (foreign x.me nodes) x.handles up in
        let k : Key = record { stamp = x.clock + 1; origin = origin; index = place } in
        let e : Entry = Message origin user place serial (taken_offset (slice_len (length payload) (length nodes)) x.slices) (length payload) nodes (map (λ n. slot.Unattached) nodes) [] payload in
        let two : queue_amount node (stage_by None false origin user place serial payload nodes x).1.queue ≡ entry_amount node (k, e) + queue_amount node x.queue = queue_put node k e x.queue in
        let three : entry_amount node (k, e) ≡ 0 = none_either (is_staged (k, e)) (slots_amount node nodes (map (λ n. slot.Unattached) nodes)) (slots_unattached node nodes) in
        omega (arith, one, two, three)

    pub unstage_amount : (f : Option (Key × Entry)) (origin index : ℕ) → Same x (unstaged_by f x origin index)
    unstage_amount None origin index = refl
    unstage_amount (Some f) origin index =
        let one = held_unexpected node (foreign x.me (carried f.1)) x.handles up in
        let two = queue_left node (is_stage origin index) x.queue (λ g is. staged_none node g (stage_is_staged origin index g is)) in
        omega (arith, one, two)

    pub attach_amount : (a : Attach) (serial dest : ℕ) → Same x (attached_by a x serial dest)
    attach_amount attach.Counted serial dest = let one = release_left (entry_amount node) (notice_none node) serial x.queue in omega (arith, one)
    attach_amount attach.Own serial dest = refl
    attach_amount (attach.Void stamp) serial dest = refl

    pub drop_amount : (b : Bool) (serial holder k clock : ℕ) → Same x (with_release_notice b (dropped_refs x serial holder k clock) serial)
    drop_amount false serial holder k clock = refl
    drop_amount true serial holder k clock = let one = release_queued (entry_amount node) (notice_none node) true (dropped_refs x serial holder k clock) serial in omega (arith, one)

    pub destroy_amount : (r : Option Reason) (doomed : List ℕ) → Same x (destroy_by r doomed x).1
    destroy_amount (Some r) doomed = refl
    destroy_amount None doomed = let one = own_notices (entry_amount node) (notice_none node) x 0 doomed x.queue in omega (arith, one)

    pub notices_amount : (origin stamp : ℕ) → Same x (notices_committed x origin stamp)
    notices_amount origin stamp = let one = notices_restamped (entry_amount node) (notice_none node) x origin stamp in omega (arith, one)

    visit_rest : (doomed : List ℕ) (origin index : ℕ) (y : PeerPart) → Rising y.handles → (held_in node (visited_from origin index doomed y).handles ≡ held_in node y.handles) × ((visited_from origin index doomed y).dead ≡ y.dead)
    visit_rest [] origin index y rises = (refl, refl)
    visit_rest (serial ∷ rest) origin index y rises = at (needs_notice y (record { owner = origin; serial = serial })) (visit_rest rest origin (index + 1))
      where
        at : (b : Bool) → ((z : PeerPart) → Rising z.handles → (held_in node (visited_from origin (index + 1) rest z).handles ≡ held_in node z.handles) × ((visited_from origin (index + 1) rest z).dead ≡ z.dead))
            → (held_in node (visited_from origin (index + 1) rest (notice_by b origin y index (record { owner = origin; serial = serial }))).handles ≡ held_in node y.handles) × ((visited_from origin (index + 1) rest (notice_by b origin y index (record { owner = origin; serial = serial }))).dead ≡ y.dead)
        at false further = further y rises
        at true further =
            let k = further (notice_by true origin y index (record { owner = origin; serial = serial })) (rising_changed (record { owner = origin; serial = serial }) noticed (λ h. refl) y.handles rises) in
            (k.0 ∙ held_same noticed (λ h. refl) (λ h. refl) (record { owner = origin; serial = serial }) node y.handles rises, k.1)

    pub visit_amount : (doomed : List ℕ) (origin : ℕ) → Same x (visited_from origin 0 doomed x)
    visit_amount doomed origin =
        let k = visit_rest doomed origin 0 x up in
        let one = k.0 in
        let two = visit_queued (entry_amount node) (notice_none node) doomed origin 0 x in
        let three = ap (dead_amount node) k.1 in
        omega (arith, one, two, three)

    -- a commit brings the slots of the message that it finds
    slots_in : (stamp origin index : ℕ) (slots : List Slot) (e : Entry) → is_data e ≡ true → is_odd stamp ≡ false → entry_amount node (record { stamp = stamp; origin = origin; index = index }, with_slots slots e) ≡ slots_amount node (carried e) slots
    slots_in stamp origin index slots (Message from user place serial offset len nodes old handles payload) is even = rw even refl
    slots_in stamp origin index slots (OwnNotice serial at) is even = absurd (cc is)
    slots_in stamp origin index slots (ForeignNotice other at) is even = absurd (cc is)
    slots_in stamp origin index slots (ReleaseNotice serial) is even = absurd (cc is)

    pub commit_amount : (f : Key × Entry) (origin index stamp : ℕ) (slots : List Slot) → find_stage x origin index ≡ Some f → is_odd stamp ≡ false → peer_amount node (committed_by (Some f) x origin index stamp slots) ≡ peer_amount node x + slots_amount node (carried f.1) slots
    commit_amount f origin index stamp slots found even =
        let one = queue_put node (record { stamp = stamp; origin = origin; index = index }) (with_slots slots f.1) (without (is_stage origin index) x.queue) in
        let two = queue_left node (is_stage origin index) x.queue (λ g is. staged_none node g (stage_is_staged origin index g is)) in
        let three = slots_in stamp origin index slots f.1 (stage_is_message origin index f (find_has (is_stage origin index) x.queue f found).1) even in
        omega (arith, one, two, three)
