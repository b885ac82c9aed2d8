-- One entry of a queue: what it keeps where nodes, slices or its key change.
use Rattle.std.proofs.Common.{◌≡◌, ◌⊎◌, refl, sym, ◌∙◌, inl, inr, subst, ℕ, ◌≤◌, ◌<◌, Bool, true, false, List, [], ◌∷◌, filter, map, length, get_or, Some, ◌==◌}
use Rattle.std.proofs.lemmas.Bool.{eqb-true, eq-eqb}
use native.Mathlib.Omega.{arith}
use Rattle.b1_model.specs.declared.naming.Key.{Key}
use Rattle.b1_model.specs.declared.naming.NodeRef.{NodeRef}
use Rattle.b1_model.specs.declared.parts.Slot.{Slot}
use Rattle.b1_model.specs.declared.parts.Slot.TheVariants as slot
use Rattle.b1_model.specs.declared.entries.Entry.{Entry}
use Rattle.b1_model.specs.declared.entries.Entry.TheVariants.{Message, OwnNotice, ForeignNotice, ReleaseNotice}
use Rattle.b1_model.specs.declared.tables.Usage.TheVariants.{Unpublished}
use Rattle.b1_model.specs.MachineParts.{NodePart, Slice, is_data, is_live, no_node, carried}
use Rattle.b1_model.specs.MachinePool.{slice_at, slice_len}
use Rattle.b1_model.specs.MachineTables.{put, put_all, without, is_unheld}
use Rattle.b1_model.specs.MachineSend.{with_slots, with_stamp}
use Rattle.b1_step.specs.Rights.{Has}
use Rattle.b1_step.proofs.Queues.{put_has, put_all_has, without_has}
use Rattle.b1_step.proofs.Lists.{has_map, filter_has}
use Rattle.b1_inv_peer.specs.Needs.{IsSlot, AreSlots}
use Rattle.b1_inv_peer.specs.PeerOk.{begins_at, times, is_notice_for, is_notice_of, MessageOk, NoticeOk, SliceOk}
use Rattle.b1_inv_peer.specs.Changes.{KeepsOthers, Takes}

abbrev Queue : Type 0
Queue = List (Key × Entry)

-- ---- a fact of every entry

module _ (P : Key × Entry → Type 0) where
  pub all_put : (k : Key) (e : Entry) (queue : Queue) → P (k, e) → ((f : Key × Entry) → Has queue f → P f) → (f : Key × Entry) → Has (put k e queue) f → P f
  all_put k e queue new all f h = elim (put_has k e queue f h) [ inl same ↦ subst P (sym same) new | inr old ↦ all f old ]

  pub all_moved : (by : Key × Entry → Bool) (move : Key × Entry → Key × Entry) (queue : Queue) → ((f : Key × Entry) → by f ≡ true → P f → P (move f)) → ((f : Key × Entry) → Has queue f → P f) → (f : Key × Entry) → Has (put_all (map move (filter by queue)) (without by queue)) f → P f
  all_moved by move queue moves all f h = at (put_all_has (map move (filter by queue)) (without by queue) f h)
    where
      at : Has (map move (filter by queue)) f ⊎ Has (without by queue) f → P f
      at (inl new) =
          let from = has_map move (filter by queue) f new in
          let old = filter_has by queue from.0 from.1 in
          subst P (sym from.2) (moves from.0 old.1 (all from.0 old.0))
      at (inr stays) = all f (without_has by queue f stays)

-- ---- slots and messages

slot_more : (me made more : ℕ) (node : NodeRef) (s : Slot) → made ≤ more → IsSlot me made node s → IsSlot me more node s
slot_more me made more node slot.Unattached le is = is
slot_more me made more node slot.Attached le is = is
slot_more me made more node slot.Own le is = (is.0, (let low = is.1 in omega (arith, low, le)))
slot_more me made more node slot.Void le is = is

slots_more : (me made more : ℕ) (nodes : List NodeRef) (slots : List Slot) → made ≤ more → AreSlots me made nodes slots → AreSlots me more nodes slots
slots_more me made more [] [] le are = are
slots_more me made more [] (s ∷ slots) le are = are
slots_more me made more (node ∷ nodes) [] le are = are
slots_more me made more (node ∷ nodes) (s ∷ slots) le are = (slot_more me made more node s le are.0, slots_more me made more nodes slots le are.1)

pub slots_as_many : (me made : ℕ) (nodes : List NodeRef) (slots : List Slot) → AreSlots me made nodes slots → length slots ≡ length nodes
slots_as_many me made [] [] are = refl
slots_as_many me made [] (s ∷ slots) are = absurd are
slots_as_many me made (node ∷ nodes) [] are = absurd are
slots_as_many me made (node ∷ nodes) (s ∷ slots) are = let further = slots_as_many me made nodes slots are.1 in omega (arith, further)

pub message_more : (me made more : ℕ) (f : Key × Entry) → made ≤ more → MessageOk me made f → MessageOk me more f
message_more me made more (k, Message origin user index serial offset len nodes slots handles payload) le is =
    record { there = (let low = is.there in omega (arith, low, le)); as_long = is.as_long; short = is.short; few = is.few; as_many = is.as_many; known = λ committed. slots_more me made more nodes slots le (is.known committed) }
message_more me made more (k, OwnNotice serial index) le is = is
message_more me made more (k, ForeignNotice node index) le is = is
message_more me made more (k, ReleaseNotice serial) le is = is

pub message_committed : (me made : ℕ) (k new : Key) (e : Entry) (slots : List Slot) → AreSlots me made (carried e) slots → MessageOk me made (k, e) → MessageOk me made (new, with_slots slots e)
message_committed me made k new (Message origin user index serial offset len nodes old handles payload) slots are is =
    record { there = is.there; as_long = is.as_long; short = is.short; few = is.few; as_many = slots_as_many me made nodes slots are; known = λ committed. are }
message_committed me made k new (OwnNotice serial index) slots are is = is
message_committed me made k new (ForeignNotice node index) slots are is = is
message_committed me made k new (ReleaseNotice serial) slots are is = is

-- ---- what doesn't rest on the key or on the slots

pub notice_committed : (nodes : List NodePart) (k new : Key) (e : Entry) (slots : List Slot) → NoticeOk nodes (k, e) → NoticeOk nodes (new, with_slots slots e)
notice_committed nodes k new (Message origin user index serial offset len carries old handles payload) slots is = is
notice_committed nodes k new (OwnNotice serial index) slots is = is
notice_committed nodes k new (ForeignNotice node index) slots is = is
notice_committed nodes k new (ReleaseNotice serial) slots is = is

pub slice_committed : (slices : List Slice) (k new : Key) (e : Entry) (slots : List Slot) → SliceOk slices (k, e) → SliceOk slices (new, with_slots slots e)
slice_committed slices k new (Message origin user index serial offset len carries old handles payload) slots is = is
slice_committed slices k new (OwnNotice serial index) slots is = is
slice_committed slices k new (ForeignNotice node index) slots is = is
slice_committed slices k new (ReleaseNotice serial) slots is = is

pub data_committed : (slots : List Slot) (e : Entry) → is_data (with_slots slots e) ≡ is_data e
data_committed slots (Message origin user index serial offset len carries old handles payload) = refl
data_committed slots (OwnNotice serial index) = refl
data_committed slots (ForeignNotice node index) = refl
data_committed slots (ReleaseNotice serial) = refl

pub begins_committed : (offset : ℕ) (k new : Key) (e : Entry) (slots : List Slot) → begins_at offset (new, with_slots slots e) ≡ begins_at offset (k, e)
begins_committed offset k new (Message origin user index serial at len carries old handles payload) slots = refl
begins_committed offset k new (OwnNotice serial index) slots = refl
begins_committed offset k new (ForeignNotice node index) slots = refl
begins_committed offset k new (ReleaseNotice serial) slots = refl

pub carried_committed : (slots : List Slot) (e : Entry) → carried (with_slots slots e) ≡ carried e
carried_committed slots (Message origin user index serial at len carries old handles payload) = refl
carried_committed slots (OwnNotice serial index) = refl
carried_committed slots (ForeignNotice node index) = refl
carried_committed slots (ReleaseNotice serial) = refl

pub notice_for_committed : (node : NodeRef) (k new : Key) (e : Entry) (slots : List Slot) → is_notice_for node (new, with_slots slots e) ≡ is_notice_for node (k, e)
notice_for_committed node k new (Message origin user index serial at len carries old handles payload) slots = refl
notice_for_committed node k new (OwnNotice serial index) slots = refl
notice_for_committed node k new (ForeignNotice other index) slots = refl
notice_for_committed node k new (ReleaseNotice serial) slots = refl

pub notice_of_committed : (s : ℕ) (k new : Key) (e : Entry) (slots : List Slot) → is_notice_of s (new, with_slots slots e) ≡ is_notice_of s (k, e)
notice_of_committed s k new (Message origin user index serial at len carries old handles payload) slots = refl
notice_of_committed s k new (OwnNotice serial index) slots = refl
notice_of_committed s k new (ForeignNotice other index) slots = refl
notice_of_committed s k new (ReleaseNotice serial) slots = refl

-- a notice under another key
pub notice_moved : (nodes : List NodePart) (stamp : ℕ) (f : Key × Entry) → NoticeOk nodes f → NoticeOk nodes (with_stamp stamp f)
notice_moved nodes stamp (k, Message origin user index serial offset len carries old handles payload) is = is
notice_moved nodes stamp (k, OwnNotice serial index) is = is
notice_moved nodes stamp (k, ForeignNotice node index) is = is
notice_moved nodes stamp (k, ReleaseNotice serial) is = is

pub slice_moved : (slices : List Slice) (stamp : ℕ) (f : Key × Entry) → SliceOk slices f → SliceOk slices (with_stamp stamp f)
slice_moved slices stamp (k, Message origin user index serial offset len carries old handles payload) is = is
slice_moved slices stamp (k, OwnNotice serial index) is = is
slice_moved slices stamp (k, ForeignNotice node index) is = is
slice_moved slices stamp (k, ReleaseNotice serial) is = is

-- an entry that is no message is right as a message, and nothing of the kind
pub message_none : (me made : ℕ) (f : Key × Entry) → is_data f.1 ≡ false → MessageOk me made f
message_none me made (k, Message origin user index serial offset len carries old handles payload) is = absurd (cc is)
message_none me made (k, OwnNotice serial index) is = tt
message_none me made (k, ForeignNotice node index) is = tt
message_none me made (k, ReleaseNotice serial) is = tt

pub slice_none : (slices : List Slice) (f : Key × Entry) → is_data f.1 ≡ false → SliceOk slices f
slice_none slices (k, Message origin user index serial offset len carries old handles payload) is = absurd (cc is)
slice_none slices (k, OwnNotice serial index) is = tt
slice_none slices (k, ForeignNotice node index) is = tt
slice_none slices (k, ReleaseNotice serial) is = tt

pub carries_none : (node : NodeRef) (f : Key × Entry) → is_data f.1 ≡ false → times node (carried f.1) ≡ 0
carries_none node (k, Message origin user index serial offset len carries old handles payload) is = absurd (cc is)
carries_none node (k, OwnNotice serial index) is = refl
carries_none node (k, ForeignNotice other index) is = refl
carries_none node (k, ReleaseNotice serial) is = refl

pub notice_for_none : (node : NodeRef) (f : Key × Entry) → is_data f.1 ≡ true → is_notice_for node f ≡ false
notice_for_none node (k, Message origin user index serial offset len carries old handles payload) is = refl
notice_for_none node (k, OwnNotice serial index) is = refl
notice_for_none node (k, ForeignNotice other index) is = absurd (cc is)
notice_for_none node (k, ReleaseNotice serial) is = refl

pub notice_of_none : (s : ℕ) (f : Key × Entry) → is_data f.1 ≡ true → is_notice_of s f ≡ false
notice_of_none s (k, Message origin user index serial offset len carries old handles payload) is = refl
notice_of_none s (k, OwnNotice serial index) is = absurd (cc is)
notice_of_none s (k, ForeignNotice other index) is = refl
notice_of_none s (k, ReleaseNotice serial) is = absurd (cc is)

pub notice_any : (nodes : List NodePart) (f : Key × Entry) → is_data f.1 ≡ true → NoticeOk nodes f
notice_any nodes (k, Message origin user index serial offset len carries old handles payload) is = tt
notice_any nodes (k, OwnNotice serial index) is = absurd (cc is)
notice_any nodes (k, ForeignNotice other index) is = tt
notice_any nodes (k, ReleaseNotice serial) is = absurd (cc is)

-- ---- nodes change

-- the node of an entry's notice is as it was
pub notice_same : (old new : List NodePart) (f : Key × Entry) → length old ≤ length new → ((s : ℕ) → is_notice_of s f ≡ true → s < length old → (is_live (get_or new s no_node).state ≡ is_live (get_or old s no_node).state) × (is_unheld (get_or new s no_node) ≡ is_unheld (get_or old s no_node))) → NoticeOk old f → NoticeOk new f
notice_same old new (k, Message origin user index serial offset len carries slots handles payload) le same is = is
notice_same old new (k, OwnNotice serial index) le same is =
    let facts = same serial (eq-eqb serial serial refl) is.0 in
    ((let low = is.0 in omega (arith, low, le)), facts.0 ∙ is.1)
notice_same old new (k, ForeignNotice node index) le same is = is
notice_same old new (k, ReleaseNotice serial) le same is =
    let facts = same serial (eq-eqb serial serial refl) is.0 in
    ((let low = is.0 in omega (arith, low, le)), facts.0 ∙ is.1, facts.1 ∙ is.2)

-- ---- slices change

pub slice_kept : (here : ℕ) (old new : List Slice) (f : Key × Entry) → KeepsOthers here old new → begins_at here f ≡ false → SliceOk old f → SliceOk new f
slice_kept here old new (k, Message origin user index serial offset len carries slots handles payload) keeps apart is = keeps offset _ is refl (λ same. absurd (cc (sym apart ∙ eq-eqb offset here same)))
slice_kept here old new (k, OwnNotice serial index) keeps apart is = is
slice_kept here old new (k, ForeignNotice node index) keeps apart is = is
slice_kept here old new (k, ReleaseNotice serial) keeps apart is = is

-- a queued message has no free slice
pub slice_not_free : (here len : ℕ) (old new : List Slice) (f : Key × Entry) → Takes here len old new → SliceOk old f → begins_at here f ≡ false
slice_not_free here len old new (k, Message origin user index serial offset size carries slots handles payload) takes is = at (offset == here) refl
  where
    at : (b : Bool) → (offset == here) ≡ b → (offset == here) ≡ false
    at false apart = apart
    at true same =
        let e : offset ≡ here = eqb-true offset here same in
        let mine : Slice = record { offset = offset; len = slice_len size (length carries); usage = Unpublished } in
        let freed : false ≡ true = takes.was_free mine (subst (λ o. slice_at o old ≡ Some mine) e is) in
        absurd (cc freed)
slice_not_free here len old new (k, OwnNotice serial index) takes is = refl
slice_not_free here len old new (k, ForeignNotice node index) takes is = refl
slice_not_free here len old new (k, ReleaseNotice serial) takes is = refl
