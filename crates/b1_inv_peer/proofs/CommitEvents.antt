-- What is always so of a part stays where a message or notices are committed, and where a notice comes in or leaves.
use Rattle.std.proofs.Common.{◌≡◌, ◌⊎◌, refl, sym, ap, ◌∙◌, inl, inr, subst, ℕ, ◌+◌, ◌≤◌, Bool, true, false, cond, not, ◌&&◌, List, filter, map, length, Some, None, ◌==◌}
use native.Mathlib.Omega.{arith}
use Rattle.b1_model.specs.declared.naming.Key.{Key}
use Rattle.b1_model.specs.declared.naming.NodeRef.{NodeRef}
use Rattle.b1_model.specs.declared.parts.Slot.{Slot}
use Rattle.b1_model.specs.declared.entries.Entry.{Entry}
use Rattle.b1_model.specs.declared.entries.Entry.TheVariants.{Message, OwnNotice, ForeignNotice, ReleaseNotice}
use Rattle.b1_model.specs.MachineParts.{NodePart, HandleRecord, Slice, is_data, is_staged, is_odd, carried, same_ref, record_of, record_or_none}
use Rattle.b1_model.specs.MachineTables.{put, put_all, without, is_stage, is_staged_notice, changed, made_dead, noticed as with_notice}
use Rattle.b1_model.specs.MachineSend.{with_slots, with_stamp}
use Rattle.b1_step.proofs.Orders.{same_ref_itself}
use Rattle.b1_step.proofs.Queues.{sum_put, without_has}
use Rattle.b1_step.proofs.Lookups.{rising_changed, own_changed, kept_by}
use Rattle.b1_inv_peer.specs.Needs.{AreSlots}
use Rattle.b1_inv_peer.specs.PeerOk.{count, begins_at, times, is_notice_for, is_notice_of, MessageOk, NoticeOk, SliceOk, AreOk}
use Rattle.b1_inv_peer.specs.Changes.{Removes}
use Rattle.b1_inv_peer.proofs.Counts.{one, count_put, count_without_le, sum_without_other, sum_moved}
use Rattle.b1_inv_peer.proofs.RecordFields.{field_stays, same_or_apart, other_record, unneeded_flight, or_none}
use Rattle.b1_inv_peer.proofs.RecordLists.{needed_changed, notice_needs}
use Rattle.b1_inv_peer.proofs.Entries.{all_put, all_moved, message_committed, notice_committed, slice_committed, begins_committed, carried_committed, notice_for_committed, notice_moved, slice_moved, message_none, slice_none, carries_none}

abbrev Queue : Type 0
Queue = List (Key × Entry)

and_false : (b : Bool) → (b && false) ≡ false
and_false true = refl
and_false false = refl

not_true : (b : Bool) → not b ≡ true → b ≡ false
not_true true is = absurd (cc is)
not_true false is = refl

and_parts : (a b : Bool) → (a && b) ≡ true → (a ≡ true) × (b ≡ true)
and_parts true b is = (refl, is)
and_parts false b is = absurd (cc is)

-- a staged notice is no message
pub staged_notice : (origin : ℕ) (f : Key × Entry) → is_staged_notice origin f ≡ true → is_data f.1 ≡ false
staged_notice origin f is = not_true (is_data f.1) (and_parts (not (is_data f.1)) (is_staged f) (and_parts (not (is_data f.1) && is_staged f) (f.0.origin == origin) is).0).0

-- what is no message is no stage, and begins no slice
no_stage : (o i : ℕ) (f : Key × Entry) → is_data f.1 ≡ false → is_stage o i f ≡ false
no_stage o i f is = rw is refl

no_slice : (offset : ℕ) (f : Key × Entry) → is_data f.1 ≡ false → begins_at offset f ≡ false
no_slice offset f is = rw is refl

none_of : (b : Bool) → b ≡ false → one b ≡ 0
none_of b is = ap one is

module _ (me : ℕ) (nodes : List NodePart) (slices : List Slice) (queue : Queue) (handles : List HandleRecord) (ok : AreOk me nodes slices queue handles) where
  -- ---- a message is committed

  module _ (left : Queue) (f : Key × Entry) (gone : Removes queue left f) (new : Key) (slots : List Slot) (even : is_odd new.stamp ≡ false) (are : AreSlots me (length nodes) (carried f.1) slots) where
    stage_over : (o i : ℕ) → one (is_stage o i (new, with_slots slots f.1)) ≡ 0
    stage_over o i = rw even (none_of (((is_data (with_slots slots f.1) && false) && (new.origin == o)) && (new.index == i)) (never (is_data (with_slots slots f.1)) (new.origin == o) (new.index == i)))
      where
        never : (a b c : Bool) → (((a && false) && b) && c) ≡ false
        never true b c = refl
        never false b c = refl

    pub message_is_committed : AreOk me nodes slices (put new (with_slots slots f.1) left) handles
    message_is_committed = record {
      rising = ok.rising;
      needed = ok.needed;
      messages = all_put (MessageOk me (length nodes)) new (with_slots slots f.1) left (message_committed me (length nodes) f.0 new f.1 slots are (ok.messages f gone.was)) (λ g h. ok.messages g (gone.less g h));
      notices = all_put (NoticeOk nodes) new (with_slots slots f.1) left (notice_committed nodes f.0 new f.1 slots (ok.notices f gone.was)) (λ g h. ok.notices g (gone.less g h));
      sliced = all_put (SliceOk slices) new (with_slots slots f.1) left (slice_committed slices f.0 new f.1 slots (ok.sliced f gone.was)) (λ g h. ok.sliced g (gone.less g h));
      apart = λ offset. (let old = ok.apart offset in let whole = gone.sums (λ e. one (begins_at offset e)) in let now = count_put (begins_at offset) new (with_slots slots f.1) left in let same = ap one (begins_committed offset f.0 new f.1 slots) in omega (arith, old, whole, now, same));
      stages = λ o i. (let old = ok.stages o i in let whole = gone.sums (λ e. one (is_stage o i e)) in let now = count_put (is_stage o i) new (with_slots slots f.1) left in let over = stage_over o i in omega (arith, old, whole, now, over));
      flight = λ node other. (let old = ok.flight node other in let whole = gone.sums (λ e. times node (carried e.1)) in let now = sum_put (λ e. times node (carried e.1)) new (with_slots slots f.1) left in let same = ap (times node) (carried_committed slots f.1) in omega (arith, old, whole, now, same));
      noticed = λ node. (let old = ok.noticed node in let whole = gone.sums (λ e. one (is_notice_for node e)) in let now = count_put (is_notice_for node) new (with_slots slots f.1) left in let same = ap one (notice_for_committed node f.0 new f.1 slots) in omega (arith, old, whole, now, same));
    }

  -- ---- notices are committed

  module _ (origin stamp : ℕ) where
    abbrev moved : Queue
    moved = put_all (map (with_stamp stamp) (filter (is_staged_notice origin) queue)) (without (is_staged_notice origin) queue)

    same_count : (test : Key × Entry → Bool) → ((f : Key × Entry) → is_data f.1 ≡ false → test (with_stamp stamp f) ≡ test f) → count test moved ≡ count test queue
    same_count test same = sum_moved (λ e. one (test e)) (is_staged_notice origin) (with_stamp stamp) queue (λ f is. ap one (same f (staged_notice origin f is)))

    pub same_notice_for : (node : NodeRef) (f : Key × Entry) → is_notice_for node (with_stamp stamp f) ≡ is_notice_for node f
    same_notice_for node (k, Message o user index serial offset len carries slots hs payload) = refl
    same_notice_for node (k, OwnNotice serial index) = refl
    same_notice_for node (k, ForeignNotice other index) = refl
    same_notice_for node (k, ReleaseNotice serial) = refl

    pub same_notice_of : (s : ℕ) (f : Key × Entry) → is_notice_of s (with_stamp stamp f) ≡ is_notice_of s f
    same_notice_of s (k, Message o user index serial offset len carries slots hs payload) = refl
    same_notice_of s (k, OwnNotice serial index) = refl
    same_notice_of s (k, ForeignNotice other index) = refl
    same_notice_of s (k, ReleaseNotice serial) = refl

    pub notices_are_committed : AreOk me nodes slices moved handles
    notices_are_committed = record {
      rising = ok.rising;
      needed = ok.needed;
      messages = all_moved (MessageOk me (length nodes)) (is_staged_notice origin) (with_stamp stamp) queue (λ f is was. message_none me (length nodes) (with_stamp stamp f) (staged_notice origin f is)) ok.messages;
      notices = all_moved (NoticeOk nodes) (is_staged_notice origin) (with_stamp stamp) queue (λ f is was. notice_moved nodes stamp f was) ok.notices;
      sliced = all_moved (SliceOk slices) (is_staged_notice origin) (with_stamp stamp) queue (λ f is was. slice_moved slices stamp f was) ok.sliced;
      apart = λ offset. (let old = ok.apart offset in let same = same_count (begins_at offset) (λ f is. no_slice offset (with_stamp stamp f) is ∙ sym (no_slice offset f is)) in omega (arith, old, same));
      stages = λ o i. (let old = ok.stages o i in let same = same_count (is_stage o i) (λ f is. no_stage o i (with_stamp stamp f) is ∙ sym (no_stage o i f is)) in omega (arith, old, same));
      flight = λ node other. (let old = ok.flight node other in let same = sum_moved (λ e. times node (carried e.1)) (is_staged_notice origin) (with_stamp stamp) queue (λ f is. refl) in omega (arith, old, same));
      noticed = λ node. (let old = ok.noticed node in let same = same_count (is_notice_for node) (λ f is. same_notice_for node f) in omega (arith, old, same));
    }

  -- ---- notices of own nodes leave

  module _ (by : Key × Entry → Bool) (no_message : (f : Key × Entry) → by f ≡ true → is_data f.1 ≡ false) where
    pub notices_leave : AreOk me nodes slices (without by queue) handles
    notices_leave = record {
      rising = ok.rising;
      needed = ok.needed;
      messages = λ g h. ok.messages g (without_has by queue g h);
      notices = λ g h. ok.notices g (without_has by queue g h);
      sliced = λ g h. ok.sliced g (without_has by queue g h);
      apart = λ offset. (let old = ok.apart offset in let le = count_without_le (begins_at offset) by queue in omega (arith, old, le));
      stages = λ o i. (let old = ok.stages o i in let le = count_without_le (is_stage o i) by queue in omega (arith, old, le));
      flight = λ node other. (let old = ok.flight node other in let same = sum_without_other (λ e. times node (carried e.1)) by queue (λ f h is. carries_none node f (no_message f is)) in omega (arith, old, same));
      noticed = λ node. (let old = ok.noticed node in let le = count_without_le (is_notice_for node) by queue in omega (arith, old, le));
    }

  module _ (left : Queue) (f : Key × Entry) (gone : Removes queue left f) (is : is_data f.1 ≡ false) where
    pub notice_left : AreOk me nodes slices left handles
    notice_left = record {
      rising = ok.rising;
      needed = ok.needed;
      messages = λ g h. ok.messages g (gone.less g h);
      notices = λ g h. ok.notices g (gone.less g h);
      sliced = λ g h. ok.sliced g (gone.less g h);
      apart = λ offset. (let old = ok.apart offset in let whole = gone.sums (λ e. one (begins_at offset e)) in omega (arith, old, whole));
      stages = λ o i. (let old = ok.stages o i in let whole = gone.sums (λ e. one (is_stage o i e)) in omega (arith, old, whole));
      flight = λ node other. (let old = ok.flight node other in let whole = gone.sums (λ e. times node (carried e.1)) in let none = carries_none node f is in omega (arith, old, whole, none));
      noticed = λ node. (let old = ok.noticed node in let whole = gone.sums (λ e. one (is_notice_for node e)) in omega (arith, old, whole));
    }

  -- ---- a notice of an own node comes in

  module _ (k : Key) (e : Entry) (is : is_data e ≡ false) (none : (node : NodeRef) → is_notice_for node (k, e) ≡ false) (right : NoticeOk nodes (k, e)) where
    pub notice_put : AreOk me nodes slices (put k e queue) handles
    notice_put = record {
      rising = ok.rising;
      needed = ok.needed;
      messages = all_put (MessageOk me (length nodes)) k e queue (message_none me (length nodes) (k, e) is) ok.messages;
      notices = all_put (NoticeOk nodes) k e queue right ok.notices;
      sliced = all_put (SliceOk slices) k e queue (slice_none slices (k, e) is) ok.sliced;
      apart = λ offset. (let old = ok.apart offset in let now = count_put (begins_at offset) k e queue in let no_one = none_of (begins_at offset (k, e)) (no_slice offset (k, e) is) in omega (arith, old, now, no_one));
      stages = λ o i. (let old = ok.stages o i in let now = count_put (is_stage o i) k e queue in let no_one = none_of (is_stage o i (k, e)) (no_stage o i (k, e) is) in omega (arith, old, now, no_one));
      flight = λ node other. (let old = ok.flight node other in let now = sum_put (λ f. times node (carried f.1)) k e queue in let no_one = carries_none node (k, e) is in omega (arith, old, now, no_one));
      noticed = λ node. (let old = ok.noticed node in let now = count_put (is_notice_for node) k e queue in let no_one = none_of (is_notice_for node (k, e)) (none node) in omega (arith, old, now, no_one));
    }

  -- ---- a foreign node's notice leaves, and its record is dead

  module _ (left : Queue) (k : Key) (node : NodeRef) (index : ℕ) (gone : Removes queue left (k, ForeignNotice node index)) where
    dead_notice : (other : NodeRef) → count (is_notice_for other) left ≤ cond (record_or_none other (changed node made_dead handles)).notice 1 0
    dead_notice other = at (same_or_apart node other)
      where
        bit_one : (b : Bool) → cond b 1 0 ≤ 1
        bit_one true = omega arith
        bit_one false = omega arith

        at : (node ≡ other) ⊎ (same_ref node other ≡ false) → count (is_notice_for other) left ≤ cond (record_or_none other (changed node made_dead handles)).notice 1 0
        at (inl e) =
            let old = ok.noticed other in
            let whole = gone.sums (λ g. one (is_notice_for other g)) in
            let mine : one (same_ref node other) ≡ 1 = ap one (ap (same_ref node) (sym e) ∙ same_ref_itself node) in
            let low = bit_one (record_or_none other handles).notice in
            omega (arith, old, whole, mine, low)
        at (inr apart) =
            let old = ok.noticed other in
            let whole = gone.sums (λ g. one (is_notice_for other g)) in
            subst (λ h. count (is_notice_for other) left ≤ cond h.notice 1 0) (sym (other_record node other made_dead (λ h. refl) apart handles)) (omega (arith, old, whole))

    pub foreign_notice_left : AreOk me nodes slices left (changed node made_dead handles)
    foreign_notice_left = record {
      rising = rising_changed node made_dead (λ h. refl) handles ok.rising;
      needed = needed_changed node made_dead handles ok.needed;
      messages = λ g h. ok.messages g (gone.less g h);
      notices = λ g h. ok.notices g (gone.less g h);
      sliced = λ g h. ok.sliced g (gone.less g h);
      apart = λ offset. (let old = ok.apart offset in let whole = gone.sums (λ e. one (begins_at offset e)) in omega (arith, old, whole));
      stages = λ o i. (let old = ok.stages o i in let whole = gone.sums (λ e. one (is_stage o i e)) in omega (arith, old, whole));
      flight = λ other far. (let old = ok.flight other far in let whole = gone.sums (λ e. times other (carried e.1)) in let same = field_stays (λ h. h.flight) 0 unneeded_flight (λ m. refl) made_dead (λ h. refl) (λ h. refl) node other handles ok.rising in omega (arith, old, whole, same));
      noticed = dead_notice;
    }

  -- ---- a foreign node's notice comes in, and its record tells so

  module _ (k : Key) (node : NodeRef) (index : ℕ) (h : HandleRecord) (found : record_of node handles ≡ Some h) (fresh : h.notice ≡ false) where
    told : (record_or_none node (changed node with_notice handles)).notice ≡ true
    told =
        ap (λ o. (or_none node o).notice) (own_changed node with_notice (λ g. refl) handles ok.rising ∙ ap (kept_by with_notice) found)
        ∙ ap (λ b. (or_none node (cond b (Some (with_notice h)) None)).notice) (notice_needs h)

    new_notice : (other : NodeRef) → one (same_ref node other) + count (is_notice_for other) queue ≤ cond (record_or_none other (changed node with_notice handles)).notice 1 0
    new_notice other = at (same_or_apart node other)
      where
        at : (node ≡ other) ⊎ (same_ref node other ≡ false) → one (same_ref node other) + count (is_notice_for other) queue ≤ cond (record_or_none other (changed node with_notice handles)).notice 1 0
        at (inl e) =
            subst (λ m. one (same_ref node m) + count (is_notice_for m) queue ≤ cond (record_or_none m (changed node with_notice handles)).notice 1 0) e
            (let old = ok.noticed node in
            let none : one (record_or_none node handles).notice ≡ 0 = ap (λ o. one (or_none node o).notice) found ∙ ap one fresh in
            let mine : one (same_ref node node) ≡ 1 = ap one (same_ref_itself node) in
            let now : one (record_or_none node (changed node with_notice handles)).notice ≡ 1 = ap one told in
            omega (arith, old, none, mine, now))
        at (inr apart) =
            subst (λ g. one (same_ref node other) + count (is_notice_for other) queue ≤ cond g.notice 1 0) (sym (other_record node other with_notice (λ g. refl) apart handles))
            (let old = ok.noticed other in let none = none_of (same_ref node other) apart in omega (arith, old, none))

    pub foreign_notice_put : AreOk me nodes slices (put k (ForeignNotice node index) queue) (changed node with_notice handles)
    foreign_notice_put = record {
      rising = rising_changed node with_notice (λ g. refl) handles ok.rising;
      needed = needed_changed node with_notice handles ok.needed;
      messages = all_put (MessageOk me (length nodes)) k (ForeignNotice node index) queue tt ok.messages;
      notices = all_put (NoticeOk nodes) k (ForeignNotice node index) queue tt ok.notices;
      sliced = all_put (SliceOk slices) k (ForeignNotice node index) queue tt ok.sliced;
      apart = λ offset. (let old = ok.apart offset in let now = count_put (begins_at offset) k (ForeignNotice node index) queue in omega (arith, old, now));
      stages = λ o i. (let old = ok.stages o i in let now = count_put (is_stage o i) k (ForeignNotice node index) queue in omega (arith, old, now));
      flight = λ other far. (let old = ok.flight other far in let now = sum_put (λ f. times other (carried f.1)) k (ForeignNotice node index) queue in let same = field_stays (λ g. g.flight) 0 unneeded_flight (λ m. refl) with_notice (λ g. refl) (λ g. refl) node other handles ok.rising in omega (arith, old, now, same));
      noticed = λ other. (let now = count_put (is_notice_for other) k (ForeignNotice node index) queue in let le = new_notice other in omega (arith, now, le));
    }
