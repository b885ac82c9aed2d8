-- What is always so of a part stays where a message comes in, is committed or leaves, and where notices are committed.
use Rattle.std.proofs.Common.{◌≡◌, refl, sym, ap, ◌∙◌, inl, inr, subst, ℕ, ◌+◌, ◌≤◌, ◌<◌, Bool, true, false, cond, ◌&&◌, List, [], ◌∷◌, find, map, length, Some, None, ◌==◌}
use Rattle.std.proofs.lemmas.Bool.{eqb-true, eq-eqb}
use Rattle.std.proofs.lemmas.List.Sums.{sum_by-cons}
use native.Mathlib.Omega.{arith}
use Rattle.b1_model.specs.declared.limits.TheConstants.{MOST_HANDLES, MOST_PAYLOAD}
use Rattle.b1_model.specs.declared.naming.Key.{Key}
use Rattle.b1_model.specs.declared.naming.NodeRef.{NodeRef}
use Rattle.b1_model.specs.declared.parts.Slot.TheVariants.{Unattached}
use Rattle.b1_model.specs.declared.entries.Entry.{Entry}
use Rattle.b1_model.specs.declared.entries.Entry.TheVariants.{Message}
use Rattle.b1_model.specs.MachineParts.{NodePart, HandleRecord, Slice, is_data, is_odd, carried}
use Rattle.b1_model.specs.MachinePool.{slice_len}
use Rattle.b1_model.specs.MachineTables.{put, without, is_stage, expected, foreign}
use Rattle.b1_model.specs.MachineSend.{offset_of}
use Rattle.b1_step.specs.Rights.{Has}
use Rattle.b1_step.proofs.Orders.{find_has}
use Rattle.b1_step.proofs.Queues.{sum_put, without_has}
use Rattle.b1_inv_peer.specs.PeerOk.{count, begins_at, times, is_notice_for, MessageOk, NoticeOk, SliceOk, AreOk}
use Rattle.b1_inv_peer.specs.Changes.{KeepsOthers, Takes, Removes, LessFlight}
use Rattle.b1_inv_peer.proofs.Counts.{one, count_put, none_count, count_none, none_found, sum_found}
use Rattle.b1_inv_peer.proofs.RecordFields.{flight_expected, rising_expected, notice_expected, times_foreign}
use Rattle.b1_inv_peer.proofs.RecordLists.{needed_expected}
use Rattle.b1_inv_peer.proofs.Entries.{all_put, slice_kept, slice_not_free}

abbrev Queue : Type 0
Queue = List (Key × Entry)

-- ---- an entry that leaves a queue

pub removes_front : (f : Key × Entry) (rest : Queue) → Removes (f ∷ rest) rest f
removes_front f rest = record { was = inl refl; less = λ g h. inr h; sums = λ size. sym (sum_by-cons size f rest) }

pub removes_found : (test : Key × Entry → Bool) (queue : Queue) (f : Key × Entry) → count test queue ≤ 1 → find test queue ≡ Some f → Removes queue (without test queue) f
removes_found test queue f few is = record { was = (find_has test queue f is).0; less = λ g h. without_has test queue g h; sums = λ size. sum_found size test queue f few is }

-- ---- a message leaves

module _ (me : ℕ) (nodes : List NodePart) (slices : List Slice) (queue : Queue) (handles : List HandleRecord) (ok : AreOk me nodes slices queue handles) where
  module _ (left : Queue) (f : Key × Entry) (gone : Removes queue left f) (is : is_data f.1 ≡ true) where
    -- none that is left has its slice
    pub left_apart : (g : Key × Entry) → Has left g → begins_at (offset_of f.1) g ≡ false
    left_apart g h =
        let whole = gone.sums (λ e. one (begins_at (offset_of f.1) e)) in
        let few = ok.apart (offset_of f.1) in
        let mine : one (begins_at (offset_of f.1) f) ≡ 1 = ap one (ap (λ b. b && (offset_of f.1 == offset_of f.1)) is ∙ eq-eqb (offset_of f.1) (offset_of f.1) refl) in
        count_none (begins_at (offset_of f.1)) left (omega (arith, whole, few, mine)) g h

    fewer : (test : Key × Entry → Bool) → count test left ≤ count test queue
    fewer test = let whole = gone.sums (λ e. one (test e)) in omega (arith, whole)

    pub message_left : (new_slices : List Slice) (new_handles : List HandleRecord) → KeepsOthers (offset_of f.1) slices new_slices → LessFlight me (carried f.1) handles new_handles → AreOk me nodes new_slices left new_handles
    message_left new_slices new_handles keeps less = record {
      rising = less.rising;
      needed = less.needed;
      messages = λ g h. ok.messages g (gone.less g h);
      notices = λ g h. ok.notices g (gone.less g h);
      sliced = λ g h. slice_kept (offset_of f.1) slices new_slices g keeps (left_apart g h) (ok.sliced g (gone.less g h));
      apart = λ offset. (let old = ok.apart offset in let le = fewer (begins_at offset) in omega (arith, old, le));
      stages = λ origin index. (let old = ok.stages origin index in let le = fewer (is_stage origin index) in omega (arith, old, le));
      flight = λ node other. (let old = ok.flight node other in let whole = gone.sums (λ e. times node (carried e.1)) in let now = less.flight node other in omega (arith, old, whole, now));
      noticed = λ node. subst (λ b. count (is_notice_for node) left ≤ cond b 1 0) (sym (less.notice node)) (let old = ok.noticed node in let le = fewer (is_notice_for node) in omega (arith, old, le));
    }

  -- ---- a message is staged

  module _ (k : Key) (origin user index serial here : ℕ) (payload : List ℕ) (carries : List NodeRef) (new_slices : List Slice)
      (odd : is_odd k.stamp ≡ true) (made : serial < length nodes) (short : length payload ≤ MOST_PAYLOAD) (few : length carries ≤ MOST_HANDLES)
      (unstaged : find (is_stage k.origin k.index) queue ≡ None) (takes : Takes here (slice_len (length payload) (length carries)) slices new_slices) where
    abbrev staged_message : Entry
    staged_message = Message origin user index serial here (length payload) carries (map (λ node. Unattached) carries) [] payload

    length_unattached : (nodes : List NodeRef) → length (map (λ node. Unattached) nodes) ≡ length nodes
    length_unattached [] = refl
    length_unattached (node ∷ rest) = let further = length_unattached rest in omega (arith, further)

    one_slice : (offset : ℕ) → one (begins_at offset (k, staged_message)) + count (begins_at offset) queue ≤ 1
    one_slice offset = at (here == offset) refl
      where
        at : (b : Bool) → (here == offset) ≡ b → one (begins_at offset (k, staged_message)) + count (begins_at offset) queue ≤ 1
        at true is =
            let same : here ≡ offset = eqb-true here offset is in
            let none : count (begins_at offset) queue ≡ 0 = subst (λ o. count (begins_at o) queue ≡ 0) same (none_count (begins_at here) queue (λ g h. slice_not_free here (slice_len (length payload) (length carries)) slices new_slices g takes (ok.sliced g h))) in
            let mine : one (begins_at offset (k, staged_message)) ≡ 1 = ap one is in
            omega (arith, none, mine)
        at false is =
            let old = ok.apart offset in
            let mine : one (begins_at offset (k, staged_message)) ≡ 0 = ap one is in
            omega (arith, old, mine)

    one_stage : (o i : ℕ) → one (is_stage o i (k, staged_message)) + count (is_stage o i) queue ≤ 1
    one_stage o i = at (k.origin == o) (k.index == i) refl refl
      where
        at : (b c : Bool) → (k.origin == o) ≡ b → (k.index == i) ≡ c → one (is_stage o i (k, staged_message)) + count (is_stage o i) queue ≤ 1
        at true true is here_is =
            let same : k.origin ≡ o = eqb-true k.origin o is in
            let too : k.index ≡ i = eqb-true k.index i here_is in
            let none : count (is_stage o i) queue ≡ 0 = subst (λ p. count (is_stage o p) queue ≡ 0) too (subst (λ p. count (is_stage p k.index) queue ≡ 0) same (none_found (is_stage k.origin k.index) queue unstaged)) in
            let mine : one (is_stage o i (k, staged_message)) ≤ 1 = at_most (is_stage o i (k, staged_message)) in
            omega (arith, none, mine)
          where
            at_most : (b : Bool) → one b ≤ 1
            at_most true = omega arith
            at_most false = omega arith
        at true false is here_is =
            let old = ok.stages o i in
            let mine : one (is_stage o i (k, staged_message)) ≡ 0 = ap one (ap (λ b. (is_odd k.stamp && (k.origin == o)) && b) here_is ∙ never (is_odd k.stamp && (k.origin == o))) in
            omega (arith, old, mine)
          where
            never : (b : Bool) → (b && false) ≡ false
            never true = refl
            never false = refl
        at false c is here_is =
            let old = ok.stages o i in
            let mine : one (is_stage o i (k, staged_message)) ≡ 0 = ap one (ap (λ b. (is_odd k.stamp && b) && (k.index == i)) is ∙ never (is_odd k.stamp) (k.index == i)) in
            omega (arith, old, mine)
          where
            never : (b d : Bool) → ((b && false) && d) ≡ false
            never true d = refl
            never false d = refl

    pub message_staged : AreOk me nodes new_slices (put k staged_message queue) (expected (foreign me carries) handles)
    message_staged = record {
      rising = rising_expected (foreign me carries) handles ok.rising;
      needed = needed_expected (foreign me carries) handles ok.needed;
      messages = all_put (MessageOk me (length nodes)) k staged_message queue (record { there = made; as_long = refl; short = short; few = few; as_many = length_unattached carries; known = λ committed. absurd (cc (sym committed ∙ odd)) }) ok.messages;
      notices = all_put (NoticeOk nodes) k staged_message queue tt ok.notices;
      sliced = all_put (SliceOk new_slices) k staged_message queue takes.taken (λ g h. slice_kept here slices new_slices g takes.others (slice_not_free here (slice_len (length payload) (length carries)) slices new_slices g takes (ok.sliced g h)) (ok.sliced g h));
      apart = λ offset. (let new = count_put (begins_at offset) k staged_message queue in let le = one_slice offset in omega (arith, new, le));
      stages = λ o i. (let new = count_put (is_stage o i) k staged_message queue in let le = one_stage o i in omega (arith, new, le));
      flight = λ node other. (let old = ok.flight node other in let new = sum_put (λ e. times node (carried e.1)) k staged_message queue in let now = flight_expected node (foreign me carries) handles ok.rising in let same = times_foreign me node carries other in omega (arith, old, new, now, same));
      noticed = λ node. subst (λ b. count (is_notice_for node) (put k staged_message queue) ≤ cond b 1 0) (sym (notice_expected node (foreign me carries) handles ok.rising)) (let old = ok.noticed node in let new = count_put (is_notice_for node) k staged_message queue in omega (arith, old, new));
    }
