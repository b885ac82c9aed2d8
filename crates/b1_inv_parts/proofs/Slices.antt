-- One part's slices and queued messages: each message has its own unpublished slice, and every unpublished slice is a message's.
use Rattle.std.proofs.Common.{◌≡◌, ◌≢◌, ◌⊎◌, refl, sym, ap, ◌∙◌, inl, inr, subst, ℕ, ◌≤◌, ◌==◌, Bool, true, false, cond, ◌&&◌, List, [], ◌∷◌, length, Option, Some, None}
use Rattle.std.proofs.lemmas.Bool.{eqb-true, eq-eqb}
use Rattle.std.proofs.lemmas.Option.{same_Some}
use Rattle.b1_model.specs.declared.naming.Key.{Key}
use Rattle.b1_model.specs.declared.naming.NodeRef.{NodeRef}
use Rattle.b1_model.specs.declared.parts.Slot.{Slot}
use Rattle.b1_model.specs.declared.tables.Usage.TheVariants.{Unpublished, Published}
use Rattle.b1_model.specs.declared.entries.Entry.{Entry}
use Rattle.b1_model.specs.declared.entries.Entry.TheVariants.{Message, OwnNotice, ForeignNotice, ReleaseNotice}
use Rattle.b1_model.specs.MachineParts.{Slice, is_data, is_staged, key_before}
use Rattle.b1_model.specs.MachinePool.{slice_len, slice_at, largest_free, taken, taken_offset, given_back, published, is_received, whole_pool}
use Rattle.b1_model.specs.MachineTables.{put, without, is_stage}
use Rattle.b1_model.specs.MachineSend.{offset_of, with_slots}
use Rattle.b1_step.specs.Rights.{Has}
use Rattle.b1_step.specs.Ordered.{Ascending}
use Rattle.b1_step.proofs.Orders.{behind_has, key_not_itself}
use Rattle.b1_step.proofs.Queues.{put_has, has_put_new, has_put_old, has_without}
use Rattle.b1_inv.specs.Stages.{OnceEach}
use Rattle.b1_inv_record.specs.Parts.{IsSliceOf}
use Rattle.b1_inv_sends.proofs.Once.{stage_parts}
use Rattle.b1_inv_tools.proofs.Comes.{without_fails}
use Rattle.b1_peer_pool.specs.Slices.{used_at, is_queued, IsPool}
use Rattle.b1_peer_pool.proofs.Fits.{IsLength-slice_len}
use Rattle.b1_peer_pool.proofs.Found.{slice_at-within, used_at-found, is_received-used, received-apart, used-is_queued}
use Rattle.b1_peer_pool.proofs.Laws.{used_at-taken, used_at-taken_here, taken-apart, taken-stays, IsPool-taken, used_at-published, IsPool-published, used_at-given_back, IsPool-given_back, used_at-whole_pool}

abbrev Queue : Type 0
Queue = List (Key × Entry)

-- a pool of a size, and the messages of a queue
pub record AreSliced (size : ℕ) (queue : Queue) (slices : List Slice) : Type 0 where
  pub pool : IsPool size slices
  pub sliced : (f : Key × Entry) → Has queue f → is_data f.1 ≡ true → (t : Slice) × (used_at (offset_of f.1) slices ≡ Some t) × IsSliceOf f.1 t
  pub apart : (f g : Key × Entry) → Has queue f → Has queue g → is_data f.1 ≡ true → is_data g.1 ≡ true → offset_of f.1 ≡ offset_of g.1 → f.0 ≡ g.0
  pub needed : (offset : ℕ) (t : Slice) → used_at offset slices ≡ Some t → t.usage ≡ Unpublished → (f : Key × Entry) × Has queue f × IsSliceOf f.1 t

-- ---- the slice of an entry

pub slice_data : (e : Entry) (t : Slice) → IsSliceOf e t → is_data e ≡ true
slice_data (Message origin user index serial offset len nodes slots handles payload) t is = refl
slice_data (OwnNotice serial index) t is = absurd is
slice_data (ForeignNotice node index) t is = absurd is
slice_data (ReleaseNotice serial) t is = absurd is

pub slice_offset : (e : Entry) (t : Slice) → IsSliceOf e t → t.offset ≡ offset_of e
slice_offset (Message origin user index serial offset len nodes slots handles payload) t is = ap (λ s. s.offset) is.1
slice_offset (OwnNotice serial index) t is = absurd is
slice_offset (ForeignNotice node index) t is = absurd is
slice_offset (ReleaseNotice serial) t is = absurd is

pub slice_usage : (e : Entry) (t : Slice) → IsSliceOf e t → t.usage ≡ Unpublished
slice_usage (Message origin user index serial offset len nodes slots handles payload) t is = ap (λ s. s.usage) is.1
slice_usage (OwnNotice serial index) t is = absurd is
slice_usage (ForeignNotice node index) t is = absurd is
slice_usage (ReleaseNotice serial) t is = absurd is

offset_slots : (slots : List Slot) (e : Entry) → offset_of (with_slots slots e) ≡ offset_of e
offset_slots slots (Message origin user index serial offset len nodes old handles payload) = refl
offset_slots slots (OwnNotice serial index) = refl
offset_slots slots (ForeignNotice node index) = refl
offset_slots slots (ReleaseNotice serial) = refl

slice_slots : (slots : List Slot) (e : Entry) (t : Slice) → IsSliceOf e t → IsSliceOf (with_slots slots e) t
slice_slots slots (Message origin user index serial offset len nodes old handles payload) t is = is
slice_slots slots (OwnNotice serial index) t is = is
slice_slots slots (ForeignNotice node index) t is = is
slice_slots slots (ReleaseNotice serial) t is = is

-- ---- entries of one place

pub same_stage : (origin index : ℕ) (f g : Key × Entry) → f.0 ≡ g.0 → is_data f.1 ≡ true → is_data g.1 ≡ true → is_stage origin index f ≡ is_stage origin index g
same_stage origin index f g key one two =
    ap (λ b. b && is_staged f && (f.0.origin == origin) && (f.0.index == index)) one
    ∙ ap (λ (k : Key). is_staged (k, f.1) && (k.origin == origin) && (k.index == index)) key
    ∙ sym (ap (λ b. b && is_staged g && (g.0.origin == origin) && (g.0.index == index)) two)

-- a place of a SEND is staged once
twice : (origin index : ℕ) (e f g : Key × Entry) → f ≡ e → (is_stage e.0.origin e.0.index e ≡ true → is_stage e.0.origin e.0.index g ≡ false) → is_stage origin index f ≡ true → is_stage origin index g ≡ true → ⊥
twice origin index e f g same none p q =
    let here : is_stage origin index e ≡ true = ap (is_stage origin index) (sym same) ∙ p in
    let own = stage_parts origin index e here in
    let mine : is_stage e.0.origin e.0.index e ≡ true = ap (λ o. is_stage o e.0.index e) own.origin_is ∙ ap (λ i. is_stage origin i e) own.index_is ∙ here in
    let other : is_stage e.0.origin e.0.index g ≡ true = ap (λ o. is_stage o e.0.index g) own.origin_is ∙ ap (λ i. is_stage origin i g) own.index_is ∙ q in
    cc (sym (none mine) ∙ other)

pub one_stage : (origin index : ℕ) (queue : Queue) (f g : Key × Entry) → OnceEach queue → Has queue f → Has queue g → is_stage origin index f ≡ true → is_stage origin index g ≡ true → f ≡ g
one_stage origin index [] f g once there also p q = absurd there
one_stage origin index (e ∷ rest) f g once (inl a) (inl b) p q = a ∙ sym b
one_stage origin index (e ∷ rest) f g once (inl a) (inr b) p q = absurd (twice origin index e f g a (once.0 g b) p q)
one_stage origin index (e ∷ rest) f g once (inr a) (inl b) p q = absurd (twice origin index e g f b (once.0 f a) q p)
one_stage origin index (e ∷ rest) f g once (inr a) (inr b) p q = one_stage origin index rest f g once.1 a b p q

-- ---- what changes

module _ (size : ℕ) (queue : Queue) (slices : List Slice) (ok : AreSliced size queue slices) where
  -- a slice that is found begins there
  begins : (offset : ℕ) (t : Slice) → used_at offset slices ≡ Some t → t.offset ≡ offset
  begins offset t used = (slice_at-within size offset slices t ok.pool (used_at-found offset slices t used).0).begins_here

  found : (f : Key × Entry) → Has queue f → is_data f.1 ≡ true → (t : Slice) × (slice_at (offset_of f.1) slices ≡ Some t)
  found f there message = let s = ok.sliced f there message in (s.0, (used_at-found (offset_of f.1) slices s.0 s.1).0)

  -- ---- the messages stay

  pub same_messages : (new : Queue) → ((f : Key × Entry) → is_data f.1 ≡ true → Has new f → Has queue f) → ((f : Key × Entry) → is_data f.1 ≡ true → Has queue f → Has new f) → AreSliced size new slices
  same_messages new less more = record {
    pool = ok.pool;
    sliced = λ f there message. ok.sliced f (less f message there) message;
    apart = λ f g there also one two same. ok.apart f g (less f one there) (less g two also) one two same;
    needed = λ offset t used un. let n = ok.needed offset t used un in (n.0, more n.0 (slice_data n.0.1 t n.2) n.1, n.2);
  }

  -- ---- a slice that begins at an offset isn't a message's any more

  module _ (new : Queue) (new_slices : List Slice) (here : ℕ) (left : Option Slice) (pool : IsPool size new_slices)
      (others : (offset : ℕ) → used_at offset new_slices ≡ cond (here == offset) left (used_at offset slices))
      (unqueued : (t : Slice) → left ≡ Some t → t.usage ≡ Unpublished → ⊥)
      (less : (g : Key × Entry) → Has new g → Has queue g)
      (elsewhere : (g : Key × Entry) → Has new g → is_data g.1 ≡ true → here ≢ offset_of g.1)
      (stays : (g : Key × Entry) → Has queue g → is_data g.1 ≡ true → Has new g ⊎ (here ≡ offset_of g.1)) where
    differs : (a b : ℕ) → a ≢ b → (a == b) ≡ false
    differs a b apart = by (a == b) refl
      where
        by : (c : Bool) → (a == b) ≡ c → (a == b) ≡ false
        by true e = absurd (apart (eqb-true a b e))
        by false e = e

    needed_by : (b : Bool) (offset : ℕ) (t : Slice) → (here == offset) ≡ b → cond b left (used_at offset slices) ≡ Some t → t.usage ≡ Unpublished → (f : Key × Entry) × Has new f × IsSliceOf f.1 t
    needed_by true offset t is used un = absurd (unqueued t used un)
    needed_by false offset t is used un =
        let n = ok.needed offset t used un in
        elim (stays n.0 n.1 (slice_data n.0.1 t n.2)) [
          | inl there ↦ (n.0, there, n.2)
          | inr same ↦
              let at : here ≡ offset = same ∙ sym (slice_offset n.0.1 t n.2) ∙ begins offset t used in
              absurd (cc (sym is ∙ eq-eqb here offset at))
        ]

    pub slice_left : AreSliced size new new_slices
    slice_left = record {
      pool = pool;
      sliced = λ g there message. let s = ok.sliced g (less g there) message in (s.0, others (offset_of g.1) ∙ ap (λ b. cond b left (used_at (offset_of g.1) slices)) (differs here (offset_of g.1) (elsewhere g there message)) ∙ s.1, s.2);
      apart = λ f g there also one two same. ok.apart f g (less f there) (less g also) one two same;
      needed = λ offset t used un. needed_by (here == offset) offset t refl (sym (others offset) ∙ used) un;
    }

  -- ---- a message is taken back, is committed

  module _ (origin index : ℕ) (once : OnceEach queue) (f : Key × Entry) (there : Has queue f) (passes : is_stage origin index f ≡ true) where
    message : is_data f.1 ≡ true
    message = (stage_parts origin index f passes).message

    -- no message that is left has its slice
    none_left : (g : Key × Entry) → Has (without (is_stage origin index) queue) g → is_data g.1 ≡ true → offset_of f.1 ≢ offset_of g.1
    none_left g left data_is same =
        let was = without_fails (is_stage origin index) queue g left in
        let key : f.0 ≡ g.0 = ok.apart f g there was.0 message data_is same in
        absurd (cc (sym passes ∙ same_stage origin index f g key message data_is ∙ was.1))

    or_left : (g : Key × Entry) → Has queue g → (b : Bool) → is_stage origin index g ≡ b → Has (without (is_stage origin index) queue) g ⊎ (f ≡ g)
    or_left g h false fails = inl (has_without (is_stage origin index) queue g h fails)
    or_left g h true is = inr (one_stage origin index queue f g once there h passes is)

    pub stage_left : AreSliced size (without (is_stage origin index) queue) (given_back (offset_of f.1) slices)
    stage_left =
        let s = found f there message in
        slice_left (without (is_stage origin index) queue) (given_back (offset_of f.1) slices) (offset_of f.1) None (IsPool-given_back size (offset_of f.1) slices ok.pool)
        (λ offset. used_at-given_back size (offset_of f.1) offset slices s.0 ok.pool s.1)
        (λ t none un. let e : None ≡ Some t = none in absurd (cc e))
        (λ g h. (without_fails (is_stage origin index) queue g h).0)
        none_left
        (λ g h m. elim (or_left g h (is_stage origin index g) refl) [ inl left ↦ inl left | inr same ↦ inr (ap (λ e. offset_of e.1) same) ])

    module _ (key : Key) (slots : List Slot) where
      abbrev new_entry : Entry
      new_entry = with_slots slots f.1

      abbrev after : Queue
      after = put key (with_slots slots f.1) (without (is_stage origin index) queue)

      abbrev Sliced : Key × Entry → Type 0
      Sliced g = (t : Slice) × (used_at (offset_of g.1) slices ≡ Some t) × IsSliceOf g.1 t

      new_sliced : Sliced (key, with_slots slots f.1)
      new_sliced = let s = ok.sliced f there message in (s.0, ap (λ o. used_at o slices) (offset_slots slots f.1) ∙ s.1, slice_slots slots f.1 s.0 s.2)

      from : (g : Key × Entry) → Has after g → (g ≡ (key, with_slots slots f.1)) ⊎ Has (without (is_stage origin index) queue) g
      from g h = put_has key (with_slots slots f.1) (without (is_stage origin index) queue) g h

      apart_by : (g h : Key × Entry) → (g ≡ (key, with_slots slots f.1)) ⊎ Has (without (is_stage origin index) queue) g → (h ≡ (key, with_slots slots f.1)) ⊎ Has (without (is_stage origin index) queue) h → is_data g.1 ≡ true → is_data h.1 ≡ true → offset_of g.1 ≡ offset_of h.1 → g.0 ≡ h.0
      apart_by g h (inl a) (inl b) one two same = ap (λ e. e.0) a ∙ sym (ap (λ e. e.0) b)
      apart_by g h (inl a) (inr b) one two same = absurd (none_left h b two (sym (offset_slots slots f.1) ∙ sym (ap (λ e. offset_of e.1) a) ∙ same))
      apart_by g h (inr a) (inl b) one two same = absurd (none_left g a one (sym (offset_slots slots f.1) ∙ sym (ap (λ e. offset_of e.1) b) ∙ sym same))
      apart_by g h (inr a) (inr b) one two same = ok.apart g h (without_fails (is_stage origin index) queue g a).0 (without_fails (is_stage origin index) queue h b).0 one two same

      then_needed : (t : Slice) (g : Key × Entry) → Has queue g → IsSliceOf g.1 t → Has (without (is_stage origin index) queue) g ⊎ (f ≡ g) → (e : Key × Entry) × Has after e × IsSliceOf e.1 t
      then_needed t g h is (inl left) = (g, has_put_old key (with_slots slots f.1) (without (is_stage origin index) queue) g left, is)
      then_needed t g h is (inr same) = ((key, with_slots slots f.1), has_put_new key (with_slots slots f.1) (without (is_stage origin index) queue), slice_slots slots f.1 t (subst (λ e. IsSliceOf e.1 t) (sym same) is))

      pub stage_committed : AreSliced size after slices
      stage_committed = record {
        pool = ok.pool;
        sliced = λ g h m. elim (from g h) [ inl new ↦ subst Sliced (sym new) new_sliced | inr old ↦ ok.sliced g (without_fails (is_stage origin index) queue g old).0 m ];
        apart = λ g h i j one two same. apart_by g h (from g i) (from h j) one two same;
        needed = λ offset t used un. let n = ok.needed offset t used un in then_needed t n.0 n.1 n.2 (or_left n.0 n.1 (is_stage origin index n.0) refl);
      }

  -- ---- a message is staged

  module _ (k : Key) (origin user index serial : ℕ) (payload : List ℕ) (nodes : List NodeRef) (slots : List Slot) (fits : slice_len (length payload) (length nodes) ≤ largest_free slices) where
    abbrev len : ℕ
    len = slice_len (length payload) (length nodes)

    abbrev here : ℕ
    here = taken_offset (slice_len (length payload) (length nodes)) slices

    abbrev staged : Entry
    staged = Message origin user index serial (taken_offset (slice_len (length payload) (length nodes)) slices) (length payload) nodes slots [] payload

    abbrev new_slice : Slice
    new_slice = record { offset = taken_offset (slice_len (length payload) (length nodes)) slices; len = slice_len (length payload) (length nodes); usage = Unpublished }

    abbrev StagedSlice : Key × Entry → Type 0
    StagedSlice g = (t : Slice) × (used_at (offset_of g.1) (taken len slices) ≡ Some t) × IsSliceOf g.1 t

    not_here : (g : Key × Entry) → Has queue g → is_data g.1 ≡ true → here ≢ offset_of g.1
    not_here g h m = let s = ok.sliced g h m in taken-apart size len (offset_of g.1) slices s.0 ok.pool (IsLength-slice_len (length payload) (length nodes)) fits s.1

    staged_from : (g : Key × Entry) → Has (put k staged queue) g → (g ≡ (k, staged)) ⊎ Has queue g
    staged_from g h = put_has k staged queue g h

    staged_apart : (g h : Key × Entry) → (g ≡ (k, staged)) ⊎ Has queue g → (h ≡ (k, staged)) ⊎ Has queue h → is_data g.1 ≡ true → is_data h.1 ≡ true → offset_of g.1 ≡ offset_of h.1 → g.0 ≡ h.0
    staged_apart g h (inl a) (inl b) one two same = ap (λ e. e.0) a ∙ sym (ap (λ e. e.0) b)
    staged_apart g h (inl a) (inr b) one two same = absurd (not_here h b two (sym (ap (λ e. offset_of e.1) a) ∙ same))
    staged_apart g h (inr a) (inl b) one two same = absurd (not_here g a one (sym (ap (λ e. offset_of e.1) b) ∙ sym same))
    staged_apart g h (inr a) (inr b) one two same = ok.apart g h a b one two same

    staged_needed : (b : Bool) (offset : ℕ) (t : Slice) → cond b (Some new_slice) (used_at offset slices) ≡ Some t → t.usage ≡ Unpublished → (f : Key × Entry) × Has (put k staged queue) f × IsSliceOf f.1 t
    staged_needed true offset t used un = ((k, staged), has_put_new k staged queue, (refl, sym (same_Some new_slice t used)))
    staged_needed false offset t used un = let n = ok.needed offset t used un in (n.0, has_put_old k staged queue n.0 n.1, n.2)

    pub message_staged : AreSliced size (put k staged queue) (taken (slice_len (length payload) (length nodes)) slices)
    message_staged = record {
      pool = IsPool-taken size len slices ok.pool (IsLength-slice_len (length payload) (length nodes)) fits;
      sliced = λ g h m. elim (staged_from g h) [
        | inl new ↦ subst StagedSlice (sym new) (new_slice, used_at-taken_here size len slices ok.pool (IsLength-slice_len (length payload) (length nodes)) fits, (refl, refl))
        | inr old ↦ let s = ok.sliced g old m in (s.0, taken-stays size len (offset_of g.1) slices s.0 ok.pool (IsLength-slice_len (length payload) (length nodes)) fits s.1, s.2)
      ];
      apart = λ g h i j one two same. staged_apart g h (staged_from g i) (staged_from h j) one two same;
      needed = λ offset t used un. staged_needed (here == offset) offset t (sym (used_at-taken size len offset slices ok.pool (IsLength-slice_len (length payload) (length nodes)) fits) ∙ used) un;
    }

  -- ---- a received slice is given back

  pub received_left : (here : ℕ) → is_received here slices ≡ true → AreSliced size queue (given_back here slices)
  received_left here received =
      let r = is_received-used here slices received in
      slice_left queue (given_back here slices) here None (IsPool-given_back size here slices ok.pool)
      (λ offset. used_at-given_back size here offset slices r.0 ok.pool (used_at-found here slices r.0 r.1).0)
      (λ t none un. let e : None ≡ Some t = none in absurd (cc e))
      (λ g h. h)
      (λ g h m. let s = ok.sliced g h m in received-apart here (offset_of g.1) slices s.0 received s.1 (slice_usage g.1 s.0 s.2))
      (λ g h m. inl h)

-- ---- the front leaves

module _ (size : ℕ) (f : Key × Entry) (rest : Queue) (slices : List Slice) (ok : AreSliced size (f ∷ rest) slices) (up : Ascending (f ∷ rest)) where
  -- another entry has another key
  front_key : (g : Key × Entry) → Has rest g → f.0 ≡ g.0 → ⊥
  front_key g h same = let less : key_before f.0 f.0 ≡ true = subst (λ k. key_before f.0 k ≡ true) (sym same) (behind_has f.0 rest g up.0 h) in cc (sym less ∙ key_not_itself f.0)

  front_elsewhere : is_data f.1 ≡ true → (g : Key × Entry) → Has rest g → is_data g.1 ≡ true → offset_of f.1 ≢ offset_of g.1
  front_elsewhere message g h m same = front_key g h (ok.apart f g (inl refl) (inr h) message m same)

  front_stays : (g : Key × Entry) → Has (f ∷ rest) g → is_data g.1 ≡ true → Has rest g ⊎ (offset_of f.1 ≡ offset_of g.1)
  front_stays g (inl same) m = inr (ap (λ e. offset_of e.1) (sym same))
  front_stays g (inr there) m = inl there

  pub front_given_back : is_data f.1 ≡ true → AreSliced size rest (given_back (offset_of f.1) slices)
  front_given_back message =
      let s = ok.sliced f (inl refl) message in
      slice_left size (f ∷ rest) slices ok rest (given_back (offset_of f.1) slices) (offset_of f.1) None (IsPool-given_back size (offset_of f.1) slices ok.pool)
      (λ offset. used_at-given_back size (offset_of f.1) offset slices s.0 ok.pool (used_at-found (offset_of f.1) slices s.0 s.1).0)
      (λ t none un. let e : None ≡ Some t = none in absurd (cc e))
      (λ g h. inr h) (front_elsewhere message) front_stays

  pub front_published : is_data f.1 ≡ true → AreSliced size rest (published (offset_of f.1) slices)
  front_published message =
      let s = ok.sliced f (inl refl) message in
      slice_left size (f ∷ rest) slices ok rest (published (offset_of f.1) slices) (offset_of f.1) (Some (record s.0 { usage = Published })) (IsPool-published size (offset_of f.1) slices ok.pool (queued_here s.0 s.1 (slice_usage f.1 s.0 s.2)))
      (λ offset. used_at-published size (offset_of f.1) offset slices s.0 ok.pool (used_at-found (offset_of f.1) slices s.0 s.1).0)
      (λ t is un. let e : Published ≡ Unpublished = ap (λ u. u.usage) (same_Some (record s.0 { usage = Published }) t is) ∙ un in absurd (cc e))
      (λ g h. inr h) (front_elsewhere message) front_stays
    where
      queued_here : (t : Slice) → used_at (offset_of f.1) slices ≡ Some t → t.usage ≡ Unpublished → is_queued (offset_of f.1) slices ≡ true
      queued_here t used un = used-is_queued (offset_of f.1) slices t used un

  pub front_notice : is_data f.1 ≡ false → AreSliced size rest slices
  front_notice notice =
      same_messages size (f ∷ rest) slices ok rest (λ g m h. inr h)
      (λ g m h. elim h [ inl same ↦ absurd (cc (sym m ∙ ap (λ e. is_data e.1) same ∙ notice)) | inr there ↦ there ])

-- ---- an empty queue and a whole pool

pub nothing_sliced : (size : ℕ) → IsPool size (whole_pool size) → AreSliced size [] (whole_pool size)
nothing_sliced size pool = record {
  pool = pool;
  sliced = λ f there message. absurd there;
  apart = λ f g there also one two same. absurd there;
  needed = λ offset t used un. let e : None ≡ Some t = sym (used_at-whole_pool size offset) ∙ used in absurd (cc e);
}
