-- What a search along the places of a stamped call, and along the bus order, tells.
use Rattle.std.specs.Prelude.{◌≡◌, refl, ℕ, ◌<◌, ◌≤◌, ◌⊎◌, ◌↔◌, Bool, true, false, not, ◌&&◌, ◌||◌, ◌==◌, ◌+◌, List, length, get_or, AllPairs, slice_get, find, Option, None, Some, is_some, IsTrue, if◌then◌else◌, zero, suc, [], ◌∷◌}
use Rattle.std.specs.List.{AllWithin, list_any}
use Rattle.std.specs.List.Sorted.{IsPartitionedBy}
use Rattle.std.specs.Borrow.{Bor}
use Rattle.std.specs.Option.{option_copied, option_flatten}
use Rattle.std.proofs.Common.{arith, inl, inr, sym, ◌∙◌, ap, subst}
use Rattle.std.proofs.lemmas.Bool.{cases_eq}
use Rattle.std.proofs.lemmas.Option.{slice_get_past, slice_get_within, get_or_from_slice_get, same_Some}
use Rattle.b1_model.specs.declared.naming.Key.{Key}
use Rattle.b1_model.specs.declared.naming.Wire.{Wire}
use Rattle.b1_model.specs.declared.records.Record.{Record}
use Rattle.b1_model.specs.declared.records.Stamp.{Stamp}
use Rattle.b1_model.specs.declared.answers.Answer.{Answer}
use Rattle.b1_model.specs.declared.records.Call.{Call}
use Rattle.b1_model.specs.Names.{Node, calls_of, epoch_at}
use Rattle.b1_model.specs.Ledger.{Message, message, table, line_number, is_accepted, is_node_of, is_entry, is_late, to_at, Destruction, destructions_of, node_at, doomed_at, is_before, is_below, stamp_of, order}
use Rattle.b1_model.specs.Legal.{last_key, is_above, is_open_to, is_message_in, is_message, is_notice_of, is_notice, is_candidate, IsLeast, IsNextReceipt, KeepsPrefix, HasNoNext}
use Rattle.b1_ledger.proofs.Sequences.{and_true, and_of, or_true, or_left, or_right, bool_cases}
use Rattle.b1_judge_facts.specs.Facts.{Gathered, Place, nodes_in, doomed}
use Rattle.b1_judge_facts.specs.Orders.{IsNotAfter}
use Rattle.b1_judge_facts.specs.Epochs.{is_of_epoch, has_epoch, goes_to, is_about, IsBeforeEpoch}
use Rattle.b1_judge.specs.Candidates.{key_at, is_under, is_passed, is_beyond, HasCandidate, HasCandidateOf, HasMessageOf, HasNoticeOf, HasNoneBefore, IsAlong}
use Rattle.b1_judge.proofs.OrderLemmas.{in_bus_order}

and_false : (b : Bool) → (b && false) ≡ false
and_false true = refl
and_false false = refl

-- a search of the places below n, where those from `end` on fail one test, and those from `count` on the other
pub found_none : (f g : ℕ → Bool) (n end count : ℕ) → ((i : ℕ) → i < n → (f i && g i) ≡ false) → end ≤ n → ((i : ℕ) → end ≤ i → i < count → g i ≡ false) → ((i : ℕ) → count ≤ i → f i ≡ false) → (i : ℕ) → f i ≡ true → g i ≡ true → ⊥
found_none f g n end count below few under past i e h =
    elim (lt_or i n) [
      | inl l ↦ cc (below i l, and_of (f i) (g i) e h)
      | inr l ↦ elim (lt_or i count) [ inl m ↦ cc (under i (omega (arith, few, l)) m, h) | inr m ↦ cc (past i m, e) ]
    ]
  where
    lt_or : (i n : ℕ) → (i < n) ⊎ (n ≤ i)
    lt_or i n = grind arith

-- above a key, under a limit, and so on, in the order of the definition
pub turned : (a b c : Bool) → ((a && b) && c) ≡ ((a && c) && b)
turned true true c = and_true_right c
  where
    and_true_right : (c : Bool) → c ≡ (c && true)
    and_true_right true = refl
    and_true_right false = refl
turned true false c = sym (and_false c)
turned false b c = refl

module _ (ws : List Wire) (r : Record) (p k : ℕ) (s : Stamp) where
  pub no_message : message ws r s.stamp s.origin ≡ None → (i : ℕ) → is_message ws r p k (key_at s i) ≡ false
  no_message e i = ap (λ o. is_above (key_at s i) (last_key r p k) && is_message_in ws r p k (key_at s i) o) e ∙ and_false (is_above (key_at s i) (last_key r p k))

  pub message_of : (m : Message) (i : ℕ) → message ws r s.stamp s.origin ≡ Some m → is_message ws r p k (key_at s i) ≡ (is_above (key_at s i) (last_key r p k) && is_message_in ws r p k (key_at s i) (Some m))
  message_of m i e = ap (λ o. is_above (key_at s i) (last_key r p k) && is_message_in ws r p k (key_at s i) o) e

  pub no_message_past : (m : Message) → message ws r s.stamp s.origin ≡ Some m → (i : ℕ) → length m.to ≤ i → is_message ws r p k (key_at s i) ≡ false
  no_message_past m e i l =
      let past : to_at m i ≡ None = ap option_flatten (slice_get_past m.to i l) in
      message_of m i e ∙ ap (λ b. is_above (key_at s i) (last_key r p k) && b) (rw past (by_entry _)) ∙ and_false (is_above (key_at s i) (last_key r p k))
    where
      by_entry : (b : Bool) → ((b && false) && false) ≡ false
      by_entry true = refl
      by_entry false = refl

  doomed_is : (i : ℕ) → doomed_at ws r (key_at s i) ≡ option_flatten (slice_get (doomed ws r s.stamp s.origin) i)
  doomed_is i = at_place (find (λ d. d.stamp == s.stamp) (destructions_of ws r s.origin))
    where
      at_place : (o : Option Destruction) → node_at i o ≡ option_flatten (slice_get (nodes_in o) i)
      at_place None = refl
      at_place (Some d) = refl

  pub notice_of : (i : ℕ) (x : Option Node) → slice_get (doomed ws r s.stamp s.origin) i ≡ Some x → is_notice ws r p k (key_at s i) ≡ (is_above (key_at s i) (last_key r p k) && is_notice_of ws r p k x)
  notice_of i x e = ap (λ o. is_above (key_at s i) (last_key r p k) && is_notice_of ws r p k o) (doomed_is i ∙ ap option_flatten e)

  pub no_notice_past : (i : ℕ) → length (doomed ws r s.stamp s.origin) ≤ i → is_notice ws r p k (key_at s i) ≡ false
  no_notice_past i l =
      ap (λ o. is_above (key_at s i) (last_key r p k) && is_notice_of ws r p k o) (doomed_is i ∙ ap option_flatten (slice_get_past (doomed ws r s.stamp s.origin) i l))
      ∙ and_false (is_above (key_at s i) (last_key r p k))

-- what is before the call of the last key isn't above it, and what is behind the call of a limit isn't under it
pub not_above : (s : Stamp) (i : ℕ) (o : Option Key) → is_passed s o ≡ true → is_above (key_at s i) o ≡ false
not_above s i None e = cc
not_above s i (Some key) e = grind (arith, e)

pub not_under : (s : Stamp) (i : ℕ) (o : Option Key) → is_beyond s o ≡ true → is_under (key_at s i) o ≡ false
not_under s i None e = cc
not_under s i (Some key) e = grind (arith, e)

-- an entry is above the last key
above_last : (at : Place) (s : Stamp) (i : ℕ) → is_candidate at.wires at.rec at.peer at.call (key_at s i) ≡ true → is_above (key_at s i) (last_key at.rec at.peer at.call) ≡ true
above_last at s i c =
    elim (or_true (is_message at.wires at.rec at.peer at.call (key_at s i)) (is_notice at.wires at.rec at.peer at.call (key_at s i)) c) [
      | inl m ↦ (and_true (is_above (key_at s i) (last_key at.rec at.peer at.call)) (is_message_in at.wires at.rec at.peer at.call (key_at s i) (message at.wires at.rec s.stamp s.origin)) m).0
      | inr n ↦ (and_true (is_above (key_at s i) (last_key at.rec at.peer at.call)) (is_notice_of at.wires at.rec at.peer at.call (doomed_at at.wires at.rec (key_at s i))) n).0
    ]

-- so a stamped call that is passed has none, and one behind the limit has none under it
pub none_passed : (at : Place) (s : Stamp) (limit : Option Key) → is_passed s (last_key at.rec at.peer at.call) ≡ true → HasCandidateOf at s limit → ⊥
none_passed at s limit e h = cc (not_above s h.0 (last_key at.rec at.peer at.call) e, above_last at s h.0 h.1)

pub none_beyond : (at : Place) (s : Stamp) (limit : Option Key) → is_beyond s limit ≡ true → HasCandidateOf at s limit → ⊥
none_beyond at s limit e h = cc (not_under s h.0 limit e, h.2)

-- what stands behind one that is beyond the limit is so too
pub beyond_more : (s t : Stamp) (limit : Option Key) → IsNotAfter s t → is_beyond s limit ≡ true → is_beyond t limit ≡ true
beyond_more s t None later e = cc e
beyond_more s t (Some key) later e = grind (arith, later, e)

-- what stands before one that is passed is so too
passed_less : (s t : Stamp) (key : Key) → IsNotAfter s t → is_before t.stamp t.origin key.stamp key.origin ≡ true → is_before s.stamp s.origin key.stamp key.origin ≡ true
passed_less s t key later e = grind (arith, later, e)

pub searchable : (stamps : List Stamp) (key : Key) → AllPairs IsNotAfter stamps → IsPartitionedBy (λ s. is_before s.stamp s.origin key.stamp key.origin) stamps
searchable stamps key up i j d le few passes =
    elim (cases_eq i j) [
      | inl same ↦ subst (λ (k : ℕ). is_before (get_or stamps k d).stamp (get_or stamps k d).origin key.stamp key.origin ≡ true) (sym same) passes
      | inr other ↦ passed_less (get_or stamps i d) (get_or stamps j d) key (up i j d (omega arith) few) passes
    ]

-- the stamped calls that are passed have no entries that may be received next
pub none_before : (at : Place) (stamps : List Stamp) (n : ℕ) (o : Option Key) → o ≡ last_key at.rec at.peer at.call → AllWithin (λ s. is_passed s o ≡ true) stamps 0 n → HasNoneBefore at stamps n
none_before at stamps n o last passed i s l read =
    let key : is_passed s o ≡ true = ap (λ x. is_passed x o) (sym (get_or_from_slice_get stamps i s s read)) ∙ passed i s (omega arith) l in
    none_passed at s None (ap (is_passed s) (sym last) ∙ key)

-- nor have those from one on that is beyond the limit
pub none_behind : (at : Place) (limit : Option Key) (stamps : List Stamp) (n : ℕ) (d : Stamp) → AllPairs IsNotAfter stamps → is_beyond (get_or stamps n d) limit ≡ true → (i : ℕ) (s : Stamp) → n ≤ i → slice_get stamps i ≡ Some s → ¬ HasCandidateOf at s limit
none_behind at limit stamps n d up e i s l read =
    none_beyond at s limit (elim (cases_eq n i) [
      | inl same ↦ (ap (λ x. is_beyond x limit) (sym (get_or_from_slice_get stamps i s d read) ∙ ap (λ k. get_or stamps k d) (sym same)) ∙ e)
      | inr other ↦ beyond_more (get_or stamps n d) s limit (subst (IsNotAfter (get_or stamps n d)) (get_or_from_slice_get stamps i s d read) (up n i d (omega arith) (slice_get_within stamps i s read))) e
    ])

-- an entry is a message or a notice
pub candidate_by : (at : Place) (s : Stamp) (limit : Option Key) (a b : Bool) → (IsTrue a ↔ HasMessageOf at s limit) → (IsTrue b ↔ HasNoticeOf at s limit) → (IsTrue (a || b) ↔ HasCandidateOf at s limit)
candidate_by at s limit a b m n = (
  (λ e. elim (or_true a b e) [
    | inl f ↦ (let h = m.0 f in (h.0, or_left (is_message at.wires at.rec at.peer at.call (key_at s h.0)) (is_notice at.wires at.rec at.peer at.call (key_at s h.0)) h.1, h.2))
    | inr f ↦ (let h = n.0 f in (h.0, or_right (is_message at.wires at.rec at.peer at.call (key_at s h.0)) (is_notice at.wires at.rec at.peer at.call (key_at s h.0)) h.1, h.2))
  ]),
  (λ h. elim (or_true (is_message at.wires at.rec at.peer at.call (key_at s h.0)) (is_notice at.wires at.rec at.peer at.call (key_at s h.0)) h.1) [ inl f ↦ or_left a b (m.1 (h.0, f, h.2)) | inr f ↦ or_right a b (n.1 (h.0, f, h.2)) ]),
)

-- a walk and what was gathered have the same messages
pub same_message : (at : Place) (from : Gathered) (stamp q : ℕ) → IsAlong at from → message at.wires at.rec stamp q ≡ message from.wires from.rec stamp q
same_message at from stamp q along = ap (λ ws. message ws at.rec stamp q) along.wires ∙ ap (λ r. message from.wires r stamp q) along.rec

module _ (at : Place) (from : Gathered) (s : Stamp) (limit : Option Key) (along : IsAlong at from) where
  -- a message that was looked up
  pub message_found : (o : Option (Bor Message)) (m : Bor Message) → option_copied o ≡ message from.wires from.rec s.stamp s.origin → o ≡ Some m → message at.wires at.rec s.stamp s.origin ≡ Some m.now
  message_found o m is found = same_message at from s.stamp s.origin along ∙ sym is ∙ ap option_copied found

  pub message_missed : (o : Option (Bor Message)) → option_copied o ≡ message from.wires from.rec s.stamp s.origin → o ≡ None → HasMessageOf at s limit → ⊥
  message_missed o is missed h = cc (no_message at.wires at.rec at.peer at.call s (same_message at from s.stamp s.origin along ∙ sym is ∙ ap option_copied missed) h.0, h.1)

  -- a place that may be received next
  pub message_here : (i : ℕ) → (is_message at.wires at.rec at.peer at.call (key_at s i) && is_under (key_at s i) limit) ≡ true → HasMessageOf at s limit
  message_here i e = let both = and_true (is_message at.wires at.rec at.peer at.call (key_at s i)) (is_under (key_at s i) limit) e in (i, both.0, both.1)

  pub notice_here : (i : ℕ) → (is_notice at.wires at.rec at.peer at.call (key_at s i) && is_under (key_at s i) limit) ≡ true → HasNoticeOf at s limit
  notice_here i e = let both = and_true (is_notice at.wires at.rec at.peer at.call (key_at s i)) (is_under (key_at s i) limit) e in (i, both.0, both.1)

  -- a place that isn't above the last key may not
  pub message_passed : (i : ℕ) → is_above (key_at s i) (last_key at.rec at.peer at.call) ≡ false → (is_message at.wires at.rec at.peer at.call (key_at s i) && is_under (key_at s i) limit) ≡ false
  message_passed i e = ap (λ b. (b && is_message_in at.wires at.rec at.peer at.call (key_at s i) (message at.wires at.rec s.stamp s.origin)) && is_under (key_at s i) limit) e

  pub notice_passed : (i : ℕ) → is_above (key_at s i) (last_key at.rec at.peer at.call) ≡ false → (is_notice at.wires at.rec at.peer at.call (key_at s i) && is_under (key_at s i) limit) ≡ false
  notice_passed i e = ap (λ b. (b && is_notice_of at.wires at.rec at.peer at.call (doomed_at at.wires at.rec (key_at s i))) && is_under (key_at s i) limit) e

  -- nor may any place of a message, where those below n may not, and those from `end` on are not under the limit
  pub message_none : (m : Message) (n end : ℕ) → message at.wires at.rec s.stamp s.origin ≡ Some m → end ≤ n → ((i : ℕ) → end ≤ i → i < length m.to → is_under (key_at s i) limit ≡ false) → ((i : ℕ) → i < n → (is_message at.wires at.rec at.peer at.call (key_at s i) && is_under (key_at s i) limit) ≡ false) → HasMessageOf at s limit → ⊥
  message_none m n end e few under none h =
      found_none (λ i. is_message at.wires at.rec at.peer at.call (key_at s i)) (λ i. is_under (key_at s i) limit) n end (length m.to) none few under
      (λ i l. no_message_past at.wires at.rec at.peer at.call s m e i l) h.0 h.1 h.2

  pub notice_none : (nodes : List (Option Node)) (n end : ℕ) → nodes ≡ doomed from.wires from.rec s.stamp s.origin → end ≤ n → ((i : ℕ) → end ≤ i → i < length nodes → is_under (key_at s i) limit ≡ false) → ((i : ℕ) → i < n → (is_notice at.wires at.rec at.peer at.call (key_at s i) && is_under (key_at s i) limit) ≡ false) → HasNoticeOf at s limit → ⊥
  notice_none nodes n end is few under none h =
      let e : nodes ≡ doomed at.wires at.rec s.stamp s.origin = rw (along.wires, along.rec) is in
      let f : length (doomed at.wires at.rec s.stamp s.origin) ≡ length nodes = ap length (sym e) in
      found_none (λ i. is_notice at.wires at.rec at.peer at.call (key_at s i)) (λ i. is_under (key_at s i) limit) n end (length nodes) none few under
      (λ i l. no_notice_past at.wires at.rec at.peer at.call s i (omega (arith, l, f))) h.0 h.1 h.2

-- ---- where the peer holds no foreign nodes

any_at : {A : Type 0} (f : A → Bool) (xs : List A) (i : ℕ) (x : A) → slice_get xs i ≡ Some x → f x ≡ true → list_any f xs ≡ true
any_at f [] i x e h = cc e
any_at f (y ∷ ys) zero x e h = or_left (f y) (list_any f ys) (ap f (same_Some y x e) ∙ h)
any_at f (y ∷ ys) (suc i) x e h = or_right (f y) (list_any f ys) (any_at f ys i x e h)

-- a node at a place of a list is among its nodes
among : (p epoch : ℕ) (nodes : List (Option Node)) (i : ℕ) (n : Option Node) → option_flatten (slice_get nodes i) ≡ n → is_of_epoch p epoch n ≡ true → has_epoch p epoch nodes ≡ true
among p epoch nodes i n e h = go (slice_get nodes i) refl
  where
    go : (o : Option (Option Node)) → slice_get nodes i ≡ o → has_epoch p epoch nodes ≡ true
    go None f = cc (sym (ap option_flatten f) ∙ e, h)
    go (Some x) f = any_at (is_of_epoch p epoch) nodes i x f (ap (is_of_epoch p epoch) (sym (ap option_flatten f) ∙ e) ∙ h)

module _ (ws : List Wire) (r : Record) (p k : ℕ) (none : (table ws r p k).lines ≡ []) where
  open_node : (key : Key) (n : Option Node) → is_node_of p n ≡ true → is_open_to ws r p k key n ≡ true → is_of_epoch p (epoch_at r p k) n ≡ true
  open_node key None e f = cc e
  open_node key (Some x) e f = and_of (x.owner == p) (x.epoch == epoch_at r p k) e (and_true (x.epoch == epoch_at r p k) (not (is_late ws r x key)) f).0

  message_node : (key : Key) (o : Option Message) → is_message_in ws r p k key o ≡ true → has_epoch p (epoch_at r p k) (goes_to o) ≡ true
  message_node key None e = cc e
  message_node key (Some m) e =
      let both = and_true (is_entry p key.index m) (is_open_to ws r p k key (to_at m key.index)) e in
      let own = and_true (is_accepted (slice_get m.places key.index)) (is_node_of p (to_at m key.index)) both.0 in
      among p (epoch_at r p k) m.to key.index (to_at m key.index) refl (open_node key (to_at m key.index) own.1 both.1)

  own_node : (n : Option Node) → is_notice_of ws r p k n ≡ true → is_of_epoch p (epoch_at r p k) n ≡ true
  own_node None e = cc e
  own_node (Some x) e = go (x.owner == p) e
    where
      not_held : is_some (line_number x (table ws r p k).lines) ≡ false
      not_held = ap (λ ls. is_some (line_number x ls)) none

      go : (b : Bool) → (if b then x.epoch == epoch_at r p k else is_some (line_number x (table ws r p k).lines)) ≡ true → (b && (x.epoch == epoch_at r p k)) ≡ true
      go true f = f
      go false f = cc (not_held, f)

  notice_node : (i : ℕ) (o : Option Destruction) → is_notice_of ws r p k (node_at i o) ≡ true → has_epoch p (epoch_at r p k) (nodes_in o) ≡ true
  notice_node i None e = cc e
  notice_node i (Some d) e = among p (epoch_at r p k) d.nodes i (node_at i (Some d)) refl (own_node (node_at i (Some d)) e)

  about_epoch : (s : Stamp) (i : ℕ) → is_candidate ws r p k (key_at s i) ≡ true → is_about ws r p (epoch_at r p k) s ≡ true
  about_epoch s i e =
      elim (or_true (is_message ws r p k (key_at s i)) (is_notice ws r p k (key_at s i)) e) [
        | inl m ↦ or_left (has_epoch p (epoch_at r p k) (goes_to (message ws r s.stamp s.origin))) (has_epoch p (epoch_at r p k) (doomed ws r s.stamp s.origin)) (message_node (key_at s i) (message ws r s.stamp s.origin) (and_true (is_above (key_at s i) (last_key r p k)) (is_message_in ws r p k (key_at s i) (message ws r s.stamp s.origin)) m).1)
        | inr n ↦ or_right (has_epoch p (epoch_at r p k) (goes_to (message ws r s.stamp s.origin))) (has_epoch p (epoch_at r p k) (doomed ws r s.stamp s.origin)) (notice_node i (find (λ d. d.stamp == s.stamp) (destructions_of ws r s.origin)) (and_true (is_above (key_at s i) (last_key r p k)) (is_notice_of ws r p k (doomed_at ws r (key_at s i))) n).1)
      ]

-- the stamped calls that neither go to a node of the peer's epoch nor destroy one have no entries that may be received next
pub none_named : (at : Place) (from : Gathered) (p epoch n : ℕ) → IsAlong at from → (table at.wires at.rec at.peer at.call).lines ≡ [] → p ≡ at.peer → epoch ≡ epoch_at at.rec at.peer at.call → IsBeforeEpoch from.wires from.rec p epoch n → HasNoneBefore at (order from.rec) n
none_named at from p epoch n along none own now before i s l read h =
    cc (about_epoch at.wires at.rec at.peer at.call none s h.0 h.1, ap (λ e. is_about at.wires at.rec at.peer e s) (sym now) ∙ ap (λ q. is_about at.wires at.rec q epoch s) (sym own) ∙ ap (λ ws. is_about ws at.rec p epoch s) along.wires ∙ ap (λ r. is_about from.wires r p epoch s) along.rec ∙ before i s l read)

-- an entry has the stamp of a call of its origin
abbrev pub EntriesCome : Type 0
EntriesCome = (ws : List Wire) (r : Record) (p k : ℕ) (key : Key) → is_candidate ws r p k key ≡ true → (i : ℕ) × (c : Call) × (slice_get (calls_of r key.origin) i ≡ Some c) × (stamp_of c.answer ≡ Some key.stamp)

-- one more stamped call has no entry that may be received next
pub stamp_next : (at : Place) (limit : Option Key) (stamps : List Stamp) (n : ℕ) (d : Stamp) (b : Bool) → ((i : ℕ) (s : Stamp) → i < n → slice_get stamps i ≡ Some s → ¬ HasCandidateOf at s limit) → (HasCandidateOf at (get_or stamps n d) limit → IsTrue b) → b ≡ false → (i : ℕ) (s : Stamp) → i < n + 1 → slice_get stamps i ≡ Some s → ¬ HasCandidateOf at s limit
stamp_next at limit stamps n d b none here e i s l read h = elim (last_or i n l) [ inl below ↦ none i s below read h | inr last ↦ is_last last ]
  where
    last_or : (i n : ℕ) → i < n + 1 → (i < n) ⊎ (i ≡ n)
    last_or i n l = grind arith

    is_last : i ≡ n → ⊥
    is_last last = cc (here (subst (λ x. HasCandidateOf at x limit) (sym (get_or_from_slice_get stamps i s d read) ∙ ap (λ j. get_or stamps j d) last) h), e)

-- where no stamped call of the bus order has an entry that may be received next, there is none
pub none_at_all : (at : Place) (from : Gathered) (limit : Option Key) (stamps : List Stamp) → IsAlong at from → EntriesCome → stamps ≡ order from.rec → ((i : ℕ) (s : Stamp) → slice_get stamps i ≡ Some s → ¬ HasCandidateOf at s limit) → HasCandidate at limit → ⊥
none_at_all at from limit stamps along come is none h =
    let g = come at.wires at.rec at.peer at.call h.0 h.1 in
    let place = in_bus_order at.rec h.0.origin g.0 h.0.stamp g.1 g.2 g.3 in
    let e : stamps ≡ order at.rec = rw along.rec is in
    let read : slice_get stamps place.0 ≡ Some (record { stamp = h.0.stamp; origin = h.0.origin; call = g.0 }) = rw e place.1 in
    none place.0 (record { stamp = h.0.stamp; origin = h.0.origin; call = g.0 }) read (h.0.index, h.1, h.2)

-- so where those below n have none, and those from n on
pub none_in_all : (at : Place) (limit : Option Key) (stamps : List Stamp) (n : ℕ) → ((i : ℕ) (s : Stamp) → i < n → slice_get stamps i ≡ Some s → ¬ HasCandidateOf at s limit) → ((i : ℕ) (s : Stamp) → n ≤ i → slice_get stamps i ≡ Some s → ¬ HasCandidateOf at s limit) → (i : ℕ) (s : Stamp) → slice_get stamps i ≡ Some s → ¬ HasCandidateOf at s limit
none_in_all at limit stamps n below behind i s read = elim (lt_or i n) [ inl l ↦ below i s l read | inr l ↦ behind i s l read ]
  where
    lt_or : (i n : ℕ) → (i < n) ⊎ (n ≤ i)
    lt_or i n = grind arith

-- none stands behind the last
pub none_past : (at : Place) (limit : Option Key) (stamps : List Stamp) (n : ℕ) → length stamps ≤ n → (i : ℕ) (s : Stamp) → n ≤ i → slice_get stamps i ≡ Some s → ¬ HasCandidateOf at s limit
none_past at limit stamps n few i s l read h = let inside = slice_get_within stamps i s read in omega (arith, few, l, inside)

-- a key is the least, where no entry under it may be received next
pub least_by : (at : Place) (key : Key) (b : Bool) → (IsTrue b ↔ HasCandidate at (Some key)) → (IsTrue (not b) ↔ IsLeast at.wires at.rec at.peer at.call key)
least_by at key true h = ((λ e. cc e), (λ least. (let g = h.0 refl in cc (least g.0 g.1, g.2))))
least_by at key false h =
    ((λ e other c. elim (bool_cases (is_below other key)) [ inl under ↦ absurd (no (h.1 (other, c, under))) | inr f ↦ f ]), (λ least. refl))
  where
    no : false ≡ true → ⊥
    no e = cc

-- nothing is next, where no entry may be received next
pub no_next_by : (at : Place) → (HasCandidate at None → ⊥) → HasNoNext at.wires at.rec at.peer at.call
no_next_by at none key = elim (bool_cases (is_candidate at.wires at.rec at.peer at.call key)) [ inl e ↦ absurd (none (key, e, refl)) | inr e ↦ e ]

pub next_by : (at : Place) → HasCandidate at None → HasNoNext at.wires at.rec at.peer at.call → ⊥
next_by at h none = cc (none h.0, h.1)

-- what is asked of the call that stands there
pub asked_of : (Q : Answer → Type 0) (o : Option Call) (c : Call) → o ≡ Some c → Q c.answer → (d : Call) → o ≡ Some d → Q d.answer
asked_of Q o c at h d is = subst (λ (x : Call). Q x.answer) (same_Some c d (sym at ∙ is)) h

-- the call before which a walk stands keeps the prefix
pub prefix_by : (at : Place) (c : Call) → slice_get (calls_of at.rec at.peer) at.call ≡ Some c → (b : Bool) → (IsTrue b ↔ IsNextReceipt at.wires at.rec at.peer at.call c.answer) → (IsTrue b ↔ KeepsPrefix at.wires at.rec at.peer at.call)
prefix_by at c here b h = ((λ e. asked_of (λ a. IsNextReceipt at.wires at.rec at.peer at.call a) (slice_get (calls_of at.rec at.peer) at.call) c here (h.0 e)), (λ kept. h.1 (kept c here)))
