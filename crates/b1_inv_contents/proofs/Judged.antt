-- What the record says of a slot of a message that is taken: void slots, taken own nodes and dead records are of nodes destroyed before the send, and no others are.
use Rattle.std.proofs.Common.{◌≡◌, refl, sym, ap, subst, ◌∙◌, inl, inr, ℕ, zero, suc, ◌<◌, ◌≤◌, Bool, true, false, cond, ◌&&◌, List, [], ◌∷◌, get_or, Some, None}
use Rattle.std.specs.Prelude.{slice_get}
use Rattle.std.specs.List.{All}
use Rattle.std.proofs.lemmas.Option.{same_Some, slice_get_within, get_or_from_slice_get}
use native.Mathlib.Omega.{arith}
use Rattle.b1_model.specs.declared.naming.Key.{Key}
use Rattle.b1_model.specs.declared.naming.NodeRef.{NodeRef}
use Rattle.b1_model.specs.declared.naming.Opening.{Opening}
use Rattle.b1_model.specs.declared.parts.NodeState.{NodeState}
use Rattle.b1_model.specs.declared.parts.NodeState.TheVariants.{Live, Dying, Destroyed}
use Rattle.b1_model.specs.declared.parts.Slot.{Slot}
use Rattle.b1_model.specs.declared.parts.Slot.TheVariants as slot
use Rattle.b1_model.specs.declared.entries.Entry.{Entry}
use Rattle.b1_model.specs.declared.entries.Entry.TheVariants.{OwnNotice}
use Rattle.b1_model.specs.declared.records.Record.{Record}
use Rattle.b1_model.specs.Names.{Node, Name, made, number_at}
use Rattle.b1_model.specs.Ledger.{Message, message, is_late}
use Rattle.b1_model.specs.MachineParts.{PeerPart, NodePart, State, is_staged, is_data, carried, slots_of, is_destroyed, key_before, no_node, node_at, record_or_none}
use Rattle.b1_model.specs.MachineReceive.{cleared}
use Rattle.b1_model.specs.MachineTook.{driver_calls}
use Rattle.b1_model.specs.MachineStep.{record_of_state}
use Rattle.b1_step.specs.Rights.{Has}
use Rattle.b1_step.specs.Ordered.{Ascending}
use Rattle.b1_inv.specs.Words.{IsPeer, phase_uncommitted, is_uncommitted}
use Rattle.b1_inv.specs.Sends.{IsFilled}
use Rattle.b1_inv.specs.References.{AreFilled}
use Rattle.b1_inv.specs.Sound.{IsSound}
use Rattle.b1_ledger.specs.Growth.{calls_len}
use Rattle.b1_inv_record.specs.Epochs.{awaits_flush, in_gap, flushed_calls, made_before, first_now, first_done, ref_of}
use Rattle.b1_inv_record.specs.Destructions.{own_ref, doomed_key, awaits_commit}
use Rattle.b1_inv_record.specs.Holders.{slots_now}
use Rattle.b1_inv_record.specs.Right.{IsRight}
use Rattle.b1_inv_names.proofs.Recorded.{recorded_calls}
use Rattle.b1_inv_refs.proofs.Arrivals.{is_cleared}
use Rattle.b1_inv_legal.specs.Fronts.{CanTake}
use Rattle.b1_inv_legal.proofs.Front.{front_queued}
use Rattle.b1_inv_legal.proofs.Notices.{own_number}
use Rattle.b1_inv_contents.proofs.Order.{before_is_below, lower_stamp, notice_before, removed_is, before_removed}
use Rattle.b1_inv_contents.proofs.Lateness.{rises, late_key, key_node, key_late}

-- ---- lists

-- a filled slot at its place
pub filled_at : (q : ℕ) (nodes : List NodeRef) (slots : List Slot) (j : ℕ) (n : NodeRef) (t : Slot) → AreFilled q nodes slots → slice_get nodes j ≡ Some n → slice_get slots j ≡ Some t → IsFilled (record { owner = q; serial = 0 }) n t
filled_at q [] slots j n t filled at also = absurd (cc at)
filled_at q (m ∷ nodes) [] j n t filled at also = absurd filled
filled_at q (m ∷ nodes) (u ∷ slots) zero n t filled at also = subst (λ z. IsFilled (record { owner = q; serial = 0 }) z t) (same_Some m n at) (subst (IsFilled (record { owner = q; serial = 0 }) m) (same_Some u t also) filled.0)
filled_at q (m ∷ nodes) (u ∷ slots) (suc j) n t filled at also = filled_at q nodes slots j n t filled.1 at also

-- what holds of all items, at one place
pub all_at : {A : Type 0} (P : A → Type 0) (xs : List A) (j : ℕ) (a : A) → All P xs → slice_get xs j ≡ Some a → P a
all_at P xs j a all at = subst P (get_or_from_slice_get xs j a a at) (all j a (slice_get_within xs j a at))

-- an item of a list stands at a place
pub place_of : {A : Type 0} (xs : List A) (a : A) → Has xs a → (j : ℕ) × (slice_get xs j ≡ Some a)
place_of [] a there = absurd there
place_of (x ∷ xs) a (inl here) = (0, ap Some (sym here))
place_of (x ∷ xs) a (inr further) = let k = place_of xs a further in (suc k.0, k.1)

-- a key that is before all of a queue is before each entry
pub behind_at : (key : Key) (queue : List (Key × Entry)) (f : Key × Entry) → All (λ g. key_before key g.0 ≡ true) queue → Has queue f → key_before key f.0 ≡ true
behind_at key queue f all there = let k = place_of queue f there in all_at (λ g. key_before key g.0 ≡ true) queue k.0 f all k.1

-- a test that fails chooses the second value
pub else_is : {A : Type 0} (b : Bool) (u v : A) → b ≡ false → cond b u v ≡ v
else_is true u v is = absurd (cc is)
else_is false u v is = refl

-- both don't pass where the first doesn't
pub not_first : (a b : Bool) → a ≡ false → (a && b) ≡ false
not_first true b is = absurd (cc is)
not_first false b is = refl

-- a destroyed state has a stamp
pub destroyed_with : (state : NodeState) → is_destroyed state ≡ true → (stamp : ℕ) × (state ≡ Destroyed stamp)
destroyed_with Live is = absurd (cc is)
destroyed_with Dying is = absurd (cc is)
destroyed_with (Destroyed stamp) is = (stamp, refl)

-- a test that passes exactly where another one does is the same
pub either_is : (a b : Bool) → (b ≡ true → a ≡ true) → (b ≡ false → a ≡ true → ⊥) → a ≡ b
either_is a true there none = there refl
either_is true false there none = absurd (none refl refl)
either_is false false there none = refl

module _ {o : Opening} {s : State} (sound : IsSound o s) (right : IsRight o s) {p : ℕ} {x : PeerPart} {f : Key × Entry} {rest : List (Key × Entry)} (can : CanTake s p x f rest)
    (is_message : is_data f.1 ≡ true) (m : Message) (is_sent : message o.wires (record_of_state s) f.0.stamp f.0.origin ≡ Some m) where
  abbrev r : Record
  r = record_of_state s

  abbrev late : Node → Bool
  late y = is_late o.wires r y f.0

  abbrev known : List Name
  known = made o.wires r p (calls_len r p)

  -- whether a node's record is dead behind the removals
  abbrev pub dead : NodeRef → Bool
  dead node = (record_or_none node (cleared x).handles).dead

  -- the message stands in the queue
  pub has : Has x.queue f
  has = front_queued can

  -- the keys of the queue ascend
  pub up_queue : Ascending x.queue
  up_queue = right.parts.keys.ascending p x can.is_peer

  -- a node's notice with a key before the front's
  module _ (y : Node) (w : PeerPart) (n : NodePart) (is : IsPeer s y.owner w) (at : slice_get w.nodes y.serial ≡ Some n) where
    -- a node whose notice has a key before the message's was destroyed before it
    pub late_by_key : (notice : Key) → doomed_key o s (ref_of y) ≡ Some notice → key_before notice f.0 ≡ true → late y ≡ true
    late_by_key notice keyed before =
        let z = key_node right y w n is at notice keyed in
        key_late right y w n is at notice f.0 keyed (notice_before o.wires r (rises right) notice f.0 m z.0 z.1 is_sent before)

    -- a destroyed node has a notice's key with its stamp
    pub destroyed_key : (stamp : ℕ) → n.state ≡ Destroyed stamp → (notice : Key) × (doomed_key o s (ref_of y) ≡ Some notice) × (notice.stamp ≡ stamp)
    destroyed_key stamp state = right.destructions.dying.destroyed y.owner y.serial stamp w n is at state

    -- a node with a notice's key is destroyed with its stamp
    pub key_destroyed : (notice : Key) → doomed_key o s (ref_of y) ≡ Some notice → n.state ≡ Destroyed notice.stamp
    key_destroyed notice keyed = right.destructions.dying.recorded y.owner y.serial w n notice is at keyed

    -- the node at its serial has its state
    pub state_at : (node_at w y.serial).state ≡ n.state
    state_at = ap (λ k. k.state) (get_or_from_slice_get w.nodes y.serial n no_node at)

    -- a void slot
    pub void_judged : (j : ℕ) → slice_get (carried f.1) j ≡ Some (ref_of y) → slice_get (slots_of f.1) j ≡ Some slot.Void → late y ≡ true
    void_judged j there slotted =
        let v = right.holders.void.queued p j x f (ref_of y) w can.is_peer has there slotted is in
        let k = destroyed_key v.0 (sym state_at ∙ v.1) in
        let low : k.0.stamp < f.0.stamp = let e = k.2 in let l = v.2 in omega (arith, e, l) in
        key_late right y w n is at k.0 f.0 k.1 (lower_stamp k.0 f.0 low)

    -- an own slot
    module _ (mine : y.owner ≡ p) (j : ℕ) (there : slice_get (carried f.1) j ≡ Some (ref_of y)) (slotted : slice_get (slots_of f.1) j ≡ Some slot.Own) where
      own_part : w ≡ x
      own_part = same_Some w x (sym is ∙ ap (slice_get s.peers) mine ∙ can.is_peer)

      at_own : slice_get x.nodes y.serial ≡ Some n
      at_own = ap (λ z. slice_get z.nodes y.serial) (sym own_part) ∙ at

      keyed_own : (notice : Key) → doomed_key o s (ref_of y) ≡ Some notice → doomed_key o s (own_ref p y.serial) ≡ Some notice
      keyed_own notice keyed = ap (λ q. doomed_key o s (own_ref q y.serial)) (sym mine) ∙ keyed

      taken_late : n.taken ≡ true → late y ≡ true
      taken_late taken =
          let state = destroyed_with n.state (right.destructions.own.taken p y.serial x n can.is_peer at_own taken) in
          let k = destroyed_key state.0 state.1 in
          let behind = right.entries.gone.taken p y.serial x n k.0 can.is_peer at_own taken (keyed_own k.0 k.1) in
          late_by_key k.0 k.1 (behind_at k.0 x.queue f behind.1 has)

      no_gap : in_gap can.driver ≡ false
      no_gap = ap (λ doing. elim doing [ None ↦ false | Some one ↦ awaits_flush one.command one.phase ]) can.idle

      slots_are : slots_now s f ≡ slots_of f.1
      slots_are = else_is (is_staged f) _ (slots_of f.1) can.committed

      present : first_now o s p ≤ y.serial
      present =
          let low = right.holders.present.present p j x f (ref_of y) can.is_peer has there (ap (λ l. slice_get l j) slots_are ∙ slotted) in
          let done : first_done o s p ≡ made_before o.wires p (driver_calls can.driver) =
          ap (λ d. elim d [ None ↦ 0 | Some e ↦ made_before o.wires p (flushed_calls e) ]) can.is_driver ∙ ap (λ b. made_before o.wires p (cond b can.driver.calls (driver_calls can.driver))) no_gap in
          let now : first_now o s p ≡ made_before o.wires p (driver_calls can.driver) = ap (made_before o.wires p) (recorded_calls s p x can.driver can.is_peer can.is_driver) in
          omega (arith, low, done, now)

      untaken_soon : n.taken ≡ false → late y ≡ true → ⊥
      untaken_soon untaken is_late =
          let k = late_key right y f.0 is_late in
          let awaits : awaits_commit can.driver y.serial ≡ false = not_first (is_uncommitted can.driver can.driver.me) _ (ap (λ doing. elim doing [ None ↦ false | Some one ↦ phase_uncommitted can.driver.me one.phase can.driver.me ]) can.idle) in
          elim (right.destructions.own.ended p y.serial can.driver x n k.0 can.is_driver can.is_peer at_own present (keyed_own k.0 k.2) awaits) [
            | inl taken ↦ let both : true ≡ false = sym taken ∙ untaken in absurd (cc both)
            | inr queued ↦
                let gone = before_removed can up_queue (k.0, OwnNotice y.serial k.0.index) queued (before_is_below k.0 f.0 k.4) in
                let nobody : false ≡ true = (removed_is can up_queue (k.0, OwnNotice y.serial k.0.index) gone).1 in absurd (cc nobody)
          ]

      pub own_judged : (late y ≡ (get_or (cleared x).nodes y.serial no_node).taken) × (late y ≡ false → number_at known y.serial ≡ Some (get_or (cleared x).nodes y.serial no_node).number)
      own_judged =
          let same : n ≡ get_or (cleared x).nodes y.serial no_node = sym (ap (λ ns. get_or ns y.serial no_node) (is_cleared x (sound.rising p x can.is_peer)).nodes ∙ get_or_from_slice_get x.nodes y.serial n no_node at_own) in (
            either_is (late y) n.taken taken_late untaken_soon ∙ ap (λ z. z.taken) same,
            λ soon. own_number sound right can y.serial (slice_get_within x.nodes y.serial n at_own) ∙ ap (λ z. Some z.number) (get_or_from_slice_get x.nodes y.serial n no_node at_own ∙ same),
          )
