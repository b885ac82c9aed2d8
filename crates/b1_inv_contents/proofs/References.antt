-- What the record says of a counted slot of a message that is taken: its node was destroyed before the send exactly where the record is dead.
use Rattle.std.proofs.Common.{◌≡◌, ◌≢◌, ◌⊎◌, refl, sym, ap, subst, ◌∙◌, inl, inr, ℕ, zero, suc, ◌<◌, ◌≤◌, ◌==◌, Bool, true, false, cond, ◌&&◌, nat_lt, List, [], ◌∷◌, Option, Some, None}
use Rattle.std.specs.Prelude.{slice_get}
use Rattle.std.proofs.lemmas.Bool.{ltb-true, eqb-true, and_parts}
use Rattle.std.proofs.lemmas.Option.{same_Some, slice_get_within}
use native.Mathlib.Omega.{arith}
use Rattle.b1_model.specs.declared.commands.Command.{Command}
use Rattle.b1_model.specs.declared.naming.Key.{Key}
use Rattle.b1_model.specs.declared.naming.NodeRef.{NodeRef}
use Rattle.b1_model.specs.declared.naming.Opening.{Opening}
use Rattle.b1_model.specs.declared.parts.NodeState.TheVariants.{Destroyed}
use Rattle.b1_model.specs.declared.parts.Slot.TheVariants as slot
use Rattle.b1_model.specs.declared.entries.Entry.{Entry}
use Rattle.b1_model.specs.declared.entries.Entry.TheVariants.{ForeignNotice}
use Rattle.b1_model.specs.declared.events.Doing.{Doing}
use Rattle.b1_model.specs.declared.events.Phase.{Phase}
use Rattle.b1_model.specs.declared.events.Phase.TheVariants.{Visiting, Dooming, SyncingNotices, CommittingOwn, CommittingNotices}
use Rattle.b1_model.specs.Names.{Node}
use Rattle.b1_model.specs.Ledger.{Message, message, is_before, is_late}
use Rattle.b1_model.specs.MachineParts.{PeerPart, NodePart, DriverPart, HandleRecord, State, is_staged, is_data, carried, slots_of, is_live, is_dying, key_before, node_at, same_ref, no_record, record_of, record_or_none}
use Rattle.b1_model.specs.MachineReceive.{discards, cleared}
use Rattle.b1_model.specs.MachineEvents.{doomed_of}
use Rattle.b1_model.specs.MachineStep.{record_of_state}
use Rattle.b1_step.specs.Rights.{Has}
use Rattle.b1_step.specs.Ordered.{Rising}
use Rattle.b1_step.proofs.Lists.{has_at, has_left}
use Rattle.b1_step.proofs.Orders.{same_ref_is, same_ref_itself}
use Rattle.b1_inv.specs.Words.{IsPeer, IsDriver, stamp_of_phase}
use Rattle.b1_inv.specs.Notices.{DestructionShape, NoticeShape}
use Rattle.b1_inv.specs.References.{times_in, carried_times}
use Rattle.b1_inv.specs.Sound.{IsSound}
use Rattle.b1_ledger.proofs.Sequences.{or_true}
use Rattle.b1_inv_record.specs.Epochs.{is_unstaging, ref_of}
use Rattle.b1_inv_record.specs.Destructions.{doomed_key}
use Rattle.b1_inv_record.specs.Right.{IsRight}
use Rattle.b1_inv_notices.proofs.Turns.{get_there}
use Rattle.b1_inv_refs.proofs.Views.{times_cons}
use Rattle.b1_inv_refs.proofs.Arrivals.{is_cleared, carried_cons, queue_parts}
use Rattle.b1_inv_refs.proofs.GivenUp.{found_has, one_record}
use Rattle.b1_inv_legal.specs.Fronts.{CanTake}
use Rattle.b1_inv_contents.proofs.Removed.{NoticeOf, cleared_dead, AllDead, dead_behind}
use Rattle.b1_inv_contents.proofs.Order.{before_is_below, lower_stamp, removed_before, removed_is, before_removed}
use Rattle.b1_inv_contents.proofs.Lateness.{late_key}
use Rattle.b1_inv_contents.proofs.Judged.{dead, has, up_queue, late_by_key, key_destroyed, state_at, behind_at, else_is, either_is}

-- ---- records

abbrev or_none : NodeRef → Option HandleRecord → HandleRecord
or_none node found = elim found [ None ↦ no_record node | Some h ↦ h ]

-- the record that a node has
abbrev Stands : NodeRef → List HandleRecord → Type 0
Stands node hs = (h : HandleRecord) × Has hs h × (h.node ≡ node) × (record_or_none node hs ≡ h)

stands_by : (node : NodeRef) (hs : List HandleRecord) (found : Option HandleRecord) → record_of node hs ≡ found → (found ≡ None → ⊥) → (h : HandleRecord) × Has hs h × (h.node ≡ node) × (or_none node found ≡ h)
stands_by node hs None is some = absurd (some refl)
stands_by node hs (Some h) is some = let k = found_has (λ z. same_ref z.node node) hs h is in (h, k.0, same_ref_is h.node node k.1, refl)

flying_stands : (node : NodeRef) (hs : List HandleRecord) → 1 ≤ (record_or_none node hs).flight → Stands node hs
flying_stands node hs flies = stands_by node hs (record_of node hs) refl (λ none. let zero_is : (record_or_none node hs).flight ≡ 0 = ap (λ z. (or_none node z).flight) none in absurd (omega (arith, flies, zero_is)))

noticed_stands : (node : NodeRef) (hs : List HandleRecord) → (record_or_none node hs).notice ≡ true → Stands node hs
noticed_stands node hs noticed = stands_by node hs (record_of node hs) refl (λ none. let both : true ≡ false = sym noticed ∙ ap (λ z. (or_none node z).notice) none in absurd (cc both))

dead_stands : (node : NodeRef) (hs : List HandleRecord) → (record_or_none node hs).dead ≡ true → Stands node hs
dead_stands node hs dies = stands_by node hs (record_of node hs) refl (λ none. let both : true ≡ false = sym dies ∙ ap (λ z. (or_none node z).dead) none in absurd (cc both))

-- the record of a node is of it
record_node : (node : NodeRef) (hs : List HandleRecord) → (record_or_none node hs).node ≡ node
record_node node hs = by (record_of node hs) refl
  where
    by : (found : Option HandleRecord) → record_of node hs ≡ found → (or_none node found).node ≡ node
    by None is = refl
    by (Some h) is = same_ref_is h.node node (found_has (λ z. same_ref z.node node) hs h is).1

dead_all : (node : NodeRef) (hs : List HandleRecord) → Rising hs → (record_or_none node hs).dead ≡ true → AllDead node hs
dead_all node hs up dies h there of = let k = dead_stands node hs dies in ap (λ z. z.dead) (one_record hs h k.0 up there k.1 (of ∙ sym k.2) ∙ sym k.3) ∙ dies

some_times : (node : NodeRef) (nodes : List NodeRef) (j : ℕ) → slice_get nodes j ≡ Some node → 1 ≤ times_in node nodes
some_times node [] j at = absurd (cc at)
some_times node (n ∷ nodes) zero at =
    let same : n ≡ node = cc at in
    let more = times_cons node n nodes in
    let one : cond {A = ℕ} (same_ref n node) 1 0 ≡ 1 = ap (λ z. cond {A = ℕ} (same_ref z node) 1 0) same ∙ ap (λ c. cond {A = ℕ} c 1 0) (same_ref_itself node) in
    omega (arith, more, one)
some_times node (n ∷ nodes) (suc j) at = let more = times_cons node n nodes in let rest = some_times node nodes j at in omega (arith, more, rest)

stamp_low : (a b : Key) → is_before a.stamp a.origin b.stamp b.origin ≡ true → a.stamp ≤ b.stamp
stamp_low a b is = elim (or_true (nat_lt a.stamp b.stamp) ((a.stamp == b.stamp) && nat_lt a.origin b.origin) is) [
  | inl low ↦ let l = ltb-true a.stamp b.stamp low in omega (arith, l)
  | inr same ↦ let e = eqb-true a.stamp b.stamp (and_parts (a.stamp == b.stamp) (nat_lt a.origin b.origin) same).0 in omega (arith, e)
]

destroyed_stamp : (stamp other : ℕ) → Destroyed stamp ≡ Destroyed other → stamp ≡ other
destroyed_stamp stamp other same = cc same

module _ {o : Opening} {s : State} (sound : IsSound o s) (right : IsRight o s) {p : ℕ} {x : PeerPart} {f : Key × Entry} {rest : List (Key × Entry)} (can : CanTake s p x f rest)
    (is_message : is_data f.1 ≡ true) (m : Message) (is_sent : message o.wires (record_of_state s) f.0.stamp f.0.origin ≡ Some m)
    (y : Node) (w : PeerPart) (n : NodePart) (is : IsPeer s y.owner w) (at : slice_get w.nodes y.serial ≡ Some n)
    (apart : y.owner ≢ p) (j : ℕ) (there : slice_get (carried f.1) j ≡ Some (ref_of y)) (slotted : slice_get (slots_of f.1) j ≡ Some slot.Attached) where
  abbrev node : NodeRef
  node = ref_of y

  abbrev late : Bool
  late = is_late o.wires (record_of_state s) y f.0

  rising_here : Rising x.handles
  rising_here = sound.rising p x can.is_peer

  -- the record stands behind the removals
  stands : Stands node (cleared x).handles
  stands =
      let me = (sound.numbered.peers p x can.is_peer).me in
      let flies = (is_cleared x rising_here).flight node (λ same. apart (same ∙ me)) (sound.flights.counted p x node can.is_peer apart) in
      let in_front = ap (carried_times node) can.front ∙ carried_cons node f rest in
      let some = some_times node (carried f.1) j there in
      flying_stands node (cleared x).handles (omega (arith, flies, in_front, some))

  noticed_late : (k : Key) (i : ℕ) → Has (discards x) (k, ForeignNotice node i) → late ≡ true
  noticed_late k i removed =
      let inside = subst (λ l. Has l (k, ForeignNotice node i)) (sym (queue_parts x)) (has_left (discards x) (cleared x).queue (k, ForeignNotice node i) removed) in
      late_by_key sound right can is_message m is_sent y w n is at k
      (right.destructions.foreign.queued p i x k node can.is_peer inside (removed_is can (up_queue sound right can is_message m is_sent) (k, ForeignNotice node i) removed).0)
      (removed_before can (up_queue sound right can is_message m is_sent) (k, ForeignNotice node i) removed)

  dead_late : dead sound right can is_message m is_sent node ≡ true → late ≡ true
  dead_late dies =
      let h = stands in
      elim (cleared_dead x h.0 h.1 (ap (λ z. z.dead) (sym h.3) ∙ dies)) [
        | inl was ↦
            let k = right.destructions.foreign.dead p x was.0 can.is_peer was.1 was.3 in
            let behind = right.entries.gone.dead p x was.0 k.0 can.is_peer was.1 was.3 k.1 in
            late_by_key sound right can is_message m is_sent y w n is at k.0 (ap (doomed_key o s) (sym (was.2 ∙ h.2)) ∙ k.1) (behind_at k.0 x.queue f behind.1 (has sound right can is_message m is_sent))
        | inr notice ↦ noticed_late notice.0 notice.1 (subst (λ z. Has (discards x) (notice.0, ForeignNotice z notice.1)) h.2 notice.2)
      ]

  -- ---- not dead

  module _ (e : DriverPart) (is_driver : IsDriver s y.owner e) (undead : dead sound right can is_message m is_sent node ≡ false) (notice : Key) (keyed : doomed_key o s node ≡ Some notice) (before : is_before notice.stamp notice.origin f.0.stamp f.0.origin ≡ true) where
    ended : n.state ≡ Destroyed notice.stamp
    ended = key_destroyed sound right can is_message m is_sent y w n is at notice keyed

    not_dead : AllDead node x.handles ⊎ NoticeOf (discards x) node → ⊥
    not_dead dies =
        let h = stands in
        let gone = dead_behind x node rising_here dies h.0 h.1 h.2 in
        let both : true ≡ false = sym gone ∙ ap (λ z. z.dead) (sym h.3) ∙ undead in cc both

    removed_if : (k : Key) (i : ℕ) → Has x.queue (k, ForeignNotice node i) → key_before k f.0 ≡ true → Has (discards x) (k, ForeignNotice node i)
    removed_if k i inside low = before_removed can (up_queue sound right can is_message m is_sent) (k, ForeignNotice node i) inside low

    -- a notice that is still staged has a key below the destruction's stamp
    staged_low : (k : Key) (i : ℕ) → Has x.queue (k, ForeignNotice node i) → is_staged (k, ForeignNotice node i) ≡ true → k.stamp < notice.stamp
    staged_low k i inside staged = by e.doing refl
      where
        shape : NoticeShape s p x (k, ForeignNotice node i)
        shape = sound.notices.queued p x (k, ForeignNotice node i) can.is_peer inside

        in_phase : (command : Command) (phase : Phase) → e.doing ≡ Some (record { command = command; phase = phase }) → slice_get (doomed_of phase) i ≡ Some y.serial → DestructionShape w.peers w command phase
            → ((stamp : ℕ) → stamp_of_phase phase ≡ Some stamp → is_unstaging phase ≡ false → n.state ≡ Destroyed stamp → k.stamp < notice.stamp) → k.stamp < notice.stamp
        in_phase command (Visiting d left) is_open doomed shaped low = let state = sym ended ∙ sym (state_at sound right can is_message m is_sent y w n is at) ∙ (shaped.1.made y.serial (has_at d.doomed i y.serial doomed)).1 in absurd (cc state)
        in_phase command (Dooming d) is_open doomed shaped low = let state = sym ended ∙ sym (state_at sound right can is_message m is_sent y w n is at) ∙ (shaped.1.made y.serial (has_at d.doomed i y.serial doomed)).1 in absurd (cc state)
        in_phase command (SyncingNotices d stamp to) is_open doomed shaped low = low stamp refl refl (sym (state_at sound right can is_message m is_sent y w n is at) ∙ (shaped.1.made y.serial (has_at d.doomed i y.serial doomed)).1)
        in_phase command (CommittingOwn d stamp) is_open doomed shaped low = low stamp refl refl (sym (state_at sound right can is_message m is_sent y w n is at) ∙ (shaped.1.made y.serial (has_at d.doomed i y.serial doomed)).1)
        in_phase command (CommittingNotices d stamp to) is_open doomed shaped low = low stamp refl refl (sym (state_at sound right can is_message m is_sent y w n is at) ∙ (shaped.1.made y.serial (has_at d.doomed i y.serial doomed)).1)
        in_phase command phase is_open doomed shaped low = absurd (cc doomed)

        by : (doing : Option Doing) → e.doing ≡ doing → k.stamp < notice.stamp
        by None none =
            let there = (shape.3 e is_driver staged).1 in
            let nothing : None ≡ Some y.serial = sym (ap (λ z. slice_get (elim z [ None ↦ [] | Some one ↦ doomed_of one.phase ]) i) none) ∙ there in absurd (cc nothing)
        by (Some doing) is_open =
            in_phase doing.command doing.phase is_open
            (sym (ap (λ z. slice_get (elim z [ None ↦ [] | Some one ↦ doomed_of one.phase ]) i) is_open) ∙ (shape.3 e is_driver staged).1)
            (sound.notices.shape y.owner e w doing is_driver is is_open)
            (λ stamp fixed calm state.
            let low = right.clocks.staged.collected p x (k, ForeignNotice node i) e doing can.is_peer inside staged refl (subst (λ q. IsDriver s q e) (sym shape.0) is_driver) is_open calm in
            let high = right.clocks.above.above y.owner stamp e doing is_driver is_open fixed in
            let same = destroyed_stamp stamp notice.stamp (sym state ∙ ended) in
            omega (arith, low, high, same))

    no_notice : (k : Key) (i : ℕ) → Has x.queue (k, ForeignNotice node i) → (b : Bool) → is_staged (k, ForeignNotice node i) ≡ b → ⊥
    no_notice k i inside false committed =
        let same : k ≡ notice = same_Some k notice (sym (right.destructions.foreign.queued p i x k node can.is_peer inside committed) ∙ keyed) in
        not_dead (inr (k, i, removed_if k i inside (ap (λ z. key_before z f.0) same ∙ before_is_below notice f.0 before)))
    no_notice k i inside true staged =
        let low = staged_low k i inside staged in
        let high = stamp_low notice f.0 before in
        let removed = removed_if k i inside (before_is_below k f.0 (lower_stamp k f.0 (omega (arith, low, high)))) in
        let both : true ≡ false = sym staged ∙ (removed_is can (up_queue sound right can is_message m is_sent) (k, ForeignNotice node i) removed).0 in cc both

    -- a record that isn't dead is of no node that was destroyed before the send
    pub undead_soon : ⊥
    undead_soon =
        let state = state_at sound right can is_message m is_sent y w n is at ∙ ended in
        elim (right.holders.covered.carried p j x f node w e can.is_peer (has sound right can is_message m is_sent) there (ap (λ l. slice_get l j) (else_is (is_staged f) _ (slots_of f.1) can.committed) ∙ slotted) is is_driver (ap is_live state)) [
          | inl (inl noticed) ↦
              let h = noticed_stands node x.handles noticed in
              let q = right.parts.marks.queued p x h.0 can.is_peer h.1 (ap (λ z. z.notice) (sym h.3) ∙ noticed) in
              no_notice q.0 q.1 (subst (λ z. Has x.queue (q.0, ForeignNotice z q.1)) h.2 q.2) (is_staged (q.0, ForeignNotice node q.1)) refl
          | inl (inr dies) ↦ not_dead (inl (dead_all node x.handles rising_here dies))
          | inr dying ↦ let both : true ≡ false = sym dying.0 ∙ ap (λ z. is_dying (node_at w z.serial).state) (record_node node x.handles) ∙ ap is_dying state in cc both
        ]

  -- the node of a counted slot was destroyed before the send exactly where its record is dead
  pub attached_judged : late ≡ dead sound right can is_message m is_sent node
  attached_judged = either_is late (dead sound right can is_message m is_sent node) dead_late soon
    where
      soon : dead sound right can is_message m is_sent node ≡ false → late ≡ true → ⊥
      soon undead is_late =
          let k = late_key right y f.0 is_late in
          let e = get_there s.drivers y.owner (let low = slice_get_within s.peers y.owner w is in let many = sound.numbered.as_many_drivers in let peers = sound.numbered.as_many_peers in omega (arith, low, many, peers)) in
          undead_soon e.0 e.1 undead k.0 k.2 k.4
