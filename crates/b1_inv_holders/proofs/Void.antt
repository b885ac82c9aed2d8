-- A void slot is of a destroyed node, whose stamp is collected, and a committed message has a later one.
use Rattle.std.proofs.Common.{◌≡◌, ◌≢◌, refl, sym, ap, subst, ◌∙◌, inl, inr, ℕ, ◌<◌, ◌≤◌, nat_le, Bool, true, false, cond, List, [], ◌∷◌, get_or, Option, Some, None}
use Rattle.std.specs.Prelude.{slice_get}
use Rattle.std.specs.List.{All}
use Rattle.std.proofs.lemmas.Bool.{and_parts}
use Rattle.std.proofs.lemmas.Option.{same_Some, slice_get_within, get_or_from_slice_get}
use Rattle.std.proofs.lemmas.List.Elements.{All-get_or}
use native.Mathlib.Omega.{arith}
use Rattle.b1_model.specs.declared.commands.Command.{Command}
use Rattle.b1_model.specs.declared.commands.Command.TheVariants as cmd
use Rattle.b1_model.specs.declared.naming.Key.{Key}
use Rattle.b1_model.specs.declared.naming.NodeRef.{NodeRef}
use Rattle.b1_model.specs.declared.naming.Opening.{Opening}
use Rattle.b1_model.specs.declared.entries.Entry.{Entry}
use Rattle.b1_model.specs.declared.entries.Entry.TheVariants.{Message, OwnNotice, ForeignNotice, ReleaseNotice}
use Rattle.b1_model.specs.declared.parts.Attach.{Attach}
use Rattle.b1_model.specs.declared.parts.Attach.TheVariants as attach
use Rattle.b1_model.specs.declared.parts.NodeState.{NodeState}
use Rattle.b1_model.specs.declared.parts.NodeState.TheVariants.{Live, Dying, Destroyed}
use Rattle.b1_model.specs.declared.parts.Slot.{Slot}
use Rattle.b1_model.specs.declared.parts.Slot.TheVariants as slot
use Rattle.b1_model.specs.declared.events.Action.TheVariants as act
use Rattle.b1_model.specs.declared.events.Doing.{Doing}
use Rattle.b1_model.specs.declared.events.OwedDrop.{OwedDrop}
use Rattle.b1_model.specs.declared.events.Outcome.TheVariants as out
use Rattle.b1_model.specs.declared.events.Phase.{Phase}
use Rattle.b1_model.specs.declared.events.Phase.TheVariants.{Starting, Staging, Unstaging, Attaching, Stamping, Syncing, Committing, Visiting, CommittingOwn, CommittingNotices}
use Rattle.b1_model.specs.declared.events.Sending.{Sending}
use Rattle.b1_model.specs.MachineTables.{is_stage}
use Rattle.b1_model.specs.MachineParts.{PeerPart, DriverPart, State, carried, slots_of, node_at, is_data}
use Rattle.b1_model.specs.MachineSend.{attach_by, attach_answer, with_slots}
use Rattle.b1_model.specs.MachineDriver.{first_action, next_action, peer_of, node_of_place, no_ref}
use Rattle.b1_model.specs.MachineEvents.{begun_of, slots_at, collected_of}
use Rattle.b1_model.specs.MachineStep.{Step, opening_state}
use Rattle.b1_step.specs.Rights.{Has}
use Rattle.b1_step.proofs.Orders.{find_has}
use Rattle.b1_inv.specs.Words.{IsPeer, IsMade, is_accepted_place, waits_at, stamp_of_phase}
use Rattle.b1_inv.specs.Sends.{SendShape}
use Rattle.b1_inv.specs.Stages.{IsMessageOf}
use Rattle.b1_inv.specs.Sound.{IsSound}
use Rattle.b1_inv_record.specs.Clocks.{StampsAboveCollected}
use Rattle.b1_inv_record.specs.Holders.{VoidRight}
use Rattle.b1_inv_tools.proofs.Comes.{Comes, queue_comes}
use Rattle.b1_inv_tools.proofs.Facts.{accepted_within}
use Rattle.b1_inv_tools.proofs.Leaves.{driver_cases, peer_cases}
use Rattle.b1_inv_tools.proofs.Openings.{opening_idle}
use Rattle.b1_inv_sends.proofs.StagesKept.{opening_queue}
use Rattle.b1_inv_notices.proofs.Brings.{stage_is, notice_is}
use Rattle.b1_inv_notices.proofs.Turns.{doing_in, opened, answered, took_leaves, parts, going, going_doing, going_action, going_answer, get_there}
use Rattle.b1_inv_cover.proofs.Came.{stage_staged}
use Rattle.b1_inv_cover.proofs.Stamped.{peer_before, was_open}
use Rattle.b1_inv_holders.proofs.Ended.{made_ended}
use Rattle.b1_inv_holders.proofs.SlotTurns.{IsSlot, unattached, NewSlot, SlotIn, in_none, slot_turn}

-- a slot is void
abbrev IsVoid : List Slot → ℕ → Type 0
IsVoid slots j = IsSlot slot.Void slots j

apart : slot.Unattached ≢ slot.Void
apart is = absurd (cc is)

-- one of the nodes was made
made_one : (s : State) (nodes : List NodeRef) (j : ℕ) (node : NodeRef) → All (IsMade s) nodes → slice_get nodes j ≡ Some node → IsMade s node
made_one s nodes j node all is = subst (IsMade s) (get_or_from_slice_get nodes j node no_ref is) (All-get_or (IsMade s) nodes j no_ref (slice_get_within nodes j node is) all)

-- what a SEND carries was made
begun_made : (s : State) (command : Command) (phase : Phase) (j : ℕ) (node : NodeRef) → SendShape s command phase → slice_get (begun_of phase).with j ≡ Some node → IsMade s node
begun_made s command Starting j node shape is = absurd shape
begun_made s command (Staging begun places collected) j node shape is = made_one s begun.with j node shape.0.with is
begun_made s command (Unstaging begun places refused place) j node shape is = made_one s begun.with j node shape.0.with is
begun_made s command (Attaching sending place handle) j node shape is = made_one s sending.begun.with j node shape.0.begun.with is
begun_made s command (Stamping sending) j node shape is = made_one s sending.begun.with j node shape.begun.with is
begun_made s command (Syncing sending stamp place) j node shape is = made_one s sending.begun.with j node shape.0.begun.with is
begun_made s command (Committing sending stamp place) j node shape is = made_one s sending.begun.with j node shape.0.begun.with is
begun_made s command phase j node shape is = absurd (cc is)

-- ---- an attach

void_by : (state : NodeState) (own : Bool) (stamp : ℕ) → attach_by state own ≡ attach.Void stamp → state ≡ Destroyed stamp
void_by Live true stamp is = absurd (cc is)
void_by Live false stamp is = absurd (cc is)
void_by Dying true stamp is = absurd (cc is)
void_by Dying false stamp is = absurd (cc is)
void_by (Destroyed given) own stamp is = let same : given ≡ stamp = cc is in ap Destroyed same

module _ (o : Opening) (memory : Bool) (d : DriverPart) (command : Command) (x : PeerPart) where
  -- a node whose slot an attach makes void is destroyed at its owner, and its stamp is collected
  attach_void : (phase : Phase) (owed : List OwedDrop) (at j collected : ℕ) (node : NodeRef) → NewSlot slot.Void apart phase (answered o memory d command phase owed x).0 at j collected → slice_get (begun_of phase).with j ≡ Some node
      → (stamp : ℕ) × ((node_at x node.serial).state ≡ Destroyed stamp) × (stamp ≤ collected) × (peer_of d.me (next_action (opened d command phase owed)) ≡ node.owner)
  attach_void (Attaching sending place handle) [] at j collected node new is = by (attach_answer x (node_of_place sending.begun.with handle).serial (node_of_place sending.begun.to place).owner) refl new
    where
      by : (got : Attach) → attach_answer x (node_of_place sending.begun.with handle).serial (node_of_place sending.begun.to place).owner ≡ got → NewSlot slot.Void apart (Attaching sending place handle) (out.Attach got) at j collected
          → (stamp : ℕ) × ((node_at x node.serial).state ≡ Destroyed stamp) × (stamp ≤ collected) × ((node_of_place sending.begun.with handle).owner ≡ node.owner)
      by attach.Counted was none = absurd (cc none.2)
      by attach.Own was none = absurd (cc none.2)
      by (attach.Void stamp) was (there, here, filled, low) =
          let same : node_of_place sending.begun.with handle ≡ node = ap (node_of_place sending.begun.with) (sym here) ∙ get_or_from_slice_get sending.begun.with j node no_ref is in
          (stamp, ap (λ n. (node_at x n.serial).state) (sym same) ∙ void_by (node_at x (node_of_place sending.begun.with handle).serial).state _ stamp was, omega (arith, low), ap (λ n. n.owner) same)
  attach_void (Attaching sending place handle) (one ∷ rest) at j collected node new is = absurd new
  attach_void phase owed at j collected node new is = absurd new

-- ---- entries

no_slots : (e : Entry) (j : ℕ) → is_data e ≡ false → IsVoid (slots_of e) j → ⊥
no_slots (Message origin user index serial offset len nodes slots handles payload) j notice is = absurd (cc notice)
no_slots (OwnNotice serial index) j notice is = absurd (cc is)
no_slots (ForeignNotice node index) j notice is = absurd (cc is)
no_slots (ReleaseNotice serial) j notice is = absurd (cc is)

committed_slots : (slots : List Slot) (e : Entry) → is_data e ≡ true → (slots_of (with_slots slots e) ≡ slots) × (carried (with_slots slots e) ≡ carried e)
committed_slots slots (Message origin user index serial offset len nodes old handles payload) is = (refl, refl)
committed_slots slots (OwnNotice serial index) is = absurd (cc is)
committed_slots slots (ForeignNotice node index) is = absurd (cc is)
committed_slots slots (ReleaseNotice serial) is = absurd (cc is)

message_nodes : (o : Opening) (q : ℕ) (doing : Doing) (k : Key) (e : Entry) → IsMessageOf o q doing k e → carried e ≡ (begun_of doing.phase).with
message_nodes o q doing k (Message origin user index serial offset len nodes slots handles payload) h = h.4
message_nodes o q doing k (OwnNotice serial index) h = absurd h
message_nodes o q doing k (ForeignNotice node index) h = absurd h
message_nodes o q doing k (ReleaseNotice serial) h = absurd h

-- ---- a step

module _ {o : Opening} {s : State} {p : ℕ} {c : Option Command} {t : State} (sound : IsSound o s) (above : StampsAboveCollected s) (void : VoidRight s) (step : Step o s p c t) where
  is_me : step.driver.me ≡ p
  is_me = sound.numbered.drivers p step.driver step.is_driver

  -- a node's owner before the step
  owner_before : (node : NodeRef) (y : PeerPart) → IsPeer t node.owner y → (x : PeerPart) × IsPeer s node.owner x
  owner_before node y is = let k = peer_before step node.owner y is in (k.0, k.1)

  -- what is void at the stepping driver
  turned_void : (at j : ℕ) → SlotIn slot.Void apart (parts step).command (parts step).phase (going_answer step) at j step.new_driver.doing
  turned_void at j =
      subst (λ e. SlotIn slot.Void apart (parts step).command (parts step).phase (going_answer step) at j e.doing) (parts step).is_driver
      (took_leaves (SlotIn slot.Void apart (parts step).command (parts step).phase (going_answer step) at j) (parts step).command (λ phase may h. in_none slot.Void apart (parts step).command (parts step).phase (going_answer step) at j) step.driver (parts step).phase step.driver.owed (going_answer step)
      (slot_turn slot.Void apart (parts step).command at j step.driver.me (parts step).phase (going_answer step)))

  -- a command that carries a node was open
  open_of : (j : ℕ) (node : NodeRef) → slice_get (begun_of (parts step).phase).with j ≡ Some node → step.driver.doing ≡ Some (going_doing step)
  open_of j node is =
      elim (parts step).was [
        | inl open_is ↦ open_is
        | inr new ↦ let none : slice_get (begun_of Starting).with j ≡ Some node = ap (λ phase. slice_get (begun_of phase).with j) (sym new.1) ∙ is in absurd (cc none)
      ]

  abbrev Kept : NodeRef → PeerPart → ℕ → Type 0
  Kept node y collected = (stamp : ℕ) × ((node_at y node.serial).state ≡ Destroyed stamp) × (stamp ≤ collected)

  kept_own : (at j : ℕ) (doing : Doing) (to node : NodeRef) (y : PeerPart) → step.new_driver.doing ≡ Some doing → slice_get (begun_of doing.phase).to at ≡ Some to → slice_get (begun_of doing.phase).with j ≡ Some node → IsVoid (slots_at doing.phase at) j
      → IsPeer t node.owner y → Kept node y (collected_of doing.phase)
  kept_own at j doing to node y is to_is node_is is_void is_peer =
      let k = turned_void at j doing is is_void in
      let node_before : slice_get (begun_of (parts step).phase).with j ≡ Some node = ap (λ b. slice_get b.with j) (sym k.0) ∙ node_is in
      let to_before : slice_get (begun_of (parts step).phase).to at ≡ Some to = ap (λ b. slice_get b.to at) (sym k.0) ∙ to_is in
      let open_is = open_of j node node_before in
      let x = owner_before node y is_peer in
      let made = begun_made s (parts step).command (parts step).phase j node (sound.sends.shape p step.driver (going_doing step) step.is_driver open_is) node_before in
      elim k.2 [
        | inl old ↦
            let before = void.kept p at j step.driver (going_doing step) to node x.0 step.is_driver open_is to_before node_before old x.1 in
            (before.0, made_ended sound step node x.0 y before.0 made x.1 is_peer before.1, let low = before.2 in let more = k.1 in omega (arith, low, more))
        | inr new ↦
            let now = attach_void o step.local.memory step.driver (parts step).command step.peer (parts step).phase step.driver.owed at j (collected_of doing.phase) node new node_before in
            let here : step.at ≡ node.owner = sym (parts step).is_at ∙ now.3 in
            (now.0, made_ended sound step node step.peer y now.0 made (subst (λ q. IsPeer s q step.peer) here step.is_peer) is_peer now.1, now.2)
      ]

  abbrev Queued : NodeRef → PeerPart → Key × Entry → Type 0
  Queued node y f = (stamp : ℕ) × ((node_at y node.serial).state ≡ Destroyed stamp) × (stamp < f.0.stamp)

  -- an entry that stood there
  queued_old : (q j : ℕ) (x : PeerPart) (f : Key × Entry) (node : NodeRef) (y : PeerPart) → IsPeer s q x → Has x.queue f → slice_get (carried f.1) j ≡ Some node → IsVoid (slots_of f.1) j → IsPeer t node.owner y → Queued node y f
  queued_old q j x f node y is_peer h node_is is_void is =
      let z = owner_before node y is in
      let before = void.queued q j x f node z.0 is_peer h node_is is_void z.1 in
      (before.0, made_ended sound step node z.0 y before.0 (made_one s (carried f.1) j node (sound.slots.made q x f is_peer h) node_is) z.1 is before.1, before.2)

  -- a commit
  at_commit : (sending : Sending) (stamp place : ℕ) (j : ℕ) (f g : Key × Entry) (node : NodeRef) (y : PeerPart) → step.driver.doing ≡ Some (doing_in (parts step).command (Committing sending stamp place)) → Has step.peer.queue g → is_stage step.driver.me place g ≡ true
      → f ≡ (record { stamp = stamp; origin = step.driver.me; index = place }, with_slots (get_or sending.slots place []) g.1) → slice_get (carried f.1) j ≡ Some node → IsVoid (slots_of f.1) j → IsPeer t node.owner y → Queued node y f
  at_commit sending stamp place j f g node y open_is there stage same node_is is_void is =
      let doing : Doing = doing_in (parts step).command (Committing sending stamp place) in
      let is_stage_of = stage_is step.driver.me place g stage in
      let k = sound.stages.sender step.at step.peer g step.is_peer there is_stage_of.0 (stage_staged step.driver.me place g stage) in
      let same_driver : k.driver ≡ step.driver = same_Some k.driver step.driver (sym k.is_driver ∙ ap (slice_get s.drivers) (is_stage_of.1 ∙ is_me) ∙ step.is_driver) in
      let same_doing : k.doing ≡ doing = same_Some k.doing doing (sym k.is_open ∙ ap (λ e. e.doing) same_driver ∙ open_is) in
      let waits : waits_at (Committing sending stamp place) place ≡ true = sym (ap (λ z. waits_at z.phase place) same_doing) ∙ ap (waits_at k.doing.phase) (sym is_stage_of.2) ∙ k.waits in
      let accepted = (and_parts (nat_le place place) (is_accepted_place sending.places place) waits).1 in
      let within = accepted_within sending.places place accepted in
      let shape = sound.sends.shape p step.driver doing step.is_driver open_is in
      let count = shape.0.places in
      let to = get_there sending.begun.to place (omega (arith, within, count)) in
      let parts_are = committed_slots (get_or sending.slots place []) g.1 is_stage_of.0 in
      let node_before : slice_get sending.begun.with j ≡ Some node = ap (λ l. slice_get l j) (sym (ap (λ h. carried h.1) same ∙ parts_are.1 ∙ message_nodes o step.at k.doing g.0 g.1 k.message ∙ ap (λ z. (begun_of z.phase).with) same_doing)) ∙ node_is in
      let void_before : IsVoid (get_or sending.slots place []) j = ap (λ l. slice_get l j) (sym (ap (λ h. slots_of h.1) same ∙ parts_are.0)) ∙ is_void in
      let z = owner_before node y is in
      let before = void.kept p place j step.driver doing to.0 node z.0 step.is_driver open_is to.1 node_before void_before z.1 in
      let high = above.above p stamp step.driver doing step.is_driver open_is refl in
      let stamp_is = ap (λ h. h.0.stamp) same in
      let low = before.2 in
      (before.0, made_ended sound step node z.0 y before.0 (begun_made s (parts step).command (Committing sending stamp place) j node shape node_before) z.1 is before.1, omega (arith, low, high, stamp_is))

  notice_void : (f : Key × Entry) (j : ℕ) (node : NodeRef) (y : PeerPart) → is_data f.1 ≡ false → IsVoid (slots_of f.1) j → Queued node y f
  notice_void f j node y notice is = absurd (no_slots f.1 j notice is)

  -- an entry that comes
  first_new : (shut : Bool) (begins : Command) (j : ℕ) (f : Key × Entry) (node : NodeRef) (y : PeerPart) → Comes o (opened step.driver (parts step).command Starting []) (doing_in (parts step).command Starting) step.peer (cond shut act.Local (first_action begins)) f
      → IsVoid (slots_of f.1) j → Queued node y f
  first_new true begins j f node y new is_void = absurd new
  first_new false (cmd.Destroy numbers) j f node y (index, serial, doomed, same, accepted) is_void = notice_void f j node y (ap (λ z. is_data z.1) same) is_void
  first_new false (cmd.Reset limits) j f node y (index, serial, doomed, same, accepted) is_void = notice_void f j node y (ap (λ z. is_data z.1) same) is_void
  first_new false cmd.Disconnect j f node y (index, serial, doomed, same, accepted) is_void = notice_void f j node y (ap (λ z. is_data z.1) same) is_void
  first_new false begins j f node y new is_void = absurd new

  queued_new : (phase : Phase) (owed : List OwedDrop) (j : ℕ) (f : Key × Entry) (node : NodeRef) (y : PeerPart) → ((stamp : ℕ) → stamp_of_phase phase ≡ Some stamp → step.driver.doing ≡ Some (doing_in (parts step).command phase))
      → Comes o (opened step.driver (parts step).command phase owed) (doing_in (parts step).command phase) step.peer (next_action (opened step.driver (parts step).command phase owed)) f
      → slice_get (carried f.1) j ≡ Some node → IsVoid (slots_of f.1) j → IsPeer t node.owner y → Queued node y f
  queued_new phase (one ∷ rest) j f node y open_is (same, due) node_is is_void is = notice_void f j node y (ap (λ z. is_data z.1) same) is_void
  queued_new Starting [] j f node y open_is new node_is is_void is = first_new step.driver.shut (parts step).command j f node y new is_void
  queued_new (Staging begun places collected) [] j f node y open_is new node_is is_void is = absurd (unattached slot.Void apart begun.with j (ap (λ g. slice_get (slots_of g.1) j) (sym new) ∙ is_void))
  queued_new (Visiting destruction left) [] j f node y open_is (index, serial, doomed, same) node_is is_void is = notice_void f j node y (ap (λ z. is_data z.1) same) is_void
  queued_new (Committing sending stamp place) [] j f node y open_is (g, found, same) node_is is_void is =
      let there = find_has (is_stage step.driver.me place) step.peer.queue g found in
      at_commit sending stamp place j f g node y (open_is stamp refl) there.0 there.1 same node_is is_void is
  queued_new (CommittingOwn destruction stamp) [] j f node y open_is (g, has, notice, same) node_is is_void is = notice_void f j node y (ap (λ z. is_data z.1) same ∙ (notice_is step.driver.me g notice).0) is_void
  queued_new (CommittingNotices destruction stamp place) [] j f node y open_is (g, has, notice, same) node_is is_void is = notice_void f j node y (ap (λ z. is_data z.1) same ∙ (notice_is step.driver.me g notice).0) is_void
  queued_new phase [] j f node y open_is new node_is is_void is = absurd new

  queued_here : (j : ℕ) (f : Key × Entry) (node : NodeRef) (y : PeerPart) → Has step.new_peer.queue f → slice_get (carried f.1) j ≡ Some node → IsVoid (slots_of f.1) j → IsPeer t node.owner y → Queued node y f
  queued_here j f node y h node_is is_void is =
      elim (queue_comes o (going step) (going_doing step) f step.local.memory (going_action step) step.peer (subst (λ z. Has z.queue f) (sym (parts step).is_peer) h)) [
        | inl old ↦ queued_old step.at j step.peer f node y step.is_peer old.0 node_is is_void is
        | inr new ↦ queued_new (parts step).phase step.driver.owed j f node y (was_open step) new node_is is_void is
      ]

  pub void_kept : VoidRight t
  void_kept = record {
    kept = λ r at j e doing to node y is_driver is to_is node_is is_void is_peer. elim (driver_cases step r e is_driver) [
      | inl own ↦ kept_own at j doing to node y (ap (λ d. d.doing) (sym own.1) ∙ is) to_is node_is is_void is_peer
      | inr other ↦
          let x = owner_before node y is_peer in
          let before = void.kept r at j e doing to node x.0 other.1 is to_is node_is is_void x.1 in
          (before.0, made_ended sound step node x.0 y before.0 (begun_made s doing.command doing.phase j node (sound.sends.shape r e doing other.1 is) node_is) x.1 is_peer before.1, before.2)
    ];
    queued = λ q j x f node y is_peer h node_is is_void is. elim (peer_cases step q x is_peer) [
      | inl here ↦ queued_here j f node y (subst (λ z. Has z.queue f) here.1 h) node_is is_void is
      | inr other ↦ queued_old q j x f node y other.1 h node_is is_void is
    ];
  }

pub void_begins : (o : Opening) → VoidRight (opening_state o)
void_begins o = record {
  kept = λ p at j d doing to node y is_driver is to_is node_is is_void is_peer. let none : Some doing ≡ None = sym is ∙ ap (λ e. e.doing) (opening_idle o p d is_driver) in absurd (cc none);
  queued = λ q j x f node y is_peer h node_is is_void is. absurd (subst (λ queue. Has queue f) (opening_queue o q x is_peer) h);
}
