-- A waiting place of a SEND at a node of the present epoch has its staged message, over a step.
use Rattle.std.proofs.Common.{◌≡◌, ◌≢◌, refl, sym, ap, subst, ◌∙◌, inl, inr, ℕ, ◌%◌, ◌<◌, ◌≤◌, Bool, true, false, cond, List, [], ◌∷◌, length, Option, Some, None}
use Rattle.std.specs.Prelude.{slice_get, ◌&&◌, ◌==◌, not}
use Rattle.std.proofs.lemmas.Bool.{eq-eqb}
use Rattle.std.proofs.lemmas.Option.{same_Some, get_or_from_slice_get}
use native.Mathlib.Omega.{arith}
use Rattle.b1_model.specs.declared.commands.Command.{Command}
use Rattle.b1_model.specs.declared.commands.Command.TheVariants as cmd
use Rattle.b1_model.specs.declared.naming.Key.{Key}
use Rattle.b1_model.specs.declared.naming.NodeRef.{NodeRef}
use Rattle.b1_model.specs.declared.naming.Opening.{Opening}
use Rattle.b1_model.specs.declared.answers.Reason.{Reason}
use Rattle.b1_model.specs.declared.parts.Begun.{Begun}
use Rattle.b1_model.specs.declared.entries.Entry.{Entry}
use Rattle.b1_model.specs.declared.entries.Entry.TheVariants.{Message, OwnNotice, ForeignNotice, ReleaseNotice}
use Rattle.b1_model.specs.declared.events.Action.{Action}
use Rattle.b1_model.specs.declared.events.Action.TheVariants as act
use Rattle.b1_model.specs.declared.events.Doing.{Doing}
use Rattle.b1_model.specs.declared.events.OwedDrop.{OwedDrop}
use Rattle.b1_model.specs.declared.events.Phase.{Phase}
use Rattle.b1_model.specs.declared.events.Phase.TheVariants.{Starting, Staging, Unstaging, Attaching, Stamping, Syncing, Committing, CommittingOwn, CommittingNotices, Flushing}
use Rattle.b1_model.specs.MachineParts.{PeerPart, DriverPart, State, is_staged, is_data}
use Rattle.b1_model.specs.MachineOrder.{is_any_release_notice}
use Rattle.b1_model.specs.MachineTables.{is_stage, is_staged_notice}
use Rattle.b1_model.specs.MachineSend.{stage_refusal}
use Rattle.b1_model.specs.MachineDriver.{first_action, next_action, peer_of, no_ref, node_of_place, send_of}
use Rattle.b1_model.specs.MachineEvents.{happens, stage_by, begun_of, user_of}
use Rattle.b1_model.specs.MachineStep.{Step, opening_state}
use Rattle.b1_step.specs.Rights.{Has}
use Rattle.b1_step.proofs.Lists.{has_at, has_all}
use Rattle.b1_step.proofs.Queues.{has_put_new}
use Rattle.b1_inv.specs.Words.{IsPeer, IsDriver, IsMade, waits_at}
use Rattle.b1_inv.specs.Sends.{IsBegun, SendShape}
use Rattle.b1_inv.specs.Sound.{IsSound}
use Rattle.b1_inv_record.specs.Entries.{PendingIsStaged}
use Rattle.b1_inv_record.specs.Epochs.{first_now}
use Rattle.b1_inv_record.specs.Right.{IsRight}
use Rattle.b1_inv_tools.proofs.Comes.{staged_message, leaves}
use Rattle.b1_inv_tools.proofs.Leaves.{driver_cases, peer_cases}
use Rattle.b1_inv_tools.proofs.Openings.{opening_idle}
use Rattle.b1_inv_sends.proofs.Once.{stage_parts}
use Rattle.b1_inv_notices.proofs.Brings.{odd_is}
use Rattle.b1_inv_notices.proofs.Turns.{doing_in, opened, answered, parts, going, going_doing, going_action}
use Rattle.b1_inv_destroys.proofs.FirstNode.{is_flush_action}
use Rattle.b1_inv_destroys.proofs.Keyed.{stage_is_message}
use Rattle.b1_inv_destroys.proofs.Nodes.{is_recv}
use Rattle.b1_inv_entries.proofs.FirstNow.{first_now_grows, flush_first}
use Rattle.b1_inv_entries.proofs.Keeping.{queue_keeps, recv_staged}
use Rattle.b1_inv_entries.proofs.Pending.{Passed, Placed, place_waited}

-- ---- the nodes of a waiting SEND were made

pub begun_shape : (s : State) (command : Command) (phase : Phase) (at : ℕ) → SendShape s command phase → waits_at phase at ≡ true → IsBegun s command (begun_of phase)
begun_shape s command (Staging begun places collected) at shape is = shape.0
begun_shape s command (Unstaging begun places refused place) at shape is = shape.0
begun_shape s command (Attaching sending place slot) at shape is = shape.0.begun
begun_shape s command (Stamping sending) at shape is = shape.begun
begun_shape s command (Syncing sending stamp place) at shape is = shape.0.begun
begun_shape s command (Committing sending stamp place) at shape is = shape.0.begun
begun_shape s command phase at shape is = absurd (cc is)

-- ---- staged messages

pub stage_lasts : (f : Key × Entry) → is_data f.1 ≡ true → is_any_release_notice f ≡ false
stage_lasts (k, Message origin user index serial offset len nodes slots handles payload) is = refl
stage_lasts (k, OwnNotice serial index) is = absurd (cc is)
stage_lasts (k, ForeignNotice node index) is = absurd (cc is)
stage_lasts (k, ReleaseNotice serial) is = absurd (cc is)

no_notice : (origin : ℕ) (f : Key × Entry) → is_data f.1 ≡ true → is_staged_notice origin f ≡ false
no_notice origin f is = ap (λ b. not b && is_staged f && (f.0.origin == origin)) is

-- of another origin or place it is another stage
stage_apart : (origin other index place : ℕ) (f : Key × Entry) → is_stage origin index f ≡ true → ((origin ≡ other) → (index ≡ place) → ⊥) → is_stage other place f ≡ false
stage_apart origin other index place f is apart = by (is_stage other place f) refl
  where
    by : (b : Bool) → is_stage other place f ≡ b → b ≡ false
    by false same = refl
    by true same =
        let one = stage_parts origin index f is in
        let two = stage_parts other place f same in
        absurd (apart (sym one.origin_is ∙ two.origin_is) (sym one.index_is ∙ two.index_is))

module _ (d : DriverPart) (f : Key × Entry) where
  -- an event takes out no staged message of another driver
  other_leaves : (r at : ℕ) (action : Action) → is_stage r at f ≡ true → r ≢ d.me → leaves d action f ≡ false
  other_leaves r at (act.Unstage peer place) is apart = stage_apart r d.me at place f is (λ same index. apart same)
  other_leaves r at (act.Commit peer place stamp) is apart = stage_apart r d.me at place f is (λ same index. apart same)
  other_leaves r at (act.CommitNotices peer stamp) is apart = no_notice d.me f (stage_is_message r at f is)
  other_leaves r at action is apart = refl

first_leaves : (d : DriverPart) (f : Key × Entry) (shut : Bool) (command : Command) → leaves d (cond shut act.Local (first_action command)) f ≡ false
first_leaves d f true command = refl
first_leaves d f false cmd.Disconnect = refl
first_leaves d f false cmd.Query = refl
first_leaves d f false (cmd.Limit limits) = refl
first_leaves d f false (cmd.Reset limits) = refl
first_leaves d f false (cmd.Release number) = refl
first_leaves d f false (cmd.Destroy numbers) = refl
first_leaves d f false (cmd.SliceRelease offset) = refl
first_leaves d f false (cmd.Send c) = refl
first_leaves d f false cmd.Recv = refl
first_leaves d f false cmd.Await = refl

first_calm : (shut : Bool) (command : Command) → is_flush_action (cond shut act.Local (first_action command)) ≡ true → ⊥
first_calm true command is = cc is
first_calm false cmd.Disconnect is = cc is
first_calm false cmd.Query is = cc is
first_calm false (cmd.Limit limits) is = cc is
first_calm false (cmd.Reset limits) is = cc is
first_calm false (cmd.Release number) is = cc is
first_calm false (cmd.Destroy numbers) is = cc is
first_calm false (cmd.SliceRelease offset) is = cc is
first_calm false (cmd.Send c) is = cc is
first_calm false cmd.Recv is = cc is
first_calm false cmd.Await is = cc is

-- a flush is next in its phase alone
pub flush_phase : (d : DriverPart) (command : Command) (phase : Phase) (owed : List OwedDrop) → is_flush_action (next_action (opened d command phase owed)) ≡ true → (stamp : Option ℕ) × (phase ≡ Flushing stamp)
flush_phase d command phase (one ∷ rest) is = absurd (cc is)
flush_phase d command Starting [] is = absurd (first_calm d.shut command is)
flush_phase d command (Flushing stamp) [] is = (stamp, refl)
flush_phase d command phase [] is = absurd (cc is)

module _ (o : Opening) (memory : Bool) (d : DriverPart) (command : Command) (x : PeerPart) (at : ℕ) where
  -- an event that isn't that of a place leaves its message
  passed_leaves : (f : Key × Entry) (phase : Phase) (owed : List OwedDrop) → is_stage d.me at f ≡ true → Passed phase (answered o memory d command phase owed x).0 at → leaves (opened d command phase owed) (next_action (opened d command phase owed)) f ≡ false
  passed_leaves f phase (one ∷ rest) is passed = refl
  passed_leaves f Starting [] is passed = first_leaves (opened d command Starting []) f d.shut command
  passed_leaves f (Unstaging begun places refused place) [] is passed = stage_apart d.me d.me at place f is (λ same index. omega (arith, passed, index))
  passed_leaves f (Committing sending stamp place) [] is passed = stage_apart d.me d.me at place f is (λ same index. omega (arith, passed, index))
  passed_leaves f (CommittingOwn destruction stamp) [] is passed = no_notice d.me f (stage_is_message d.me at f is)
  passed_leaves f (CommittingNotices destruction stamp place) [] is passed = no_notice d.me f (stage_is_message d.me at f is)
  passed_leaves f phase [] is passed = refl

  -- a staged message of a place in the queue of a part
  abbrev pub IsThere : PeerPart → Type 0
  IsThere y = (f : Key × Entry) × Has y.queue f × (is_stage d.me at f ≡ true)

  new_stage : (user serial : ℕ) (payload : List ℕ) (nodes : List NodeRef) → x.clock % 2 ≡ 0 → is_stage d.me at (staged_message d.me user at serial payload nodes x) ≡ true
  new_stage user serial payload nodes even = rw (odd_is x.clock even, eq-eqb d.me d.me refl, eq-eqb at at refl) refl

  at_stage : (r : Option Reason) (wants : Bool) (begun : Begun) (places : List (Option Reason)) (collected user serial : ℕ) (payload : List ℕ) (nodes : List NodeRef) (after : Begun) → x.clock % 2 ≡ 0
      → Placed (Staging begun places collected) (stage_by r wants d.me user (length places) serial payload nodes x).0 at after
      → IsThere (stage_by r wants d.me user (length places) serial payload nodes x).1 × (at ≡ length places) × (after ≡ begun)
  at_stage (Some r) wants begun places collected user serial payload nodes after even placed = absurd placed
  at_stage None true begun places collected user serial payload nodes after even placed = absurd placed
  at_stage None false begun places collected user serial payload nodes after even placed = (
    (
      staged_message d.me user (length places) serial payload nodes x,
      has_put_new _ _ x.queue,
      subst (λ n. is_stage d.me at (staged_message d.me user n serial payload nodes x) ≡ true) placed.0 (new_stage user serial payload nodes even),
    ),
    placed.0,
    placed.1,
  )

  -- an event that stages a place's message does so at the place's node
  pub placed_there : (phase : Phase) (owed : List OwedDrop) (after : Begun) → x.clock % 2 ≡ 0 → Placed phase (answered o memory d command phase owed x).0 at after
      → IsThere (answered o memory d command phase owed x).1 × (peer_of d.me (next_action (opened d command phase owed)) ≡ (node_of_place after.to at).owner)
  placed_there (Staging begun places collected) [] after even placed =
      let k = at_stage (stage_refusal x (user_of o d.me) (node_of_place begun.to (length places)).serial (length (send_of command).payload) (length begun.with)) memory begun places collected (user_of o d.me) (node_of_place begun.to (length places)).serial (send_of command).payload begun.with after even placed in
      (k.0, ap (λ n. (node_of_place begun.to n).owner) (sym k.1) ∙ ap (λ b. (node_of_place b.to at).owner) (sym k.2))
  placed_there (Staging begun places collected) (one ∷ rest) after even placed = absurd placed
  placed_there phase owed after even placed = absurd placed

-- ---- a step

module _ {o : Opening} {s : State} {p : ℕ} {c : Option Command} {t : State} (sound : IsSound o s) (right : IsRight o s) (step : Step o s p c t) where
  me_is : step.driver.me ≡ p
  me_is = sound.numbered.drivers p step.driver step.is_driver

  -- a staged message at the event's peer that the event doesn't take out stays, where no flush is done
  stays : (f : Key × Entry) → is_data f.1 ≡ true → is_staged f ≡ true → leaves (going step) (going_action step) f ≡ false → is_flush_action (going_action step) ≡ false → Has step.peer.queue f → Has step.new_peer.queue f
  stays f data_is odd apart calm has = subst (λ y. Has y.queue f) (parts step).is_peer (by (is_recv (going_action step)) refl)
    where
      received : (action : Action) → is_recv action ≡ true → Has (happens o step.local.memory (going step) (going_doing step) action step.peer).1.queue f
      received act.Recv is = recv_staged step.peer f odd has
      received action is = absurd (cc is)

      by : (b : Bool) → is_recv (going_action step) ≡ b → Has (happens o step.local.memory (going step) (going_doing step) (going_action step) step.peer).1.queue f
      by true is = received (going_action step) is
      by false is = queue_keeps f (stage_lasts f data_is) o step.local.memory (going step) (going_doing step) step.peer has (going_action step) apart is calm

  -- at a flush no node of its peer is of the present epoch
  pub flush_apart : (stamp : Option ℕ) (serial : ℕ) → (parts step).phase ≡ Flushing stamp → step.at ≡ p → serial < length step.peer.nodes → first_now o s step.at ≤ serial → ⊥
  flush_apart stamp serial is here made low = elim (parts step).was [
    | inl open_is ↦
        let all = flush_first right.names.made p step.driver step.peer step.is_driver (subst (λ q. IsPeer s q step.peer) here step.is_peer) (parts step).command stamp (open_is ∙ ap (λ z. Some (doing_in (parts step).command z)) is) in
        let same = ap (first_now o s) here in omega (arith, all, made, low, same)
    | inr new ↦ let no : is_flushing_phase (Flushing stamp) ≡ is_flushing_phase Starting = ap is_flushing_phase (sym is ∙ new.1) in absurd (cc no)
  ]
    where
      is_flushing_phase : Phase → Bool
      is_flushing_phase (Flushing at) = true
      is_flushing_phase phase = false

  pub flush_here : (action : Action) → is_flush_action action ≡ true → peer_of step.driver.me action ≡ step.at → step.at ≡ p
  flush_here act.Flush is at = sym at ∙ me_is
  flush_here action is at = absurd (cc is)

  made_there : (r at : ℕ) (d : DriverPart) (doing : Doing) (node : NodeRef) (x : PeerPart) → IsDriver s r d → d.doing ≡ Some doing → slice_get (begun_of doing.phase).to at ≡ Some node → waits_at doing.phase at ≡ true → IsPeer s node.owner x → node.serial < length x.nodes
  made_there r at d doing node x is_driver is_open is waits is_peer =
      let begun = begun_shape s doing.command doing.phase at (sound.sends.shape r d doing is_driver is_open) waits in
      let made = has_all (IsMade s) (begun_of doing.phase).to node begun.to (has_at (begun_of doing.phase).to at node is) in
      let same : made.0 ≡ x = same_Some made.0 x (sym made.1 ∙ is_peer) in
      let low = made.2 in let count = ap (λ z. length z.nodes) same in omega (arith, low, count)

  -- a place that waited at the event's peer
  still_there : (r at : ℕ) (d : DriverPart) (doing : Doing) (node : NodeRef) → IsDriver s r d → d.doing ≡ Some doing → slice_get (begun_of doing.phase).to at ≡ Some node → waits_at doing.phase at ≡ true → node.owner ≡ step.at → first_now o s node.owner ≤ node.serial
      → ((f : Key × Entry) → is_stage r at f ≡ true → leaves (going step) (going_action step) f ≡ false) → (f : Key × Entry) × Has step.new_peer.queue f × (is_stage r at f ≡ true)
  still_there r at d doing node is_driver is_open is waits here low apart =
      let is_peer : IsPeer s node.owner step.peer = subst (λ q. IsPeer s q step.peer) (sym here) step.is_peer in
      let old = right.entries.pending.staged r at d doing node step.peer is_driver is_open is waits is_peer low in
      (old.0, by (is_flush_action (going_action step)) refl is_peer old, old.2)
    where
      by : (b : Bool) → is_flush_action (going_action step) ≡ b → IsPeer s node.owner step.peer → (old : (f : Key × Entry) × Has step.peer.queue f × (is_stage r at f ≡ true)) → Has step.new_peer.queue old.0
      by false calm is_peer old = let k = stage_parts r at old.0 old.2 in stays old.0 k.message k.staged (apart old.0 old.2) calm old.1
      by true flush is_peer old =
          let phase = flush_phase step.driver (parts step).command (parts step).phase step.driver.owed flush in
          absurd (flush_apart phase.0 node.serial phase.1 (flush_here (going_action step) flush (parts step).is_at) (made_there r at d doing node step.peer is_driver is_open is waits is_peer) (subst (λ q. first_now o s q ≤ node.serial) here low))

  by_old : (r at : ℕ) (d : DriverPart) (doing : Doing) (node : NodeRef) (x : PeerPart) → IsDriver s r d → d.doing ≡ Some doing → slice_get (begun_of doing.phase).to at ≡ Some node → waits_at doing.phase at ≡ true → IsPeer t node.owner x → first_now o t node.owner ≤ node.serial
      → ((f : Key × Entry) → is_stage r at f ≡ true → leaves (going step) (going_action step) f ≡ false) → (f : Key × Entry) × Has x.queue f × (is_stage r at f ≡ true)
  by_old r at d doing node x is_driver is_open is waits is_peer low apart =
      let before = first_now_grows sound step node.owner in
      elim (peer_cases step node.owner x is_peer) [
        | inr other ↦ right.entries.pending.staged r at d doing node x is_driver is_open is waits other.1 (omega (arith, before, low))
        | inl here ↦ subst (λ y. (f : Key × Entry) × Has y.queue f × (is_stage r at f ≡ true)) (sym here.1) (still_there r at d doing node is_driver is_open is waits here.0 (omega (arith, before, low)) apart)
      ]

  own_waiting : (at : ℕ) (doing : Doing) (node : NodeRef) (x : PeerPart) → step.new_driver.doing ≡ Some doing → slice_get (begun_of doing.phase).to at ≡ Some node → waits_at doing.phase at ≡ true → IsPeer t node.owner x → first_now o t node.owner ≤ node.serial
      → (f : Key × Entry) × Has x.queue f × (is_stage p at f ≡ true)
  own_waiting at doing node x is_open is waits is_peer low = elim (place_waited step at doing is_open waits) [
    | inl (old, begun, passed) ↦ elim (parts step).was [
      | inr new ↦ let no : false ≡ true = ap (λ z. waits_at z at) (sym new.1) ∙ old in absurd (cc no)
      | inl was ↦
          by_old p at step.driver (going_doing step) node x step.is_driver was (ap (λ b. slice_get b.to at) (sym begun) ∙ is) old is_peer low
          (λ f stage. passed_leaves o step.local.memory step.driver (parts step).command step.peer at f (parts step).phase step.driver.owed (subst (λ r. is_stage r at f ≡ true) (sym me_is) stage) passed)
    ]
    | inr placed ↦
        let k = placed_there o step.local.memory step.driver (parts step).command step.peer at (parts step).phase step.driver.owed (begun_of doing.phase) (sound.clocks.clock step.at step.peer step.is_peer).0 placed in
        let same : node_of_place (begun_of doing.phase).to at ≡ node = get_or_from_slice_get (begun_of doing.phase).to at node no_ref is in
        let here : node.owner ≡ step.at = ap (λ n. n.owner) (sym same) ∙ sym k.1 ∙ (parts step).is_at in
        elim (peer_cases step node.owner x is_peer) [
          | inr other ↦ absurd (other.0 here)
          | inl there ↦ (k.0.0, subst (λ y. Has y.queue k.0.0) ((parts step).is_peer ∙ sym there.1) k.0.1, subst (λ r. is_stage r at k.0.0 ≡ true) me_is k.0.2)
        ]
  ]

  pub pending_staged : PendingIsStaged o t
  pending_staged = record {
    staged = λ r at d doing node x is_driver is_open is waits is_peer low. elim (driver_cases step r d is_driver) [
      | inr other ↦ by_old r at d doing node x other.1 is_open is waits is_peer low (λ f stage. other_leaves (going step) f r at (going_action step) stage (λ same. other.0 (same ∙ me_is)))
      | inl own ↦
          let k = own_waiting at doing node x (ap (λ e. e.doing) (sym own.1) ∙ is_open) is waits is_peer low in
          (k.0, k.1, subst (λ q. is_stage q at k.0 ≡ true) (sym own.0) k.2)
    ];
  }

pub pending_begins : (o : Opening) → PendingIsStaged o (opening_state o)
pending_begins o = record { staged = λ p at d doing node x is_driver is_open is waits is_peer low. let none : None ≡ Some doing = ap (λ e. e.doing) (sym (opening_idle o p d is_driver)) ∙ is_open in absurd (cc none) }
