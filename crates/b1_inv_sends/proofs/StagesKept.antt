-- Each staged message keeps its open SEND through each step, and each place stands staged once.
use Rattle.std.proofs.Common.{◌≡◌, ◌≢◌, ◌⊎◌, refl, sym, ap, ◌∙◌, inl, inr, subst, ℕ, ◌%◌, Bool, true, false, cond, List, [], ◌∷◌, length, Option, Some, Ok}
use Rattle.std.proofs.lemmas.Bool.{cases_eq, false_from_ne_true, ne_eqb}
use Rattle.std.proofs.lemmas.Option.{same_Some}
use native.Mathlib.Omega.{arith}
use Rattle.b1_model.specs.declared.naming.Key.{Key}
use Rattle.b1_model.specs.declared.naming.NodeRef.{NodeRef}
use Rattle.b1_model.specs.declared.naming.Opening.{Opening}
use Rattle.b1_model.specs.declared.commands.Command.{Command}
use Rattle.b1_model.specs.declared.commands.Command.TheVariants as cmd
use Rattle.b1_model.specs.declared.entries.Entry.{Entry}
use Rattle.b1_model.specs.declared.entries.Entry.TheVariants.{Message, OwnNotice, ForeignNotice, ReleaseNotice}
use Rattle.b1_model.specs.declared.events.Action.{Action}
use Rattle.b1_model.specs.declared.events.Action.TheVariants as act
use Rattle.b1_model.specs.declared.events.Outcome.TheVariants as out
use Rattle.b1_model.specs.declared.events.Doing.{Doing}
use Rattle.b1_model.specs.declared.events.OwedDrop.{OwedDrop}
use Rattle.b1_model.specs.declared.events.Phase.{Phase}
use Rattle.b1_model.specs.declared.events.Phase.TheVariants.{Starting, Staging, Committing}
use Rattle.b1_model.specs.MachineParts.{PeerPart, DriverPart, State, is_data, is_staged, is_odd}
use Rattle.b1_model.specs.MachineDriver.{node_of_place, send_of, phase_action, first_action, peer_of, turn}
use Rattle.b1_model.specs.MachineTook.{with_facts}
use Rattle.b1_model.specs.MachineEvents.{happens, begun_of}
use Rattle.b1_model.specs.MachineStep.{Step, wire_made, opening_state}
use Rattle.b1_model.specs.Names.{is_own}
use Rattle.b1_model.specs.MachineTables.{is_stage, with_made}
use Rattle.b1_step.specs.Rights.{Has}
use Rattle.b1_inv.specs.Words.{IsPeer, IsDriver, waits_at, stamp_of_phase}
use Rattle.b1_inv.specs.Stages.{IsMessageOf, HasSender, OnceEach, StagesRight}
use Rattle.b1_inv.specs.Sound.{IsSound}
use Rattle.b1_inv_sends.proofs.Places.{accepted_past}
use Rattle.b1_inv_tools.proofs.Leaves.{Did, step_did, peer_cases, new_driver, same_driver}
use Rattle.b1_inv_sends.proofs.Events.{Answers, was_or_comes}
use Rattle.b1_inv_tools.proofs.Comes.{Comes}
use Rattle.b1_inv_tools.proofs.Openings.{opening_each}
use Rattle.b1_inv_sends.proofs.Once.{stage_parts, notice_is, Fresh, event_once}
use Rattle.b1_inv_sends.proofs.Waits.{WaitsOn, stops, new_waits, event_waits, drop_waits, Waiting, turn_waits, stops_at, stopped_leaves}
use Rattle.b1_inv_tools.proofs.Facts.{next_of, next_owed}

-- ---- the opening

pub opening_queue : (o : Opening) (q : ℕ) (x : PeerPart) → IsPeer (opening_state o) q x → x.queue ≡ []
opening_queue o q x is = opening_each (λ y. y.queue ≡ []) made (λ node dest y none. none) (λ node y none. none) o (λ me spec. refl) q x is
  where
    made : (number : ℕ) (y : PeerPart) → y.queue ≡ [] → (wire_made number y).queue ≡ []
    made number y none = elim (is_own number) as (λ b. PeerPart.queue (cond b (record y { nodes = with_made y.peers number y.nodes }) y) ≡ []) [ true ↦ none | false ↦ none ]

pub opening_stages : (o : Opening) → StagesRight o (opening_state o)
opening_stages o = record {
  sender = λ q x f is has message staged. absurd (subst (λ queue. Has queue f) (opening_queue o q x is) has);
  once = λ q x is. subst OnceEach (sym (opening_queue o q x is)) tt;
}

-- ---- which phase an event is of

first_no_stage : (command : Command) (peer place : ℕ) → first_action command ≡ act.Stage peer place → ⊥
first_no_stage cmd.Disconnect peer place is = cc is
first_no_stage cmd.Query peer place is = cc is
first_no_stage (cmd.Limit limits) peer place is = cc is
first_no_stage (cmd.Reset limits) peer place is = cc is
first_no_stage (cmd.Release number) peer place is = cc is
first_no_stage (cmd.Destroy numbers) peer place is = cc is
first_no_stage (cmd.SliceRelease offset) peer place is = cc is
first_no_stage (cmd.Send c) peer place is = cc is
first_no_stage cmd.Recv peer place is = cc is
first_no_stage cmd.Await peer place is = cc is

pub start_no_stage : (shut : Bool) (command : Command) (peer place : ℕ) → cond shut act.Local (first_action command) ≡ act.Stage peer place → ⊥
start_no_stage true command peer place is = cc is
start_no_stage false command peer place is = first_no_stage command peer place is

first_no_commit : (command : Command) (peer place stamp : ℕ) → first_action command ≡ act.Commit peer place stamp → ⊥
first_no_commit cmd.Disconnect peer place stamp is = cc is
first_no_commit cmd.Query peer place stamp is = cc is
first_no_commit (cmd.Limit limits) peer place stamp is = cc is
first_no_commit (cmd.Reset limits) peer place stamp is = cc is
first_no_commit (cmd.Release number) peer place stamp is = cc is
first_no_commit (cmd.Destroy numbers) peer place stamp is = cc is
first_no_commit (cmd.SliceRelease offset) peer place stamp is = cc is
first_no_commit (cmd.Send c) peer place stamp is = cc is
first_no_commit cmd.Recv peer place stamp is = cc is
first_no_commit cmd.Await peer place stamp is = cc is

start_no_commit : (shut : Bool) (command : Command) (peer place stamp : ℕ) → cond shut act.Local (first_action command) ≡ act.Commit peer place stamp → ⊥
start_no_commit true command peer place stamp is = cc is
start_no_commit false command peer place stamp is = first_no_commit command peer place stamp is

-- a stage is at the owner of the next place's node, and that place waits once it is staged
pub stage_next : (me : ℕ) (shut : Bool) (command : Command) (phase : Phase) (peer place clock : ℕ) → phase_action me shut command phase ≡ act.Stage peer place
    → WaitsOn (begun_of phase) place (turn me command phase (out.Stage (Ok clock))) × (peer ≡ (node_of_place (begun_of phase).to place).owner)
stage_next me shut command Starting peer place clock is = absurd (start_no_stage shut command peer place is)
stage_next me shut command (Staging begun places collected) peer place clock is =
    let at : length places ≡ place = cc is in
    let owner : (node_of_place begun.to (length places)).owner ≡ peer = cc is in
    (subst (λ n. WaitsOn begun n (turn me command (Staging begun places collected) (out.Stage (Ok clock)))) at (new_waits me command begun places collected clock), sym owner ∙ ap (λ n. (node_of_place begun.to n).owner) at)
stage_next me shut command phase peer place clock is = absurd (cc is)

-- it didn't wait before
stage_before : (me : ℕ) (shut : Bool) (command : Command) (phase : Phase) (peer place : ℕ) → phase_action me shut command phase ≡ act.Stage peer place → waits_at phase place ≡ false
stage_before me shut command Starting peer place is = refl
stage_before me shut command (Staging begun places collected) peer place is = let at : length places ≡ place = cc is in accepted_past places place (omega (arith, at))
stage_before me shut command phase peer place is = absurd (cc is)

-- a commit has the fixed stamp
pub commit_stamp : (me : ℕ) (shut : Bool) (command : Command) (phase : Phase) (peer place stamp : ℕ) → phase_action me shut command phase ≡ act.Commit peer place stamp → stamp_of_phase phase ≡ Some stamp
commit_stamp me shut command Starting peer place stamp is = absurd (start_no_commit shut command peer place stamp is)
commit_stamp me shut command (Committing sending fixed at) peer place stamp is = let same : fixed ≡ stamp = cc is in ap Some same
commit_stamp me shut command phase peer place stamp is = absurd (cc is)

-- ---- messages of a SEND

message_stays : (o : Opening) (q : ℕ) (old new : Doing) (k : Key) (e : Entry) → begun_of new.phase ≡ begun_of old.phase → new.command ≡ old.command → IsMessageOf o q old k e → IsMessageOf o q new k e
message_stays o q old new k (Message origin user index serial offset len nodes slots handles payload) begun command (a, b, c, node, with_nodes, text) =
    (a, b, c, ap (λ z. node_of_place z.to index) begun ∙ node, with_nodes ∙ sym (ap (λ z. z.with) begun), text ∙ sym (ap (λ z. (send_of z).payload) command))
message_stays o q old new k (OwnNotice serial index) begun command h = absurd h
message_stays o q old new k (ForeignNotice node index) begun command h = absurd h
message_stays o q old new k (ReleaseNotice serial) begun command h = absurd h

pub message_at : (o : Opening) (q : ℕ) (doing : Doing) (k : Key) (e : Entry) → IsMessageOf o q doing k e → (node_of_place (begun_of doing.phase).to k.index).owner ≡ q
message_at o q doing k (Message origin user index serial offset len nodes slots handles payload) (a, b, c, node, with_nodes, text) = ap (λ n. (node_of_place (begun_of doing.phase).to n).owner) (sym b) ∙ ap (λ n. n.owner) node
message_at o q doing k (OwnNotice serial index) h = absurd h
message_at o q doing k (ForeignNotice node index) h = absurd h
message_at o q doing k (ReleaseNotice serial) h = absurd h

-- ---- a step

module _ {o : Opening} {s : State} {p : ℕ} {command : Option Command} {t : State} (sound : IsSound o s) (step : Step o s p command t) where
  -- what the step did
  pub event : Did o step.local.memory step.driver command step.peer step.action step.at step.new_driver step.new_peer
  event = step_did step

  pub me_is : event.e.me ≡ p
  me_is = event.opened.me ∙ sound.numbered.drivers p step.driver step.is_driver

  -- the event is that of the phase, or a drop that is owed
  pub next_event : (step.action ≡ phase_action event.e.me event.e.shut event.doing.command event.doing.phase) ⊎ ((one : OwedDrop) × (step.action ≡ act.DropRefs one.node.owner one.node.serial one.holder one.amount one.clock))
  next_event = by_owed event.e.owed refl
    where
      by_owed : (owed : List OwedDrop) → event.e.owed ≡ owed → (step.action ≡ phase_action event.e.me event.e.shut event.doing.command event.doing.phase) ⊎ ((one : OwedDrop) × (step.action ≡ act.DropRefs one.node.owner one.node.serial one.holder one.amount one.clock))
      by_owed [] none = inl (event.is_action ∙ next_of event.e event.doing event.opened.is_open none)
      by_owed (one ∷ rest) owed = inr (one, event.is_action ∙ next_owed event.e event.doing one rest event.opened.is_open owed)

  -- what is open of driver p before the step is what its event is of
  pub same_doing : (d : DriverPart) (doing : Doing) → IsDriver s p d → d.doing ≡ Some doing → doing ≡ event.doing
  same_doing d doing is_driver is_open =
      let same : d ≡ step.driver = same_Some d step.driver (sym is_driver ∙ step.is_driver) in
      let now = sym (ap (λ e. e.doing) same) ∙ is_open in
      elim event.opened.from [
        | inl before ↦ same_Some doing event.doing (sym now ∙ before)
        | inr (rests, begins, starts) ↦ absurd (cc (sym now ∙ rests))
      ]

  -- ---- a place that waits goes on waiting, where the event doesn't end it

  turn_after : (index : ℕ) → waits_at event.doing.phase index ≡ true → (stops step.action ≡ Some index → ⊥) → WaitsOn (begun_of event.doing.phase) index (turn event.e.me event.doing.command event.doing.phase (happens o step.local.memory event.e event.doing step.action step.peer).0)
  turn_after index waits apart = elim next_event [
    | inl is ↦
        subst (λ a. WaitsOn (begun_of event.doing.phase) index (turn event.e.me event.doing.command event.doing.phase (happens o step.local.memory event.e event.doing a step.peer).0)) (sym is)
        (event_waits o step.local.memory event.e event.doing step.peer event.e.me event.e.shut event.doing.command event.doing.phase index waits (λ e. apart (ap stops is ∙ e)))
    | inr (one, is) ↦
        subst (λ a. WaitsOn (begun_of event.doing.phase) index (turn event.e.me event.doing.command event.doing.phase (happens o step.local.memory event.e event.doing a step.peer).0)) (sym is)
        (drop_waits event.e.me event.doing.command event.doing.phase index waits)
  ]

  after_turn : (index : ℕ) → WaitsOn (begun_of event.doing.phase) index (turn event.e.me event.doing.command event.doing.phase (happens o step.local.memory event.e event.doing step.action step.peer).0) → Waiting step.new_driver event.doing.command (begun_of event.doing.phase) index
  after_turn index w =
      subst (λ d. Waiting d event.doing.command (begun_of event.doing.phase) index) (sym event.driver)
      (turn_waits (with_facts event.e event.doing (happens o step.local.memory event.e event.doing step.action step.peer).0) event.doing.command (begun_of event.doing.phase) index (turn event.e.me event.doing.command event.doing.phase (happens o step.local.memory event.e event.doing step.action step.peer).0) w)

  stops_owner : (index : ℕ) → stops step.action ≡ Some index → step.at ≡ (node_of_place (begun_of event.doing.phase).to index).owner
  stops_owner index is_stop = elim next_event [
    | inl is ↦ event.is_at ∙ ap (peer_of event.e.me) is ∙ stops_at event.e.me event.e.shut event.doing.command event.doing.phase index (sym (ap stops is) ∙ is_stop)
    | inr (one, is) ↦ absurd (cc (sym (ap stops is) ∙ is_stop))
  ]

  -- a message keeps its sender, where the event isn't the one that ends its waiting
  sender_stays : (q : ℕ) (f : Key × Entry) → HasSender o s q f → (f.0.origin ≡ p → stops step.action ≡ Some f.0.index → ⊥) → HasSender o t q f
  sender_stays q f h apart = elim (cases_eq f.0.origin p) [
    | inl own ↦ of_own own
    | inr other ↦ record { driver = h.driver; doing = h.doing; is_driver = same_driver step f.0.origin h.driver other h.is_driver; is_open = h.is_open; waits = h.waits; message = h.message }
  ]
    where
      of_own : f.0.origin ≡ p → HasSender o t q f
      of_own own =
          let same = same_doing h.driver h.doing (subst (λ n. IsDriver s n h.driver) own h.is_driver) h.is_open in
          let w = after_turn f.0.index (turn_after f.0.index (ap (λ d. waits_at d.phase f.0.index) (sym same) ∙ h.waits) (apart own)) in
          record {
            driver = step.new_driver;
            doing = record { command = event.doing.command; phase = w.phase };
            is_driver = subst (λ n. IsDriver t n step.new_driver) (sym own) (new_driver step);
            is_open = w.is_open;
            waits = w.waits;
            message = message_stays o q h.doing (record { command = event.doing.command; phase = w.phase }) f.0 f.1 (w.nodes ∙ ap (λ d. begun_of d.phase) (sym same)) (ap (λ d. d.command) (sym same)) h.message;
          }

  -- ---- a message that comes has its sender

  -- the stamp of a commit is even
  pub even_stamp : (peer place stamp : ℕ) → step.action ≡ act.Commit peer place stamp → is_odd stamp ≡ false
  even_stamp peer place stamp is = elim next_event [
    | inr (one, other) ↦ absurd (cc (sym is ∙ other))
    | inl phase ↦
        let fixed = commit_stamp event.e.me event.e.shut event.doing.command event.doing.phase peer place stamp (sym phase ∙ is) in
        elim event.opened.from [
          | inr (rests, begins, starts) ↦ absurd (cc (sym (ap stamp_of_phase starts) ∙ fixed))
          | inl before ↦ let clock = sound.clocks.stamp p step.driver stamp step.is_driver (rw before fixed) in ne_eqb (stamp % 2) 1 (λ odd. omega (arith, clock.0, odd))
        ]
  ]

  not_message : (f : Key × Entry) → is_data f.1 ≡ true → is_data f.1 ≡ false → HasSender o t step.at f
  not_message f message notice = absurd (cc (sym message ∙ notice))

  at_owner : (node : NodeRef) (q : ℕ) → q ≡ node.owner → node ≡ record { owner = q; serial = node.serial }
  at_owner node q own = λ i. record { owner = sym own i; serial = node.serial }

  comes_sender : (f : Key × Entry) (action : Action) → step.action ≡ action → Comes o event.e event.doing step.peer action f → Answers o step.local.memory event.e event.doing step.peer action → is_data f.1 ≡ true → is_staged f ≡ true → HasSender o t step.at f
  comes_sender f (act.Stage peer place) is same done message staged = elim next_event [
    | inr (one, other) ↦ absurd (cc (sym is ∙ other))
    | inl phase ↦ newly (stage_next event.e.me event.e.shut event.doing.command event.doing.phase peer place step.peer.clock (sym phase ∙ is))
  ]
    where
      newly : WaitsOn (begun_of event.doing.phase) place (turn event.e.me event.doing.command event.doing.phase (out.Stage (Ok step.peer.clock))) × (peer ≡ (node_of_place (begun_of event.doing.phase).to place).owner) → HasSender o t step.at f
      newly (waits, owner) =
          let node = node_of_place (begun_of event.doing.phase).to place in
          let answer = ap (λ a. (happens o step.local.memory event.e event.doing a step.peer).0) is ∙ done in
          let w = after_turn place (subst (λ z. WaitsOn (begun_of event.doing.phase) place (turn event.e.me event.doing.command event.doing.phase z)) (sym answer) waits) in
          let at_node : node ≡ record { owner = step.at; serial = node.serial } = at_owner node step.at (event.is_at ∙ ap (peer_of event.e.me) is ∙ owner) in
          subst (HasSender o t step.at) (sym same) (record {
            driver = step.new_driver;
            doing = record { command = event.doing.command; phase = w.phase };
            is_driver = subst (λ n. IsDriver t n step.new_driver) (sym me_is) (new_driver step);
            is_open = w.is_open;
            waits = w.waits;
            message = (refl, refl, refl, ap (λ z. node_of_place z.to place) w.nodes ∙ at_node, sym (ap (λ z. z.with) w.nodes), refl);
          })
  comes_sender f (act.Commit peer place stamp) is (g, found, same) done message staged = absurd (cc (sym staged ∙ ap is_staged same ∙ even_stamp peer place stamp is))
  comes_sender f (act.CommitNotices peer stamp) is (g, has, notice, same) done message staged = not_message f message (ap (λ z. is_data z.1) same ∙ notice_is event.e.me g notice)
  comes_sender f (act.DropRefs peer serial holder n clock) is (same, due) done message staged = not_message f message (ap (λ z. is_data z.1) same)
  comes_sender f act.BeginDestroy is (index, serial, doomed, same, none) done message staged = not_message f message (ap (λ z. is_data z.1) same)
  comes_sender f (act.Visit peer) is (index, serial, doomed, same) done message staged = not_message f message (ap (λ z. is_data z.1) same)
  comes_sender f action is comes done message staged = absurd comes

  -- ---- the law

  -- at the peer where the event is
  sender_here : (f : Key × Entry) → Has step.new_peer.queue f → is_data f.1 ≡ true → is_staged f ≡ true → HasSender o t step.at f
  sender_here f has message staged =
      elim (was_or_comes o event.e event.doing f step.local.memory step.action step.peer (subst (λ y. Has y.queue f) event.peer has)) [
        | inl (was, stays) ↦ sender_stays step.at f (sound.stages.sender step.at step.peer f step.is_peer was message staged) (λ own is_stop. cc (sym (stopped_leaves event.e step.action f message staged (own ∙ sym me_is) is_stop) ∙ stays))
        | inr (comes, done) ↦ comes_sender f step.action refl comes done message staged
      ]

  -- at another peer
  sender_there : (q : ℕ) (x : PeerPart) (f : Key × Entry) → q ≢ step.at → IsPeer s q x → Has x.queue f → is_data f.1 ≡ true → is_staged f ≡ true → HasSender o t q f
  sender_there q x f apart is has message staged =
      let h = sound.stages.sender q x f is has message staged in
      sender_stays q f h (λ own is_stop.
      let same = same_doing h.driver h.doing (subst (λ n. IsDriver s n h.driver) own h.is_driver) h.is_open in
      apart (sym (message_at o q h.doing f.0 f.1 h.message) ∙ ap (λ d. (node_of_place (begun_of d.phase).to f.0.index).owner) same ∙ sym (stops_owner f.0.index is_stop)))

  sender_of : (q : ℕ) (y : PeerPart) (f : Key × Entry) → ((q ≡ step.at) × (y ≡ step.new_peer)) ⊎ ((q ≢ step.at) × IsPeer s q y) → Has y.queue f → is_data f.1 ≡ true → is_staged f ≡ true → HasSender o t q f
  sender_of q y f (inl here) has message staged = subst (λ n. HasSender o t n f) (sym here.0) (sender_here f (subst (λ z. Has z.queue f) here.1 has) message staged)
  sender_of q y f (inr other) has message staged = sender_there q y f other.0 other.1 has message staged

  -- a place is staged at most once
  unstaged_before : (peer place : ℕ) → step.action ≡ act.Stage peer place → (g : Key × Entry) → Has step.peer.queue g → is_stage event.e.me place g ≡ false
  unstaged_before peer place is g has = false_from_ne_true (is_stage event.e.me place g) (λ there.
      let parts = stage_parts event.e.me place g there in
      let h = sound.stages.sender step.at step.peer g step.is_peer has parts.message parts.staged in
      let same = same_doing h.driver h.doing (subst (λ n. IsDriver s n h.driver) (parts.origin_is ∙ me_is) h.is_driver) h.is_open in
      elim next_event [
        | inr (one, other) ↦ cc (sym is ∙ other)
        | inl phase ↦ cc (sym (stage_before event.e.me event.e.shut event.doing.command event.doing.phase peer place (sym phase ∙ is)) ∙ ap (waits_at event.doing.phase) (sym parts.index_is) ∙ ap (λ d. waits_at d.phase g.0.index) (sym same) ∙ h.waits)
      ])

  fresh : (action : Action) → step.action ≡ action → Fresh event.e step.peer action
  fresh (act.Stage peer place) is = unstaged_before peer place is
  fresh (act.Commit peer place stamp) is = even_stamp peer place stamp is
  fresh action is = tt

  once_of : (q : ℕ) (y : PeerPart) → ((q ≡ step.at) × (y ≡ step.new_peer)) ⊎ ((q ≢ step.at) × IsPeer s q y) → OnceEach y.queue
  once_of q y (inl here) = subst (λ z. OnceEach z.queue) (sym (here.1 ∙ event.peer)) (event_once o step.local.memory event.e event.doing step.action step.peer (fresh step.action refl) (sound.stages.once step.at step.peer step.is_peer))
  once_of q y (inr other) = sound.stages.once q y other.1

  pub stages_kept : StagesRight o t
  stages_kept = record {
    sender = λ q y f is has message staged. sender_of q y f (peer_cases step q y is) has message staged;
    once = λ q y is. once_of q y (peer_cases step q y is);
  }
