-- Notices that were taken stand among the receipts of the epoch of their peer's part.
use Rattle.std.proofs.Common.{◌≡◌, ◌≢◌, ◌⊎◌, refl, sym, ap, subst, ◌∙◌, inl, inr, ℕ, zero, suc, ◌≤◌, Bool, true, false, cond, ◌&&◌, List, [], ◌∷◌, ◌++◌, length, set, get_or, take, zip, Option, Some, None, Ok, Err, append-nil}
use Rattle.std.specs.Prelude.{slice_get, ⊤}
use Rattle.std.proofs.lemmas.Option.{slice_get_within, get_or_from_slice_get, same_Some}
use native.Mathlib.Omega.{arith}
use Rattle.b1_model.specs.declared.commands.Command.{Command}
use Rattle.b1_model.specs.declared.commands.Command.TheVariants as cmd
use Rattle.b1_model.specs.declared.naming.Key.{Key}
use Rattle.b1_model.specs.declared.naming.NodeRef.{NodeRef}
use Rattle.b1_model.specs.declared.naming.Opening.{Opening}
use Rattle.b1_model.specs.declared.answers.Answer.TheVariants as answer
use Rattle.b1_model.specs.declared.answers.Receipt.{Receipt}
use Rattle.b1_model.specs.declared.answers.Reason.TheVariants.{Again}
use Rattle.b1_model.specs.declared.entries.Entry.{Entry}
use Rattle.b1_model.specs.declared.entries.Entry.TheVariants.{Message, OwnNotice, ForeignNotice, ReleaseNotice}
use Rattle.b1_model.specs.declared.parts.NodeState.{NodeState}
use Rattle.b1_model.specs.declared.parts.NodeState.TheVariants.{Live, Dying, Destroyed}
use Rattle.b1_model.specs.declared.events.Action.{Action}
use Rattle.b1_model.specs.declared.events.Action.TheVariants as act
use Rattle.b1_model.specs.declared.events.Doing.{Doing}
use Rattle.b1_model.specs.declared.events.OwedDrop.{OwedDrop}
use Rattle.b1_model.specs.declared.events.Phase.{Phase}
use Rattle.b1_model.specs.declared.events.Phase.TheVariants.{Starting, Flushing}
use Rattle.b1_model.specs.declared.records.Call.{Call}
use Rattle.b1_model.specs.Names.{calls_of, epoch_in}
use Rattle.b1_model.specs.Ledger.{got_key}
use Rattle.b1_model.specs.MachineParts.{PeerPart, NodePart, HandleRecord, DriverPart, State, is_destroyed, is_staged, no_node, node_at}
use Rattle.b1_model.specs.MachineReceive.{cleared, taken_entry, received, received_part, slots_arrived}
use Rattle.b1_model.specs.MachinePool.{published}
use Rattle.b1_model.specs.MachineTables.{notice_taken}
use Rattle.b1_model.specs.declared.parts.Slot.{Slot}
use Rattle.b1_step.specs.Ordered.{Rising}
use Rattle.b1_model.specs.MachineDriver.{first_action, next_action, peer_of, refused_at, turn}
use Rattle.b1_model.specs.MachineTook.{as_call, call_of, is_await, answer_of, fixed_call}
use Rattle.b1_model.specs.MachineEvents.{happens}
use Rattle.b1_model.specs.MachineStep.{Step, opening_state, record_of_state}
use Rattle.b1_step.specs.Rights.{Has}
use Rattle.b1_step.proofs.Changed.{changes}
use Rattle.b1_step.proofs.Locality.{own_driver}
use Rattle.b1_inv.specs.Words.{IsPeer}
use Rattle.b1_inv.specs.Sound.{IsSound}
use Rattle.b1_inv_record.specs.Epochs.{in_gap, flushed_calls, made_before, first_done, WasReceivedIn}
use Rattle.b1_inv_record.specs.Destructions.{own_ref, doomed_key, TakenHasReceipt}
use Rattle.b1_inv_record.specs.Right.{IsRight}
use Rattle.b1_inv_tools.proofs.Leaves.{peer_cases}
use Rattle.b1_inv_notices.proofs.Turns.{doing_in, opened, parts, going, going_doing, going_action, going_answer}
use Rattle.b1_inv_destroys.proofs.FirstNode.{left_turn, flushed_after, is_flush_action, first_same, first_other}
use Rattle.b1_inv_destroys.proofs.Nodes.{slots_nodes, taken_same}
use Rattle.b1_inv_destroys.proofs.Received.{received_stays}
use Rattle.b1_inv_destroys.proofs.Recorded.{recorded, calls_by, as_many, as_many_after}
use Rattle.b1_inv_destroys.proofs.Taken.{at_or_none, made_untaken, counted_untaken}
use Rattle.b1_inv_destroys.proofs.Foreign.{none_dead}
use Rattle.b1_inv_tools.proofs.Openings.{opening_each}
use Rattle.b1_inv_names.proofs.ShutKept.{flush_call, calls_are, as_many_nodes}
use Rattle.b1_inv_destroys.proofs.Stays.{doomed_stays}
use Rattle.b1_inv_taken.proofs.FlushTurns.{open_turn}
use Rattle.b1_inv_taken.proofs.Old.{calls_before, calls_after}
use Rattle.b1_inv_taken.proofs.Clears.{Queue, Took, receives, taken_key, is_release, nobody_again, cleared_by, cleared_same}
use Rattle.b1_inv_taken.proofs.DeadHeld.{AllHeld, held_discarded, held_taken, held_event}

-- ---- where a RECV and a flush stand

abbrev RecvPhase : Phase → List OwedDrop → Action → Type 0
RecvPhase phase owed act.Recv = (phase ≡ Starting) × (owed ≡ [])
RecvPhase phase owed act.Flush = ((stamp : Option ℕ) × (phase ≡ Flushing stamp)) × (owed ≡ [])
RecvPhase phase owed action = ⊤

recv_phase : (d : DriverPart) (command : Command) (phase : Phase) (owed : List OwedDrop) → RecvPhase phase owed (next_action (opened d command phase owed))
recv_phase d command phase (one ∷ rest) = tt
recv_phase d command Starting [] = first d.shut command
  where
    first : (b : Bool) (begins : Command) → RecvPhase Starting [] (cond b act.Local (first_action begins))
    first true begins = tt
    first false cmd.Recv = (refl, refl)
    first false cmd.Await = (refl, refl)
    first false begins = tt
recv_phase d command (Flushing stamp) [] = ((stamp, refl), refl)
recv_phase d command phase [] = tt

got_call : (command : Command) (b : Receipt) → call_of command (answer.Got b) ≡ record { command = as_call command; answer = answer.Got b } ∷ []
got_call command b = by (is_await command)
  where
    by : (w : Bool) → cond {A = List Call} (w && false) [] (record { command = as_call command; answer = answer.Got b } ∷ []) ≡ record { command = as_call command; answer = answer.Got b } ∷ []
    by true = refl
    by false = refl

last_call : (calls : List Call) (c : Call) → slice_get (calls ++ c ∷ []) (length calls) ≡ Some c
last_call [] c = refl
last_call (d ∷ rest) c = last_call rest c

take_all : (calls more : List Call) → take (length calls) (calls ++ more) ≡ calls
take_all [] more = refl
take_all (d ∷ rest) more = ap (λ l. d ∷ l) (take_all rest more)

-- only a flush ends an epoch
same_epoch : (o : Opening) (memory : Bool) (d : DriverPart) (doing : Doing) (action : Action) (x : PeerPart) → is_flush_action action ≡ false → (happens o memory d doing action x).1.epoch ≡ x.epoch
same_epoch o memory d doing act.Flush x is = absurd (cc is)
same_epoch o memory d doing action x is = ap (λ y. y.epoch) (changes o memory d doing action x)

message_nodes : (nodes : List NodeRef) (slots : List Slot) (x : PeerPart) → (slots_arrived x nodes slots).part.nodes ≡ x.nodes
message_nodes nodes slots x = slots_nodes (zip nodes slots) (record { part = x; numbers = []; refs = [] })

flush_is : (action : Action) → is_flush_action action ≡ true → action ≡ act.Flush
flush_is act.Flush is = refl
flush_is action is = absurd (cc is)

module _ {o : Opening} {s : State} {p : ℕ} {c : Option Command} {t : State} (sound : IsSound o s) (right : IsRight o s) (step : Step o s p c t) where
  me_is : step.driver.me ≡ p
  me_is = sound.numbered.drivers p step.driver step.is_driver

  -- ---- a receipt comes

  module _ (recv : going_action step ≡ act.Recv) where
    pub starting : ((parts step).phase ≡ Starting) × (step.driver.owed ≡ [])
    starting = subst (RecvPhase (parts step).phase step.driver.owed) recv (recv_phase step.driver (parts step).command (parts step).phase step.driver.owed)

    pub recv_here : step.at ≡ p
    recv_here = sym (parts step).is_at ∙ ap (peer_of step.driver.me) recv ∙ me_is

    pub own_peer : IsPeer s p step.peer
    own_peer = subst (λ q. IsPeer s q step.peer) recv_here step.is_peer

    no_gap : in_gap step.driver ≡ false
    no_gap = elim (parts step).was [
      | inl open_is ↦ ap (λ z. in_gap (record step.driver { doing = z })) (open_is ∙ ap (λ ph. Some (doing_in (parts step).command ph)) starting.0)
      | inr new ↦ ap (λ z. in_gap (record step.driver { doing = z })) new.0
    ]

    recorded_before : calls_of (record_of_state s) p ≡ step.driver.calls
    recorded_before =
        recorded s p (as_many sound step) ∙ ap calls_by step.is_driver ∙ calls_before sound right step
        ∙ ap (λ ph. step.driver.calls ++ fixed_call (parts step).command (answer_of (parts step).command ph)) starting.0 ∙ append-nil step.driver.calls

    epoch_now_is : epoch_in 0 step.driver.calls ≡ step.peer.epoch
    epoch_now_is = ap (epoch_in 0) (sym recorded_before) ∙ right.names.epochs.epoch p step.driver step.peer step.is_driver own_peer ∙ ap (λ b. cond b (suc step.peer.epoch) step.peer.epoch) no_gap

    module _ (b : Receipt) (got : (received step.peer).front ≡ Ok b) where
      answer_is : turn step.driver.me (parts step).command (parts step).phase (going_answer step) ≡ turn step.driver.me (parts step).command Starting (happens o step.local.memory (going step) (going_doing step) act.Recv step.peer).0
      answer_is = ap (λ ph. turn step.driver.me (parts step).command ph (going_answer step)) starting.0 ∙ ap (λ a. turn step.driver.me (parts step).command Starting (happens o step.local.memory (going step) (going_doing step) a step.peer).0) recv

      recorded_after : calls_of (record_of_state t) p ≡ step.driver.calls ++ record { command = as_call (parts step).command; answer = answer.Got b } ∷ []
      recorded_after =
          recorded t p (as_many_after sound step) ∙ ap calls_by (own_driver step) ∙ calls_after sound right step
          ∙ ap (λ z. step.driver.calls ++ open_turn (parts step).command z) answer_is
          ∙ ap (λ z. step.driver.calls ++ call_of (parts step).command (elim z [ Ok r ↦ answer.Got r | Err found ↦ refused_at (Again found) None ])) got
          ∙ ap (λ l. step.driver.calls ++ l) (got_call (parts step).command b)

      pub received_now : (key : Key) → got_key (answer.Got b) ≡ Some key → WasReceivedIn t p step.peer.epoch key
      received_now key is = (
        length step.driver.calls,
        record { command = as_call (parts step).command; answer = answer.Got b },
        ap (λ l. slice_get l (length step.driver.calls)) recorded_after ∙ last_call step.driver.calls _,
        is,
        ap (λ l. epoch_in 0 (take (length step.driver.calls) l)) recorded_after ∙ ap (epoch_in 0) (take_all step.driver.calls _) ∙ epoch_now_is,
      )

  -- ---- a flush ends the epoch of all nodes that were made

  module _ (flush : going_action step ≡ act.Flush) where
    flushing : ((stamp : Option ℕ) × ((parts step).phase ≡ Flushing stamp)) × (step.driver.owed ≡ [])
    flushing = subst (RecvPhase (parts step).phase step.driver.owed) flush (recv_phase step.driver (parts step).command (parts step).phase step.driver.owed)

    flush_here : step.at ≡ p
    flush_here = sym (parts step).is_at ∙ ap (peer_of step.driver.me) flush ∙ me_is

    flush_peer : IsPeer s p step.peer
    flush_peer = subst (λ q. IsPeer s q step.peer) flush_here step.is_peer

    is_open : step.driver.doing ≡ Some (doing_in (parts step).command (Flushing flushing.0.0))
    is_open = elim (parts step).was [
      | inl open_is ↦ open_is ∙ ap (λ ph. Some (doing_in (parts step).command ph)) flushing.0.1
      | inr new ↦ let both : Starting ≡ Flushing flushing.0.0 = sym new.1 ∙ flushing.0.1 in absurd (cc both)
    ]

    left_after : left_turn (parts step).command (turn step.driver.me (parts step).command (parts step).phase (going_answer step)) ≡ record { command = as_call (parts step).command; answer = answer.Reset flushing.0.0 } ∷ []
    left_after =
        ap (λ ph. left_turn (parts step).command (turn step.driver.me (parts step).command ph (going_answer step))) flushing.0.1
        ∙ ap (λ a. left_turn (parts step).command (turn step.driver.me (parts step).command (Flushing flushing.0.0) (happens o step.local.memory (going step) (going_doing step) a step.peer).0)) flush
        ∙ flush_call (parts step).command flushing.0.0

    all_nodes : first_done o t p ≡ length step.peer.nodes
    all_nodes =
        ap (λ d. elim d [ None ↦ 0 | Some e ↦ made_before o.wires p (flushed_calls e) ]) (own_driver step)
        ∙ ap (made_before o.wires p) (flushed_after step ∙ ap (λ l. step.driver.calls ++ l) left_after)
        ∙ ap (made_before o.wires p) (sym (calls_are right.names.made right.names.old p step.driver step.peer step.is_driver flush_peer (parts step).command flushing.0.0 is_open))
        ∙ sym (as_many_nodes right.names.made right.names.old p step.driver step.peer step.is_driver flush_peer (parts step).command flushing.0.0 is_open)

  -- ---- what was taken before

  calm_first : (q : ℕ) → q ≢ step.at → first_done o t q ≡ first_done o s q
  calm_first q apart = by (is_flush_action (going_action step)) refl
    where
      by : (b : Bool) → is_flush_action (going_action step) ≡ b → first_done o t q ≡ first_done o s q
      by false calm = first_same step calm q
      by true flush = first_other step q (λ same. apart (same ∙ sym (flush_here (flush_is (going_action step) flush))))

  old_taken : (q serial : ℕ) (x : PeerPart) (n : NodePart) (key : Key) → IsPeer s q x → slice_get x.nodes serial ≡ Some n → n.taken ≡ true → first_done o s q ≤ serial → doomed_key o t (own_ref q serial) ≡ Some key
      → WasReceivedIn t q x.epoch key
  old_taken q serial x n key is at taken low doomed = by n.state refl (right.destructions.own.taken q serial x n is at taken)
    where
      by : (state : NodeState) → n.state ≡ state → is_destroyed n.state ≡ true → WasReceivedIn t q x.epoch key
      by (Destroyed stamp) is_state gone =
          let k = right.destructions.dying.destroyed q serial stamp x n is at is_state in
          let same : k.0 ≡ key = same_Some k.0 key (sym (doomed_stays sound right.destructions.numbers step (own_ref q serial) k.0 k.1) ∙ doomed) in
          received_stays sound step q x.epoch key (right.destructions.taken.own q serial x n key is at taken low (k.1 ∙ ap Some same))
      by Live is_state gone = let both : false ≡ true = ap is_destroyed (sym is_state) ∙ gone in absurd (cc both)
      by Dying is_state gone = let both : false ≡ true = ap is_destroyed (sym is_state) ∙ gone in absurd (cc both)

  -- a node whose notice was taken, by its place
  old_taken_at : (serial : ℕ) (key : Key) → (node_at step.peer serial).taken ≡ true → first_done o s step.at ≤ serial → doomed_key o t (own_ref step.at serial) ≡ Some key → WasReceivedIn t step.at step.peer.epoch key
  old_taken_at serial key taken low doomed = elim (at_or_none step.peer.nodes serial) [
    | inl (n, at) ↦ old_taken step.at serial step.peer n key step.is_peer at (ap (λ m. m.taken) (sym (get_or_from_slice_get step.peer.nodes serial n no_node at)) ∙ taken) low doomed
    | inr none ↦ let both : false ≡ true = ap (λ m. m.taken) (sym none) ∙ taken in absurd (cc both)
  ]

  -- ---- a notice is taken now

  rising_now : Rising step.peer.handles
  rising_now = sound.rising step.at step.peer step.is_peer

  -- the taken front was in the queue
  was_queued : (f : Key × Entry) (rest : Queue) → Took step.peer f rest → Has step.peer.queue f
  was_queued f rest took = (cleared_same step.peer rising_now).0 f (subst (λ q. Has q f) (sym took.queue) (inl refl))

  set_taken : (nodes : List NodePart) (one serial : ℕ) → (get_or (set nodes one (notice_taken (get_or nodes one no_node))) serial no_node).taken ≡ true → ((get_or nodes serial no_node).taken ≡ true) ⊎ (serial ≡ one)
  set_taken [] one serial is = inl is
  set_taken (n ∷ ns) zero zero is = inr refl
  set_taken (n ∷ ns) zero (suc serial) is = inl is
  set_taken (n ∷ ns) (suc one) zero is = inl is
  set_taken (n ∷ ns) (suc one) (suc serial) is = elim (set_taken ns one serial is) [ inl old ↦ inl old | inr same ↦ inr (ap suc same) ]

  module _ (recv : going_action step ≡ act.Recv) where
    front_taken_now : (f : Key × Entry) (rest : Queue) → Took step.peer f rest → is_release f.1 ≡ false → WasReceivedIn t p step.peer.epoch f.0
    front_taken_now f rest took other = received_now recv (taken_entry (record (cleared step.peer) { queue = rest }) f.0 f.1).0 took.answer f.0 (taken_key (record (cleared step.peer) { queue = rest }) f.0 f.1 other)

    own_by : (k : Key) (e : Entry) (rest : Queue) → Took step.peer (k, e) rest → (serial : ℕ) (key : Key) → (node_at (taken_entry (record (cleared step.peer) { queue = rest }) k e).1 serial).taken ≡ true → first_done o s step.at ≤ serial
        → doomed_key o t (own_ref step.at serial) ≡ Some key → WasReceivedIn t step.at step.peer.epoch key
    own_by k (OwnNotice one index) rest took serial key taken low doomed = elim (set_taken (cleared step.peer).nodes one serial taken) [
      | inl old ↦ old_taken_at serial key (ap (λ ns. (get_or ns serial no_node).taken) (sym (cleared_same step.peer rising_now).1) ∙ old) low doomed
      | inr same ↦
          let queued = right.destructions.own.queued step.at index one step.peer k step.is_peer (was_queued (k, OwnNotice one index) rest took) took.even in
          let key_is : k ≡ key = same_Some k key (sym (doomed_stays sound right.destructions.numbers step (own_ref step.at one) k queued) ∙ ap (λ z. doomed_key o t (own_ref step.at z)) (sym same) ∙ doomed) in
          subst (λ q. WasReceivedIn t q step.peer.epoch key) (sym (recv_here recv)) (subst (WasReceivedIn t p step.peer.epoch) key_is (front_taken_now (k, OwnNotice one index) rest took refl))
    ]
    own_by k (Message origin user index one offset len nodes slots handles payload) rest took serial key taken low doomed =
        old_taken_at serial key (ap (λ ns. (get_or ns serial no_node).taken) (sym (cleared_same step.peer rising_now).1) ∙ ap (λ ns. (get_or ns serial no_node).taken) (sym (message_nodes nodes slots (record (record (cleared step.peer) { queue = rest }) { slices = published offset (cleared step.peer).slices }))) ∙ taken) low doomed
    own_by k (ForeignNotice node index) rest took serial key taken low doomed = old_taken_at serial key (ap (λ ns. (get_or ns serial no_node).taken) (sym (cleared_same step.peer rising_now).1) ∙ taken) low doomed
    own_by k (ReleaseNotice one) rest took serial key taken low doomed = old_taken_at serial key (ap (λ ns. (get_or ns serial no_node).taken) (sym (cleared_same step.peer rising_now).1) ∙ taken) low doomed

    own_recv : (serial : ℕ) (key : Key) → (node_at (received_part step.peer) serial).taken ≡ true → first_done o s step.at ≤ serial → doomed_key o t (own_ref step.at serial) ≡ Some key → WasReceivedIn t step.at step.peer.epoch key
    own_recv serial key taken low doomed = elim (receives step.peer) [
      | inl none ↦ old_taken_at serial key (ap (λ ns. (get_or ns serial no_node).taken) (sym (cleared_same step.peer rising_now).1) ∙ ap (λ y. (node_at y serial).taken) (sym none.1) ∙ taken) low doomed
      | inr (f, rest, took) ↦ own_by f.0 f.1 rest took serial key (ap (λ y. (node_at y serial).taken) (sym took.part) ∙ taken) low doomed
    ]

  -- ---- own notices that were taken

  own_event : (action : Action) → going_action step ≡ action → is_flush_action action ≡ false → (serial : ℕ) (key : Key) → (node_at (happens o step.local.memory (going step) (going_doing step) action step.peer).1 serial).taken ≡ true → first_done o s step.at ≤ serial
      → doomed_key o t (own_ref step.at serial) ≡ Some key → WasReceivedIn t step.at step.peer.epoch key
  own_event act.Recv at calm serial key taken low doomed = own_recv at serial key taken low doomed
  own_event act.Flush at calm serial key taken low doomed = absurd (cc calm)
  own_event action at calm serial key taken low doomed = old_taken_at serial key (sym (taken_same o step.local.memory (going step) (going_doing step) action step.peer refl serial) ∙ taken) low doomed

  same_peer : (q : ℕ) (y : PeerPart) → y ≡ step.new_peer → y ≡ (happens o step.local.memory (going step) (going_doing step) (going_action step) step.peer).1
  same_peer q y same = same ∙ sym (parts step).is_peer

  as_many_after_event : (y : PeerPart) → y ≡ step.new_peer → is_flush_action (going_action step) ≡ true → length y.nodes ≡ length step.peer.nodes
  as_many_after_event y same flush = ap (λ z. length z.nodes) (same_peer 0 y same) ∙ ap (λ a. length (happens o step.local.memory (going step) (going_doing step) a step.peer).1.nodes) (flush_is (going_action step) flush)

  own_here : (b : Bool) → is_flush_action (going_action step) ≡ b → (q serial : ℕ) (y : PeerPart) (n : NodePart) (key : Key) → q ≡ step.at → y ≡ step.new_peer → slice_get y.nodes serial ≡ Some n → n.taken ≡ true → first_done o t q ≤ serial
      → doomed_key o t (own_ref q serial) ≡ Some key → WasReceivedIn t q y.epoch key
  own_here true flush q serial y n key here same at taken low doomed =
      let few = slice_get_within y.nodes serial n at in
      let many = as_many_after_event y same flush in
      let first : first_done o t q ≡ length step.peer.nodes = ap (first_done o t) (here ∙ flush_here (flush_is (going_action step) flush)) ∙ all_nodes (flush_is (going_action step) flush) in
      absurd (omega (arith, few, many, first, low))
  own_here false calm q serial y n key here same at taken low doomed =
      let first = first_same step calm q in
      let epoch : y.epoch ≡ step.peer.epoch = ap (λ z. z.epoch) (same_peer q y same) ∙ same_epoch o step.local.memory (going step) (going_doing step) (going_action step) step.peer calm in
      subst (λ r. WasReceivedIn t r y.epoch key) (sym here) (subst (λ e. WasReceivedIn t step.at e key) (sym epoch)
      (own_event (going_action step) refl calm serial key (ap (λ z. (node_at z serial).taken) (sym (same_peer q y same)) ∙ ap (λ m. m.taken) (get_or_from_slice_get y.nodes serial n no_node at) ∙ taken)
      (subst (λ r. first_done o s r ≤ serial) here (omega (arith, first, low))) (ap (λ r. doomed_key o t (own_ref r serial)) (sym here) ∙ doomed)))

  own_received : (q serial : ℕ) (y : PeerPart) (n : NodePart) (key : Key) → IsPeer t q y → slice_get y.nodes serial ≡ Some n → n.taken ≡ true → first_done o t q ≤ serial → doomed_key o t (own_ref q serial) ≡ Some key → WasReceivedIn t q y.epoch key
  own_received q serial y n key is at taken low doomed = elim (peer_cases step q y is) [
    | inl here ↦ own_here (is_flush_action (going_action step)) refl q serial y n key here.0 here.1 at taken low doomed
    | inr other ↦ old_taken q serial y n key other.1 at taken (let same = calm_first q other.0 in omega (arith, same, low)) doomed
  ]

  -- ---- dead records that are held

  -- a node whose notice was received in an epoch, by the record before and after
  abbrev Known : ℕ → ℕ → NodeRef → Type 0
  Known q epoch node = (key : Key) × (doomed_key o s node ≡ Some key) × WasReceivedIn t q epoch key

  old_held : (q : ℕ) (x : PeerPart) → IsPeer s q x → AllHeld (Known q x.epoch) x.handles
  old_held q x is h there dead some =
      let k = right.destructions.foreign.dead q x h is there dead in
      (k.0, k.1, received_stays sound step q x.epoch k.0 (right.destructions.taken.held q x h k.0 is there dead some k.1))

  module _ (recv : going_action step ≡ act.Recv) where
    front_known : (f : Key × Entry) (rest : Queue) → Took step.peer f rest → (node : NodeRef) (index : ℕ) → f.1 ≡ ForeignNotice node index → Known step.at step.peer.epoch node
    front_known f rest took node index is =
        let same : ◌≡◌ {A = Key × Entry} f (f.0, ForeignNotice node index) = ap (λ e. (f.0, e)) is in
        let has : Has step.peer.queue (f.0, ForeignNotice node index) = subst (Has step.peer.queue) same (was_queued f rest took) in
        let even : is_staged (f.0, ForeignNotice node index) ≡ false = ap is_staged (sym same) ∙ took.even in
        (f.0, right.destructions.foreign.queued step.at index step.peer f.0 node step.is_peer has even, subst (λ q. WasReceivedIn t q step.peer.epoch f.0) (sym (recv_here recv)) (front_taken_now recv f rest took (ap is_release is)))

    cleared_held : AllHeld (Known step.at step.peer.epoch) (cleared step.peer).handles
    cleared_held =
        (cleared_by (λ y. AllHeld (Known step.at step.peer.epoch) y.handles)
        (λ y f rest up all is even nobody. held_discarded (Known step.at step.peer.epoch) (record y { queue = rest }) f (nobody_again y rest f.1 ∙ nobody) all)
        step.peer rising_now (old_held step.at step.peer step.is_peer)).0

    recv_held : AllHeld (Known step.at step.peer.epoch) (received_part step.peer).handles
    recv_held = elim (receives step.peer) [
      | inl none ↦ subst (λ y. AllHeld (Known step.at step.peer.epoch) y.handles) (sym none.1) cleared_held
      | inr (f, rest, took) ↦ subst (λ y. AllHeld (Known step.at step.peer.epoch) y.handles) (sym took.part) (held_taken (Known step.at step.peer.epoch) f.1 f.0 (record (cleared step.peer) { queue = rest }) (front_known f rest took) cleared_held)
    ]

  event_held : (action : Action) → going_action step ≡ action → AllHeld (Known step.at step.peer.epoch) (happens o step.local.memory (going step) (going_doing step) action step.peer).1.handles
  event_held act.Recv at = recv_held at
  event_held action at = held_event (Known step.at step.peer.epoch) o step.local.memory (going step) (going_doing step) step.peer action refl (old_held step.at step.peer step.is_peer)

  known_now : (q epoch : ℕ) (h : HandleRecord) (key : Key) → Known q epoch h.node → doomed_key o t h.node ≡ Some key → WasReceivedIn t q epoch key
  known_now q epoch h key (old, doomed, got) now = subst (WasReceivedIn t q epoch) (same_Some old key (sym (doomed_stays sound right.destructions.numbers step h.node old doomed) ∙ now)) got

  held_here : (b : Bool) → is_flush_action (going_action step) ≡ b → (q : ℕ) (y : PeerPart) (h : HandleRecord) (key : Key) → q ≡ step.at → y ≡ step.new_peer → Has y.handles h → h.dead ≡ true → 1 ≤ h.held → doomed_key o t h.node ≡ Some key → WasReceivedIn t q y.epoch key
  held_here true flush q y h key here same there dead some doomed = absurd (subst (λ hs. Has hs h) (ap (λ z. z.handles) (same_peer q y same) ∙ ap (λ a. (happens o step.local.memory (going step) (going_doing step) a step.peer).1.handles) (flush_is (going_action step) flush)) there)
  held_here false calm q y h key here same there dead some doomed =
      let epoch : y.epoch ≡ step.peer.epoch = ap (λ z. z.epoch) (same_peer q y same) ∙ same_epoch o step.local.memory (going step) (going_doing step) (going_action step) step.peer calm in
      subst (λ r. WasReceivedIn t r y.epoch key) (sym here) (subst (λ e. WasReceivedIn t step.at e key) (sym epoch)
      (known_now step.at step.peer.epoch h key (event_held (going_action step) refl h (subst (λ z. Has z.handles h) (same_peer q y same) there) dead some) doomed))

  held_received : (q : ℕ) (y : PeerPart) (h : HandleRecord) (key : Key) → IsPeer t q y → Has y.handles h → h.dead ≡ true → 1 ≤ h.held → doomed_key o t h.node ≡ Some key → WasReceivedIn t q y.epoch key
  held_received q y h key is there dead some doomed = elim (peer_cases step q y is) [
    | inl here ↦ held_here (is_flush_action (going_action step)) refl q y h key here.0 here.1 there dead some doomed
    | inr other ↦ known_now q y.epoch h key (old_held q y other.1 h there dead some) doomed
  ]

  pub taken_kept : TakenHasReceipt o t
  taken_kept = record { own = own_received; held = held_received }

-- when a bus begins nothing was taken
pub taken_begins : (o : Opening) → TakenHasReceipt o (opening_state o)
taken_begins o = record {
  own = λ p serial x n key is at taken low doomed. absurd (none p serial x n is at taken);
  held = λ p x h key is there dead some doomed. absurd (none_dead o p x is h there dead);
}
  where
    none : (p serial : ℕ) (x : PeerPart) (n : NodePart) → IsPeer (opening_state o) p x → slice_get x.nodes serial ≡ Some n → n.taken ≡ true → ⊥
    none p serial x n is at taken =
        let untaken = opening_each (λ y. (one : ℕ) → (node_at y one).taken ≡ false) made_untaken counted_untaken (λ node y before. before) o (λ me spec one. refl) p x is serial in
        let both : false ≡ true = sym untaken ∙ ap (λ m. m.taken) (get_or_from_slice_get x.nodes serial n no_node at) ∙ taken in absurd (cc both)
