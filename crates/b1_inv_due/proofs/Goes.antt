-- A queued release notice of a live node goes exactly with an attach that counts, with the begin of its node's destruction, or with the RECV that takes it.
use Rattle.std.proofs.Common.{◌≡◌, refl, sym, ap, subst, ◌∙◌, inl, inr, ℕ, ◌==◌, Bool, true, false, ◌&&◌, not, Option, Some, None, Ok, Err, Result}
use Rattle.std.specs.List.{list_any}
use Rattle.std.proofs.lemmas.Bool.{eq-eqb, eqb-true, and_parts, not-true}
use Rattle.b1_model.specs.declared.commands.Command.{Command}
use Rattle.b1_model.specs.declared.naming.Key.{Key}
use Rattle.b1_model.specs.declared.naming.NodeRef.{NodeRef}
use Rattle.b1_model.specs.declared.naming.Opening.{Opening}
use Rattle.b1_model.specs.declared.answers.Front.{Front}
use Rattle.b1_model.specs.declared.answers.Receipt.{Receipt}
use Rattle.b1_model.specs.declared.answers.Receipt.TheVariants as receipt
use Rattle.b1_model.specs.declared.parts.Attach.{Attach}
use Rattle.b1_model.specs.declared.parts.Attach.TheVariants as attach
use Rattle.b1_model.specs.declared.parts.NodeState.TheVariants.{Dying}
use Rattle.b1_model.specs.declared.entries.Entry.TheVariants.{ReleaseNotice}
use Rattle.b1_model.specs.declared.events.Action.{Action}
use Rattle.b1_model.specs.declared.events.Action.TheVariants as act
use Rattle.b1_model.specs.declared.events.Phase.TheVariants.{Starting, Flushing}
use Rattle.b1_model.specs.MachineParts.{PeerPart, State, is_live, is_release_notice, node_at}
use Rattle.b1_model.specs.MachineSend.{attach_answer, attached_by}
use Rattle.b1_model.specs.MachineReceive.{received, received_part}
use Rattle.b1_model.specs.MachineDriver.{peer_of}
use Rattle.b1_model.specs.MachineEvents.{happens, destroy_by, begin_refusal, begin_serials}
use Rattle.b1_model.specs.MachineCounts.{total, has_release_notice, is_notified, is_live_in, is_attach_of, is_doom_of, is_receipt_of, takes_notice}
use Rattle.b1_model.specs.MachineStep.{Step}
use Rattle.b1_step.specs.Rights.{Has}
use Rattle.b1_step.proofs.Queues.{any_without}
use Rattle.b1_inv.specs.Words.{IsPeer}
use Rattle.b1_inv.specs.Sound.{IsSound}
use Rattle.b1_inv_record.specs.Dooming.{is_ending}
use Rattle.b1_inv_record.specs.Right.{IsRight}
use Rattle.b1_inv_tools.proofs.Leaves.{Did, step_did}
use Rattle.b1_inv_notices.proofs.Nodes.{doomed_state}
use Rattle.b1_inv_notices.proofs.Turns.{doing_in, parts}
use Rattle.b1_inv_destroys.proofs.FirstNode.{is_flush_action}
use Rattle.b1_inv_entries.proofs.PendingKept.{flush_phase}
use Rattle.b1_inv_parts.proofs.Serials.{live_made}
use Rattle.b1_inv_parts.proofs.Releases.{ReleasesOk}
use Rattle.b1_inv_parts.proofs.ReleasesKept.{at_own}
use Rattle.b1_inv_due.proofs.Notified.{notice_there, there_notified, live_by}
use Rattle.b1_inv_due.proofs.Stays.{Takes, release_stays}
use Rattle.b1_inv_due.proofs.Fronts.{answers_released, front_released, front_there, released_front, none_behind}
use Rattle.b1_inv_due.proofs.Comes.{owner_before, owner_after, notice_total, after_live, changed_here, live_here, before_is, after_is}

-- a test of three parts passes where each does
all_three : (a b c : Bool) → a ≡ true → b ≡ true → c ≡ true → (a && b && c) ≡ true
all_three a b c first second third = ap (λ z. z && b && c) first ∙ ap (λ z. z && c) second ∙ third

-- only a counted attach passes
counted_is : (a : Attach) → elim a [ attach.Counted ↦ true | other ↦ false ] ≡ true → a ≡ attach.Counted
counted_is attach.Counted is = refl
counted_is attach.Own is = absurd (cc is)
counted_is (attach.Void stamp) is = absurd (cc is)

-- the test of what a RECV answers, by what stood at the front
released_by : (mine : ℕ) (front : Result Receipt Front) → elim front [ Err none ↦ false | Ok got ↦ elim got [ receipt.Released stamp number ↦ number == mine | other ↦ false ] ] ≡ true → (got : Receipt) × (front ≡ Ok got) × (answers_released mine got ≡ true)
released_by mine (Err none) is = absurd (cc is)
released_by mine (Ok (receipt.Released stamp number)) is = (receipt.Released stamp number, refl, is)
released_by mine (Ok (receipt.Destroyed k number)) is = absurd (cc is)
released_by mine (Ok (receipt.Message k number offset numbers payload)) is = absurd (cc is)

-- and the other way round
by_released : (mine : ℕ) (got : Receipt) → answers_released mine got ≡ true → elim got [ receipt.Released stamp number ↦ number == mine | other ↦ false ] ≡ true
by_released mine (receipt.Released stamp number) is = is
by_released mine (receipt.Destroyed k number) is = absurd (cc is)
by_released mine (receipt.Message k number offset numbers payload) is = absurd (cc is)

-- where no other test passes, the first one does
either_is : (b : Bool) → elim b [ true ↦ true | false ↦ false ] ≡ true → b ≡ true
either_is true is = refl
either_is false is = absurd (cc is)

module _ {o : Opening} {s : State} {p : ℕ} {command : Option Command} {t : State} (sound : IsSound o s) (right : IsRight o s) (step : Step o s p command t) (node : NodeRef) where
  abbrev k : Did o step.local.memory step.driver command step.peer step.action step.at step.new_driver step.new_peer
  k = step_did step

  -- the part of the event's peer after an event
  abbrev after : Action → PeerPart
  after action = (happens o step.local.memory k.e k.doing action step.peer).1

  -- release notices of that peer are right
  releases : ReleasesOk step.peer
  releases = record {
    live = λ serial key h. right.parts.releases.live step.at serial step.peer key step.is_peer h;
    unheld = λ serial key h. right.parts.releases.unheld step.at serial step.peer key step.is_peer h;
    once = λ serial key l h i. right.parts.releases.once step.at serial step.peer key l step.is_peer h i;
  }

  peer_is : (action : Action) → step.action ≡ action → step.new_peer ≡ after action
  peer_is action is = k.peer ∙ ap after is

  -- a flush is only at a peer without live nodes
  no_flush : step.action ≡ act.Flush → is_live (node_at step.peer node.serial).state ≡ true → ⊥
  no_flush is live = cc (sym live ∙ none node.serial)
    where
      found : (stamp : Option ℕ) × ((parts step).phase ≡ Flushing stamp)
      found = flush_phase step.driver (parts step).command (parts step).phase step.driver.owed (ap is_flush_action ((parts step).is_action ∙ is))

      open_is : step.driver.doing ≡ Some (doing_in (parts step).command (parts step).phase)
      open_is = elim (parts step).was [ inl same ↦ same | inr starts ↦ let both : Starting ≡ Flushing found.0 = sym starts.1 ∙ found.1 in absurd (cc both) ]

      own : IsPeer s p step.peer
      own = subst (λ q. IsPeer s q step.peer) (at_own sound step act.Flush is refl) step.is_peer

      none : (serial : ℕ) → is_live (node_at step.peer serial).state ≡ false
      none =
          right.destructions.all.none p step.driver step.peer (doing_in (parts step).command (parts step).phase) step.is_driver own open_is
          (right.destructions.flushes.flushes p found.0 step.driver (doing_in (parts step).command (parts step).phase) step.is_driver open_is found.1) (ap is_ending found.1)

  module _ (here : node.owner ≡ step.at) (live : is_live (node_at step.peer node.serial).state ≡ true) where
    -- a doomed node isn't live after the begin
    doomed_after : step.action ≡ act.BeginDestroy → Has (begin_serials k.doing.command step.peer) node.serial → begin_refusal k.doing.command step.peer ≡ None → is_live_in t node ≡ false
    doomed_after is there accepted =
        live_by t node step.new_peer (owner_after sound right step node here)
        ∙ ap (λ y. is_live (node_at y node.serial).state) (peer_is act.BeginDestroy is ∙ ap (λ r. (destroy_by r (begin_serials k.doing.command step.peer) step.peer).1) accepted)
        ∙ ap is_live (doomed_state Dying (begin_serials k.doing.command step.peer) step.peer.nodes node.serial there (live_made step.peer node.serial live))

    -- what takes the notice out is one of the three
    takes_is : (key : Key) (action : Action) → step.action ≡ action → Takes key node.serial k.doing step.peer action → takes_notice node step.at step.peer t action ≡ true
    takes_is key (act.Attach peer one dest) is (mine, counted) =
        ap (λ b. elim b [ true ↦ true | false ↦ false ])
        (all_three (peer == node.owner) (one == node.serial) _ (eq-eqb peer node.owner (sym (here ∙ k.is_at ∙ ap (peer_of k.e.me) is))) (eq-eqb one node.serial (sym mine)) (ap (λ a. elim a [ attach.Counted ↦ true | other ↦ false ]) counted))
    takes_is key act.BeginDestroy is (there, accepted) =
        ap (λ b. elim b [ true ↦ true | false ↦ false ])
        (ap (λ b. b && not (is_live_in t node)) (eq-eqb step.at node.owner (sym here)) ∙ ap not (doomed_after is there accepted))
    takes_is key act.Recv is front =
        let got = front_released step.peer (sound.rising step.at step.peer step.is_peer) node.serial key front in
        ap (λ b. b && elim (received step.peer).front [ Err none ↦ false | Ok one ↦ elim one [ receipt.Released stamp number ↦ number == (node_at step.peer node.serial).number | other ↦ false ] ]) (eq-eqb step.at node.owner (sym here))
        ∙ ap (λ r. elim r [ Err none ↦ false | Ok one ↦ elim one [ receipt.Released stamp number ↦ number == (node_at step.peer node.serial).number | other ↦ false ] ]) got.1
        ∙ by_released (node_at step.peer node.serial).number got.0 got.2
    takes_is key act.Flush is tt = absurd (no_flush is live)
    takes_is key action is none = absurd none

    -- a notice that is no longer there was taken out by one of the three
    pub goes_here : has_release_notice node.serial step.peer ≡ true → has_release_notice node.serial step.new_peer ≡ false → takes_notice node step.at step.peer t step.action ≡ true
    goes_here there none =
        let found = notice_there node.serial step.peer there in
        let even = (sound.notices.queued step.at step.peer (found.0, ReleaseNotice node.serial) step.is_peer found.1).2 in
        elim (release_stays found.0 node.serial even o step.local.memory k.e k.doing step.peer found.1 step.action) [
          | inl stays ↦ absurd (cc (sym none ∙ there_notified node.serial step.new_peer found.0 (subst (λ y. Has y.queue (found.0, ReleaseNotice node.serial)) (sym k.peer) stays)))
          | inr takes ↦ takes_is found.0 step.action refl takes
        ]

  -- ---- the other way round

  -- the test of a receipt, by its parts
  receipt_by : is_receipt_of node step.at step.peer act.Recv ≡ true → (step.at ≡ node.owner) × ((got : Receipt) × ((received step.peer).front ≡ Ok got) × (answers_released (node_at step.peer node.serial).number got ≡ true))
  receipt_by is =
      let both = and_parts (step.at == node.owner) _ is in
      (eqb-true step.at node.owner both.0, released_by (node_at step.peer node.serial).number (received step.peer).front both.1)

  -- each of the three is at the node's owner
  takes_here : (action : Action) → step.action ≡ action → takes_notice node step.at step.peer t action ≡ true → node.owner ≡ step.at
  takes_here (act.Attach peer one dest) is takes =
      let all = and_parts ((peer == node.owner) && (one == node.serial)) _ (either_is (is_attach_of node step.peer (act.Attach peer one dest)) takes) in
      sym (k.is_at ∙ ap (peer_of k.e.me) is ∙ eqb-true peer node.owner (and_parts (peer == node.owner) (one == node.serial) all.0).0)
  takes_here act.BeginDestroy is takes = sym (eqb-true step.at node.owner (and_parts (step.at == node.owner) (not (is_live_in t node)) (either_is (is_doom_of node step.at t act.BeginDestroy) takes)).0)
  takes_here act.Recv is takes = sym (receipt_by takes).0
  takes_here action is takes = absurd (cc takes)

  module _ (here : node.owner ≡ step.at) (live : is_live (node_at step.peer node.serial).state ≡ true) where
    -- the event's peer is the node's owner
    own_peer : IsPeer s node.owner step.peer
    own_peer = owner_before sound right step node here

    -- a receipt of its number takes the notice that is the front
    pub front_of : is_receipt_of node step.at step.peer act.Recv ≡ true → (key : Key) × Has step.peer.queue (key, ReleaseNotice node.serial) × (has_release_notice node.serial (received_part step.peer) ≡ false)
    front_of is =
        let found = (receipt_by is).1 in
        let up = sound.rising step.at step.peer step.is_peer in
        let front = released_front step.peer up node.serial releases (right.names.made.apart node.owner step.peer own_peer) live found.0 found.1 found.2 in
        (front.0, front_there step.peer up node.serial front.0 front.1, none_behind step.peer up node.serial releases (right.parts.keys.ascending node.owner step.peer own_peer) front.0 front.1)

    -- a node that isn't live has none
    not_live_none : is_live_in t node ≡ false → has_release_notice node.serial step.new_peer ≡ false
    not_live_none ended = by (has_release_notice node.serial step.new_peer) refl
      where
        by : (b : Bool) → has_release_notice node.serial step.new_peer ≡ b → b ≡ false
        by false is = refl
        by true is =
            let found = notice_there node.serial step.new_peer is in
            absurd (cc (sym ended ∙ live_by t node step.new_peer (owner_after sound right step node here) ∙ after_live sound right step node here found.0 found.1))

    -- each of the three leaves none
    gone_after : (action : Action) → step.action ≡ action → takes_notice node step.at step.peer t action ≡ true → has_release_notice node.serial step.new_peer ≡ false
    gone_after (act.Attach peer one dest) is takes =
        let all = and_parts ((peer == node.owner) && (one == node.serial)) _ (either_is (is_attach_of node step.peer (act.Attach peer one dest)) takes) in
        let mine : one ≡ node.serial = eqb-true one node.serial (and_parts (peer == node.owner) (one == node.serial) all.0).1 in
        ap (has_release_notice node.serial) (peer_is (act.Attach peer one dest) is ∙ ap (λ a. attached_by a step.peer one dest) (counted_is (attach_answer step.peer one dest) all.1))
        ∙ subst (λ n. list_any (is_release_notice n) (attached_by attach.Counted step.peer one dest).queue ≡ false) mine (any_without (is_release_notice one) step.peer.queue)
    gone_after act.BeginDestroy is takes =
        let ends = (and_parts (step.at == node.owner) (not (is_live_in t node)) (either_is (is_doom_of node step.at t act.BeginDestroy) takes)).1 in
        not_live_none (not-true (is_live_in t node) ends)
    gone_after act.Recv is takes = ap (has_release_notice node.serial) (peer_is act.Recv is) ∙ (front_of takes).2
    gone_after action is takes = absurd (cc takes)

  -- ---- wherever the node's owner is

  module _ (live : is_live_in s node ≡ true) where
    -- a notice goes only with one of the three
    pub goes_forth : is_notified s node ≡ true → is_notified t node ≡ false → takes_notice node step.at step.peer t step.action ≡ true
    goes_forth there none =
        let here = changed_here sound right step node live (λ same. cc (sym there ∙ same ∙ none)) in
        goes_here here (live_here sound right step node live here) (sym (before_is sound right step node live here) ∙ there) (sym (after_is sound right step node live here) ∙ none)

    -- and with each of the three it goes
    pub goes_back : takes_notice node step.at step.peer t step.action ≡ true → is_notified t node ≡ false
    goes_back takes =
        let here = takes_here step.action refl takes in
        after_is sound right step node live here ∙ gone_after here (live_here sound right step node live here) step.action refl takes

    -- nobody has a reference where it is taken
    pub taken_none : is_receipt_of node step.at step.peer step.action ≡ true → total s node ≡ 0
    taken_none is = by step.action is
      where
        by : (action : Action) → is_receipt_of node step.at step.peer action ≡ true → total s node ≡ 0
        by act.Recv received_it =
            let here = sym (receipt_by received_it).0 in
            let found = front_of here (live_here sound right step node live here) received_it in
            notice_total sound right step node here found.0 found.1
        by action none = absurd (cc none)
