-- A destroy notice leaves its queue only by a flush, or once its node is destroyed.
use Rattle.std.proofs.Common.{◌≡◌, ◌⊎◌, refl, sym, ap, subst, ◌∙◌, inl, inr, ℕ, ◌==◌, Bool, true, false, ◌&&◌, Option, Some}
use Rattle.std.specs.Prelude.{slice_get}
use Rattle.std.proofs.lemmas.Bool.{and_parts, eqb-true}
use Rattle.std.proofs.lemmas.Option.{same_Some}
use Rattle.b1_model.specs.declared.naming.Key.{Key}
use Rattle.b1_model.specs.declared.naming.Opening.{Opening}
use Rattle.b1_model.specs.declared.commands.Command.{Command}
use Rattle.b1_model.specs.declared.entries.Entry.{Entry}
use Rattle.b1_model.specs.declared.entries.Entry.TheVariants.{Message, OwnNotice, ForeignNotice, ReleaseNotice}
use Rattle.b1_model.specs.declared.events.Action.{Action}
use Rattle.b1_model.specs.declared.events.Action.TheVariants as act
use Rattle.b1_model.specs.declared.events.Doing.{Doing}
use Rattle.b1_model.specs.MachineParts.{PeerPart, DriverPart, State, is_data, is_staged, is_destroyed, node_at}
use Rattle.b1_model.specs.MachineTables.{is_stage, is_staged_notice}
use Rattle.b1_model.specs.MachineSend.{with_stamp}
use Rattle.b1_model.specs.MachineEvents.{happens}
use Rattle.b1_model.specs.MachineStep.{Step}
use Rattle.b1_step.specs.Rights.{Has}
use Rattle.b1_inv.specs.Words.{IsPeer}
use Rattle.b1_inv.specs.Sound.{IsSound}
use Rattle.b1_inv_record.specs.Destructions.{own_ref, doomed_key}
use Rattle.b1_inv_record.specs.Right.{IsRight}
use Rattle.b1_inv_tools.proofs.Leaves.{peer_cases}
use Rattle.b1_inv_notices.proofs.Turns.{parts, going, going_doing, going_action, get_there}
use Rattle.b1_inv_names.proofs.Staying.{destroyed_stay}
use Rattle.b1_inv_destroys.proofs.FirstNode.{is_flush_action}
use Rattle.b1_inv_entries.proofs.Keeping.{queue_keeps, recv_staged}
use Rattle.b1_inv_doomed.proofs.Dying.{life_at, doomed_made}
use Rattle.b1_inv_doomed.proofs.KeysStamped.{was_peer}
use Rattle.b1_inv_doomed.proofs.NoticeStays.{commits}
use Rattle.b1_inv_ends.specs.Notices.{ends_node, has_notice}
use Rattle.b1_inv_ends.proofs.Ending.{any_there, there_any, no_release, no_data, any_stamp}

-- ---- what an event leaves

no_stage : (origin index : ℕ) (f : Key × Entry) → is_data f.1 ≡ false → is_stage origin index f ≡ false
no_stage origin index f is = by (is_data f.1) is (is_staged f) (f.0.origin == origin) (f.0.index == index)
  where
    by : (a : Bool) → a ≡ false → (b c e : Bool) → (a && b && c && e) ≡ false
    by true no_false b c e = absurd (cc no_false)
    by false is_false b c e = refl

is_flush : (action : Action) → is_flush_action action ≡ true → action ≡ act.Flush
is_flush act.Flush is = refl
is_flush action is = absurd (cc is)

module _ (q r serial : ℕ) (o : Opening) (memory : Bool) (d : DriverPart) (doing : Doing) (x : PeerPart) (f : Key × Entry) (ends : ends_node q r serial f ≡ true) (has : Has x.queue f) where
  abbrev Remains : Action → Type 0
  Remains action = has_notice q r serial (happens o memory d doing action x).1 ≡ true

  stays : (action : Action) → Has (happens o memory d doing action x).1.queue f → Remains action
  stays action there = there_any (ends_node q r serial) (happens o memory d doing action x).1.queue f there ends

  committed : (peer stamp : ℕ) → Remains (act.CommitNotices peer stamp)
  committed peer stamp = by (is_staged_notice d.me f) refl
    where
      by : (b : Bool) → is_staged_notice d.me f ≡ b → Remains (act.CommitNotices peer stamp)
      by true is = there_any (ends_node q r serial) (happens o memory d doing (act.CommitNotices peer stamp) x).1.queue (with_stamp stamp f) (commits x d.me stamp f has is) (any_stamp q r serial stamp f ∙ ends)
      by false is = stays (act.CommitNotices peer stamp) (queue_keeps f (no_release q r serial f ends) o memory d doing x has (act.CommitNotices peer stamp) is refl refl)

  -- a notice remains, but for a flush, and for a RECV where it is committed
  remains : (action : Action) → is_flush_action action ≡ false → Remains action ⊎ (is_staged f ≡ false)
  remains act.Recv calm = by (is_staged f) refl
    where
      by : (b : Bool) → is_staged f ≡ b → Remains act.Recv ⊎ (is_staged f ≡ false)
      by true odd = inl (stays act.Recv (recv_staged x f odd has))
      by false even = inr even
  remains act.Flush calm = absurd (cc calm)
  remains (act.CommitNotices peer stamp) calm = inl (committed peer stamp)
  remains (act.Unstage peer place) calm = inl (stays (act.Unstage peer place) (queue_keeps f (no_release q r serial f ends) o memory d doing x has (act.Unstage peer place) (no_stage d.me place f (no_data q r serial f ends)) refl refl))
  remains (act.Commit peer place stamp) calm = inl (stays (act.Commit peer place stamp) (queue_keeps f (no_release q r serial f ends) o memory d doing x has (act.Commit peer place stamp) (no_stage d.me place f (no_data q r serial f ends)) refl refl))
  remains action calm = inl (stays action (queue_keeps f (no_release q r serial f ends) o memory d doing x has action refl refl calm))

-- ---- a committed notice has its key in the record

module _ {o : Opening} {s : State} (right : IsRight o s) (q r serial : ℕ) (x : PeerPart) (is : IsPeer s q x) where
  committed_key : (f : Key × Entry) → Has x.queue f → ends_node q r serial f ≡ true → is_staged f ≡ false → doomed_key o s (own_ref r serial) ≡ Some f.0
  committed_key (k, Message origin user index dest offset len nodes slots handles payload) has ends even = absurd (cc ends)
  committed_key (k, OwnNotice mine index) has ends even =
      let both = and_parts (r == q) (mine == serial) ends in
      ap (λ n. doomed_key o s (own_ref n serial)) (eqb-true r q both.0) ∙ ap (λ n. doomed_key o s (own_ref q n)) (sym (eqb-true mine serial both.1))
      ∙ right.destructions.own.queued q index mine x k is has even
  committed_key (k, ForeignNotice node index) has ends even =
      let both = and_parts (node.owner == r) (node.serial == serial) ends in
      ap (λ n. doomed_key o s (own_ref n serial)) (sym (eqb-true node.owner r both.0)) ∙ ap (λ n. doomed_key o s (own_ref node.owner n)) (sym (eqb-true node.serial serial both.1))
      ∙ right.destructions.foreign.queued q index x k node is has even
  committed_key (k, ReleaseNotice mine) has ends even = absurd (cc ends)

-- ---- the step

module _ {o : Opening} {s : State} {p : ℕ} {c : Option Command} {t : State} (sound : IsSound o s) (right : IsRight o s) (step : Step o s p c t) where
  -- a node of which a committed notice was queued is destroyed
  ended : (q r serial : ℕ) (x w : PeerPart) (f : Key × Entry) → IsPeer s q x → IsPeer t r w → Has x.queue f → ends_node q r serial f ≡ true → is_staged f ≡ false → is_destroyed (node_at w serial).state ≡ true
  ended q r serial x w f is after has ends even =
      let v = was_peer sound right step r w after in
      let key = committed_key right q r serial x is f has ends even in
      let low = doomed_made sound right r serial v.0 f.0 v.1 key in
      let n = get_there v.0.nodes serial low in
      destroyed_stay step r serial v.0 w v.1 after low (ap is_destroyed (life_at v.0 serial n.0 n.1 ∙ right.destructions.dying.recorded r serial v.0 n.0 f.0 v.1 n.1 key))

  pub leaves_ended : (q r serial : ℕ) (x y w : PeerPart) → IsPeer s q x → IsPeer t q y → IsPeer t r w → has_notice q r serial x ≡ true → has_notice q r serial y ≡ false → (step.action ≡ act.Flush) ⊎ (is_destroyed (node_at w serial).state ≡ true)
  leaves_ended q r serial x y w is now owner before after = elim (peer_cases step q y now) [
    | inr other ↦
        let same : y ≡ x = same_Some y x (sym other.1 ∙ is) in
        let both : true ≡ false = sym before ∙ ap (has_notice q r serial) (sym same) ∙ after in
        absurd (cc both)
    | inl here ↦
        let there = any_there (ends_node q r serial) x.queue before in
        by here there.0 there.1 there.2 (is_flush_action (going_action step)) refl
  ]
    where
      by : ((q ≡ step.at) × (y ≡ step.new_peer)) → (f : Key × Entry) → Has x.queue f → ends_node q r serial f ≡ true → (b : Bool) → is_flush_action (going_action step) ≡ b → (step.action ≡ act.Flush) ⊎ (is_destroyed (node_at w serial).state ≡ true)
      by here f has ends true flush = inl (sym (parts step).is_action ∙ is_flush (going_action step) flush)
      by here f has ends false calm =
          let same : x ≡ step.peer = same_Some x step.peer (sym is ∙ ap (slice_get s.peers) here.0 ∙ step.is_peer) in
          elim (remains q r serial o step.local.memory (going step) (going_doing step) step.peer f ends (subst (λ z. Has z.queue f) same has) (going_action step) calm) [
            | inl remaining ↦
                let both : true ≡ false = sym remaining ∙ ap (has_notice q r serial) ((parts step).is_peer ∙ sym here.1) ∙ after in
                absurd (cc both)
            | inr even ↦ inr (ended q r serial x w f is owner has ends even)
          ]
