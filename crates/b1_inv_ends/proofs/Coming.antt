-- A destroy notice comes to a queue without one only while its node isn't destroyed.
use Rattle.std.proofs.Common.{◌≡◌, ◌⊎◌, refl, sym, ap, subst, ◌∙◌, inl, inr, ℕ, ◌==◌, Bool, true, false, ◌&&◌, cond, List, [], ◌∷◌, Option}
use Rattle.std.specs.Prelude.{slice_get}
use Rattle.std.proofs.lemmas.Bool.{and_parts, eqb-true}
use Rattle.std.proofs.lemmas.Option.{same_Some}
use Rattle.b1_model.specs.declared.naming.Key.{Key}
use Rattle.b1_model.specs.declared.naming.Opening.{Opening}
use Rattle.b1_model.specs.declared.commands.Command.{Command}
use Rattle.b1_model.specs.declared.commands.Command.TheVariants as cmd
use Rattle.b1_model.specs.declared.entries.Entry.{Entry}
use Rattle.b1_model.specs.declared.entries.Entry.TheVariants.{Message, OwnNotice, ForeignNotice, ReleaseNotice}
use Rattle.b1_model.specs.declared.parts.NodeState.{NodeState}
use Rattle.b1_model.specs.declared.parts.NodeState.TheVariants.{Live, Dying, Destroyed}
use Rattle.b1_model.specs.declared.parts.Slot.{Slot}
use Rattle.b1_model.specs.declared.events.Action.{Action}
use Rattle.b1_model.specs.declared.events.Action.TheVariants as act
use Rattle.b1_model.specs.declared.events.Destruction.{Destruction}
use Rattle.b1_model.specs.declared.events.Doing.{Doing}
use Rattle.b1_model.specs.declared.events.OwedDrop.{OwedDrop}
use Rattle.b1_model.specs.declared.events.Phase.{Phase}
use Rattle.b1_model.specs.declared.events.Phase.TheVariants.{Starting, Visiting}
use Rattle.b1_model.specs.MachineParts.{PeerPart, DriverPart, State, is_data, is_staged, is_live, is_destroyed, node_at}
use Rattle.b1_model.specs.MachineSend.{with_slots}
use Rattle.b1_model.specs.MachineTables.{is_stage}
use Rattle.b1_model.specs.MachineDriver.{first_action, next_action}
use Rattle.b1_model.specs.MachineEvents.{doomed_of, begin_serials}
use Rattle.b1_model.specs.MachineStep.{Step}
use Rattle.b1_step.specs.Rights.{Has}
use Rattle.b1_step.proofs.Lists.{has_at}
use Rattle.b1_step.proofs.Orders.{find_has}
use Rattle.b1_inv.specs.Words.{IsPeer}
use Rattle.b1_inv.specs.Notices.{DestructionShape}
use Rattle.b1_inv.specs.Sound.{IsSound}
use Rattle.b1_inv_tools.proofs.Comes.{Comes, ComesOrWas, queue_comes}
use Rattle.b1_inv_tools.proofs.Leaves.{peer_cases}
use Rattle.b1_inv_notices.proofs.Turns.{opened, parts, going, going_doing, going_action}
use Rattle.b1_inv_destroys.proofs.Nodes.{begun_live}
use Rattle.b1_inv_ends.specs.Notices.{ends_node, has_notice}
use Rattle.b1_inv_ends.proofs.Ending.{any_there, there_any, any_stamp}

-- ---- the phase of a visit

first_visits : (peer : ℕ) (b : Bool) (command : Command) → cond b act.Local (first_action command) ≡ act.Visit peer → ⊥
first_visits peer true command is = absurd (cc is)
first_visits peer false cmd.Disconnect is = absurd (cc is)
first_visits peer false command is = absurd (cc is)

visit_phase : (peer : ℕ) (d : DriverPart) (command : Command) (phase : Phase) → next_action (opened d command phase d.owed) ≡ act.Visit peer → (destruction : Destruction) × (left : List ℕ) × (phase ≡ Visiting destruction left)
visit_phase peer d command phase is = by phase d.owed is
  where
    by : (phase : Phase) (owed : List OwedDrop) → next_action (opened d command phase owed) ≡ act.Visit peer → (destruction : Destruction) × (left : List ℕ) × (phase ≡ Visiting destruction left)
    by phase (one ∷ rest) is = absurd (cc is)
    by Starting [] is = absurd (first_visits peer d.shut command is)
    by (Visiting destruction left) [] is = (destruction, left, refl)
    by phase [] is = absurd (cc is)

-- ---- states of nodes

live_stands : (state : NodeState) → is_live state ≡ true → is_destroyed state ≡ false
live_stands Live is = refl
live_stands Dying is = refl
live_stands (Destroyed stamp) is = absurd (cc is)

-- a message stays one
message_stays : (slots : List Slot) (g : Key × Entry) (k : Key) (q r serial : ℕ) → is_data g.1 ≡ true → ends_node q r serial (k, with_slots slots g.1) ≡ false
message_stays slots (z, Message origin user index dest offset len nodes old handles payload) k q r serial is = refl
message_stays slots (z, OwnNotice mine index) k q r serial is = absurd (cc is)
message_stays slots (z, ForeignNotice node index) k q r serial is = absurd (cc is)
message_stays slots (z, ReleaseNotice mine) k q r serial is = absurd (cc is)

stage_data : (origin index : ℕ) (g : Key × Entry) → is_stage origin index g ≡ true → is_data g.1 ≡ true
stage_data origin index g is = by (is_data g.1) (is_staged g) (g.0.origin == origin) (g.0.index == index) is
  where
    by : (a b c e : Bool) → (a && b && c && e) ≡ true → a ≡ true
    by true b c e passes = refl
    by false b c e passes = absurd (cc passes)

-- ---- the events that bring a notice

module _ (q r serial : ℕ) (o : Opening) (d : DriverPart) (doing : Doing) (x : PeerPart) (f : Key × Entry) (none : has_notice q r serial x ≡ false) (ends : ends_node q r serial f ≡ true) where
  -- a destruction begins or visits, and dooms the node
  abbrev Brings : Action → Type 0
  Brings action = ((r ≡ q) × Has (begin_serials doing.command x) serial) ⊎ ((peer : ℕ) × (action ≡ act.Visit peer) × (r ≡ d.me) × Has (doomed_of doing.phase) serial)

  other_kind : (g : Key × Entry) → ends_node q r serial g ≡ false → f ≡ g → ⊥
  other_kind g no_notice same = let both : true ≡ false = sym ends ∙ ap (ends_node q r serial) same ∙ no_notice in absurd (cc both)

  not_there : (g : Key × Entry) → Has x.queue g → ends_node q r serial g ≡ true → ⊥
  not_there g has is = let both : true ≡ false = sym (there_any (ends_node q r serial) x.queue g has is) ∙ none in absurd (cc both)

  brings : (action : Action) → Comes o d doing x action f → Brings action
  brings (act.Stage peer place) same = absurd (other_kind _ refl same)
  brings (act.Commit peer place stamp) (g, found, same) =
      let there = find_has (is_stage d.me place) x.queue g found in
      absurd (other_kind _ (message_stays _ g (record { stamp = stamp; origin = d.me; index = place }) q r serial (stage_data d.me place g there.1)) same)
  brings (act.CommitNotices peer stamp) (g, has, staged, same) = absurd (not_there g has (sym (any_stamp q r serial stamp g) ∙ ap (ends_node q r serial) (sym same) ∙ ends))
  brings (act.DropRefs peer one holder n clock) (same, released) = absurd (other_kind _ refl same)
  brings act.BeginDestroy (index, mine, at, same, accepted) =
      let own : ((r == q) && (mine == serial)) ≡ true = ap (ends_node q r serial) (sym same) ∙ ends in
      let both = and_parts (r == q) (mine == serial) own in
      inl (eqb-true r q both.0, subst (Has (begin_serials doing.command x)) (eqb-true mine serial both.1) (has_at (begin_serials doing.command x) index mine at))
  brings (act.Visit peer) (index, mine, at, same) =
      let foreign : ((d.me == r) && (mine == serial)) ≡ true = ap (ends_node q r serial) (sym same) ∙ ends in
      let both = and_parts (d.me == r) (mine == serial) foreign in
      inr (peer, refl, sym (eqb-true d.me r both.0), subst (Has (doomed_of doing.phase)) (eqb-true mine serial both.1) (has_at (doomed_of doing.phase) index mine at))
  brings action came = absurd came

-- ---- the step

module _ {o : Opening} {s : State} {p : ℕ} {c : Option Command} {t : State} (sound : IsSound o s) (step : Step o s p c t) where
  -- the nodes of a visiting destruction are dying
  visits_dying : (peer serial : ℕ) (w : PeerPart) → IsPeer s p w → going_action step ≡ act.Visit peer → Has (doomed_of (parts step).phase) serial → is_destroyed (node_at w serial).state ≡ false
  visits_dying peer serial w is visits has =
      let k = visit_phase peer step.driver (parts step).command (parts step).phase visits in
      elim (parts step).was [
        | inr new ↦ let both : Starting ≡ Visiting k.0 k.1 = sym new.1 ∙ k.2 in absurd (cc both)
        | inl open_is ↦
            let shape = sound.notices.shape p step.driver w (going_doing step) step.is_driver is open_is in
            ap is_destroyed (dying k.0 k.1 (subst (DestructionShape w.peers w (parts step).command) k.2 shape) (subst (λ phase. Has (doomed_of phase) serial) k.2 has))
      ]
    where
      dying : (destruction : Destruction) (left : List ℕ) → DestructionShape w.peers w (parts step).command (Visiting destruction left) → Has destruction.doomed serial → (node_at w serial).state ≡ Dying
      dying destruction left shape there = (shape.1.made serial there).1

  pub comes_undestroyed : (q r serial : ℕ) (x y w : PeerPart) → IsPeer s q x → IsPeer t q y → IsPeer s r w → has_notice q r serial x ≡ false → has_notice q r serial y ≡ true → is_destroyed (node_at w serial).state ≡ false
  comes_undestroyed q r serial x y w is now owner before after = elim (peer_cases step q y now) [
    | inr other ↦
        let same : y ≡ x = same_Some y x (sym other.1 ∙ is) in
        let both : true ≡ false = sym after ∙ ap (has_notice q r serial) same ∙ before in
        absurd (cc both)
    | inl here ↦
        let same : x ≡ step.peer = same_Some x step.peer (sym is ∙ ap (slice_get s.peers) here.0 ∙ step.is_peer) in
        let there = any_there (ends_node q r serial) y.queue after in
        by (ap (has_notice q r serial) (sym same) ∙ before) same there.0 there.2
        (queue_comes o (going step) (going_doing step) there.0 step.local.memory (going_action step) step.peer (subst (λ z. Has z.queue there.0) (here.1 ∙ sym (parts step).is_peer) there.1))
  ]
    where
      by : has_notice q r serial step.peer ≡ false → x ≡ step.peer → (f : Key × Entry) → ends_node q r serial f ≡ true → ComesOrWas o (going step) (going_doing step) step.peer (going_action step) f → is_destroyed (node_at w serial).state ≡ false
      by none same f ends (inl was) = let both : true ≡ false = sym (there_any (ends_node q r serial) step.peer.queue f was.0 ends) ∙ none in absurd (cc both)
      by none same f ends (inr came) = elim (brings q r serial o (going step) (going_doing step) step.peer f none ends (going_action step) came) [
        | inl begun ↦
            let own : w ≡ step.peer = same_Some w x (sym owner ∙ ap (slice_get s.peers) begun.0 ∙ is) ∙ same in
            ap (λ z. is_destroyed (node_at z serial).state) own ∙ live_stands (node_at step.peer serial).state (begun_live step.peer (parts step).command serial begun.1)
        | inr visit ↦
            let mine : r ≡ p = visit.2 ∙ sound.numbered.drivers p step.driver step.is_driver in
            visits_dying visit.0 serial w (subst (λ n. IsPeer s n w) mine owner) visit.1 visit.3
      ]
