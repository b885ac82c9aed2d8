-- Release notices stay right in every step.
use Rattle.std.proofs.Common.{◌≡◌, refl, sym, ap, ◌∙◌, inl, inr, subst, arith, ℕ, ◌≤◌, ◌==◌, Bool, true, false, cond, ◌&&◌, if◌then◌else◌, List, [], ◌∷◌, Option, Some, None}
use Rattle.std.specs.Prelude.{slice_get}
use Rattle.std.proofs.lemmas.Bool.{eq-eqb}
use Rattle.b1_model.specs.declared.naming.Key.{Key}
use Rattle.b1_model.specs.declared.naming.Opening.{Opening}
use Rattle.b1_model.specs.declared.commands.Command.{Command}
use Rattle.b1_model.specs.declared.commands.Command.TheVariants as cmd
use Rattle.b1_model.specs.declared.entries.Entry.TheVariants.{ReleaseNotice}
use Rattle.b1_model.specs.declared.events.Action.{Action}
use Rattle.b1_model.specs.declared.events.Action.TheVariants as act
use Rattle.b1_model.specs.declared.events.OwedDrop.{OwedDrop}
use Rattle.b1_model.specs.declared.events.Phase.{Phase}
use Rattle.b1_model.specs.declared.events.Phase.TheVariants.{Starting, Staging, Unstaging, Attaching, Stamping, Syncing, Committing, Dropping, Reaping, Visiting, Dooming, SyncingNotices, CommittingOwn, CommittingNotices, Flushing}
use Rattle.b1_model.specs.MachineParts.{PeerPart, State, node_at, same_ref, is_staged, is_live}
use Rattle.b1_model.specs.MachineTables.{count_of}
use Rattle.b1_model.specs.MachineCounts.{owed_amount, driver_amount}
use Rattle.b1_model.specs.MachineDriver.{phase_action, peer_of, first_action}
use Rattle.b1_model.specs.MachineEvents.{doomed_of}
use Rattle.b1_model.specs.MachineStep.{Step, opening_state}
use Rattle.b1_step.specs.Rights.{Has}
use Rattle.b1_step.proofs.Orders.{same_ref_itself}
use Rattle.b1_inv.specs.Words.{IsPeer}
use Rattle.b1_inv.specs.Notices.{DestructionShape}
use Rattle.b1_inv.specs.References.{count_in, IsDrop}
use Rattle.b1_inv.specs.Sound.{IsSound}
use Rattle.b1_inv_record.specs.Parts.{ReleaseNoticesRight}
use Rattle.b1_inv_tools.proofs.Facts.{next_of, next_owed}
use Rattle.b1_inv_tools.proofs.Leaves.{Did, step_did}
use Rattle.b1_inv_sends.proofs.StagesKept.{opening_queue}
use Rattle.b1_inv_refs.proofs.Amounts.{owed_cons}
use Rattle.b1_inv_refs.proofs.Counting.{member_le}
use Rattle.b1_inv_refs.proofs.Owes.{opened_amount}
use Rattle.b1_inv_parts.proofs.Steps.{kept_by_step}
use Rattle.b1_inv_parts.proofs.Releases.{ReleasesOk, Fits, event_releases}

module _ {o : Opening} {s : State} {p : ℕ} {command : Option Command} {t : State} (sound : IsSound o s) (step : Step o s p command t) where
  abbrev k : Did o step.local.memory step.driver command step.peer step.action step.at step.new_driver step.new_peer
  k = step_did step

  pub at_own : (action : Action) → step.action ≡ action → peer_of k.e.me action ≡ k.e.me → step.at ≡ p
  at_own action is own = k.is_at ∙ ap (peer_of k.e.me) is ∙ own ∙ k.opened.me ∙ sound.numbered.drivers p step.driver step.is_driver

  calm : (key : Key) (serial : ℕ) → Has step.peer.queue (key, ReleaseNotice serial) → is_staged (key, ReleaseNotice serial) ≡ false
  calm key serial has = (sound.notices.queued step.at step.peer (key, ReleaseNotice serial) step.is_peer has).2

  -- the nodes of a destruction that gets its stamp are dying
  dying : (phase : Phase) → k.doing.phase ≡ phase → step.action ≡ phase_action k.e.me k.e.shut k.doing.command phase → phase_action k.e.me k.e.shut k.doing.command phase ≡ act.StampDestroy → (phase ≡ Starting → ⊥)
      → DestructionShape step.peer.peers step.peer k.doing.command phase
  dying phase is at stamps started =
      let here : step.at ≡ p = at_own act.StampDestroy (at ∙ stamps) refl in
      let open_is : step.driver.doing ≡ Some k.doing = elim k.opened.from [ inl same ↦ same | inr begins ↦ absurd (started (sym is ∙ begins.2)) ] in
      subst (DestructionShape step.peer.peers step.peer k.doing.command) is (sound.notices.shape p step.driver step.peer k.doing step.is_driver (ap (slice_get s.peers) (sym here) ∙ step.is_peer) open_is)

  first_fits : (c : Command) → Fits k.doing step.peer (first_action c)
  first_fits cmd.Disconnect = tt
  first_fits cmd.Query = tt
  first_fits (cmd.Reset limits) = tt
  first_fits (cmd.Limit limits) = tt
  first_fits (cmd.Release number) = tt
  first_fits (cmd.Destroy numbers) = tt
  first_fits (cmd.SliceRelease offset) = tt
  first_fits (cmd.Send c) = tt
  first_fits cmd.Recv = tt
  first_fits cmd.Await = tt

  start_fits : (shut : Bool) (c : Command) → Fits k.doing step.peer (if shut then act.Local else first_action c)
  start_fits true c = tt
  start_fits false c = first_fits c

  phase_fits : (phase : Phase) → k.doing.phase ≡ phase → step.action ≡ phase_action k.e.me k.e.shut k.doing.command phase → Fits k.doing step.peer (phase_action k.e.me k.e.shut k.doing.command phase)
  phase_fits Starting is at = start_fits k.e.shut k.doing.command
  phase_fits (Dooming destruction) is at =
      λ serial doomed.
      let shape = dying (Dooming destruction) is at refl (λ e. cc e) in
      ap is_live (shape.1.made serial (subst (λ l. Has l serial) (ap doomed_of is) doomed)).1
  phase_fits (CommittingOwn d stamp) is at = calm
  phase_fits (CommittingNotices d stamp place) is at = calm
  phase_fits (Committing sending stamp place) is at = tt
  phase_fits (Staging nodes places collected) is at = tt
  phase_fits (Unstaging nodes places refused place) is at = tt
  phase_fits (Attaching sending place handle) is at = tt
  phase_fits (Stamping sending) is at = tt
  phase_fits (Syncing sending stamp place) is at = tt
  phase_fits Dropping is at = tt
  phase_fits (Reaping got) is at = tt
  phase_fits (Visiting d left) is at = tt
  phase_fits (SyncingNotices d stamp place) is at = tt
  phase_fits (Flushing stamp) is at = tt

  -- what is owed is counted at its owner
  pub drop_fits : (one : OwedDrop) (rest : List OwedDrop) → k.e.owed ≡ one ∷ rest → step.at ≡ one.node.owner → 1 ≤ count_of (node_at step.peer one.node.serial) one.holder
  drop_fits one rest is here =
      let drop : IsDrop s one = sound.references.owed p step.driver one step.is_driver (subst (λ l. Has l one) (sym is ∙ k.opened.owed) (inl refl)) in
      let a = sound.references.counts one.node one.holder in
      let b : count_in s one.node one.holder ≡ count_of (node_at step.peer one.node.serial) one.holder = ap (λ r. elim r [ None ↦ 0 | Some x ↦ count_of (node_at x one.node.serial) one.holder ]) (ap (slice_get s.peers) (sym here) ∙ step.is_peer) in
      let c = member_le (driver_amount one.node one.holder) s.drivers p step.driver step.is_driver in
      let d = opened_amount one.node one.holder step.driver command k.e k.doing k.opened in
      let f = ap (owed_amount one.node one.holder) is ∙ owed_cons one.node one.holder one rest in
      let g : cond (same_ref one.node one.node && (one.holder == one.holder)) one.amount 0 ≡ one.amount = rw (same_ref_itself one.node, eq-eqb one.holder one.holder refl) refl in
      let some = drop.some in
      omega (arith, a, b, c, d, f, g, some)

  pub next_fits : (owed : List OwedDrop) → k.e.owed ≡ owed → Fits k.doing step.peer step.action
  next_fits [] none =
      let at = k.is_action ∙ next_of k.e k.doing k.opened.is_open none in
      subst (Fits k.doing step.peer) (sym at) (phase_fits k.doing.phase refl at)
  next_fits (one ∷ rest) owes =
      let at = k.is_action ∙ next_owed k.e k.doing one rest k.opened.is_open owes in
      subst (Fits k.doing step.peer) (sym at) (drop_fits one rest owes (k.is_at ∙ ap (peer_of k.e.me) at))

  each_releases : ReleaseNoticesRight s → (q : ℕ) (y : PeerPart) → IsPeer t q y → ReleasesOk y
  each_releases right =
      kept_by_step step ReleasesOk
      (λ q x is. record { live = λ serial key h. right.live q serial x key is h; unheld = λ serial key h. right.unheld q serial x key is h; once = λ serial key l h i. right.once q serial x key l is h i })
      (λ ok. event_releases o step.local.memory k.e k.doing step.peer ok step.action (next_fits k.e.owed refl))

  pub releases_kept : ReleaseNoticesRight s → ReleaseNoticesRight t
  releases_kept right = record {
    live = λ q serial y key is h. (each_releases right q y is).live serial key h;
    unheld = λ q serial y key is h. (each_releases right q y is).unheld serial key h;
    once = λ q serial y key l is h i. (each_releases right q y is).once serial key l h i;
  }

pub releases_begin : (o : Opening) → ReleaseNoticesRight (opening_state o)
releases_begin o = record {
  live = λ q serial x key is h. absurd (subst (λ queue. Has queue (key, ReleaseNotice serial)) (opening_queue o q x is) h);
  unheld = λ q serial x key is h. absurd (subst (λ queue. Has queue (key, ReleaseNotice serial)) (opening_queue o q x is) h);
  once = λ q serial x key l is h i. absurd (subst (λ queue. Has queue (key, ReleaseNotice serial)) (opening_queue o q x is) h);
}
