-- Own notices stay staged in every step until their destruction commits them.
use Rattle.std.proofs.Common.{◌≡◌, ◌≢◌, refl, sym, ap, subst, ◌∙◌, inl, inr, ℕ, ◌+◌, Bool, true, false, List, Option, Some, None}
use Rattle.std.specs.Prelude.{slice_get}
use Rattle.std.proofs.lemmas.Option.{slice_get_within}
use native.Mathlib.Omega.{arith}
use Rattle.b1_model.specs.declared.commands.Command.{Command}
use Rattle.b1_model.specs.declared.commands.SendCmd.{SendCmd}
use Rattle.b1_model.specs.declared.naming.Key.{Key}
use Rattle.b1_model.specs.declared.naming.NodeRef.{NodeRef}
use Rattle.b1_model.specs.declared.naming.Opening.{Opening}
use Rattle.b1_model.specs.declared.answers.Reason.{Reason}
use Rattle.b1_model.specs.declared.entries.Entry.TheVariants.{OwnNotice}
use Rattle.b1_model.specs.declared.events.Action.{Action}
use Rattle.b1_model.specs.declared.events.Action.TheVariants as act
use Rattle.b1_model.specs.declared.events.Doing.{Doing}
use Rattle.b1_model.specs.declared.events.Phase.{Phase}
use Rattle.b1_model.specs.declared.events.Phase.TheVariants.{Visiting, Dooming, SyncingNotices, CommittingOwn, CommittingNotices}
use Rattle.b1_model.specs.MachineParts.{PeerPart, DriverPart, State, is_staged}
use Rattle.b1_model.specs.MachineDriver.{peer_of, send_of}
use Rattle.b1_model.specs.MachineEvents.{happens, doomed_of, begin_by, stage_by, destroy_by, begin_refusal, begin_serials}
use Rattle.b1_model.specs.MachineStep.{Step, opening_state}
use Rattle.b1_step.specs.Rights.{Has, may_be_elsewhere}
use Rattle.b1_step.proofs.Locality.{step_keeps, step_grows, own_place}
use Rattle.b1_inv.specs.Words.{IsPeer, IsDriver, phase_uncommitted, is_uncommitted, staged_peers}
use Rattle.b1_inv.specs.Notices.{DestructionShape, doomed_now}
use Rattle.b1_inv.specs.Sound.{IsSound}
use Rattle.b1_inv_record.specs.Right.{IsRight}
use Rattle.b1_inv_tools.proofs.Leaves.{driver_cases, peer_cases}
use Rattle.b1_inv_tools.proofs.Openings.{opening_idle}
use Rattle.b1_inv_notices.proofs.Turns.{took_leaves, parts, going, going_doing, going_action, going_answer, get_there}
use Rattle.b1_inv_destroys.specs.OwnNotices.{OwnStaged}
use Rattle.b1_inv_destroys.proofs.Keyed.{odd_is}
use Rattle.b1_inv_destroys.proofs.Taken.{number}
use Rattle.b1_inv_destroys.proofs.Staged.{own_there, NoCommit, BeginsAt, StagedBy, WasStaged, staged_ends, turn_staged, queue_stays}

-- the notice of a node is staged at a place
abbrev IsStagedAt : PeerPart → ℕ → ℕ → Type 0
IsStagedAt x i serial = (k : Key) × Has x.queue (k, OwnNotice serial i) × (is_staged (k, OwnNotice serial i) ≡ true)

staged_others : (peers : ℕ) (x : PeerPart) (command : Command) (phase : Phase) (q : ℕ) → DestructionShape peers x command phase → Has (staged_peers phase) q → q ≡ x.me → ⊥
staged_others peers x command (Visiting d left) q shape has = (shape.1.staged.others q has).1
staged_others peers x command (Dooming d) q shape has = (shape.1.staged.others q has).1
staged_others peers x command (SyncingNotices d stamp at) q shape has = (shape.1.staged.others q has).1
staged_others peers x command (CommittingOwn d stamp) q shape has = (shape.1.staged.others q has).1
staged_others peers x command (CommittingNotices d stamp at) q shape has = (shape.1.staged.others q has).1
staged_others peers x command phase q shape has = absurd has

destroy_there : (r : Option Reason) (doomed : List ℕ) (x : PeerPart) (i serial : ℕ) → BeginsAt (destroy_by r doomed x).0 i serial → Has (destroy_by r doomed x).1.queue (record { stamp = x.clock + 1; origin = x.me; index = 0 + i }, OwnNotice serial (0 + i))
destroy_there (Some r) doomed x i serial at = absurd at
destroy_there None doomed x i serial at = own_there x 0 doomed x.queue i serial at

begin_none : (r : Option Reason) (memory : Bool) (c : SendCmd) (x : PeerPart) (i serial : ℕ) → BeginsAt (begin_by r memory c x).0 i serial → ⊥
begin_none (Some r) memory c x i serial h = h
begin_none None true c x i serial h = h
begin_none None false c x i serial h = h

stage_none : (r : Option Reason) (memory : Bool) (origin user place to : ℕ) (payload : List ℕ) (nodes : List NodeRef) (x : PeerPart) (i serial : ℕ) → BeginsAt (stage_by r memory origin user place to payload nodes x).0 i serial → ⊥
stage_none (Some r) memory origin user place to payload nodes x i serial h = h
stage_none None true origin user place to payload nodes x i serial h = h
stage_none None false origin user place to payload nodes x i serial h = h

abbrev waits_by : ℕ → ℕ → Option Doing → Bool
waits_by me q doing = elim doing [ None ↦ false | Some one ↦ phase_uncommitted me one.phase q ]

module _ {o : Opening} {s : State} {p : ℕ} {c : Option Command} {t : State} (sound : IsSound o s) (right : IsRight o s) (step : Step o s p c t) where
  me_is : step.driver.me ≡ p
  me_is = number sound right step

  -- ---- another driver's step

  other_staged : (r i serial : ℕ) (e : DriverPart) (y : PeerPart) → r ≢ p → IsDriver s r e → IsPeer t r y → slice_get (doomed_now e) i ≡ Some serial → is_uncommitted e r ≡ true → IsStagedAt y i serial
  other_staged r i serial e y apart is_driver is_peer at waits = elim (peer_cases step r y is_peer) [
    | inr other ↦ right.destructions.own.staged r i serial e y is_driver other.1 at waits
    | inl here ↦ subst (λ z. IsStagedAt z i serial) (sym here.1) (at_own here.0 (may_be_elsewhere step.action) refl)
  ]
    where
      at_own : r ≡ step.at → (b : Bool) → may_be_elsewhere step.action ≡ b → IsStagedAt step.new_peer i serial
      at_own here false is = absurd (apart (here ∙ own_place step is ∙ me_is))
      at_own here true is =
          let is_here : IsPeer s r step.peer = subst (λ q. IsPeer s q step.peer) (sym here) step.is_peer in
          let old = right.destructions.own.staged r i serial e step.peer is_driver is_here at waits in
          let origin = (sound.notices.queued r step.peer (old.0, OwnNotice serial i) is_here old.1).0 in
          (old.0, (step_keeps step is).stays (old.0, OwnNotice serial i) old.1 refl (inr (λ same. apart (sym origin ∙ same ∙ me_is))), old.2)

  -- ---- the driver's own step

  own_part : (x : PeerPart) × IsPeer s p x
  own_part =
      let within = slice_get_within s.drivers p step.driver step.is_driver in
      get_there s.peers p (omega (arith, within, sound.numbered.as_many_drivers, sound.numbered.as_many_peers))

  no_own : Has (staged_peers (parts step).phase) step.driver.me → ⊥
  no_own has = elim (parts step).was [
    | inl open_is ↦
        let x = own_part in
        staged_others x.0.peers x.0 (parts step).command (parts step).phase step.driver.me (sound.notices.shape p step.driver x.0 (going_doing step) step.is_driver x.1 open_is) has (me_is ∙ sym (sound.numbered.peers p x.0 x.1).me)
    | inr new ↦ absurd (subst (λ z. Has (staged_peers z) step.driver.me) new.1 has)
  ]

  source : (i serial : ℕ) → slice_get (doomed_now step.new_driver) i ≡ Some serial → is_uncommitted step.new_driver p ≡ true → StagedBy step.driver.me (parts step).phase (going_answer step) i serial
  source i serial at waits =
      subst (λ e. WasStaged (parts step).command step.driver.me (parts step).phase (going_answer step) i serial e.doing) (parts step).is_driver
      (took_leaves (WasStaged (parts step).command step.driver.me (parts step).phase (going_answer step) i serial) (parts step).command (staged_ends (parts step).command step.driver.me (parts step).phase (going_answer step) i serial) step.driver (parts step).phase step.driver.owed (going_answer step)
      (turn_staged (parts step).command step.driver.me (parts step).phase (going_answer step) i serial no_own)) at
      (ap (λ m. waits_by m step.driver.me step.new_driver.doing) (sym (step_grows step).me) ∙ ap (λ q. waits_by step.new_driver.me q step.new_driver.doing) me_is ∙ waits)

  abbrev after : Action → PeerPart
  after action = (happens o step.local.memory (going step) (going_doing step) action step.peer).1

  begins_staged : (action : Action) (i serial : ℕ) → peer_of step.driver.me action ≡ step.at → BeginsAt (happens o step.local.memory (going step) (going_doing step) action step.peer).0 i serial → (step.at ≡ p) × IsStagedAt (after action) i serial
  begins_staged act.BeginDestroy i serial at h =
      let there = destroy_there (begin_refusal (parts step).command step.peer) (begin_serials (parts step).command step.peer) step.peer i serial h in
      let place : 0 + i ≡ i = omega arith in
      (sym at ∙ me_is, (record { stamp = step.peer.clock + 1; origin = step.peer.me; index = i }, subst (λ n. Has (after act.BeginDestroy).queue (record { stamp = step.peer.clock + 1; origin = step.peer.me; index = n }, OwnNotice serial n)) place there, odd_is step.peer.clock (sound.clocks.clock step.at step.peer step.is_peer).0))
  begins_staged act.Begin i serial at h = absurd (begin_none _ step.local.memory (send_of (parts step).command) step.peer i serial h)
  begins_staged (act.Stage peer place) i serial at h = absurd (stage_none _ step.local.memory _ _ _ _ _ _ step.peer i serial h)
  begins_staged action i serial at h = absurd h

  kept_staged : (i serial : ℕ) (y : PeerPart) → IsPeer t p y → slice_get (doomed_of (parts step).phase) i ≡ Some serial → phase_uncommitted step.driver.me (parts step).phase step.driver.me ≡ true → NoCommit (parts step).phase (going_answer step)
      → step.driver.doing ≡ Some (going_doing step) → IsStagedAt y i serial
  kept_staged i serial y is_peer at waits none open_is =
      let old_at : slice_get (doomed_now step.driver) i ≡ Some serial = ap (λ z. slice_get (doomed_now (record step.driver { doing = z })) i) open_is ∙ at in
      let old_waits : is_uncommitted step.driver p ≡ true = ap (λ z. waits_by step.driver.me p z) open_is ∙ ap (λ q. phase_uncommitted step.driver.me (parts step).phase q) (sym me_is) ∙ waits in
      elim (peer_cases step p y is_peer) [
        | inr other ↦ right.destructions.own.staged p i serial step.driver y step.is_driver other.1 old_at old_waits
        | inl here ↦
            let old = right.destructions.own.staged p i serial step.driver step.peer step.is_driver (subst (λ q. IsPeer s q step.peer) (sym here.0) step.is_peer) old_at old_waits in
            let stays = queue_stays o step.local.memory step.driver (parts step).command step.peer i serial old.0 (parts step).phase step.driver.owed at none old.1 in
            (old.0, subst (λ z. Has z.queue (old.0, OwnNotice serial i)) ((parts step).is_peer ∙ sym here.1) stays, old.2)
      ]

  own_staged_here : (i serial : ℕ) (y : PeerPart) → IsPeer t p y → StagedBy step.driver.me (parts step).phase (going_answer step) i serial → IsStagedAt y i serial
  own_staged_here i serial y is_peer (inr begins) =
      let k = begins_staged (going_action step) i serial (parts step).is_at begins in
      elim (peer_cases step p y is_peer) [
        | inl here ↦ subst (λ z. IsStagedAt z i serial) ((parts step).is_peer ∙ sym here.1) k.1
        | inr other ↦ absurd (other.0 (sym k.0))
      ]
  own_staged_here i serial y is_peer (inl (at, waits, none)) = elim (parts step).was [
    | inl open_is ↦ kept_staged i serial y is_peer at waits none open_is
    | inr new ↦ let nothing : None ≡ Some serial = ap (λ z. slice_get (doomed_of z) i) (sym new.1) ∙ at in absurd (cc nothing)
  ]

  pub own_staged : OwnStaged t
  own_staged r i serial e y is_driver is_peer at waits = elim (driver_cases step r e is_driver) [
    | inr other ↦ other_staged r i serial e y other.0 other.1 is_peer at waits
    | inl own ↦
        own_staged_here i serial y (subst (λ q. IsPeer t q y) own.0 is_peer)
        (source i serial (ap (λ d. slice_get (doomed_now d) i) (sym own.1) ∙ at) (ap (λ d. is_uncommitted d p) (sym own.1) ∙ ap (is_uncommitted e) (sym own.0) ∙ waits))
  ]

pub staged_begins : (o : Opening) → OwnStaged (opening_state o)
staged_begins o p i serial d x is_driver is_peer at waits = let none : None ≡ Some serial = ap (λ e. slice_get (doomed_now e) i) (sym (opening_idle o p d is_driver)) ∙ at in absurd (cc none)
