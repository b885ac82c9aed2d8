-- Who comes into a late set, and what a destruction's begin and its stamp make of it.
use Rattle.std.proofs.Common.{◌≡◌, ◌⊎◌, refl, sym, ap, subst, ◌∙◌, inl, inr, ℕ, ◌≤◌, Bool, true, false, cond, List, [], ◌∷◌, nat_lt, length, Option, Some, None, Ok, Err}
use Rattle.std.specs.Prelude.{slice_get}
use Rattle.std.proofs.lemmas.Option.{same_Some}
use native.Mathlib.Omega.{arith}
use Rattle.b1_model.specs.declared.commands.Command.{Command}
use Rattle.b1_model.specs.declared.commands.Command.TheVariants as cmd
use Rattle.b1_model.specs.declared.naming.Opening.{Opening}
use Rattle.b1_model.specs.declared.parts.Attach.{Attach}
use Rattle.b1_model.specs.declared.parts.Attach.TheVariants as attach
use Rattle.b1_model.specs.declared.answers.Reason.{Reason}
use Rattle.b1_model.specs.declared.events.Action.{Action}
use Rattle.b1_model.specs.declared.events.Action.TheVariants as act
use Rattle.b1_model.specs.declared.events.Destruction.{Destruction}
use Rattle.b1_model.specs.declared.events.Doing.{Doing}
use Rattle.b1_model.specs.declared.events.Outcome.TheVariants as out
use Rattle.b1_model.specs.declared.events.OwedDrop.{OwedDrop}
use Rattle.b1_model.specs.declared.events.Phase.{Phase}
use Rattle.b1_model.specs.declared.events.Phase.TheVariants.{Starting, Committing, Dropping, Reaping, Dooming, SyncingNotices, CommittingOwn}
use Rattle.b1_model.specs.MachineParts.{PeerPart, DriverPart, State, is_dying, node_at}
use Rattle.b1_model.specs.MachineTables.{with_peer}
use Rattle.b1_model.specs.MachineSend.{attach_answer, attached_by, final_stamp}
use Rattle.b1_model.specs.MachineDestroy.{doom_answer, doom_by}
use Rattle.b1_model.specs.MachineDriver.{first_action, next_action, peer_of, syncing_notices, turn, Goes}
use Rattle.b1_model.specs.MachineEvents.{happens, destroy_by, begin_refusal, begin_serials, collected_of, doomed_of}
use Rattle.b1_model.specs.MachineStep.{Step}
use Rattle.b1_step.specs.Rights.{Has}
use Rattle.b1_step.proofs.Changed.{changes}
use Rattle.b1_inv.specs.Words.{IsPeer}
use Rattle.b1_inv.specs.Notices.{dying_of, dying_now}
use Rattle.b1_inv.specs.Sound.{IsSound}
use Rattle.b1_inv_record.specs.Holders.{left_of, to_visit}
use Rattle.b1_inv_tools.proofs.Leaves.{peer_cases, new_peer}
use Rattle.b1_inv_notices.proofs.Sets.{with_peer_has}
use Rattle.b1_inv_notices.proofs.Turns.{doing_in, opened, OnTurn, may_end, took_leaves, parts, going, going_doing, going_action}
use Rattle.b1_inv_ends.specs.Holders.{LateByAttach}

-- ---- which phase an event is of

begin_phase : (d : DriverPart) (command : Command) (phase : Phase) (owed : List OwedDrop) → next_action (opened d command phase owed) ≡ act.BeginDestroy → phase ≡ Starting
begin_phase d command phase (one ∷ rest) is = absurd (cc is)
begin_phase d command Starting [] is = refl
begin_phase d command phase [] is = absurd (cc is)

first_stamps : (b : Bool) (command : Command) → cond b act.Local (first_action command) ≡ act.StampDestroy → ⊥
first_stamps true command is = absurd (cc is)
first_stamps false cmd.Disconnect is = absurd (cc is)
first_stamps false command is = absurd (cc is)

stamp_phase : (d : DriverPart) (command : Command) (phase : Phase) (owed : List OwedDrop) → next_action (opened d command phase owed) ≡ act.StampDestroy → (destruction : Destruction) × (phase ≡ Dooming destruction) × (owed ≡ [])
stamp_phase d command phase (one ∷ rest) is = absurd (cc is)
stamp_phase d command Starting [] is = absurd (first_stamps d.shut command is)
stamp_phase d command (Dooming destruction) [] is = (destruction, refl, refl)
stamp_phase d command phase [] is = absurd (cc is)

-- ---- the late set after an event

-- the event is an attach for a peer to a dying node
abbrev Attaches : PeerPart → ℕ → Action → Type 0
Attaches x r action = (peer : ℕ) × (serial : ℕ) × (action ≡ act.Attach peer serial r) × (is_dying (node_at x serial).state ≡ true)

module _ (x : PeerPart) (r : ℕ) (out : Has x.late r → ⊥) where
  at_attach : (a : Attach) (peer serial dest : ℕ) → Has (attached_by a x serial dest).late r → Attaches x r (act.Attach peer serial dest)
  at_attach attach.Own peer serial dest has = absurd (out has)
  at_attach (attach.Void stamp) peer serial dest has = absurd (out has)
  at_attach attach.Counted peer serial dest has = by (is_dying (node_at x serial).state) refl has
    where
      by : (b : Bool) → is_dying (node_at x serial).state ≡ b → Has (cond b (with_peer dest x.late) x.late) r → Attaches x r (act.Attach peer serial dest)
      by true dies there = elim (with_peer_has dest x.late r there) [ inl same ↦ (peer, serial, ap (λ n. act.Attach peer serial n) (sym same), dies) | inr old ↦ absurd (out old) ]
      by false lives there = absurd (out there)

  at_destroy : (refusal : Option Reason) (doomed : List ℕ) → Has (destroy_by refusal doomed x).1.late r → ⊥
  at_destroy (Some reason) doomed has = out has
  at_destroy None doomed has = has

  at_stamp : (late : List ℕ) (collected : ℕ) (doomed : List ℕ) → Has (doom_by late x collected doomed).late r → ⊥
  at_stamp [] collected doomed has = out has
  at_stamp (peer ∷ rest) collected doomed has = has

  event_joins : (o : Opening) (memory : Bool) (d : DriverPart) (doing : Doing) (action : Action) → Has (happens o memory d doing action x).1.late r → Attaches x r action
  event_joins o memory d doing (act.Attach peer serial dest) has = at_attach (attach_answer x serial dest) peer serial dest has
  event_joins o memory d doing act.BeginDestroy has = absurd (at_destroy (begin_refusal doing.command x) (begin_serials doing.command x) has)
  event_joins o memory d doing act.StampDestroy has = absurd (at_stamp x.late (collected_of doing.phase) (doomed_of doing.phase) has)
  event_joins o memory d doing action has = absurd (out (subst (λ late. Has late r) (ap (λ y. y.late) (changes o memory d doing action x)) has))

begin_empties : (refusal : Option Reason) (doomed : List ℕ) (x : PeerPart) → x.late ≡ [] → (destroy_by refusal doomed x).1.late ≡ []
begin_empties (Some reason) doomed x none = none
begin_empties None doomed x none = refl

stamp_empties : (late : List ℕ) (x : PeerPart) (collected : ℕ) (doomed : List ℕ) → x.late ≡ late → (doom_by late x collected doomed).late ≡ []
stamp_empties [] x collected doomed is = is
stamp_empties (peer ∷ rest) x collected doomed is = refl

-- ---- who is visited again

abbrev LeavesOpen : List ℕ → Option Doing → Type 0
LeavesOpen late doing = elim doing [ None ↦ [] | Some one ↦ left_of one.phase ] ≡ late

leaves_none : (late : List ℕ) (command : Command) (phase : Phase) → may_end phase ≡ true → LeavesOpen late (Some (doing_in command phase)) → LeavesOpen late None
leaves_none late command (Committing sending stamp place) may h = h
leaves_none late command Dropping may h = h
leaves_none late command (Reaping got) may h = h
leaves_none late command phase may h = absurd (cc may)

no_visits : (command : Command) (destruction : Destruction) (stamp : ℕ) → OnTurn command (LeavesOpen []) (Goes (syncing_notices destruction stamp 0))
no_visits command destruction stamp = elim (nat_lt 0 (length destruction.staged)) as (λ b. left_of (cond b (SyncingNotices destruction stamp 0) (CommittingOwn destruction stamp)) ≡ []) [ true ↦ refl | false ↦ refl ]

stamp_turns : (me : ℕ) (command : Command) (destruction : Destruction) (x : PeerPart) (late : List ℕ) → x.late ≡ late → OnTurn command (LeavesOpen late) (turn me command (Dooming destruction) (out.StampDestroy (elim late [ [] ↦ Ok (final_stamp x destruction.collected) | peer ∷ rest ↦ Err (peer ∷ rest) ])))
stamp_turns me command destruction x [] is = no_visits command destruction (final_stamp x destruction.collected)
stamp_turns me command destruction x (peer ∷ rest) is = refl

-- ---- the step

module _ {o : Opening} {s : State} {p : ℕ} {c : Option Command} {t : State} (sound : IsSound o s) (step : Step o s p c t) where
  late_after : step.new_peer.late ≡ (happens o step.local.memory (going step) (going_doing step) (going_action step) step.peer).1.late
  late_after = ap (λ y. y.late) (sym (parts step).is_peer)

  joins : (q r : ℕ) (x y : PeerPart) → IsPeer s q x → IsPeer t q y → Has y.late r → (Has x.late r → ⊥) → (serial : ℕ) × (step.action ≡ act.Attach q serial r) × (is_dying (node_at x serial).state ≡ true)
  joins q r x y is after has none = elim (peer_cases step q y after) [
    | inr other ↦ let same : y ≡ x = same_Some y x (sym other.1 ∙ is) in absurd (none (subst (λ z. Has z.late r) same has))
    | inl here ↦
        let same : step.peer ≡ x = same_Some step.peer x (sym step.is_peer ∙ sym (ap (λ n. slice_get s.peers n) here.0) ∙ is) in
        let k = event_joins step.peer r (λ h. none (subst (λ z. Has z.late r) same h)) o step.local.memory (going step) (going_doing step) (going_action step)
        (subst (λ late. Has late r) late_after (subst (λ z. Has z.late r) here.1 has)) in
        let at : k.0 ≡ q = sym (ap (peer_of step.driver.me) k.2) ∙ (parts step).is_at ∙ sym here.0 in
        (k.1, sym (parts step).is_action ∙ k.2 ∙ ap (λ n. act.Attach n k.1 r) at, ap (λ z. is_dying (node_at z k.1).state) (sym same) ∙ k.3)
  ]

  -- where a destruction begins nobody is late
  none_late : going_action step ≡ act.BeginDestroy → step.peer.late ≡ []
  none_late begins =
      let starting = begin_phase step.driver (parts step).command (parts step).phase step.driver.owed begins in
      let me : step.driver.me ≡ p = sound.numbered.drivers p step.driver step.is_driver in
      let at : step.at ≡ p = sym (parts step).is_at ∙ ap (peer_of step.driver.me) begins ∙ me in
      elim (sound.notices.late p step.driver step.peer step.is_driver (subst (λ q. IsPeer s q step.peer) at step.is_peer)).1 [
        | inl none ↦ none
        | inr some ↦ absurd (by (parts step).was starting some)
      ]
    where
      nobody : dying_now step.driver ≡ [] → 1 ≤ length (dying_now step.driver) → ⊥
      nobody none some = let zero : length (dying_now step.driver) ≡ 0 = ap length none in omega (arith, zero, some)

      by : ((step.driver.doing ≡ Some (doing_in (parts step).command (parts step).phase)) ⊎ ((step.driver.doing ≡ None) × ((parts step).phase ≡ Starting))) → (parts step).phase ≡ Starting → 1 ≤ length (dying_now step.driver) → ⊥
      by (inl is) starting some = nobody (ap (λ doing. elim doing [ None ↦ [] | Some one ↦ dying_of one.phase ]) is ∙ ap dying_of starting) some
      by (inr is) starting some = nobody (ap (λ doing. elim doing [ None ↦ [] | Some one ↦ dying_of one.phase ]) is.0) some

  emptied : (step.action ≡ act.BeginDestroy) ⊎ (step.action ≡ act.StampDestroy) → step.new_peer.late ≡ []
  emptied (inl is) =
      let begins : going_action step ≡ act.BeginDestroy = (parts step).is_action ∙ is in
      late_after ∙ ap (λ action. (happens o step.local.memory (going step) (going_doing step) action step.peer).1.late) begins
      ∙ begin_empties (begin_refusal (parts step).command step.peer) (begin_serials (parts step).command step.peer) step.peer (none_late begins)
  emptied (inr is) =
      late_after ∙ ap (λ action. (happens o step.local.memory (going step) (going_doing step) action step.peer).1.late) ((parts step).is_action ∙ is)
      ∙ stamp_empties step.peer.late step.peer (collected_of (parts step).phase) (doomed_of (parts step).phase) refl

  again : step.action ≡ act.StampDestroy → to_visit step.new_driver ≡ step.peer.late
  again is =
      let stamps : going_action step ≡ act.StampDestroy = (parts step).is_action ∙ is in
      let k = stamp_phase step.driver (parts step).command (parts step).phase step.driver.owed stamps in
      subst (λ e. LeavesOpen step.peer.late e.doing) (parts step).is_driver
      (took_leaves (LeavesOpen step.peer.late) (parts step).command (leaves_none step.peer.late (parts step).command) step.driver (parts step).phase step.driver.owed _
      (subst (λ answer. OnTurn (parts step).command (LeavesOpen step.peer.late) (turn step.driver.me (parts step).command (parts step).phase answer))
      (sym (ap (λ action. (happens o step.local.memory (going step) (going_doing step) action step.peer).0) stamps))
      (subst (λ phase. OnTurn (parts step).command (LeavesOpen step.peer.late) (turn step.driver.me (parts step).command phase (out.StampDestroy (doom_answer step.peer (collected_of phase)))))
      (sym k.1) (stamp_turns step.driver.me (parts step).command k.0 step.peer step.peer.late refl))))

  pub late_by_attach : LateByAttach step
  late_by_attach = record {
    joins = joins;
    emptied = λ y is which. ap (λ z. z.late) (there y is) ∙ emptied which;
    again = again;
  }
    where
      there : (y : PeerPart) → IsPeer t step.at y → y ≡ step.new_peer
      there y is = same_Some y step.new_peer (sym is ∙ new_peer step)
