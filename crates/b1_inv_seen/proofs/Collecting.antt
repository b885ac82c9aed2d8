-- What a destruction collects, and whom it is still to visit, over a step: where a node was dying and is.
use Rattle.std.proofs.Common.{◌≡◌, ◌⊎◌, refl, sym, ap, subst, ◌∙◌, inl, inr, ℕ, ◌≤◌, Bool, true, false, cond, nat_lt, List, [], ◌∷◌, drop, get_or, length, Option, Some, None, Ok, Err}
use Rattle.std.specs.Prelude.{slice_get}
use Rattle.std.proofs.lemmas.Bool.{cases_eq}
use Rattle.std.proofs.lemmas.Option.{same_Some}
use native.Mathlib.Omega.{arith}
use Rattle.b1_model.specs.declared.commands.Command.{Command}
use Rattle.b1_model.specs.declared.naming.NodeRef.{NodeRef}
use Rattle.b1_model.specs.declared.naming.Opening.{Opening}
use Rattle.b1_model.specs.declared.parts.Visited.{Visited}
use Rattle.b1_model.specs.declared.events.Destruction.{Destruction}
use Rattle.b1_model.specs.declared.events.Doing.{Doing}
use Rattle.b1_model.specs.declared.events.Outcome.{Outcome}
use Rattle.b1_model.specs.declared.events.Outcome.TheVariants as out
use Rattle.b1_model.specs.declared.events.Phase.{Phase}
use Rattle.b1_model.specs.declared.events.Phase.TheVariants.{Visiting, Dooming, SyncingNotices, CommittingOwn}
use Rattle.b1_model.specs.MachineParts.{PeerPart, DriverPart, State, is_dying, node_at}
use Rattle.b1_model.specs.MachineDestroy.{visit_answer}
use Rattle.b1_model.specs.MachineDriver.{turn, visiting, with_visit, syncing_notices}
use Rattle.b1_model.specs.MachineEvents.{happens, collected_of, doomed_of}
use Rattle.b1_model.specs.MachineStep.{Step}
use Rattle.b1_step.specs.Rights.{Has}
use Rattle.b1_step.proofs.Locality.{clocks_rise}
use Rattle.b1_inv.specs.Words.{IsPeer, IsDriver}
use Rattle.b1_inv.specs.Notices.{dying_of, dying_now}
use Rattle.b1_inv.specs.Sound.{IsSound}
use Rattle.b1_inv_record.specs.Holders.{HolderCovered, IsDue, left_of, to_visit, collected_now}
use Rattle.b1_inv_tools.proofs.Leaves.{driver_cases, peer_cases}
use Rattle.b1_inv_notices.proofs.Nodes.{dooms}
use Rattle.b1_inv_notices.proofs.Turns.{doing_in, OnTurn, may_end, took_leaves, parts, going, going_doing, going_action, going_answer}
use Rattle.b1_inv_holders.proofs.Visits.{LeftIn}
use Rattle.b1_inv_holders.proofs.Held.{dooms_own, left_to_visit, late_grows, doom_late, visits, left_after, doomed_here, open_visit}
use Rattle.b1_law.proofs.Reached.{step_sound}

-- ---- turns

-- where the node is dying, so much is collected
abbrev pub Collects : ℕ → ℕ → Option Doing → Type 0
Collects low serial doing = Has (elim doing [ None ↦ [] | Some one ↦ dying_of one.phase ]) serial → low ≤ elim doing [ None ↦ 0 | Some one ↦ collected_of one.phase ]

module _ (command : Command) (low serial : ℕ) where
  -- a destruction that visits on, or is at its stamp
  collects_visiting : (d : Destruction) (left : List ℕ) → low ≤ d.collected → Collects low serial (Some (doing_in command (visiting d left)))
  collects_visiting d [] high there = high
  collects_visiting d (peer ∷ rest) high there = high

  -- no node is dying once its destruction has a stamp
  collects_stamped : (d : Destruction) (stamp at : ℕ) → Collects low serial (Some (doing_in command (syncing_notices d stamp at)))
  collects_stamped d stamp at = by (nat_lt at (length d.staged))
    where
      by : (b : Bool) → Collects low serial (Some (doing_in command (cond b (SyncingNotices d stamp at) (CommittingOwn d stamp))))
      by true there = absurd there
      by false there = absurd there

  -- what is collected is never less
  collects_turn : (me : ℕ) (phase : Phase) (outcome : Outcome) → low ≤ collected_of phase → Has (dying_of phase) serial → OnTurn command (Collects low serial) (turn me command phase outcome)
  collects_turn me (Visiting d left) (out.Visit got) high dies = collects_visiting (with_visit d (get_or left 0 me) got) (drop 1 left) (omega (arith, high))
  collects_turn me (Visiting d left) outcome high dies = λ there. high
  collects_turn me (Dooming d) (out.StampDestroy (Ok stamp)) high dies = collects_stamped d stamp 0
  collects_turn me (Dooming d) (out.StampDestroy (Err late)) high dies = collects_visiting d late high
  collects_turn me (Dooming d) outcome high dies = λ there. high
  collects_turn me phase outcome high dies = absurd dies

  -- a visited peer's clock is collected
  visit_turn : (me q : ℕ) (phase : Phase) (got : Visited) → low ≤ got.clock → Has (left_of phase) q → OnTurn command (Collects low serial) (turn me command phase (out.Visit got))
  visit_turn me q (Visiting d left) got high there = collects_visiting (with_visit d (get_or left 0 me) got) (drop 1 left) (omega (arith, high))
  visit_turn me q phase got high there = absurd there

  -- an ended command has no dying node
  collects_ends : (phase : Phase) → may_end phase ≡ true → Collects low serial (Some (doing_in command phase)) → Collects low serial None
  collects_ends phase may before there = absurd there

-- ---- a step

module _ {o : Opening} {s : State} {p : ℕ} {c : Option Command} {t : State} (sound : IsSound o s) (covered : HolderCovered s) (step : Step o s p c t) where
  -- what the driver's open destruction has collected
  collected_then : (low serial : ℕ) → OnTurn (parts step).command (Collects low serial) (turn step.driver.me (parts step).command (parts step).phase (going_answer step)) → Has (dying_now step.new_driver) serial → low ≤ collected_now step.new_driver
  collected_then low serial turned =
      subst (λ e. Collects low serial e.doing) (parts step).is_driver
      (took_leaves (Collects low serial) (parts step).command (collects_ends (parts step).command low serial) step.driver (parts step).phase step.driver.owed (going_answer step) turned)

  -- what the driver has collected, by its phase
  open_collected : (low : ℕ) → low ≤ collected_now step.driver → (serial : ℕ) → Has (dying_of (parts step).phase) serial → low ≤ collected_of (parts step).phase
  open_collected low high serial dies = elim (parts step).was [
    | inl open_is ↦ subst (λ doing. low ≤ elim doing [ None ↦ 0 | Some one ↦ collected_of one.phase ]) open_is high
    | inr new ↦ absurd (subst (λ phase. Has (dying_of phase) serial) new.1 dies)
  ]

  -- a visit answers the visited peer's clock
  visit_is : (q : ℕ) → Has (to_visit step.driver) q → going_answer step ≡ out.Visit (visit_answer step.peer step.driver.me (doomed_of (parts step).phase))
  visit_is q left = ap (λ a. (happens o step.local.memory (going step) (going_doing step) a step.peer).0) (visits sound covered step q left)

  -- a node that was dying and is, at the part of its owner
  module _ (q low : ℕ) (x : PeerPart) (node : NodeRef) (y y_then : PeerPart) (e e_then : DriverPart) (is_peer : IsPeer s q x) (high : low ≤ x.clock)
      (owner_was : IsPeer s node.owner y) (owner_now : IsPeer t node.owner y_then) (driver_was : IsDriver s node.owner e) (driver_now : IsDriver t node.owner e_then)
      (dying : is_dying (node_at y node.serial).state ≡ true) (still : is_dying (node_at y_then node.serial).state ≡ true) where
    -- what is to be shown
    abbrev Then : Type 0
    Then = ((low ≤ y_then.clock) ⊎ (low ≤ collected_now e_then)) ⊎ IsDue q y_then e_then

    -- the owner's driver still has the node dying
    dies_then : Has (dying_now e_then) node.serial
    dies_then = (step_sound o s p c t sound step).notices.dying node.owner e_then y_then node.serial driver_now owner_now still

    module _ (own : node.owner ≡ p) (new : e_then ≡ step.new_driver) where
      -- the owner's part is the driver's own
      own_was : IsPeer s p y
      own_was = subst (λ r. IsPeer s r y) own owner_was

      -- the open destruction dooms the node
      own_dies : Has (dying_of (parts step).phase) node.serial
      own_dies = doomed_here sound covered step y node.serial own_was dying

      -- and so it does after the step
      new_dies : Has (dying_now step.new_driver) node.serial
      new_dies = subst (λ d. Has (dying_now d) node.serial) new dies_then

      -- what was collected stays so
      collected_on : low ≤ collected_now step.driver → Then
      collected_on enough =
          inl (inr (subst (λ d. low ≤ collected_now d) (sym new)
          (collected_then low node.serial (collects_turn (parts step).command low node.serial step.driver.me (parts step).phase (going_answer step) (open_collected low enough node.serial own_dies) own_dies) new_dies)))

      -- who was to be visited still is, or its clock is collected
      visit_on : Has (to_visit step.driver) q → Then
      visit_on left = elim (cases_eq q step.at) [
        | inr apart ↦ inr (inl (subst (λ d. Has (to_visit d) q) (sym new) (left_after sound covered step q left apart)))
        | inl at ↦
            let same : step.peer ≡ x = same_Some step.peer x (sym step.is_peer ∙ ap (slice_get s.peers) (sym at) ∙ is_peer) in
            let clock = ap (λ z. z.clock) same in
            let reached : low ≤ (visit_answer step.peer step.driver.me (doomed_of (parts step).phase)).clock = omega (arith, high, clock) in
            let turned = visit_turn (parts step).command low node.serial step.driver.me q (parts step).phase (visit_answer step.peer step.driver.me (doomed_of (parts step).phase)) reached (open_visit sound covered step q left).1 in
            inl (inr (subst (λ d. low ≤ collected_now d) (sym new)
            (collected_then low node.serial (subst (λ a. OnTurn (parts step).command (Collects low node.serial) (turn step.driver.me (parts step).command (parts step).phase a)) (sym (visit_is q left)) turned) new_dies)))
      ]

      -- who came late is visited then
      late_doomed : dooms (going_action step) ≡ true → Has step.peer.late q → Then
      late_doomed doom late =
          let k = doom_late o step.local.memory step.driver (parts step).command step.peer q node.serial (parts step).phase step.driver.owed doom own_dies late in
          inr (inl (subst (λ d. Has (to_visit d) q) (sym new) (left_to_visit q step.new_driver.doing (subst (λ d. LeftIn q d.doing) (parts step).is_driver k.1))))

    -- the driver of the owner, before
    own_driver : node.owner ≡ p → e ≡ step.driver
    own_driver own = same_Some e step.driver (sym driver_was ∙ ap (slice_get s.drivers) own ∙ step.is_driver)

    -- what was collected stays so, whoever steps
    collected_stays : low ≤ collected_now e → Then
    collected_stays enough = elim (driver_cases step node.owner e_then driver_now) [
      | inr other ↦ inl (inr (subst (λ d. low ≤ collected_now d) (same_Some e e_then (sym driver_was ∙ other.1)) enough))
      | inl own ↦ collected_on own.0 own.1 (subst (λ d. low ≤ collected_now d) (own_driver own.0) enough)
    ]

    -- who was to be visited still is, or its clock is collected, whoever steps
    visit_stays : Has (to_visit e) q → Then
    visit_stays left = elim (driver_cases step node.owner e_then driver_now) [
      | inr other ↦ inr (inl (subst (λ d. Has (to_visit d) q) (same_Some e e_then (sym driver_was ∙ other.1)) left))
      | inl own ↦ visit_on own.0 own.1 (subst (λ d. Has (to_visit d) q) (own_driver own.0) left)
    ]

    -- who came late still is to be visited
    late_stays : Has y.late q → Then
    late_stays late = elim (peer_cases step node.owner y_then owner_now) [
      | inr there ↦ inr (inr (subst (λ z. Has z.late q) (same_Some y y_then (sym owner_was ∙ there.1)) late))
      | inl here ↦ at_owner here.0 here.1 (same_Some y step.peer (sym owner_was ∙ ap (slice_get s.peers) here.0 ∙ step.is_peer))
    ]
      where
        at_owner : node.owner ≡ step.at → y_then ≡ step.new_peer → y ≡ step.peer → Then
        at_owner here new same = by (dooms (going_action step)) refl
          where
            by : (b : Bool) → dooms (going_action step) ≡ b → Then
            by false calm = inr (inr (subst (λ z. Has z.late q) ((parts step).is_peer ∙ sym new) (late_grows o step.local.memory (going step) (going_doing step) (going_action step) step.peer q calm (subst (λ z. Has z.late q) same late))))
            by true doom =
                let own : node.owner ≡ p = here ∙ sym (parts step).is_at ∙ dooms_own step.driver.me (going_action step) doom ∙ sound.numbered.drivers p step.driver step.is_driver in
                elim (driver_cases step node.owner e_then driver_now) [
                  | inr other ↦ absurd (other.0 own)
                  | inl mine ↦ late_doomed mine.0 mine.1 doom (subst (λ z. Has z.late q) same late)
                ]

    -- what was collected, or is to be, stays so
    pub collects_on : ((low ≤ y.clock) ⊎ (low ≤ collected_now e)) ⊎ IsDue q y e → Then
    collects_on (inl (inl came)) = let rise = clocks_rise step node.owner y y_then owner_was owner_now in inl (inl (omega (arith, came, rise)))
    collects_on (inl (inr enough)) = collected_stays enough
    collects_on (inr (inl left)) = visit_stays left
    collects_on (inr (inr late)) = late_stays late
