-- Whoever holds a node that isn't live is covered.
use Rattle.std.proofs.Common.{◌≡◌, ◌≢◌, ◌⊎◌, refl, sym, ap, subst, ◌∙◌, inl, inr, ℕ, ◌+◌, ◌<◌, ◌≤◌, Bool, true, false, cond, List, [], ◌∷◌, get_or, length, Option, Some, None, Ok, Err}
use Rattle.std.specs.Prelude.{slice_get}
use Rattle.std.proofs.lemmas.Option.{slice_get_within}
use native.Mathlib.Omega.{arith}
use Rattle.b1_model.specs.declared.commands.Command.{Command}
use Rattle.b1_model.specs.declared.commands.Command.TheVariants as cmd
use Rattle.b1_model.specs.declared.naming.NodeRef.{NodeRef}
use Rattle.b1_model.specs.declared.naming.Opening.{Opening}
use Rattle.b1_model.specs.declared.answers.Reason.{Reason}
use Rattle.b1_model.specs.declared.parts.Attach.{Attach}
use Rattle.b1_model.specs.declared.parts.Attach.TheVariants as attach
use Rattle.b1_model.specs.declared.parts.NodeState.TheVariants.{Dying, Destroyed}
use Rattle.b1_model.specs.declared.parts.Slot.{Slot}
use Rattle.b1_model.specs.declared.events.Action.{Action}
use Rattle.b1_model.specs.declared.events.Action.TheVariants as act
use Rattle.b1_model.specs.declared.events.Doing.{Doing}
use Rattle.b1_model.specs.declared.events.OwedDrop.{OwedDrop}
use Rattle.b1_model.specs.declared.events.Outcome.TheVariants as out
use Rattle.b1_model.specs.declared.events.Phase.{Phase}
use Rattle.b1_model.specs.declared.events.Phase.TheVariants.{Starting, Visiting, Dooming}
use Rattle.b1_model.specs.MachineParts.{PeerPart, DriverPart, HandleRecord, State, is_live, is_dying, is_staged, node_at, no_node, no_record, record_of, record_or_none, slots_of}
use Rattle.b1_model.specs.MachineTables.{count_of, with_peer}
use Rattle.b1_model.specs.MachineSend.{attach_answer, attached_by, final_stamp}
use Rattle.b1_model.specs.MachineDestroy.{doom_by, doomed_part, visit_set}
use Rattle.b1_model.specs.MachineDriver.{first_action, next_action, peer_of, destroying}
use Rattle.b1_model.specs.MachineTook.{took}
use Rattle.b1_model.specs.MachineCounts.{fresh, peer_amount, queue_amount, dead_amount}
use Rattle.b1_model.specs.MachineEvents.{happens, destroy_by, begin_refusal, begin_serials, doomed_of}
use Rattle.b1_model.specs.MachineStep.{Step}
use Rattle.b1_step.specs.Rights.{Has}
use Rattle.b1_step.proofs.Changed.{changes}
use Rattle.b1_inv.specs.Words.{IsPeer, IsDriver, IsMade}
use Rattle.b1_inv.specs.Notices.{dying_of, DestructionShape}
use Rattle.b1_inv.specs.References.{count_in, may_owe}
use Rattle.b1_inv.specs.Sound.{IsSound}
use Rattle.b1_inv_record.specs.Holders.{HolderCovered, IsCovered, IsDue, left_of, to_visit}
use Rattle.b1_inv_tools.proofs.Leaves.{driver_cases, peer_cases}
use Rattle.b1_inv_refs.proofs.GivenUp.{record_found}
use Rattle.b1_inv_notices.proofs.Nodes.{dooms, nodes_kept, doomed_state, undoomed_state}
use Rattle.b1_inv_notices.proofs.Sets.{in_or_not, has_with_peer}
use Rattle.b1_inv_notices.proofs.Turns.{doing_in, opened, answered, took_leaves, parts, going, going_doing, going_action, going_answer}
use Rattle.b1_inv_cover.proofs.Stamped.{same_peer_at}
use Rattle.b1_inv_holders.proofs.Records.{TakenIn, From, held_event}
use Rattle.b1_inv_holders.proofs.Visits.{Flagged, still_flagged, visit_flags, visit_has, LeftIn, left_visiting, left_turn, left_ends}

-- ---- phases

pub left_unowed : (phase : Phase) (q : ℕ) → Has (left_of phase) q → may_owe phase ≡ false
left_unowed (Visiting d left) q h = refl
left_unowed phase q h = absurd h

next_visit : (d : DriverPart) (command : Command) (phase : Phase) (owed : List OwedDrop) (q : ℕ) → Has (left_of phase) q → owed ≡ [] → next_action (opened d command phase owed) ≡ act.Visit (get_or (left_of phase) 0 d.me)
next_visit d command (Visiting e left) [] q h none = refl
next_visit d command (Visiting e left) (one ∷ rest) q h none = absurd (cc none)
next_visit d command phase owed q h none = absurd h

pub dying_doomed : (phase : Phase) (serial : ℕ) → Has (dying_of phase) serial → Has (doomed_of phase) serial
dying_doomed (Visiting d left) serial h = h
dying_doomed (Dooming d) serial h = h
dying_doomed phase serial h = absurd h

pub left_to_visit : (q : ℕ) (doing : Option Doing) → LeftIn q doing → Has (elim doing [ None ↦ [] | Some one ↦ left_of one.phase ]) q
left_to_visit q None h = absurd h
left_to_visit q (Some one) h = h

-- ---- the late set

attach_late : (got : Attach) (x : PeerPart) (serial dest q : ℕ) → Has x.late q → Has (attached_by got x serial dest).late q
attach_late attach.Counted x serial dest q h = elim (is_dying (node_at x serial).state) as (λ b. Has (cond b (with_peer dest x.late) x.late) q) [ true ↦ has_with_peer dest x.late q h | false ↦ h ]
attach_late attach.Own x serial dest q h = h
attach_late (attach.Void stamp) x serial dest q h = h

pub late_grows : (o : Opening) (memory : Bool) (d : DriverPart) (doing : Doing) (action : Action) (x : PeerPart) (q : ℕ) → dooms action ≡ false → Has x.late q → Has (happens o memory d doing action x).1.late q
late_grows o memory d doing act.BeginDestroy x q is h = absurd (cc is)
late_grows o memory d doing act.StampDestroy x q is h = absurd (cc is)
late_grows o memory d doing (act.Attach peer serial dest) x q is h = attach_late (attach_answer x serial dest) x serial dest q h
late_grows o memory d doing action x q is h = subst (λ late. Has late q) (sym (ap (λ y. y.late) (changes o memory d doing action x))) h

-- ---- events of the owner's driver that change the life of nodes

module _ (o : Opening) (memory : Bool) (d : DriverPart) (command : Command) (x : PeerPart) (q serial : ℕ) where
  abbrev After : Phase → List OwedDrop → PeerPart
  After phase owed = (answered o memory d command phase owed x).1

  abbrev Left : Phase → List OwedDrop → Type 0
  Left phase owed = LeftIn q (took (opened d command phase owed) (answered o memory d command phase owed x).0).doing

  -- a late peer is visited then
  pub doom_late : (phase : Phase) (owed : List OwedDrop) → dooms (next_action (opened d command phase owed)) ≡ true → Has (dying_of phase) serial → Has x.late q → ((After phase owed).nodes ≡ x.nodes) × Left phase owed
  doom_late phase (one ∷ rest) is dies h = absurd (cc is)
  doom_late (Dooming e) [] is dies h = by x.late h
    where
      by : (late : List ℕ) → Has late q → ((doom_by late x e.collected e.doomed).nodes ≡ x.nodes) × LeftIn q (took (opened d command (Dooming e) []) (out.StampDestroy (elim late [ [] ↦ Ok (final_stamp x e.collected) | peer ∷ rest ↦ Err (peer ∷ rest) ]))).doing
      by [] there = absurd there
      by (peer ∷ rest) there = (refl, took_leaves (LeftIn q) command (left_ends command q) d (Dooming e) [] (out.StampDestroy (Err (peer ∷ rest))) (left_visiting command q e (peer ∷ rest) there))
  doom_late (Visiting e left) [] is dies h = absurd (cc is)
  doom_late phase [] is dies h = absurd dies

  module _ (alive : is_live (node_at x serial).state ≡ true) (within : serial < length x.nodes) (few : q < x.peers) (some : 1 ≤ count_of (node_at x serial) q) where
    abbrev Begun : PeerPart → Option Doing → Type 0
    Begun y doing = is_live (node_at y serial).state ≡ false → (is_dying (node_at y serial).state ≡ true) × LeftIn q doing

    still_alive : (y : PeerPart) (doing : Option Doing) → (node_at y serial).state ≡ (node_at x serial).state → Begun y doing
    still_alive y doing same dead = let both : true ≡ false = sym alive ∙ ap is_live (sym same) ∙ dead in absurd (cc both)

    left_destroying : (doomed visit : List ℕ) → Has doomed serial → Has visit q → LeftIn q (Some (doing_in command (destroying doomed visit)))
    left_destroying [] visit there h = absurd there
    left_destroying (first ∷ rest) visit there h = left_visiting command q (record { doomed = first ∷ rest; collected = 0; staged = [] }) visit h

    begin_by : (r : Option Reason) (doomed : List ℕ) → Begun (destroy_by r doomed x).1 (took (opened d command Starting []) (destroy_by r doomed x).0).doing
    begin_by (Some r) doomed = still_alive x (took (opened d command Starting []) (destroy_by (Some r) doomed x).0).doing refl
    begin_by None doomed =
        elim (in_or_not serial doomed) [
          | inr none ↦ still_alive (doomed_part x doomed) (took (opened d command Starting []) (destroy_by None doomed x).0).doing (ap (λ n. n.state) (undoomed_state Dying doomed x.nodes serial none))
          | inl there ↦ (λ dead. (
            ap is_dying (doomed_state Dying doomed x.nodes serial there within),
            took_leaves (LeftIn q) command (left_ends command q) d Starting [] (out.BeginDestroy (Ok (visit_set x doomed)) doomed) (left_destroying doomed (visit_set x doomed) there (visit_has x q doomed serial few there some)),
          ))
        ]

  abbrev DoomBegins : Phase → List OwedDrop → Type 0
  DoomBegins phase owed = is_live (node_at (After phase owed) serial).state ≡ false → (is_dying (node_at (After phase owed) serial).state ≡ true) × Left phase owed

  module _ (alive : is_live (node_at x serial).state ≡ true) (within : serial < length x.nodes) (few : q < x.peers) (some : 1 ≤ count_of (node_at x serial) q) where
    at_doom : (late : List ℕ) (collected : ℕ) (doomed : List ℕ) → (Has doomed serial → ⊥) → (node_at (doom_by late x collected doomed) serial).state ≡ (node_at x serial).state
    at_doom [] collected doomed none = ap (λ n. n.state) (undoomed_state (Destroyed (final_stamp x collected)) doomed x.nodes serial none)
    at_doom (peer ∷ rest) collected doomed none = refl

    -- a destruction begins, and visits the peer
    pub doom_begins : (phase : Phase) (owed : List OwedDrop) → dooms (next_action (opened d command phase owed)) ≡ true → DestructionShape x.peers x command phase → DoomBegins phase owed
    doom_begins phase (one ∷ rest) is shape = absurd (cc is)
    doom_begins Starting [] is shape = at_start d.shut command is
      where
        at_start : (shut : Bool) (begins : Command) → dooms (cond shut act.Local (first_action begins)) ≡ true
            → (let e = happens o memory (opened d command Starting []) (doing_in command Starting) (cond shut act.Local (first_action begins)) x in is_live (node_at e.1 serial).state ≡ false → (is_dying (node_at e.1 serial).state ≡ true) × LeftIn q (took (opened d command Starting []) e.0).doing)
        at_start true begins is = absurd (cc is)
        at_start false (cmd.Destroy numbers) is = begin_by alive within few some (begin_refusal command x) (begin_serials command x)
        at_start false (cmd.Reset limits) is = begin_by alive within few some (begin_refusal command x) (begin_serials command x)
        at_start false cmd.Disconnect is = begin_by alive within few some (begin_refusal command x) (begin_serials command x)
        at_start false begins is = absurd (cc is)
    doom_begins (Dooming e) [] is shape =
        still_alive alive within few some (After (Dooming e) []) (took (opened d command (Dooming e) []) (answered o memory d command (Dooming e) [] x).0).doing (at_doom x.late e.collected e.doomed (λ h. let both : true ≡ false = sym alive ∙ ap is_live (shape.1.made serial h).1 in absurd (cc both)))
    doom_begins phase [] is shape = absurd (cc is)

-- ---- a step

abbrev counts_by : NodeRef → ℕ → Option PeerPart → ℕ
counts_by node q found = elim found [ None ↦ 0 | Some x ↦ count_of (node_at x node.serial) q ]

abbrev amount_by : NodeRef → Option PeerPart → ℕ
amount_by node found = elim found [ None ↦ 0 | Some x ↦ peer_amount node x ]

abbrev found_or_none : NodeRef → Option HandleRecord → HandleRecord
found_or_none node found = elim found [ None ↦ no_record node | Some h ↦ h ]

pub slots_committed : (b : Bool) (open_slots slots : List Slot) → b ≡ false → cond b open_slots slots ≡ slots
slots_committed true open_slots slots is = absurd (cc is)
slots_committed false open_slots slots is = refl

pub dooms_own : (me : ℕ) (action : Action) → dooms action ≡ true → peer_of me action ≡ me
dooms_own me act.BeginDestroy is = refl
dooms_own me act.StampDestroy is = refl
dooms_own me action is = absurd (cc is)

module _ {o : Opening} {s : State} {p : ℕ} {c : Option Command} {t : State} (sound : IsSound o s) (covered : HolderCovered s) (step : Step o s p c t) where
  is_me : step.driver.me ≡ p
  is_me = sound.numbered.drivers p step.driver step.is_driver

  unowed : (phase : Phase) → step.driver.doing ≡ Some (doing_in (parts step).command phase) → may_owe phase ≡ false → step.driver.owed ≡ []
  unowed phase open_is never =
      elim (sound.references.owing p step.driver step.is_driver) [
        | inl none ↦ none
        | inr (owing, is, owes) ↦
            let both : Some owing ≡ Some phase = sym is ∙ ap (λ doing. elim doing [ None ↦ None | Some one ↦ Some one.phase ]) open_is in
            let same : owing ≡ phase = cc both in
            let never_so : true ≡ false = sym owes ∙ ap may_owe same ∙ never in absurd (cc never_so)
      ]

  -- ---- who is to be visited

  pub open_visit : (q : ℕ) → Has (to_visit step.driver) q → (step.driver.doing ≡ Some (going_doing step)) × Has (left_of (parts step).phase) q
  open_visit q h =
      elim (parts step).was [
        | inl open_is ↦ (open_is, subst (λ doing. Has (elim doing [ None ↦ [] | Some one ↦ left_of one.phase ]) q) open_is h)
        | inr new ↦ absurd (subst (λ doing. Has (elim doing [ None ↦ [] | Some one ↦ left_of one.phase ]) q) new.0 h)
      ]

  pub visits : (q : ℕ) → Has (to_visit step.driver) q → going_action step ≡ act.Visit (get_or (left_of (parts step).phase) 0 step.driver.me)
  visits q h = let k = open_visit q h in next_visit step.driver (parts step).command (parts step).phase step.driver.owed q k.1 (unowed (parts step).phase k.0 (left_unowed (parts step).phase q k.1))

  pub left_after : (q : ℕ) → Has (to_visit step.driver) q → q ≢ step.at → Has (to_visit step.new_driver) q
  left_after q h apart =
      let at : get_or (left_of (parts step).phase) 0 step.driver.me ≡ step.at = ap (peer_of step.driver.me) (sym (visits q h)) ∙ (parts step).is_at in
      left_to_visit q step.new_driver.doing (subst (λ e. LeftIn q e.doing) (parts step).is_driver
      (took_leaves (LeftIn q) (parts step).command (left_ends (parts step).command q) step.driver (parts step).phase step.driver.owed (going_answer step)
      (left_turn (parts step).command q step.driver.me (parts step).phase (going_answer step) (λ same. apart (same ∙ at)) (open_visit q h).1)))

  pub doomed_here : (y : PeerPart) (serial : ℕ) → IsPeer s p y → is_dying (node_at y serial).state ≡ true → Has (dying_of (parts step).phase) serial
  doomed_here y serial is dies =
      let now = sound.notices.dying p step.driver y serial step.is_driver is dies in
      elim (parts step).was [
        | inl open_is ↦ subst (λ doing. Has (elim doing [ None ↦ [] | Some one ↦ dying_of one.phase ]) serial) open_is now
        | inr new ↦ absurd (subst (λ doing. Has (elim doing [ None ↦ [] | Some one ↦ dying_of one.phase ]) serial) new.0 now)
      ]

  -- a visit gives a notice
  pub visited_flags : (q : ℕ) (h : HandleRecord) (y : PeerPart) → Has (to_visit step.driver) q → Has step.new_peer.handles h → h.node.owner ≡ p → IsPeer s p y → is_dying (node_at y h.node.serial).state ≡ true → Flagged h
  visited_flags q h y left there owner is dies =
      let among = dying_doomed (parts step).phase h.node.serial (doomed_here y h.node.serial is dies) in
      let after : (happens o step.local.memory (going step) (going_doing step) (act.Visit (get_or (left_of (parts step).phase) 0 step.driver.me)) step.peer).1 ≡ step.new_peer =
      ap (λ a. (happens o step.local.memory (going step) (going_doing step) a step.peer).1) (sym (visits q left)) ∙ (parts step).is_peer in
      let node : h.node ≡ record { owner = step.driver.me; serial = h.node.serial } = ap (λ n. record { owner = n; serial = h.node.serial }) (owner ∙ sym is_me) in
      visit_flags step.driver.me 0 (doomed_of (parts step).phase) step.peer (sound.rising step.at step.peer step.is_peer) h.node.serial among h (subst (λ z. Has z.handles h) (sym after) there) node

  -- ---- before

  from_old : (h : HandleRecord) → Has step.new_peer.handles h → 1 ≤ h.held → From (TakenIn step.peer) step.peer.handles h
  from_old h there some = held_event (TakenIn step.peer) o step.local.memory (going step) (going_doing step) (going_action step) step.peer (λ node is. is) h (subst (λ z. Has z.handles h) (sym (parts step).is_peer) there) some

  covered_before : (q : ℕ) (x : PeerPart) (h : HandleRecord) (y : PeerPart) (e : DriverPart) → IsPeer s q x → From (TakenIn x) x.handles h → 1 ≤ h.held → IsPeer s h.node.owner y → IsDriver s h.node.owner e → is_live (node_at y h.node.serial).state ≡ false → IsCovered q h y e
  covered_before q x h y e is_peer (g, was, follows) some is_owner is_driver dead =
      elim (subst (λ node. (Flagged g) ⊎ ((is_dying (node_at y node.serial).state ≡ true) × IsDue q y e)) follows.node before) [ inl flagged ↦ inl (still_flagged (TakenIn x) g h follows flagged) | inr due ↦ inr due ]
    where
      by_node : (n : NodeRef) → g.node ≡ n → IsPeer s n.owner y → IsDriver s n.owner e → is_live (node_at y n.serial).state ≡ false → (1 ≤ g.held) ⊎ TakenIn x n → IsCovered q g y e
      by_node n same own_peer own_driver not_live (inl held) =
          covered.held q x g y e is_peer was held (subst (λ m. IsPeer s m.owner y) (sym same) own_peer) (subst (λ m. IsDriver s m.owner e) (sym same) own_driver) (subst (λ m. is_live (node_at y m.serial).state ≡ false) (sym same) not_live)
      by_node n same own_peer own_driver not_live (inr (f, j, there, even, node_is, slot_is)) =
          let found : record_of n x.handles ≡ Some g = ap (λ m. record_of m x.handles) (sym same) ∙ record_found x.handles g (sound.rising q x is_peer) was in
          let is_record : record_or_none n x.handles ≡ g = ap (λ z. elim z [ None ↦ no_record n | Some k ↦ k ]) found in
          subst (λ k. IsCovered q k y e) is_record
          (covered.carried q j x f n y e is_peer there node_is (ap (λ l. slice_get l j) (slots_committed (is_staged f) _ (slots_of f.1) even) ∙ slot_is) own_peer own_driver not_live)

      before : IsCovered q g y e
      before = by_node h.node follows.node is_owner is_driver dead (follows.held some)

  -- ---- after

  pub state_same : (node : NodeRef) (y : PeerPart) → IsMade s node → IsPeer s node.owner step.peer → y ≡ step.new_peer → dooms (going_action step) ≡ false → (node_at y node.serial).state ≡ (node_at step.peer node.serial).state
  state_same node y (z, there, within) was is calm =
      let same = ap (λ w. length w.nodes) (same_peer_at s node.owner z step.peer there was) in
      ap (λ w. (node_at w node.serial).state) (is ∙ sym (parts step).is_peer)
      ∙ (nodes_kept o step.local.memory (going step) (going_doing step) (going_action step) step.peer calm).state node.serial (omega (arith, within, same))

  pub doomer : dooms (going_action step) ≡ true → step.at ≡ p
  doomer is = sym (parts step).is_at ∙ dooms_own step.driver.me (going_action step) is ∙ is_me

  pub late_after : (q : ℕ) (y : PeerPart) → y ≡ step.new_peer → dooms (going_action step) ≡ false → Has step.peer.late q → Has y.late q
  late_after q y is calm h = subst (λ z. Has z.late q) ((parts step).is_peer ∙ sym is) (late_grows o step.local.memory (going step) (going_doing step) (going_action step) step.peer q calm h)

  -- where the event is at the holder
  at_holder : (q : ℕ) (h : HandleRecord) (y : PeerPart) (e : DriverPart) → q ≡ step.at → Has step.new_peer.handles h → 1 ≤ h.held → IsPeer t h.node.owner y → IsDriver t h.node.owner e → is_live (node_at y h.node.serial).state ≡ false → IsCovered q h y e
  at_holder q h y e here there some is_owner is_driver dead =
      elim (peer_cases step h.node.owner y is_owner) [
        | inl at_owner ↦ absurd (foreign (at_owner.0 ∙ sym here))
        | inr other ↦ elim (driver_cases step h.node.owner e is_driver) [
          | inr same ↦ covered_before q step.peer h y e is_peer from some other.1 same.1 dead
          | inl own ↦ by_own own.0 own.1 other.1 (covered_before q step.peer h y step.driver is_peer from some other.1 (subst (λ r. IsDriver s r step.driver) (sym own.0) step.is_driver) dead)
        ]
      ]
    where
      is_peer : IsPeer s q step.peer
      is_peer = subst (λ r. IsPeer s r step.peer) (sym here) step.is_peer

      from : From (TakenIn step.peer) step.peer.handles h
      from = from_old h there some

      foreign : h.node.owner ≢ q
      foreign same = sound.flights.foreign q step.peer from.0 is_peer from.1 (ap (λ n. n.owner) from.2.node ∙ same)

      by_own : h.node.owner ≡ p → e ≡ step.new_driver → IsPeer s h.node.owner y → IsCovered q h y step.driver → IsCovered q h y e
      by_own owner is was (inl flagged) = inl flagged
      by_own owner is was (inr (dies, inl left)) = inl (visited_flags q h y left there owner (subst (λ r. IsPeer s r y) owner was) dies)
      by_own owner is was (inr (dies, inr late)) = inr (dies, inr late)

  -- where it is at neither
  pub at_neither : (q : ℕ) (h : HandleRecord) (y : PeerPart) (e : DriverPart) → q ≢ step.at → IsDriver t h.node.owner e → ((d : DriverPart) → IsDriver s h.node.owner d → IsCovered q h y d) → IsCovered q h y e
  at_neither q h y e apart is_driver was =
      elim (driver_cases step h.node.owner e is_driver) [
        | inr same ↦ was e same.1
        | inl own ↦ by_own own.1 (was step.driver (subst (λ r. IsDriver s r step.driver) (sym own.0) step.is_driver))
      ]
    where
      by_own : e ≡ step.new_driver → IsCovered q h y step.driver → IsCovered q h y e
      by_own is (inl flagged) = inl flagged
      by_own is (inr (dies, inl left)) = inr (dies, inl (subst (λ d. Has (to_visit d) q) (sym is) (left_after q left apart)))
      by_own is (inr (dies, inr late)) = inr (dies, inr late)

  -- where it is at the owner
  module _ (q : ℕ) (x : PeerPart) (h : HandleRecord) (y : PeerPart) (e : DriverPart) (apart : q ≢ step.at) (is_peer : IsPeer s q x) (made : IsMade s h.node) (counts : 1 ≤ fresh s h.node q)
      (was : (d : DriverPart) → IsDriver s h.node.owner d → is_live (node_at step.peer h.node.serial).state ≡ false → IsCovered q h step.peer d)
      (here : h.node.owner ≡ step.at) (is_new : y ≡ step.new_peer) (is_driver : IsDriver t h.node.owner e) where
    owner_was : IsPeer s h.node.owner step.peer
    owner_was = subst (λ r. IsPeer s r step.peer) (sym here) step.is_peer

    -- the owner's driver, if it steps
    own_driver : h.node.owner ≡ p → e ≡ step.new_driver
    own_driver owner = elim (driver_cases step h.node.owner e is_driver) [ inl own ↦ own.1 | inr other ↦ absurd (other.0 owner) ]

    stays_due : dooms (going_action step) ≡ false → (d : DriverPart) → (Has (to_visit d) q → Has (to_visit e) q) → IsCovered q h step.peer d → IsCovered q h y e
    stays_due calm d left (inl flagged) = inl flagged
    stays_due calm d left (inr (dies, inl visit)) = inr (ap is_dying (state_same h.node y made owner_was is_new calm) ∙ dies, inl (left visit))
    stays_due calm d left (inr (dies, inr late)) = inr (ap is_dying (state_same h.node y made owner_was is_new calm) ∙ dies, inr (late_after q y is_new calm late))

    dooms_due : dooms (going_action step) ≡ true → IsCovered q h step.peer step.driver → IsCovered q h y e
    dooms_due doom (inl flagged) = inl flagged
    dooms_due doom (inr (dies, inl visit)) = let both : true ≡ false = sym doom ∙ ap dooms (visits q visit) in absurd (cc both)
    dooms_due doom (inr (dies, inr late)) =
        let k = doom_late o step.local.memory step.driver (parts step).command step.peer q h.node.serial (parts step).phase step.driver.owed doom (doomed_here step.peer h.node.serial (subst (λ r. IsPeer s r step.peer) (doomer doom) step.is_peer) dies) late in
        let nodes : y.nodes ≡ step.peer.nodes = ap (λ z. z.nodes) (is_new ∙ sym (parts step).is_peer) ∙ k.0 in
        let open_is : LeftIn q step.new_driver.doing = subst (λ d. LeftIn q d.doing) (parts step).is_driver k.1 in
        inr (ap (λ ns. is_dying (get_or ns h.node.serial no_node).state) nodes ∙ dies, inl (subst (λ d. Has (to_visit d) q) (sym (own_driver (here ∙ doomer doom))) (left_to_visit q step.new_driver.doing open_is)))

    was_dead : is_live (node_at step.peer h.node.serial).state ≡ false → IsCovered q h y e
    was_dead dead = by (dooms (going_action step)) refl (driver_cases step h.node.owner e is_driver)
      where
        own : h.node.owner ≡ p → IsCovered q h step.peer step.driver
        own owner = was step.driver (subst (λ r. IsDriver s r step.driver) (sym owner) step.is_driver) dead

        by : (b : Bool) → dooms (going_action step) ≡ b → ((h.node.owner ≡ p) × (e ≡ step.new_driver)) ⊎ ((h.node.owner ≢ p) × IsDriver s h.node.owner e) → IsCovered q h y e
        by true doom whose = dooms_due doom (own (here ∙ doomer doom))
        by false calm (inl (owner, is)) = stays_due calm step.driver (λ visit. subst (λ d. Has (to_visit d) q) (sym is) (left_after q visit apart)) (own owner)
        by false calm (inr (other, same)) = stays_due calm e (λ visit. visit) (was e same dead)

    -- the owner counts them
    counted_there : 1 ≤ count_of (node_at step.peer h.node.serial) q
    counted_there =
        let count : count_in s h.node q ≡ count_of (node_at step.peer h.node.serial) q = ap (counts_by h.node q) owner_was in
        let same : count_of (node_at step.peer h.node.serial) q ≡ fresh s h.node q = sym count ∙ sound.references.counts h.node q in
        subst (λ n. 1 ≤ n) (sym same) counts

    was_live : is_live (node_at step.peer h.node.serial).state ≡ true → is_live (node_at y h.node.serial).state ≡ false → IsCovered q h y e
    was_live alive dead = by (dooms (going_action step)) refl
      where
        by : (b : Bool) → dooms (going_action step) ≡ b → IsCovered q h y e
        by false calm = let both : true ≡ false = sym alive ∙ ap is_live (sym (state_same h.node y made owner_was is_new calm)) ∙ dead in absurd (cc both)
        by true doom =
            let few = slice_get_within s.peers q x is_peer in
            let same = ap (λ w. length w.nodes) (same_peer_at s h.node.owner made.0 step.peer made.1 owner_was) in
            let within = made.2 in
            let k = doom_begins o step.local.memory step.driver (parts step).command step.peer q h.node.serial alive (omega (arith, within, same)) (omega (arith, few, sound.numbered.as_many_peers, (sound.numbered.peers step.at step.peer step.is_peer).peers)) counted_there
            (parts step).phase step.driver.owed doom shape (ap (λ z. is_live (node_at z h.node.serial).state) ((parts step).is_peer ∙ sym is_new) ∙ dead) in
            inr (
              ap (λ z. is_dying (node_at z h.node.serial).state) (is_new ∙ sym (parts step).is_peer) ∙ k.0,
              inl (subst (λ d. Has (to_visit d) q) (sym (own_driver (here ∙ doomer doom))) (left_to_visit q step.new_driver.doing (subst (λ d. LeftIn q d.doing) (parts step).is_driver k.1))),
            )
          where
            shape : DestructionShape step.peer.peers step.peer (parts step).command (parts step).phase
            shape = elim (parts step).was [
              | inl open_is ↦ sound.notices.shape p step.driver step.peer (going_doing step) step.is_driver (subst (λ r. IsPeer s r step.peer) (doomer doom) step.is_peer) open_is
              | inr new ↦ subst (DestructionShape step.peer.peers step.peer (parts step).command) (sym new.1) tt
            ]

    pub at_owner : is_live (node_at y h.node.serial).state ≡ false → IsCovered q h y e
    at_owner dead = by (is_live (node_at step.peer h.node.serial).state) refl
      where
        by : (b : Bool) → is_live (node_at step.peer h.node.serial).state ≡ b → IsCovered q h y e
        by true alive = was_live alive dead
        by false over = was_dead over

  -- what is held is counted
  held_counted : (q : ℕ) (x : PeerPart) (h : HandleRecord) → IsPeer s q x → Has x.handles h → 1 ≤ h.held → 1 ≤ fresh s h.node q
  held_counted q x h is_peer there some =
      let mine : amount_by h.node (slice_get s.peers q) ≡ (record_or_none h.node x.handles).held + queue_amount h.node x.queue + dead_amount h.node x.dead = ap (amount_by h.node) is_peer in
      let held : (record_or_none h.node x.handles).held ≡ h.held = ap (λ z. (found_or_none h.node z).held) (record_found x.handles h (sound.rising q x is_peer) there) in
      omega (arith, mine, held, some)

  pub held_kept : (q : ℕ) (x : PeerPart) (h : HandleRecord) (y : PeerPart) (e : DriverPart) → IsPeer t q x → Has x.handles h → 1 ≤ h.held → IsPeer t h.node.owner y → IsDriver t h.node.owner e → is_live (node_at y h.node.serial).state ≡ false → IsCovered q h y e
  held_kept q x h y e is_peer there some is_owner is_driver dead =
      elim (peer_cases step q x is_peer) [
        | inl here ↦ at_holder q h y e here.0 (subst (λ z. Has z.handles h) here.1 there) some is_owner is_driver dead
        | inr other ↦ elim (peer_cases step h.node.owner y is_owner) [
          | inl at ↦ at_owner q x h y e other.0 other.1 (sound.flights.made q x h other.1 there) (held_counted q x h other.1 there some) (λ d is over. covered.held q x h step.peer d other.1 there some (subst (λ r. IsPeer s r step.peer) (sym at.0) step.is_peer) is over) at.0 at.1 is_driver dead
          | inr elsewhere ↦ at_neither q h y e other.0 is_driver (λ d is. covered.held q x h y d other.1 there some elsewhere.1 is dead)
        ]
      ]
