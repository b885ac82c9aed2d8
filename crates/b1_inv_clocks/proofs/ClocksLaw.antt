-- Clocks stay right over every list of steps.
use Rattle.std.proofs.Common.{◌≡◌, ◌⊎◌, refl, sym, ap, subst, ◌∙◌, inl, inr, ℕ, ◌+◌, ◌<◌, ◌≤◌, Bool, true, false, cond, List, [], ◌∷◌, set, Option, Some, Ok, Err}
use Rattle.std.specs.Prelude.{slice_get}
use Rattle.std.proofs.lemmas.Bool.{cases_lt}
use Rattle.std.proofs.lemmas.Option.{slice_get_within}
use native.Mathlib.Omega.{arith}
use Rattle.b1_model.specs.declared.naming.Opening.{Opening}
use Rattle.b1_model.specs.declared.commands.Command.{Command}
use Rattle.b1_model.specs.declared.commands.Command.TheVariants as cmd
use Rattle.b1_model.specs.declared.events.Action.{Action}
use Rattle.b1_model.specs.declared.events.Action.TheVariants as act
use Rattle.b1_model.specs.declared.events.Outcome.TheVariants as out
use Rattle.b1_model.specs.declared.events.Phase.{Phase}
use Rattle.b1_model.specs.declared.events.Phase.TheVariants.{Starting, Stamping, Dooming}
use Rattle.b1_model.specs.declared.events.Destruction.{Destruction}
use Rattle.b1_model.specs.declared.events.OwedDrop.{OwedDrop}
use Rattle.b1_model.specs.MachineParts.{PeerPart, DriverPart, State, clock_limit}
use Rattle.b1_model.specs.MachineSend.{final_stamp}
use Rattle.b1_model.specs.MachineDriver.{first_action, next_action, accepted_from, turn}
use Rattle.b1_model.specs.MachineTook.{took}
use Rattle.b1_model.specs.MachineEvents.{collected_of}
use Rattle.b1_model.specs.MachineStep.{Step}
use Rattle.b1_step.specs.Rights.{Has}
use Rattle.b1_step.proofs.Locality.{clocks_rise, as_many_peers}
use Rattle.b1_inv.specs.Words.{IsPeer, stamp_of_phase, fixed_stamp}
use Rattle.b1_inv.specs.Clocks.{ClocksRight, IsClock, can_be_stamped, has_unstamped, spent, all_spent, clock_bound}
use Rattle.b1_inv.specs.Sound.{IsSound}
use Rattle.b1_inv_tools.proofs.Leaves.{driver_cases, peer_cases, new_peer}
use Rattle.b1_inv_notices.proofs.Turns.{opened, answered, OnTurn, took_leaves, parts, going, going_doing, going_action, going_answer, ActionStamp, action_stamp, get_there}
use Rattle.b1_inv_notices.proofs.StampTurns.{Gave}
use Rattle.b1_inv_notices.proofs.Stamped.{gives, gave_is}
use Rattle.b1_inv_notices.proofs.StampsLaw.{own_number, fixed_before, stamp_after, given_at}
use Rattle.b1_inv_clocks.proofs.Counts.{spent_peer, spent_driver, spent_rises, spent_none, spent_one, spent_kept}
use Rattle.b1_inv_clocks.proofs.ClockTurns.{clock_zero, clock_more, BringsClock, Collected, collected_turn, ends_collected, took_owed, owed_clock, waits_in, Begins, WaitsStill, idle_syncing, idle_notices, waits_turn, ends_waiting}
use Rattle.b1_inv_clocks.proofs.ClockEvents.{StampsBelow, ActionClock, brings_clock, clock_after, stamps_after, begins_low}

-- ---- where a stamp is given, a command waited for it, and doesn't wait any more

module _ (o : Opening) (memory : Bool) (d : DriverPart) (command : Command) (x : PeerPart) (stamp : ℕ) where
  never_first : (b : Bool) (begins : Command) → gives (cond b act.Local (first_action begins)) ≡ true → ⊥
  never_first true begins is = absurd (cc is)
  never_first false cmd.Disconnect is = absurd (cc is)
  never_first false begins is = absurd (cc is)

  idle_doomed : (destruction : Destruction) (late : List ℕ) → Gave (out.StampDestroy (elim late [ [] ↦ Ok (final_stamp x destruction.collected) | peer ∷ rest ↦ Err (peer ∷ rest) ])) stamp
      → OnTurn command (λ doing. waits_in doing ≡ false) (turn d.me command (Dooming destruction) (out.StampDestroy (elim late [ [] ↦ Ok (final_stamp x destruction.collected) | peer ∷ rest ↦ Err (peer ∷ rest) ])))
  idle_doomed destruction [] gave = idle_notices command destruction (final_stamp x destruction.collected) 0
  idle_doomed destruction (peer ∷ rest) gave = absurd gave

  -- the command that is stamped
  pub waited : (phase : Phase) (owed : List OwedDrop) → gives (next_action (opened d command phase owed)) ≡ true → Gave (answered o memory d command phase owed x).0 stamp
      → (can_be_stamped phase ≡ true) × (waits_in (took (opened d command phase owed) (answered o memory d command phase owed x).0).doing ≡ false)
  waited phase (one ∷ rest) is gave = absurd (cc is)
  waited Starting [] is gave = absurd (never_first d.shut command is)
  waited (Stamping sending) [] is gave = (refl, took_leaves (λ doing. waits_in doing ≡ false) command (λ ph may h. refl) d (Stamping sending) [] (answered o memory d command (Stamping sending) [] x).0 (idle_syncing command sending _ (accepted_from 0 sending.places)))
  waited (Dooming destruction) [] is gave = (refl, took_leaves (λ doing. waits_in doing ≡ false) command (λ ph may h. refl) d (Dooming destruction) [] (answered o memory d command (Dooming destruction) [] x).0 (idle_doomed destruction x.late gave))
  waited phase [] is gave = absurd (cc is)

-- the bound over other lists is the bound of the state
spent_same : {o : Opening} {s : State} {p : ℕ} {c : Option Command} {t : State} (step : Step o s p c t) → all_spent t.peers t.drivers ≡ all_spent (set s.peers step.at step.new_peer) (set s.drivers p step.new_driver)
spent_same {o} {s} {p} {c} {t} step = ap (λ xs. all_spent xs t.drivers) step.peers ∙ ap (all_spent (set s.peers step.at step.new_peer)) step.drivers

module _ {o : Opening} {s : State} {p : ℕ} {c : Option Command} {t : State} (sound : IsSound o s) (step : Step o s p c t) where
  -- ---- how many drivers are spent

  -- the own peer's part after the step
  own_peer : (z : PeerPart) × IsPeer t p z
  own_peer = get_there t.peers p (let few = slice_get_within s.drivers p step.driver step.is_driver in let same = as_many_peers step in omega (arith, few, same, sound.numbered.as_many_drivers, sound.numbered.as_many_peers))

  waits_before : can_be_stamped (parts step).phase ≡ true → has_unstamped step.driver ≡ true
  waits_before is =
      elim (parts step).was [
        | inl open_is ↦ ap waits_in open_is ∙ is
        | inr new ↦ let both : true ≡ false = sym is ∙ ap can_be_stamped new.1 in absurd (cc both)
      ]

  waits_still : has_unstamped step.new_driver ≡ true → (can_be_stamped (parts step).phase ≡ true) ⊎ Begins (going_answer step)
  waits_still =
      subst (λ e. WaitsStill (parts step).command (parts step).phase (going_answer step) e.doing) (parts step).is_driver
      (took_leaves (WaitsStill (parts step).command (parts step).phase (going_answer step)) (parts step).command (ends_waiting (parts step).command (parts step).phase (going_answer step)) step.driver (parts step).phase step.driver.owed (going_answer step)
      (waits_turn (parts step).command step.driver.me (parts step).phase (going_answer step)))

  at_own : step.at ≡ p → own_peer.0 ≡ step.new_peer
  at_own same = some_one own_peer.0 step.new_peer (sym own_peer.1 ∙ ap (slice_get t.peers) (sym same) ∙ new_peer step)
    where
      some_one : {A : Type 0} (x y : A) → Some x ≡ Some y → x ≡ y
      some_one x y is = cc is

  driver_spent : spent step.driver own_peer.0 ≤ spent step.new_driver own_peer.0
  driver_spent =
      spent_kept step.driver step.new_driver own_peer.0 (λ is. elim (waits_still is) [
        | inl waited_before ↦ inl (waits_before waited_before)
        | inr begins ↦
            let k = begins_low step.peer o step.local.memory (going step) (going_doing step) (going_action step) begins in
            let here = at_own (sym (parts step).is_at ∙ k.0 ∙ own_number sound step) in
            inr (subst (λ y. y.clock < clock_limit) (sym here) (subst (λ y. y.clock < clock_limit) (parts step).is_peer k.1))
      ])

  own_place : slice_get (set s.peers step.at step.new_peer) p ≡ Some own_peer.0
  own_place = ap (λ xs. slice_get xs p) (sym step.peers) ∙ own_peer.1

  -- the peers' part of the count doesn't fall
  peers_spent : all_spent s.peers s.drivers ≤ all_spent (set s.peers step.at step.new_peer) s.drivers
  peers_spent =
      let there = get_there s.drivers step.at (let few = slice_get_within s.peers step.at step.peer step.is_peer in omega (arith, few, sound.numbered.as_many_drivers, sound.numbered.as_many_peers)) in
      let one = spent_peer s.peers s.drivers step.at step.peer step.new_peer there.0 step.is_peer there.1 in
      let two = spent_rises there.0 step.peer step.new_peer (clocks_rise step step.at step.peer step.new_peer step.is_peer (new_peer step)) in
      omega (arith, one, two)

  drivers_spent : all_spent (set s.peers step.at step.new_peer) (set s.drivers p step.new_driver) + spent step.driver own_peer.0 ≡ all_spent (set s.peers step.at step.new_peer) s.drivers + spent step.new_driver own_peer.0
  drivers_spent = spent_driver (set s.peers step.at step.new_peer) s.drivers p own_peer.0 step.driver step.new_driver own_place step.is_driver

  spent_grows : all_spent s.peers s.drivers ≤ all_spent t.peers t.drivers
  spent_grows = omega (arith, spent_same step, peers_spent, drivers_spent, driver_spent)

  bound_grows : clock_bound s ≤ clock_bound t
  bound_grows = let k = spent_grows in omega (arith, k)

  still : (n : ℕ) → IsClock (clock_bound s) n → IsClock (clock_bound t) n
  still n h = clock_more (clock_bound s) (clock_bound t) n bound_grows h

  -- ---- a stamp that is given

  collected_before : IsClock (clock_bound s) (collected_of (parts step).phase)
  collected_before =
      elim (parts step).was [
        | inl open_is ↦ sound.clocks.collected p step.driver (going_doing step) step.is_driver open_is
        | inr new ↦ subst (λ phase. IsClock (clock_bound s) (collected_of phase)) (sym new.1) (clock_zero (clock_bound s))
      ]

  -- at the limit or above it makes one more driver spent
  one_more : (stamp : ℕ) → Gave (going_answer step) stamp → clock_limit ≤ stamp → all_spent s.peers s.drivers + 1 ≤ all_spent t.peers t.drivers
  one_more stamp gave high =
      let is = gave_is o step.local.memory (going step) (going_doing step) (going_action step) step.peer stamp gave in
      let k = waited o step.local.memory step.driver (parts step).command step.peer stamp (parts step).phase step.driver.owed is.0 gave in
      let g = given_at sound step stamp gave in
      let here = at_own g.0 in
      let none = spent_none step.driver own_peer.0 (waits_before k.0) in
      let idle : has_unstamped step.new_driver ≡ false = ap (λ e. waits_in e.doing) (sym (parts step).is_driver) ∙ k.1 in
      let clock_is : own_peer.0.clock ≡ stamp = ap (λ y. y.clock) here ∙ g.1 in
      let one = spent_one step.new_driver own_peer.0 idle (omega (arith, clock_is, high)) in
      omega (arith, spent_same step, peers_spent, drivers_spent, none, one)

  given_clock : (stamp : ℕ) → Gave (going_answer step) stamp → IsClock (clock_bound t) stamp
  given_clock stamp gave =
      let is = (gave_is o step.local.memory (going step) (going_doing step) (going_action step) step.peer stamp gave).1 in
      let own = sound.clocks.clock step.at step.peer step.is_peer in
      let coll = collected_before in (
        omega (arith, is, own.0, coll.0),
        elim (cases_lt stamp clock_limit) [
          | inl low ↦ omega (arith, low)
          | inr high ↦ let more = one_more stamp gave high in omega (arith, is, own.1, coll.1, more)
        ],
      )

  -- ---- the fields

  old_stamp : (stamp : ℕ) → stamp_of_phase (parts step).phase ≡ Some stamp → IsClock (clock_bound t) stamp
  old_stamp stamp is = still stamp (sound.clocks.stamp p step.driver stamp step.is_driver (fixed_before sound step stamp is))

  old_owed : (one : OwedDrop) → Has step.driver.owed one → IsClock (clock_bound t) one.clock
  old_owed one h = still one.clock (sound.clocks.owed p step.driver one step.is_driver h)

  old_clock : IsClock (clock_bound t) step.peer.clock
  old_clock = still step.peer.clock (sound.clocks.clock step.at step.peer step.is_peer)

  old_nodes : StampsBelow (clock_bound t) step.peer.nodes
  old_nodes n stamp h is = still stamp (sound.clocks.destroyed step.at step.peer n stamp step.is_peer h is)

  brings : BringsClock (clock_bound t) (going_answer step)
  brings = brings_clock (clock_bound t) step.peer old_clock old_nodes o step.local.memory (going step) (going_doing step) (going_action step)

  given_to : (action : Action) → ActionStamp (parts step).phase step.driver.owed action → ActionClock (clock_bound t) step.peer old_clock old_nodes action
  given_to (act.Sync peer stamp) is = old_stamp stamp is
  given_to (act.DropRefs peer serial holder k clock) (one, h, same) = subst (IsClock (clock_bound t)) same (old_owed one h)
  given_to action is = tt

  new_clock : IsClock (clock_bound t) step.new_peer.clock
  new_clock =
      subst (λ y. IsClock (clock_bound t) y.clock) (parts step).is_peer
      (clock_after (clock_bound t) step.peer old_clock old_nodes o step.local.memory (going step) (going_doing step) (going_action step)
      (given_to (going_action step) (action_stamp step.driver (parts step).command (parts step).phase step.driver.owed)) given_clock)

  new_nodes : StampsBelow (clock_bound t) step.new_peer.nodes
  new_nodes = subst (λ y. StampsBelow (clock_bound t) y.nodes) (parts step).is_peer (stamps_after (clock_bound t) step.peer old_clock old_nodes o step.local.memory (going step) (going_doing step) (going_action step) given_clock)

  new_collected : Collected (parts step).command (clock_bound t) step.new_driver.doing
  new_collected =
      subst (λ e. Collected (parts step).command (clock_bound t) e.doing) (parts step).is_driver
      (took_leaves (Collected (parts step).command (clock_bound t)) (parts step).command (ends_collected (parts step).command (clock_bound t)) step.driver (parts step).phase step.driver.owed (going_answer step)
      (collected_turn (parts step).command (clock_bound t) step.driver.me (parts step).phase (going_answer step) brings (still (collected_of (parts step).phase) collected_before)))

  new_owed : (one : OwedDrop) → Has step.new_driver.owed one → IsClock (clock_bound t) one.clock
  new_owed one h =
      owed_clock (clock_bound t) step.driver.me step.driver.owed old_owed (parts step).phase (going_answer step) old_stamp brings one
      (subst (λ owed. Has owed one) (took_owed step.driver (parts step).command (parts step).phase step.driver.owed (going_answer step)) (subst (λ e. Has e.owed one) (sym (parts step).is_driver) h))

  new_stamp : (stamp : ℕ) → fixed_stamp step.new_driver ≡ Some stamp → IsClock (clock_bound t) stamp
  new_stamp stamp is = elim (stamp_after sound step stamp is) [ inl same ↦ old_stamp stamp same | inr gave ↦ given_clock stamp gave ]

  pub clocks_kept : ClocksRight t
  clocks_kept = record {
    clock = λ q y is. elim (peer_cases step q y is) [
      | inl here ↦ subst (λ z. IsClock (clock_bound t) z.clock) (sym here.1) new_clock
      | inr other ↦ still y.clock (sound.clocks.clock q y other.1)
    ];
    collected = λ r e doing is_driver is. elim (driver_cases step r e is_driver) [
      | inl own ↦ subst (Collected (parts step).command (clock_bound t)) (ap (λ d. d.doing) (sym own.1) ∙ is) new_collected
      | inr other ↦ still (collected_of doing.phase) (sound.clocks.collected r e doing other.1 is)
    ];
    stamp = λ r e stamp is_driver is. elim (driver_cases step r e is_driver) [
      | inl own ↦ new_stamp stamp (ap fixed_stamp (sym own.1) ∙ is)
      | inr other ↦ still stamp (sound.clocks.stamp r e stamp other.1 is)
    ];
    owed = λ r e one is_driver h. elim (driver_cases step r e is_driver) [
      | inl own ↦ new_owed one (subst (λ d. Has d.owed one) own.1 h)
      | inr other ↦ still one.clock (sound.clocks.owed r e one other.1 h)
    ];
    destroyed = λ q y n stamp is_peer h is. elim (peer_cases step q y is_peer) [
      | inl here ↦ new_nodes n stamp (subst (λ z. Has z.nodes n) here.1 h) is
      | inr other ↦ still stamp (sound.clocks.destroyed q y n stamp other.1 h is)
    ];
  }
