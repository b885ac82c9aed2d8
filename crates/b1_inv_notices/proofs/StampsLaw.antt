-- Stamps stay right over every list of steps.
use Rattle.std.proofs.Common.{◌≡◌, ◌≢◌, ◌⊎◌, refl, sym, ap, subst, ◌∙◌, inl, inr, ℕ, ◌<◌, ◌≤◌, false, Option, Some, None}
use Rattle.std.specs.Prelude.{slice_get}
use Rattle.std.proofs.lemmas.Bool.{cases_eq}
use Rattle.std.proofs.lemmas.Option.{slice_get_within, same_Some}
use native.Mathlib.Omega.{arith}
use Rattle.b1_model.specs.declared.naming.Key.{Key}
use Rattle.b1_model.specs.declared.naming.Opening.{Opening}
use Rattle.b1_model.specs.declared.commands.Command.{Command}
use Rattle.b1_model.specs.declared.entries.Entry.{Entry}
use Rattle.b1_model.specs.declared.events.Doing.{Doing}
use Rattle.b1_model.specs.MachineParts.{PeerPart, DriverPart, State, no_origin, is_staged}
use Rattle.b1_model.specs.MachineStep.{Step}
use Rattle.b1_step.specs.Rights.{Has}
use Rattle.b1_step.proofs.Locality.{step_grows, clocks_rise}
use Rattle.b1_inv.specs.Words.{IsPeer, IsDriver, stamp_of_phase, fixed_stamp, waits_at, phase_uncommitted}
use Rattle.b1_inv.specs.Notices.{DestructionShape}
use Rattle.b1_inv.specs.Stamps.{StampsRight, IsStampOf, WasCommitted}
use Rattle.b1_inv.specs.Sound.{IsSound}
use Rattle.b1_inv_tools.proofs.Comes.{queue_comes}
use Rattle.b1_inv_tools.proofs.Leaves.{driver_cases, peer_cases, new_driver, same_driver, new_peer, same_peer}
use Rattle.b1_inv_notices.proofs.Turns.{took_leaves, parts, going, going_doing, going_action, going_answer, get_there}
use Rattle.b1_inv_notices.proofs.OwnLaw.{begun_from}
use Rattle.b1_inv_notices.proofs.NoticesLaw.{own_of}
use Rattle.b1_inv_notices.proofs.StampTurns.{fixed_in, Gave, SameOr, stamp_turn, ends_same, WasDone, NotAhead}
use Rattle.b1_inv_notices.proofs.AheadTurns.{ahead_turn, ends_ahead}
use Rattle.b1_inv_notices.proofs.Stamped.{gave_clock, brought}

-- committed, by the driver's open command and by its phase
done_of : (d : DriverPart) (doing : Doing) (q : ℕ) (f : Key × Entry) → d.doing ≡ Some doing → WasDone d.me doing.phase q f → WasCommitted d doing q f
done_of d doing q f is (inl done) = inl (done.0, done.1, ap (λ z. elim z [ None ↦ false | Some one ↦ waits_at one.phase f.0.index ]) is ∙ done.2)
done_of d doing q f is (inr done) = inr (done.0, done.1, ap (λ z. elim z [ None ↦ false | Some one ↦ phase_uncommitted d.me one.phase q ]) is ∙ done.2)

of_done : (d : DriverPart) (doing : Doing) (q : ℕ) (f : Key × Entry) → d.doing ≡ Some doing → WasCommitted d doing q f → WasDone d.me doing.phase q f
of_done d doing q f is (inl done) = inl (done.0, done.1, ap (λ z. elim z [ None ↦ false | Some one ↦ waits_at one.phase f.0.index ]) (sym is) ∙ done.2)
of_done d doing q f is (inr done) = inr (done.0, done.1, ap (λ z. elim z [ None ↦ false | Some one ↦ phase_uncommitted d.me one.phase q ]) (sym is) ∙ done.2)

fixed_is : (d : DriverPart) (doing : Doing) → d.doing ≡ Some doing → fixed_stamp d ≡ stamp_of_phase doing.phase
fixed_is d doing is = ap fixed_in is

-- an entry that isn't ahead of a driver's part
ahead_of : (d : DriverPart) (q : ℕ) (f : Key × Entry) → ((doing : Doing) → d.doing ≡ Some doing → fixed_stamp d ≡ Some f.0.stamp → WasCommitted d doing q f) → NotAhead d.me d.doing q f
ahead_of d q f h one is st = of_done d one q f is (h one is (fixed_is d one is ∙ st))

of_ahead : (d : DriverPart) (q : ℕ) (f : Key × Entry) → NotAhead d.me d.doing q f → (doing : Doing) → d.doing ≡ Some doing → fixed_stamp d ≡ Some f.0.stamp → WasCommitted d doing q f
of_ahead d q f h doing is st = done_of d doing q f is (h doing is (sym (fixed_is d doing is) ∙ st))

module _ {o : Opening} {s : State} {p : ℕ} {c : Option Command} {t : State} (sound : IsSound o s) (step : Step o s p c t) where
  pub own_number : step.driver.me ≡ p
  own_number = sound.numbered.drivers p step.driver step.is_driver

  new_number : step.new_driver.me ≡ step.driver.me
  new_number = (step_grows step).me

  -- each peer was there, with a clock that isn't above
  before : (q : ℕ) (y : PeerPart) → IsPeer t q y → (x : PeerPart) × IsPeer s q x × (x.clock ≤ y.clock)
  before q y is =
      let there = elim (peer_cases step q y is) as (λ z. (x : PeerPart) × IsPeer s q x) [
        | inl here ↦ (step.peer, subst (λ r. IsPeer s r step.peer) (sym here.0) step.is_peer)
        | inr other ↦ (y, other.1)
      ] in
      (there.0, there.1, clocks_rise step q there.0 y there.1 is)

  -- and is there, with a clock that isn't below
  after : (q : ℕ) (x : PeerPart) → IsPeer s q x → (y : PeerPart) × IsPeer t q y × (x.clock ≤ y.clock)
  after q x is =
      let there = elim (cases_eq q step.at) as (λ z. (y : PeerPart) × IsPeer t q y) [
        | inl here ↦ (step.new_peer, subst (λ r. IsPeer t r step.new_peer) (sym here) (new_peer step))
        | inr apart ↦ (x, same_peer step q x apart is)
      ] in
      (there.0, there.1, clocks_rise step q x there.0 is there.1)

  -- ---- the fixed stamp

  -- the stamp of the command that goes on, as the driver's part has it
  pub fixed_before : (stamp : ℕ) → stamp_of_phase (parts step).phase ≡ Some stamp → fixed_stamp step.driver ≡ Some stamp
  fixed_before stamp is =
      elim (parts step).was [
        | inl open_is ↦ ap fixed_in open_is ∙ is
        | inr new ↦ let none : Some stamp ≡ None = sym is ∙ ap stamp_of_phase new.1 in absurd (cc none)
      ]

  pub stamp_after : (stamp : ℕ) → fixed_stamp step.new_driver ≡ Some stamp → (stamp_of_phase (parts step).phase ≡ Some stamp) ⊎ Gave (going_answer step) stamp
  stamp_after =
      subst (λ e. SameOr (parts step).command (parts step).phase (going_answer step) e.doing) (parts step).is_driver
      (took_leaves (SameOr (parts step).command (parts step).phase (going_answer step)) (parts step).command (ends_same (parts step).command (parts step).phase (going_answer step)) step.driver (parts step).phase step.driver.owed (going_answer step)
      (stamp_turn (parts step).command step.driver.me (parts step).phase (going_answer step)))

  -- where a stamp was given, the event is at the own peer, and its clock is the stamp
  pub given_at : (stamp : ℕ) → Gave (going_answer step) stamp → (step.at ≡ p) × (step.new_peer.clock ≡ stamp) × (step.peer.clock < stamp)
  given_at stamp gave =
      let k = gave_clock o step.local.memory (going step) (going_doing step) (going_action step) step.peer stamp gave in
      (sym (parts step).is_at ∙ k.0 ∙ own_number, ap (λ y. y.clock) (sym (parts step).is_peer) ∙ k.1, k.2)

  same_at : (q : ℕ) (x y : PeerPart) → IsPeer t q x → IsPeer t q y → x ≡ y
  same_at q x y is also = same_Some x y (sym is ∙ also)

  fixed_below : (r : ℕ) (e : DriverPart) (y : PeerPart) (stamp : ℕ) → IsDriver t r e → IsPeer t r y → fixed_stamp e ≡ Some stamp → stamp ≤ y.clock
  fixed_below r e y stamp is_driver is_peer is = by (driver_cases step r e is_driver)
    where
      old : (d : DriverPart) → IsDriver s r d → fixed_stamp d ≡ Some stamp → stamp ≤ y.clock
      old d there fixed = let x = before r y is_peer in let k = sound.stamps.fixed r d x.0 stamp there x.1 fixed in let j = x.2 in omega (arith, k, j)

      by : ((r ≡ p) × (e ≡ step.new_driver)) ⊎ ((r ≢ p) × IsDriver s r e) → stamp ≤ y.clock
      by (inr other) = old e other.1 is
      by (inl own) = elim (stamp_after stamp (ap fixed_stamp (sym own.1) ∙ is)) [
        | inl same ↦ old step.driver (subst (λ n. IsDriver s n step.driver) (sym own.0) step.is_driver) (fixed_before stamp same)
        | inr gave ↦
            let k = given_at stamp gave in
            let here : y ≡ step.new_peer = same_at r y step.new_peer is_peer (subst (λ n. IsPeer t n step.new_peer) (k.0 ∙ sym own.0) (new_peer step)) in
            omega (arith, ap (λ z. z.clock) here, k.1)
      ]

  -- ---- committed entries

  -- by the driver's part before the event, the command that goes on is not ahead either
  ahead_going : (q : ℕ) (f : Key × Entry) → NotAhead step.driver.me step.driver.doing q f → NotAhead step.driver.me (Some (going_doing step)) q f
  ahead_going q f h =
      elim (parts step).was [
        | inl is ↦ subst (λ doing. NotAhead step.driver.me doing q f) is h
        | inr new ↦ λ one is st. let k : going_doing step ≡ one = cc is in let none : Some f.0.stamp ≡ None = sym st ∙ ap (λ z. stamp_of_phase z.phase) (sym k) ∙ ap stamp_of_phase new.1 in absurd (cc none)
      ]

  ahead_after : (q : ℕ) (f : Key × Entry) → ((stamp : ℕ) → Gave (going_answer step) stamp → f.0.stamp < stamp) → NotAhead step.driver.me (Some (going_doing step)) q f → NotAhead step.new_driver.me step.new_driver.doing q f
  ahead_after q f above h =
      subst (λ me. NotAhead me step.new_driver.doing q f) (sym new_number)
      (subst (λ e. NotAhead step.driver.me e.doing q f) (parts step).is_driver
      (took_leaves (λ doing. NotAhead step.driver.me doing q f) (parts step).command (ends_ahead (parts step).command step.driver.me q f) step.driver (parts step).phase step.driver.owed (going_answer step)
      (ahead_turn (parts step).command step.driver.me q f (parts step).phase (going_answer step) above h)))

  -- an entry that stood there
  old_stamp : (q : ℕ) (f : Key × Entry) → IsStampOf s q f → IsStampOf t q f
  old_stamp q f k = by (cases_eq f.0.origin p)
    where
      own_after : (y : PeerPart) × IsPeer t f.0.origin y × (k.own.clock ≤ y.clock)
      own_after = after f.0.origin k.own k.is_own

      by : (f.0.origin ≡ p) ⊎ (f.0.origin ≡ p → ⊥) → IsStampOf t q f
      by (inr apart) = record {
        driver = k.driver;
        own = own_after.0;
        is_driver = same_driver step f.0.origin k.driver apart k.is_driver;
        is_own = own_after.1;
        below = let one = k.below in let two = own_after.2 in omega (arith, one, two);
        fixed = k.fixed;
      }
      by (inl same) =
          let at_p : k.driver ≡ step.driver = same_Some k.driver step.driver (sym k.is_driver ∙ ap (slice_get s.drivers) same ∙ step.is_driver) in
          record {
            driver = step.new_driver;
            own = own_after.0;
            is_driver = subst (λ n. IsDriver t n step.new_driver) (sym same) (new_driver step);
            is_own = own_after.1;
            below = let one = k.below in let two = own_after.2 in omega (arith, one, two);
            fixed = of_ahead step.new_driver q f (ahead_after q f (above same) (ahead_going q f (subst (λ d. NotAhead d.me d.doing q f) at_p (ahead_of k.driver q f k.fixed))));
          }
        where
          above : f.0.origin ≡ p → (stamp : ℕ) → Gave (going_answer step) stamp → f.0.stamp < stamp
          above same stamp gave =
              let g = given_at stamp gave in
              let here : k.own ≡ step.peer = same_Some k.own step.peer (sym k.is_own ∙ ap (slice_get s.peers) (same ∙ sym g.0) ∙ step.is_peer) in
              let one = k.below in
              omega (arith, one, ap (λ z. z.clock) here, g.2)

  -- an entry that the event brought
  own_shape : (z : PeerPart) → IsPeer s p z → DestructionShape z.peers z (parts step).command (parts step).phase
  own_shape z is = (begun_from sound step (own_of s sound.notices) z (own_of s sound.notices p step.driver z step.is_driver is)).shape (going_doing step) refl

  new_stamp : (f : Key × Entry) → (f.0.origin ≡ step.driver.me) × (stamp_of_phase (parts step).phase ≡ Some f.0.stamp) × NotAhead step.driver.me step.new_driver.doing step.at f → IsStampOf t step.at f
  new_stamp f (origin, fixed, ahead) =
      let own = get_there s.peers p (let few = slice_get_within s.drivers p step.driver step.is_driver in omega (arith, few, sound.numbered.as_many_drivers, sound.numbered.as_many_peers)) in
      let then_own = after p own.0 own.1 in
      record {
        driver = step.new_driver;
        own = then_own.0;
        is_driver = subst (λ n. IsDriver t n step.new_driver) (sym own_number ∙ sym origin) (new_driver step);
        is_own = subst (λ n. IsPeer t n then_own.0) (sym own_number ∙ sym origin) then_own.1;
        below = let one = sound.stamps.fixed p step.driver own.0 f.0.stamp step.is_driver own.1 (fixed_before f.0.stamp fixed) in let two = then_own.2 in omega (arith, one, two);
        fixed = of_ahead step.new_driver step.at f (subst (λ me. NotAhead me step.new_driver.doing step.at f) (sym new_number) ahead);
      }

  after_entry : (f : Key × Entry) → Has step.new_peer.queue f → is_staged f ≡ false → f.0.origin ≢ no_origin → IsStampOf t step.at f
  after_entry f h committed of_driver =
      let own = get_there s.peers p (let few = slice_get_within s.drivers p step.driver step.is_driver in omega (arith, few, sound.numbered.as_many_drivers, sound.numbered.as_many_peers)) in
      elim (queue_comes o (going step) (going_doing step) f step.local.memory (going_action step) step.peer (subst (λ y. Has y.queue f) (sym (parts step).is_peer) h)) [
        | inl old ↦ old_stamp step.at f (sound.stamps.committed step.at step.peer f step.is_peer old.0 committed of_driver)
        | inr new ↦ new_stamp f
            (let k = brought o step.local.memory step.driver step.peer step.at f (sound.clocks.clock step.at step.peer step.is_peer).0 committed of_driver (parts step).command (parts step).phase step.driver.owed own.0
            ((sound.numbered.peers p own.0 own.1).me ∙ sym own_number) (own_shape own.0 own.1) (sym (parts step).is_at) new in
            (k.0, k.1, subst (λ e. NotAhead step.driver.me e.doing step.at f) (parts step).is_driver k.2))
      ]

  pub stamps_kept : StampsRight t
  stamps_kept = record {
    fixed = fixed_below;
    committed = λ q y f is_peer h committed of_driver.
        elim (peer_cases step q y is_peer) [
          | inl here ↦ subst (λ n. IsStampOf t n f) (sym here.0) (after_entry f (subst (λ z. Has z.queue f) here.1 h) committed of_driver)
          | inr there ↦ old_stamp q f (sound.stamps.committed q y f there.1 h committed of_driver)
        ];
  }
