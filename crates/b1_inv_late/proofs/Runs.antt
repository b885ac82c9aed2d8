-- A step carries the facts on a call and on what was received: which clocks have come up, what was collected, and which peers were reached.
use Rattle.std.proofs.Common.{◌≡◌, ◌≢◌, ◌⊎◌, refl, sym, ap, subst, ◌∙◌, inl, inr, ℕ, ◌<◌, ◌≤◌, Bool, true, false, cond, List, ◌∷◌, Option, Some}
use Rattle.std.proofs.lemmas.Bool.{cases_eq}
use Rattle.std.proofs.lemmas.Option.{same_Some}
use native.Mathlib.Omega.{arith}
use Rattle.b1_model.specs.declared.commands.Command.{Command}
use Rattle.b1_model.specs.declared.naming.Key.{Key}
use Rattle.b1_model.specs.declared.naming.Opening.{Opening}
use Rattle.b1_model.specs.declared.events.Doing.{Doing}
use Rattle.b1_model.specs.MachineParts.{PeerPart, DriverPart, State}
use Rattle.b1_model.specs.MachineEvents.{collected_of}
use Rattle.b1_model.specs.MachineStep.{Step}
use Rattle.b1_model.specs.MachineOrder.{event_of, is_begin, is_staging, stamp_given}
use Rattle.b1_step.specs.Rights.{Has}
use Rattle.b1_inv.specs.Sound.{IsSound}
use Rattle.b1_inv.specs.Words.{IsPeer, IsDriver}
use Rattle.b1_inv_record.specs.Clocks.{Synced}
use Rattle.b1_inv_tools.proofs.Leaves.{driver_cases, new_driver, same_driver, new_peer}
use Rattle.b1_inv_notices.proofs.Turns.{doing_in}
use Rattle.b1_inv_cover.proofs.Stamped.{peer_before, same_peer_at}
use Rattle.b1_inv_late.specs.Parties.{is_early, Reaches}
use Rattle.b1_inv_late.proofs.Calls.{parties_with}
use Rattle.b1_inv_late.proofs.Goes.{OpenAt}
use Rattle.b1_inv_late.proofs.Seen.{seen}
use Rattle.b1_inv_late.proofs.Steps.{Earlier, earlier, stamped, goes_on, Taken, settled}

-- ---- what is carried

-- the clocks of some peers are at least this
abbrev pub Covered : ℕ → List ℕ → State → Type 0
Covered stamp peers s = (y : ℕ) → Has peers y → (z : PeerPart) → IsPeer s y z → stamp ≤ z.clock

-- a driver's command without a stamp has collected at least this, where a party of it is one of some peers, its own peer aside
abbrev pub Collected : ℕ → ℕ → List ℕ → List ℕ → State → Type 0
Collected p stamp parties peers s = (d : DriverPart) (one : Doing) → IsDriver s p d → d.doing ≡ Some one → is_early one.phase ≡ true → (y : ℕ) → Has parties y → Has peers y → (y ≡ p) ⊎ (stamp ≤ collected_of one.phase)

-- a driver's command without a stamp has reached all its parties, its own peer aside
abbrev pub HasReached : ℕ → List ℕ → State → Type 0
HasReached p parties s = (d : DriverPart) (one : Doing) → IsDriver s p d → d.doing ≡ Some one → is_early one.phase ≡ true → (y : ℕ) → Has parties y → (y ≡ p) ⊎ Reaches one.phase y

-- each of some peers has a clock of at least a stamp, or is reached by its driver's open command with that stamp
abbrev pub Brought : ℕ → ℕ → List ℕ → State → Type 0
Brought p stamp peers s = (y : ℕ) → Has peers y → ((z : PeerPart) → IsPeer s y z → stamp ≤ z.clock) ⊎ ((d : DriverPart) × IsDriver s p d × OpenAt stamp y d.doing)

module _ {o : Opening} {s : State} {p : ℕ} {c : Option Command} {t : State} (step : Step o s p c t) where
  clock_kept : (stamp y : ℕ) → ((z : PeerPart) → IsPeer s y z → stamp ≤ z.clock) → (z : PeerPart) → IsPeer t y z → stamp ≤ z.clock
  clock_kept stamp y low z is =
      let before = peer_before step y z is in
      let least = low before.0 before.1 in
      let rise = before.2 in
      omega (arith, least, rise)

  pub covered_kept : (stamp : ℕ) (peers : List ℕ) → Covered stamp peers s → Covered stamp peers t
  covered_kept stamp peers low = λ y has. clock_kept stamp y (low y has)

  old_driver : (r : ℕ) (d : DriverPart) → p ≢ r → IsDriver t r d → IsDriver s r d
  old_driver r d apart is = elim (driver_cases step r d is) [
    | inl own ↦ absurd (apart (sym own.0))
    | inr other ↦ other.1
  ]

  -- another driver's step
  pub collected_other : (r stamp : ℕ) (parties peers : List ℕ) → p ≢ r → Collected r stamp parties peers s → Collected r stamp parties peers t
  collected_other r stamp parties peers apart h = λ d one is_driver. h d one (old_driver r d apart is_driver)

  pub reached_other : (r : ℕ) (parties : List ℕ) → p ≢ r → HasReached r parties s → HasReached r parties t
  reached_other r parties apart h = λ d one is_driver. h d one (old_driver r d apart is_driver)

module _ {o : Opening} {s : State} {p : ℕ} {c : Option Command} {t : State} (sound : IsSound o s) (step : Step o s p c t) where
  is_new : (d : DriverPart) → IsDriver t p d → step.new_driver ≡ d
  is_new d is = same_Some step.new_driver d (sym (new_driver step) ∙ is)

  -- the driver's own step without a stamp
  pub collected_own : (stamp : ℕ) (parties peers : List ℕ) → is_begin (event_of step).outcome ≡ false → Covered stamp peers s → Collected p stamp parties peers s → Collected p stamp (parties_with (event_of step) parties) peers t
  collected_own stamp parties peers none low h d one is_driver is early y party peer = by (is_staging (event_of step).outcome) refl party
    where
      k : Earlier sound step one
      k = earlier sound step none one (ap (λ e. e.doing) (is_new d is_driver) ∙ is) early

      before : Has parties y → (y ≡ p) ⊎ (stamp ≤ collected_of one.phase)
      before old = elim (h step.driver (doing_in (seen step).command (seen step).phase) step.is_driver k.was k.early y old peer) [
        | inl own ↦ inl own
        | inr least ↦ let more = k.collects in inr (omega (arith, least, more))
      ]

      by : (b : Bool) → is_staging (event_of step).outcome ≡ b → Has (cond b (step.at ∷ parties) parties) y → (y ≡ p) ⊎ (stamp ≤ collected_of one.phase)
      by true staging (inl same) =
          let least = low y peer step.peer (subst (λ q. IsPeer s q step.peer) (sym same) step.is_peer) in
          let more = (k.staged staging).0 in
          inr (omega (arith, least, more))
      by true staging (inr old) = before old
      by false nothing old = before old

  pub reached_own : (parties : List ℕ) → is_begin (event_of step).outcome ≡ false → HasReached p parties s → HasReached p (parties_with (event_of step) parties) t
  reached_own parties none h d one is_driver is early y party = by (is_staging (event_of step).outcome) refl party
    where
      k : Earlier sound step one
      k = earlier sound step none one (ap (λ e. e.doing) (is_new d is_driver) ∙ is) early

      before : Has parties y → (y ≡ p) ⊎ Reaches one.phase y
      before old = elim (h step.driver (doing_in (seen step).command (seen step).phase) step.is_driver k.was k.early y old) [
        | inl own ↦ inl own
        | inr reached ↦ inr (k.reached y reached)
      ]

      by : (b : Bool) → is_staging (event_of step).outcome ≡ b → Has (cond b (step.at ∷ parties) parties) y → (y ≡ p) ⊎ Reaches one.phase y
      by true staging (inl same) = inr (subst (Reaches one.phase) (sym same) (k.staged staging).1)
      by true staging (inr old) = before old
      by false nothing old = before old

  -- the stamp that a step gives is above the clocks of the parties
  pub given_above : (stamp given : ℕ) (parties peers : List ℕ) → stamp_given (event_of step).outcome ≡ Some given → Covered stamp peers s → Collected p stamp parties peers s → (y : ℕ) → Has parties y → Has peers y → stamp < given
  given_above stamp given parties peers is low h y party peer =
      let k = stamped sound step given is in
      elim (h step.driver (doing_in (seen step).command (seen step).phase) step.is_driver k.was k.early y party peer) [
        | inl own ↦
            let least = low y peer step.peer (subst (λ q. IsPeer s q step.peer) (k.at ∙ sym own) step.is_peer) in
            let more = k.clock in
            omega (arith, least, more)
        | inr least ↦ let more = k.above in omega (arith, least, more)
      ]

  -- and the command brings it to each of them
  pub given_brings : (given : ℕ) (parties : List ℕ) → stamp_given (event_of step).outcome ≡ Some given → HasReached p parties s → Brought p given parties t
  given_brings given parties is h y party =
      let k = stamped sound step given is in
      elim (h step.driver (doing_in (seen step).command (seen step).phase) step.is_driver k.was k.early y party) [
        | inl own ↦ inl (λ z is_peer.
            let same : step.new_peer ≡ z = same_peer_at t step.at step.new_peer z (new_peer step) (subst (λ q. IsPeer t q z) (own ∙ sym k.at) is_peer) in
            let clock = ap (λ x. x.clock) same in
            let high = k.high in
            omega (arith, high, clock))
        | inr reached ↦ inr (step.new_driver, new_driver step, k.goes y reached)
      ]

  -- a step goes on to bring it
  pub brought_kept : Synced s → (r stamp : ℕ) (peers : List ℕ) → Brought r stamp peers s → Brought r stamp peers t
  brought_kept synced r stamp peers h y has = elim (h y has) [
    | inl low ↦ inl (clock_kept step stamp y low)
    | inr goes ↦ elim (cases_eq p r) [
      | inl same ↦
          let here : goes.0 ≡ step.driver = same_Some goes.0 step.driver (sym goes.1 ∙ subst (λ q. IsDriver s q step.driver) same step.is_driver) in
          elim (goes_on sound step synced stamp y (subst (λ d. OpenAt stamp y d.doing) here goes.2)) [
            | inl low ↦ inl (clock_kept step stamp y low)
            | inr still ↦ inr (step.new_driver, subst (λ q. IsDriver t q step.new_driver) same (new_driver step), still)
          ]
      | inr apart ↦ inr (goes.0, same_driver step r goes.0 (λ e. apart (sym e)) goes.1, goes.2)
    ]
  ]

  -- where something of it was received, it was brought to all
  pub received_covers : Synced s → (key : Key) (peers : List ℕ) → Taken sound step key → Brought key.origin key.stamp peers s → Covered key.stamp peers s
  received_covers synced key peers k h y has z is_peer = elim (h y has) [
    | inl low ↦ low z is_peer
    | inr goes ↦
        let one = goes.2.0 in
        settled synced key.origin key.stamp y goes.0 one.command one.phase goes.1 goes.2.1 goes.2.2 goes.2.3 (k.commits goes.0 one goes.1 goes.2.1 goes.2.2) z is_peer
  ]
