-- Open destructions keep dooming what they name, over every step.
use Rattle.std.proofs.Common.{◌≡◌, ◌≢◌, refl, sym, ap, subst, ◌∙◌, inl, inr, ℕ, Bool, true, false, [], Option, Some, None}
use Rattle.b1_model.specs.declared.commands.Command.{Command}
use Rattle.b1_model.specs.declared.naming.Opening.{Opening}
use Rattle.b1_model.specs.declared.events.Doing.{Doing}
use Rattle.b1_model.specs.declared.events.Phase.{Phase}
use Rattle.b1_model.specs.declared.events.Phase.TheVariants.{Starting}
use Rattle.b1_model.specs.MachineParts.{PeerPart, DriverPart, State, is_dying, node_at}
use Rattle.b1_model.specs.MachineDriver.{turn}
use Rattle.b1_model.specs.MachineEvents.{doomed_of}
use Rattle.b1_model.specs.MachineStep.{Step, opening_state}
use Rattle.b1_step.specs.Rights.{Has}
use Rattle.b1_inv.specs.Words.{IsPeer, IsDriver}
use Rattle.b1_inv.specs.Notices.{is_unstamped, dying_of, dying_now}
use Rattle.b1_inv.specs.Sound.{IsSound}
use Rattle.b1_inv_record.specs.Dooming.{DoomsItsNodes}
use Rattle.b1_inv_tools.proofs.Leaves.{driver_cases, peer_cases}
use Rattle.b1_inv_tools.proofs.Openings.{opening_idle}
use Rattle.b1_inv_notices.proofs.Turns.{OnTurn, took_leaves, parts, going, going_doing, going_action, going_answer}
use Rattle.b1_inv_names.proofs.Begun.{away_kind}
use Rattle.b1_inv_doomed.proofs.Turned.{is_starting}
use Rattle.b1_inv_doomed.proofs.Doomed.{DoomsThese, Dooms, elsewhere_these, own_event, away_event}

these_of : {s : State} → DoomsItsNodes s → (p : ℕ) (d : DriverPart) (x : PeerPart) (doing : Doing) → IsDriver s p d → IsPeer s p x → d.doing ≡ Some doing → is_unstamped doing.phase ≡ true → DoomsThese x.nodes doing.command (doomed_of doing.phase)
these_of before p d x doing is_driver is_peer open_is un = record {
  named = λ numbers is. before.named p numbers d x doing is_driver is_peer open_is is un;
  flushed = λ is. before.flushed p d x doing is_driver is_peer open_is is un;
}

starting_is : (phase : Phase) → is_starting phase ≡ true → phase ≡ Starting
starting_is Starting is = refl
starting_is phase is = absurd (cc is)

module _ {o : Opening} {s : State} {p : ℕ} {c : Option Command} {t : State} (sound : IsSound o s) (before : DoomsItsNodes s) (step : Step o s p c t) where
  me_is : step.driver.me ≡ p
  me_is = sound.numbered.drivers p step.driver step.is_driver

  -- no node is dying where a command begins
  none_dying : is_starting (parts step).phase ≡ true → dying_now step.driver ≡ []
  none_dying is = elim (parts step).was [
    | inl open_is ↦ ap (λ z. elim z [ None ↦ [] | Some doing ↦ dying_of doing.phase ]) open_is ∙ ap dying_of (starting_is (parts step).phase is)
    | inr new ↦ ap (λ z. elim z [ None ↦ [] | Some doing ↦ dying_of doing.phase ]) new.0
  ]

  not_dying : (x : PeerPart) → IsPeer s p x → is_starting (parts step).phase ≡ true → (i : ℕ) → is_dying (node_at x i).state ≡ false
  not_dying x is_peer is i = by (is_dying (node_at x i).state) refl
    where
      by : (b : Bool) → is_dying (node_at x i).state ≡ b → b ≡ false
      by false is_not = refl
      by true dying = absurd (subst (λ l. Has l i) (none_dying is) (sound.notices.dying p step.driver x i step.is_driver is_peer dying))

  these_before : (x : PeerPart) → IsPeer s p x → is_unstamped (parts step).phase ≡ true → DoomsThese x.nodes (parts step).command (doomed_of (parts step).phase)
  these_before x is un = elim (parts step).was [
    | inl open_is ↦ these_of before p step.driver x (going_doing step) step.is_driver is open_is un
    | inr new ↦ let both : true ≡ false = sym un ∙ ap is_unstamped new.1 in absurd (cc both)
  ]

  took_dooms : (y : PeerPart) → OnTurn (parts step).command (Dooms y.nodes) (turn step.driver.me (parts step).command (parts step).phase (going_answer step)) → Dooms y.nodes step.new_driver.doing
  took_dooms y h = subst (λ e. Dooms y.nodes e.doing) (parts step).is_driver (took_leaves (Dooms y.nodes) (parts step).command (λ phase may k. tt) step.driver (parts step).phase step.driver.owed (going_answer step) h)

  own_after : (y : PeerPart) → IsPeer t p y → Dooms y.nodes step.new_driver.doing
  own_after y is = elim (peer_cases step p y is) [
    | inl at_it ↦
        let here = subst (λ r. IsPeer s r step.peer) (sym at_it.0) step.is_peer in
        took_dooms y
        (subst (λ z. OnTurn (parts step).command (Dooms z.nodes) (turn step.driver.me (parts step).command (parts step).phase (going_answer step))) ((parts step).is_peer ∙ sym at_it.1)
        (own_event o step.local.memory step.driver step.peer (parts step).command (parts step).phase step.driver.owed (not_dying step.peer here) (these_before step.peer here)))
    | inr away ↦
        took_dooms y
        (away_event o step.local.memory step.driver step.peer (parts step).command y.nodes (parts step).phase step.driver.owed (λ same. away.0 (sym me_is ∙ sym same ∙ (parts step).is_at)) (these_before y away.1))
  ]

  other_after : (r : ℕ) (d : DriverPart) (y : PeerPart) (doing : Doing) → r ≢ p → IsDriver s r d → IsPeer t r y → d.doing ≡ Some doing → is_unstamped doing.phase ≡ true → DoomsThese y.nodes doing.command (doomed_of doing.phase)
  other_after r d y doing apart is_driver is open_is un = elim (peer_cases step r y is) [
    | inl at_it ↦
        subst (λ z. DoomsThese z.nodes doing.command (doomed_of doing.phase)) ((parts step).is_peer ∙ sym at_it.1)
        (elsewhere_these o step.local.memory step.driver step.peer (going step) (going_doing step) (going_action step) doing.command (doomed_of doing.phase) (away_kind step.driver.me (going_action step) (λ same. apart (at_it.0 ∙ sym (parts step).is_at ∙ same ∙ me_is)))
        (these_of before r d step.peer doing is_driver (subst (λ q. IsPeer s q step.peer) (sym at_it.0) step.is_peer) open_is un))
    | inr away ↦ these_of before r d y doing is_driver away.1 open_is un
  ]

  these_after : (r : ℕ) (d : DriverPart) (y : PeerPart) (doing : Doing) → IsDriver t r d → IsPeer t r y → d.doing ≡ Some doing → is_unstamped doing.phase ≡ true → DoomsThese y.nodes doing.command (doomed_of doing.phase)
  these_after r d y doing is_driver is open_is un = elim (driver_cases step r d is_driver) [
    | inl own ↦ subst (Dooms y.nodes) (sym (ap (λ e. e.doing) own.1) ∙ open_is) (own_after y (subst (λ q. IsPeer t q y) own.0 is)) un
    | inr other ↦ other_after r d y doing other.0 other.1 is open_is un
  ]

  pub dooms_kept : DoomsItsNodes t
  dooms_kept = record {
    named = λ r numbers d y doing is_driver is open_is same un. (these_after r d y doing is_driver is open_is un).named numbers same;
    flushed = λ r d y doing is_driver is open_is flushing un. (these_after r d y doing is_driver is open_is un).flushed flushing;
  }

pub dooms_begin : (o : Opening) → DoomsItsNodes (opening_state o)
dooms_begin o = record {
  named = λ r numbers d x doing is_driver is open_is same un. absurd (none r d doing is_driver open_is);
  flushed = λ r d x doing is_driver is open_is flushing un. absurd (none r d doing is_driver open_is);
}
  where
    none : (r : ℕ) (d : DriverPart) (doing : Doing) → IsDriver (opening_state o) r d → d.doing ≡ Some doing → ⊥
    none r d doing is_driver open_is = let both : None ≡ Some doing = sym (ap (λ e. e.doing) (opening_idle o r d is_driver)) ∙ open_is in absurd (cc both)
