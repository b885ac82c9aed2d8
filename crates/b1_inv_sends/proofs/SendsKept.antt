-- Open SENDs keep the shape of their phase through each step.
use Rattle.std.proofs.Common.{◌≡◌, ◌≢◌, ◌⊎◌, refl, sym, ap, ◌∙◌, inl, inr, subst, ℕ, List, [], ◌∷◌, Option, Some, None}
use Rattle.b1_model.specs.declared.naming.Opening.{Opening}
use Rattle.b1_model.specs.declared.commands.Command.{Command}
use Rattle.b1_model.specs.declared.events.Action.{Action}
use Rattle.b1_model.specs.declared.events.Doing.{Doing}
use Rattle.b1_model.specs.declared.events.OwedDrop.{OwedDrop}
use Rattle.b1_model.specs.declared.events.Phase.TheVariants.{Starting}
use Rattle.b1_model.specs.MachineParts.{DriverPart, HandleRecord, State}
use Rattle.b1_model.specs.MachineDriver.{phase_action, peer_of, turn}
use Rattle.b1_model.specs.MachineTook.{with_facts}
use Rattle.b1_model.specs.MachineEvents.{happens}
use Rattle.b1_model.specs.MachineStep.{Step, opening_state}
use Rattle.b1_step.specs.Rights.{Has}
use Rattle.b1_inv.specs.Words.{IsPeer, IsDriver, IsMade, phase_of}
use Rattle.b1_inv.specs.Sends.{SendShape, SendsRight}
use Rattle.b1_inv.specs.References.{ReferencesRight}
use Rattle.b1_inv.specs.Sound.{IsSound}
use Rattle.b1_inv_tools.proofs.Leaves.{Did, step_did, driver_cases, new_peer, turned_open}
use Rattle.b1_inv_tools.proofs.Grows.{made_stays}
use Rattle.b1_inv_tools.proofs.Openings.{opening_idle}
use Rattle.b1_inv_sends.proofs.Shapes.{TurnRight, shape_stays, event_right, drop_right, start_right}
use Rattle.b1_inv_tools.proofs.Facts.{next_of, next_owed}

-- when a bus begins no command is open
pub opening_sends : (o : Opening) → SendsRight (opening_state o)
opening_sends o = record { shape = λ p d doing is_driver is_open. let idle = ap (λ e. e.doing) (opening_idle o p d is_driver) in absurd (cc (sym idle ∙ is_open)) }

-- a driver without an open command owes nothing
pub nothing_owed : (s : State) (p : ℕ) (d : DriverPart) → ReferencesRight s → IsDriver s p d → d.doing ≡ None → d.owed ≡ []
nothing_owed s p d right is_driver rests =
    elim (right.owing p d is_driver) [
      | inl none ↦ none
      | inr (phase, is, owes) ↦ let none : phase_of d ≡ None = rw rests refl in absurd (cc (sym none ∙ is))
    ]

module _ {o : Opening} {s : State} {p : ℕ} {command : Option Command} {t : State} (sound : IsSound o s) (step : Step o s p command t) where
  k : Did o step.local.memory step.driver command step.peer step.action step.at step.new_driver step.new_peer
  k = step_did step

  -- the peer's own number is where the event is
  pub number_at : step.peer.me ≡ step.at
  number_at = (sound.numbered.peers step.at step.peer step.is_peer).me

  own : (action : Action) → step.action ≡ action → step.peer.me ≡ peer_of k.e.me action
  own action is = number_at ∙ k.is_at ∙ ap (peer_of k.e.me) is

  -- every record of the peer is of a node that is made after the step
  records_made : (h : HandleRecord) → Has step.peer.handles h → IsMade t h.node
  records_made h has = made_stays step h.node (sound.flights.made step.at step.peer h step.is_peer has)

  is_peer : (action : Action) → step.action ≡ action → IsPeer t step.peer.me (happens o step.local.memory k.e k.doing action step.peer).1
  is_peer action is =
      subst (λ q. IsPeer t q (happens o step.local.memory k.e k.doing action step.peer).1) (sym number_at)
      (subst (λ a. IsPeer t step.at (happens o step.local.memory k.e k.doing a step.peer).1) is
      (subst (IsPeer t step.at) k.peer (new_peer step)))

  -- by what is next
  to_turn : (action : Action) → step.action ≡ action → TurnRight t k.doing.command (turn k.e.me k.doing.command k.doing.phase (happens o step.local.memory k.e k.doing action step.peer).0)
      → TurnRight t k.doing.command (turn k.e.me k.doing.command k.doing.phase (happens o step.local.memory k.e k.doing step.action step.peer).0)
  to_turn action is right = subst (λ a. TurnRight t k.doing.command (turn k.e.me k.doing.command k.doing.phase (happens o step.local.memory k.e k.doing a step.peer).0)) (sym is) right

  next_event : k.e.owed ≡ [] → step.action ≡ phase_action k.e.me k.e.shut k.doing.command k.doing.phase
  next_event none = k.is_action ∙ next_of k.e k.doing k.opened.is_open none

  open_turn : SendShape t k.doing.command k.doing.phase → (owed : List OwedDrop) → k.e.owed ≡ owed → TurnRight t k.doing.command (turn k.e.me k.doing.command k.doing.phase (happens o step.local.memory k.e k.doing step.action step.peer).0)
  open_turn shape [] none = to_turn (phase_action k.e.me k.e.shut k.doing.command k.doing.phase) (next_event none) (event_right t k.doing.command o step.local.memory k.e k.doing step.peer k.doing.phase shape (own (phase_action k.e.me k.e.shut k.doing.command k.doing.phase) (next_event none)))
  open_turn shape (one ∷ rest) owed = to_turn _ (k.is_action ∙ next_owed k.e k.doing one rest k.opened.is_open owed) (drop_right t k.doing.command k.e.me k.doing.phase shape)

  begun_turn : k.doing.phase ≡ Starting → k.e.owed ≡ [] → TurnRight t k.doing.command (turn k.e.me k.doing.command k.doing.phase (happens o step.local.memory k.e k.doing step.action step.peer).0)
  begun_turn starts none = to_turn (phase_action k.e.me k.e.shut k.doing.command k.doing.phase) (next_event none) (start_right t o step.local.memory k.e k.doing step.peer starts (is_peer (phase_action k.e.me k.e.shut k.doing.command k.doing.phase) (next_event none)) records_made)

  -- the phase that the step led to has its shape
  turn_right : TurnRight t k.doing.command (turn k.e.me k.doing.command k.doing.phase (happens o step.local.memory k.e k.doing step.action step.peer).0)
  turn_right = elim k.opened.from [
    | inl before ↦ open_turn (shape_stays s t k.doing.command (made_stays step) k.doing.phase (sound.sends.shape p step.driver k.doing step.is_driver before)) k.e.owed refl
    | inr (rests, begins, starts) ↦ begun_turn starts (k.opened.owed ∙ nothing_owed s p step.driver sound.references step.is_driver rests)
  ]

  new_shape : (doing : Doing) → step.new_driver.doing ≡ Some doing → SendShape t doing.command doing.phase
  new_shape doing is_open =
      let left = turned_open (with_facts k.e k.doing (happens o step.local.memory k.e k.doing step.action step.peer).0) k.doing.command (turn k.e.me k.doing.command k.doing.phase (happens o step.local.memory k.e k.doing step.action step.peer).0) doing (sym (ap (λ d. d.doing) k.driver) ∙ is_open) in
      subst (λ c. SendShape t c doing.phase) (sym left.0) (subst (TurnRight t k.doing.command) left.1 turn_right)

  shape_of : (r : ℕ) (d : DriverPart) (doing : Doing) → ((r ≡ p) × (d ≡ step.new_driver)) ⊎ ((r ≢ p) × IsDriver s r d) → d.doing ≡ Some doing → SendShape t doing.command doing.phase
  shape_of r d doing (inl here) is_open = new_shape doing (sym (ap (λ e. e.doing) here.1) ∙ is_open)
  shape_of r d doing (inr other) is_open = shape_stays s t doing.command (made_stays step) doing.phase (sound.sends.shape r d doing other.1 is_open)

  pub sends_kept : SendsRight t
  sends_kept = record { shape = λ r d doing is_driver is_open. shape_of r d doing (driver_cases step r d is_driver) is_open }
