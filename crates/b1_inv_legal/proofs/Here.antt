-- A step at the driver's own peer, of a command that was open before it.
use Rattle.std.proofs.Common.{◌≡◌, sym, ap, subst, ◌∙◌, inl, inr, ℕ, [], Option, Some}
use Rattle.b1_model.specs.declared.commands.Command.{Command}
use Rattle.b1_model.specs.declared.naming.Opening.{Opening}
use Rattle.b1_model.specs.declared.events.Phase.{Phase}
use Rattle.b1_model.specs.declared.events.Phase.TheVariants.{Starting}
use Rattle.b1_model.specs.MachineParts.{State}
use Rattle.b1_model.specs.MachineDriver.{next_action, peer_of}
use Rattle.b1_model.specs.MachineStep.{Step}
use Rattle.b1_inv.specs.Words.{IsPeer}
use Rattle.b1_inv.specs.Sound.{IsSound}
use Rattle.b1_inv_notices.proofs.Turns.{doing_in, opened, parts}

module _ {o : Opening} {s : State} {p : ℕ} {c : Option Command} {t : State} (sound : IsSound o s) (step : Step o s p c t) where
  -- the driver's part has the driver's number
  pub me_is : step.driver.me ≡ p
  me_is = sound.numbered.drivers p step.driver step.is_driver

  -- a command in another phase than its first was open
  pub was_open : (phase : Phase) → (parts step).phase ≡ phase → (phase ≡ Starting → ⊥) → step.driver.doing ≡ Some (doing_in (parts step).command phase)
  was_open phase is later = elim (parts step).was [
    | inl open_is ↦ open_is ∙ ap (λ z. Some (doing_in (parts step).command z)) is
    | inr new ↦ absurd (later (sym is ∙ new.1))
  ]

  -- the event is at its own peer where the phase's event is
  pub at_own : (phase : Phase) → (parts step).phase ≡ phase → step.driver.owed ≡ [] → peer_of step.driver.me (next_action (opened step.driver (parts step).command phase [])) ≡ step.driver.me → IsPeer s p step.peer
  at_own phase is none own =
      let at : step.at ≡ p =
      sym (parts step).is_at
      ∙ ap (λ z. peer_of step.driver.me (next_action (opened step.driver (parts step).command z step.driver.owed))) is
      ∙ ap (λ w. peer_of step.driver.me (next_action (opened step.driver (parts step).command phase w))) none
      ∙ own ∙ me_is in
      subst (λ q. IsPeer s q step.peer) at step.is_peer
