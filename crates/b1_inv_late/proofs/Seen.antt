-- The two parts that a step is found on, with the answer that its event tells.
use Rattle.std.proofs.Common.{◌≡◌, ◌⊎◌, refl, sym, ap, ◌∙◌, inl, inr, ℕ, Option, Some, None, option_map}
use Rattle.std.proofs.lemmas.Option.{same_Some}
use Rattle.b1_model.specs.declared.commands.Command.{Command}
use Rattle.b1_model.specs.declared.naming.Opening.{Opening}
use Rattle.b1_model.specs.declared.events.Phase.{Phase}
use Rattle.b1_model.specs.declared.events.Phase.TheVariants.{Starting}
use Rattle.b1_model.specs.declared.events.Doing.{Doing}
use Rattle.b1_model.specs.declared.events.Outcome.{Outcome}
use Rattle.b1_model.specs.MachineParts.{State}
use Rattle.b1_model.specs.MachineDriver.{next_action, peer_of}
use Rattle.b1_model.specs.MachineTook.{took}
use Rattle.b1_model.specs.MachineStep.{Step, begun_by, aimed, effect_by}
use Rattle.b1_model.specs.MachineOrder.{answer_at, event_of}
use Rattle.b1_inv_notices.proofs.Turns.{doing_in, opened, answered}

-- the command of a step's driver with its phase, what the event makes of the two parts, and what it tells
pub record Seen {o : Opening} {s : State} {p : ℕ} {c : Option Command} {t : State} (step : Step o s p c t) : Type 0 where
  pub command : Command
  pub phase : Phase
  pub was : (step.driver.doing ≡ Some (doing_in command phase)) ⊎ ((step.driver.doing ≡ None) × (phase ≡ Starting))
  pub is_at : peer_of step.driver.me (next_action (opened step.driver command phase step.driver.owed)) ≡ step.at
  pub is_driver : took (opened step.driver command phase step.driver.owed) (answered o step.local.memory step.driver command phase step.driver.owed step.peer).0 ≡ step.new_driver
  pub is_peer : (answered o step.local.memory step.driver command phase step.driver.owed step.peer).1 ≡ step.new_peer
  pub tells : (event_of step).outcome ≡ (answered o step.local.memory step.driver command phase step.driver.owed step.peer).0

module _ {o : Opening} {s : State} {p : ℕ} {c : Option Command} {t : State} (step : Step o s p c t) where
  seen_of : (command : Command) (phase : Phase) → (step.driver.doing ≡ Some (doing_in command phase)) ⊎ ((step.driver.doing ≡ None) × (phase ≡ Starting))
      → aimed (opened step.driver command phase step.driver.owed) ≡ (step.action, step.at)
      → effect_by o step.local.memory step.driver (Some (opened step.driver command phase step.driver.owed)) step.peer ≡ (step.new_driver, step.new_peer)
      → (event_of step).outcome ≡ answer_at o step.local.memory (Some (opened step.driver command phase step.driver.owed)) step.peer → Seen step
  seen_of command phase was aim after tells = record {
    command = command;
    phase = phase;
    was = was;
    is_at = ap (λ z. z.1) aim;
    is_driver = ap (λ z. z.0) after;
    is_peer = ap (λ z. z.1) after;
    tells = tells;
  }

  -- a part with an open command is the part with it in place
  same_opened : (doing : Doing) → step.driver.doing ≡ Some doing → step.driver ≡ opened step.driver doing.command doing.phase step.driver.owed
  same_opened doing is = λ i. record step.driver { doing = is i }

  seen_by : (open_now : Option Doing) (begins : Option Command) → step.driver.doing ≡ open_now
      → option_map aimed (begun_by step.driver open_now begins) ≡ Some (step.action, step.at)
      → effect_by o step.local.memory step.driver (begun_by step.driver open_now begins) step.peer ≡ (step.new_driver, step.new_peer)
      → (event_of step).outcome ≡ answer_at o step.local.memory (begun_by step.driver open_now begins) step.peer → Seen step
  seen_by None None is aim after tells = absurd (cc aim)
  seen_by None (Some command) is aim after tells = seen_of command Starting (inr (is, refl)) (same_Some _ _ aim) after tells
  seen_by (Some doing) None is aim after tells =
      let same = same_opened doing is in
      seen_of doing.command doing.phase (inl is) (ap aimed (sym same) ∙ same_Some _ _ aim) (ap (λ e. effect_by o step.local.memory step.driver (Some e) step.peer) (sym same) ∙ after)
      (tells ∙ ap (λ e. answer_at o step.local.memory (Some e) step.peer) same)
  seen_by (Some doing) (Some command) is aim after tells = absurd (cc aim)

  pub seen : Seen step
  seen = seen_by step.driver.doing c refl step.is_target step.local.after refl

-- ---- words on a step

module _ {o : Opening} {s : State} {p : ℕ} {c : Option Command} {t : State} (step : Step o s p c t) where
  -- what the event of a step answers
  abbrev pub told : Outcome
  told = (answered o step.local.memory step.driver (seen step).command (seen step).phase step.driver.owed step.peer).0
