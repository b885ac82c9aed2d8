-- All the steps of a whole command of one driver, while no other driver steps, as a relation.
use Rattle.std.proofs.Common.{◌≡◌, ℕ, zero, suc, None, Some}
use Rattle.b1_model.specs.declared.naming.Opening.{Opening}
use Rattle.b1_model.specs.declared.commands.Command.{Command}
use Rattle.b1_model.specs.MachineParts.{DriverPart, State}
use Rattle.b1_model.specs.MachineStep.{Step}
use Rattle.b1_inv.specs.Words.{IsDriver}

-- driver p does so many further steps of its open command
abbrev pub GoesOn : Opening → ℕ → ℕ → State → State → Type 0
GoesOn o p zero s t = s ≡ t
GoesOn o p (suc n) s t = (m : State) × Step o s p None m × GoesOn o p n m t

-- a command of driver p, from the step that begins it to its end
pub record Whole (o : Opening) (s : State) (p : ℕ) (command : Command) (t : State) : Type 0 where
  -- the state behind the first step
  pub first : State
  pub begins : Step o s p (Some command) first
  -- how many steps follow
  pub further : ℕ
  pub goes_on : GoesOn o p further first t
  -- the command isn't open any more
  pub ends : (d : DriverPart) → IsDriver t p d → d.doing ≡ None
