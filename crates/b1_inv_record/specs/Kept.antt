-- What laws say of an invariant that needs all others for it to be kept.
use Rattle.std.specs.Prelude.{ℕ, Option}
use Rattle.b1_model.specs.declared.naming.Opening.{Opening}
use Rattle.b1_model.specs.declared.commands.Command.{Command}
use Rattle.b1_model.specs.MachineParts.{State}
use Rattle.b1_model.specs.MachineStep.{Step}
use Rattle.b1_inv.specs.Sound.{IsSound}
use Rattle.b1_inv_record.specs.Right.{IsRight}

-- every step from a sound and right state leads to a state that is so
abbrev pub KeptFromRight : (Opening → State → Type 0) → Type 0
KeptFromRight Right = (o : Opening) (s : State) (p : ℕ) (c : Option Command) (t : State) → IsSound o s → IsRight o s → Step o s p c t → Right o t
