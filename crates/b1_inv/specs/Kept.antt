-- That a fact of states holds where a bus begins, and that steps keep it.
use Rattle.std.specs.Prelude.{ℕ, Option}
use Rattle.b1_model.specs.declared.naming.Opening.{Opening}
use Rattle.b1_model.specs.declared.commands.Command.{Command}
use Rattle.b1_model.specs.Opening.{IsOpening}
use Rattle.b1_model.specs.MachineParts.{State}
use Rattle.b1_model.specs.MachineStep.{Step, opening_state}
use Rattle.b1_inv.specs.Sound.{IsSound}

-- every bus begins so
abbrev pub BeginsWith : (Opening → State → Type 0) → Type 0
BeginsWith Right = (o : Opening) → IsOpening o → Right o (opening_state o)

-- every step from a state of which all groups hold leads to a state that is so
abbrev pub KeptBySteps : (Opening → State → Type 0) → Type 0
KeptBySteps Right = (o : Opening) (s : State) (p : ℕ) (c : Option Command) (t : State) → IsSound o s → Step o s p c t → Right o t
