use Rattle.std.proofs.Common.{◌≡◌, length}
use Rattle.b1_model.specs.MachineDestroy.{has_repeat}
use Rattle.b1_port_memory.proofs.forms.has_repeat.Given as goal

abbrev pub invariant-loop-left : goal.invariant-loop-left
invariant-loop-left l = has_repeat l.left ≡ has_repeat l.numbers

abbrev pub decreases-loop-left : goal.decreases-loop-left
decreases-loop-left l = length l.left
