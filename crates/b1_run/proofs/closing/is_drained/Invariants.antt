use Rattle.b1_rule.specs.Rule.{state_of}
use Rattle.b1_run.specs.Standing.{EmptyBelow}
use Rattle.b1_run.proofs.closing.is_drained.Given as goal

abbrev pub invariant-loop-p : goal.invariant-loop-p
invariant-loop-p l = EmptyBelow (state_of l.closed.peers l.closed.drivers) l.p
