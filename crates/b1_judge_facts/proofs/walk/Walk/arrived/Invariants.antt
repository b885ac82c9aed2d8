-- The handles so far, and then those of the nodes that are left, are all of them.
use Rattle.std.proofs.Common.{◌≡◌, ◌++◌, drop}
use Rattle.b1_model.specs.Names.{made}
use Rattle.b1_model.specs.Ledger.{table, is_late}
use Rattle.b1_model.specs.Legal.{arrived}
use Rattle.b1_judge_facts.specs.Steps.{beside}
use Rattle.b1_judge_facts.proofs.walk.Walk.arrived.Given as goal

abbrev pub invariant-loop-node : goal.invariant-loop-node
invariant-loop-node l =
    l.numbers.items ++ arrived (λ x. is_late l.self.wires l.self.rec x l.key) l.self.peer (made l.self.wires l.self.rec l.self.peer l.self.call) (drop l.node-index l.carried) (beside (table l.self.wires l.self.rec l.self.peer l.self.call) l.made)
    ≡ arrived (λ x. is_late l.self.wires l.self.rec x l.key) l.self.peer (made l.self.wires l.self.rec l.self.peer l.self.call) l.carried (table l.self.wires l.self.rec l.self.peer l.self.call)
