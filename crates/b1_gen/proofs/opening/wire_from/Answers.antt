use Rattle.std.proofs.Common.{◌≡◌, ◌==◌, not, true, false, arith, ap, ◌∙◌}
use Rattle.std.proofs.lemmas.Grind.{common_steps}
use Rattle.b1_gen.specs.Generated.{node_wire}
use Rattle.b1_gen.proofs.Rising.{push-chosen, keep-chosen}
use Rattle.b1_gen.proofs.opening.wire_from.Goals as goal
use Rattle.b1_gen.proofs.opening.wire_from.Goals.{then-to-from+in_ok-push, else-to-from}

pub loop-to-preserved : goal.loop-to-preserved
loop-to-preserved c = elim c.if-to-from.branch [
  | then-to-from+in_ok-push w ↦
      let passes : not (c.loop-to.to == c.args.from) ≡ true = grind (arith, common_steps) in
      push-chosen (node_wire c.args.from) (λ q. not (q == c.args.from)) c.loop-to.to c.args.wires.now.items _ _ c.loop-to.invariant (ap (λ v. v.items) w.wires-is ∙ w.in_ok-push.ensures.items) passes
  | else-to-from w ↦
      let fails : not (c.loop-to.to == c.args.from) ≡ false = grind (arith, common_steps) in
      keep-chosen (node_wire c.args.from) (λ q. not (q == c.args.from)) c.loop-to.to c.args.wires.now.items _ _ c.loop-to.invariant (ap (λ v. v.items) w.wires-is) fails
]
