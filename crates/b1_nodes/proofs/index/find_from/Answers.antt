use Rattle.std.proofs.Common.{ap, sym, ◌∙◌}
use Rattle.b1_model.specs.MachineParts.{NodePart}
use Rattle.b1_nodes.proofs.IndexLemmas.{serial_here, next_behind}
use Rattle.b1_nodes.proofs.index.find_from.Goals as goal

pub returns-then-number : goal.returns-then-number
returns-then-number c =
    sym (serial_here c.args.nodes.now c.args.number c.loop-serial.serial c.loop-serial-test.true c.loop-serial.invariant (ap (λ (n : NodePart). n.number) (sym c.node_at.ensures) ∙ sym c.number.ensures ∙ c.if-number.true))

pub loop-serial-preserved : goal.loop-serial-preserved
loop-serial-preserved c =
    next_behind c.args.nodes.now c.args.number c.loop-serial.serial c.loop-serial-test.true c.loop-serial.invariant (λ same. c.if-number.false (c.number.ensures ∙ ap (λ (n : NodePart). n.number) c.node_at.ensures ∙ same))
