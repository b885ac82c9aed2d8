use Rattle.std.proofs.Common.{ap, ◌∙◌}
use Rattle.b1_model.specs.Names.{made}
use Rattle.b1_model.specs.Ledger.{Table, table, is_late}
use Rattle.b1_judge_facts.specs.declared.standing.Standing.{Standing}
use Rattle.b1_judge_facts.specs.Facts.{Place}
use Rattle.b1_judge_facts.specs.Steps.{received_beside}
use Rattle.b1_judge_facts.proofs.Beside.{arrived_next}
use Rattle.b1_judge_facts.proofs.walk.Walk.arrived.Goals as goal

pub loop-node-preserved : goal.loop-node-preserved
loop-node-preserved c =
    arrived_next (λ x. is_late c.args.self.now.wires c.args.self.now.rec x c.args.key.now) c.args.self.now.peer (made c.args.self.now.wires c.args.self.now.rec c.args.self.now.peer c.args.self.now.call)
    c.args.carried.now c.loop-node.node-index c.node-item.result c.loop-node.numbers.items c.push.new.self.items _ c.arrives-number.result (table c.args.self.now.wires c.args.self.now.rec c.args.self.now.peer c.args.self.now.call) c.loop-node.made c.receive_beside.new.made
    c.loop-node-test.true c.node-item.is c.loop-node.invariant c.arrives-number.ensures (c.in_ok-receive_beside.ensures ∙ ap (λ (t : Table). received_beside c.arrives-number.result c.node-item.result t c.loop-node.made) (ap (λ (s : Standing). s.table) c.self.invariant ∙ ap (λ (w : Place). table w.wires w.rec w.peer w.call) c.self.view_is)) c.in_ok-push.ensures.items
