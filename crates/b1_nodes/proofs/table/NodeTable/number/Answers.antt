use Rattle.std.proofs.Common.{ap, ◌∙◌, ◌<◌, length, arith}
use Rattle.b1_nodes.specs.Nodes.{Nodes, node_in}
use Rattle.b1_nodes.proofs.NodeLemmas.{serial_found}
use Rattle.b1_nodes.proofs.table.NodeTable.number.Goals as goal

pub returns-clause-found : goal.returns-clause-found
returns-clause-found c =
    let within : c.args.serial < length c.self.inside.nodes.items = omega (arith, c.requires, ap (λ (t : Nodes). length t.nodes) c.self.view_is) in
    rw (← c.self.view_is)
    (serial_found c.self.inside.peers c.self.inside.nodes.items c.args.serial c.number.result c.self.invariant.nodes within
    (c.number.ensures ∙ ap (λ n. n.number) c.node_at.ensures ∙ ap (λ ns. (node_in ns c.args.serial).number) c.deref.ensures.value))
