use Rattle.b1_nodes.proofs.CountLemmas.{seen-kept}
use Rattle.b1_nodes.proofs.node.Node.doom.Goals as goal

pub invariant_of-self : goal.invariant_of-self
invariant_of-self c = record {
  few = c.self.invariant.few;
  full = λ kept. c.self.invariant.full (seen-kept c.self.inside.number c.self.inside.peers c.self.inside.state c.self.inside.counts.items c.self.inside.taken c.args.self.now c.self.view_is c.requires);
}
