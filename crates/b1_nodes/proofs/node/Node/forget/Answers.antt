use Rattle.b1_nodes.proofs.CountLemmas.{seen-forgotten}
use Rattle.b1_nodes.proofs.node.Node.forget.Goals as goal

pub returns : goal.returns
returns c = seen-forgotten c.self.inside.number c.self.inside.peers c.self.inside.state c.self.inside.counts.items c.self.inside.taken c.args.self.now c.self.view_is c.new.result.items c.new.ensures.items c.self.invariant.few c.requires.unheld
