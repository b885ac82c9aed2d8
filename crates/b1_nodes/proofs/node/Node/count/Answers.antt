use Rattle.std.proofs.Common.{ℕ, List, get_or, ap, ◌∙◌}
use Rattle.b1_nodes.proofs.CountLemmas.{seen-count}
use Rattle.b1_nodes.proofs.node.Node.count.Goals as goal

pub returns : goal.returns
returns c =
    c.count_in.ensures ∙ ap (λ (xs : List ℕ). get_or xs c.args.peer 0) c.deref.ensures.value
    ∙ seen-count c.self.inside.number c.self.inside.peers c.self.inside.state c.self.inside.counts.items c.self.inside.taken c.args.self.now c.self.view_is c.args.peer
