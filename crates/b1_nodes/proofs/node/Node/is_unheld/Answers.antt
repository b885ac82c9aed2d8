use Rattle.std.proofs.Common.{ℕ, List, ◌==◌, ap, ◌∙◌}
use Rattle.std.specs.List.{list_all}
use Rattle.b1_nodes.proofs.CountLemmas.{seen-unheld}
use Rattle.b1_nodes.proofs.node.Node.is_unheld.Goals as goal

pub returns : goal.returns
returns c =
    c.are_zero.ensures ∙ ap (λ (xs : List ℕ). list_all (λ k. k == 0) xs) c.deref.ensures.value
    ∙ seen-unheld c.self.inside.number c.self.inside.peers c.self.inside.state c.self.inside.counts.items c.self.inside.taken c.args.self.now c.self.view_is
