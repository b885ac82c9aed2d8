use Rattle.std.proofs.Common.{ℕ, ◌-◌, ◌∙◌, arith}
use Rattle.std.proofs.lemmas.List.{length-set}
use Rattle.b1_nodes.proofs.CountLemmas.{seen-count, seen-set, count_within}
use Rattle.b1_nodes.proofs.node.Node.lower_count.Goals as goal

pub lower_in-requires-clause-within : goal.lower_in-requires-clause-within
lower_in-requires-clause-within c =
    count_within c.self.inside.counts.items c.args.peer (omega (arith, seen-count c.self.inside.number c.self.inside.peers c.self.inside.state c.self.inside.counts.items c.self.inside.taken c.args.self.now c.self.view_is c.args.peer, c.requires.some, c.requires.enough))

pub lower_in-requires-clause-enough : goal.lower_in-requires-clause-enough
lower_in-requires-clause-enough c = omega (arith, seen-count c.self.inside.number c.self.inside.peers c.self.inside.state c.self.inside.counts.items c.self.inside.taken c.args.self.now c.self.view_is c.args.peer, c.requires.enough)

pub invariant_of-self : goal.invariant_of-self
invariant_of-self c =
    rw c.lower_in.ensures (record {
      few = omega (arith, length-set {A = ℕ}, c.self.invariant.few);
      full = λ kept. length-set _ _ _ ∙ c.self.invariant.full kept;
    })

pub returns : goal.returns
returns c =
    rw c.lower_in.ensures
    (seen-set c.self.inside.number c.self.inside.peers c.self.inside.state c.self.inside.counts.items c.self.inside.taken c.args.self.now c.self.view_is c.args.peer (λ k. k - c.args.k)
    (count_within c.self.inside.counts.items c.args.peer (omega (arith, seen-count c.self.inside.number c.self.inside.peers c.self.inside.state c.self.inside.counts.items c.self.inside.taken c.args.self.now c.self.view_is c.args.peer, c.requires.some, c.requires.enough))))
