use Rattle.std.proofs.Common.{ℕ, ◌+◌, ◌∙◌, arith}
use Rattle.std.proofs.lemmas.List.{length-set}
use Rattle.b1_nodes.proofs.CountLemmas.{seen-kept, seen-peer, seen-count, seen-set}
use Rattle.b1_nodes.proofs.node.Node.raise.Goals as goal

pub raise_in-requires-clause-within : goal.raise_in-requires-clause-within
raise_in-requires-clause-within c =
    omega (arith, c.self.invariant.full (seen-kept c.self.inside.number c.self.inside.peers c.self.inside.state c.self.inside.counts.items c.self.inside.taken c.args.self.now c.self.view_is c.requires.kept), seen-peer c.self.inside.number c.self.inside.peers c.self.inside.state c.self.inside.counts.items c.self.inside.taken c.args.self.now c.self.view_is c.args.peer c.self.invariant.few c.requires.peer)

pub raise_in-requires-clause-fits : goal.raise_in-requires-clause-fits
raise_in-requires-clause-fits c = omega (arith, seen-count c.self.inside.number c.self.inside.peers c.self.inside.state c.self.inside.counts.items c.self.inside.taken c.args.self.now c.self.view_is c.args.peer, c.requires.fits)

pub invariant_of-self : goal.invariant_of-self
invariant_of-self c =
    rw c.raise_in.ensures (record {
      few = omega (arith, length-set {A = ℕ}, c.self.invariant.few);
      full = λ kept. length-set _ _ _ ∙ c.self.invariant.full kept;
    })

pub returns : goal.returns
returns c =
    rw c.raise_in.ensures
    (seen-set c.self.inside.number c.self.inside.peers c.self.inside.state c.self.inside.counts.items c.self.inside.taken c.args.self.now c.self.view_is c.args.peer (λ k. k + 1)
    (omega (arith, c.self.invariant.full (seen-kept c.self.inside.number c.self.inside.peers c.self.inside.state c.self.inside.counts.items c.self.inside.taken c.args.self.now c.self.view_is c.requires.kept), seen-peer c.self.inside.number c.self.inside.peers c.self.inside.state c.self.inside.counts.items c.self.inside.taken c.args.self.now c.self.view_is c.args.peer c.self.invariant.few c.requires.peer)))
