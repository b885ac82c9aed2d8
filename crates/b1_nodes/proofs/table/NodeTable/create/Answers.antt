use Rattle.std.proofs.Common.{◌≡◌, List, ◌∷◌, ◌++◌, [], false, None, All, length, replicate, ◌∙◌, ap, sym, subst, arith}
use Rattle.std.proofs.lemmas.List.{length-append}
use Rattle.std.proofs.lemmas.List.Elements.{All-take}
use Rattle.b1_model.specs.declared.parts.NodeState.TheVariants.{Live}
use Rattle.b1_model.specs.MachineParts.{NodePart}
use Rattle.b1_model.specs.MachineTables.{serial_of}
use Rattle.b1_nodes.specs.Nodes.{Nodes, AreNodes}
use Rattle.b1_nodes.specs.Index.{IsIndex}
use Rattle.b1_nodes.proofs.NodeLemmas.{AreNodes-made, made_unknown, made_found}
use Rattle.b1_nodes.proofs.IndexLemmas.{IsIndex-made}
use Rattle.b1_nodes.proofs.table.NodeTable.create.Goals as goal

pub invariant_of-self : goal.invariant_of-self
invariant_of-self c =
    let seen : c.self.inside.nodes.items ≡ c.args.self.now.nodes = ap (λ (t : Nodes). t.nodes) c.self.view_is in
    let made : c.push_node.new.nodes.items ≡ c.self.inside.nodes.items ++ record { number = c.args.number; state = Live; counts = replicate c.self.inside.peers 0; taken = false } ∷ [] =
    c.push_node.ensures.items ∙ ap (λ (n : NodePart). c.self.inside.nodes.items ++ n ∷ []) c.new.ensures in
    let unknown : serial_of c.args.number c.self.inside.nodes.items ≡ None = subst (λ (ns : List NodePart). serial_of c.args.number ns ≡ None) (sym seen) c.requires.unknown in
    record {
      few_peers = c.self.invariant.few_peers;
      few_nodes = omega (arith, ap length made, length-append {A = NodePart}, ap length seen, c.requires.few);
      nodes = subst (AreNodes c.self.inside.peers) (sym made) (AreNodes-made c.self.inside.peers c.args.number c.self.inside.nodes.items c.requires.own unknown c.self.invariant.nodes);
      rooms = subst (All (λ r. r ≡ replicate c.self.inside.peers 0)) (sym c.pop.ensures.rest) (All-take (λ r. r ≡ replicate c.self.inside.peers 0) _ c.self.inside.rooms.items c.self.invariant.rooms);
      index = subst (IsIndex c.self.inside.index) (sym made) (IsIndex-made c.self.inside.index c.self.inside.nodes.items c.self.invariant.index c.self.inside.peers c.args.number unknown);
      capacity = omega (arith, c.push_node.ensures.len, c.push_node.ensures.capacity, c.in-Some.ensures.len, c.self.invariant.capacity);
    }

pub returns-clause-found : goal.returns-clause-found
returns-clause-found c =
    let seen : c.self.inside.nodes.items ≡ c.args.self.now.nodes = ap (λ (t : Nodes). t.nodes) c.self.view_is in
    let unknown : serial_of c.args.number c.self.inside.nodes.items ≡ None = subst (λ (ns : List NodePart). serial_of c.args.number ns ≡ None) (sym seen) c.requires.unknown in
    let made : c.push_node.new.nodes.items ≡ c.self.inside.nodes.items ++ record { number = c.args.number; state = Live; counts = replicate c.self.inside.peers 0; taken = false } ∷ [] =
    c.push_node.ensures.items ∙ ap (λ (n : NodePart). c.self.inside.nodes.items ++ n ∷ []) c.new.ensures in
    let serial : length c.self.inside.nodes.items ≡ c.len-serial.result = omega (arith, c.len-serial.ensures) in
    rw (made ∙ made_unknown c.self.inside.peers c.args.number c.self.inside.nodes.items unknown, ← serial) (made_found c.self.inside.peers c.args.number c.self.inside.nodes.items unknown)
