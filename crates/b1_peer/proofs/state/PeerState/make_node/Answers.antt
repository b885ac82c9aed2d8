use Rattle.std.proofs.Common.{◌-◌, ◌∙◌, ap, rules}
use Rattle.b1_model.specs.MachineTables.{with_made}
use Rattle.b1_nodes.specs.Nodes.{Nodes}
use Rattle.b1_peer.proofs.KeptMake.{spare_kept, with_table}
use Rattle.b1_peer.proofs.state.PeerState.make_node.Goals as goal

pub invariant_of-self-2 : goal.invariant_of-self-2
invariant_of-self-2 g c =
    with_table _ (spare_kept _ c.self.invariant c.reserve.new.self c.reserve.ensures.same c.reserve.ensures.kept) c.args.number (c.reserve-2.new.self.spare - 1) c.create.new.self
    (c.create.ensures.created ∙ ap {A = Nodes} {B = Nodes} (λ t. record t { nodes = with_made t.peers c.args.number t.nodes; spare = t.spare - 1 }) c.reserve-2.ensures.kept)
    (search rules)
