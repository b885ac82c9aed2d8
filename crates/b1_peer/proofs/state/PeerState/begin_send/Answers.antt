use Rattle.std.proofs.Common.{◌≡◌, length, rules}
use Rattle.b1_peer.specs.Begin.{EnoughNodes, all_made}
use Rattle.b1_peer.proofs.KeptBegins.{begun_kept}
use Rattle.b1_peer.proofs.state.PeerState.begin_send.Goals as goal

pub invariant_of-self-2 : goal.invariant_of-self-2
invariant_of-self-2 g c =
    let enough : EnoughNodes (length c.args.cmd.now.with) (length c.self.inside.handles.records) c.room_for_nodes.new.mail c.room_for_nodes.new.nodes = search rules in
    let made : c.make_all.new.nodes ≡ record c.room_for_nodes.new.nodes { nodes = all_made c.room_for_nodes.new.nodes.peers c.args.cmd.now.with c.room_for_nodes.new.nodes.nodes; spare = c.make_all.new.nodes.spare } = search rules in
    begun_kept _ c.self.invariant c.room_for_nodes.new.mail c.room_for_nodes.new.nodes c.make_all.new.nodes c.args.cmd.now.with c.room_for_nodes.ensures.more enough made
