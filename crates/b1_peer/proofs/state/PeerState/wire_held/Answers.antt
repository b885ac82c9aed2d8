use Rattle.std.proofs.Common.{rules}
use Rattle.b1_peer.proofs.KeptMake.{held_done}
use Rattle.b1_peer.proofs.state.PeerState.wire_held.Goals as goal

pub invariant_of-self-2 : goal.invariant_of-self-2
invariant_of-self-2 g c = held_done _ c.self.invariant c.args.node c.reserve.new.self c.reserve-2.new.self c.reserve_singles.new.self c.wire.new.self c.reserve.ensures.same c.reserve.ensures.kept c.reserve-2.ensures.kept c.reserve-2.ensures.more c.reserve_singles.ensures.kept c.reserve_singles.ensures.more c.in_ok-wire.ensures.wired (search rules) (search rules) (search rules)
