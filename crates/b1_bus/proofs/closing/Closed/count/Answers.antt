use Rattle.std.proofs.Common.{arith}
use Rattle.b1_bus.proofs.States.{many_peers}
use Rattle.b1_bus.proofs.closing.Closed.count.Goals as goal

pub overflow_cast-result : goal.overflow_cast-result
overflow_cast-result c =
    let many = many_peers _ _ _ c.self.invariant.closed in
    let most = c.self.invariant.closed.opening.most in
    let len = c.len.ensures in
    let ok = c.self.inside.peers.ok.0 in
    omega arith
