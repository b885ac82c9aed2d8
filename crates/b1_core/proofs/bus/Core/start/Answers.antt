use Rattle.std.proofs.Common.{sym, subst}
use native.Mathlib.Omega.{arith}
use Rattle.b1_core.specs.Bus.{IsCore}
use Rattle.b1_core.proofs.Turning.{as_many_peers}
use Rattle.b1_core.proofs.Openings.{core_new}
use Rattle.b1_core.proofs.bus.Core.start.Goals as goal

pub invariant_of-result : goal.invariant_of-result
invariant_of-result g c =
    let o = c.args.opening.now in
    let xs = c.in_ok-peers.peers.items in
    let ds = c.in_ok-drivers.drivers.items in
    let core = core_new o c.args.commands xs ds c.requires.opening c.requires.lists c.in_ok-peers.ensures.parts c.in_ok-drivers.ensures.parts c.in_ok-peers.ensures.users c.in_ok-drivers.ensures.stock in
    let many = as_many_peers o xs ds core.opening core.reached core.stocked in
    record {
      core = subst (λ z. IsCore z c.args.commands xs ds) (sym c.in_ok-copy_opening.ensures) core;
      empty = c.in_ok-room.ensures.items;
      room = omega (arith, many, c.len.ensures, c.in_ok-room.ensures.capacity);
    }
