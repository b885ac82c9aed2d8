use Rattle.std.proofs.Common.{rules, ◌≡◌, length, arith}
use Rattle.b1_bus.proofs.Joined.{none_left}
use Rattle.b1_bus.proofs.closing.join_all.Goals as goal

pub returns-clause-states : goal.returns-clause-states
returns-clause-states c =
    let none : length c.loop-drivers.drivers.items ≡ 0 = search rules in
    none_left c.loop-drivers.states.items c.loop-drivers.drivers.items _ none c.loop-drivers.invariant.rest
