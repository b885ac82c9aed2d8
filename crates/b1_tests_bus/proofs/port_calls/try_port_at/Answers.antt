use Rattle.std.proofs.Common.{◌<◌, length, arith}
use Rattle.b1_tests_bus.proofs.Members.{of_crew}
use Rattle.b1_tests_bus.proofs.port_calls.try_port_at.Goals as goal

pub make-port-requires : goal.make-port-requires
make-port-requires g c =
    let ds = c.args.drivers.now.items in
    let within : c.args.p < length ds = omega (arith, c.if-p-len.false, c.len.ensures, c.args.drivers.now.ok.0) in
    of_crew ds c.args.bus.now c.args.p c.index_mut.result.now c.requires within c.index_mut.ensures.value
