use Rattle.std.proofs.Common.{◌<◌, length, max, arith}
use Rattle.b1_tests_bus.proofs.Members.{still_crew, reserved_member}
use Rattle.b1_tests_bus.proofs.calls.reserve_at.Goals as goal

pub returns : goal.returns
returns c =
    let ds = c.args.drivers.now.items in
    let within : c.args.p < length ds = omega (arith, c.if-p-len.false, c.len.ensures, c.args.drivers.now.ok.0) in
    let d = c.index_mut.result.now in
    still_crew ds c.args.bus.now c.args.p d c.reserve.new.self c.requires within c.index_mut.ensures.value (reserved_member d c.reserve.new.self (max d.own.spare c.args.n) c.reserve.result c.reserve.ensures.ok c.reserve.ensures.err)
