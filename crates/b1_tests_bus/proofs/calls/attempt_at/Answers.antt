use Rattle.std.proofs.Common.{◌<◌, length, arith}
use Rattle.b1_tests_bus.proofs.Members.{of_crew, still_crew, tried_member}
use Rattle.b1_tests_bus.proofs.calls.attempt_at.Goals as goal

pub attempt-requires-clause-own : goal.attempt-requires-clause-own
attempt-requires-clause-own g c =
    let ds = c.args.drivers.now.items in
    let within : c.args.p < length ds = omega (arith, c.if-p-len.false, c.len.ensures, c.args.drivers.now.ok.0) in
    of_crew ds c.args.bus.now c.args.p c.index_mut.result.now c.requires within c.index_mut.ensures.value

pub returns : goal.returns
returns g c =
    let ds = c.args.drivers.now.items in
    let within : c.args.p < length ds = omega (arith, c.if-p-len.false, c.len.ensures, c.args.drivers.now.ok.0) in
    let d = c.index_mut.result.now in
    still_crew ds c.args.bus.now c.args.p d c.attempt.new.self c.requires within c.index_mut.ensures.value (tried_member d c.attempt.result c.attempt.new.self c.attempt.ensures)
