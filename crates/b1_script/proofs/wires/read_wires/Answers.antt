use Rattle.std.proofs.Common.{[]}
use Rattle.std.proofs.lemmas.Result.{err_from_is_err_and}
use Rattle.b1_script.specs.Reading.{wires_at}
use Rattle.b1_script.proofs.WiresLoop.{wires_go_on, wires_fail, wires_done}
use Rattle.b1_script.proofs.wires.read_wires.Goals as goal

pub returns-in_err-item : goal.returns-in_err-item
returns-in_err-item c =
    let p = err_from_is_err_and c.from_residual.result c.from_residual.ensures.1 in
    rw (p.1, p.2) (wires_fail c.args.limit c.args.bytes.now c.args.peers c.loop.held c.in_err-item.field-0.0 c.loop.items.items c.args.count c.loop.counter c.loop.place (wires_at c.args.limit c.args.bytes.now c.args.peers [] c.args.count c.args.at) c.loop-test.true c.in_err-item.ensures c.loop.invariant)

pub loop-preserved : goal.loop-preserved
loop-preserved c =
    rw (c.in_ok-push.ensures.items, c.in_ok-add.ensures) (wires_go_on c.args.limit c.args.bytes.now c.args.peers c.loop.held c.loop.items.items c.args.count c.loop.counter c.loop.place c.in_ok-item.item c.in_ok-item.end (wires_at c.args.limit c.args.bytes.now c.args.peers [] c.args.count c.args.at) c.loop-test.true c.in_ok-item.ensures c.loop.invariant)

pub returns : goal.returns
returns c = rw c.from_vec.ensures (wires_done c.args.limit c.args.bytes.now c.args.peers c.loop.held c.loop.items.items c.args.count c.loop.counter c.loop.place (wires_at c.args.limit c.args.bytes.now c.args.peers [] c.args.count c.args.at) c.loop-test.false c.loop.invariant)
