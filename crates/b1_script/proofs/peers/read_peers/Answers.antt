use Rattle.std.proofs.lemmas.Result.{err_from_is_err_and}
use Rattle.b1_script.specs.Reading.{peers_at}
use Rattle.b1_script.proofs.PeersLoop.{peers_go_on, peers_fail, peers_done}
use Rattle.b1_script.proofs.peers.read_peers.Goals as goal

pub returns-in_err-item : goal.returns-in_err-item
returns-in_err-item c =
    let p = err_from_is_err_and c.from_residual.result c.from_residual.ensures.1 in
    rw (p.1, p.2) (peers_fail c.args.limit c.args.bytes.now c.loop.before c.in_err-item.field-0.0 c.loop.items.items c.args.count c.loop.counter c.loop.place (peers_at c.args.limit c.args.bytes.now 0 c.args.count c.args.at) c.loop-test.true c.in_err-item.ensures.gives c.loop.invariant.1)

pub loop-preserved : goal.loop-preserved
loop-preserved c =
    rw (c.in_ok-push.ensures.items, c.from-before.ensures) (c.in_ok-item.ensures.together, (peers_go_on c.args.limit c.args.bytes.now c.loop.before c.loop.items.items c.args.count c.loop.counter c.loop.place c.in_ok-item.item c.in_ok-item.end (peers_at c.args.limit c.args.bytes.now 0 c.args.count c.args.at) c.loop-test.true c.in_ok-item.ensures.gives c.loop.invariant.1))

pub returns : goal.returns
returns c = rw c.from_vec.ensures (peers_done c.args.limit c.args.bytes.now c.loop.before c.loop.items.items c.args.count c.loop.counter c.loop.place (peers_at c.args.limit c.args.bytes.now 0 c.args.count c.args.at) c.loop-test.false c.loop.invariant.1)
