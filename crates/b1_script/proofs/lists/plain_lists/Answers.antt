use Rattle.std.proofs.lemmas.Result.{err_from_is_err_and}
use Rattle.b1_records.specs.Reading.{many}
use Rattle.b1_script.specs.Reading.{commands_at}
use Rattle.b1_records.proofs.Loop.{goes_on, ends, is_done}
use Rattle.b1_script.proofs.lists.plain_lists.Goals as goal

pub returns-in_err-item : goal.returns-in_err-item
returns-in_err-item c =
    let p = err_from_is_err_and c.from_residual.result c.from_residual.ensures.1 in
    rw (p.1, p.2) (ends (commands_at c.args.limit c.args.bytes.now) c.in_err-item.field-0.0 c.loop.items.items c.args.peers c.loop.counter c.loop.place (many (commands_at c.args.limit c.args.bytes.now) c.args.peers c.args.at) c.loop-test.true c.in_err-item.ensures c.loop.invariant)

pub loop-preserved : goal.loop-preserved
loop-preserved c =
    rw c.in_ok-push.ensures.items (goes_on (commands_at c.args.limit c.args.bytes.now) c.loop.items.items c.args.peers c.loop.counter c.loop.place c.in_ok-item.item c.in_ok-item.end (many (commands_at c.args.limit c.args.bytes.now) c.args.peers c.args.at) c.loop-test.true c.in_ok-item.ensures c.loop.invariant)

pub returns : goal.returns
returns c = rw c.from_vec.ensures (is_done (commands_at c.args.limit c.args.bytes.now) c.loop.items.items c.args.peers c.loop.counter c.loop.place (many (commands_at c.args.limit c.args.bytes.now) c.args.peers c.args.at) c.loop-test.false c.loop.invariant)
