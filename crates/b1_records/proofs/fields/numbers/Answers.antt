use Rattle.std.proofs.lemmas.Result.{err_from_is_err_and}
use Rattle.b1_records.specs.Reading.{many, long_number_at, numbers_at}
use Rattle.b1_records.proofs.Loop.{goes_on, ends, is_done}
use Rattle.b1_records.proofs.fields.numbers.Goals as goal

pub returns-in_err-value : goal.returns-in_err-value
unfolding numbers_at
returns-in_err-value c =
    let p = err_from_is_err_and c.from_residual.result c.from_residual.ensures.1 in
    rw (p.1, p.2) (ends (long_number_at c.args.limit c.args.bytes.now) c.in_err-value.field-0.0 c.loop.items.items c.args.count c.loop.counter c.loop.place (many (long_number_at c.args.limit c.args.bytes.now) c.args.count c.args.at) c.loop-test.true c.in_err-value.ensures c.loop.invariant)

pub loop-preserved : goal.loop-preserved
loop-preserved c =
    rw c.in_ok-push.ensures.items (goes_on (long_number_at c.args.limit c.args.bytes.now) c.loop.items.items c.args.count c.loop.counter c.loop.place c.in_ok-value.value c.in_ok-value.end (many (long_number_at c.args.limit c.args.bytes.now) c.args.count c.args.at) c.loop-test.true c.in_ok-value.ensures c.loop.invariant)

pub returns : goal.returns
unfolding numbers_at
returns c = rw c.from_vec.ensures (is_done (long_number_at c.args.limit c.args.bytes.now) c.loop.items.items c.args.count c.loop.counter c.loop.place (many (long_number_at c.args.limit c.args.bytes.now) c.args.count c.args.at) c.loop-test.false c.loop.invariant)
