use Rattle.std.specs.Prelude.{zip}
use Rattle.std.proofs.lemmas.Result.{err_from_is_err_and}
use Rattle.b1_records.specs.Reading.{many, command2_at}
use Rattle.b1_records.proofs.Loop.{goes_on, ends, is_done}
use Rattle.b1_script.specs.Reading.{entry_list_at}
use Rattle.b1_script.proofs.Entries.{zip_push, length_push}
use Rattle.b1_script.proofs.lists.entry_list.Goals as goal

pub returns-in_err-cookie-clause-gives : goal.returns-in_err-cookie-clause-gives
unfolding entry_list_at
returns-in_err-cookie-clause-gives c =
    let p = err_from_is_err_and c.from_residual.result c.from_residual.ensures.1 in
    rw (p.1, p.2) (ends (command2_at c.args.limit c.args.bytes.now) c.in_err-cookie.field-0.0 (zip c.loop.cookies.items c.loop.items.items) c.args.count c.loop.counter c.loop.place (many (command2_at c.args.limit c.args.bytes.now) c.args.count c.args.at) c.loop-test.true c.in_err-cookie.ensures c.loop.invariant.1)

pub loop-preserved : goal.loop-preserved
loop-preserved c =
    let same = c.loop.invariant.0 in
    let more = goes_on (command2_at c.args.limit c.args.bytes.now) (zip c.loop.cookies.items c.loop.items.items) c.args.count c.loop.counter c.loop.place (c.in_ok-cookie.cookie, c.in_ok-cookie.item) c.in_ok-cookie.end (many (command2_at c.args.limit c.args.bytes.now) c.args.count c.args.at) c.loop-test.true c.in_ok-cookie.ensures c.loop.invariant.1 in
    rw (c.in_ok-push.ensures.items, c.in_ok-push-2.ensures.items) (length_push c.loop.cookies.items c.loop.items.items c.in_ok-cookie.cookie c.in_ok-cookie.item same, rw (zip_push c.loop.cookies.items c.loop.items.items c.in_ok-cookie.cookie c.in_ok-cookie.item same) more)

pub returns-clause-gives : goal.returns-clause-gives
unfolding entry_list_at
returns-clause-gives c =
    rw (c.from_vec.ensures, c.from_vec-2.ensures) (is_done (command2_at c.args.limit c.args.bytes.now) (zip c.loop.cookies.items c.loop.items.items) c.args.count c.loop.counter c.loop.place (many (command2_at c.args.limit c.args.bytes.now) c.args.count c.args.at) c.loop-test.false c.loop.invariant.1)
