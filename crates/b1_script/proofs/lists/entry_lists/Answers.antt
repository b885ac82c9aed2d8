use Rattle.std.proofs.lemmas.Result.{err_from_is_err_and}
use Rattle.b1_records.specs.Reading.{many}
use Rattle.b1_records.proofs.Loop.{goes_on, ends, is_done}
use Rattle.b1_script.specs.Reading.{entries_at}
use Rattle.b1_script.specs.Spelling.{entries_of}
use Rattle.std.specs.Prelude.{zip}
use Rattle.b1_script.proofs.Entries.{entries_push, lengths_push, lists_match}
use Rattle.b1_script.proofs.lists.entry_lists.Goals as goal

pub returns-in_err-own-clause-gives : goal.returns-in_err-own-clause-gives
returns-in_err-own-clause-gives c =
    let p = err_from_is_err_and c.from_residual.result c.from_residual.ensures.1 in
    rw (p.1, p.2) (ends (entries_at c.args.limit c.args.bytes.now) c.in_err-own.field-0.0 (entries_of c.loop.cookies.items c.loop.items.items) c.args.peers c.loop.counter c.loop.place (many (entries_at c.args.limit c.args.bytes.now) c.args.peers c.args.at) c.loop-test.true c.in_err-own.ensures.gives c.loop.invariant.1)

pub loop-preserved : goal.loop-preserved
loop-preserved c =
    let match = lists_match c.loop.cookies.items c.loop.items.items c.loop.invariant.0 in
    let more = goes_on (entries_at c.args.limit c.args.bytes.now) (entries_of c.loop.cookies.items c.loop.items.items) c.args.peers c.loop.counter c.loop.place (zip c.in_ok-own.own c.in_ok-own.item) c.in_ok-own.end (many (entries_at c.args.limit c.args.bytes.now) c.args.peers c.args.at) c.loop-test.true c.in_ok-own.ensures.gives c.loop.invariant.1 in
    rw (c.in_ok-push.ensures.items, c.in_ok-push-2.ensures.items) (lengths_push c.loop.cookies.items c.loop.items.items c.in_ok-own.own c.in_ok-own.item c.in_ok-own.ensures.same c.loop.invariant.0, rw (entries_push c.loop.cookies.items c.loop.items.items c.in_ok-own.own c.in_ok-own.item match) more)

pub returns-clause-gives : goal.returns-clause-gives
returns-clause-gives c =
    rw (c.from_vec.ensures, c.from_vec-2.ensures) (is_done (entries_at c.args.limit c.args.bytes.now) (entries_of c.loop.cookies.items c.loop.items.items) c.args.peers c.loop.counter c.loop.place (many (entries_at c.args.limit c.args.bytes.now) c.args.peers c.args.at) c.loop-test.false c.loop.invariant.1)
