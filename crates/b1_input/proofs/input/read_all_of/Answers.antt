use Rattle.std.proofs.Common.{◌++◌}
use Rattle.b1_input.proofs.Holding.{whole_fault, whole_front}
use Rattle.b1_input.proofs.input.read_all_of.Goals as goal

pub returns-in-Ok : goal.returns-in-Ok
returns-in-Ok c =
    let f = c.in-Ok.front in
    whole_front (c.args.script.bytes ++ c.args.behind.items) f.script f.end f.behind.items c.none_behind.result c.requires.few c.in-Ok.ensures.found c.in-Ok.ensures.exact c.none_behind.ensures.none c.none_behind.ensures.some

pub returns-in-Err : goal.returns-in-Err
returns-in-Err c = whole_fault (c.args.script.bytes ++ c.args.behind.items) c.in-Err.why c.requires.few c.in-Err.ensures.exact
