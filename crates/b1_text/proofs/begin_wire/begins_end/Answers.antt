use Rattle.b1_text.proofs.Wires.{number_alone, number_known, number_none}
use Rattle.b1_text.proofs.begin_wire.begins_end.Goals as goal

pub returns-in_default : goal.returns-in_default
returns-in_default c =
    number_alone c.args.peers c.args.held.now c.args.from c.args.line.now c.begins_own.result c.requires.some c.requires.from c.requires.few c.in_default.ensures.free c.begins_own.ensures

pub returns-in-Some-read_handle : goal.returns-in-Some-read_handle
returns-in-Some-read_handle c =
    number_known c.args.peers c.args.held.now c.args.from c.args.line.now c.in-Some.first.now c.in-Some.rest.now c.read_handle.result c.in-Some-read_handle.number c.begins_to.result c.in-Some.ensures.parts c.in-Some.ensures.first c.read_handle.ensures c.in-Some-read_handle.is c.begins_to.ensures

pub returns-in-None : goal.returns-in-None
returns-in-None c =
    number_none c.args.peers c.args.held.now c.args.from c.args.line.now c.in-Some.first.now c.in-Some.rest.now c.read_handle.result c.in-Some.ensures.parts c.in-Some.ensures.first c.read_handle.ensures c.in-None.is
