use Rattle.b1_text.proofs.Wires.{line_some, line_none}
use Rattle.b1_text.proofs.begin_wire.begins_wire.Goals as goal

pub returns-in-Some : goal.returns-in-Some
returns-in-Some c = line_some c.args.peers c.args.held.now c.args.line.now c.in-Some.rest.now c.begins_from.result c.in-Some.ensures c.begins_from.ensures

pub returns-in-None : goal.returns-in-None
returns-in-None c = line_none c.args.peers c.args.held.now c.args.line.now c.begins_text.result c.requires.peers c.requires.some c.in-None.ensures c.begins_text.ensures
