use Rattle.b1_text.proofs.Wires.{from_alone, from_known, from_outside, from_none}
use Rattle.b1_text.proofs.begin_wire.begins_from.Goals as goal

pub returns-in_default : goal.returns-in_default
returns-in_default c = from_alone c.args.peers c.args.held.now c.args.line.now c.begins_item.result c.requires.peers c.requires.some c.in_default.ensures.free c.begins_item.ensures

pub returns-then-from-peers : goal.returns-then-from-peers
returns-then-from-peers c =
    from_known c.args.peers c.args.held.now c.args.line.now c.in-Some.first.now c.in-Some.rest.now c.read_u32.result c.in-Some-read_u32.from c.begins_end.result c.requires.peers c.if-from-peers.true c.in-Some.ensures.parts c.in-Some.ensures.first c.read_u32.ensures c.in-Some-read_u32.is c.begins_end.ensures

pub returns-else-from-peers : goal.returns-else-from-peers
returns-else-from-peers c =
    from_outside c.args.peers c.args.held.now c.args.line.now c.in-Some.first.now c.in-Some.rest.now c.read_u32.result c.in-Some-read_u32.from c.if-from-peers.false c.in-Some.ensures.parts c.in-Some.ensures.first c.read_u32.ensures c.in-Some-read_u32.is

pub returns-in-None : goal.returns-in-None
returns-in-None c =
    from_none c.args.peers c.args.held.now c.args.line.now c.in-Some.first.now c.in-Some.rest.now c.read_u32.result c.in-Some.ensures.parts c.in-Some.ensures.first c.read_u32.ensures c.in-None.is
