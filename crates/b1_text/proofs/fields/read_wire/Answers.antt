use Rattle.b1_text.proofs.Cuts.{wire_cut, no_space, no_first, no_rest, both_parts}
use Rattle.b1_text.proofs.fields.read_wire.Goals as goal

pub returns-in_err-first : goal.returns-in_err-first
returns-in_err-first c = rw c.from_residual.ensures (no_space wire_cut c.args.line.now c.in_err-first.ensures.free)

pub returns-in_err-from : goal.returns-in_err-from
returns-in_err-from c = rw c.from_residual-in_err-from.ensures (no_first wire_cut c.args.line.now c.in_ok-first.first.now c.in_ok-first.rest.now c.read_u32.result c.in_ok-first.ensures.parts c.in_ok-first.ensures.first c.read_u32.ensures c.in_err-from.was)

pub returns-in_err-number : goal.returns-in_err-number
returns-in_err-number c = rw c.from_residual-in_err-number.ensures (no_rest wire_cut c.args.line.now c.in_ok-first.first.now c.in_ok-first.rest.now c.read_end.result c.in_ok-first.ensures.parts c.in_ok-first.ensures.first c.read_end.ensures c.in_err-number.was)

pub returns : goal.returns
returns c = both_parts wire_cut c.args.line.now c.in_ok-first.first.now c.in_ok-first.rest.now c.read_u32.result c.read_end.result (record { from = c.in_ok-from.from; to = c.in_ok-number.to; number = c.in_ok-number.number }) c.in_ok-first.ensures.parts c.in_ok-first.ensures.first c.read_u32.ensures c.in_ok-from.was c.read_end.ensures c.in_ok-number.was
