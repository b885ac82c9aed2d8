use Rattle.b1_text.proofs.Cuts.{end_cut, no_space, no_first, no_rest, both_parts}
use Rattle.b1_text.proofs.fields.read_end.Goals as goal

pub returns-in_err-first : goal.returns-in_err-first
returns-in_err-first c = rw c.from_residual.ensures (no_space end_cut c.args.line.now c.in_err-first.ensures.free)

pub returns-in_err-number : goal.returns-in_err-number
returns-in_err-number c = rw c.from_residual-in_err-number.ensures (no_first end_cut c.args.line.now c.in_ok-first.first.now c.in_ok-first.rest.now c.read_handle.result c.in_ok-first.ensures.parts c.in_ok-first.ensures.first c.read_handle.ensures c.in_err-number.was)

pub returns-in_err-to : goal.returns-in_err-to
returns-in_err-to c = rw c.from_residual-in_err-to.ensures (no_rest end_cut c.args.line.now c.in_ok-first.first.now c.in_ok-first.rest.now c.read_u32.result c.in_ok-first.ensures.parts c.in_ok-first.ensures.first c.read_u32.ensures c.in_err-to.was)

pub returns : goal.returns
returns c = both_parts end_cut c.args.line.now c.in_ok-first.first.now c.in_ok-first.rest.now c.read_handle.result c.read_u32.result (c.in_ok-number.number, c.in_ok-to.to) c.in_ok-first.ensures.parts c.in_ok-first.ensures.first c.read_handle.ensures c.in_ok-number.was c.read_u32.ensures c.in_ok-to.was
