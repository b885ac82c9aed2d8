use Rattle.b1_text.proofs.Cuts.{two_cut, no_space, no_first, no_rest, both_parts}
use Rattle.b1_text.proofs.fields.read_two.Goals as goal

pub returns-in_err-first : goal.returns-in_err-first
returns-in_err-first c = rw c.from_residual.ensures (no_space two_cut c.args.line.now c.in_err-first.ensures.free)

pub returns-in_err-one : goal.returns-in_err-one
returns-in_err-one c = rw c.from_residual-in_err-one.ensures (no_first two_cut c.args.line.now c.in_ok-first.first.now c.in_ok-first.rest.now c.read_u32.result c.in_ok-first.ensures.parts c.in_ok-first.ensures.first c.read_u32.ensures c.in_err-one.was)

pub returns-in_err-two : goal.returns-in_err-two
returns-in_err-two c = rw c.from_residual-in_err-two.ensures (no_rest two_cut c.args.line.now c.in_ok-first.first.now c.in_ok-first.rest.now c.read_u32-2.result c.in_ok-first.ensures.parts c.in_ok-first.ensures.first c.read_u32-2.ensures c.in_err-two.was)

pub returns : goal.returns
returns c = both_parts two_cut c.args.line.now c.in_ok-first.first.now c.in_ok-first.rest.now c.read_u32.result c.read_u32-2.result (c.in_ok-one.one, c.in_ok-two.two) c.in_ok-first.ensures.parts c.in_ok-first.ensures.first c.read_u32.ensures c.in_ok-one.was c.read_u32-2.ensures c.in_ok-two.was
