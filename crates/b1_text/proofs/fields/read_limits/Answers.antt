use Rattle.b1_text.proofs.Cuts.{limits_cut, no_space, no_first, no_rest, both_parts}
use Rattle.b1_text.proofs.fields.read_limits.Goals as goal

pub returns-in_err-first : goal.returns-in_err-first
returns-in_err-first c = rw c.from_residual.ensures (no_space limits_cut c.args.line.now c.in_err-first.ensures.free)

pub returns-in_err-entries : goal.returns-in_err-entries
returns-in_err-entries c = rw c.from_residual-in_err-entries.ensures (no_first limits_cut c.args.line.now c.in_ok-first.first.now c.in_ok-first.rest.now c.read_u32.result c.in_ok-first.ensures.parts c.in_ok-first.ensures.first c.read_u32.ensures c.in_err-entries.was)

pub returns-in_err-bytes : goal.returns-in_err-bytes
returns-in_err-bytes c = rw c.from_residual-in_err-bytes.ensures (no_rest limits_cut c.args.line.now c.in_ok-first.first.now c.in_ok-first.rest.now c.read_two.result c.in_ok-first.ensures.parts c.in_ok-first.ensures.first c.read_two.ensures c.in_err-bytes.was)

pub returns : goal.returns
returns c = both_parts limits_cut c.args.line.now c.in_ok-first.first.now c.in_ok-first.rest.now c.read_u32.result c.read_two.result (record { entries = c.in_ok-entries.entries; bytes = c.in_ok-bytes.bytes; handles = c.in_ok-bytes.handles }) c.in_ok-first.ensures.parts c.in_ok-first.ensures.first c.read_u32.ensures c.in_ok-entries.was c.read_two.ensures c.in_ok-bytes.was
