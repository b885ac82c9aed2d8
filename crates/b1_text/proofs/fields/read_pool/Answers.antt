use Rattle.b1_text.proofs.Cuts.{pool_cut, no_space, no_first, no_rest, both_parts}
use Rattle.b1_text.proofs.fields.read_pool.Goals as goal

pub returns-in_err-first : goal.returns-in_err-first
returns-in_err-first c = rw c.from_residual.ensures (no_space pool_cut c.args.line.now c.in_err-first.ensures.free)

pub returns-in_err-pool : goal.returns-in_err-pool
returns-in_err-pool c = rw c.from_residual-in_err-pool.ensures (no_first pool_cut c.args.line.now c.in_ok-first.first.now c.in_ok-first.rest.now c.read_u32.result c.in_ok-first.ensures.parts c.in_ok-first.ensures.first c.read_u32.ensures c.in_err-pool.was)

pub returns-in_err-limits : goal.returns-in_err-limits
returns-in_err-limits c = rw c.from_residual-in_err-limits.ensures (no_rest pool_cut c.args.line.now c.in_ok-first.first.now c.in_ok-first.rest.now c.read_limits.result c.in_ok-first.ensures.parts c.in_ok-first.ensures.first c.read_limits.ensures c.in_err-limits.was)

pub returns : goal.returns
returns c = both_parts pool_cut c.args.line.now c.in_ok-first.first.now c.in_ok-first.rest.now c.read_u32.result c.read_limits.result (c.in_ok-pool.pool, c.in_ok-limits.limits) c.in_ok-first.ensures.parts c.in_ok-first.ensures.first c.read_u32.ensures c.in_ok-pool.was c.read_limits.ensures c.in_ok-limits.was
