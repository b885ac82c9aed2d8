use Rattle.b1_text.proofs.Cuts.{peer_cut, no_space, no_first, no_rest, both_parts}
use Rattle.b1_text.proofs.fields.read_peer.Goals as goal

pub returns-in_err-first : goal.returns-in_err-first
returns-in_err-first c = rw c.from_residual.ensures (no_space peer_cut c.args.line.now c.in_err-first.ensures.free)

pub returns-in_err-user : goal.returns-in_err-user
returns-in_err-user c = rw c.from_residual-in_err-user.ensures (no_first peer_cut c.args.line.now c.in_ok-first.first.now c.in_ok-first.rest.now c.read_u32.result c.in_ok-first.ensures.parts c.in_ok-first.ensures.first c.read_u32.ensures c.in_err-user.was)

pub returns-in_err-pool : goal.returns-in_err-pool
returns-in_err-pool c = rw c.from_residual-in_err-pool.ensures (no_rest peer_cut c.args.line.now c.in_ok-first.first.now c.in_ok-first.rest.now c.read_pool.result c.in_ok-first.ensures.parts c.in_ok-first.ensures.first c.read_pool.ensures c.in_err-pool.was)

pub returns : goal.returns
returns c = both_parts peer_cut c.args.line.now c.in_ok-first.first.now c.in_ok-first.rest.now c.read_u32.result c.read_pool.result (record { user = c.in_ok-user.user; pool = c.in_ok-pool.pool; limits = c.in_ok-pool.limits }) c.in_ok-first.ensures.parts c.in_ok-first.ensures.first c.read_u32.ensures c.in_ok-user.was c.read_pool.ensures c.in_ok-pool.was
