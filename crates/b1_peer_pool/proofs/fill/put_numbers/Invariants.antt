use Rattle.std.proofs.Common.{◌≡◌, ◌+◌, ◌*◌, take}
use Rattle.b1_pool.specs.Bytes.{written}
use Rattle.b1_peer_pool.specs.Content.{number_bytes}
use Rattle.b1_peer_pool.proofs.fill.put_numbers.Given as goal

abbrev pub invariant-loop-number : goal.invariant-loop-number
invariant-loop-number g l =
    (g.P.PoolKind.slices l.pool ≡ g.P.PoolKind.slices l.fn.pool)
    × (g.P.PoolKind.spare l.pool ≡ g.P.PoolKind.spare l.fn.pool)
    × (l.place ≡ l.at + 8 * l.number-index)
    × (g.P.PoolKind.content l.pool ≡ written (l.offset + l.at) (number_bytes (take l.number-index l.numbers)) (g.P.PoolKind.content l.fn.pool))
