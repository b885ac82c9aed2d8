use Rattle.std.proofs.Common.{ap, ◌∙◌}
use Rattle.b1_peer_pool.specs.Stored.{full_reason}
use Rattle.b1_peer_pool.proofs.Fits.{none_full, some_full}
use Rattle.b1_peer_pool.proofs.store.Store.refusal.Goals as goal

pub returns-in-Ok-clause-reason : goal.returns-in-Ok-clause-reason
returns-in-Ok-clause-reason g c =
    none_full c.args.payload c.args.handles c.slice_length.result (g.P.PoolKind.slices c.self.inside.pool) c.slice_length.ensures c.in-Ok.ensures.ok
    ∙ ap (λ v. full_reason v.slices c.args.payload c.args.handles) c.self.view_is

pub returns-in-Err-clause-reason : goal.returns-in-Err-clause-reason
returns-in-Err-clause-reason g c =
    some_full c.in-Err.full c.args.payload c.args.handles c.slice_length.result (g.P.PoolKind.slices c.self.inside.pool) c.slice_length.ensures c.in-Err.ensures.ok c.in-Err.ensures.full
    ∙ ap (λ v. full_reason v.slices c.args.payload c.args.handles) c.self.view_is
