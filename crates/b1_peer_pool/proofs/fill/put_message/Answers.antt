use Rattle.std.proofs.Common.{length, ap, ◌∙◌}
use Rattle.b1_pool.specs.Slices.{slice_at}
use Rattle.b1_peer_pool.proofs.Filling.{fits_there, put_offset, put_slices, put_taken, put_bytes, few_zeros}
use Rattle.b1_peer_pool.proofs.fill.put_message.Goals as goal

pub alloc-offset-requires-clause-fit : goal.alloc-offset-requires-clause-fit
alloc-offset-requires-clause-fit g c = fits_there (length c.args.payload.now) c.args.handles c.slice_length.result (g.P.PoolKind.slices c.args.pool.now) c.requires.fits c.slice_length.ensures

pub returns-clause-offset : goal.returns-clause-offset
returns-clause-offset g c = put_offset _ (length c.args.payload.now) c.args.handles c.slice_length.result (g.P.PoolKind.slices c.args.pool.now) c.slice_length.ensures c.alloc-offset.ensures.offset

pub returns-clause-slices : goal.returns-clause-slices
returns-clause-slices g c =
    put_slices c.alloc-offset.result (length c.args.payload.now) c.args.handles c.slice_length.result _ _ c.slice_length.ensures c.alloc-offset.ensures.offset
    (c.write-2.ensures.slices ∙ c.write.ensures.slices ∙ c.alloc-offset.ensures.slices)

pub returns-clause-taken : goal.returns-clause-taken
returns-clause-taken g c =
    put_taken c.alloc-offset.result (length c.args.payload.now) c.args.handles c.slice_length.result _ c.slice_length.ensures
    (ap (slice_at c.alloc-offset.result) (c.write-2.ensures.slices ∙ c.write.ensures.slices) ∙ c.alloc-offset.ensures.taken)

pub returns-clause-bytes : goal.returns-clause-bytes
returns-clause-bytes g c =
    put_bytes c.alloc-offset.result c.args.payload.now _ _ _ _ _ _ _ c.alloc-offset.ensures.sound c.alloc-offset.ensures.taken c.alloc-offset.ensures.content c.write.ensures.content c.write-2.ensures.content
    (few_zeros (length c.args.payload.now) c.padded_length.result c.padded_length.ensures)
