use Rattle.std.proofs.Common.{length, ap, sym, subst, ◌∙◌}
use Rattle.b1_model.specs.MachinePool.{slice_len, taken_offset}
use Rattle.b1_pool.specs.Bytes.{written}
use Rattle.b1_peer_pool.specs.Content.{padded}
use Rattle.b1_peer_pool.specs.Stored.{IsStored}
use Rattle.b1_peer_pool.proofs.Kept.{stored}
use Rattle.b1_peer_pool.proofs.Holding.{IsFilled, put-filled}
use Rattle.b1_peer_pool.proofs.store.Store.put.Given.{Over}
use Rattle.b1_peer_pool.proofs.store.Store.put.Goals as goal

-- what stands in the slices then
filled : (g : Over) (c : goal.After-put_message g) → IsFilled c.args.self.now c.put_message.result c.put_message.result (g.P.PoolKind.content c.put_message.new.pool) (padded c.args.payload.now)
filled g c =
    put-filled c.args.self.now c.put_message.result c.args.handles c.args.payload.now _ (subst IsStored c.self.view_is c.self.invariant) c.requires.fits
    (c.put_message.ensures.offset ∙ ap (λ v. taken_offset (slice_len (length c.args.payload.now) c.args.handles) v.slices) c.self.view_is)
    (c.put_message.ensures.bytes ∙ ap (λ v. written c.put_message.result (padded c.args.payload.now) v.bytes) c.self.view_is)

pub invariant_of-self : goal.invariant_of-self
invariant_of-self g c = stored _ _ _ _ c.put_message.ensures.sound ((filled g c).as_long ∙ sym (ap (λ v. v.size) c.self.view_is))

pub returns-clause-holds : goal.returns-clause-holds
returns-clause-holds g c = (filled g c).holds

pub returns-clause-others : goal.returns-clause-others
returns-clause-others g c = (filled g c).others

pub returns-clause-sound : goal.returns-clause-sound
returns-clause-sound g c = stored _ _ _ _ c.put_message.ensures.sound ((filled g c).as_long ∙ sym (ap (λ v. v.size) c.self.view_is))
