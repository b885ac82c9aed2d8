use Rattle.std.proofs.Common.{◌+◌, ap, sym, subst, ◌∙◌}
use Rattle.b1_pool.specs.Slices.{begins, is_unpublished, published}
use Rattle.b1_pool.specs.Bytes.{written}
use Rattle.b1_peer_pool.specs.Content.{number_bytes}
use Rattle.b1_peer_pool.specs.Stored.{IsStored}
use Rattle.b1_peer_pool.proofs.Kept.{stored, queued_there, published_in_words}
use Rattle.b1_peer_pool.proofs.Holding.{IsFilled, publish-filled}
use Rattle.b1_peer_pool.proofs.store.Store.publish.Given.{Over}
use Rattle.b1_peer_pool.proofs.store.Store.publish.Goals as goal

-- what stands in the slices then
filled : (g : Over) (c : goal.After-publish g) → IsFilled c.args.self.now c.args.offset (c.args.offset + c.args.at) (g.P.PoolKind.content c.publish.new.self) (number_bytes c.args.numbers.now)
filled g c =
    publish-filled c.args.self.now c.args.offset c.args.at c.args.numbers.now _ (subst IsStored c.self.view_is c.self.invariant) c.requires.queued c.requires.within
    (c.publish.ensures.content ∙ c.put_numbers.ensures.bytes ∙ ap (λ v. written (c.args.offset + c.args.at) (number_bytes c.args.numbers.now) v.bytes) c.self.view_is)

pub publish-requires : goal.publish-requires
publish-requires g c =
    ap (begins is_unpublished c.args.offset) c.put_numbers.ensures.slices
    ∙ queued_there c.args.offset _ c.args.self.now (ap (λ v. v.slices) c.self.view_is) c.requires.queued

pub invariant_of-self : goal.invariant_of-self
invariant_of-self g c = stored _ _ _ _ c.publish.ensures.sound ((filled g c).as_long ∙ sym (ap (λ v. v.size) c.self.view_is))

pub returns-clause-slices : goal.returns-clause-slices
returns-clause-slices g c =
    published_in_words c.args.offset _ _ c.args.self.now (ap (λ v. v.slices) c.self.view_is)
    (c.publish.ensures.slices ∙ ap (published c.args.offset) c.put_numbers.ensures.slices)

pub returns-clause-holds : goal.returns-clause-holds
returns-clause-holds g c = (filled g c).holds

pub returns-clause-others : goal.returns-clause-others
returns-clause-others g c = (filled g c).others

pub returns-clause-sound : goal.returns-clause-sound
returns-clause-sound g c = stored _ _ _ _ c.publish.ensures.sound ((filled g c).as_long ∙ sym (ap (λ v. v.size) c.self.view_is))
