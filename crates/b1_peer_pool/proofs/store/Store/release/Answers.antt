use Rattle.std.proofs.Common.{length, ap, ◌∙◌}
use Rattle.b1_peer_pool.proofs.Kept.{stored, received_there, released_in_words}
use Rattle.b1_peer_pool.proofs.store.Store.release.Goals as goal

pub invariant_of-self : goal.invariant_of-self
invariant_of-self g c = stored _ _ _ _ c.release.ensures.sound (ap length c.release.ensures.content ∙ c.self.invariant.as_long)

pub returns-clause-found : goal.returns-clause-found
returns-clause-found g c = c.is_ok.ensures.value ∙ c.release.ensures.ok ∙ received_there c.args.offset _ c.args.self.now (ap (λ v. v.slices) c.self.view_is)

pub returns-clause-slices : goal.returns-clause-slices
returns-clause-slices g c = released_in_words _ c.args.offset _ _ c.args.self.now (ap (λ v. v.slices) c.self.view_is) c.release.ensures.ok c.release.ensures.slices

pub returns-clause-sound : goal.returns-clause-sound
returns-clause-sound g c = stored _ _ _ _ c.release.ensures.sound (ap length c.release.ensures.content ∙ c.self.invariant.as_long)
