use Rattle.std.proofs.Common.{length, ap, ◌∙◌}
use Rattle.b1_peer_pool.proofs.Kept.{stored, queued_there, back_in_words}
use Rattle.b1_peer_pool.proofs.store.Store.cancel.Goals as goal

pub cancel-requires : goal.cancel-requires
cancel-requires g c = queued_there c.args.offset _ c.args.self.now (ap (λ v. v.slices) c.self.view_is) c.requires

pub returns-clause-slices : goal.returns-clause-slices
returns-clause-slices g c = back_in_words c.args.offset _ _ c.args.self.now (ap (λ v. v.slices) c.self.view_is) c.cancel.ensures.slices

pub invariant_of-self : goal.invariant_of-self
invariant_of-self g c = stored _ _ _ _ c.cancel.ensures.sound (ap length c.cancel.ensures.content ∙ c.self.invariant.as_long)

pub returns-clause-sound : goal.returns-clause-sound
returns-clause-sound g c = stored _ _ _ _ c.cancel.ensures.sound (ap length c.cancel.ensures.content ∙ c.self.invariant.as_long)
