use Rattle.std.proofs.Common.{◌<◌}
use Rattle.std.proofs.lemmas.List.Elements.{All-from_get_or}
use native.Mathlib.Omega.{arith}
use Rattle.b1_nodes.proofs.Doomed.{no_more}
use Rattle.b1_inv_peer.specs.Needs.{VisitsAnew}
use Rattle.b1_peer.proofs.KeptSends.{of_fields}
use Rattle.b1_peer.proofs.KeptVisits.{visit_fits, visit_kept, visit_seen}
use Rattle.b1_peer.proofs.state.PeerState.visit.Goals as goal

pub stage_foreign-staged-requires-clause-few : goal.stage_foreign-staged-requires-clause-few
stage_foreign-staged-requires-clause-few g c =
    no_more 4294967296 c.args.doomed.now c.requires.distinct
    (All-from_get_or (λ x. x < 4294967296) c.args.doomed.now 0 (λ i low. omega (arith, c.type_inv.doomed i)))

pub stage_foreign-staged-requires-clause-new : goal.stage_foreign-staged-requires-clause-new
stage_foreign-staged-requires-clause-new g c =
    let new = of_fields (λ s. VisitsAnew s.part c.args.origin c.args.doomed.now) _ _ c.self.invariant c.self.view_is c.requires.new_keys in
    (visit_fits _ c.self.invariant c.args.origin c.args.doomed.now new).new

pub invariant_of-self : goal.invariant_of-self
invariant_of-self g c =
    let new = of_fields (λ s. VisitsAnew s.part c.args.origin c.args.doomed.now) _ _ c.self.invariant c.self.view_is c.requires.new_keys in
    visit_kept _ c.args.origin c.args.doomed.now c.stage_foreign-staged.new.mail c.stage_foreign-staged.new.handles (visit_fits _ c.self.invariant c.args.origin c.args.doomed.now new) c.stage_foreign-staged.ensures.mail c.stage_foreign-staged.ensures.handles

pub returns-clause-visited : goal.returns-clause-visited
returns-clause-visited g c = rw (← c.self.view_is) (visit_seen _ c.self.invariant c.args.origin c.args.doomed.now c.stage_foreign-staged.new.mail c.stage_foreign-staged.new.handles c.stage_foreign-staged.ensures.mail c.stage_foreign-staged.ensures.handles)
