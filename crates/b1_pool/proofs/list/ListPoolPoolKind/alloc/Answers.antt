use Rattle.std.proofs.Common.{ap, sym, subst, ◌∙◌}
use Rattle.std.specs.Prelude.{is_some, option_map}
use Rattle.std.proofs.lemmas.Bool.{false≢true}
use Rattle.b1_pool.specs.Slices.{least_fit, has_fit, is_fit, best_fit, IsBestFit}
use Rattle.b1_pool.proofs.FitLemmas.{is_some-least_fit, least_fit-free}
use Rattle.b1_pool.proofs.PoolLemmas.{begins-least_fit, least_fit-found, IsBestFit-least_fit, inside-IsPool}
use Rattle.b1_pool.proofs.OrderLemmas.{rising-IsPool}
use Rattle.b1_pool.proofs.SliceLemmas.{slice_at-with_alloc}
use Rattle.b1_pool.proofs.list.ListPoolPoolKind.alloc.Goals as goal

pub take-requires-clause-rising : goal.take-requires-clause-rising
take-requires-clause-rising c = rising-IsPool _ _ c.self.invariant.pool

pub take-requires-clause-found : goal.take-requires-clause-found
take-requires-clause-found c =
    let found = sym (least_fit-free c.args.len c.self.inside.slices.items) ∙ ap (least_fit c.args.len) (sym c.self.invariant.listed) ∙ sym c.in-Some.ensures in
    (least_fit-found _ c.args.len _ _ c.self.invariant.pool found).0

pub take-requires-clause-fit : goal.take-requires-clause-fit
take-requires-clause-fit c =
    let found = sym (least_fit-free c.args.len c.self.inside.slices.items) ∙ ap (least_fit c.args.len) (sym c.self.invariant.listed) ∙ sym c.in-Some.ensures in
    (least_fit-found _ c.args.len _ _ c.self.invariant.pool found).1

pub take-requires-clause-inside : goal.take-requires-clause-inside
take-requires-clause-inside c =
    let found = sym (least_fit-free c.args.len c.self.inside.slices.items) ∙ ap (least_fit c.args.len) (sym c.self.invariant.listed) ∙ sym c.in-Some.ensures in
    inside-IsPool _ _ (is_fit c.args.len) _ c.self.invariant.pool (begins-least_fit _ c.args.len _ _ c.self.invariant.pool found)

pub unreachable-requires : goal.unreachable-requires
unreachable-requires c =
    let none = sym (least_fit-free c.args.len c.self.inside.slices.items) ∙ ap (least_fit c.args.len) (sym c.self.invariant.listed) ∙ sym c.in-None.ensures in
    false≢true (sym (ap is_some none) ∙ is_some-least_fit c.args.len c.self.inside.slices.items ∙ ap (λ v. has_fit c.args.len v.slices) c.self.view_is ∙ c.requires.fit)

pub returns-clause-offset : goal.returns-clause-offset
returns-clause-offset c =
    let found = sym (least_fit-free c.args.len c.self.inside.slices.items) ∙ ap (least_fit c.args.len) (sym c.self.invariant.listed) ∙ sym c.in-Some.ensures in
    sym (ap (λ v. best_fit c.args.len v.slices) c.self.view_is) ∙ ap (option_map (λ s. s.offset)) found

pub returns-clause-least : goal.returns-clause-least
returns-clause-least c =
    let found = sym (least_fit-free c.args.len c.self.inside.slices.items) ∙ ap (least_fit c.args.len) (sym c.self.invariant.listed) ∙ sym c.in-Some.ensures in
    subst (λ v. IsBestFit c.args.len v.slices c.in-Some.s.offset) c.self.view_is (IsBestFit-least_fit _ c.args.len _ _ c.self.invariant.pool found)

pub returns-clause-taken : goal.returns-clause-taken
returns-clause-taken c =
    let found = sym (least_fit-free c.args.len c.self.inside.slices.items) ∙ ap (least_fit c.args.len) (sym c.self.invariant.listed) ∙ sym c.in-Some.ensures in
    rw c.take.ensures.slices (slice_at-with_alloc _ c.args.len _ _ (IsBestFit-least_fit _ c.args.len _ _ c.self.invariant.pool found).begins_here)
