use Rattle.std.proofs.Common.{ap, ◌∙◌, arith}
use Rattle.std.specs.Prelude.{option_map}
use Rattle.b1_pool.specs.declared.slices.Slice.{Slice}
use Rattle.b1_pool.specs.Slices.{best_fit}
use Rattle.b1_poolx.specs.Sizes.{free_count}
use Rattle.b1_poolx.proofs.ChangeLemmas.{IsBySize-sized, found_least, length-sized}
use Rattle.b1_poolx.proofs.pool.SizedPool.find_counted.Goals as goal

pub find-requires : goal.find-requires
find-requires g c = IsBySize-sized c.self.inside.slices.items _ (c.deref.ensures.value ∙ c.self.invariant.sized)

pub returns-in-Some-clause-found : goal.returns-in-Some-clause-found
returns-in-Some-clause-found g c =
    ap (option_map (λ (s : Slice). s.offset)) (c.in-Some.ensures.first ∙ found_least c.args.len c.self.inside.slices.items _ (c.deref.ensures.value ∙ c.self.invariant.sized))
    ∙ ap (λ v. best_fit c.args.len v.slices) c.self.view_is

pub returns-in-Some-clause-cost : goal.returns-in-Some-clause-cost
returns-in-Some-clause-cost g c =
    omega (arith, c.find.ensures.cost, length-sized c.self.inside.slices.items _ (c.deref.ensures.value ∙ c.self.invariant.sized), ap (λ v. free_count v.slices) c.self.view_is)

pub returns-in-None-clause-found : goal.returns-in-None-clause-found
returns-in-None-clause-found g c =
    ap (option_map (λ (s : Slice). s.offset)) (c.in-None.ensures.first ∙ found_least c.args.len c.self.inside.slices.items _ (c.deref.ensures.value ∙ c.self.invariant.sized))
    ∙ ap (λ v. best_fit c.args.len v.slices) c.self.view_is

pub returns-in-None-clause-cost : goal.returns-in-None-clause-cost
returns-in-None-clause-cost g c =
    omega (arith, c.find.ensures.cost, length-sized c.self.inside.slices.items _ (c.deref.ensures.value ∙ c.self.invariant.sized), ap (λ v. free_count v.slices) c.self.view_is)
