use Rattle.std.proofs.Common.{ap, ◌∙◌}
use Rattle.std.specs.Prelude.{is_some}
use Rattle.b1_pool.specs.Slices.{has_fit, largest_free}
use Rattle.b1_pool.proofs.FitLemmas.{is_some-least_fit}
use Rattle.b1_poolx.proofs.ChangeLemmas.{IsBySize-sized, found_least, last_largest}
use Rattle.b1_poolx.proofs.pool.SizedPoolPoolKind.fits.Goals as goal

pub find_uncounted-requires : goal.find_uncounted-requires
find_uncounted-requires c = IsBySize-sized c.self.inside.slices.items _ (c.deref.ensures.value ∙ c.self.invariant.sized)

pub returns-then-is_some-clause-ok : goal.returns-then-is_some-clause-ok
returns-then-is_some-clause-ok c =
    c.if-is_some.ensures
    ∙ ap is_some (c.find_uncounted.ensures ∙ found_least c.args.len c.self.inside.slices.items _ (c.deref.ensures.value ∙ c.self.invariant.sized))
    ∙ is_some-least_fit c.args.len c.self.inside.slices.items
    ∙ ap (λ v. has_fit c.args.len v.slices) c.self.view_is

pub returns-clause-ok : goal.returns-clause-ok
returns-clause-ok c =
    c.if-is_some.ensures
    ∙ ap is_some (c.find_uncounted.ensures ∙ found_least c.args.len c.self.inside.slices.items _ (c.deref.ensures.value ∙ c.self.invariant.sized))
    ∙ is_some-least_fit c.args.len c.self.inside.slices.items
    ∙ ap (λ v. has_fit c.args.len v.slices) c.self.view_is

pub returns-clause-full : goal.returns-clause-full
returns-clause-full c =
    ap (λ n. record { asked = c.args.len; largest = n })
    (c.last_length_of.ensures
    ∙ last_largest c.self.inside.slices.items _ (c.deref-2.ensures.value ∙ c.self.invariant.sized)
    ∙ ap (λ v. largest_free v.slices) c.self.view_is)
