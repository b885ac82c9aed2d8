use Rattle.std.proofs.Common.{ap, ◌∙◌}
use Rattle.std.specs.Prelude.{is_some}
use Rattle.b1_pool.specs.Slices.{least_fit, largest_free, has_fit}
use Rattle.b1_pool.proofs.FitLemmas.{is_some-least_fit, least_fit-free, largest_free-free}
use Rattle.b1_pool.proofs.list.ListPoolPoolKind.fits.Goals as goal

pub returns-then-is_some-clause-ok : goal.returns-then-is_some-clause-ok
returns-then-is_some-clause-ok c =
    c.if-is_some.ensures
    ∙ ap is_some (c.find_least.ensures ∙ ap (least_fit c.args.len) c.self.invariant.listed ∙ least_fit-free c.args.len c.self.inside.slices.items)
    ∙ is_some-least_fit c.args.len c.self.inside.slices.items
    ∙ ap (λ v. has_fit c.args.len v.slices) c.self.view_is

pub returns-clause-ok : goal.returns-clause-ok
returns-clause-ok c =
    c.if-is_some.ensures
    ∙ ap is_some (c.find_least.ensures ∙ ap (least_fit c.args.len) c.self.invariant.listed ∙ least_fit-free c.args.len c.self.inside.slices.items)
    ∙ is_some-least_fit c.args.len c.self.inside.slices.items
    ∙ ap (λ v. has_fit c.args.len v.slices) c.self.view_is

pub returns-clause-full : goal.returns-clause-full
returns-clause-full c =
    ap (λ n. record { asked = c.args.len; largest = n }) (c.find_largest.ensures ∙ ap largest_free c.self.invariant.listed ∙ largest_free-free c.self.inside.slices.items ∙ ap (λ v. largest_free v.slices) c.self.view_is)
