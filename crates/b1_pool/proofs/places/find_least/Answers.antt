use Rattle.std.proofs.Common.{ap, sym, ◌∙◌}
use Rattle.b1_pool.specs.Slices.{least_fit}
use Rattle.b1_pool.specs.Places.{least_of}
use Rattle.b1_pool.proofs.FitLemmas.{least_fit-append}
use Rattle.b1_pool.proofs.places.find_least.Goals as goal

pub returns : goal.returns
returns c =
    c.least_with-2.ensures
    ∙ ap (λ l. least_of l (least_fit c.args.len c.as_slices.result.1.now)) c.least_with.ensures
    ∙ sym (least_fit-append c.args.len c.as_slices.result.0.now c.as_slices.result.1.now)
    ∙ ap (least_fit c.args.len) c.as_slices.ensures.items
