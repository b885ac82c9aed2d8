use Rattle.std.proofs.Common.{◌<◌, length, refl, sym, ap, ◌∙◌, arith}
use Rattle.std.proofs.lemmas.Bool.{false≢true}
use Rattle.std.proofs.lemmas.Option.{same_Some, slice_get_read, slice_get_within}
use Rattle.b1_pool.proofs.PlaceLemmas.{slice_at-none}
use Rattle.b1_pool.proofs.OrderLemmas.{none_before, none_begins}
use Rattle.b1_pool.proofs.places.place_of.Goals as goal

pub returns-then-from-off : goal.returns-then-from-off
returns-then-from-off c =
    let xs = c.args.slices.now.items in
    let within : c.count_before-i.result < length xs = omega (arith, c.in-Some.ensures.variant.0 refl) in
    record {
      slice = c.in-Some.s.now;
      found = slice_get_read xs _ _ _ refl within c.in-Some.ensures.lookup;
      begins_here = sym c.from.ensures ∙ c.if-from-off.true;
      first = none_before c.args.off c.count_before-i.result xs c.count_before-i.ensures.before;
    }

pub returns-else-from-off : goal.returns-else-from-off
returns-else-from-off c =
    let xs = c.args.slices.now.items in
    let within : c.count_before-i.result < length xs = omega (arith, c.in-Some.ensures.variant.0 refl) in
    let found = slice_get_read xs _ c.count_before-i.result c.in-Some.s.now refl within c.in-Some.ensures.lookup in
    let e = c.count_before-i.ensures in
    slice_at-none c.args.off xs
    (none_begins c.args.off c.count_before-i.result xs c.requires e.before e.after
    (λ t at. λ same. c.if-from-off.false (c.from.ensures ∙ ap (λ y. y.offset) (same_Some _ t (sym found ∙ at)) ∙ same)))

pub returns-in_default : goal.returns-in_default
returns-in_default c =
    let xs = c.args.slices.now.items in
    let e = c.count_before-i.ensures in
    slice_at-none c.args.off xs
    (none_begins c.args.off c.count_before-i.result xs c.requires e.before e.after
    (λ t at. absurd (false≢true (c.in_default.ensures.variant.1 (omega (arith, slice_get_within xs c.count_before-i.result t at))))))
