use Rattle.std.proofs.Common.{◌<◌, ◌+◌, length, sym, refl, arith}
use Rattle.std.proofs.lemmas.Bool.{and_parts}
use Rattle.std.proofs.lemmas.Option.{slice_get_read}
use Rattle.b1_pool.specs.Slices.{is_free}
use Rattle.b1_pool.proofs.SliceLemmas.{total-both, total-two_read, joined_at-last}
use Rattle.b1_pool.proofs.places.join_next.Goals as goal

pub overflow_add-both : goal.overflow_add-both
overflow_add-both c =
    let within : c.args.i + 1 < length c.args.slices.now.items = omega arith in
    omega (arith, total-two_read c.args.slices.now.items c.args.i _ _ within c.index.ensures c.index-then-i-len.ensures)

pub returns-then-are_free-clause-pair : goal.returns-then-are_free-clause-pair
returns-then-are_free-clause-pair c =
    let next : c.args.i + 1 < length c.args.slices.now.items = omega arith in
    let here : c.args.i < length c.args.slices.now.items = omega arith in
    let free = and_parts (is_free c.index.result.now) (is_free c.index-then-i-len.result.now) (sym c.if-are_free.ensures) in
    record {
      first_at = slice_get_read c.args.slices.now.items _ _ _ refl here c.index.ensures;
      second_at = slice_get_read c.args.slices.now.items _ _ _ refl next c.index-then-i-len.ensures;
      first_free = free.0;
      second_free = free.1;
    }

pub returns-then-are_free-clause-total : goal.returns-then-are_free-clause-total
returns-then-are_free-clause-total c =
    let within : c.args.i + 1 < length c.args.slices.now.items = omega arith in
    let both = sym c.if-are_free.ensures in
    let removed = rw (c.remove.ensures.succeeds c.index.result.now (omega arith)) at c.remove.ensures.items in
    total-both c.args.slices.now.items _ _ _ _ within c.index.ensures c.index-then-i-len.ensures both removed

pub returns-else-i-len-clause-slices : goal.returns-else-i-len-clause-slices
returns-else-i-len-clause-slices c = joined_at-last _ _ (omega arith)
