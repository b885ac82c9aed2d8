use Rattle.std.proofs.Common.{◌≡◌, ℕ, ◌+◌, ◌-◌, ◌/◌, ◌<◌, ◌≤◌, ◌*◌, length, sym, arith, add-one}
use Rattle.b1_poolx.proofs.SizeLemmas.{AllShorter-take, NoneShorter-drop, halved}
use Rattle.b1_poolx.proofs.sizes.count_shorter.Goals as goal

pub loop-low-preserved-then-is_shorter : goal.loop-low-preserved-then-is_shorter
loop-low-preserved-then-is_shorter g c =
    let inv = c.loop-low.invariant in
    let low : ℕ = c.loop-low.low in
    let high : ℕ = c.loop-low.high in
    let middle : ℕ = low + (high - low) / 2 in
    let some : low < high = c.loop-low-test.true in
    let lt : middle < length c.args.free.now = omega (arith, inv.within) in
    let half : 2 * (high - (middle + 1)) ≤ high - low = omega arith in
    let wide : 0 < high - low = omega arith in
    let next : c.is_shorter.new.steps - c.args.steps.now ≡ c.loop-low.steps - c.args.steps.now + 1 = omega (arith, c.is_shorter.ensures.step, inv.rises) in
    let bound = halved _ _ _ _ _ next wide half inv.left in
    record {
      ordered = omega arith;
      within = inv.within;
      below = rw (add-one middle) (AllShorter-take c.args.len c.args.free.now middle _ c.requires lt (sym c.if-is_shorter.ensures.shorter));
      above = inv.above;
      rises = omega (arith, c.is_shorter.ensures.step, inv.rises);
      left = bound.0;
      cost = bound.1;
    }

pub loop-low-preserved : goal.loop-low-preserved
loop-low-preserved g c =
    let inv = c.loop-low.invariant in
    let low : ℕ = c.loop-low.low in
    let high : ℕ = c.loop-low.high in
    let middle : ℕ = low + (high - low) / 2 in
    let some : low < high = c.loop-low-test.true in
    let lt : middle < length c.args.free.now = omega (arith, inv.within) in
    let half : 2 * (middle - low) ≤ high - low = omega arith in
    let wide : 0 < high - low = omega arith in
    let next : c.is_shorter.new.steps - c.args.steps.now ≡ c.loop-low.steps - c.args.steps.now + 1 = omega (arith, c.is_shorter.ensures.step, inv.rises) in
    let bound = halved _ _ _ _ _ next wide half inv.left in
    record {
      ordered = omega arith;
      within = omega (arith, lt);
      below = inv.below;
      above = NoneShorter-drop c.args.len c.args.free.now middle _ c.requires lt (sym c.if-is_shorter.ensures.shorter);
      rises = omega (arith, c.is_shorter.ensures.step, inv.rises);
      left = bound.0;
      cost = bound.1;
    }
