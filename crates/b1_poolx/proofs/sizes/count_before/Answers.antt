use Rattle.std.proofs.Common.{ℕ, ◌+◌, ◌-◌, ◌/◌, ◌<◌, length, sym, arith, add-one}
use Rattle.b1_poolx.proofs.SizeLemmas.{AllBefore-take, NoneBefore-drop}
use Rattle.b1_poolx.proofs.sizes.count_before.Goals as goal

pub loop-low-preserved-then-comes_before : goal.loop-low-preserved-then-comes_before
loop-low-preserved-then-comes_before c =
    let inv = c.loop-low.invariant in
    let middle : ℕ = c.loop-low.low + (c.loop-low.high - c.loop-low.low) / 2 in
    let some : c.loop-low.low < c.loop-low.high = c.loop-low-test.true in
    let lt : middle < length c.args.free.now = omega (arith, inv.within) in
    record {
      ordered = omega arith;
      within = inv.within;
      below = rw (add-one middle) (AllBefore-take c.args.s.now c.args.free.now middle _ c.requires lt (sym c.if-comes_before.ensures));
      above = inv.above;
    }

pub loop-low-preserved : goal.loop-low-preserved
loop-low-preserved c =
    let inv = c.loop-low.invariant in
    let middle : ℕ = c.loop-low.low + (c.loop-low.high - c.loop-low.low) / 2 in
    let some : c.loop-low.low < c.loop-low.high = c.loop-low-test.true in
    let lt : middle < length c.args.free.now = omega (arith, inv.within) in
    record {
      ordered = omega arith;
      within = omega (arith, lt);
      below = inv.below;
      above = NoneBefore-drop c.args.s.now c.args.free.now middle _ c.requires lt (sym c.if-comes_before.ensures);
    }
