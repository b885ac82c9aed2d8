use Rattle.std.proofs.Common.{◌≡◌, [], ◌∷◌, Some, Err, arith, sym}
use Rattle.b1_report_lines.specs.declared.unread.Stop.TheVariants.{Broken}
use Rattle.b1_report_lines.specs.Forms.{numbers_at}
use Rattle.b1_report_lines.specs.Reading.{strip, split_once, known_at}
use Rattle.b1_report_lines.proofs.Items.{loop_step, loop_fails}
use Rattle.b1_report_lines.proofs.Leaves.{shorter_half}
use Rattle.b1_report_lines.proofs.fields.numbers.Goals as goal

pub returns-in-Err : goal.returns-in-Err
unfolding numbers_at
returns-in-Err c =
    let dash : strip (45 ∷ []) c.args.bytes.now ≡ Err Broken = cc in
    let cut : split_once 44 c.loop-part.left.now ≡ Some (c.in-Some.part.now, c.in-Some.rest.now) = sym c.in-Some.ensures in
    rw c.ended.ensures (loop_fails known_at c.loop-part.numbers.items c.args.bytes.now c.loop-part.left.now (c.in-Some.part.now, c.in-Some.rest.now) c.in-Err.why dash c.loop-part.invariant cut c.in-Err.ensures)

pub loop-part-smaller : goal.loop-part-smaller
loop-part-smaller c =
    let cut : split_once 44 c.loop-part.left.now ≡ Some (c.in-Some.part.now, c.in-Some.rest.now) = sym c.in-Some.ensures in
    omega (arith, shorter_half 44 c.loop-part.left.now (c.in-Some.part.now, c.in-Some.rest.now) cut)

pub loop-part-preserved : goal.loop-part-preserved
loop-part-preserved c =
    let cut : split_once 44 c.loop-part.left.now ≡ Some (c.in-Some.part.now, c.in-Some.rest.now) = sym c.in-Some.ensures in
    rw c.in_ok-push-in-Ok-known.ensures.items
    (loop_step known_at c.loop-part.numbers.items c.args.bytes.now c.loop-part.left.now (c.in-Some.part.now, c.in-Some.rest.now) c.in-Ok-known.number c.loop-part.invariant cut c.in-Ok-known.ensures)
