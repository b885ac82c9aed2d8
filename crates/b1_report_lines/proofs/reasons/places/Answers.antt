use Rattle.std.proofs.Common.{◌≡◌, [], ◌∷◌, Some, Ok, arith, sym}
use Rattle.b1_report_lines.specs.Forms.{place_at, places_at}
use Rattle.b1_report_lines.specs.Reading.{strip, split_once, only}
use Rattle.b1_report_lines.proofs.Choosing.{gives_along}
use Rattle.b1_report_lines.proofs.ExactPlaces.{no_places}
use Rattle.b1_report_lines.proofs.Items.{loop_step}
use Rattle.b1_report_lines.proofs.Leaves.{shorter_half}
use Rattle.b1_report_lines.proofs.reasons.places.Goals as goal

pub returns-in-Ok : goal.returns-in-Ok
returns-in-Ok c =
    let found : strip (45 ∷ []) c.args.bytes.now ≡ Ok c.in-Ok.rest.now = cc in
    gives_along (λ x. x) c.alone.result (only [] c.in-Ok.rest.now) (places_at c.args.bytes.now) (no_places c.args.bytes.now c.in-Ok.rest.now found) (rw (c.new.ensures) at c.alone.ensures)

pub loop-part-smaller : goal.loop-part-smaller
loop-part-smaller c =
    let cut : split_once 44 c.loop-part.left.now ≡ Some (c.in-Some.part.now, c.in-Some.rest.now) = sym c.in-Some.ensures in
    omega (arith, shorter_half 44 c.loop-part.left.now (c.in-Some.part.now, c.in-Some.rest.now) cut)

pub loop-part-preserved : goal.loop-part-preserved
loop-part-preserved c =
    let cut : split_once 44 c.loop-part.left.now ≡ Some (c.in-Some.part.now, c.in-Some.rest.now) = sym c.in-Some.ensures in
    rw c.in_ok-push-in-Ok-place.ensures.items
    (loop_step place_at c.loop-part.places.items c.args.bytes.now c.loop-part.left.now (c.in-Some.part.now, c.in-Some.rest.now) c.in-Ok-place.place c.loop-part.invariant cut c.in-Ok-place.ensures)
