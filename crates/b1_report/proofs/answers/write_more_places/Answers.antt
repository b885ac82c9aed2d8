use Rattle.b1_report_lines.specs.Answers.{HasPlaceFields, place_text}
use Rattle.b1_report.proofs.Fits.{one_more_behind_comma, one_more_fits}
use Rattle.b1_report.proofs.answers.write_more_places.Goals as goal

pub loop-place-preserved : goal.loop-place-preserved
loop-place-preserved c = record {
  text = one_more_behind_comma place_text _ _ _ _ _ _ _ c.loop-place-test.true c.loop-place.invariant.text c.in_ok-push_str.ensures.bytes c.in_ok-write_place.ensures.text;
  fits = one_more_fits HasPlaceFields _ _ _ c.loop-place-test.true c.loop-place.invariant.fits c.in_ok-write_place.ensures.fits;
}
