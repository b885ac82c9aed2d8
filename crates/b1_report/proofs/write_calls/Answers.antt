use Rattle.std.proofs.Common.{◌∙◌, ◌++◌, ap, Option, ℕ, string_bytes}
use Rattle.b1_report.specs.Report.{call_text}
use Rattle.b1_report.proofs.Texts.{calls_text_more}
use Rattle.b1_report.specs.Parsing.{HasCallFields}
use Rattle.b1_report.proofs.Fits.{one_more_fits}
use Rattle.b1_report.proofs.write_calls.Goals as goal

pub loop-place-preserved : goal.loop-place-preserved
loop-place-preserved c = record {
  text =
      c.in_ok-write_call.ensures.text ∙ ap (λ (cookie : Option ℕ). string_bytes c.loop-place.out ++ call_text cookie c.call-item.result) c.cookie_at.ensures
      ∙ calls_text_more c.args.cookies.now c.as_slice-call-items.result.now c.loop-place.place c.call-item.result _ _ c.loop-place-test.true c.call-item.is c.loop-place.invariant.text;
  fits = one_more_fits HasCallFields _ _ _ c.loop-place-test.true c.loop-place.invariant.fits (rw c.call-item.is at c.in_ok-write_call.ensures.fits);
}
