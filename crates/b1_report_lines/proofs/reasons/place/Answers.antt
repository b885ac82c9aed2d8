use Rattle.std.specs.Prelude.{codes}
use Rattle.std.proofs.Common.{◌≡◌, None, Ok}
use Rattle.b1_report_lines.specs.Forms.{place_at}
use Rattle.b1_report_lines.specs.Reading.{strip, only}
use Rattle.b1_report_lines.proofs.Choosing.{gives_along}
use Rattle.b1_report_lines.proofs.ExactPlaces.{no_reason}
use Rattle.b1_report_lines.proofs.reasons.place.Goals as goal

pub returns-in-Ok : goal.returns-in-Ok
returns-in-Ok c =
    let found : strip (codes "ok") c.args.bytes.now ≡ Ok c.in-Ok.rest.now = cc in
    gives_along (λ x. x) c.alone.result (only None c.in-Ok.rest.now) (place_at c.args.bytes.now) (no_reason c.args.bytes.now c.in-Ok.rest.now found) c.alone.ensures
