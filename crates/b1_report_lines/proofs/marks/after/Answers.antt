use Rattle.std.proofs.Common.{◌≤◌, ◌∙◌, length, arith, sym, ap}
use Rattle.b1_report_lines.specs.Reading.{strip}
use Rattle.b1_report_lines.proofs.Leaves.{strip_ends}
use Rattle.b1_report_lines.proofs.marks.after.Goals as goal

pub returns-in-None : goal.returns-in-None
returns-in-None c =
    let past : length c.args.bytes.now ≤ c.loop-at.at = omega (arith, c.in-None.ensures.lookup.3) in
    sym (strip_ends c.as_bytes-letters.result.now c.args.bytes.now c.loop-at.at (omega arith) past) ∙ c.loop-at.invariant.0 ∙ ap (λ x. strip x c.args.bytes.now) c.as_bytes-letters.ensures.value
