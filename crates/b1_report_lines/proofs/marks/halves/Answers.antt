use Rattle.b1_report_lines.proofs.Leaves.{halves_are}
use Rattle.b1_report_lines.proofs.marks.halves.Goals as goal

pub returns : goal.returns
returns c = halves_are c.args.mark c.args.bytes.now c.split.result c.split.ensures.parts c.split.ensures.first c.split.ensures.free
