use Rattle.std.proofs.Common.{arith}
use Rattle.b1_text.proofs.SpecLines.{spec_line, no_spec}
use Rattle.b1_text.proofs.beginning.begins_spec.Goals as goal

pub returns-then-left-lt8 : goal.returns-then-left-lt8
returns-then-left-lt8 c = no_spec c.args.left c.args.line.now c.if-left-lt8.true

pub returns : goal.returns
returns c =
    spec_line c.args.left c.args.line.now c.begins_line.result c.begins_line.ensures
    (λ n is. (record { eighths = omega (arith, is.least, is.step); least = is.least; most = omega (arith, is.most) }, omega (arith, is.most)))
    (λ n is room. record { least = is.least; most = omega (arith, is.most, room); step = omega (arith, is.eighths, is.least) })
