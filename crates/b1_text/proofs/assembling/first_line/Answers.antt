use Rattle.std.proofs.Common.{refl}
use Rattle.b1_text.proofs.Faults.{first_of, rest_of}
use Rattle.b1_text.proofs.assembling.first_line.Goals as goal

pub returns : goal.returns
returns c =
    first_of c.args.bytes.now c.in_ok-line.line.now c.in_ok-line.field-0-1.now c.args.at _ c.requires c.in_ok-line.ensures.first (rw (rest_of c.args.bytes.now c.args.at) at c.in_ok-line.ensures.parts) refl
