use Rattle.std.proofs.Common.{arith}
use Rattle.b1_script.proofs.Stops.{one_whole}
use Rattle.b1_script.proofs.pieces.are_one_script.Goals as goal

pub returns : goal.returns
returns c = λ s t. one_whole c.args.bytes.now s t (λ i. omega (arith, c.type_inv.bytes i))
