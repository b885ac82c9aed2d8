use Rattle.std.proofs.Common.{arith}
use Rattle.b1_records.proofs.Cookies.{answer2_found, answer2_only}
use Rattle.b1_records.proofs.reading.decode2.Goals as goal

pub returns-clause-found : goal.returns-clause-found
returns-clause-found c = answer2_found c.args.bytes.now c.args.at c.decode2_within.result (λ i. omega (arith, c.type_inv.bytes i)) c.decode2_within.ensures

pub returns-clause-only : goal.returns-clause-only
returns-clause-only c = λ cookie command end r. answer2_only c.args.bytes.now c.args.at c.decode2_within.result cookie command end (λ i. omega (arith, c.type_inv.bytes i)) c.decode2_within.ensures r
