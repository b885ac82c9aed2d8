use Rattle.std.proofs.Common.{subst, arith}
use Rattle.b1_model.specs.declared.commands.Command.{Command}
use Rattle.b1_records.specs.Reading.{Gives, Read}
use Rattle.b1_records.proofs.Records.{answer_found, record_read}
use Rattle.b1_records.proofs.reading.decode.Goals as goal

pub returns-clause-found : goal.returns-clause-found
returns-clause-found c = answer_found c.args.bytes.now c.args.at c.decode_within.result (λ i. omega (arith, c.type_inv.bytes i)) c.decode_within.ensures

pub returns-clause-only : goal.returns-clause-only
returns-clause-only c = λ command end r.
    subst (λ (read : Read Command). Gives (λ x. x) c.decode_within.result read) (record_read c.args.bytes.now c.args.at command end (λ i. omega (arith, c.type_inv.bytes i)) r) c.decode_within.ensures
