use Rattle.std.proofs.Common.{subst, arith}
use Rattle.b1_records.specs.Reading.{Gives, Read}
use Rattle.b1_script.specs.declared.script.Script.{Script}
use Rattle.b1_script.proofs.Laws.{answer_found, script_read}
use Rattle.b1_script.proofs.reading.read.Goals as goal

pub returns-clause-found : goal.returns-clause-found
returns-clause-found c = answer_found c.args.bytes.now c.script.result (λ i. omega (arith, c.type_inv.bytes i)) c.script.ensures

pub returns-clause-only : goal.returns-clause-only
returns-clause-only c = λ s end is.
    subst (λ (read : Read Script). Gives (λ x. x) c.script.result read) (script_read c.args.bytes.now s end (λ i. omega (arith, c.type_inv.bytes i)) is) c.script.ensures
