use Rattle.std.proofs.Common.{Result, subst, arith}
use Rattle.b1_records.specs.Reading.{Gives, Fault}
use Rattle.b1_script.specs.declared.script.Script.{Script}
use Rattle.b1_script.proofs.Laws.{whole_answer, whole_read}
use Rattle.b1_script.proofs.reading.read_whole.Goals as goal

pub returns-clause-found : goal.returns-clause-found
returns-clause-found c = whole_answer c.args.bytes.now c.whole.result (λ i. omega (arith, c.type_inv.bytes i)) c.whole.ensures

pub returns-clause-only : goal.returns-clause-only
returns-clause-only c = λ s is.
    subst (λ (read : Result Script Fault). Gives (λ x. x) c.whole.result read) (whole_read c.args.bytes.now s (λ i. omega (arith, c.type_inv.bytes i)) is) c.whole.ensures
