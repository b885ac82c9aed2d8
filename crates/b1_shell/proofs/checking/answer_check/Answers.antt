use Rattle.b1_input.specs.Held.{held_bytes}
use Rattle.b1_shell.proofs.Inputs.{checked_said, refused_front}
use Rattle.b1_shell.proofs.checking.answer_check.Goals as goal

pub returns-in-Ok-clause-accepted : goal.returns-in-Ok-clause-accepted
returns-in-Ok-clause-accepted c = checked_said (λ r. r.0) c.answer_report.result (held_bytes c.args.input) c.in-Ok.front c.in-Ok.ensures.found c.in-Ok.ensures.only c.answer_report.ensures.accepted

pub returns-in_ok-bad_line-in-Err-Bad-clause-accepted : goal.returns-in_ok-bad_line-in-Err-Bad-clause-accepted
returns-in_ok-bad_line-in-Err-Bad-clause-accepted c = λ asked same. refused_front (held_bytes c.args.input) c.in-Err-Bad.at c.in-Err-Bad.cause c.in-Err-Bad.field-0 c.in-Err-Bad.field-0-is c.in-Err-Bad.ensures.only asked
