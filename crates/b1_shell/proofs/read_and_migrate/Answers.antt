use Rattle.b1_input.specs.Held.{held_bytes}
use Rattle.b1_shell.specs.declared.forms.Form.TheVariants.{Migrate}
use Rattle.b1_shell.specs.Answers.{Says}
use Rattle.b1_shell.proofs.Inputs.{is_long, is_read, none_of, some_of}
use Rattle.b1_shell.proofs.read_and_migrate.Goals as goal

pub returns-in_ok-answer_migrate-in-Some-clause-read : goal.returns-in_ok-answer_migrate-in-Some-clause-read
returns-in_ok-answer_migrate-in-Some-clause-read g c =
    let said = c.in_ok-answer_migrate-in-Some in
    is_read (Says Migrate) Migrate _ _ said.field-0.0 said.field-0.1.items (held_bytes c.in-Some.input) said.ensures.says said.ensures.accepted (some_of c.in_ok-input.field-0 c.in-Some.input _ c.in-Some.is c.in_ok-input.ensures.all) (some_of c.in_ok-input.field-0 c.in-Some.input _ c.in-Some.is c.in_ok-input.ensures.end)

pub returns-in_ok-bad_line-in-None-clause-read : goal.returns-in_ok-bad_line-in-None-clause-read
returns-in_ok-bad_line-in-None-clause-read g c =
    is_long (Says Migrate) Migrate _ _ _ (λ held faulty. faulty) (none_of c.in_ok-input.field-0 _ c.in-None.is c.in_ok-input.ensures.long) c.in_ok-bad_line-in-None.ensures
