use Rattle.std.proofs.Common.{◌≢◌, List, ℕ, subst}
use Rattle.b1_shell.specs.declared.Said.TheVariants.{Bad}
use Rattle.b1_shell.specs.declared.forms.Form.TheVariants.{Asm}
use Rattle.b1_shell.specs.Answers.{IsAsked, Says}
use Rattle.b1_shell.proofs.Inputs.{is_long, is_read, none_of, some_of}
use Rattle.b1_shell.proofs.read_and_assemble.Goals as goal

pub returns-in_ok-answer_asm-in-Some-clause-read : goal.returns-in_ok-answer_asm-in-Some-clause-read
returns-in_ok-answer_asm-in-Some-clause-read g c =
    let said = c.in_ok-answer_asm-in-Some in
    is_read (Says Asm) Asm _ _ said.field-0.0 said.field-0.1.items c.in-Some.bytes.items (subst (λ (b : List ℕ). Says Asm b said.field-0.0 said.field-0.1.items) c.deref.ensures.value said.ensures.says) (subst (λ (b : List ℕ). IsAsked Asm b → said.field-0.0 ≢ Bad) c.deref.ensures.value said.ensures.accepted) (some_of c.in_ok-bytes.field-0 c.in-Some.bytes _ c.in-Some.is c.in_ok-bytes.ensures.all) (some_of c.in_ok-bytes.field-0 c.in-Some.bytes _ c.in-Some.is c.in_ok-bytes.ensures.end)

pub returns-in_ok-bad_line-in-None-clause-read : goal.returns-in_ok-bad_line-in-None-clause-read
returns-in_ok-bad_line-in-None-clause-read g c =
    is_long (Says Asm) Asm _ _ _ (λ held faulty. faulty) (none_of c.in_ok-bytes.field-0 _ c.in-None.is c.in_ok-bytes.ensures.long) c.in_ok-bad_line-in-None.ensures
