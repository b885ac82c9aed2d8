-- What reading an answer tells of its bytes.
use Rattle.std.proofs.Common.{◌≡◌, ℕ, List, ◌++◌, Result, Ok, Err, ap, ◌∙◌}
use Rattle.b1_model.specs.declared.answers.Answer.{Answer}
use Rattle.b1_model.specs.declared.commands.Command.{Command}
use Rattle.b1_report_lines.specs.declared.unread.Stop.TheVariants.{Cut, Broken}
use Rattle.b1_report_lines.specs.declared.unread.Unread.{Unread}
use Rattle.b1_report_lines.specs.declared.unread.Unread.TheVariants.{Stopped, Memory}
use Rattle.b1_report_lines.specs.Answers.{IsAnswerText, BeginAnswer, TellsAnswer}
use Rattle.b1_report_lines.specs.Forms.{answer_at}
use Rattle.b1_report_lines.specs.Reading.{Gives}
use Rattle.b1_report_lines.proofs.ExactAnswers.{answer_exact}

-- the answer whose text the bytes are is read
pub is_read : (command : Command) (bytes : List ℕ) (answer : Answer) → IsAnswerText command bytes answer → answer_at command bytes ≡ Ok answer
is_read command bytes answer h = ap (answer_at command) h.spelled ∙ (answer_exact command).again answer (h.can, h.fields)

pub one_answer : (command : Command) (bytes : List ℕ) (x y : Answer) → IsAnswerText command bytes x → IsAnswerText command bytes y → x ≡ y
one_answer command bytes x y h k =
    let a : answer_at command bytes ≡ Ok x = is_read command bytes x h in
    let b : answer_at command bytes ≡ Ok y = is_read command bytes y k in
    cc

not_cut : (command : Command) (bytes : List ℕ) (answer : Answer) → answer_at command bytes ≡ Err Cut → IsAnswerText command bytes answer → ⊥
not_cut command bytes answer e h = let r : answer_at command bytes ≡ Ok answer = is_read command bytes answer h in cc

not_broken : (command : Command) (bytes : List ℕ) → answer_at command bytes ≡ Err Broken → BeginAnswer command bytes → ⊥
not_broken command bytes e h =
    let r : answer_at command (bytes ++ h.rest) ≡ Ok h.answer = is_read command (bytes ++ h.rest) h.answer h.whole in
    let s : answer_at command (bytes ++ h.rest) ≡ Err Broken = (answer_exact command).stable bytes h.rest e in
    cc

begins : (command : Command) (bytes : List ℕ) → answer_at command bytes ≡ Err Cut → BeginAnswer command bytes
begins command bytes e =
    let c = (answer_exact command).cut bytes e in
    record { rest = c.0; answer = c.1; whole = record { can = c.2.1.0; fields = c.2.1.1; spelled = c.2.0 } }

pub tells : (command : Command) (bytes : List ℕ) (r : Result Answer Unread) → Gives (λ x. x) r (answer_at command bytes) → TellsAnswer command bytes r
tells command bytes (Ok answer) h = let t = (answer_exact command).takes bytes answer h in record { can = t.1.0; fields = t.1.1; spelled = t.0 }
tells command bytes (Err Memory) h = tt
tells command bytes (Err (Stopped Cut)) h = (begins command bytes h, λ answer k. not_cut command bytes answer h k)
tells command bytes (Err (Stopped Broken)) h = λ k. not_broken command bytes h k
