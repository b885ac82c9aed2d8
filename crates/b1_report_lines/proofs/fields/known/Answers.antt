use Rattle.std.specs.Prelude.{codes}
use Rattle.std.proofs.Common.{◌≡◌, Err, arith, sym, ◌∙◌, ◌^◌, ◌-◌}
use Rattle.b1_text_words.specs.Numbers.{invalid}
use Rattle.b1_report_lines.specs.declared.unread.Stop.TheVariants.{Broken}
use Rattle.b1_report_lines.specs.Reading.{strip, only, number_at, known_at}
use Rattle.b1_report_lines.proofs.Choosing.{word_none, fails_along}
use Rattle.b1_report_lines.proofs.Leaves.{number_some, number_none}
use Rattle.b1_report_lines.proofs.fields.known.Goals as goal

pub returns-in-Some : goal.returns-in-Some
returns-in-Some c =
    let broken : strip (codes "invalid") c.args.bytes.now ≡ Err Broken = cc in
    word_none (codes "invalid") (only invalid) (number_at (2 ^ 64 - 1) c.args.bytes.now) c.args.bytes.now broken
    ∙ number_some (2 ^ 64 - 2) (2 ^ 64 - 1) c.args.bytes.now c.in-Some.number (omega arith) (omega arith) c.in-Some.ensures

pub returns-in-None : goal.returns-in-None
returns-in-None c =
    let broken : strip (codes "invalid") c.args.bytes.now ≡ Err Broken = cc in
    rw c.no_number.ensures
    (fails_along _ (number_at (2 ^ 64 - 1) c.args.bytes.now) (known_at c.args.bytes.now)
    (sym (word_none (codes "invalid") (only invalid) (number_at (2 ^ 64 - 1) c.args.bytes.now) c.args.bytes.now broken))
    (number_none (2 ^ 64 - 2) (2 ^ 64 - 1) c.args.bytes.now (omega arith) (omega arith) c.in-None.ensures))
