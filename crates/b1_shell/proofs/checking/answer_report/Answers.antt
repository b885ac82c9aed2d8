use Rattle.std.proofs.Common.{arith}
use Rattle.b1_shell.proofs.Inputs.{end_within, report_fault, told_place}
use Rattle.b1_shell.proofs.checking.answer_report.Goals as goal

pub overflow_cast-peers : goal.overflow_cast-peers
overflow_cast-peers c = omega (arith, c.len-peers.ensures, c.requires.is.script.has_spelling.opening.most)

pub overflow_add-front : goal.overflow_add-front
overflow_add-front c =
    let within = told_place _ c.len-peers.result c.in-Err-Bad.at c.deref.result.now c.args.front.now.behind.items c.in-Err-Bad.cause c.in-Err-Bad.field-0 c.deref.ensures.value c.in-Err-Bad.field-0-is c.in-Err-Bad.ensures.tells in
    omega (arith, end_within c.args.front.now c.requires, within)

pub returns-in_ok-bad_line-in-Err-Bad-clause-says : goal.returns-in_ok-bad_line-in-Err-Bad-clause-says
returns-in_ok-bad_line-in-Err-Bad-clause-says c = λ input few is.
    report_fault c.args.front.now input _ c.deref.result.now _ c.len-peers.result c.in-Err-Bad.at c.in-Err-Bad.cause c.in-Err-Bad.field-0 few is c.len-peers.ensures c.as_ref.ensures.value c.deref.ensures.value c.in-Err-Bad.field-0-is c.in-Err-Bad.ensures.tells c.in_ok-bad_line-in-Err-Bad.ensures
