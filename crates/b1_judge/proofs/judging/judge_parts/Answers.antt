-- Each part in its turn, where those before it are kept.
use Rattle.b1_judge.specs.declared.verdict.Clause.TheVariants as the
use Rattle.b1_judge.proofs.JudgedLemmas.{kept_is, says_first}
use Rattle.b1_judge.proofs.judging.judge_parts.Goals as goal

pub returns-in-Some : goal.returns-in-Some
returns-in-Some c =
    says_first c.args.script.now c.args.rec.now c.requires.lists the.Script c.in_ok-found.field-0 c.in-Some.found c.broken.result
    tt (c.in_ok-found.ensures) c.in-Some.is c.broken.ensures

pub returns-in-Some-2 : goal.returns-in-Some-2
returns-in-Some-2 c =
    says_first c.args.script.now c.args.rec.now c.requires.lists the.Keys c.in_ok-found-2.field-0 c.in-Some-2.found c.broken-in-Some-2.result
    (kept_is c.args.script.now c.args.rec.now c.requires.lists the.Script c.in_ok-found.field-0 c.in_ok-found.ensures c.in_default.is, tt)
    c.in_ok-found-2.ensures c.in-Some-2.is c.broken-in-Some-2.ensures

pub returns-in-Some-3 : goal.returns-in-Some-3
returns-in-Some-3 c =
    says_first c.args.script.now c.args.rec.now c.requires.lists the.Order c.in_ok-found-3.field-0 c.in-Some-3.found c.broken-in-Some-3.result (
      kept_is c.args.script.now c.args.rec.now c.requires.lists the.Script c.in_ok-found.field-0 c.in_ok-found.ensures c.in_default.is,
      (kept_is c.args.script.now c.args.rec.now c.requires.lists the.Keys c.in_ok-found-2.field-0 c.in_ok-found-2.ensures c.in_default-2.is, tt),
    )
    c.in_ok-found-3.ensures c.in-Some-3.is c.broken-in-Some-3.ensures
