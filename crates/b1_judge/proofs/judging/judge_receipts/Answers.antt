-- Each part in its turn, where those before it are kept.
use Rattle.b1_judge.specs.declared.verdict.Clause.TheVariants as the
use Rattle.b1_judge.proofs.JudgedLemmas.{kept_is, says_first, prefix_first, contents_first, whole_first, keeps_all_order, all_hold}
use Rattle.b1_judge.proofs.judging.judge_receipts.Goals as goal

pub gather-requires-clause-order : goal.gather-requires-clause-order
gather-requires-clause-order c = keeps_all_order c.args.script.now c.args.rec.now c.requires.lists c.requires.order

pub returns-in-Some : goal.returns-in-Some
returns-in-Some c =
    says_first c.args.script.now c.args.rec.now c.requires.lists the.Prefix c.in_ok-found.field-0 c.in-Some.found c.broken.result
    (c.requires.commands, (c.requires.keys, (c.requires.order, tt)))
    (prefix_first c.args.script.now c.args.rec.now c.requires.lists c.in_ok-gathered.gathered.wires c.in_ok-gathered.gathered.rec c.in_ok-found.field-0 c.in_ok-gathered.ensures.0 c.in_ok-gathered.ensures.1 c.in_ok-found.ensures) c.in-Some.is c.broken.ensures

pub returns-in-Some-2 : goal.returns-in-Some-2
returns-in-Some-2 c =
    says_first c.args.script.now c.args.rec.now c.requires.lists the.Contents c.in_ok-found-2.field-0 c.in-Some-2.found c.broken-in-Some-2.result
    (c.requires.commands, (c.requires.keys, (c.requires.order, ((kept_is c.args.script.now c.args.rec.now c.requires.lists the.Prefix c.in_ok-found.field-0 (prefix_first c.args.script.now c.args.rec.now c.requires.lists c.in_ok-gathered.gathered.wires c.in_ok-gathered.gathered.rec c.in_ok-found.field-0 c.in_ok-gathered.ensures.0 c.in_ok-gathered.ensures.1 c.in_ok-found.ensures) c.in_default.is), tt))))
    (contents_first c.args.script.now c.args.rec.now c.requires.lists c.in_ok-gathered.gathered.wires c.in_ok-gathered.gathered.rec c.in_ok-found-2.field-0 c.in_ok-gathered.ensures.0 c.in_ok-gathered.ensures.1 c.in_ok-found-2.ensures) c.in-Some-2.is c.broken-in-Some-2.ensures

pub returns-in-Some-3 : goal.returns-in-Some-3
returns-in-Some-3 c =
    says_first c.args.script.now c.args.rec.now c.requires.lists the.Whole c.in_ok-found-3.field-0 c.in-Some-3.found c.broken-in-Some-3.result
    (c.requires.commands, (c.requires.keys, (c.requires.order, ((kept_is c.args.script.now c.args.rec.now c.requires.lists the.Prefix c.in_ok-found.field-0 (prefix_first c.args.script.now c.args.rec.now c.requires.lists c.in_ok-gathered.gathered.wires c.in_ok-gathered.gathered.rec c.in_ok-found.field-0 c.in_ok-gathered.ensures.0 c.in_ok-gathered.ensures.1 c.in_ok-found.ensures) c.in_default.is), ((kept_is c.args.script.now c.args.rec.now c.requires.lists the.Contents c.in_ok-found-2.field-0 (contents_first c.args.script.now c.args.rec.now c.requires.lists c.in_ok-gathered.gathered.wires c.in_ok-gathered.gathered.rec c.in_ok-found-2.field-0 c.in_ok-gathered.ensures.0 c.in_ok-gathered.ensures.1 c.in_ok-found-2.ensures) c.in_default-2.is), tt)))))
    (whole_first c.args.script.now c.args.rec.now c.requires.lists c.in_ok-gathered.gathered.wires c.in_ok-gathered.gathered.rec c.in_ok-found-3.field-0 c.in_ok-gathered.ensures.0 c.in_ok-gathered.ensures.1 c.in_ok-found-3.ensures) c.in-Some-3.is c.broken-in-Some-3.ensures

pub returns : goal.returns
returns c =
    all_hold c.args.script.now c.args.rec.now c.requires.lists c.requires.commands c.requires.keys c.requires.order
    (kept_is c.args.script.now c.args.rec.now c.requires.lists the.Prefix c.in_ok-found.field-0 (prefix_first c.args.script.now c.args.rec.now c.requires.lists c.in_ok-gathered.gathered.wires c.in_ok-gathered.gathered.rec c.in_ok-found.field-0 c.in_ok-gathered.ensures.0 c.in_ok-gathered.ensures.1 c.in_ok-found.ensures) c.in_default.is)
    (kept_is c.args.script.now c.args.rec.now c.requires.lists the.Contents c.in_ok-found-2.field-0 (contents_first c.args.script.now c.args.rec.now c.requires.lists c.in_ok-gathered.gathered.wires c.in_ok-gathered.gathered.rec c.in_ok-found-2.field-0 c.in_ok-gathered.ensures.0 c.in_ok-gathered.ensures.1 c.in_ok-found-2.ensures) c.in_default-2.is)
    (kept_is c.args.script.now c.args.rec.now c.requires.lists the.Whole c.in_ok-found-3.field-0 (whole_first c.args.script.now c.args.rec.now c.requires.lists c.in_ok-gathered.gathered.wires c.in_ok-gathered.gathered.rec c.in_ok-found-3.field-0 c.in_ok-gathered.ensures.0 c.in_ok-gathered.ensures.1 c.in_ok-found-3.ensures) c.in_default-3.is)
