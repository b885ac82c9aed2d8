use Rattle.std.proofs.Common.{arith}
use Rattle.b1_text.proofs.CommandLines.{not_so}
use Rattle.b1_text.proofs.Faults.{unfinished_fault, wrong_end_fault, rest_of}
use Rattle.b1_text.proofs.assembling.finish.Goals as goal

pub returns-then-branch : goal.returns-then-branch
returns-then-branch c =
    let can = rw (rest_of c.args.bytes.now c.args.at) at (c.in_ok-can_become_next.ensures.0 c.if-branch.true) in
    rw c.broken.ensures (unfinished_fault c.args.bytes.now c.args.at c.args.draft (omega arith) c.requires.line c.requires.makes can c.requires.short)

pub returns : goal.returns
returns c =
    let test = rw (rest_of c.args.bytes.now c.args.at) at c.in_ok-can_become_next.ensures in
    rw c.broken-else-branch.ensures (wrong_end_fault c.args.bytes.now c.args.at c.args.draft (omega arith) c.requires.line c.requires.makes (not_so c.in_ok-can_become_next.field-0 c.if-branch.false test) c.requires.short)
