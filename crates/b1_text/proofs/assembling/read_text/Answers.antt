use Rattle.b1_text.proofs.Faults.{wrong_fault, made_line}
use Rattle.b1_text.proofs.assembling.read_text.Goals as goal

pub returns-in-None : goal.returns-in-None
returns-in-None c =
    let none = rw c.in-None.is at c.in_ok-next.ensures in
    rw c.broken.ensures (wrong_fault c.args.bytes.now c.in-Some.line.now c.loop-line.at c.in-Some.end c.loop-line.draft c.loop-line.invariant.within c.in-Some.ensures c.loop-line.invariant.makes none c.requires)

pub loop-line-preserved : goal.loop-line-preserved
loop-line-preserved c =
    let leads = rw c.in-Some-2.is at c.in_ok-next.ensures in
    record {
      within = c.in-Some.ensures.within;
      makes = made_line c.args.bytes.now c.in-Some.line.now c.loop-line.at c.in-Some.end c.loop-line.draft c.in-Some-2.next c.loop-line.invariant.within c.in-Some.ensures c.loop-line.invariant.makes leads;
    }
