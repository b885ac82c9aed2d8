use Rattle.std.proofs.Common.{arith}
use Rattle.b1_text.proofs.Faults.{cut_fault, whole_answer}
use Rattle.b1_text.proofs.assembling.whole.Goals as goal

pub returns-in-Whole : goal.returns-in-Whole
returns-in-Whole c = whole_answer c.args.bytes.now c.in-Whole.script (rw c.in-Whole.is at c.requires.makes)

pub returns : goal.returns
returns c = rw c.broken.ensures (cut_fault c.args.bytes.now c.args.draft _ c.requires.makes (λ s e. c.in_default.not-Whole s e) (omega arith) c.requires.short)
