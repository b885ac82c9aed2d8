use Rattle.b1_judge.proofs.ContentsLemmas.{contents_by}
use Rattle.b1_judge.proofs.contents.keeps_contents.Goals as goal

pub returns-in-Got : goal.returns-in-Got
returns-in-Got c = contents_by c.args.walk.now c.args.call.now c.requires.call c.has_receipt.result (rw c.in-Got.is c.has_receipt.ensures)
