use Rattle.b1_inv_legal.proofs.Contents.{front_sent}
use Rattle.b1_inv_contents.proofs.Arrive.{slots_arrive}
use Rattle.b1_inv_contents.proofs.laws.receipts_have_what_was_sent.Goals as goal

pub returns-clause-arrive : goal.returns-clause-arrive
returns-clause-arrive c = λ o s sound right. slots_arrive sound right

pub returns-clause-sent : goal.returns-clause-sent
returns-clause-sent c = λ o s sound right. front_sent sound right (slots_arrive sound right)
