use Rattle.b1_inv_legal.proofs.Contents.{front_sent}
use Rattle.b1_inv_legal.proofs.laws.what_is_taken_was_sent.Goals as goal

pub returns : goal.returns
returns c o s sound right arrive = front_sent sound right arrive
