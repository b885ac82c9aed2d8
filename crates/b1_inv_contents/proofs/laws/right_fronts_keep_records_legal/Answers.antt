use Rattle.b1_inv_legal.proofs.Contents.{front_sent}
use Rattle.b1_inv_legal.proofs.Kept.{legal_kept}
use Rattle.b1_inv_contents.proofs.Arrive.{slots_arrive}
use Rattle.b1_inv_contents.proofs.laws.right_fronts_keep_records_legal.Goals as goal

pub returns : goal.returns
returns c o s p command t sound right next step = legal_kept sound right next (front_sent sound right (slots_arrive sound right)) step
