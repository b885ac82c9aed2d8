use Rattle.b1_inv_next.proofs.Shown.{drained_is_whole}
use Rattle.b1_inv_next.proofs.laws.drained_records_are_whole.Goals as goal

pub returns : goal.returns
returns c = λ o s sound right drained. drained_is_whole sound right drained
