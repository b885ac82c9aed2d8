use Rattle.b1_inv_late.proofs.Orders.{late}
use Rattle.b1_inv_late.proofs.laws.receipts_come_before_sends.Goals as goal

pub returns : goal.returns
returns x = late
