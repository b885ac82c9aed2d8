use Rattle.b1_ledger.proofs.Ascends.{ascends}
use Rattle.b1_ledger.proofs.receipts.receipts_rise.Goals as goal

pub returns : goal.returns
returns c0 o r p i k b d x y legal l ab ad gb gd e = ascends o r legal p i k b d x y l ab ad gb gd e
