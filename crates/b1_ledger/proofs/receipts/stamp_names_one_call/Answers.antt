use Rattle.std.proofs.Common.{[]}
use Rattle.b1_ledger.proofs.Bound.{one_call}
use Rattle.b1_ledger.proofs.receipts.stamp_names_one_call.Goals as goal

pub returns : goal.returns
returns c0 r q i k stamp b c rises ab ac sb sc = one_call [] r rises q i k stamp b c ab ac sb sc
