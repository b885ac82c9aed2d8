-- What was put behind so far are the stamped calls up to here.
use Rattle.std.proofs.Common.{◌≡◌, ◌++◌, take}
use Rattle.b1_model.specs.Ledger.{stamps_from}
use Rattle.b1_model.proofs.order.gather.Given as goal

abbrev pub invariant-loop-index : goal.invariant-loop-index
invariant-loop-index l = l.stamps.items ≡ l.initial.stamps.items ++ stamps_from l.origin 0 (take l.index l.calls)
