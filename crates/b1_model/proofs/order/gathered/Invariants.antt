-- What was gathered so far are the stamped calls of the peers up to here.
use Rattle.std.proofs.Common.{◌≡◌, flat_map}
use Rattle.std.specs.List.{range_with_len}
use Rattle.b1_model.specs.Names.{calls_of}
use Rattle.b1_model.specs.Ledger.{stamps_from}
use Rattle.b1_model.proofs.order.gathered.Given as goal

abbrev pub invariant-loop-origin : goal.invariant-loop-origin
invariant-loop-origin l = l.stamps.items ≡ flat_map (λ p. stamps_from p 0 (calls_of l.rec p)) (range_with_len 0 l.origin)
