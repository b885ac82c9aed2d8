use Rattle.std.proofs.Common.{◌↔◌, drop}
use Rattle.std.specs.List.{AllByRecursion}
use Rattle.b1_model.specs.Opening.{HasPool}
use Rattle.b1_model.proofs.opening.have_pools.Given as goal

abbrev pub invariant-loop-peer : goal.invariant-loop-peer
invariant-loop-peer l = AllByRecursion HasPool (drop l.peer-index l.peers) ↔ AllByRecursion HasPool l.peers
