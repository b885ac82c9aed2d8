-- The nodes of the numbers so far.
use Rattle.std.proofs.Common.{◌≡◌, map, take}
use Rattle.b1_model.specs.Ledger.{named}
use Rattle.b1_judge_facts.proofs.standing.Standing.named_all.Given as goal

abbrev pub invariant-loop-number : goal.invariant-loop-number
invariant-loop-number l = l.nodes.items ≡ map (named l.peer l.self.names l.self.table) (take l.number-index l.numbers)
