-- What is left of the slots and numbers adds up to what all of them add.
use Rattle.std.proofs.Common.{◌≡◌, drop}
use Rattle.b1_model.specs.Ledger.{received_all}
use Rattle.b1_judge_facts.proofs.table.Table.receive_all.Given as goal

abbrev pub invariant-loop-index : goal.invariant-loop-index
invariant-loop-index l = received_all (drop l.index l.slots) (drop l.index l.numbers) l.self ≡ received_all l.slots l.numbers l.initial.self
