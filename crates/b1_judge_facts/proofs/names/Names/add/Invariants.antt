-- What is left of the numbers adds up to what all of them add.
use Rattle.std.proofs.Common.{◌≡◌, drop}
use Rattle.b1_model.specs.Names.{add_new}
use Rattle.b1_judge_facts.proofs.names.Names.add.Given as goal

abbrev pub invariant-loop-number : goal.invariant-loop-number
invariant-loop-number l = add_new l.epoch l.self (drop l.number-index l.numbers) ≡ add_new l.epoch l.initial.self l.numbers
