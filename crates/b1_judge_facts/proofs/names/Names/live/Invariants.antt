-- The nodes so far, and then those of what is left of the names, are all of them.
use Rattle.std.proofs.Common.{◌≡◌, ◌++◌, drop, map, Some, filter, not}
use Rattle.b1_model.specs.Names.{nodes_from}
use Rattle.b1_judge_facts.specs.Kept.{is_gone}
use Rattle.b1_judge_facts.specs.Steps.{live}
use Rattle.b1_judge_facts.proofs.names.Names.live.Given as goal

abbrev pub invariant-loop-serial : goal.invariant-loop-serial
invariant-loop-serial l = l.nodes.items ++ map Some (filter (λ x. not (is_gone l.gone x)) (nodes_from l.owner l.serial (drop l.serial l.self))) ≡ map Some (live (is_gone l.gone) l.owner l.self)
