-- The epochs of the nodes so far have places.
use Rattle.std.proofs.Common.{take}
use Rattle.b1_judge_facts.specs.Epochs.{Notes}
use Rattle.b1_judge_facts.proofs.epochs.note_all.Given as goal

abbrev pub invariant-loop-node : goal.invariant-loop-node
invariant-loop-node l = Notes l.place (take l.node-index l.nodes) l.initial.places l.places
