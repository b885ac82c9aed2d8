use Rattle.std.proofs.Common.{ap, ◌++◌, ◌∙◌}
use Rattle.b1_model.specs.Ledger.{destructions_of}
use Rattle.b1_ledger.proofs.Grows.{destructions_here, destructions_there, doomed_stays}
use Rattle.b1_ledger.proofs.Plain.{added_next}
use Rattle.b1_ledger.proofs.NextAfter.{late_is, doomed_is}
use Rattle.b1_ledger.proofs.growth.destructions_after_a_call.Goals as goal

pub returns-clause-here : goal.returns-clause-here
returns-clause-here c0 o r t p c legal a = destructions_here o r t p c a legal ∙ ap (λ ds. destructions_of o.wires r p ++ ds) (added_next o r t p c a legal)

pub returns-clause-others : goal.returns-clause-others
returns-clause-others c0 o r t p c q legal a n = destructions_there o r t p c a legal q n

pub returns-clause-notices : goal.returns-clause-notices
returns-clause-notices c0 o r t p c key x legal a e = doomed_stays o r t p c a legal key x e

pub returns-clause-late : goal.returns-clause-late
returns-clause-late c0 o r t p c x key legal a = late_is o r t p c a legal x key

pub returns-clause-own : goal.returns-clause-own
returns-clause-own c0 o r t p c stamp key legal a new es eo = doomed_is o r t p c a legal stamp new key es eo
