use Rattle.b1_port_memory.proofs.Given.{behind_first}
use Rattle.b1_port_memory.proofs.steps.take.Goals as goal

pub returns-in-Some-clause-stamps : goal.returns-in-Some-clause-stamps
returns-in-Some-clause-stamps c = rw c.pop_front.ensures.rest (behind_first _ c.requires.stamps)
