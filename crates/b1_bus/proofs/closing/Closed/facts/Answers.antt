use Rattle.std.proofs.Common.{sym, ◌∙◌}
use Rattle.b1_bus.proofs.States.{all_closed, many_peers, many_drivers}
use Rattle.b1_bus.proofs.closing.Closed.facts.Goals as goal

pub returns-clause-closed : goal.returns-clause-closed
returns-clause-closed c = rw (← c.self.view_is) (all_closed _ _ _ c.self.invariant.closed)

pub returns-clause-as_many : goal.returns-clause-as_many
returns-clause-as_many c = rw (← c.self.view_is) (many_drivers _ _ _ c.self.invariant.closed ∙ sym (many_peers _ _ _ c.self.invariant.closed))
