use Rattle.b1_handles.proofs.Kept.{kept-notified}
use Rattle.b1_handles.proofs.table.HandleTable.notify.Goals as goal

pub invariant_of-self : goal.invariant_of-self
invariant_of-self c = rw c.notify.ensures.records (kept-notified c.args.node c.self.inside.records c.self.inside.numbers.names c.self.inside.flights c.self.inside.numbers.spare c.self.invariant c.notify.result)
