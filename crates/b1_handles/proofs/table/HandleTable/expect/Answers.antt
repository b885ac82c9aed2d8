use Rattle.b1_handles.proofs.Kept.{kept-expected}
use Rattle.b1_handles.proofs.table.HandleTable.expect.Goals as goal

pub invariant_of-self-2 : goal.invariant_of-self-2
invariant_of-self-2 c =
    rw (c.in_ok-made.ensures.records, c.reserve_one.ensures.names, c.in_ok-flights.ensures.places)
    (kept-expected c.args.node c.self.inside.records c.self.inside.numbers.names c.self.inside.flights c.self.inside.numbers.spare c.self.invariant c.reserve_one.new.numbers.spare c.in_ok-flights.ensures.room)
