use Rattle.b1_entry.proofs.PlaceLemmas.{vacant_put}
use Rattle.b1_entry.proofs.places.put_at.Goals as goal

pub returns-clause-vacant : goal.returns-clause-vacant
returns-clause-vacant c =
    vacant_put c.args.slots.now.items c.args.vacant.now.items _ c.requires.vacant c.pop.new.self.items c.in-Some.place c.args.entry _ (rw c.in-Some.is at c.pop.ensures.items) c.pop.ensures.capacity
