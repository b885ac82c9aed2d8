use Rattle.std.proofs.Common.{◌∙◌, sym}
use Rattle.b1_core.proofs.Turning.{as_many_drivers, as_many_peers}
use Rattle.b1_core.proofs.bus.Core.finish.Goals as goal

pub records-requires-clause-as_many : goal.records-requires-clause-as_many
records-requires-clause-as_many g c =
    let o = c.self.inside.opening in
    let xs = c.self.inside.peers.items in
    let ds = c.self.inside.drivers.items in
    let core = c.self.invariant.core in
    as_many_drivers o xs ds core.opening core.reached core.stocked ∙ sym (as_many_peers o xs ds core.opening core.reached core.stocked)
