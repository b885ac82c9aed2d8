use Rattle.std.proofs.Common.{◌<◌, length, rules}
use Rattle.b1_model.specs.MachineReceive.{reference_of}
use Rattle.b1_peer_dead.proofs.Lists.{none_left}
use Rattle.b1_peer_dead.proofs.buffers.gather.Goals as goal

pub returns-in_default-2-clause-items : goal.returns-in_default-2-clause-items
returns-in_default-2-clause-items c =
    let short : length c.loop-nodes.rest.now < 1 = search rules in
    none_left reference_of c.loop-nodes.nodes.now c.loop-nodes.rest.now c.loop-nodes.item.items _ short c.loop-nodes.invariant.items
