use Rattle.std.proofs.Common.{◌≡◌, ◌+◌, length}
use Rattle.b1_model.specs.MachineReceive.{received, received_part}
use Rattle.b1_inv_peer.specs.Needs.{HeldFew}
use Rattle.b1_peer.specs.Fronts.{StillReceived}
use Rattle.b1_peer.proofs.state.PeerState.discard_all.Given as goal

abbrev pub invariant-loop-self : goal.invariant-loop-self
invariant-loop-self g l = record {
  front : (received l.self.part).front ≡ (received l.fn.self.part).front;
  part : received_part l.self.part ≡ received_part l.fn.self.part;
  removed : length l.fn.self.part.queue + (received l.self.part).removed ≡ length l.self.part.queue + (received l.fn.self.part).removed;
  still : StillReceived l.fn.self.part l.self.part;
  given : l.self.part.given ≡ l.fn.self.part.given;
  held : HeldFew l.fn.self.part → HeldFew l.self.part;
  rest : l.self ≡ record l.fn.self { part = l.self.part };
}

abbrev pub decreases-loop-self : goal.decreases-loop-self
decreases-loop-self g l = length l.self.part.queue
