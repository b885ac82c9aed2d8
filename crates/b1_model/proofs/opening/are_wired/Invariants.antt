use Rattle.std.proofs.Common.{◌↔◌, [], drop}
use Rattle.b1_model.specs.Opening.{AreWired}
use Rattle.b1_model.proofs.opening.are_wired.Given as goal

abbrev pub invariant-loop-wire : goal.invariant-loop-wire
invariant-loop-wire l = AreWired l.peers l.held (drop l.wire-index l.wires) ↔ AreWired l.peers [] l.wires
