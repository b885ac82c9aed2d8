-- To none of the peers so far can the wire lead.
use Rattle.b1_text.proofs.Wires.{NoneOf}
use Rattle.b1_text.proofs.begin_wire.begins_to.Given as goal

abbrev pub invariant-loop-to : goal.invariant-loop-to
invariant-loop-to l = NoneOf l.peers l.held l.from l.number l.word l.to
