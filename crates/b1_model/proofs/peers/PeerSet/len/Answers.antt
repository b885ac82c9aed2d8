use Rattle.std.proofs.Common.{length, sym, ap, ◌∙◌, arith}
use Rattle.b1_model.proofs.PeerLemmas.{none_below, count_more, count_few}
use Rattle.b1_model.proofs.peers.PeerSet.len.Goals as goal
use Rattle.b1_model.proofs.peers.PeerSet.len.Goals.{then-has_peer, else-has_peer}

pub loop-peer-init : goal.loop-peer-init
loop-peer-init c = let none = ap length (none_below c.self.inside.words) in omega (arith, none)

pub overflow_add-count : goal.overflow_add-count
overflow_add-count c = let few = count_few c.loop-peer.peer c.self.inside.words in omega (arith, few, c.loop-peer.invariant, c.loop-peer-test.true)

pub loop-peer-preserved : goal.loop-peer-preserved
loop-peer-preserved c = elim c.if-has_peer.branch [
  | then-has_peer w ↦
      let more = count_more c.loop-peer.peer c.self.inside.words _ (sym c.has_peer.ensures ∙ w.if-has_peer.true) in
      omega (arith, more, w.count-is, c.loop-peer.invariant)
  | else-has_peer w ↦
      let more = count_more c.loop-peer.peer c.self.inside.words _ (sym c.has_peer.ensures ∙ w.if-has_peer.false) in
      omega (arith, more, w.count-is, c.loop-peer.invariant)
]
