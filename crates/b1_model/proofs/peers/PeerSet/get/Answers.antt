use Rattle.std.proofs.Common.{◌≡◌, ◌+◌, length, slice_get, sym, ap, ◌∙◌, arith}
use Rattle.b1_model.specs.declared.limits.TheConstants.{MOST_PEERS}
use Rattle.b1_model.specs.Peers.{peers_below}
use Rattle.b1_model.proofs.PeerLemmas.{none_below, found_behind, count_more, read_past}
use Rattle.b1_model.proofs.peers.PeerSet.get.Goals as goal
use Rattle.b1_model.proofs.peers.PeerSet.get.Goals.{then-has_peer+else-left-eq0, else-has_peer}

pub loop-peer-init : goal.loop-peer-init
loop-peer-init c = let none = ap length (none_below c.self.inside.words) in omega (arith, none)

pub returns-then-left-eq0 : goal.returns-then-left-eq0
returns-then-left-eq0 c =
    let here : length (peers_below c.loop-peer.peer c.self.inside.words) ≡ c.args.index = omega (arith, c.if-left-eq0.true, c.loop-peer.invariant) in
    sym (ap (λ l. slice_get l c.args.index) (sym c.self.view_is)
    ∙ ap (slice_get (peers_below MOST_PEERS c.self.inside.words)) (sym here)
    ∙ found_behind c.loop-peer.peer c.self.inside.words (omega (arith, c.loop-peer-test.true)) (sym c.has_peer.ensures ∙ c.if-has_peer.true))

pub loop-peer-preserved : goal.loop-peer-preserved
loop-peer-preserved c = elim c.if-has_peer.branch [
  | then-has_peer+else-left-eq0 w ↦
      let more = count_more c.loop-peer.peer c.self.inside.words _ (sym c.has_peer.ensures ∙ w.if-has_peer.true) in
      omega (arith, more, w.if-left-eq0.false, w.left-is, c.loop-peer.invariant)
  | else-has_peer w ↦
      let more = count_more c.loop-peer.peer c.self.inside.words _ (sym c.has_peer.ensures ∙ w.if-has_peer.false) in
      omega (arith, more, w.left-is, c.loop-peer.invariant)
]

pub returns : goal.returns
returns c =
    let end : c.loop-peer.peer ≡ MOST_PEERS = omega (arith, c.loop-peer-test.false, c.loop-peer.auto.peer-end) in
    let many : length (peers_below MOST_PEERS c.self.inside.words) + c.loop-peer.left ≡ c.args.index = ap (λ n. length (peers_below n c.self.inside.words) + c.loop-peer.left) (sym end) ∙ c.loop-peer.invariant in
    sym (ap (λ l. slice_get l c.args.index) (sym c.self.view_is) ∙ read_past (peers_below MOST_PEERS c.self.inside.words) c.args.index (omega (arith, many)))
