use Rattle.std.proofs.Common.{refl}
use Rattle.b1_text.proofs.CommandLines.{last, not_true}
use Rattle.b1_text.proofs.NextLines.{peer_next, wire_next, first_list_next, opened_last}
use Rattle.b1_text.proofs.beginning.begins_opened.Goals as goal
use Rattle.b1_text.proofs.beginning.begins_opened.Goals.{then-begins_next_peer-via-then-begins_next_peer, then-begins_next_peer-via-else-begins_next_peer+then-begins_next_wire}

pub returns-then-begins_next_peer : goal.returns-then-begins_next_peer
returns-then-begins_next_peer c =
    elim c.then-begins_next_peer.branch [
      | then-begins_next_peer-via-then-begins_next_peer w ↦ (λ _. peer_next c.args.version c.args.opening.now c.args.held.now c.args.len c.args.line.now (w.if-begins_next_peer.ensures.0 refl), λ _. refl)
      | then-begins_next_peer-via-else-begins_next_peer+then-begins_next_wire w ↦ (λ _. wire_next c.args.version c.args.opening.now c.args.held.now c.args.len c.args.line.now (w.if-begins_next_wire.ensures.0 refl), λ _. refl)
    ]

pub returns : goal.returns
returns c =
    last c.begins_first_list.result c.begins_first_list.ensures (first_list_next c.args.version c.args.opening.now c.args.held.now c.args.len c.args.line.now)
    (opened_last c.args.version c.args.opening.now c.args.held.now c.args.len c.args.line.now (not_true c.if-begins_next_peer.ensures) (not_true c.if-begins_next_wire.ensures))
