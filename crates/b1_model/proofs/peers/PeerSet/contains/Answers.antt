use Rattle.b1_model.proofs.PeerLemmas.{stands_in}
use Rattle.b1_model.proofs.peers.PeerSet.contains.Goals as goal
use Rattle.std.proofs.Common.{◌==◌, sym, ap, ◌∙◌}
use Rattle.std.specs.List.{list_any}

pub returns : goal.returns
returns c = c.has_peer.ensures ∙ sym (stands_in c.self.inside.words c.self.told c.args.peer) ∙ ap (list_any (λ q. q == c.args.peer)) c.self.view_is
