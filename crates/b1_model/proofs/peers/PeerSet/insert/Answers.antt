use Rattle.std.proofs.Common.{◌==◌, ap, ◌∙◌}
use Rattle.std.specs.List.{list_any}
use Rattle.b1_model.specs.MachineTables.{with_peer}
use Rattle.b1_model.proofs.PeerLemmas.{with_bit, members}
use Rattle.b1_model.proofs.peers.PeerSet.insert.Goals as goal

pub returns-clause-peers : goal.returns-clause-peers
returns-clause-peers c = with_bit c.self.inside.words c.args.peer c.self.told c.requires ∙ ap (with_peer c.args.peer) c.self.view_is

pub returns-clause-members : goal.returns-clause-members
returns-clause-members c q = ap (list_any (λ p. p == q)) (returns-clause-peers c) ∙ members c.args.peer q c.args.self.now
