use Rattle.b1_model.proofs.PeerLemmas.{no_peers}
use Rattle.b1_model.proofs.peers.PeerSet.new.Goals as goal

pub returns : goal.returns
returns c = no_peers
