use Rattle.b1_text.proofs.Firsts.{peer_kind, some_reads, none_reads}
use Rattle.b1_text.proofs.lines.read_peer_line.Goals as goal

pub returns-in-Some : goal.returns-in-Some
returns-in-Some c = some_reads peer_kind c.args.body.now c.read_peer.result c.in-Some.peer c.read_peer.ensures c.in-Some.is

pub returns-in-None : goal.returns-in-None
returns-in-None c = none_reads peer_kind c.args.body.now c.read_peer.result c.read_peer.ensures c.in-None.is
