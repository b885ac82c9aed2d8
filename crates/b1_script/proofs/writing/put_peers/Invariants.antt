use Rattle.std.proofs.Common.{◌≡◌, ◌++◌, take}
use Rattle.std.specs.List.{flat_map}
use Rattle.b1_script.specs.Spelling.{peer_spelling}
use Rattle.b1_script.proofs.writing.put_peers.Given as goal

abbrev pub invariant-loop-peer : goal.invariant-loop-peer
invariant-loop-peer l = l.out.items ≡ l.fn.out.items ++ flat_map peer_spelling (take l.peer-index l.peers)
