-- What the commit of a driver's staged notices needs.
use Rattle.std.specs.Prelude.{ℕ}
use Rattle.b1_model.specs.MachineParts.{PeerPart}
use Rattle.b1_peer_queue.specs.Mail.{DistinctIndexes, NewUnder, staged_notices}

-- no index stands twice among them, and their keys once they are committed are new
pub record NoticesFit (x : PeerPart) (origin stamp : ℕ) : Type 0 where
  pub distinct : DistinctIndexes (staged_notices origin x.queue)
  pub new : NewUnder stamp (staged_notices origin x.queue) x.queue
