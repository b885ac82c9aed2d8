-- What a seat of the table of locks may know of a driver and of a peer.
use Rattle.std.specs.Prelude.{ℕ}
use Rattle.b1_model.specs.MachineParts.{PeerPart, DriverPart}

-- a driver's part, and for how many doomed nodes the driver has room
pub record Holding : Type 0 where
  pub part : DriverPart
  pub room : ℕ

-- a peer, and its part as it was found
pub record Found : Type 0 where
  pub peer : ℕ
  pub part : PeerPart
