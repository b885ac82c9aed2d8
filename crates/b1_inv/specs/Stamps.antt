-- Which stamps stand in the queues: none of a driver's is above its peer's clock, and a fixed one stands only where it was committed.
use Rattle.std.specs.Prelude.{◌≡◌, ◌≢◌, ◌≤◌, ◌⊎◌, ℕ, Bool, true, false, Some}
use Rattle.b1_model.specs.declared.naming.Key.{Key}
use Rattle.b1_model.specs.declared.entries.Entry.{Entry}
use Rattle.b1_model.specs.declared.events.Doing.{Doing}
use Rattle.b1_model.specs.declared.events.Phase.{Phase}
use Rattle.b1_model.specs.declared.events.Phase.TheVariants.{Committing, CommittingNotices}
use Rattle.b1_model.specs.MachineParts.{PeerPart, DriverPart, State, is_staged, is_data, no_origin}
use Rattle.b1_step.specs.Rights.{Has}
use Rattle.b1_inv.specs.Words.{IsPeer, IsDriver, fixed_stamp, is_pending, is_uncommitted}

-- a phase in which a SEND commits
abbrev pub is_committing : Phase → Bool
is_committing (Committing sending stamp place) = true
is_committing phase = false

-- a phase in which a destruction commits at the peers that it visited
abbrev pub is_committing_notices : Phase → Bool
is_committing_notices (CommittingNotices destruction stamp at) = true
is_committing_notices phase = false

-- an entry at peer q that has its driver's fixed stamp was committed with it: a message whose place doesn't wait any more, or a notice where the destruction has committed
abbrev pub WasCommitted : DriverPart → Doing → ℕ → Key × Entry → Type 0
WasCommitted d doing q f =
    ((is_data f.1 ≡ true) × (is_committing doing.phase ≡ true) × (is_pending d f.0.index ≡ false))
    ⊎ ((is_data f.1 ≡ false) × (is_committing_notices doing.phase ≡ true) × (is_uncommitted d q ≡ false))

-- a committed entry is of a driver's call: its stamp is at most that driver's own clock, and is the fixed one only where it was committed with it
pub record IsStampOf (s : State) (q : ℕ) (f : Key × Entry) : Type 0 where
  pub driver : DriverPart
  pub own : PeerPart
  pub is_driver : IsDriver s f.0.origin driver
  pub is_own : IsPeer s f.0.origin own
  pub below : f.0.stamp ≤ own.clock
  pub fixed : (doing : Doing) → driver.doing ≡ Some doing → fixed_stamp driver ≡ Some f.0.stamp → WasCommitted driver doing q f

-- a fixed stamp is at most its peer's clock, and every committed entry has a stamp of its driver's, release notices aside
pub record StampsRight (s : State) : Type 0 where
  pub fixed : (p : ℕ) (d : DriverPart) (x : PeerPart) (stamp : ℕ) → IsDriver s p d → IsPeer s p x → fixed_stamp d ≡ Some stamp → stamp ≤ x.clock
  pub committed : (q : ℕ) (x : PeerPart) (f : Key × Entry) → IsPeer s q x → Has x.queue f → is_staged f ≡ false → f.0.origin ≢ no_origin → IsStampOf s q f
