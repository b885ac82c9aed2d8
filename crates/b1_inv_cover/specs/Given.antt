-- How given numbers are given: in their order, and none twice.
use Rattle.std.specs.Prelude.{◌≡◌, ◌<◌, ◌≤◌, ◌⊎◌, ℕ, Some}
use Rattle.b1_model.specs.MachineParts.{PeerPart, HandleRecord, State}
use Rattle.b1_model.specs.MachineTables.{next_number}
use Rattle.b1_step.specs.Rights.{Has}
use Rattle.b1_inv.specs.Words.{IsPeer}

-- a record had its number before
pub record HadNumber (x : PeerPart) (h : HandleRecord) (number : ℕ) : Type 0 where
  pub old : HandleRecord
  pub was : Has x.handles old
  pub node : old.node ≡ h.node
  pub is_number : old.number ≡ Some number

-- a number is one of those that were given between two counts
pub record IsGivenBetween (before after number : ℕ) : Type 0 where
  pub place : ℕ
  pub low : before ≤ place
  pub high : place < after
  pub is_number : number ≡ next_number place

-- a peer's count of given numbers never falls, and a number that a record didn't have before is a new one
pub record GivenRises (s t : State) : Type 0 where
  pub rises : (q : ℕ) (x y : PeerPart) → IsPeer s q x → IsPeer t q y → x.given ≤ y.given
  pub fresh : (q number : ℕ) (x y : PeerPart) (h : HandleRecord) → IsPeer s q x → IsPeer t q y → Has y.handles h → h.number ≡ Some number → HadNumber x h number ⊎ IsGivenBetween x.given y.given number

-- a number that a peer has in both states names the same node
pub record NumbersStay (s t : State) : Type 0 where
  pub node : (q number : ℕ) (x y : PeerPart) (g h : HandleRecord) → IsPeer s q x → IsPeer t q y → Has x.handles g → Has y.handles h → g.number ≡ Some number → h.number ≡ Some number → g.node ≡ h.node
