-- What every state is that a run of a generated script leads to.
use Rattle.std.specs.Prelude.{◌≡◌, ◌≤◌, ◌+◌, ◌*◌, ℕ, length}
use Rattle.b1_model.specs.MachineParts.{PeerPart, DriverPart, State}
use Rattle.b1_inv.specs.Words.{IsPeer, IsDriver}
use Rattle.b1_gen.specs.Generated.{peer_count}
use Rattle.b1_gen_runs.specs.Parts.{Stands, HasPlain}
use Rattle.b1_gen_runs.specs.Sums.{queued, got, all_sent, all_stamps}
use Rattle.b1_gen_runs.specs.Phases.{IsPlainDriver, GoesWell}

-- all drivers have plain calls and commands
abbrev pub AllPlain : ℕ → State → Type 0
AllPlain number s = (p : ℕ) (d : DriverPart) → IsDriver s p d → IsPlainDriver number p d

-- each message as one
abbrev pub one : ℕ → ℕ
one length = 1

-- the parts are as they should be, the slices are few, the clocks are low, and what was sent to a peer is queued there or was taken
pub record RunsWell (number : ℕ) (s : State) : Type 0 where
  pub stands : (q : ℕ) (x : PeerPart) → IsPeer s q x → Stands (peer_count number) q x
  pub plain : (q : ℕ) (x : PeerPart) → IsPeer s q x → HasPlain x
  pub pieces : (q : ℕ) (x : PeerPart) → IsPeer s q x → length x.slices ≤ 1 + all_sent one q s
  pub clocks : (q : ℕ) (x : PeerPart) → IsPeer s q x → x.clock ≤ 2 * all_stamps s
  pub drivers : (p : ℕ) (d : DriverPart) → IsDriver s p d → GoesWell (2 * all_stamps s) d
  pub balance : (weight : ℕ → ℕ) (q : ℕ) (x : PeerPart) (d : DriverPart) → IsPeer s q x → IsDriver s q d → queued weight x + got weight d ≡ all_sent weight q s
