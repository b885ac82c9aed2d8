-- How high clocks get: no more than two above the limit for each peer.
use Rattle.std.specs.Prelude.{◌≡◌, ◌*◌, ℕ, ◌+◌, length, Some}
use Rattle.b1_model.specs.declared.events.Doing.{Doing}
use Rattle.b1_model.specs.declared.events.OwedDrop.{OwedDrop}
use Rattle.b1_model.specs.declared.parts.NodeState.TheVariants.{Destroyed}
use Rattle.b1_model.specs.MachineParts.{PeerPart, DriverPart, NodePart, State, clock_limit}
use Rattle.b1_model.specs.MachineEvents.{collected_of}
use Rattle.b1_step.specs.Rights.{Has}
use Rattle.b1_inv.specs.Words.{IsPeer, IsDriver, fixed_stamp}
use Rattle.b1_inv.specs.Clocks.{IsClock}

-- the limit, and two for each peer
abbrev pub most_clock : State → ℕ
most_clock s = clock_limit + 2 * length s.peers

-- the clocks of peers, the clocks collected, the fixed stamps, the clocks of owed drops and the stamps of destroyed nodes are even, and at most that
pub record ClocksBounded (s : State) : Type 0 where
  pub clock : (q : ℕ) (x : PeerPart) → IsPeer s q x → IsClock (most_clock s) x.clock
  pub collected : (p : ℕ) (d : DriverPart) (doing : Doing) → IsDriver s p d → d.doing ≡ Some doing → IsClock (most_clock s) (collected_of doing.phase)
  pub stamp : (p : ℕ) (d : DriverPart) (stamp : ℕ) → IsDriver s p d → fixed_stamp d ≡ Some stamp → IsClock (most_clock s) stamp
  pub owed : (p : ℕ) (d : DriverPart) (one : OwedDrop) → IsDriver s p d → Has d.owed one → IsClock (most_clock s) one.clock
  pub destroyed : (q : ℕ) (x : PeerPart) (n : NodePart) (stamp : ℕ) → IsPeer s q x → Has x.nodes n → n.state ≡ Destroyed stamp → IsClock (most_clock s) stamp
