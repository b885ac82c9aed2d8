-- Clocks and stamps are even, and bounded by how many drivers can get no stamp any more.
use Rattle.std.specs.Prelude.{◌≡◌, ◌≤◌, ◌*◌, ◌%◌, ℕ, ◌+◌, Bool, true, false, if◌then◌else◌, nat_le, List, [], ◌∷◌, Some, None}
use Rattle.b1_model.specs.declared.events.Doing.{Doing}
use Rattle.b1_model.specs.declared.events.OwedDrop.{OwedDrop}
use Rattle.b1_model.specs.declared.events.Phase.{Phase}
use Rattle.b1_model.specs.declared.events.Phase.TheVariants.{Staging, Attaching, Stamping, Visiting, Dooming}
use Rattle.b1_model.specs.declared.parts.NodeState.TheVariants.{Destroyed}
use Rattle.b1_model.specs.MachineParts.{PeerPart, DriverPart, NodePart, State, clock_limit}
use Rattle.b1_model.specs.MachineEvents.{collected_of}
use Rattle.b1_step.specs.Rights.{Has}
use Rattle.b1_inv.specs.Words.{IsPeer, IsDriver, fixed_stamp}

-- a command that began below the limit and can still get a stamp
abbrev pub can_be_stamped : Phase → Bool
can_be_stamped (Staging begun places collected) = true
can_be_stamped (Attaching sending place handle) = true
can_be_stamped (Stamping sending) = true
can_be_stamped (Visiting destruction left) = true
can_be_stamped (Dooming destruction) = true
can_be_stamped phase = false

-- the same of a driver's open command
abbrev pub has_unstamped : DriverPart → Bool
has_unstamped d = elim d.doing [ None ↦ false | Some doing ↦ can_be_stamped doing.phase ]

-- 1 where a driver can get no stamp any more: its peer's clock is at the limit or above, and no begun command waits for its stamp
abbrev pub spent : DriverPart → PeerPart → ℕ
spent d x = if has_unstamped d then 0 else (if nat_le clock_limit x.clock then 1 else 0)

-- how many such drivers there are
abbrev pub all_spent : List PeerPart → List DriverPart → ℕ
all_spent [] ds = 0
all_spent (x ∷ xs) [] = 0
all_spent (x ∷ xs) (d ∷ ds) = spent d x + all_spent xs ds

-- no clock passes this
abbrev pub clock_bound : State → ℕ
clock_bound s = clock_limit + 2 * all_spent s.peers s.drivers

-- even, and not above a bound
abbrev pub IsClock : ℕ → ℕ → Type 0
IsClock bound n = (n % 2 ≡ 0) × (n ≤ bound)

-- the clocks of peers, the clocks collected, the fixed stamps, the clocks of owed drops and the stamps of destroyed nodes are even and bounded
pub record ClocksRight (s : State) : Type 0 where
  pub clock : (q : ℕ) (x : PeerPart) → IsPeer s q x → IsClock (clock_bound s) x.clock
  pub collected : (p : ℕ) (d : DriverPart) (doing : Doing) → IsDriver s p d → d.doing ≡ Some doing → IsClock (clock_bound s) (collected_of doing.phase)
  pub stamp : (p : ℕ) (d : DriverPart) (stamp : ℕ) → IsDriver s p d → fixed_stamp d ≡ Some stamp → IsClock (clock_bound s) stamp
  pub owed : (p : ℕ) (d : DriverPart) (one : OwedDrop) → IsDriver s p d → Has d.owed one → IsClock (clock_bound s) one.clock
  pub destroyed : (q : ℕ) (x : PeerPart) (n : NodePart) (stamp : ℕ) → IsPeer s q x → Has x.nodes n → n.state ≡ Destroyed stamp → IsClock (clock_bound s) stamp
