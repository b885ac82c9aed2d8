-- What an open destruction dooms: the nodes that its command names, or all nodes that aren't destroyed.
use Rattle.std.specs.Prelude.{◌≡◌, ◌+◌, ℕ, Bool, true, false, if◌then◌else◌, List, [], ◌∷◌, map, get_or, Option, Some}
use Rattle.b1_model.specs.declared.commands.Command.TheVariants as cmd
use Rattle.b1_model.specs.declared.events.Doing.{Doing}
use Rattle.b1_model.specs.declared.events.Phase.{Phase}
use Rattle.b1_model.specs.declared.events.Phase.TheVariants.{Visiting, Dooming, SyncingNotices, CommittingOwn, CommittingNotices, Flushing}
use Rattle.b1_model.specs.MachineParts.{PeerPart, DriverPart, NodePart, State, is_live, is_destroyed, no_node}
use Rattle.b1_model.specs.MachineDriver.{is_flushing}
use Rattle.b1_model.specs.MachineTables.{serial_of}
use Rattle.b1_model.specs.MachineEvents.{doomed_of}
use Rattle.b1_inv.specs.Words.{IsPeer, IsDriver}
use Rattle.b1_inv.specs.Notices.{is_unstamped}

-- no node is live
abbrev pub NoneLive : List NodePart → Type 0
NoneLive nodes = (serial : ℕ) → is_live (get_or nodes serial no_node).state ≡ false

-- a phase of a destruction, from its begin to its flush
abbrev pub is_ending : Phase → Bool
is_ending (Visiting destruction left) = true
is_ending (Dooming destruction) = true
is_ending (SyncingNotices destruction stamp at) = true
is_ending (CommittingOwn destruction stamp) = true
is_ending (CommittingNotices destruction stamp at) = true
is_ending (Flushing stamp) = true
is_ending phase = false

-- from the begin of a PEER_RESET or a PEER_DISCONNECT to its flush no node of its peer is live
pub record FlushesDoomAll (s : State) : Type 0 where
  pub none : (p : ℕ) (d : DriverPart) (x : PeerPart) (doing : Doing) → IsDriver s p d → IsPeer s p x → d.doing ≡ Some doing → is_flushing doing.command ≡ true → is_ending doing.phase ≡ true → NoneLive x.nodes

-- the serials of the nodes that aren't destroyed, rising, where the first node has this serial
abbrev pub undestroyed : ℕ → List NodePart → List ℕ
undestroyed serial [] = []
undestroyed serial (n ∷ rest) = if is_destroyed n.state then undestroyed (serial + 1) rest else serial ∷ undestroyed (serial + 1) rest

-- a destruction without a stamp dooms, in their order, the nodes that its numbers name; one that ends in a flush, all nodes that aren't destroyed
pub record DoomsItsNodes (s : State) : Type 0 where
  pub named : (p : ℕ) (numbers : List ℕ) (d : DriverPart) (x : PeerPart) (doing : Doing) → IsDriver s p d → IsPeer s p x → d.doing ≡ Some doing → doing.command ≡ cmd.Destroy numbers → is_unstamped doing.phase ≡ true
      → map (λ number. serial_of number x.nodes) numbers ≡ map Some (doomed_of doing.phase)
  pub flushed : (p : ℕ) (d : DriverPart) (x : PeerPart) (doing : Doing) → IsDriver s p d → IsPeer s p x → d.doing ≡ Some doing → is_flushing doing.command ≡ true → is_unstamped doing.phase ≡ true
      → undestroyed 0 x.nodes ≡ doomed_of doing.phase

-- only a PEER_RESET or a PEER_DISCONNECT flushes
pub record FlushCommands (s : State) : Type 0 where
  pub flushes : (p : ℕ) (stamp : Option ℕ) (d : DriverPart) (doing : Doing) → IsDriver s p d → d.doing ≡ Some doing
      → doing.phase ≡ Flushing stamp → is_flushing doing.command ≡ true
