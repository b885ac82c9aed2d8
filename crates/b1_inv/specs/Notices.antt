-- Open destructions: their nodes, whom they visit, and which notices are queued for them.
use Rattle.std.specs.Prelude.{◌≡◌, ◌≢◌, ◌<◌, ◌≤◌, ◌⊎◌, ⊤, ℕ, Bool, true, false, List, [], ◌∷◌, length, slice_get, Some, None}
use Rattle.b1_model.specs.declared.naming.Key.{Key}
use Rattle.b1_model.specs.declared.parts.NodeState.{NodeState}
use Rattle.b1_model.specs.declared.parts.NodeState.TheVariants.{Dying, Destroyed}
use Rattle.b1_model.specs.declared.commands.Command.{Command}
use Rattle.b1_model.specs.declared.commands.Command.TheVariants as cmd
use Rattle.b1_model.specs.declared.entries.Entry.{Entry}
use Rattle.b1_model.specs.declared.entries.Entry.TheVariants.{Message, OwnNotice, ForeignNotice, ReleaseNotice}
use Rattle.b1_model.specs.declared.events.Doing.{Doing}
use Rattle.b1_model.specs.declared.events.Phase.{Phase}
use Rattle.b1_model.specs.declared.events.Phase.TheVariants.{Visiting, Dooming, SyncingNotices, CommittingOwn, CommittingNotices}
use Rattle.b1_model.specs.declared.events.Destruction.{Destruction}
use Rattle.b1_model.specs.MachineParts.{PeerPart, DriverPart, State, node_at, is_staged, is_dying, no_origin}
use Rattle.b1_model.specs.MachineEvents.{doomed_of}
use Rattle.b1_step.specs.Rights.{Has}
use Rattle.b1_inv.specs.Words.{IsPeer, IsDriver, staged_peers, is_uncommitted}

-- numbers that rise
abbrev pub AllAbove : ℕ → List ℕ → Type 0
AllAbove n [] = ⊤
AllAbove n (m ∷ rest) = (n < m) × AllAbove n rest

abbrev pub Rises : List ℕ → Type 0
Rises [] = ⊤
Rises (n ∷ rest) = AllAbove n rest × Rises rest

-- no number twice
abbrev pub Apart : List ℕ → Type 0
Apart [] = ⊤
Apart (n ∷ rest) = (Has rest n → ⊥) × Apart rest

-- peers that a destruction of peer me may visit: rising, each another peer of the opening
pub record AreOthers (peers me : ℕ) (list : List ℕ) : Type 0 where
  pub rising : Rises list
  pub others : (q : ℕ) → Has list q → (q < peers) × (q ≢ me)

-- the command of a destruction
abbrev pub IsDestroying : Command → Type 0
IsDestroying (cmd.Destroy numbers) = ⊤
IsDestroying (cmd.Reset limits) = ⊤
IsDestroying cmd.Disconnect = ⊤
IsDestroying command = ⊥

-- an open destruction: its nodes, each once, were made at its peer, and are dying or have its stamp; it staged notices at other peers
pub record IsDestruction (peers : ℕ) (x : PeerPart) (d : Destruction) (state : NodeState) : Type 0 where
  pub some : 1 ≤ length d.doomed
  pub apart : Apart d.doomed
  pub made : (serial : ℕ) → Has d.doomed serial → (serial < length x.nodes) × ((node_at x serial).state ≡ state)
  pub staged : AreOthers peers x.me d.staged

-- an open destruction, by its phase, at the part of its peer; a phase of another command says nothing here
abbrev pub DestructionShape : ℕ → PeerPart → Command → Phase → Type 0
DestructionShape peers x command (Visiting d left) = IsDestroying command × IsDestruction peers x d Dying × (1 ≤ length left) × AreOthers peers x.me left
DestructionShape peers x command (Dooming d) = IsDestroying command × IsDestruction peers x d Dying
DestructionShape peers x command (SyncingNotices d stamp at) = IsDestroying command × IsDestruction peers x d (Destroyed stamp) × (at < length d.staged)
DestructionShape peers x command (CommittingOwn d stamp) = IsDestroying command × IsDestruction peers x d (Destroyed stamp)
DestructionShape peers x command (CommittingNotices d stamp at) = IsDestroying command × IsDestruction peers x d (Destroyed stamp) × (at < length d.staged)
DestructionShape peers x command phase = ⊤

-- a phase of a destruction that has no stamp yet
abbrev pub is_unstamped : Phase → Bool
is_unstamped (Visiting d left) = true
is_unstamped (Dooming d) = true
is_unstamped phase = false

-- the nodes that are dying while an open command is in a phase
abbrev pub dying_of : Phase → List ℕ
dying_of (Visiting d left) = d.doomed
dying_of (Dooming d) = d.doomed
dying_of phase = []

-- the same of a driver's part
abbrev pub dying_now : DriverPart → List ℕ
dying_now d = elim d.doing [ None ↦ [] | Some doing ↦ dying_of doing.phase ]

-- the nodes of an open destruction of a driver
abbrev pub doomed_now : DriverPart → List ℕ
doomed_now d = elim d.doing [ None ↦ [] | Some doing ↦ doomed_of doing.phase ]

-- the peers where a driver's open destruction staged notices
abbrev pub staged_now : DriverPart → List ℕ
staged_now d = elim d.doing [ None ↦ [] | Some doing ↦ staged_peers doing.phase ]

-- a notice in the queue of peer q with its key: which node it is of, and while it is staged, whose open destruction's
abbrev pub NoticeShape : State → ℕ → PeerPart → Key × Entry → Type 0
NoticeShape s q x (k, Message origin user index serial offset len nodes slots handles payload) = (k.origin ≡ origin) × (k.index ≡ index) × (origin ≢ no_origin)
NoticeShape s q x (k, OwnNotice serial index) =
    (k.origin ≡ q) × (k.index ≡ index)
    × ((d : DriverPart) → IsDriver s q d → is_staged (k, OwnNotice serial index) ≡ true → (is_uncommitted d q ≡ true) × (slice_get (doomed_now d) index ≡ Some serial))
NoticeShape s q x (k, ForeignNotice node index) =
    (k.origin ≡ node.owner) × (k.index ≡ index) × (node.owner ≢ q)
    × ((d : DriverPart) → IsDriver s node.owner d → is_staged (k, ForeignNotice node index) ≡ true → (is_uncommitted d q ≡ true) × (slice_get (doomed_now d) index ≡ Some node.serial) × Has (staged_now d) q)
NoticeShape s q x (k, ReleaseNotice serial) = (k.origin ≡ no_origin) × (k.index ≡ serial) × (is_staged (k, ReleaseNotice serial) ≡ false)

-- open destructions have their shape; a node is dying exactly while an open destruction without a stamp dooms it; the late set has other peers, and only then; keys and notices are right
pub record NoticesRight (s : State) : Type 0 where
  pub shape : (p : ℕ) (d : DriverPart) (x : PeerPart) (doing : Doing) → IsDriver s p d → IsPeer s p x → d.doing ≡ Some doing → DestructionShape x.peers x doing.command doing.phase
  pub dying : (p : ℕ) (d : DriverPart) (x : PeerPart) (serial : ℕ) → IsDriver s p d → IsPeer s p x → is_dying (node_at x serial).state ≡ true → Has (dying_now d) serial
  pub late : (p : ℕ) (d : DriverPart) (x : PeerPart) → IsDriver s p d → IsPeer s p x → AreOthers x.peers x.me x.late × ((x.late ≡ []) ⊎ (1 ≤ length (dying_now d)))
  pub queued : (q : ℕ) (x : PeerPart) (f : Key × Entry) → IsPeer s q x → Has x.queue f → NoticeShape s q x f
