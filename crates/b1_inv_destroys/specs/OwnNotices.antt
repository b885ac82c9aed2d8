-- Single facts of own notices, of the group that says where each stands.
use Rattle.std.specs.Prelude.{◌≡◌, ◌≤◌, ℕ, true, false, slice_get, Some}
use Rattle.b1_model.specs.declared.naming.Key.{Key}
use Rattle.b1_model.specs.declared.naming.Opening.{Opening}
use Rattle.b1_model.specs.declared.entries.Entry.TheVariants.{OwnNotice}
use Rattle.b1_model.specs.MachineParts.{PeerPart, DriverPart, NodePart, State, is_staged, is_destroyed, node_at}
use Rattle.b1_step.specs.Rights.{Has}
use Rattle.b1_inv.specs.Words.{IsPeer, IsDriver, is_uncommitted}
use Rattle.b1_inv.specs.Notices.{doomed_now}
use Rattle.b1_inv_record.specs.Epochs.{first_done}
use Rattle.b1_inv_record.specs.Destructions.{own_ref, doomed_key}

-- a committed own notice has the key of its node's destruction
abbrev pub OwnKeyed : Opening → State → Type 0
OwnKeyed o s = (p i serial : ℕ) (x : PeerPart) (k : Key) → IsPeer s p x → Has x.queue (k, OwnNotice serial i) → is_staged (k, OwnNotice serial i) ≡ false → doomed_key o s (own_ref p serial) ≡ Some k

-- a node has one own notice at most
abbrev pub OwnOnce : State → Type 0
OwnOnce s = (p i j serial : ℕ) (x : PeerPart) (k l : Key) → IsPeer s p x → Has x.queue (k, OwnNotice serial i) → Has x.queue (l, OwnNotice serial j) → k ≡ l

-- a node's own notice isn't taken while it is queued
abbrev pub OwnUntaken : State → Type 0
OwnUntaken s = (p i serial : ℕ) (x : PeerPart) (k : Key) → IsPeer s p x → Has x.queue (k, OwnNotice serial i) → (node_at x serial).taken ≡ false

-- a node whose notice was taken is destroyed
abbrev pub TakenDestroyed : State → Type 0
TakenDestroyed s = (p serial : ℕ) (x : PeerPart) (n : NodePart) → IsPeer s p x → slice_get x.nodes serial ≡ Some n → n.taken ≡ true → is_destroyed n.state ≡ true

-- a queued own notice is of a node of the part's epoch
abbrev pub OwnPresent : Opening → State → Type 0
OwnPresent o s = (p i serial : ℕ) (x : PeerPart) (k : Key) → IsPeer s p x → Has x.queue (k, OwnNotice serial i) → first_done o s p ≤ serial

-- an open destruction dooms nodes of the part's epoch
abbrev pub DoomedPresent : Opening → State → Type 0
DoomedPresent o s = (p serial : ℕ) (d : DriverPart) → IsDriver s p d → Has (doomed_now d) serial → first_done o s p ≤ serial

-- a doomed node's own notice is staged at its place until the commit at its own peer
abbrev pub OwnStaged : State → Type 0
OwnStaged s = (p i serial : ℕ) (d : DriverPart) (x : PeerPart) → IsDriver s p d → IsPeer s p x → slice_get (doomed_now d) i ≡ Some serial → is_uncommitted d p ≡ true
    → (k : Key) × Has x.queue (k, OwnNotice serial i) × (is_staged (k, OwnNotice serial i) ≡ true)
