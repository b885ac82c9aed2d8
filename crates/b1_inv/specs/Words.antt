-- Small words on the parts of a state, for the invariants.
use Rattle.std.specs.Prelude.{◌==◌, drop, ◌≡◌, ◌<◌, ℕ, Bool, true, false, ◌&&◌, nat_le, List, [], slice_get, length, Option, Some, None}
use Rattle.std.specs.List.{list_any}
use Rattle.b1_model.specs.declared.naming.NodeRef.{NodeRef}
use Rattle.b1_model.specs.declared.answers.Reason.{Reason}
use Rattle.b1_model.specs.declared.events.Phase.{Phase}
use Rattle.b1_model.specs.declared.events.Phase.TheVariants.{Staging, Unstaging, Attaching, Stamping, Syncing, Committing, Visiting, Dooming, SyncingNotices, CommittingOwn, CommittingNotices}
use Rattle.b1_model.specs.MachineParts.{PeerPart, DriverPart, State}

-- in a state, this is the part of peer q; this is the part of driver p
abbrev pub IsPeer : State → ℕ → PeerPart → Type 0
IsPeer s q x = slice_get s.peers q ≡ Some x

abbrev pub IsDriver : State → ℕ → DriverPart → Type 0
IsDriver s p d = slice_get s.drivers p ≡ Some d

-- a peer's node was made
abbrev pub IsMade : State → NodeRef → Type 0
IsMade s node = (x : PeerPart) × IsPeer s node.owner x × (node.serial < length x.nodes)

-- a place without a reason
abbrev pub is_accepted_place : List (Option Reason) → ℕ → Bool
is_accepted_place places place = elim (slice_get places place) [ None ↦ false | Some reason ↦ elim reason [ None ↦ true | Some r ↦ false ] ]

-- the phase of a driver's open command, if one is open
abbrev pub phase_of : DriverPart → Option Phase
phase_of d = elim d.doing [ None ↦ None | Some doing ↦ Some doing.phase ]

-- the stamp of a phase, once it is fixed
abbrev pub stamp_of_phase : Phase → Option ℕ
stamp_of_phase (Syncing sending stamp place) = Some stamp
stamp_of_phase (Committing sending stamp place) = Some stamp
stamp_of_phase (SyncingNotices destruction stamp at) = Some stamp
stamp_of_phase (CommittingOwn destruction stamp) = Some stamp
stamp_of_phase (CommittingNotices destruction stamp at) = Some stamp
stamp_of_phase phase = None

-- the fixed stamp of a driver's open command
abbrev pub fixed_stamp : DriverPart → Option ℕ
fixed_stamp d = elim d.doing [ None ↦ None | Some doing ↦ stamp_of_phase doing.phase ]

-- a phase of a SEND waits at a place: its message was staged there, and is neither taken back nor committed yet
abbrev pub waits_at : Phase → ℕ → Bool
waits_at (Staging begun places collected) at = is_accepted_place places at
waits_at (Unstaging begun places refused place) at = nat_le place at && is_accepted_place places at
waits_at (Attaching sending place slot) at = is_accepted_place sending.places at
waits_at (Stamping sending) at = is_accepted_place sending.places at
waits_at (Syncing sending stamp place) at = is_accepted_place sending.places at
waits_at (Committing sending stamp place) at = nat_le place at && is_accepted_place sending.places at
waits_at phase at = false

-- the same of a driver
abbrev pub is_pending : DriverPart → ℕ → Bool
is_pending d at = elim d.doing [ None ↦ false | Some doing ↦ waits_at doing.phase at ]

-- a peer is one of a list
abbrev pub is_among : ℕ → List ℕ → Bool
is_among peer peers = list_any (λ q. q == peer) peers

-- an open destruction of a driver hasn't committed its notices at a peer yet: at its own, or at another where it staged some
abbrev pub phase_uncommitted : ℕ → Phase → ℕ → Bool
phase_uncommitted me (Visiting destruction left) q = true
phase_uncommitted me (Dooming destruction) q = true
phase_uncommitted me (SyncingNotices destruction stamp at) q = true
phase_uncommitted me (CommittingOwn destruction stamp) q = true
phase_uncommitted me (CommittingNotices destruction stamp at) q = is_among q (drop at destruction.staged)
phase_uncommitted me phase q = false

-- the same of a driver's part
abbrev pub is_uncommitted : DriverPart → ℕ → Bool
is_uncommitted d q = elim d.doing [ None ↦ false | Some doing ↦ phase_uncommitted d.me doing.phase q ]

-- the peers where an open destruction staged notices
abbrev pub staged_peers : Phase → List ℕ
staged_peers (Visiting destruction left) = destruction.staged
staged_peers (Dooming destruction) = destruction.staged
staged_peers (SyncingNotices destruction stamp at) = destruction.staged
staged_peers (CommittingOwn destruction stamp) = destruction.staged
staged_peers (CommittingNotices destruction stamp at) = destruction.staged
staged_peers phase = []
