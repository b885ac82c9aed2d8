-- Clocks and stamps: what the clocks of peers cover, and what open commands have collected.
use Rattle.std.specs.Prelude.{◌≡◌, ◌≤◌, ◌+◌, ℕ, Bool, true, false, ◌&&◌, nat_lt, List, [], take, slice_get, Some, None}
use Rattle.b1_model.specs.declared.naming.Key.{Key}
use Rattle.b1_model.specs.declared.naming.NodeRef.{NodeRef}
use Rattle.b1_model.specs.declared.entries.Entry.{Entry}
use Rattle.b1_model.specs.declared.entries.Entry.TheVariants.{Message, OwnNotice, ForeignNotice, ReleaseNotice}
use Rattle.b1_model.specs.declared.records.Call.{Call}
use Rattle.b1_model.specs.declared.events.Doing.{Doing}
use Rattle.b1_model.specs.declared.events.OwedDrop.{OwedDrop}
use Rattle.b1_model.specs.declared.events.Phase.{Phase}
use Rattle.b1_model.specs.declared.events.Phase.TheVariants.{Syncing, Committing, SyncingNotices, CommittingOwn, CommittingNotices}
use Rattle.b1_model.specs.Names.{calls_of}
use Rattle.b1_model.specs.Legal.{seen_stamp}
use Rattle.b1_model.specs.MachineParts.{PeerPart, DriverPart, State, is_staged}
use Rattle.b1_model.specs.MachineEvents.{begun_of, collected_of}
use Rattle.b1_model.specs.MachineStep.{record_of_state}
use Rattle.b1_step.specs.Rights.{Has}
use Rattle.b1_inv.specs.Words.{IsPeer, IsDriver, is_accepted_place, stamp_of_phase, fixed_stamp}
use Rattle.b1_inv_record.specs.Epochs.{is_unstaging}

-- a SEND with its stamp has synced the recipient at a place: all accepted ones from the first commit on
abbrev pub is_synced_place : Phase → ℕ → Bool
is_synced_place (Syncing sending stamp place) at = nat_lt at place && is_accepted_place sending.places at
is_synced_place (Committing sending stamp place) at = is_accepted_place sending.places at
is_synced_place phase at = false

-- the peers that a destruction with its stamp has synced: all with a staged notice from the first commit on
abbrev pub synced_peers : Phase → List ℕ
synced_peers (SyncingNotices destruction stamp at) = take at destruction.staged
synced_peers (CommittingOwn destruction stamp) = destruction.staged
synced_peers (CommittingNotices destruction stamp at) = destruction.staged
synced_peers phase = []

-- a node's own notice: its clock isn't collected, as it is that of the destruction's own peer
abbrev pub is_own_notice : Entry → Bool
is_own_notice (Message origin user index serial offset len nodes slots handles payload) = false
is_own_notice (OwnNotice serial index) = true
is_own_notice (ForeignNotice node index) = false
is_own_notice (ReleaseNotice serial) = false

-- the stamp of every committed entry, release notices too, is at most the clock of the peer in whose queue it stands
pub record CommittedBelowClock (s : State) : Type 0 where
  pub below : (q : ℕ) (x : PeerPart) (f : Key × Entry) → IsPeer s q x → Has x.queue f → is_staged f ≡ false → f.0.stamp ≤ x.clock

-- every stamp in a peer's calls, sent or received, is at most its clock
pub record ListedBelowClock (s : State) : Type 0 where
  pub below : (q : ℕ) (x : PeerPart) (c : Call) (stamp : ℕ) → IsPeer s q x → Has (calls_of (record_of_state s) q) c → seen_stamp c.answer ≡ Some stamp → stamp ≤ x.clock

-- the clocks of the recipients that a stamped SEND has synced, and of the holders that a stamped destruction has synced, are at least the stamp
pub record Synced (s : State) : Type 0 where
  pub recipients : (p at stamp : ℕ) (d : DriverPart) (doing : Doing) (node : NodeRef) (x : PeerPart) → IsDriver s p d → d.doing ≡ Some doing → stamp_of_phase doing.phase ≡ Some stamp
      → slice_get (begun_of doing.phase).to at ≡ Some node → is_synced_place doing.phase at ≡ true → IsPeer s node.owner x → stamp ≤ x.clock
  pub holders : (p q stamp : ℕ) (d : DriverPart) (doing : Doing) (x : PeerPart) → IsDriver s p d → d.doing ≡ Some doing → stamp_of_phase doing.phase ≡ Some stamp
      → Has (synced_peers doing.phase) q → IsPeer s q x → stamp ≤ x.clock

-- a fixed stamp is above all that its command collected
pub record StampsAboveCollected (s : State) : Type 0 where
  pub above : (p stamp : ℕ) (d : DriverPart) (doing : Doing) → IsDriver s p d → d.doing ≡ Some doing → stamp_of_phase doing.phase ≡ Some stamp → collected_of doing.phase + 2 ≤ stamp

-- a staged key is at most one above the clock of its peer, and at most one above what its command has collected, own notices aside
pub record StagedKeysRight (s : State) : Type 0 where
  pub clock : (q : ℕ) (x : PeerPart) (f : Key × Entry) → IsPeer s q x → Has x.queue f → is_staged f ≡ true → f.0.stamp ≤ x.clock + 1
  pub collected : (q : ℕ) (x : PeerPart) (f : Key × Entry) (d : DriverPart) (doing : Doing) → IsPeer s q x → Has x.queue f → is_staged f ≡ true → is_own_notice f.1 ≡ false
      → IsDriver s f.0.origin d → d.doing ≡ Some doing → is_unstaging doing.phase ≡ false → f.0.stamp ≤ collected_of doing.phase + 1

-- a drop that a SEND owes has its stamp; any other one is of the driver's own peer, with a clock at most that peer's
pub record OwedRight (s : State) : Type 0 where
  pub sent : (p stamp : ℕ) (d : DriverPart) (one : OwedDrop) → IsDriver s p d → Has d.owed one → fixed_stamp d ≡ Some stamp → one.clock ≡ stamp
  pub own : (p : ℕ) (d : DriverPart) (x : PeerPart) (one : OwedDrop) → IsDriver s p d → IsPeer s p x → Has d.owed one → fixed_stamp d ≡ None → (one.holder ≡ p) × (one.clock ≤ x.clock)
