-- An open command before its stamp, and the peers that it has reached.
use Rattle.std.specs.Prelude.{◌≡◌, ℕ, Bool, true, false, List, slice_get, Option, Some}
use Rattle.b1_model.specs.declared.answers.Reason.{Reason}
use Rattle.b1_model.specs.declared.naming.NodeRef.{NodeRef}
use Rattle.b1_model.specs.declared.events.Phase.{Phase}
use Rattle.b1_model.specs.declared.events.Phase.TheVariants.{Staging, Attaching, Stamping, Syncing, Committing, Visiting, Dooming, SyncingNotices, CommittingOwn, CommittingNotices}
use Rattle.b1_step.specs.Rights.{Has}
use Rattle.b1_inv.specs.Words.{is_accepted_place}

-- a phase of a SEND or a destruction that has no stamp yet
abbrev pub is_early : Phase → Bool
is_early (Staging begun places collected) = true
is_early (Attaching sending place slot) = true
is_early (Stamping sending) = true
is_early (Visiting destruction left) = true
is_early (Dooming destruction) = true
is_early phase = false

-- one of some destinations was accepted, and is a node of this peer
abbrev pub AcceptedAt : List NodeRef → List (Option Reason) → ℕ → Type 0
AcceptedAt to places peer = (at : ℕ) × (node : NodeRef) × (slice_get to at ≡ Some node) × (is_accepted_place places at ≡ true) × (node.owner ≡ peer)

-- a command in a phase has staged an entry or a notice at a peer
abbrev pub Reaches : Phase → ℕ → Type 0
Reaches (Staging begun places collected) peer = AcceptedAt begun.to places peer
Reaches (Attaching sending place slot) peer = AcceptedAt sending.begun.to sending.places peer
Reaches (Stamping sending) peer = AcceptedAt sending.begun.to sending.places peer
Reaches (Syncing sending stamp place) peer = AcceptedAt sending.begun.to sending.places peer
Reaches (Committing sending stamp place) peer = AcceptedAt sending.begun.to sending.places peer
Reaches (Visiting destruction left) peer = Has destruction.staged peer
Reaches (Dooming destruction) peer = Has destruction.staged peer
Reaches (SyncingNotices destruction stamp at) peer = Has destruction.staged peer
Reaches (CommittingOwn destruction stamp) peer = Has destruction.staged peer
Reaches (CommittingNotices destruction stamp at) peer = Has destruction.staged peer
Reaches phase peer = ⊥

-- a phase with a stamp in which clocks are still brought up to it
abbrev pub is_syncing : Phase → Bool
is_syncing (Syncing sending stamp place) = true
is_syncing (SyncingNotices destruction stamp at) = true
is_syncing phase = false
