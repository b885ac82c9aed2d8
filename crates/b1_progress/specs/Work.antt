-- How many steps an open command may still take where no other driver steps: a bound by its phase, by what is owed, and by what its peer keeps.
use Rattle.std.specs.Prelude.{[], ◌∷◌, ℕ, ◌+◌, ◌*◌, ◌-◌, List, length, Some, None}
use Rattle.b1_model.specs.declared.naming.Key.{Key}
use Rattle.b1_model.specs.declared.naming.NodeRef.{NodeRef}
use Rattle.b1_model.specs.declared.entries.Entry.{Entry}
use Rattle.b1_model.specs.declared.events.Destruction.{Destruction}
use Rattle.b1_model.specs.declared.events.Phase.{Phase}
use Rattle.b1_model.specs.declared.events.Phase.TheVariants.{Starting, Staging, Unstaging, Attaching, Stamping, Syncing, Committing, Dropping, Reaping, Visiting, Dooming, SyncingNotices, CommittingOwn, CommittingNotices, Flushing}
use Rattle.b1_model.specs.MachineParts.{PeerPart, DriverPart, HandleRecord, carried}

-- what a peer keeps that may still be given up: each reference may become a drop, and each drop a notice

-- a queued entry, with two for each carried node
abbrev pub entry_weight : Key × Entry → ℕ
entry_weight f = 1 + 2 * length (carried f.1)

-- an item of the dead list, with two for each reference
abbrev pub item_weight : List (NodeRef × ℕ) → ℕ
item_weight item = 1 + 2 * length item

-- the weights of a list's elements together
abbrev pub total_of : {X : Type 0} → (X → ℕ) → List X → ℕ
total_of w [] = 0
total_of w (x ∷ xs) = w x + total_of w xs

-- a queue, handle records, a dead list
abbrev pub queue_weight : List (Key × Entry) → ℕ
queue_weight queue = total_of entry_weight queue

abbrev pub handles_weight : List HandleRecord → ℕ
handles_weight handles = 3 * length handles

abbrev pub dead_weight : List (List (NodeRef × ℕ)) → ℕ
dead_weight dead = total_of item_weight dead

-- together
abbrev pub kept_weight : PeerPart → ℕ
kept_weight x = queue_weight x.queue + handles_weight x.handles + dead_weight x.dead

-- a SEND with n destinations and h handles: its commits from a place on, its syncs, its stamp, its attaches from a handle at a place on, its stages from a place on
abbrev pub commit_weight : ℕ → ℕ → ℕ → ℕ
commit_weight n h place = (2 * h + 2) * (n - place)

abbrev pub sync_weight : ℕ → ℕ → ℕ → ℕ
sync_weight n h place = commit_weight n h 0 + (n - place) + 1

abbrev pub stamp_weight : ℕ → ℕ → ℕ
stamp_weight n h = sync_weight n h 0 + 1

abbrev pub attach_weight : ℕ → ℕ → ℕ → ℕ → ℕ
attach_weight n h place handle = stamp_weight n h + 1 + (h * (n - place) - handle)

abbrev pub stage_weight : ℕ → ℕ → ℕ → ℕ
stage_weight n h place = attach_weight n h 0 0 + 1 + (5 * h + 3) * (n - place)

-- a destruction that staged notices at some peers: its commits from one of them on, its own commit, its syncs, its stamp
abbrev pub notices_weight : Destruction → ℕ → ℕ
notices_weight d at = (length d.staged - at) + 3

abbrev pub own_weight : Destruction → ℕ
own_weight d = length d.staged + 4

abbrev pub notice_syncs_weight : Destruction → ℕ → ℕ
notice_syncs_weight d at = (length d.staged - at) + own_weight d

abbrev pub doom_weight : Destruction → ℕ
doom_weight d = 2 * length d.staged + 6

-- a phase, at a peer with so many late holders
abbrev pub phase_weight : ℕ → Phase → ℕ
phase_weight late Starting = 0
phase_weight late (Staging nodes places collected) = stage_weight (length nodes.to) (length nodes.with) (length places)
phase_weight late (Unstaging nodes places refused place) = (length nodes.to - place) + 1
phase_weight late (Attaching sending place handle) = attach_weight (length sending.begun.to) (length sending.begun.with) place handle
phase_weight late (Stamping sending) = stamp_weight (length sending.begun.to) (length sending.begun.with)
phase_weight late (Syncing sending stamp place) = sync_weight (length sending.begun.to) (length sending.begun.with) place
phase_weight late (Committing sending stamp place) = commit_weight (length sending.begun.to) (length sending.begun.with) place
phase_weight late Dropping = 0
phase_weight late (Reaping answer) = 1
phase_weight late (Visiting d left) = doom_weight d + 1 + 4 * length left + 6 * late
phase_weight late (Dooming d) = doom_weight d + 6 * late
phase_weight late (SyncingNotices d stamp at) = notice_syncs_weight d at
phase_weight late (CommittingOwn d stamp) = own_weight d
phase_weight late (CommittingNotices d stamp at) = notices_weight d at
phase_weight late (Flushing stamp) = 2

-- the work that is left of a driver's open command, at the part of its own peer
abbrev pub work : DriverPart → PeerPart → ℕ
work d x = elim d.doing [ None ↦ 0 | Some doing ↦ phase_weight (length x.late) doing.phase ] + 2 * length d.owed + kept_weight x
