-- The references to a node counted anew, and when its release notice is due.
use Rattle.std.specs.Prelude.{◌≡◌, ◌↔◌, ℕ, ◌+◌, ◌==◌, ◌<◌, Bool, true, false, ◌&&◌, not, nat_le, if◌then◌else◌, List, [], ◌∷◌, slice_get, length, Option, Some, None, Ok, Err, sum_by}
use Rattle.std.specs.List.{list_any, range_with_len}
use Rattle.b1_model.specs.declared.naming.Key.{Key}
use Rattle.b1_model.specs.declared.naming.NodeRef.{NodeRef}
use Rattle.b1_model.specs.declared.naming.Opening.{Opening}
use Rattle.b1_model.specs.declared.commands.Command.{Command}
use Rattle.b1_model.specs.declared.parts.Attach.TheVariants as attach
use Rattle.b1_model.specs.declared.entries.Entry.{Entry}
use Rattle.b1_model.specs.declared.answers.Receipt.TheVariants as receipt
use Rattle.b1_model.specs.declared.answers.Reason.{Reason}
use Rattle.b1_model.specs.declared.events.Action.{Action}
use Rattle.b1_model.specs.declared.events.Action.TheVariants as act
use Rattle.b1_model.specs.declared.events.Phase.{Phase}
use Rattle.b1_model.specs.declared.events.Phase.TheVariants.{Attaching, Stamping, Syncing, Committing}
use Rattle.b1_model.specs.declared.events.Sending.{Sending}
use Rattle.b1_model.specs.declared.events.OwedDrop.{OwedDrop}
use Rattle.b1_model.specs.MachineParts.{PeerPart, DriverPart, State, same_ref, is_staged, is_live, is_release_notice, node_at, record_or_none}
use Rattle.b1_model.specs.MachineSend.{attach_answer}
use Rattle.b1_model.specs.MachineReceive.{references, received}
use Rattle.b1_model.specs.MachineDriver.{node_of_place}
use Rattle.b1_model.specs.MachineTook.{place_references}
use Rattle.b1_model.specs.MachineStep.{Step}

-- ---- the fresh count

-- how many of the references are to a node
abbrev pub amount_in : NodeRef → List (NodeRef × ℕ) → ℕ
amount_in node refs = sum_by (λ r. if same_ref r.0 node then r.1 else 0) refs

-- in the committed entries of a queue
abbrev pub queue_amount : NodeRef → List (Key × Entry) → ℕ
queue_amount node queue = sum_by (λ f. if is_staged f then 0 else amount_in node (references f.1)) queue

-- in a dead list
abbrev pub dead_amount : NodeRef → List (List (NodeRef × ℕ)) → ℕ
dead_amount node dead = sum_by (amount_in node) dead

-- what a peer's part has of a foreign node
abbrev pub peer_amount : NodeRef → PeerPart → ℕ
peer_amount node x = (record_or_none node x.handles).held + queue_amount node x.queue + dead_amount node x.dead

-- the drops that are owed for a holder
abbrev pub owed_amount : NodeRef → ℕ → List OwedDrop → ℕ
owed_amount node holder owed = sum_by (λ one. if same_ref one.node node && (one.holder == holder) then one.amount else 0) owed

-- the attached slots of a SEND's accepted places from one on that are at a peer; the list's first place is `here`
abbrev pub kept_from : NodeRef → ℕ → Sending → ℕ → ℕ → List (Option Reason) → ℕ
kept_from node holder sending from here [] = 0
kept_from node holder sending from here (Some r ∷ rest) = kept_from node holder sending from (here + 1) rest
kept_from node holder sending from here (None ∷ rest) =
    (if nat_le from here && ((node_of_place sending.begun.to here).owner == holder) then amount_in node (place_references sending here) else 0)
    + kept_from node holder sending from (here + 1) rest

-- what an open SEND keeps for entries at a peer that it hasn't committed, those that a flush cancelled too
abbrev pub kept_amount : NodeRef → ℕ → Phase → ℕ
kept_amount node holder (Attaching sending place slot) = kept_from node holder sending 0 0 sending.places
kept_amount node holder (Stamping sending) = kept_from node holder sending 0 0 sending.places
kept_amount node holder (Syncing sending stamp place) = kept_from node holder sending 0 0 sending.places
kept_amount node holder (Committing sending stamp place) = kept_from node holder sending place 0 sending.places
kept_amount node holder phase = 0

-- what a driver's part has for a holder
abbrev pub driver_amount : NodeRef → ℕ → DriverPart → ℕ
driver_amount node holder d = owed_amount node holder d.owed + elim d.doing [ None ↦ 0 | Some doing ↦ kept_amount node holder doing.phase ]

-- the references of a peer to a foreign node, counted anew
abbrev pub fresh : State → NodeRef → ℕ → ℕ
fresh s node q = elim (slice_get s.peers q) [ None ↦ 0 | Some x ↦ peer_amount node x ] + sum_by (driver_amount node q) s.drivers

-- over all peers
abbrev pub total : State → NodeRef → ℕ
total s node = sum_by (fresh s node) (range_with_len 0 (length s.peers))

-- ---- release notices

-- whether a node's release notice is queued at a part
abbrev pub has_release_notice : ℕ → PeerPart → Bool
has_release_notice serial x = list_any (is_release_notice serial) x.queue

-- whether it is queued at its owner
abbrev pub is_notified : State → NodeRef → Bool
is_notified s node = elim (slice_get s.peers node.owner) [ None ↦ false | Some x ↦ has_release_notice node.serial x ]

-- the node was made and is live
abbrev pub is_live_in : State → NodeRef → Bool
is_live_in s node = elim (slice_get s.peers node.owner) [ None ↦ false | Some x ↦ is_live (node_at x node.serial).state ]

-- an event by which its owner takes references to the node back
abbrev pub is_drop_of : NodeRef → Action → Bool
is_drop_of node (act.DropRefs peer serial holder k clock) = (peer == node.owner) && (serial == node.serial)
is_drop_of node action = false

-- an event by which its owner, with this part, counts a reference to the node
abbrev pub is_attach_of : NodeRef → PeerPart → Action → Bool
is_attach_of node x (act.Attach peer serial dest) = (peer == node.owner) && (serial == node.serial) && elim (attach_answer x serial dest) [ attach.Counted ↦ true | other ↦ false ]
is_attach_of node x action = false

-- a begin of a destruction at the node's owner, after which it isn't live
abbrev pub is_doom_of : NodeRef → ℕ → State → Action → Bool
is_doom_of node at t act.BeginDestroy = (at == node.owner) && not (is_live_in t node)
is_doom_of node at t action = false

-- an event by which its owner, with this part, takes the node's release notice
abbrev pub is_receipt_of : NodeRef → ℕ → PeerPart → Action → Bool
is_receipt_of node at x act.Recv =
    (at == node.owner) && elim (received x).front [ Err front ↦ false | Ok got ↦ elim got [ receipt.Released stamp number ↦ number == (node_at x node.serial).number | other ↦ false ] ]
is_receipt_of node at x action = false

-- an event takes the notice out of the queue: an attach, a destruction's begin, or a receipt
abbrev pub takes_notice : NodeRef → ℕ → PeerPart → State → Action → Bool
takes_notice node at x t action = elim (is_attach_of node x action) [ true ↦ true | false ↦ elim (is_doom_of node at t action) [ true ↦ true | false ↦ is_receipt_of node at x action ] ]

-- the node's notice is queued at a part with this stamp
abbrev pub is_notice_with : ℕ → ℕ → Key × Entry → Bool
is_notice_with serial stamp f = is_release_notice serial f && (f.0.stamp == stamp)

-- one step and a node that is live before it: when its release notice comes, with which stamp, when it goes, and that it is taken only where nobody has a reference
pub record ReleaseDue {o : Opening} {s : State} {p : ℕ} {command : Option Command} {t : State} (step : Step o s p command t) (node : NodeRef) (live : is_live_in s node ≡ true) : Type 0 where
  pub comes : (is_notified s node ≡ false) × (is_notified t node ≡ true) ↔ (is_drop_of node step.action ≡ true) × (0 < total s node) × (total t node ≡ 0)
  pub stamp : is_notified s node ≡ false → is_notified t node ≡ true → list_any (is_notice_with node.serial step.new_peer.clock) step.new_peer.queue ≡ true
  pub goes : is_notified s node ≡ true → (is_notified t node ≡ false) ↔ (takes_notice node step.at step.peer t step.action ≡ true)
  pub taken : is_receipt_of node step.at step.peer step.action ≡ true → total s node ≡ 0

-- no node has a release notice queued, as in an opening
abbrev pub NoneNotified : State → Type 0
NoneNotified s = (node : NodeRef) → is_notified s node ≡ false

-- no dying or destroyed node has a release notice queued
abbrev pub OnlyLiveNotified : State → Type 0
OnlyLiveNotified s = (node : NodeRef) → is_notified s node ≡ true → is_live_in s node ≡ true
