-- What the events of a SEND do at one peer: begin, stage, unstage, attach, stamp, sync, commit.
use Rattle.std.specs.Prelude.{ℕ, ◌+◌, ◌==◌, max, Bool, ◌||◌, not, nat_lt, nat_le, if◌then◌else◌, List, [], ◌∷◌, Option, Some, None, map, filter, find, filter_map, fold, length, is_none, is_some, option_map}
use Rattle.std.specs.List.{list_any}
use Rattle.std.specs.Bool.{then_some}
use Rattle.b1_model.specs.declared.naming.Key.{Key}
use Rattle.b1_model.specs.declared.naming.NodeRef.{NodeRef}
use Rattle.b1_model.specs.declared.commands.SendCmd.{SendCmd}
use Rattle.b1_model.specs.declared.parts.NodeState.{NodeState}
use Rattle.b1_model.specs.declared.parts.NodeState.TheVariants.{Live, Dying, Destroyed}
use Rattle.b1_model.specs.declared.parts.Attach.{Attach}
use Rattle.b1_model.specs.declared.parts.Attach.TheVariants as attach
use Rattle.b1_model.specs.declared.parts.Slot.{Slot}
use Rattle.b1_model.specs.declared.parts.Slot.TheVariants.{Unattached}
use Rattle.b1_model.specs.declared.parts.Begun.{Begun}
use Rattle.b1_model.specs.declared.entries.Entry.{Entry}
use Rattle.b1_model.specs.declared.entries.Entry.TheVariants.{Message, OwnNotice, ForeignNotice, ReleaseNotice}
use Rattle.b1_model.specs.declared.answers.Reason.{Reason}
use Rattle.b1_model.specs.declared.answers.Reason.TheVariants as reason
use Rattle.b1_model.specs.declared.answers.Quantity.TheVariants.{Entries, Bytes, Handles}
use Rattle.b1_model.specs.Names.{is_own, is_given}
use Rattle.b1_model.specs.declared.limits.TheConstants.{MOST_DESTINATIONS, MOST_HANDLES, MOST_PAYLOAD}
use Rattle.b1_model.specs.MachineParts.{PeerPart, clock_limit, is_odd, is_live, is_dying, is_destroyed, is_release_notice, node_at, carried}
use Rattle.b1_model.specs.MachinePool.{slice_len, largest_free, taken, taken_offset, given_back}
use Rattle.b1_model.specs.MachineTables.{put, put_all, without, is_stage, is_staged_notice, over_quota, is_number, serial_of, node_named, with_made, with_node, counted, expected, unexpected, foreign, with_peer}

-- the first reason of a list of refusals in their order
abbrev pub first_reason : List (Option Reason) → Option Reason
first_reason [] = None
first_reason (None ∷ rest) = first_reason rest
first_reason (Some r ∷ rest) = Some r

-- ---- begin

-- no destination or too many, too many handles, or a number with bit 0 set
abbrev pub is_bad_send : SendCmd → Bool
is_bad_send c = (length c.to == 0) || nat_lt MOST_DESTINATIONS (length c.to) || nat_lt MOST_HANDLES (length c.with) || list_any is_odd c.to || list_any is_odd c.with

-- a number that names nothing at a peer
abbrev pub is_unknown : PeerPart → ℕ → Bool
is_unknown x number = is_none (node_named x number)

-- the first number that names nothing, of those that have to name something
abbrev pub unknown_reason : PeerPart → List ℕ → Option Reason
unknown_reason x numbers = option_map (λ number. reason.Unknown number) (find (is_unknown x) numbers)

-- a carried own number is dead where its node is destroyed, a held handle where its destroy notice was taken
abbrev pub dead_reason : PeerPart → ℕ → Option Reason
dead_reason x number =
    if is_own number then elim (serial_of number x.nodes) [ None ↦ None | Some serial ↦ then_some (is_destroyed (node_at x serial).state) (reason.Gone x.me serial) ]
    else elim (find (is_number number) x.handles) [ None ↦ None | Some h ↦ then_some h.dead (reason.Gone h.node.owner h.node.serial) ]

-- the refusals of a SEND at its sender, in their order, the want of memory aside
abbrev pub send_reasons : PeerPart → SendCmd → List (Option Reason)
send_reasons x c =
    then_some (is_bad_send c) reason.Invalid ∷
    then_some (nat_lt MOST_PAYLOAD (length c.payload)) (reason.Size (length c.payload)) ∷
    then_some (nat_le clock_limit x.clock) (reason.Overflow x.clock) ∷
    unknown_reason x c.to ∷
    unknown_reason x (filter is_given c.with) ∷
    first_reason (map (dead_reason x) c.with) ∷ []

-- the first of them
abbrev pub send_refusal : PeerPart → SendCmd → Option Reason
send_refusal x c = first_reason (send_reasons x c)

-- a begun SEND makes nodes for its unknown own carried numbers, in their order
abbrev pub begun_part : PeerPart → SendCmd → PeerPart
begun_part x c = record x { nodes = fold (λ nodes number. with_made x.peers number nodes) x.nodes (filter is_own c.with) }

-- the nodes that its numbers then name
abbrev pub begun_nodes : PeerPart → SendCmd → Begun
begun_nodes x c = record { to = filter_map (node_named (begun_part x c)) c.to; with = filter_map (node_named (begun_part x c)) c.with }

-- ---- stage and unstage

-- the refusals of a destination, in their order, the want of memory aside: the node, the clock, the quota, the pool
abbrev pub stage_reasons : PeerPart → ℕ → ℕ → ℕ → ℕ → List (Option Reason)
stage_reasons x user serial payload handles =
    then_some (not (is_live (node_at x serial).state)) (reason.Gone x.me serial) ∷
    then_some (nat_le clock_limit x.clock) (reason.Overflow x.clock) ∷
    over_quota x user payload handles Entries ∷
    over_quota x user payload handles Bytes ∷
    over_quota x user payload handles Handles ∷
    then_some (nat_lt (largest_free x.slices) (slice_len payload handles)) (reason.Full (slice_len payload handles) (largest_free x.slices)) ∷ []

-- the first of them
abbrev pub stage_refusal : PeerPart → ℕ → ℕ → ℕ → ℕ → Option Reason
stage_refusal x user serial payload handles = first_reason (stage_reasons x user serial payload handles)

-- a staged message: queued under the odd stamp behind the clock, with its slice, and a record for each carried foreign node
abbrev pub staged : PeerPart → ℕ → ℕ → ℕ → ℕ → List ℕ → List NodeRef → PeerPart
staged x origin user index serial payload nodes =
    record x {
      slices = taken (slice_len (length payload) (length nodes)) x.slices;
      handles = expected (foreign x.me nodes) x.handles;
      queue = put (record { stamp = x.clock + 1; origin = origin; index = index })
          (Message origin user index serial (taken_offset (slice_len (length payload) (length nodes)) x.slices) (length payload) nodes (map (λ node. Unattached) nodes) [] payload) x.queue;
    }

-- where an entry's slice begins
abbrev pub offset_of : Entry → ℕ
offset_of (Message origin user index serial offset len nodes slots handles payload) = offset
offset_of (OwnNotice serial index) = 0
offset_of (ForeignNotice node index) = 0
offset_of (ReleaseNotice serial) = 0

-- the staged message of a driver for a place, if it is there
abbrev pub find_stage : PeerPart → ℕ → ℕ → Option (Key × Entry)
find_stage x origin index = find (is_stage origin index) x.queue

-- a staged message is taken back, with its slice and what it carries; nothing changes where a flush cancelled it
abbrev pub unstaged_by : Option (Key × Entry) → PeerPart → ℕ → ℕ → PeerPart
unstaged_by None x origin index = x
unstaged_by (Some f) x origin index = record x { queue = without (is_stage origin index) x.queue; slices = given_back (offset_of f.1) x.slices; handles = unexpected (foreign x.me (carried f.1)) x.handles }

-- the same, by what is found in the queue
abbrev pub unstaged : PeerPart → ℕ → ℕ → PeerPart
unstaged x origin index = unstaged_by (find_stage x origin index) x origin index

-- ---- attach

-- what the owner of a carried node answers for a destination
abbrev pub attach_by : NodeState → Bool → Attach
attach_by (Destroyed stamp) own = attach.Void stamp
attach_by Live own = if own then attach.Own else attach.Counted
attach_by Dying own = if own then attach.Own else attach.Counted

-- the same, by the node's state and whether the destination is the owner
abbrev pub attach_answer : PeerPart → ℕ → ℕ → Attach
attach_answer x serial dest = attach_by (node_at x serial).state (dest == x.me)

-- a counted attach: the destination's count rises, a queued release notice leaves, and at a dying node the destination is late
abbrev pub counted_for : PeerPart → ℕ → ℕ → PeerPart
counted_for x serial dest =
    record x {
      nodes = with_node serial (counted dest) x.nodes;
      queue = without (is_release_notice serial) x.queue;
      late = if is_dying (node_at x serial).state then with_peer dest x.late else x.late;
    }

-- only a counted attach changes the part
abbrev pub attached_by : Attach → PeerPart → ℕ → ℕ → PeerPart
attached_by attach.Counted x serial dest = counted_for x serial dest
attached_by attach.Own x serial dest = x
attached_by (attach.Void stamp) x serial dest = x

-- an attach, by the owner's answer
abbrev pub attached : PeerPart → ℕ → ℕ → PeerPart
attached x serial dest = attached_by (attach_answer x serial dest) x serial dest

-- ---- stamp, sync, commit

-- the final stamp: above the own clock and all clocks collected
abbrev pub final_stamp : PeerPart → ℕ → ℕ
final_stamp x collected = max x.clock collected + 2

-- the own clock becomes the stamp
abbrev pub stamped : PeerPart → ℕ → PeerPart
stamped x collected = record x { clock = final_stamp x collected }

-- the clock rises to the stamp
abbrev pub synced : PeerPart → ℕ → PeerPart
synced x stamp = record x { clock = max x.clock stamp }

-- a message gets its slots
abbrev pub with_slots : List Slot → Entry → Entry
with_slots slots (Message origin user index serial offset len nodes old handles payload) = Message origin user index serial offset len nodes slots handles payload
with_slots slots (OwnNotice serial index) = OwnNotice serial index
with_slots slots (ForeignNotice node index) = ForeignNotice node index
with_slots slots (ReleaseNotice serial) = ReleaseNotice serial

-- a staged message gets its final key and its slots; nothing changes where a flush cancelled it
abbrev pub committed_by : Option (Key × Entry) → PeerPart → ℕ → ℕ → ℕ → List Slot → PeerPart
committed_by None x origin index stamp slots = x
committed_by (Some f) x origin index stamp slots = record x { queue = put (record { stamp = stamp; origin = origin; index = index }) (with_slots slots f.1) (without (is_stage origin index) x.queue) }

-- the same, by what is found in the queue
abbrev pub committed : PeerPart → ℕ → ℕ → ℕ → List Slot → PeerPart
committed x origin index stamp slots = committed_by (find_stage x origin index) x origin index stamp slots

-- whether it was there
abbrev pub is_committed : PeerPart → ℕ → ℕ → Bool
is_committed x origin index = is_some (find_stage x origin index)

-- an entry with another stamp
abbrev pub with_stamp : ℕ → Key × Entry → Key × Entry
with_stamp stamp f = (record f.0 { stamp = stamp }, f.1)

-- every staged notice of a driver gets the final stamp
abbrev pub notices_committed : PeerPart → ℕ → ℕ → PeerPart
notices_committed x origin stamp =
    record x { queue = put_all (map (with_stamp stamp) (filter (is_staged_notice origin) x.queue)) (without (is_staged_notice origin) x.queue) }
