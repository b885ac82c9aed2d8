-- What a flush gives up of a queue.
use Rattle.std.specs.Prelude.{ℕ, ◌+◌, ◌≤◌, if◌then◌else◌, List}
use Rattle.b1_model.specs.declared.naming.Key.{Key}
use Rattle.b1_model.specs.declared.naming.NodeRef.{NodeRef}
use Rattle.b1_model.specs.declared.entries.Entry.{Entry}
use Rattle.b1_model.specs.MachineParts.{is_staged}
use Rattle.b1_model.specs.MachineReceive.{references, with_item}
use Rattle.b1_peer_dead.specs.Buffers.{StackSeen, count_at}
use Rattle.b1_inv_peer.specs.PeerOk.{count, carries, is_message}

-- a committed message's references become an item of the dead list, if it has some
abbrev pub item_of : Key × Entry → List (List (NodeRef × ℕ)) → List (List (NodeRef × ℕ))
item_of f items = if is_staged f then items else with_item (references f.1) items

-- how many items an entry may make
abbrev pub room_of : Key × Entry → ℕ
room_of f = if is_message f then 1 else 0

-- a message's buffers are there
abbrev pub HasSet : Key × Entry → List StackSeen → Type 0
HasSet f stacks = (n : ℕ) → (if carries n f then 1 else 0) ≤ count_at stacks n

-- the buffers of each message are there
abbrev pub HasSets : List (Key × Entry) → List StackSeen → Type 0
HasSets queue stacks = (n : ℕ) → count (carries n) queue ≤ count_at stacks n

-- no buffers are lost but those of a message
abbrev pub LosesSet : Key × Entry → List StackSeen → List StackSeen → Type 0
LosesSet f old new = (n : ℕ) → count_at old n ≤ count_at new n + (if carries n f then 1 else 0)
