-- What contracts see of a peer's own nodes.
use Rattle.std.specs.Prelude.{◌≡◌, ◌≢◌, ℕ, ◌<◌, ◌==◌, Bool, true, if◌then◌else◌, List, All, AllPairs, filter, get_or, length, nat_lt}
use Rattle.std.specs.List.{list_any, range_with_len}
use Rattle.b1_model.specs.declared.parts.Attach.{Attach}
use Rattle.b1_model.specs.declared.parts.Attach.TheVariants as attach
use Rattle.b1_model.specs.Names.{is_own}
use Rattle.b1_model.specs.MachineParts.{NodePart, no_node, is_dying}
use Rattle.b1_model.specs.MachineTables.{count_of, counted, with_node, with_peer}
use Rattle.b1_model.specs.MachineSend.{attach_by}

-- a table of nodes: its owner, how many peers there are, the nodes by their serials, the peers that attached while a node was dying, and how many more nodes it takes with no memory
pub record Nodes : Type 0 where
  pub owner : ℕ
  pub peers : ℕ
  pub nodes : List NodePart
  pub late : List ℕ
  pub spare : ℕ

-- a node by its serial
abbrev pub node_in : List NodePart → ℕ → NodePart
node_in nodes serial = get_or nodes serial no_node

-- what the owner answers where a node goes to a peer
abbrev pub attach_answer : ℕ → ℕ → Nodes → Attach
attach_answer serial dest t = attach_by (node_in t.nodes serial).state (dest == t.owner)

-- a counted reference: the peer's count rises, and at a dying node the peer is late
abbrev pub counted_for : ℕ → ℕ → Nodes → Nodes
counted_for serial dest t =
    record t {
      nodes = with_node serial (counted dest) t.nodes;
      late = if is_dying (node_in t.nodes serial).state then with_peer dest t.late else t.late;
    }

-- only a counted reference changes the table
abbrev pub attached_by : Attach → ℕ → ℕ → Nodes → Nodes
attached_by attach.Counted serial dest t = counted_for serial dest t
attached_by attach.Own serial dest t = t
attached_by (attach.Void stamp) serial dest t = t

-- a node goes to a peer, by the owner's answer
abbrev pub attached : ℕ → ℕ → Nodes → Nodes
attached serial dest t = attached_by (attach_answer serial dest t) serial dest t

-- the peers with a count above zero for one of the nodes, rising
abbrev pub holders : ℕ → List NodePart → List ℕ → List ℕ
holders peers nodes serials = filter (λ peer. list_any (λ serial. nat_lt 0 (count_of (node_in nodes serial) peer)) serials) (range_with_len 0 peers)

-- each of the nodes was made, and passes
abbrev pub AllMade : (NodePart → Bool) → List NodePart → List ℕ → Type 0
AllMade passes nodes serials = All (λ serial. (serial < length nodes) × (passes (node_in nodes serial) ≡ true)) serials

-- every node has a count for each peer, and its number is an own number, and no other node's
pub record AreNodes (peers : ℕ) (nodes : List NodePart) : Type 0 where
  pub counts : All (λ n. length n.counts ≡ peers) nodes
  pub own : All (λ n. is_own n.number ≡ true) nodes
  pub distinct : AllPairs (λ m n. m.number ≢ n.number) nodes
