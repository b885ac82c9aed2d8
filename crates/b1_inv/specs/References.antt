-- How references are counted: each owner's count is the fresh count, and what is owed or to be given up is of made nodes.
use Rattle.std.specs.Prelude.{◌≡◌, ◌≢◌, ◌<◌, ◌≤◌, ◌⊎◌, ⊤, ℕ, Bool, true, false, if◌then◌else◌, List, [], ◌∷◌, length, slice_get, Some, None, sum_by}
use Rattle.std.specs.List.{All}
use Rattle.b1_model.specs.declared.naming.Key.{Key}
use Rattle.b1_model.specs.declared.naming.NodeRef.{NodeRef}
use Rattle.b1_model.specs.declared.parts.Slot.{Slot}
use Rattle.b1_model.specs.declared.entries.Entry.{Entry}
use Rattle.b1_model.specs.declared.events.OwedDrop.{OwedDrop}
use Rattle.b1_model.specs.declared.events.Phase.{Phase}
use Rattle.b1_model.specs.declared.events.Phase.TheVariants.{Committing, Dropping, Reaping}
use Rattle.b1_model.specs.MachineParts.{PeerPart, DriverPart, NodePart, HandleRecord, State, same_ref, is_staged, is_data, carried, slots_of, node_at, record_or_none}
use Rattle.b1_model.specs.MachineTables.{count_of}
use Rattle.b1_model.specs.MachineCounts.{fresh}
use Rattle.b1_step.specs.Rights.{Has}
use Rattle.b1_inv.specs.Words.{IsPeer, IsDriver, IsMade, phase_of}
use Rattle.b1_inv.specs.Sends.{IsFilled}

-- the owner's count of a peer's references to a node
abbrev pub count_in : State → NodeRef → ℕ → ℕ
count_in s node q = elim (slice_get s.peers node.owner) [ None ↦ 0 | Some x ↦ count_of (node_at x node.serial) q ]

-- how often a list names a node
abbrev pub times_in : NodeRef → List NodeRef → ℕ
times_in node nodes = sum_by (λ n. if same_ref n node then 1 else 0) nodes

-- how often a queue's messages carry a node
abbrev pub carried_times : NodeRef → List (Key × Entry) → ℕ
carried_times node queue = sum_by (λ f. times_in node (carried f.1)) queue

-- records are of other peers' made nodes, and a record's flight is how often the queue carries its node
pub record FlightsRight (s : State) : Type 0 where
  pub made : (q : ℕ) (x : PeerPart) (h : HandleRecord) → IsPeer s q x → Has x.handles h → IsMade s h.node
  pub foreign : (q : ℕ) (x : PeerPart) (h : HandleRecord) → IsPeer s q x → Has x.handles h → h.node.owner ≢ q
  pub counted : (q : ℕ) (x : PeerPart) (node : NodeRef) → IsPeer s q x → node.owner ≢ q → (record_or_none node x.handles).flight ≡ carried_times node x.queue

-- the slots of a committed message at peer q: one for each carried node, filled rightly for q
abbrev pub AreFilled : ℕ → List NodeRef → List Slot → Type 0
AreFilled q [] [] = ⊤
AreFilled q [] (t ∷ slots) = ⊥
AreFilled q (n ∷ nodes) [] = ⊥
AreFilled q (n ∷ nodes) (t ∷ slots) = IsFilled (record { owner = q; serial = 0 }) n t × AreFilled q nodes slots

-- every committed message has its slots, and every carried node was made
pub record SlotsRight (s : State) : Type 0 where
  pub filled : (q : ℕ) (x : PeerPart) (f : Key × Entry) → IsPeer s q x → Has x.queue f → is_data f.1 ≡ true → is_staged f ≡ false → AreFilled q (carried f.1) (slots_of f.1)
  pub made : (q : ℕ) (x : PeerPart) (f : Key × Entry) → IsPeer s q x → Has x.queue f → All (IsMade s) (carried f.1)

-- a drop that is owed: at least one reference of another peer to a made node
pub record IsDrop (s : State) (one : OwedDrop) : Type 0 where
  pub some : 1 ≤ one.amount
  pub made : IsMade s one.node
  pub holder : one.holder < length s.peers
  pub other : one.holder ≢ one.node.owner

-- a phase in which drops may be owed
abbrev pub may_owe : Phase → Bool
may_owe (Committing sending stamp place) = true
may_owe Dropping = true
may_owe (Reaping answer) = true
may_owe phase = false

-- each node has a count for each peer; each owner's count is the fresh count; what is owed or to be given up is of made nodes of other peers, each at least once; drops are owed only in phases that may owe
pub record ReferencesRight (s : State) : Type 0 where
  pub widths : (q : ℕ) (x : PeerPart) (n : NodePart) → IsPeer s q x → Has x.nodes n → length n.counts ≡ length s.peers
  pub counts : (node : NodeRef) (q : ℕ) → count_in s node q ≡ fresh s node q
  pub owed : (p : ℕ) (d : DriverPart) (one : OwedDrop) → IsDriver s p d → Has d.owed one → IsDrop s one
  pub owing : (p : ℕ) (d : DriverPart) → IsDriver s p d → (d.owed ≡ []) ⊎ ((phase : Phase) × (phase_of d ≡ Some phase) × (may_owe phase ≡ true))
  pub dead : (q : ℕ) (x : PeerPart) (item : List (NodeRef × ℕ)) (r : NodeRef × ℕ) → IsPeer s q x → Has x.dead item → Has item r → (1 ≤ r.1) × IsMade s r.0 × (r.0.owner ≢ q)
