-- Parts: what is always so of a single peer's part in a reached state.
use Rattle.std.specs.Prelude.{◌≡◌, ◌≤◌, ◌<◌, ◌%◌, ◌+◌, ◌&&◌, ⊤, ℕ, Bool, true, false, List, [], ◌∷◌, length}
use Rattle.b1_model.specs.declared.naming.Key.{Key}
use Rattle.b1_model.specs.declared.naming.NodeRef.{NodeRef}
use Rattle.b1_model.specs.declared.tables.Usage.TheVariants.{Unpublished}
use Rattle.b1_model.specs.declared.entries.Entry.{Entry}
use Rattle.b1_model.specs.declared.entries.Entry.TheVariants.{Message, OwnNotice, ForeignNotice, ReleaseNotice}
use Rattle.b1_model.specs.MachineParts.{PeerPart, HandleRecord, Slice, State, is_data, is_live, node_at, record_or_none}
use Rattle.b1_model.specs.MachinePool.{is_free, slice_len}
use Rattle.b1_model.specs.MachineTables.{is_needed, is_unheld}
use Rattle.b1_model.specs.MachineSend.{offset_of}
use Rattle.b1_step.specs.Rights.{Has}
use Rattle.b1_step.specs.Ordered.{Ascending}
use Rattle.b1_inv.specs.Words.{IsPeer}

-- the keys of every queue ascend
pub record KeysAscend (s : State) : Type 0 where
  pub ascending : (q : ℕ) (x : PeerPart) → IsPeer s q x → Ascending x.queue

-- a peer's entry is for, or of, one of so many own nodes
abbrev pub IsForMade : ℕ → Entry → Type 0
IsForMade made (Message origin user index serial offset len nodes slots handles payload) = serial < made
IsForMade made (OwnNotice serial index) = serial < made
IsForMade made (ForeignNotice node index) = ⊤
IsForMade made (ReleaseNotice serial) = serial < made

-- the own nodes of all queued entries were made
pub record SerialsMade (s : State) : Type 0 where
  pub made : (q : ℕ) (x : PeerPart) (f : Key × Entry) → IsPeer s q x → Has x.queue f → IsForMade (length x.nodes) f.1

-- slices stand one behind the other from an offset to the pool's end, each at least 8 bytes and a multiple of 8
abbrev pub Cover : ℕ → ℕ → List Slice → Type 0
Cover from end [] = from ≡ end
Cover from end (s ∷ rest) = (s.offset ≡ from) × (8 ≤ s.len) × (s.len % 8 ≡ 0) × Cover (from + s.len) end rest

-- the first of some slices is free
abbrev pub starts_free : List Slice → Bool
starts_free [] = false
starts_free (s ∷ rest) = is_free s

-- no two free slices stand side by side
abbrev pub AreMerged : List Slice → Type 0
AreMerged [] = ⊤
AreMerged (s ∷ rest) = ((is_free s && starts_free rest) ≡ false) × AreMerged rest

-- the unpublished slice that a message needs
abbrev pub IsSliceOf : Entry → Slice → Type 0
IsSliceOf (Message origin user index serial offset len nodes slots handles payload) t = (len ≡ length payload) × (t ≡ record { offset = offset; len = slice_len (length payload) (length nodes); usage = Unpublished })
IsSliceOf e t = ⊥

-- the slices cover the pool; each queued message has its own unpublished slice, with its length, and every unpublished slice is a queued message's
pub record PoolRight (s : State) : Type 0 where
  pub cover : (q : ℕ) (x : PeerPart) → IsPeer s q x → Cover 0 x.pool x.slices
  pub merged : (q : ℕ) (x : PeerPart) → IsPeer s q x → AreMerged x.slices
  pub sliced : (q : ℕ) (x : PeerPart) (f : Key × Entry) → IsPeer s q x → Has x.queue f → is_data f.1 ≡ true → (t : Slice) × Has x.slices t × IsSliceOf f.1 t
  pub apart : (q : ℕ) (x : PeerPart) (f g : Key × Entry) → IsPeer s q x → Has x.queue f → Has x.queue g → is_data f.1 ≡ true → is_data g.1 ≡ true → offset_of f.1 ≡ offset_of g.1 → f.0 ≡ g.0
  pub needed : (q : ℕ) (x : PeerPart) (t : Slice) → IsPeer s q x → Has x.slices t → t.usage ≡ Unpublished → (f : Key × Entry) × Has x.queue f × IsSliceOf f.1 t

-- a record stands only where its node is held, queued messages carry it, or its notice is queued
pub record RecordsNeeded (s : State) : Type 0 where
  pub needed : (q : ℕ) (x : PeerPart) (h : HandleRecord) → IsPeer s q x → Has x.handles h → is_needed h ≡ true

-- a release notice is of a live node to which nobody has a reference, and a node has one at most
pub record ReleaseNoticesRight (s : State) : Type 0 where
  pub live : (q serial : ℕ) (x : PeerPart) (k : Key) → IsPeer s q x → Has x.queue (k, ReleaseNotice serial) → is_live (node_at x serial).state ≡ true
  pub unheld : (q serial : ℕ) (x : PeerPart) (k : Key) → IsPeer s q x → Has x.queue (k, ReleaseNotice serial) → is_unheld (node_at x serial) ≡ true
  pub once : (q serial : ℕ) (x : PeerPart) (k l : Key) → IsPeer s q x → Has x.queue (k, ReleaseNotice serial) → Has x.queue (l, ReleaseNotice serial) → k ≡ l

-- a record is marked exactly where its node's notice is queued, and that stands once
pub record MarksRight (s : State) : Type 0 where
  pub marked : (q i : ℕ) (x : PeerPart) (k : Key) (node : NodeRef) → IsPeer s q x → Has x.queue (k, ForeignNotice node i) → (record_or_none node x.handles).notice ≡ true
  pub queued : (q : ℕ) (x : PeerPart) (h : HandleRecord) → IsPeer s q x → Has x.handles h → h.notice ≡ true → (k : Key) × (i : ℕ) × Has x.queue (k, ForeignNotice h.node i)
  pub once : (q i j : ℕ) (x : PeerPart) (k l : Key) (node : NodeRef) → IsPeer s q x → Has x.queue (k, ForeignNotice node i) → Has x.queue (l, ForeignNotice node j) → k ≡ l
