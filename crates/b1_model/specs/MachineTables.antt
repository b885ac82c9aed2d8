-- The queue, the nodes and the handle records of a peer's part, and what each small change of them is.
use Rattle.std.specs.Prelude.{ℕ, ◌+◌, ◌*◌, ◌-◌, ◌==◌, Bool, true, false, ◌&&◌, ◌||◌, not, nat_lt, nat_le, if◌then◌else◌, List, [], ◌∷◌, ◌++◌, Option, Some, None, get_or, set, filter, find, fold, length, replicate, position}
use Rattle.std.specs.List.{list_all}
use Rattle.b1_model.specs.declared.naming.Key.{Key}
use Rattle.b1_model.specs.declared.naming.NodeRef.{NodeRef}
use Rattle.b1_model.specs.declared.naming.Limits.{Limits}
use Rattle.b1_model.specs.declared.parts.NodeState.{NodeState}
use Rattle.b1_model.specs.declared.parts.NodeState.TheVariants.{Live}
use Rattle.b1_model.specs.declared.entries.Entry.{Entry}
use Rattle.b1_model.specs.declared.entries.Entry.TheVariants.{Message, OwnNotice, ForeignNotice, ReleaseNotice}
use Rattle.b1_model.specs.declared.answers.Reason.{Reason}
use Rattle.b1_model.specs.declared.answers.Reason.TheVariants as reason
use Rattle.b1_model.specs.declared.answers.Quantity.{Quantity}
use Rattle.b1_model.specs.declared.answers.Quantity.TheVariants.{Entries, Bytes, Handles}
use Rattle.b1_model.specs.Names.{is_own}
use Rattle.b1_model.specs.MachineParts.{PeerPart, NodePart, HandleRecord, key_before, same_ref, ref_before, is_data, is_staged, no_node, no_record}
use Rattle.b1_model.specs.MachinePool.{slice_len}

-- ---- the queue

-- an entry comes in where its key belongs
abbrev pub put : Key → Entry → List (Key × Entry) → List (Key × Entry)
put k e [] = (k, e) ∷ []
put k e (f ∷ rest) = if key_before k f.0 then (k, e) ∷ f ∷ rest else f ∷ put k e rest

-- several entries come in
abbrev pub put_all : List (Key × Entry) → List (Key × Entry) → List (Key × Entry)
put_all [] queue = queue
put_all (f ∷ rest) queue = put f.0 f.1 (put_all rest queue)

-- the entries that don't pass
abbrev pub without : (Key × Entry → Bool) → List (Key × Entry) → List (Key × Entry)
without test queue = filter (λ f. not (test f)) queue

-- the staged message of a driver for a place
abbrev pub is_stage : ℕ → ℕ → Key × Entry → Bool
is_stage origin index f = is_data f.1 && is_staged f && (f.0.origin == origin) && (f.0.index == index)

-- a staged notice of a driver
abbrev pub is_staged_notice : ℕ → Key × Entry → Bool
is_staged_notice origin f = not (is_data f.1) && is_staged f && (f.0.origin == origin)

-- ---- charges

-- how much of a quantity a message has
abbrev pub amount : Quantity → ℕ → ℕ → ℕ
amount Entries payload handles = 1
amount Bytes payload handles = slice_len payload handles
amount Handles payload handles = handles

-- what a queue's messages of the users that pass are charged
abbrev pub charged : Quantity → (ℕ → Bool) → List (Key × Entry) → ℕ
charged what passes [] = 0
charged what passes ((k, Message origin user index serial offset len nodes slots handles payload) ∷ rest) = (if passes user then amount what len (length nodes) else 0) + charged what passes rest
charged what passes ((k, OwnNotice serial index) ∷ rest) = charged what passes rest
charged what passes ((k, ForeignNotice node index) ∷ rest) = charged what passes rest
charged what passes ((k, ReleaseNotice serial) ∷ rest) = charged what passes rest

-- the limit of a quantity
abbrev pub limit_of : Quantity → Limits → ℕ
limit_of Entries limits = limits.entries
limit_of Bytes limits = limits.bytes
limit_of Handles limits = limits.handles

-- the formula: nothing asked passes; the peer's own user may fill what is left, another user half of what is left to it
abbrev pub within_quota : Bool → ℕ → ℕ → ℕ → ℕ → Bool
within_quota own_user own others limit asked = (asked == 0) || (if own_user then nat_le (own + asked + others) limit else nat_le (2 * (own + asked) + others) limit)

-- a quantity's refusal, if it is refused
abbrev pub over_quota : PeerPart → ℕ → ℕ → ℕ → Quantity → Option Reason
over_quota x user payload handles what =
    let own = charged what (λ u. u == user) x.queue in
    let others = charged what (λ u. not (u == user)) x.queue in
    let limit = limit_of what x.limits in
    let asked = amount what payload handles in
    if within_quota (user == x.user) own others limit asked then None else Some (reason.Quota what own others limit asked)

-- ---- handle records

-- the record that holds a given number
abbrev pub is_number : ℕ → HandleRecord → Bool
is_number number h = elim h.number [ None ↦ false | Some n ↦ n == number ]

-- the foreign node that a given number names
abbrev pub held_node : ℕ → List HandleRecord → Option NodeRef
held_node number handles = elim (find (is_number number) handles) [ None ↦ None | Some h ↦ Some h.node ]

-- a record is kept while the node is held, carried by a queued entry, or has a notice queued
abbrev pub is_needed : HandleRecord → Bool
is_needed h = nat_lt 0 h.held || nat_lt 0 h.flight || h.notice

-- a record changes, and goes where it isn't needed any more
abbrev pub changed : NodeRef → (HandleRecord → HandleRecord) → List HandleRecord → List HandleRecord
changed node f [] = []
changed node f (h ∷ rest) = if same_ref h.node node then (if is_needed (f h) then f h ∷ rest else rest) else h ∷ changed node f rest

-- a record changes, and is made where there is none
abbrev pub changed_or_made : NodeRef → (HandleRecord → HandleRecord) → List HandleRecord → List HandleRecord
changed_or_made node f [] = f (no_record node) ∷ []
changed_or_made node f (h ∷ rest) =
    if same_ref h.node node then f h ∷ rest
    else (if ref_before node h.node then f (no_record node) ∷ h ∷ rest else h ∷ changed_or_made node f rest)

-- one more queued slot carries the node; one fewer does
abbrev pub more_flight : HandleRecord → HandleRecord
more_flight h = record h { flight = h.flight + 1 }

-- one slot fewer carries the node
abbrev pub less_flight : HandleRecord → HandleRecord
less_flight h = record h { flight = h.flight - 1 }

-- the node is held once more, under this number where it wasn't held
abbrev pub more_held : ℕ → HandleRecord → HandleRecord
more_held number h = record h { held = h.held + 1; number = if h.held == 0 then Some number else h.number }

-- the node is held once less, and its number ends with the last
abbrev pub less_held : HandleRecord → HandleRecord
less_held h = record h { held = h.held - 1; number = if nat_lt 1 h.held then h.number else None }

-- the node's destroy notice is queued
abbrev pub noticed : HandleRecord → HandleRecord
noticed h = record h { notice = true }

-- the node's destroy notice has left the queue
abbrev pub made_dead : HandleRecord → HandleRecord
made_dead h = record h { dead = true; notice = false }

-- the carried nodes that a peer has records of: other peers' nodes
abbrev pub foreign : ℕ → List NodeRef → List NodeRef
foreign me nodes = filter (λ node. not (node.owner == me)) nodes

-- an entry that carries nodes comes in, or leaves
abbrev pub expected : List NodeRef → List HandleRecord → List HandleRecord
expected nodes handles = fold (λ hs node. changed_or_made node more_flight hs) handles nodes

-- an entry that carries nodes leaves
abbrev pub unexpected : List NodeRef → List HandleRecord → List HandleRecord
unexpected nodes handles = fold (λ hs node. changed node less_flight hs) handles nodes

-- the next given number
abbrev pub next_number : ℕ → ℕ
next_number given = 2 + 4 * given

-- ---- nodes

-- the serial of an own number
abbrev pub serial_of : ℕ → List NodePart → Option ℕ
serial_of number nodes = position (λ n. n.number == number) nodes

-- the node that a number names at a peer
abbrev pub node_named : PeerPart → ℕ → Option NodeRef
node_named x number =
    if is_own number then elim (serial_of number x.nodes) [ None ↦ None | Some serial ↦ Some (record { owner = x.me; serial = serial }) ]
    else held_node number x.handles

-- a node changes
abbrev pub with_node : ℕ → (NodePart → NodePart) → List NodePart → List NodePart
with_node serial f nodes = set nodes serial (f (get_or nodes serial no_node))

-- the count of references that a peer has
abbrev pub count_of : NodePart → ℕ → ℕ
count_of n peer = get_or n.counts peer 0

-- a peer's count rises by one
abbrev pub counted : ℕ → NodePart → NodePart
counted peer n = record n { counts = set n.counts peer (count_of n peer + 1) }

-- a peer's count falls by k
abbrev pub uncounted : ℕ → ℕ → NodePart → NodePart
uncounted peer k n = record n { counts = set n.counts peer (count_of n peer - k) }

-- a node's life changes
abbrev pub in_state : NodeState → NodePart → NodePart
in_state state n = record n { state = state }

-- a node's destroy notice was taken
abbrev pub notice_taken : NodePart → NodePart
notice_taken n = record n { taken = true }

-- no peer has a reference
abbrev pub is_unheld : NodePart → Bool
is_unheld n = list_all (λ k. k == 0) n.counts

-- an own number without a node gets a live one that no peer has a reference to
abbrev pub with_made : ℕ → ℕ → List NodePart → List NodePart
with_made peers number nodes = elim (serial_of number nodes) [ None ↦ nodes ++ record { number = number; state = Live; counts = replicate peers 0; taken = false } ∷ [] | Some serial ↦ nodes ]

-- several nodes change in the same way
abbrev pub with_nodes : List ℕ → (NodePart → NodePart) → List NodePart → List NodePart
with_nodes serials f nodes = fold (λ ns serial. with_node serial f ns) nodes serials

-- ---- sets of peers, in rising order

-- a peer joins the set
abbrev pub with_peer : ℕ → List ℕ → List ℕ
with_peer peer [] = peer ∷ []
with_peer peer (q ∷ rest) = if nat_lt peer q then peer ∷ q ∷ rest else (if peer == q then q ∷ rest else q ∷ with_peer peer rest)
