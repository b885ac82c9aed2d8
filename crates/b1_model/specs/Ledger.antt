-- What a record's calls make of the peers: the bus order, the table of each peer's handles, the messages and the destructions.
--
-- A line of a table has the node of a slot of a received message; that node is what the sender's table named before
-- it sent; and so on back to the wires. Where each peer's stamps rise, each look-up goes to a message with a smaller
-- stamp. So a look-up of the message with a stamp is given that stamp and one as the greatest number of look-ups
-- that may stand in one another: more are never needed, and any greater number gives the same.
use Rattle.std.specs.Prelude.{ℕ, zero, suc, pred, ◌+◌, ◌*◌, Bool, true, false, not, ◌&&◌, ◌||◌, if◌then◌else◌, ◌==◌, nat_lt, List, [], ◌∷◌, ◌++◌, map, length, take, slice_get, Option, None, Some, option_map, option_and_then, find, flat_map, filter}
use Rattle.std.specs.List.{list_any, range_with_len}
use Rattle.std.specs.Option.{option_flatten}
use Rattle.b1_model.specs.declared.naming.Key.{Key}
use Rattle.b1_model.specs.declared.naming.Wire.{Wire}
use Rattle.b1_model.specs.declared.commands.Command.{Command}
use Rattle.b1_model.specs.declared.commands.Command.TheVariants as cmd
use Rattle.b1_model.specs.declared.answers.Reason.{Reason}
use Rattle.b1_model.specs.declared.answers.Receipt.TheVariants as rec
use Rattle.b1_model.specs.declared.answers.Answer.{Answer}
use Rattle.b1_model.specs.declared.answers.Answer.TheVariants as ans
use Rattle.b1_model.specs.declared.records.Call.{Call}
use Rattle.b1_model.specs.declared.records.Record.{Record}
use Rattle.b1_model.specs.declared.records.Stamp.{Stamp}
use Rattle.b1_model.specs.Names.{is_own, is_given, Node, same_node, Name, wired, calls_of, made_in, made, own_node, nodes_from}

-- ---- stamps and keys

-- the stamp of a stamped call, by its answer
abbrev pub stamp_of : Answer → Option ℕ
stamp_of (ans.Sent b) = Some b.stamp
stamp_of (ans.Destroyed stamp) = Some stamp
stamp_of (ans.Reset stamp) = stamp
stamp_of a = None

-- the key of a receipt, release notices aside
abbrev pub got_key : Answer → Option Key
got_key (ans.Got (rec.Message key number offset handles payload)) = Some key
got_key (ans.Got (rec.Destroyed key number)) = Some key
got_key a = None

-- the first (stamp, origin) is below the second
abbrev pub is_before : ℕ → ℕ → ℕ → ℕ → Bool
is_before s p t q = nat_lt s t || ((s == t) && nat_lt p q)

-- the first key is below the second: by stamp, then by origin, then by index
abbrev pub is_below : Key → Key → Bool
is_below a b = is_before a.stamp a.origin b.stamp b.origin || (((a.stamp == b.stamp) && (a.origin == b.origin)) && nat_lt a.index b.index)

-- ---- the bus order

-- a stamped call goes before the first one that isn't below it
abbrev pub into_order : Stamp → List Stamp → List Stamp
into_order s [] = s ∷ []
into_order s (t ∷ ts) = if is_before t.stamp t.origin s.stamp s.origin then t ∷ into_order s ts else s ∷ t ∷ ts

-- stamped calls in order
abbrev pub in_order : List Stamp → List Stamp
in_order [] = []
in_order (s ∷ ss) = into_order s (in_order ss)

-- call k of p, if it is stamped
abbrev pub stamp_at : ℕ → ℕ → Option ℕ → List Stamp
stamp_at p k None = []
stamp_at p k (Some t) = record { stamp = t; origin = p; call = k } ∷ []

-- the stamped calls of these calls of p, the first of which has the place k
abbrev pub stamps_from : ℕ → ℕ → List Call → List Stamp
stamps_from p k [] = []
stamps_from p k (c ∷ cs) = stamp_at p k (stamp_of c.answer) ++ stamps_from p (suc k) cs

-- the numbers of the peers
abbrev pub peers_of : Record → List ℕ
peers_of r = range_with_len 0 (length r.peers)

-- all stamped calls, ascending by stamp and then by origin
abbrev pub order : Record → List Stamp
order r = in_order (flat_map (λ p. stamps_from p 0 (calls_of r p)) (peers_of r))

-- ---- the table of a peer's handles

-- a given number, the node that it names, and how often it is held
pub record Line : Type 0 where
  pub number : ℕ
  pub node : Option Node
  pub held : ℕ

-- the lines, and how many were ever made
pub record Table : Type 0 where
  pub lines : List Line
  pub given : ℕ

-- what a number names is this node
abbrev pub is_the_node : Node → Option Node → Bool
is_the_node x None = false
is_the_node x (Some y) = same_node x y

-- the node of a number's line
abbrev pub line_node : ℕ → List Line → Option Node
line_node n [] = None
line_node n (l ∷ ls) = if n == l.number then l.node else line_node n ls

-- the number of a node's line
abbrev pub line_number : Node → List Line → Option ℕ
line_number x [] = None
line_number x (l ∷ ls) = if is_the_node x l.node then Some l.number else line_number x ls

-- a line has this number
abbrev pub has_line : ℕ → List Line → Bool
has_line n [] = false
has_line n (l ∷ ls) = if n == l.number then true else has_line n ls

-- one more is held of a number
abbrev pub raised : ℕ → List Line → List Line
raised n [] = []
raised n (l ∷ ls) = if n == l.number then record l { held = suc l.held } ∷ ls else l ∷ raised n ls

-- one less is held of a number, and its line goes with the last
abbrev pub lowered : ℕ → List Line → List Line
lowered n [] = []
lowered n (l ∷ ls) = if n == l.number then (if l.held == 1 then ls else record l { held = pred l.held } ∷ ls) else l ∷ lowered n ls

-- a given number adds one to its line, or makes it with the node x
abbrev pub gained : ℕ → Option Node → Table → Table
gained n x t =
    if has_line n t.lines
    then record { lines = raised n t.lines; given = t.given }
    else record { lines = t.lines ++ record { number = n; node = x; held = 1 } ∷ []; given = suc t.given }

-- a received number, whose slot has the node x; what isn't a given number adds none
abbrev pub received : ℕ → Option Node → Table → Table
received n x t = if is_given n then gained n x t else t

-- the received numbers of a message in turn, with the nodes of its slots
abbrev pub received_all : List (Option Node) → List ℕ → Table → Table
received_all slots [] t = t
received_all [] (n ∷ ns) t = received_all [] ns (received n None t)
received_all (x ∷ slots) (n ∷ ns) t = received_all slots ns (received n x t)

-- the number by which a node is handed to the holder of a table: that of its line, or else the next one
abbrev pub given_number : ℕ → Option ℕ → ℕ
given_number g None = 2 + 4 * g
given_number g (Some n) = n

-- the table after a reference to a node was handed to its holder; nothing adds none
abbrev pub handed : Option Node → Table → Table
handed None t = t
handed (Some x) t = received (given_number t.given (line_number x t.lines)) (Some x) t

-- what a number names at p: an own number by p's names, a given one by p's table
abbrev pub named : ℕ → List Name → Table → ℕ → Option Node
named p known t n = if is_own n then own_node p known n else line_node n t.lines

-- a wire gives its peer `to` a reference to what its number names at `from`; the tables of all peers after it
abbrev pub wire_tables : List Wire → (ℕ → Table) → List Wire → ℕ → Table
wire_tables all ts [] p = ts p
wire_tables all ts (w ∷ ws) p = wire_tables all (λ q. if q == w.to then handed (named w.from (wired all w.from) (ts w.from) w.number) (ts q) else ts q) ws p

-- the table of p before its first call
abbrev pub start : List Wire → ℕ → Table
start ws p = wire_tables ws (λ q. record { lines = []; given = 0 }) ws p

-- the table after a call, where `look` gives the nodes of the slots of the message with a key
abbrev pub changed : (Key → List (Option Node)) → Command → Answer → Table → Table
changed look c (ans.Got (rec.Message key number offset handles payload)) t = received_all (look key) handles t
changed look c (ans.Reset stamp) t = record { lines = []; given = t.given }
changed look (cmd.Release n) ans.Done t = record { lines = lowered n t.lines; given = t.given }
changed look c a t = t

-- the table after these calls, from t
abbrev pub table_in : (Key → List (Option Node)) → Table → List Call → Table
table_in look t [] = t
table_in look t (c ∷ cs) = table_in look (changed look c.command c.answer t) cs

-- ---- messages

-- a send, with the nodes that its numbers named at its origin
pub record Message : Type 0 where
  pub to : List (Option Node)
  pub carried : List (Option Node)
  pub places : List (Option Reason)
  pub payload : List ℕ

-- an accepted send with this stamp
abbrev pub is_send : ℕ → Command → Answer → Bool
is_send stamp (cmd.Send s) (ans.Sent b) = stamp == b.stamp
is_send stamp c a = false

-- where the first send with this stamp stands
abbrev pub sent_at : ℕ → List Call → Option ℕ
sent_at stamp [] = None
sent_at stamp (c ∷ cs) = if is_send stamp c.command c.answer then Some 0 else option_map suc (sent_at stamp cs)

-- the message of a call of q, where q has these names and this table
abbrev pub message_by : ℕ → List Name → Table → Command → Answer → Option Message
message_by q known t (cmd.Send s) (ans.Sent b) = Some (record { to = map (named q known t) s.to; carried = map (named q known t) s.with; places = b.places; payload = s.payload })
message_by q known t c a = None

-- the message of the call, if there is one
abbrev pub message_of : ℕ → List Name → Table → Option Call → Option Message
message_of q known t None = None
message_of q known t (Some c) = message_by q known t c.command c.answer

-- the message of call k of these calls of q
abbrev pub message_at : List Wire → ℕ → List Call → (Key → List (Option Node)) → ℕ → Option Message
message_at ws q cs look k = message_of q (made_in 0 (wired ws q) (take (suc k) cs)) (table_in look (start ws q) (take k cs)) (slice_get cs k)

-- the node that place i of a message goes to
abbrev pub to_at : Message → ℕ → Option Node
to_at m i = option_flatten (slice_get m.to i)

-- a place that was accepted
abbrev pub is_accepted : Option (Option Reason) → Bool
is_accepted None = false
is_accepted (Some None) = true
is_accepted (Some (Some reason)) = false

-- a node, and of p
abbrev pub is_node_of : ℕ → Option Node → Bool
is_node_of p None = false
is_node_of p (Some x) = x.owner == p

-- place i of a message makes an entry at p: it was accepted, and goes to a node of p
abbrev pub is_entry : ℕ → ℕ → Message → Bool
is_entry p i m = is_accepted (slice_get m.places i) && is_node_of p (to_at m i)

-- the nodes of the slots of the entry at p that place i of a message makes
abbrev pub slots_in : ℕ → ℕ → Option Message → List (Option Node)
slots_in p i None = []
slots_in p i (Some m) = if is_entry p i m then m.carried else []

-- the slots of the entry at p with a key, by the messages
abbrev pub slots_by : (ℕ → ℕ → Option Message) → ℕ → Key → List (Option Node)
slots_by messages p key = slots_in p key.index (messages key.stamp key.origin)

-- the message with this stamp of q, by at most n look-ups that stand in one another
abbrev pub message_within : List Wire → Record → ℕ → ℕ → ℕ → Option Message
message_within ws r zero stamp q = None
message_within ws r (suc n) stamp q = option_and_then (message_at ws q (calls_of r q) (slots_by (message_within ws r n) q)) (sent_at stamp (calls_of r q))

-- the message with this stamp of q
abbrev pub message : List Wire → Record → ℕ → ℕ → Option Message
message ws r stamp q = message_within ws r (suc stamp) stamp q

-- the nodes of the slots of the entry at p with this key
abbrev pub slots : List Wire → Record → ℕ → Key → List (Option Node)
slots ws r p key = slots_by (message ws r) p key

-- what the given numbers of p name before its call k
abbrev pub table : List Wire → Record → ℕ → ℕ → Table
table ws r p k = table_in (slots ws r p) (start ws p) (take k (calls_of r p))

-- what a number names at p once its call k has begun
abbrev pub node_of : List Wire → Record → ℕ → ℕ → ℕ → Option Node
node_of ws r p k n = named p (made ws r p k) (table ws r p k) n

-- ---- destructions

-- a destruction, with the nodes that it destroys in its order; a number that names nothing keeps its place
pub record Destruction : Type 0 where
  pub stamp : ℕ
  pub origin : ℕ
  pub nodes : List (Option Node)

-- the node is among these
abbrev pub has_node : Node → List (Option Node) → Bool
has_node x nodes = list_any (is_the_node x) nodes

-- one of these destructions destroys the node
abbrev pub is_destroyed_in : List Destruction → Node → Bool
is_destroyed_in ds x = list_any (λ d. has_node x d.nodes) ds

-- the numbers of a NODES_DESTROY
abbrev pub destroy_numbers : Command → List ℕ
destroy_numbers (cmd.Destroy numbers) = numbers
destroy_numbers c = []

-- the destruction that a call of p is, if it is one, after p's earlier destructions: of the nodes that its numbers
-- name, or of all nodes that were made and not destroyed
abbrev pub destruction_by : ℕ → List Name → Table → List Destruction → Command → Answer → List Destruction
destruction_by p known t earlier c (ans.Destroyed stamp) = record { stamp = stamp; origin = p; nodes = map (named p known t) (destroy_numbers c) } ∷ []
destruction_by p known t earlier c (ans.Reset (Some stamp)) = record { stamp = stamp; origin = p; nodes = map Some (filter (λ x. not (is_destroyed_in earlier x)) (nodes_from p 0 known)) } ∷ []
destruction_by p known t earlier c a = []

-- the destructions with that of the call, if it is one
abbrev pub add_destruction : ℕ → List Name → Table → Option Call → List Destruction → List Destruction
add_destruction p known t None earlier = earlier
add_destruction p known t (Some c) earlier = earlier ++ destruction_by p known t earlier c.command c.answer

-- the destructions by p before its call k
abbrev pub destructions_before : List Wire → Record → ℕ → ℕ → List Destruction
destructions_before ws r p zero = []
destructions_before ws r p (suc k) = add_destruction p (made ws r p k) (table ws r p k) (slice_get (calls_of r p) k) (destructions_before ws r p k)

-- all destructions by p
abbrev pub destructions_of : List Wire → Record → ℕ → List Destruction
destructions_of ws r p = destructions_before ws r p (length (calls_of r p))

-- all destructions of a record
abbrev pub destructions : List Wire → Record → List Destruction
destructions ws r = flat_map (destructions_of ws r) (peers_of r)

-- the node at place i of a destruction
abbrev pub node_at : ℕ → Option Destruction → Option Node
node_at i None = None
node_at i (Some d) = option_flatten (slice_get d.nodes i)

-- the node of the notice with this key: of the place that is the key's index, in the destruction with its stamp and origin
abbrev pub doomed_at : List Wire → Record → Key → Option Node
doomed_at ws r key = node_at key.index (find (λ d. d.stamp == key.stamp) (destructions_of ws r key.origin))

-- a destruction of x that is before the call of a key
abbrev pub is_late_by : Node → Key → Destruction → Bool
is_late_by x key d = is_before d.stamp d.origin key.stamp key.origin && has_node x d.nodes

-- some destruction of x is before the call of a key
abbrev pub is_late : List Wire → Record → Node → Key → Bool
is_late ws r x key = list_any (is_late_by x key) (destructions ws r)
