-- When a record is legal: each peer's stamps rise, and each receipt is the next of the bus order for that peer, with
-- the contents that were sent. A part is broken at a call that doesn't keep it.
use Rattle.std.specs.Prelude.{◌≡◌, ℕ, ◌%◌, ◌<◌, ◌≢◌, Bool, true, false, not, ◌&&◌, ◌||◌, if◌then◌else◌, ◌==◌, List, [], ◌∷◌, length, take, slice_get, Option, None, Some, unwrap_or, is_some, ⊤}
use Rattle.b1_model.specs.declared.naming.Key.{Key}
use Rattle.b1_model.specs.declared.naming.Wire.{Wire}
use Rattle.b1_model.specs.declared.naming.Opening.{Opening}
use Rattle.b1_model.specs.declared.answers.Receipt.TheVariants as rec
use Rattle.b1_model.specs.declared.answers.Answer.{Answer}
use Rattle.b1_model.specs.declared.answers.Answer.TheVariants as ans
use Rattle.b1_model.specs.declared.records.Call.{Call}
use Rattle.b1_model.specs.declared.records.Record.{Record}
use Rattle.b1_model.specs.Names.{invalid, Node, Name, calls_of, made, epoch_at, number_at}
use Rattle.b1_model.specs.Ledger.{stamp_of, is_below, Table, line_number, given_number, received, Message, to_at, is_entry, message, table, doomed_at, is_late}

-- ---- the next entry

-- the key of the last receipt after a call, where it was l before: a flush forgets it
abbrev pub last_after : Option Key → Answer → Option Key
last_after l (ans.Got (rec.Message key number offset handles payload)) = Some key
last_after l (ans.Got (rec.Destroyed key number)) = Some key
last_after l (ans.Reset stamp) = None
last_after l a = l

-- the key of the last receipt after these calls
abbrev pub last_in : Option Key → List Call → Option Key
last_in l [] = l
last_in l (c ∷ cs) = last_in (last_after l c.answer) cs

-- the key of the last receipt of p in this epoch before its call k, release notices aside
abbrev pub last_key : Record → ℕ → ℕ → Option Key
last_key r p k = last_in None (take k (calls_of r p))

-- the key is above the last one, if there is one
abbrev pub is_above : Key → Option Key → Bool
is_above key None = true
is_above key (Some l) = is_below l key

-- a message to this node can be received at p's call k: the node is of the present epoch, and not destroyed before the send
abbrev pub is_open_to : List Wire → Record → ℕ → ℕ → Key → Option Node → Bool
is_open_to ws r p k key None = false
is_open_to ws r p k key (Some x) = (x.epoch == epoch_at r p k) && not (is_late ws r x key)

-- place key.index of a message is an entry at p that its node can receive at call k
abbrev pub is_message_in : List Wire → Record → ℕ → ℕ → Key → Option Message → Bool
is_message_in ws r p k key None = false
is_message_in ws r p k key (Some m) = is_entry p key.index m && is_open_to ws r p k key (to_at m key.index)

-- a message with this key is one of those that p may receive at its call k
abbrev pub is_message : List Wire → Record → ℕ → ℕ → Key → Bool
is_message ws r p k key = is_above key (last_key r p k) && is_message_in ws r p k key (message ws r key.stamp key.origin)

-- the end of this node concerns p at its call k: an own node of the present epoch, or a foreign one in p's table
abbrev pub is_notice_of : List Wire → Record → ℕ → ℕ → Option Node → Bool
is_notice_of ws r p k None = false
is_notice_of ws r p k (Some x) = if x.owner == p then x.epoch == epoch_at r p k else is_some (line_number x (table ws r p k).lines)

-- a notice with this key is one of those that p may receive at its call k
abbrev pub is_notice : List Wire → Record → ℕ → ℕ → Key → Bool
is_notice ws r p k key = is_above key (last_key r p k) && is_notice_of ws r p k (doomed_at ws r key)

-- an entry with this key is one of those that p may receive at its call k
abbrev pub is_candidate : List Wire → Record → ℕ → ℕ → Key → Bool
is_candidate ws r p k key = is_message ws r p k key || is_notice ws r p k key

-- no candidate has a smaller key
abbrev pub IsLeast : List Wire → Record → ℕ → ℕ → Key → Type 0
IsLeast ws r p k key = (other : Key) → is_candidate ws r p k other ≡ true → is_below other key ≡ false

-- the next entry of p at its call k is the message with this key
abbrev pub IsNextMessage : List Wire → Record → ℕ → ℕ → Key → Type 0
IsNextMessage ws r p k key = (is_message ws r p k key ≡ true) × IsLeast ws r p k key

-- the next entry of p at its call k is the destroy notice with this key
abbrev pub IsNextNotice : List Wire → Record → ℕ → ℕ → Key → Type 0
IsNextNotice ws r p k key = (is_notice ws r p k key ≡ true) × IsLeast ws r p k key

-- there is no next entry of p at its call k
abbrev pub HasNoNext : List Wire → Record → ℕ → ℕ → Type 0
HasNoNext ws r p k = (key : Key) → is_candidate ws r p k key ≡ false

-- ---- the contents of a receipt

-- the number by which p gets to know the node of a slot, by its names and its table at that slot
abbrev pub handle_number : ℕ → List Name → Table → Node → ℕ
handle_number p known t x = if x.owner == p then unwrap_or (number_at known x.serial) invalid else given_number t.given (line_number x t.lines)

-- a slot that names nothing, or a node that was destroyed before the send, arrives as `invalid`
abbrev pub arrives : (Node → Bool) → ℕ → List Name → Table → Option Node → ℕ
arrives late p known t None = invalid
arrives late p known t (Some x) = if late x then invalid else handle_number p known t x

-- the handles as p receives them, slot by slot
abbrev pub arrived : (Node → Bool) → ℕ → List Name → List (Option Node) → Table → List ℕ
arrived late p known [] t = []
arrived late p known (x ∷ xs) t = arrives late p known t x ∷ arrived late p known xs (received (arrives late p known t x) x t)

-- the own number of a node
abbrev pub own_number_of : List Name → Option Node → Option ℕ
own_number_of known None = None
own_number_of known (Some x) = number_at known x.serial

-- the number of p's call k for the node of a destroy notice: its own, or that of its line
abbrev pub notice_number : ℕ → List Name → Table → Option Node → Option ℕ
notice_number p known t None = None
notice_number p known t (Some x) = if x.owner == p then number_at known x.serial else line_number x t.lines

-- what a message receipt has: the own number of the destination, the payload, and the handles
pub record HasContents (ws : List Wire) (r : Record) (p k : ℕ) (key : Key) (n : ℕ) (numbers bytes : List ℕ) (m : Message) : Type 0 where
  pub number : own_number_of (made ws r p k) (to_at m key.index) ≡ Some n
  pub payload : bytes ≡ m.payload
  pub handles : numbers ≡ arrived (λ x. is_late ws r x key) p (made ws r p k) m.carried (table ws r p k)

-- ---- the parts

-- the stamp of a call that counts for later ones: sent or received, release notices aside
abbrev pub seen_stamp : Answer → Option ℕ
seen_stamp (ans.Got (rec.Message key number offset handles payload)) = Some key.stamp
seen_stamp (ans.Got (rec.Destroyed key number)) = Some key.stamp
seen_stamp (ans.Got (rec.Released stamp number)) = None
seen_stamp a = stamp_of a

-- a stamped call has an even stamp, and no earlier call of its peer has the same
pub record KeepsKeys (r : Record) (p k : ℕ) : Type 0 where
  pub even : (c : Call) (t : ℕ) → slice_get (calls_of r p) k ≡ Some c → stamp_of c.answer ≡ Some t → t % 2 ≡ 0
  pub once : (i t : ℕ) (b c : Call) → i < k → slice_get (calls_of r p) i ≡ Some b → slice_get (calls_of r p) k ≡ Some c → stamp_of b.answer ≡ Some t → stamp_of c.answer ≢ Some t

-- the stamp of a stamped call is above every stamp that stands earlier in its list
abbrev pub KeepsOrder : Record → ℕ → ℕ → Type 0
KeepsOrder r p k = (i s t : ℕ) (b c : Call) → i < k → slice_get (calls_of r p) i ≡ Some b → slice_get (calls_of r p) k ≡ Some c → seen_stamp b.answer ≡ Some s → stamp_of c.answer ≡ Some t → s < t

-- a receipt is the next entry, in key and kind
abbrev pub IsNextReceipt : List Wire → Record → ℕ → ℕ → Answer → Type 0
IsNextReceipt ws r p k (ans.Got (rec.Message key number offset handles payload)) = IsNextMessage ws r p k key
IsNextReceipt ws r p k (ans.Got (rec.Destroyed key number)) = IsNextNotice ws r p k key
IsNextReceipt ws r p k a = ⊤

-- the call, if it is a receipt, is the next entry
abbrev pub KeepsPrefix : List Wire → Record → ℕ → ℕ → Type 0
KeepsPrefix ws r p k = (c : Call) → slice_get (calls_of r p) k ≡ Some c → IsNextReceipt ws r p k c.answer

-- a receipt has the contents of its message, or the number of its node
abbrev pub IsWhatWasSent : List Wire → Record → ℕ → ℕ → Answer → Type 0
IsWhatWasSent ws r p k (ans.Got (rec.Message key number offset handles payload)) = (m : Message) × (message ws r key.stamp key.origin ≡ Some m) × HasContents ws r p k key number handles payload m
IsWhatWasSent ws r p k (ans.Got (rec.Destroyed key number)) = notice_number p (made ws r p k) (table ws r p k) (doomed_at ws r key) ≡ Some number
IsWhatWasSent ws r p k a = ⊤

-- the call, if it is a receipt, has what was sent
abbrev pub KeepsContents : List Wire → Record → ℕ → ℕ → Type 0
KeepsContents ws r p k = (c : Call) → slice_get (calls_of r p) k ≡ Some c → IsWhatWasSent ws r p k c.answer

-- a part is broken at a call that doesn't keep it: keys, where its stamp is odd or stands at an earlier call
abbrev pub BreaksKeys : Record → ℕ → ℕ → Type 0
BreaksKeys r p k = (k < length (calls_of r p)) × (¬ KeepsKeys r p k)

-- order, where its stamp is not above all that stand earlier
abbrev pub BreaksOrder : Record → ℕ → ℕ → Type 0
BreaksOrder r p k = (k < length (calls_of r p)) × (¬ KeepsOrder r p k)

-- prefix, where it receives another entry than the next
abbrev pub BreaksPrefix : List Wire → Record → ℕ → ℕ → Type 0
BreaksPrefix ws r p k = (k < length (calls_of r p)) × (¬ KeepsPrefix ws r p k)

-- contents, where it receives other ones than were sent
abbrev pub BreaksContents : List Wire → Record → ℕ → ℕ → Type 0
BreaksContents ws r p k = (k < length (calls_of r p)) × (¬ KeepsContents ws r p k)

-- whole, where something is left to receive; the call is the number of p's calls
abbrev pub BreaksWhole : List Wire → Record → ℕ → ℕ → Type 0
BreaksWhole ws r p k = (p < length r.peers) × (k ≡ length (calls_of r p)) × (¬ HasNoNext ws r p k)

-- keys, order, prefix and contents have no break
pub record Legal (o : Opening) (r : Record) : Type 0 where
  pub keys : (p k : ℕ) → KeepsKeys r p k
  pub order : (p k : ℕ) → KeepsOrder r p k
  pub prefix : (p k : ℕ) → KeepsPrefix o.wires r p k
  pub contents : (p k : ℕ) → KeepsContents o.wires r p k

-- nothing is left to receive
abbrev pub Whole : Opening → Record → Type 0
Whole o r = (p : ℕ) → p < length r.peers → HasNoNext o.wires r p (length (calls_of r p))
