-- How a record grows by one call, and what that call must keep for the record to stay legal.
use Rattle.std.specs.Prelude.{◌≡◌, ◌≢◌, ℕ, ◌%◌, ◌<◌, ◌⊎◌, Bool, true, false, List, [], ◌∷◌, ◌++◌, length, slice_get, Option, None, Some}
use Rattle.std.specs.Option.{option_flatten}
use Rattle.b1_model.specs.declared.naming.Key.{Key}
use Rattle.b1_model.specs.declared.naming.Wire.{Wire}
use Rattle.b1_model.specs.declared.naming.Opening.{Opening}
use Rattle.b1_model.specs.declared.commands.SendCmd.{SendCmd}
use Rattle.b1_model.specs.declared.commands.Command.{Command}
use Rattle.b1_model.specs.declared.commands.Command.TheVariants as cmd
use Rattle.b1_model.specs.declared.answers.Sent.{Sent}
use Rattle.b1_model.specs.declared.answers.Receipt.TheVariants as rec
use Rattle.b1_model.specs.declared.answers.Answer.{Answer}
use Rattle.b1_model.specs.declared.answers.Answer.TheVariants as ans
use Rattle.b1_model.specs.declared.records.Call.{Call}
use Rattle.b1_model.specs.declared.records.Record.{Record}
use Rattle.b1_model.specs.Names.{Node, Name, wired, calls_of, epoch_at, made_in, made}
use Rattle.b1_model.specs.Ledger.{got_key, Message, message, to_at, is_accepted, table, Destruction, destruction_by, destructions_of, is_destroyed_in, is_late}
use Rattle.b1_model.specs.Legal.{seen_stamp, is_message, is_notice, is_notice_of, is_candidate, KeepsOrder}

-- t has as many peers as r, and each peer's calls of r, maybe with more behind them
pub record Extends (r t : Record) : Type 0 where
  pub peers : length t.peers ≡ length r.peers
  pub grows : (q : ℕ) → (more : List Call) × (calls_of t q ≡ calls_of r q ++ more)

-- t is r with one call more, of peer p
pub record Appends (r t : Record) (p : ℕ) (c : Call) : Type 0 where
  pub peers : length t.peers ≡ length r.peers
  pub here : calls_of t p ≡ calls_of r p ++ c ∷ []
  pub there : (q : ℕ) → q ≢ p → calls_of t q ≡ calls_of r q

-- the number of p's calls
abbrev pub calls_len : Record → ℕ → ℕ
calls_len r p = length (calls_of r p)

abbrev pub sent_call : SendCmd → Sent → Call
sent_call s b = record { command = cmd.Send s; answer = ans.Sent b }

-- the key of a message receipt
abbrev pub message_key : Answer → Option Key
message_key (ans.Got (rec.Message key number offset handles payload)) = Some key
message_key a = None

-- the stamp of a destruction
abbrev pub destroy_stamp : Answer → Option ℕ
destroy_stamp (ans.Destroyed stamp) = Some stamp
destroy_stamp (ans.Reset stamp) = stamp
destroy_stamp a = None

-- a stamp that p may give: even, and above all that p sent or received
pub record IsNewStamp (r : Record) (p stamp : ℕ) : Type 0 where
  pub even : stamp % 2 ≡ 0
  pub above : (k s : ℕ) (d : Call) → slice_get (calls_of r p) k ≡ Some d → seen_stamp d.answer ≡ Some s → s < stamp

-- place i of a send was accepted and goes to x
abbrev pub GoesTo : List (Option Node) → Sent → ℕ → Node → Type 0
GoesTo nodes b i x = (is_accepted (slice_get b.places i) ≡ true) × (option_flatten (slice_get nodes i) ≡ Some x)

-- what the owner of an accepted destination has received in that node's epoch is below the send
abbrev pub IsAboveReceipts : Record → List (Option Node) → Sent → Type 0
IsAboveReceipts r nodes b = (k i : ℕ) (x : Node) (d : Call) (key : Key) → GoesTo nodes b i x → slice_get (calls_of r x.owner) k ≡ Some d → got_key d.answer ≡ Some key → x.epoch ≡ epoch_at r x.owner k → key.stamp < b.stamp

-- the destruction that p's next call is, if it is one, over the names with which it begins
abbrev pub next_destruction : Opening → Record → Record → ℕ → Call → List Destruction
next_destruction o r t p c = destruction_by p (made o.wires t p (calls_len r p)) (table o.wires r p (calls_len r p)) (destructions_of o.wires r p) c.command c.answer

-- a node that place i of a message names: its destination, or one that it carries
abbrev pub Names : Message → ℕ → Node → Type 0
Names m i x = (to_at m i ≡ Some x) ⊎ ((j : ℕ) × (slice_get m.carried j ≡ Some (Some x)))

-- what a peer has received is below a destruction of x, where it came to a peer that owns or holds x then, or where it names x and x wasn't gone
pub record DestroysAbove (o : Opening) (r : Record) (doomed : List Destruction) (stamp : ℕ) : Type 0 where
  pub holders : (q k : ℕ) (x : Node) (d : Call) (key : Key) → is_destroyed_in doomed x ≡ true → slice_get (calls_of r q) k ≡ Some d → got_key d.answer ≡ Some key → is_notice_of o.wires r q k (Some x) ≡ true → key.stamp < stamp
  pub named : (q k : ℕ) (x : Node) (d : Call) (key : Key) (m : Message) → is_destroyed_in doomed x ≡ true → slice_get (calls_of r q) k ≡ Some d → message_key d.answer ≡ Some key → message o.wires r key.stamp key.origin ≡ Some m → Names m key.index x → is_late o.wires r x key ≡ false → key.stamp < stamp

-- a call that changes neither its peer's table, nor its last receipt, nor its epoch
abbrev pub is_quiet : Command → Answer → Bool
is_quiet c (ans.Got (rec.Message key number offset handles payload)) = false
is_quiet c (ans.Got (rec.Destroyed key number)) = false
is_quiet c (ans.Reset stamp) = false
is_quiet (cmd.Release n) ans.Done = false
is_quiet c a = true

-- each peer's stamps rise
abbrev pub RisesAt : Record → Type 0
RisesAt r = (q k : ℕ) → KeepsOrder r q k

-- what p may receive next, by all its calls
abbrev pub may_receive_message : Opening → Record → ℕ → Key → Bool
may_receive_message o r p key = is_message o.wires r p (calls_len r p) key

abbrev pub may_receive_notice : Opening → Record → ℕ → Key → Bool
may_receive_notice o r p key = is_notice o.wires r p (calls_len r p) key

abbrev pub may_receive : Opening → Record → ℕ → Key → Bool
may_receive o r p key = is_candidate o.wires r p (calls_len r p) key

-- all names of q
abbrev pub all_names : List Wire → Record → ℕ → List Name
all_names ws r q = made_in 0 (wired ws q) (calls_of r q)

-- x is the node of a name of its owner, made in that name's epoch
abbrev pub IsMade : (ℕ → List Name) → Node → Type 0
IsMade names x = (m : Name) × (slice_get (names x.owner) x.serial ≡ Some m) × (x.epoch ≡ m.epoch)

-- the owner of x made it in r
abbrev pub WasMade : List Wire → Record → Node → Type 0
WasMade ws r x = IsMade (all_names ws r) x
