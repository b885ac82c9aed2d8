-- What each peer may receive next, behind each kind of call.
use Rattle.std.specs.Prelude.{◌≡◌, ◌≢◌, ◌⊎◌, ℕ, suc, true, not, ◌&&◌, ◌==◌, List, slice_get, find, Some, None, length}
use Rattle.std.specs.List.{list_any}
use Rattle.b1_model.specs.declared.naming.Key.{Key}
use Rattle.b1_model.specs.declared.naming.Wire.{Wire}
use Rattle.b1_model.specs.declared.naming.Opening.{Opening}
use Rattle.b1_model.specs.declared.commands.SendCmd.{SendCmd}
use Rattle.b1_model.specs.declared.answers.Sent.{Sent}
use Rattle.b1_model.specs.declared.answers.Receipt.TheVariants as rec
use Rattle.b1_model.specs.declared.answers.Answer.TheVariants as ans
use Rattle.b1_model.specs.declared.records.Call.{Call}
use Rattle.b1_model.specs.declared.records.Record.{Record}
use Rattle.b1_model.specs.Names.{Node, calls_of, is_flush}
use Rattle.b1_model.specs.Ledger.{stamp_of, got_key, is_below, Message, to_at, is_entry, has_node, slots, message, node_at, doomed_at, is_late_by}
use Rattle.b1_model.specs.Legal.{last_key, is_above, is_open_to, is_notice_of, HasNoNext, Legal}
use Rattle.b1_ledger.specs.Growth.{Appends, calls_len, sent_call, destroy_stamp, IsNewStamp, next_destruction, is_quiet, may_receive, may_receive_message, may_receive_notice}

-- a call without a stamp that is no receipt, no release and no flush changes nothing of what any peer may receive
abbrev pub QuietCallChangesNothing : Type 0
QuietCallChangesNothing = (o : Opening) (r t : Record) (p : ℕ) (c : Call) (q : ℕ) (key : Key)
    → Legal o r → Appends r t p c → stamp_of c.answer ≡ None → is_quiet c.command c.answer ≡ true
    → may_receive o t q key ≡ may_receive o r q key

-- a call without a stamp changes nothing of what other peers may receive
abbrev pub PlainCallKeepsOthers : Type 0
PlainCallKeepsOthers = (o : Opening) (r t : Record) (p : ℕ) (c : Call) (q : ℕ) (key : Key)
    → Legal o r → Appends r t p c → stamp_of c.answer ≡ None → q ≢ p
    → may_receive o t q key ≡ may_receive o r q key

-- behind a message its peer may receive the messages above it
abbrev pub MessagesBehindMessage : Type 0
MessagesBehindMessage = (o : Opening) (r t : Record) (p : ℕ) (c : Call) (key other : Key)
    → Legal o r → Appends r t p c → got_key c.answer ≡ Some key → is_above key (last_key r p (calls_len r p)) ≡ true
    → may_receive_message o t p other ≡ (is_below key other && may_receive_message o r p other)

-- behind a message its peer may receive notices above it alone: of nodes that concerned it before, or that stood in a slot of the message
abbrev pub NoticesBehindMessage : Type 0
NoticesBehindMessage = (o : Opening) (r t : Record) (p : ℕ) (c : Call) (key other : Key) (number offset : ℕ) (handles payload : List ℕ)
    → Legal o r → Appends r t p c → c.answer ≡ ans.Got (rec.Message key number offset handles payload) → may_receive_notice o t p other ≡ true
    → (is_below key other ≡ true) × ((x : Node) × (doomed_at o.wires r other ≡ Some x) × ((is_notice_of o.wires r p (calls_len r p) (Some x) ≡ true) ⊎ (has_node x (slots o.wires t p key) ≡ true)))

-- behind a destroy notice its peer may receive what is above it
abbrev pub EntriesBehindNotice : Type 0
EntriesBehindNotice = (o : Opening) (r t : Record) (p : ℕ) (c : Call) (key other : Key) (number : ℕ)
    → Legal o r → Appends r t p c → c.answer ≡ ans.Got (rec.Destroyed key number) → is_above key (last_key r p (calls_len r p)) ≡ true
    → may_receive o t p other ≡ (is_below key other && may_receive o r p other)

-- a send changes nothing of what may be received under other keys
abbrev pub SendKeepsOtherKeys : Type 0
SendKeepsOtherKeys = (o : Opening) (r t : Record) (p : ℕ) (s : SendCmd) (b : Sent) (q : ℕ) (key : Key)
    → Legal o r → Appends r t p (sent_call s b) → (key.stamp ≡ b.stamp → key.origin ≢ p)
    → may_receive o t q key ≡ may_receive o r q key

-- a send changes nothing of the notices that may be received
abbrev pub SendKeepsNotices : Type 0
SendKeepsNotices = (o : Opening) (r t : Record) (p : ℕ) (s : SendCmd) (b : Sent) (q : ℕ) (key : Key)
    → Legal o r → Appends r t p (sent_call s b)
    → may_receive_notice o t q key ≡ may_receive_notice o r q key

-- under the keys of a send its accepted places may be received, each at the owner of its node, in the node's epoch
abbrev pub SendAddsItsPlaces : Type 0
SendAddsItsPlaces = (o : Opening) (r t : Record) (p : ℕ) (s : SendCmd) (b : Sent) (q : ℕ) (key : Key) (m : Message)
    → Legal o r → Appends r t p (sent_call s b) → IsNewStamp r p b.stamp → key.stamp ≡ b.stamp → key.origin ≡ p → message o.wires t b.stamp p ≡ Some m
    → may_receive_message o t q key ≡ (is_above key (last_key r q (calls_len r q)) && (is_entry q key.index m && is_open_to o.wires r q (calls_len r q) key (to_at m key.index)))

-- after a destruction a message may be received where it could before and its node isn't destroyed before it
abbrev pub DestructionMakesLate : Type 0
DestructionMakesLate = (o : Opening) (r t : Record) (p : ℕ) (c : Call) (stamp q : ℕ) (key : Key) (m : Message) (x : Node)
    → Legal o r → Appends r t p c → destroy_stamp c.answer ≡ Some stamp → (q ≡ p → is_quiet c.command c.answer ≡ true) → message o.wires r key.stamp key.origin ≡ Some m → to_at m key.index ≡ Some x
    → may_receive_message o t q key ≡ (may_receive_message o r q key && not (list_any (is_late_by x key) (next_destruction o r t p c)))

-- a destruction adds no message
abbrev pub DestructionAddsNoMessage : Type 0
DestructionAddsNoMessage = (o : Opening) (r t : Record) (p : ℕ) (c : Call) (stamp q : ℕ) (key : Key)
    → Legal o r → Appends r t p c → destroy_stamp c.answer ≡ Some stamp → (q ≡ p → is_quiet c.command c.answer ≡ true) → may_receive_message o t q key ≡ true
    → may_receive_message o r q key ≡ true

-- a destruction changes nothing of the notices under other keys
abbrev pub DestructionKeepsOtherNotices : Type 0
DestructionKeepsOtherNotices = (o : Opening) (r t : Record) (p : ℕ) (c : Call) (stamp q : ℕ) (key : Key)
    → Legal o r → Appends r t p c → destroy_stamp c.answer ≡ Some stamp → (q ≡ p → is_quiet c.command c.answer ≡ true) → (key.stamp ≡ stamp → key.origin ≢ p)
    → may_receive_notice o t q key ≡ may_receive_notice o r q key

-- under the keys of a destruction its notices may be received, at the peers that its nodes concern
abbrev pub DestructionAddsItsNotices : Type 0
DestructionAddsItsNotices = (o : Opening) (r t : Record) (p : ℕ) (c : Call) (stamp q : ℕ) (key : Key)
    → Legal o r → Appends r t p c → destroy_stamp c.answer ≡ Some stamp → IsNewStamp r p stamp → (q ≡ p → is_quiet c.command c.answer ≡ true) → key.stamp ≡ stamp → key.origin ≡ p
    → may_receive_notice o t q key ≡ (is_above key (last_key r q (calls_len r q)) && is_notice_of o.wires r q (calls_len r q) (node_at key.index (find (λ d. d.stamp == key.stamp) (next_destruction o r t p c))))

-- behind a flush that is its peer's last call there is nothing to receive
abbrev pub NothingBehindFlush : Type 0
NothingBehindFlush = (ws : List Wire) (r : Record) (q k : ℕ) (c : Call)
    → slice_get (calls_of r q) k ≡ Some c → is_flush c.answer ≡ true → length (calls_of r q) ≡ suc k
    → HasNoNext ws r q (suc k)
