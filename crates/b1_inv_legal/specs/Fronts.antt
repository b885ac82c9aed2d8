-- What a peer takes next, and what has to hold of it by the record before.
use Rattle.std.specs.Prelude.{◌≡◌, ℕ, true, false, List, ◌∷◌, map, Some, None, option_map}
use Rattle.b1_model.specs.declared.naming.Key.{Key}
use Rattle.b1_model.specs.declared.naming.NodeRef.{NodeRef}
use Rattle.b1_model.specs.declared.naming.Opening.{Opening}
use Rattle.b1_model.specs.declared.parts.Slot.{Slot}
use Rattle.b1_model.specs.declared.answers.Answer.{Answer}
use Rattle.b1_model.specs.declared.answers.Answer.TheVariants as ans
use Rattle.b1_model.specs.declared.entries.Entry.{Entry}
use Rattle.b1_model.specs.Names.{made}
use Rattle.b1_model.specs.Ledger.{Message, message, table, is_late}
use Rattle.b1_model.specs.Legal.{arrived, IsNextReceipt, IsWhatWasSent}
use Rattle.b1_model.specs.MachineParts.{PeerPart, DriverPart, State, is_staged, is_data, carried, slots_of}
use Rattle.b1_model.specs.MachinePool.{published}
use Rattle.b1_model.specs.MachineReceive.{cleared, slots_arrived, taken_entry}
use Rattle.b1_model.specs.MachineStep.{record_of_state}
use Rattle.b1_inv.specs.Words.{IsPeer, IsDriver}
use Rattle.b1_ledger.specs.Growth.{calls_len}
use Rattle.b1_inv_record.specs.Epochs.{ref_of}

-- peer p may begin to receive, and the front of its queue behind the removals is committed
pub record CanTake (s : State) (p : ℕ) (x : PeerPart) (f : Key × Entry)
    (rest : List (Key × Entry)) : Type 0 where
  pub driver : DriverPart
  pub is_driver : IsDriver s p driver
  pub is_peer : IsPeer s p x
  pub idle : driver.doing ≡ None
  pub running : driver.shut ≡ false
  pub front : (cleared x).queue ≡ f ∷ rest
  pub committed : is_staged f ≡ false

-- the answer that takes that front
abbrev pub taken_answer : PeerPart → Key × Entry → List (Key × Entry) → Answer
taken_answer x f rest = ans.Got (taken_entry (record (cleared x) { queue = rest }) f.0 f.1).0

-- whatever a peer takes next is its next entry by the record
abbrev pub FrontIsNext : Opening → State → Type 0
FrontIsNext o s =
    (p : ℕ) (x : PeerPart) (f : Key × Entry) (rest : List (Key × Entry)) → CanTake s p x f rest
    → IsNextReceipt o.wires (record_of_state s) p (calls_len (record_of_state s) p)
    (taken_answer x f rest)

-- whatever a peer takes next has what was sent by the record
abbrev pub FrontIsSent : Opening → State → Type 0
FrontIsSent o s =
    (p : ℕ) (x : PeerPart) (f : Key × Entry) (rest : List (Key × Entry)) → CanTake s p x f rest
    → IsWhatWasSent o.wires (record_of_state s) p (calls_len (record_of_state s) p)
    (taken_answer x f rest)

-- the handles of a message that is taken, as the machine delivers them
abbrev pub delivered : PeerPart → List (Key × Entry) → ℕ → List NodeRef → List Slot → List ℕ
delivered x rest offset nodes slots =
    let y = record (cleared x) { queue = rest; slices = published offset (cleared x).slices } in
    (slots_arrived y nodes slots).numbers

-- a message that a peer takes next, with what the record has under its key
pub record IsTaking (o : Opening) (s : State) (p : ℕ) (x : PeerPart) (f : Key × Entry)
    (nodes : List NodeRef) (slots : List Slot) (m : Message) : Type 0 where
  pub rest : List (Key × Entry)
  pub can : CanTake s p x f rest
  pub is_message : is_data f.1 ≡ true
  pub carries : carried f.1 ≡ nodes
  pub has_slots : slots_of f.1 ≡ slots
  pub is_sent : message o.wires (record_of_state s) f.0.stamp f.0.origin ≡ Some m
  pub sent_nodes : map (option_map ref_of) m.carried ≡ map Some nodes

-- the handles of a message with this key, as the record's contents have them at p's next call
abbrev pub contained : Opening → State → ℕ → Key → Message → List ℕ
contained o s p key m =
    let r = record_of_state s in
    let k = calls_len r p in
    arrived (λ y. is_late o.wires r y key) p (made o.wires r p k) m.carried (table o.wires r p k)

-- the handles of whatever message a peer takes next arrive as the record's contents have them
abbrev pub SlotsArrive : Opening → State → Type 0
SlotsArrive o s =
    (p offset : ℕ) (x : PeerPart) (f : Key × Entry) (nodes : List NodeRef) (slots : List Slot)
    (m : Message) (taking : IsTaking o s p x f nodes slots m)
    → delivered x taking.rest offset nodes slots ≡ contained o s p f.0 m
