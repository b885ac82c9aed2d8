-- A state of the machine at rest, and the serial bus that it stands for.
use Rattle.std.specs.Prelude.{◌≡◌, ◌≢◌, ℕ, ◌+◌, Bool, true, false, ◌&&◌, if◌then◌else◌, List, []}
use Rattle.std.specs.Prelude.{Option, None, Some, is_some, slice_get, sum_by, zip}
use Rattle.std.specs.List.{list_any}
use Rattle.b1_model.specs.declared.naming.Key.{Key}
use Rattle.b1_model.specs.declared.naming.NodeRef.{NodeRef}
use Rattle.b1_model.specs.declared.naming.Opening.{Opening}
use Rattle.b1_model.specs.declared.parts.Slot.{Slot}
use Rattle.b1_model.specs.declared.parts.Slot.TheVariants as slot
use Rattle.b1_model.specs.declared.entries.Entry.{Entry}
use Rattle.b1_model.specs.declared.entries.Entry.TheVariants as entry
use Rattle.b1_model.specs.MachineParts.{NodePart, PeerPart, DriverPart, State, same_ref}
use Rattle.b1_model.specs.MachineParts.{key_before, is_staged, is_dying, carried, slots_of}
use Rattle.b1_step.specs.Rights.{Has}
use Rattle.b1_step.specs.Fixed.{IsNumbered}
use Rattle.b1_inv.specs.Words.{IsPeer, IsDriver}
use Rattle.b1_inv.specs.References.{count_in, times_in}
use Rattle.b1_serial_bus.specs.Parts.{HeldLine, Part, Bus}
use Rattle.b1_serial_bus.specs.Lives.{destroyed_at, destroyed_in}
use Rattle.b1_serial_bus.specs.References.{boxed_references}
use Rattle.b1_serial_rest.specs.Standing.{bus_of}

-- how often the lines hold a node
abbrev pub held_times : NodeRef → List HeldLine → ℕ
held_times x lines = sum_by (λ l. if same_ref l.node x then l.held else 0) lines

-- how many boxed slots have a reference to a node
abbrev pub boxed_times : NodeRef → List (Key × Entry) → ℕ
boxed_times x box = sum_by (λ f. times_in x (boxed_references f)) box

-- the peer's own node that a message is to
abbrev pub sent_to : Entry → Option ℕ
sent_to (entry.Message origin user index serial offset len nodes slots handles payload) =
    Some serial
sent_to (entry.OwnNotice serial index) = None
sent_to (entry.ForeignNotice node index) = None
sent_to (entry.ReleaseNotice serial) = None

-- the notice that a peer's node, or another peer's, is destroyed
abbrev pub is_notice_of : ℕ → NodeRef → Entry → Bool
is_notice_of me x (entry.Message origin user index serial offset len nodes slots handles payload) =
    false
is_notice_of me x (entry.OwnNotice serial index) =
    same_ref x (record { owner = me; serial = serial })
is_notice_of me x (entry.ForeignNotice node index) = same_ref x node
is_notice_of me x (entry.ReleaseNotice serial) = false

-- a node's destroy notice is in the peer's box, behind a key
abbrev pub is_noticed_behind : Key → NodeRef → Part → Bool
is_noticed_behind k x y = list_any (λ f. is_notice_of y.me x f.1 && key_before k f.0) y.box

-- no command is open, nothing is owed, and nothing is to be given up
pub record IsQuiet (s : State) : Type 0 where
  -- no driver has an open command
  pub idle : (p : ℕ) (d : DriverPart) → IsDriver s p d → d.doing ≡ None
  -- no driver owes a drop
  pub paid : (p : ℕ) (d : DriverPart) → IsDriver s p d → d.owed ≡ []
  -- no peer has references to be given up
  pub given_up : (q : ℕ) (x : PeerPart) → IsPeer s q x → x.dead ≡ []
  -- no holder came late
  pub in_time : (q : ℕ) (x : PeerPart) → IsPeer s q x → x.late ≡ []
  -- no entry is staged
  pub committed : (q : ℕ) (x : PeerPart) (f : Key × Entry) →
      IsPeer s q x → Has x.queue f → is_staged f ≡ false
  -- no node is dying
  pub stamped : (q : ℕ) (x : PeerPart) (n : NodePart) →
      IsPeer s q x → Has x.nodes n → is_dying n.state ≡ false

-- what a serial bus has in its boxes, where each command ran whole
pub record BoxesRight (bus : Bus) : Type 0 where
  -- a boxed message to a destroyed node is before the node's destroy notice, which is boxed still
  pub sent : (q : ℕ) (y : Part) (f : Key × Entry) (serial : ℕ) → slice_get bus q ≡ Some y
      → Has y.box f → sent_to f.1 ≡ Some serial → is_some (destroyed_at y serial) ≡ true
      → is_noticed_behind f.0 (record { owner = y.me; serial = serial }) y ≡ true
  -- so is one with a slot for a destroyed node, void slots left aside
  pub filled : (q : ℕ) (y : Part) (f : Key × Entry) (c : NodeRef × Slot) → slice_get bus q ≡ Some y
      → Has y.box f → Has (zip (carried f.1) (slots_of f.1)) c → c.1 ≢ slot.Void
      → is_some (destroyed_in bus c.0) ≡ true → is_noticed_behind f.0 c.0 y ≡ true
  -- a void slot is a destroyed node's
  pub void : (q : ℕ) (y : Part) (f : Key × Entry) (c : NodeRef × Slot) → slice_get bus q ≡ Some y
      → Has y.box f → Has (zip (carried f.1) (slots_of f.1)) c → c.1 ≡ slot.Void
      → is_some (destroyed_in bus c.0) ≡ true

-- a state at rest, and the serial bus that it stands for
pub record AtRest (o : Opening) (s : State) (bus : Bus) : Type 0 where
  -- each part stands at its number, and there are as many as the opening has peers
  pub numbered : IsNumbered o s
  -- no command is under way
  pub quiet : IsQuiet s
  -- each peer's part and its driver's part are a peer of the bus
  pub is_bus : bus ≡ bus_of s
  -- an owner's count of a peer's references is how often its lines and boxed slots have them
  pub counts : (x : NodeRef) (q : ℕ) (y : Part) → slice_get bus q ≡ Some y
      → count_in s x q ≡ held_times x y.lines + boxed_times x y.box
  -- what is boxed of destroyed nodes is before their notices
  pub boxes : BoxesRight bus
