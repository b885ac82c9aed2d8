-- Names, nodes and tables: a peer's part against its calls, also in the gap of a reset and within an open SEND.
use Rattle.std.specs.Prelude.{◌≡◌, ◌<◌, ◌%◌, ℕ, suc, true, false, if◌then◌else◌, List, [], map, slice_get, Some, None}
use Rattle.b1_model.specs.declared.naming.Opening.{Opening}
use Rattle.b1_model.specs.declared.commands.Command.{Command}
use Rattle.b1_model.specs.declared.commands.Command.TheVariants as cmd
use Rattle.b1_model.specs.declared.events.Doing.{Doing}
use Rattle.b1_model.specs.declared.events.Phase.{Phase}
use Rattle.b1_model.specs.declared.events.Phase.TheVariants.{Staging, Attaching, Stamping}
use Rattle.b1_model.specs.Names.{calls_of, add_new, epoch_in}
use Rattle.b1_model.specs.Ledger.{Line, table}
use Rattle.b1_model.specs.MachineParts.{PeerPart, DriverPart, NodePart, HandleRecord, State, is_destroyed}
use Rattle.b1_model.specs.MachineTables.{node_named}
use Rattle.b1_model.specs.MachineDriver.{send_of}
use Rattle.b1_model.specs.MachineEvents.{begun_of}
use Rattle.b1_model.specs.MachineStep.{record_of_state}
use Rattle.b1_step.specs.Rights.{Has}
use Rattle.b1_inv.specs.Words.{IsPeer, IsDriver}
use Rattle.b1_inv.specs.Notices.{Apart}
use Rattle.b1_ledger.specs.Growth.{all_names, calls_len}
use Rattle.b1_inv_record.specs.Epochs.{in_gap, first_now, is_ref}

-- the numbers that an open SEND carries whose begin was accepted and whose answer isn't fixed
abbrev pub carried_open : Command → Phase → List ℕ
carried_open (cmd.Send c) (Staging begun places collected) = c.with
carried_open (cmd.Send c) (Attaching sending place slot) = c.with
carried_open (cmd.Send c) (Stamping sending) = c.with
carried_open command phase = []

-- the same of a driver's part
abbrev pub open_numbers : DriverPart → List ℕ
open_numbers d = elim d.doing [ None ↦ [] | Some doing ↦ carried_open doing.command doing.phase ]

-- a record and a line of the table are of one node, under one number, and held as often
abbrev pub IsLineOf : HandleRecord → Line → Type 0
IsLineOf h l = (h.number ≡ Some l.number) × (h.held ≡ l.held) × (is_ref h.node l.node ≡ true)

-- the numbers of a peer's nodes are the names made in the record, then the new own numbers of an open SEND; each stands once and is an own number
pub record MadeNumbers (o : Opening) (s : State) : Type 0 where
  pub made : (p : ℕ) (d : DriverPart) (x : PeerPart) → IsDriver s p d → IsPeer s p x
      → map (λ n. n.number) x.nodes ≡ map (λ m. m.number) (add_new x.epoch (all_names o.wires (record_of_state s) p) (open_numbers d))
  pub own : (p : ℕ) (x : PeerPart) (n : NodePart) → IsPeer s p x → Has x.nodes n → n.number % 4 ≡ 0
  pub apart : (p : ℕ) (x : PeerPart) → IsPeer s p x → Apart (map (λ n. n.number) x.nodes)

-- the table at the end of a peer's calls has the lines of its numbered records and no others, and as many were given; in the gap of a reset it is empty
pub record TableIsLines (o : Opening) (s : State) : Type 0 where
  pub given : (p : ℕ) (x : PeerPart) → IsPeer s p x → x.given ≡ (table o.wires (record_of_state s) p (calls_len (record_of_state s) p)).given
  pub gap : (p : ℕ) (d : DriverPart) → IsDriver s p d → in_gap d ≡ true → (table o.wires (record_of_state s) p (calls_len (record_of_state s) p)).lines ≡ []
  pub lines : (p : ℕ) (d : DriverPart) (x : PeerPart) (l : Line) → IsDriver s p d → IsPeer s p x → in_gap d ≡ false → Has (table o.wires (record_of_state s) p (calls_len (record_of_state s) p)).lines l
      → (h : HandleRecord) × Has x.handles h × IsLineOf h l
  pub records : (p number : ℕ) (d : DriverPart) (x : PeerPart) (h : HandleRecord) → IsDriver s p d → IsPeer s p x → in_gap d ≡ false → Has x.handles h → h.number ≡ Some number
      → (l : Line) × Has (table o.wires (record_of_state s) p (calls_len (record_of_state s) p)).lines l × IsLineOf h l

-- the nodes of an open SEND are what its numbers name in its peer's part
pub record BegunNames (s : State) : Type 0 where
  pub to : (p : ℕ) (d : DriverPart) (x : PeerPart) (doing : Doing) → IsDriver s p d → IsPeer s p x → d.doing ≡ Some doing → map (node_named x) (send_of doing.command).to ≡ map Some (begun_of doing.phase).to
  pub with : (p : ℕ) (d : DriverPart) (x : PeerPart) (doing : Doing) → IsDriver s p d → IsPeer s p x → d.doing ≡ Some doing → map (node_named x) (send_of doing.command).with ≡ map Some (begun_of doing.phase).with

-- the nodes of earlier epochs are destroyed
pub record OldNodesDestroyed (o : Opening) (s : State) : Type 0 where
  pub destroyed : (p serial : ℕ) (x : PeerPart) (n : NodePart) → IsPeer s p x → slice_get x.nodes serial ≡ Some n → serial < first_now o s p → is_destroyed n.state ≡ true

-- a peer that has disconnected has an empty queue, no records, and only destroyed nodes
pub record ShutIsEmpty (s : State) : Type 0 where
  pub queue : (p : ℕ) (d : DriverPart) (x : PeerPart) → IsDriver s p d → IsPeer s p x → d.shut ≡ true → x.queue ≡ []
  pub handles : (p : ℕ) (d : DriverPart) (x : PeerPart) → IsDriver s p d → IsPeer s p x → d.shut ≡ true → x.handles ≡ []
  pub nodes : (p : ℕ) (d : DriverPart) (x : PeerPart) (n : NodePart) → IsDriver s p d → IsPeer s p x → d.shut ≡ true → Has x.nodes n → is_destroyed n.state ≡ true

-- a peer's epoch is how often its calls flush; in the gap of a reset it is one behind
pub record EpochCounted (s : State) : Type 0 where
  pub epoch : (p : ℕ) (d : DriverPart) (x : PeerPart) → IsDriver s p d → IsPeer s p x → epoch_in 0 (calls_of (record_of_state s) p) ≡ (if in_gap d then suc x.epoch else x.epoch)
