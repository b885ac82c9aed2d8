-- How far an open SEND is, by its phase.
use Rattle.std.specs.Prelude.{◌≡◌, ◌≢◌, ◌<◌, ◌≤◌, ◌⊎◌, ⊤, ℕ, true, false, [], length, get_or, Some}
use Rattle.std.specs.List.{All}
use Rattle.b1_model.specs.declared.limits.TheConstants.{MOST_DESTINATIONS, MOST_HANDLES, MOST_PAYLOAD}
use Rattle.b1_model.specs.declared.naming.NodeRef.{NodeRef}
use Rattle.b1_model.specs.declared.commands.Command.{Command}
use Rattle.b1_model.specs.declared.commands.Command.TheVariants as cmd
use Rattle.b1_model.specs.declared.parts.Begun.{Begun}
use Rattle.b1_model.specs.declared.parts.Slot.{Slot}
use Rattle.b1_model.specs.declared.parts.Slot.TheVariants as slot
use Rattle.b1_model.specs.declared.events.Phase.{Phase}
use Rattle.b1_model.specs.declared.events.Phase.TheVariants.{Starting, Staging, Unstaging, Attaching, Stamping, Syncing, Committing}
use Rattle.b1_model.specs.declared.events.Doing.{Doing}
use Rattle.b1_model.specs.declared.events.Sending.{Sending}
use Rattle.b1_model.specs.MachineParts.{DriverPart, State}
use Rattle.b1_model.specs.MachineDriver.{send_of, node_of_place}
use Rattle.b1_inv.specs.Words.{IsDriver, IsMade, is_accepted_place}

-- a SEND that its begin accepted: at least one destination, and not too many destinations, handles and bytes
pub record IsSend (command : Command) : Type 0 where
  pub is_send : command ≡ cmd.Send (send_of command)
  pub some : 1 ≤ length (send_of command).to
  pub destinations : length (send_of command).to ≤ MOST_DESTINATIONS
  pub handles : length (send_of command).with ≤ MOST_HANDLES
  pub payload : length (send_of command).payload ≤ MOST_PAYLOAD

-- the nodes that a begin found: one made node for each number
pub record IsBegun (s : State) (command : Command) (begun : Begun) : Type 0 where
  pub send : IsSend command
  pub destinations : length begun.to ≡ length (send_of command).to
  pub handles : length begun.with ≡ length (send_of command).with
  pub to : All (IsMade s) begun.to
  pub with : All (IsMade s) begun.with

-- what a filled slot of a handle is for a destination: its own node, a counted reference to another's, or void
abbrev pub IsFilled : NodeRef → NodeRef → Slot → Type 0
IsFilled to with slot.Unattached = ⊥
IsFilled to with slot.Attached = with.owner ≢ to.owner
IsFilled to with slot.Own = with.owner ≡ to.owner
IsFilled to with slot.Void = ⊤

-- a handle j at a place is attached before another one at the place `place` is
abbrev pub IsBefore : ℕ → ℕ → ℕ → ℕ → Type 0
IsBefore at j place handle = (at < place) ⊎ ((at ≡ place) × (j < handle))

-- the slot of a handle at a place
abbrev pub slot_of_place : Sending → ℕ → ℕ → Slot
slot_of_place sending at j = get_or (get_or sending.slots at []) j slot.Unattached

-- a SEND that staged all its messages: each place was answered, and the handles of the accepted places are attached up to one
pub record IsSending (s : State) (command : Command) (sending : Sending) (place handle : ℕ) : Type 0 where
  pub begun : IsBegun s command sending.begun
  pub places : length sending.places ≡ length sending.begun.to
  pub lists : length sending.slots ≡ length sending.begun.to
  pub slots : All (λ l. length l ≡ length sending.begun.with) sending.slots
  pub filled : (at j : ℕ) → is_accepted_place sending.places at ≡ true → j < length sending.begun.with → IsBefore at j place handle → IsFilled (node_of_place sending.begun.to at) (node_of_place sending.begun.with j) (slot_of_place sending at j)
  pub unfilled : (at j : ℕ) → (IsBefore at j place handle → ⊥) ⊎ (is_accepted_place sending.places at ≡ false) → slot_of_place sending at j ≡ slot.Unattached

-- all handles are attached
abbrev pub IsAttached : State → Command → Sending → Type 0
IsAttached s command sending = IsSending s command sending (length sending.begun.to) 0

-- an open SEND, by its phase; a phase of another command says nothing here
abbrev pub SendShape : State → Command → Phase → Type 0
SendShape s command Starting = ⊥
SendShape s command (Staging begun places collected) = IsBegun s command begun × (length places < length begun.to)
SendShape s command (Unstaging begun places refused place) = IsBegun s command begun × (length places ≤ length begun.to) × (is_accepted_place places place ≡ true)
SendShape s command (Attaching sending place handle) = IsSending s command sending place handle × (is_accepted_place sending.places place ≡ true) × (handle < length sending.begun.with)
SendShape s command (Stamping sending) = IsAttached s command sending
SendShape s command (Syncing sending stamp place) = IsAttached s command sending × (is_accepted_place sending.places place ≡ true)
SendShape s command (Committing sending stamp place) = IsAttached s command sending × ((is_accepted_place sending.places place ≡ true) ⊎ (length sending.places ≤ place))
SendShape s command phase = ⊤

-- every open SEND of a state has the shape of its phase
pub record SendsRight (s : State) : Type 0 where
  pub shape : (p : ℕ) (d : DriverPart) (doing : Doing) → IsDriver s p d → d.doing ≡ Some doing → SendShape s doing.command doing.phase
