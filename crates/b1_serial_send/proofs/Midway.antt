-- The state in the midst of a SEND while no other driver does a step: each peer's part is what it
-- was at rest, changed by the events that are done, and the driver is in a phase of the SEND.
use Rattle.std.specs.Prelude.{ℕ, ◌+◌, ◌==◌, if◌then◌else◌, List, [], ◌∷◌, Option, None, Some}
use Rattle.std.specs.Prelude.{map, set, fold}
use Rattle.b1_model.specs.declared.naming.NodeRef.{NodeRef}
use Rattle.b1_model.specs.declared.commands.SendCmd.{SendCmd}
use Rattle.b1_model.specs.declared.commands.Command.TheVariants as cmd
use Rattle.b1_model.specs.declared.parts.Slot.{Slot}
use Rattle.b1_model.specs.declared.answers.Reason.{Reason}
use Rattle.b1_model.specs.declared.events.Phase.{Phase}
use Rattle.b1_model.specs.MachineParts.{PeerPart, DriverPart, State}
use Rattle.b1_model.specs.MachineSend.{begun_part, staged, unstaged, attached, synced, committed}
use Rattle.b1_serial_bus.specs.Letters.{Letter}

-- ---- at which part an event is

-- a change of peer q's part
abbrev pub at_part : ℕ → (PeerPart → PeerPart) → PeerPart → PeerPart
at_part q f x = if q == x.me then f x else x

-- destinations and what they answered: a refusal, or nothing where they accepted
abbrev pub Answered : Type 0
Answered = List (NodeRef × Option Reason)

-- what the accepted ones do to a part, each with its place, from a place on
abbrev pub over : (ℕ → NodeRef → PeerPart → PeerPart) → ℕ → Answered → PeerPart → PeerPart
over f place [] x = x
over f place ((to, Some r) ∷ rest) x = over f (place + 1) rest x
over f place ((to, None) ∷ rest) x = over f (place + 1) rest (f place to x)

-- ---- what the events do

-- the sender has made its nodes
abbrev pub with_begin : ℕ → SendCmd → PeerPart → PeerPart
with_begin p c x = at_part p (λ y. begun_part y c) x

-- the letter is staged at a place, for a node
abbrev pub stage_at : Letter → ℕ → NodeRef → PeerPart → PeerPart
stage_at s place to x =
    at_part to.owner (λ y. staged y s.origin s.user place to.serial s.payload s.with) x

-- what was staged at a place is taken back
abbrev pub unstage_at : ℕ → ℕ → NodeRef → PeerPart → PeerPart
unstage_at p place to x = at_part to.owner (λ y. unstaged y p place) x

-- a carried node is attached for a destination
abbrev pub attach_at : ℕ → NodeRef → PeerPart → PeerPart
attach_at dest node x = at_part node.owner (λ y. attached y node.serial dest) x

-- several are, for the place of a node
abbrev pub attach_all : List NodeRef → ℕ → NodeRef → PeerPart → PeerPart
attach_all nodes place to x = fold (λ y node. attach_at to.owner node y) x nodes

-- the sender's clock is the stamp
abbrev pub stamp_at : ℕ → ℕ → PeerPart → PeerPart
stamp_at p stamp x = at_part p (λ y. record y { clock = stamp }) x

-- the clock of a node's owner is the stamp, or greater
abbrev pub sync_at : ℕ → ℕ → NodeRef → PeerPart → PeerPart
sync_at stamp place to x = at_part to.owner (λ y. synced y stamp) x

-- the letter is committed at a place of a node, with the slots for its owner
abbrev pub commit_at : ℕ → ℕ → (ℕ → List Slot) → ℕ → NodeRef → PeerPart → PeerPart
commit_at p stamp slots place to x =
    at_part to.owner (λ y. committed y p place stamp (slots to.owner)) x

-- ---- the state

-- driver's part d in a phase of a SEND
abbrev pub sending_driver : DriverPart → SendCmd → Phase → DriverPart
sending_driver d c phase =
    record d { doing = Some (record { command = cmd.Send c; phase = phase }); owed = [] }

-- a state at rest, where driver p's part is another one, and each peer's part has changed
abbrev pub midway : State → ℕ → DriverPart → (PeerPart → PeerPart) → State
midway s p d f = record { peers = map f s.peers; drivers = set s.drivers p d }
