-- What each step on the table of locks does to a seat, and what it tells.
use Rattle.std.specs.Prelude.{◌≡◌, ◌≢◌, ℕ, ◌+◌, ◌<◌, ◌≤◌, true, false, List, [], ◌∷◌, ◌++◌, take, drop, length, slice_get, Option, Some, None}
use Rattle.atomic_table.specs.Table.{Me, Step as TableStep, rest}
use Rattle.b1_model.specs.declared.naming.Opening.{Opening}
use Rattle.b1_model.specs.declared.commands.Command.{Command}
use Rattle.b1_model.specs.declared.events.Action.{Action}
use Rattle.b1_model.specs.Opening.{IsOpening}
use Rattle.b1_model.specs.MachineParts.{PeerPart, State}
use Rattle.b1_model.specs.MachineStep.{LocalStep, Reached, target}
use Rattle.b1_peer.specs.Seen.{PeerSeen}
use Rattle.b1_event.specs.Borne.{AreShort, call_limit}
use Rattle.b1_event.specs.Events.{HasUsers}
use Rattle.b1_rule.specs.Known.{Holding}
use Rattle.b1_rule.specs.Rule.{whole, IsHeld}
use Rattle.b1_rule.specs.declared.view.View.{View}

-- a seat: its view, and the peers' states that are out with it
abbrev pub Sat : Type 0
Sat = Me PeerSeen View

-- a view that has parts and names a peer
abbrev pub naming : Opening → List Holding → ℕ → PeerPart → View
naming o held q x = record { opening = o; parts = held; named = Some (record { peer = q; part = x }); spent = false }

-- a driver's seat between two events
abbrev pub resting : Opening → Holding → Sat
resting o h = (whole o (h ∷ []), [])

-- ---- splits and joins

-- a view without its first part
abbrev pub first_left : View → View
first_left v = whole v.opening (drop 1 v.parts)

-- a view of its first part alone
abbrev pub first_given : View → View
first_given v = whole v.opening (take 1 v.parts)

-- a view with another's parts behind its own
abbrev pub joined : View → View → View
joined v w = whole v.opening (v.parts ++ w.parts)

-- what the other is left with
abbrev pub spent : View
spent = record { opening = record { first_clock = 0; peers = []; wires = [] }; parts = []; named = None; spent = true }

-- ---- take

-- the parts of a view and a peer's part stand in one reached state whose drivers' lists are short
pub record Stands (v : View) (q : ℕ) (x : PeerPart) : Type 0 where
  pub state : State
  pub opening : IsOpening v.opening
  pub reached : Reached v.opening state
  pub short : AreShort state
  pub driver : (i : ℕ) (h : Holding) → slice_get v.parts i ≡ Some h → IsHeld state h
  pub peer : slice_get state.peers q ≡ Some x

-- a seat has the lock of peer q: it has the peer's state, and names the peer with the part that it found
pub record Took (m : Sat) (q : ℕ) (n : Sat) : Type 0 where
  pub seen : PeerSeen
  pub after : n ≡ (naming m.0.opening m.0.parts q seen.part, (q, seen) ∷ m.1)
  pub stands : Stands m.0 q seen.part
  pub users : HasUsers m.0.opening seen.users

-- where the word was 0 the lock is taken; else nothing changed
abbrev pub took : TableStep PeerSeen → Sat → ℕ → Sat → Type 0
took step m found n = (found ≡ 0 → Took m step.word n) × (found ≢ 0 → n ≡ m)

-- ---- store

-- a driver's part and a peer's part change by one step of the machine, whose event is at peer q; the driver's list stays short, its room is still enough, and the peer's users stay
pub record Changes (o : Opening) (h : Holding) (q : ℕ) (x : PeerPart) (e : Holding) (y : PeerSeen) : Type 0 where
  pub command : Option Command
  pub action : Action
  pub aims : target h.part command ≡ Some (action, q)
  pub local : LocalStep o command h.part x e.part y.part
  pub short : length e.part.calls < call_limit
  pub room : h.room ≤ e.room
  pub nodes : length y.part.nodes + h.room ≤ length x.nodes + e.room
  pub users : HasUsers o y.users

-- the lock is given back: the view has the new part alone and names no peer, and the peer's state is at home
abbrev pub stored : Holding → TableStep PeerSeen → Sat → ℕ → Sat → Type 0
stored e step m found n = n ≡ (whole m.0.opening (e ∷ []), rest m.1)
