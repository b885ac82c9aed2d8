-- The rule of the table of locks: which seat has a driver's part, which locks are taken and by whom, and that all parts together are a reached state.
use Rattle.std.specs.Prelude.{◌≡◌, ◌⊎◌, ℕ, ◌+◌, ◌<◌, ◌≤◌, ◌==◌, true, false, if◌then◌else◌, List, [], ◌∷◌, map, length, slice_index, slice_get, Some, None}
use mathlib.Core.Option.{some, none}
use lib.ListN.{get_elem?}
use Rattle.atomic_table.specs.Table.{State as Table}
use Rattle.b1_model.specs.declared.naming.Opening.{Opening}
use Rattle.b1_model.specs.Opening.{IsOpening}
use Rattle.b1_model.specs.MachineParts.{PeerPart, State}
use Rattle.b1_model.specs.MachineStep.{Label, Leads, Reached}
use Rattle.b1_peer.specs.Seen.{PeerSeen}
use Rattle.b1_driver.specs.Parts.{Driver}
use Rattle.b1_event.specs.Borne.{AreShort}
use Rattle.b1_event.specs.Events.{HasUsers}
use Rattle.b1_rule.specs.Known.{Found, Holding}
use Rattle.b1_rule.specs.declared.view.View.{View}

-- steps lead from one state to another
pub record LedTo (o : Opening) (s t : State) : Type 0 where
  pub steps : List Label
  pub run : Leads o s steps t

-- the state of these peers and drivers
abbrev pub state_of : List PeerSeen → List Driver → State
state_of xs ds = record { peers = map (λ x. x.part) xs; drivers = map (λ d. d.part) ds }

-- f of each of a list, added up
abbrev pub total : {A : Type 0} → (A → ℕ) → List A → ℕ
total f [] = 0
total f (x ∷ xs) = f x + total f xs

-- how often driver p's part is among these
abbrev pub times : ℕ → List Holding → ℕ
times p held = total (λ h. if h.part.me == p then 1 else 0) held

-- 1 where a view names peer q
abbrev pub names_peer : ℕ → View → ℕ
names_peer q v = elim v.named [ None ↦ 0 | Some f ↦ if f.peer == q then 1 else 0 ]

-- a view that has parts and names no peer
abbrev pub whole : Opening → List Holding → View
whole o held = record { opening = o; parts = held; named = None; spent = false }

-- what a seat has of a driver
abbrev pub holding : Driver → Holding
holding d = record { part = d.part; room = d.doomed }

-- and of several
abbrev pub held_by : List Driver → List Holding
held_by ds = map holding ds

-- a driver's part is that of the state, and its room is enough for all nodes that were made at its peer
pub record IsHeld (s : State) (h : Holding) : Type 0 where
  pub part : slice_get s.drivers h.part.me ≡ Some h.part
  pub room : (x : PeerPart) → slice_get s.peers h.part.me ≡ Some x → length x.nodes ≤ h.room

-- what a view says is so: it has this opening, its drivers' parts are those of the state, and the part of the peer that it names too; where it names one it has one driver's part; a spent one has nothing
pub record Knows (o : Opening) (s : State) (v : View) : Type 0 where
  pub opening : v.spent ≡ false → v.opening ≡ o
  pub spent : v.spent ≡ true → (v.parts ≡ []) × (v.named ≡ None)
  pub driver : (i : ℕ) (h : Holding) → slice_get v.parts i ≡ Some h → IsHeld s h
  pub peer : (f : Found) → v.named ≡ Some f → slice_get s.peers f.peer ≡ Some f.part
  pub one : (f : Found) → v.named ≡ Some f → length v.parts ≡ 1

-- the lock of peer q is free: its word is 0, no view names it, and its state is at home and stands for its part
pub record IsFree (o : Opening) (s : State) (t : Table PeerSeen View) (q : ℕ) : Type 0 where
  pub word : slice_index t.words q ≡ 0
  pub unnamed : total (names_peer q) t.views ≡ 0
  pub seen : PeerSeen
  pub home : get_elem? t.homes q ≡ some (some seen)
  pub part : slice_get s.peers q ≡ Some seen.part
  pub users : HasUsers o seen.users

-- the lock of peer q is taken: its word is 1, one view names it, and its state is not at home
pub record IsTaken (t : Table PeerSeen View) (q : ℕ) : Type 0 where
  pub word : slice_index t.words q ≡ 1
  pub named : total (names_peer q) t.views ≡ 1
  pub out : get_elem? t.homes q ≡ some none

-- the rule of a table that was made in a reached state: steps lead from there to a state whose drivers' lists are short, with which all views and all peers at home agree; each driver's part is in one view, once; and each lock is free or taken
pub record Kept (o : Opening) (first : State) (t : Table PeerSeen View) : Type 0 where
  pub state : State
  pub opening : IsOpening o
  pub begun : Reached o first
  pub led : LedTo o first state
  pub short : AreShort state
  pub wide : length t.words ≡ length o.peers
  pub deep : length t.homes ≡ length o.peers
  pub view : (j : ℕ) (v : View) → get_elem? t.views j ≡ some v → Knows o state v
  pub driver : (p : ℕ) → p < length o.peers → total (λ v. times p v.parts) t.views ≡ 1
  pub peer : (q : ℕ) → q < length o.peers → IsFree o state t q ⊎ IsTaken t q
