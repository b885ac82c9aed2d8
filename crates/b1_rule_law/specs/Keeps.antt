-- What each kind of step on the table of locks keeps.
use Rattle.std.specs.Prelude.{◌≡◌, ℕ, ◌<◌, ◌≤◌, ◌==◌, false, List, [], ◌∷◌, length, slice_get, slice_index, Some, None}
use mathlib.Core.Option.{none}
use prog.Atomic.{either}
use Rattle.atomic_table.specs.Table.{step, opening, Allows, Splits, Joins, Final, Seen}
use Rattle.b1_model.specs.declared.naming.Opening.{Opening}
use Rattle.b1_model.specs.Opening.{IsOpening}
use Rattle.b1_model.specs.MachineParts.{PeerPart, State}
use Rattle.b1_model.specs.MachineStep.{Reached}
use Rattle.b1_peer.specs.Seen.{PeerSeen}
use Rattle.b1_driver.specs.Parts.{Driver}
use Rattle.b1_event.specs.Borne.{AreShort}
use Rattle.b1_event.specs.Events.{HasUsers}
use Rattle.b1_rule.specs.Known.{Holding}
use Rattle.b1_rule.specs.Rule.{held_by, state_of, whole, Kept, LedTo}
use Rattle.b1_rule.specs.Plays.{first_given, first_left, joined, naming, spent, stored, took, Changes, Sat}
use Rattle.b1_rule.specs.declared.view.View.{View}

-- peers and drivers with which a table can be made: their state is reached, the drivers' lists are short, each peer knows who may send, and each driver has room for all nodes of its peer
pub record CanBegin (o : Opening) (xs : List PeerSeen) (ds : List Driver) : Type 0 where
  pub opening : IsOpening o
  pub reached : Reached o (state_of xs ds)
  pub short : AreShort (state_of xs ds)
  pub users : (q : ℕ) (x : PeerSeen) → slice_get xs q ≡ Some x → HasUsers o x.users
  pub room : (p : ℕ) (x : PeerSeen) (d : Driver) → slice_get xs p ≡ Some x → slice_get ds p ≡ Some d → length x.part.nodes ≤ d.doomed

-- all words are 0, all peers are at home, and one seat has all drivers' parts
abbrev pub MakeKeeps : Type 0
MakeKeeps = (o : Opening) (xs : List PeerSeen) (ds : List Driver) (words : List ℕ) → CanBegin o xs ds → length words ≡ length o.peers → ((q : ℕ) → q < length o.peers → slice_index words q ≡ 0) → Kept o (state_of xs ds) (opening words xs (whole o (held_by ds)))

-- a seat that names no peer gives its first part to a new seat
abbrev pub SplitKeeps : Type 0
SplitKeeps = (o : Opening) (first : State) (id : ℕ) (v : View) → v.named ≡ None → v.spent ≡ false → Splits (Kept o first) id v (first_left v) (first_given v)

-- a seat that names no peer takes over the parts of another such seat, which is spent
abbrev pub JoinKeeps : Type 0
JoinKeeps = (o : Opening) (first : State) (id : ℕ) (v : View) (other : ℕ) (w : View) → v.named ≡ None → v.spent ≡ false → w.named ≡ None → Joins (Kept o first) id v other w (joined v w) spent

-- a seat that has one driver's part and names no peer tries to take the lock of a peer
abbrev pub TakeKeeps : Type 0
TakeKeeps = (o : Opening) (first : State) (slots id : ℕ) (m : Sat) (q : ℕ) → m.0.named ≡ None → m.0.spent ≡ false → length m.0.parts ≡ 1 → q < slots → Allows (Kept o first) slots id m q (λ n. either (n == 0) 1 n) (took (step slots q 0 1 none) m)

-- the seat that names a peer gives the lock back, where the two parts have changed by one step of the machine
abbrev pub StoreKeeps : Type 0
StoreKeeps =
    (o a : Opening) (first : State) (slots id q : ℕ) (h : Holding) (x : PeerPart) (y : PeerSeen) (more : List (ℕ × PeerSeen)) (e : Holding) → Changes a h q x e y → q < slots
    → Allows (Kept o first) slots id (naming a (h ∷ []) q x, (q, y) ∷ more) q (λ _. 0) (λ _. stored e (step slots q 0 0 none) (naming a (h ∷ []) q x, (q, y) ∷ more) 0)

-- where one seat had all drivers' parts as the table was closed, steps have led to the state of the peers that were at home with these drivers
abbrev pub CloseSettles : Type 0
CloseSettles =
    (o : Opening) (first : State) (id : ℕ) (ds : List Driver) (words : List ℕ) (ys : List PeerSeen) → length ds ≡ length o.peers → ((i : ℕ) (d : Driver) → slice_get ds i ≡ Some d → d.part.me ≡ i)
    → Final (Seen (Kept o first) id (whole o (held_by ds))) words ys → LedTo o first (state_of ys ds) × CanBegin o ys ds
