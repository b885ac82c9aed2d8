-- Given numbers: each record that is held has one of its own, and no other record has one.
use Rattle.std.specs.Prelude.{◌≡◌, ◌<◌, ◌≤◌, ℕ, List, None, Some}
use Rattle.b1_model.specs.MachineParts.{PeerPart, HandleRecord, State}
use Rattle.b1_model.specs.MachineTables.{next_number}
use Rattle.b1_step.specs.Rights.{Has}
use Rattle.b1_inv.specs.Words.{IsPeer}

-- a number that was given, of so many
abbrev pub WasGiven : ℕ → ℕ → Type 0
WasGiven given number = (g : ℕ) × (g < given) × (number ≡ next_number g)

-- the records of one part: which have a number, and that no two nodes have the same
pub record AreNumbered (given : ℕ) (handles : List HandleRecord) : Type 0 where
  pub unheld : (h : HandleRecord) → Has handles h → h.number ≡ None → h.held ≡ 0
  pub held : (h : HandleRecord) (number : ℕ) → Has handles h → h.number ≡ Some number → (1 ≤ h.held) × WasGiven given number
  pub apart : (h k : HandleRecord) (number : ℕ) → Has handles h → Has handles k → h.number ≡ Some number → k.number ≡ Some number → h.node ≡ k.node

-- the records of every peer are numbered
pub record NumbersRight (s : State) : Type 0 where
  pub numbered : (q : ℕ) (x : PeerPart) → IsPeer s q x → AreNumbered x.given x.handles
