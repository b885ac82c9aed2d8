-- The first call that doesn't keep what is asked, among those that are tried.
use Rattle.std.specs.Prelude.{◌≡◌, ℕ, ◌<◌, ◌≤◌, length, Option, Some, None}
use Rattle.b1_model.specs.declared.records.Record.{Record}
use Rattle.b1_model.specs.Names.{calls_of}

-- call k of p
abbrev pub IsCall : Record → ℕ → ℕ → Type 0
IsCall r p k = (p < length r.peers) × (k < length (calls_of r p))

-- call k of p, or the end of p's calls
abbrev pub IsCallOrEnd : Record → ℕ → ℕ → Type 0
IsCallOrEnd r p k = (p < length r.peers) × (k ≤ length (calls_of r p))

-- the end of p's calls
abbrev pub IsEnd : Record → ℕ → ℕ → Type 0
IsEnd r p k = (p < length r.peers) × (k ≡ length (calls_of r p))

-- k is tried, and isn't kept, and what is tried below it is kept
pub record IsFirst (Tries Keeps : ℕ → Type 0) (k : ℕ) : Type 0 where
  pub tried : Tries k
  pub broken : ¬ Keeps k
  pub below : (j : ℕ) → j < k → Tries j → Keeps j

-- the first of one peer's calls that isn't kept; none where each is
abbrev pub IsFirstCall : (ℕ → Type 0) → (ℕ → Type 0) → Option ℕ → Type 0
IsFirstCall Tries Keeps None = (k : ℕ) → Tries k → Keeps k
IsFirstCall Tries Keeps (Some k) = IsFirst Tries Keeps k

-- the first peer and call that aren't kept; none where each is
abbrev pub IsFirstPlace : (ℕ → ℕ → Type 0) → (ℕ → ℕ → Type 0) → Option (ℕ × ℕ) → Type 0
IsFirstPlace Tries Keeps None = (p k : ℕ) → Tries p k → Keeps p k
IsFirstPlace Tries Keeps (Some found) = IsFirst (Tries found.0) (Keeps found.0) found.1 × ((p k : ℕ) → p < found.0 → Tries p k → Keeps p k)
