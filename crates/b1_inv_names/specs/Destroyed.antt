-- Destroyed nodes over a step.
use Rattle.std.specs.Prelude.{◌≡◌, ◌<◌, ℕ, true, length}
use Rattle.b1_model.specs.MachineParts.{PeerPart, State, is_destroyed, node_at}
use Rattle.b1_inv.specs.Words.{IsPeer}

-- a destroyed node stays destroyed, with its serial
abbrev pub DestroyedStay : State → State → Type 0
DestroyedStay s t = (q serial : ℕ) (x y : PeerPart) → IsPeer s q x → IsPeer t q y → serial < length x.nodes → is_destroyed (node_at x serial).state ≡ true → is_destroyed (node_at y serial).state ≡ true
