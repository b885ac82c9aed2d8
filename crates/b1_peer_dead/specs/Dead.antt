-- What contracts see of a list of references to be given up.
use Rattle.std.specs.Prelude.{ℕ, Bool, true, false, List, [], ◌∷◌}
use Rattle.b1_model.specs.declared.naming.NodeRef.{NodeRef}
use Rattle.b1_peer_dead.specs.Buffers.{StackSeen}

-- the items, how many more can come in with no memory, how many are being made, how many buffers for one reference there are, and the stacks of buffers for several
pub record DeadSeen : Type 0 where
  pub items : List (List (NodeRef × ℕ))
  pub room : ℕ
  pub lent : ℕ
  pub singles : ℕ
  pub stacks : List StackSeen

-- whether references are to be given up
abbrev pub has_items : List (List (NodeRef × ℕ)) → Bool
has_items [] = false
has_items (item ∷ rest) = true
