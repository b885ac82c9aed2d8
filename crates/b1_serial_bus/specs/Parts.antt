-- What the plain serial bus knows of each peer.
use Rattle.std.specs.Prelude.{ℕ, zero, suc, Bool, List, [], ◌∷◌, ◌++◌, Option}
use Rattle.b1_model.specs.declared.naming.Key.{Key}
use Rattle.b1_model.specs.declared.naming.Limits.{Limits}
use Rattle.b1_model.specs.declared.naming.NodeRef.{NodeRef}
use Rattle.b1_model.specs.declared.entries.Entry.{Entry}
use Rattle.b1_model.specs.declared.commands.Command.{Command}
use Rattle.b1_model.specs.declared.answers.Answer.{Answer}
use Rattle.b1_model.specs.declared.records.Call.{Call}
use Rattle.b1_model.specs.MachineParts.{Slice}

-- a peer's own node: its number, and the stamp of its destruction, if it is destroyed
pub record OwnNode : Type 0 where
  pub number : ℕ
  pub destroyed : Option ℕ

-- a line of a peer's table: a given number, another peer's node, how often the peer holds it, and
-- whether the peer has taken the notice of its destruction
pub record HeldLine : Type 0 where
  pub number : ℕ
  pub node : NodeRef
  pub held : ℕ
  pub dead : Bool

-- a peer; `given` is how many lines were ever made, and the box has messages and notices by key
pub record Part : Type 0 where
  pub me : ℕ
  pub user : ℕ
  pub pool : ℕ
  pub limits : Limits
  pub clock : ℕ
  pub epoch : ℕ
  pub shut : Bool
  pub calls : List Call
  pub nodes : List OwnNode
  pub lines : List HeldLine
  pub given : ℕ
  pub slices : List Slice
  pub box : List (Key × Entry)

-- all peers, in the order of their numbers
abbrev pub Bus : Type 0
Bus = List Part

-- a key, by its stamp, its origin and its index
abbrev pub key_of : ℕ → ℕ → ℕ → Key
key_of stamp origin index = record { stamp = stamp; origin = origin; index = index }

-- the bus with a change of one peer
abbrev pub at_peer : ℕ → (Part → Part) → Bus → Bus
at_peer p f [] = []
at_peer zero f (x ∷ xs) = f x ∷ xs
at_peer (suc p) f (x ∷ xs) = x ∷ at_peer p f xs

-- a peer with one call more
abbrev pub called : Command → Answer → Part → Part
called command answer x =
    record x { calls = x.calls ++ record { command = command; answer = answer } ∷ [] }
