-- What is gathered of a record, and where a walk along the calls of one of its peers stands.
use Rattle.std.specs.Prelude.{◌≡◌, ℕ, ◌==◌, List, [], take, find, slice_get, Option, None, Some}
use Rattle.b1_model.specs.declared.naming.Wire.{Wire}
use Rattle.b1_model.specs.declared.records.Call.{Call}
use Rattle.b1_model.specs.declared.records.Record.{Record}
use Rattle.b1_model.specs.Names.{Node, Name, calls_of, wired, made_in, carried_by}
use Rattle.b1_model.specs.Ledger.{Destruction, destructions_of}
use Rattle.b1_model.specs.Legal.{KeepsOrder}

-- the wires before the first call, and the record
pub record Gathered : Type 0 where
  pub wires : List Wire
  pub rec : Record

-- before call k of a peer
pub record Place : Type 0 where
  pub wires : List Wire
  pub rec : Record
  pub peer : ℕ
  pub call : ℕ

-- each peer's stamps rise
abbrev pub Rises : Record → Type 0
Rises r = (p k : ℕ) → KeepsOrder r p k

-- the nodes of a destruction, if there is one
abbrev pub nodes_in : Option Destruction → List (Option Node)
nodes_in None = []
nodes_in (Some d) = d.nodes

-- the nodes of q's destruction with this stamp; none where there is no such
abbrev pub doomed : List Wire → Record → ℕ → ℕ → List (Option Node)
doomed ws r stamp q = nodes_in (find (λ d. d.stamp == stamp) (destructions_of ws r q))

-- the names that p has before its call k begins
abbrev pub names_before : List Wire → Record → ℕ → ℕ → List Name
names_before ws r p k = made_in 0 (wired ws p) (take k (calls_of r p))

-- the carried numbers of a call, if there is one
abbrev pub carried_in : Option Call → List ℕ
carried_in None = []
carried_in (Some c) = carried_by c.command c.answer

-- p's call k carries no numbers: it is no accepted send, or p has no such call
abbrev pub CarriesNone : Record → ℕ → ℕ → Type 0
CarriesNone r p k = carried_in (slice_get (calls_of r p) k) ≡ []
