-- The names that a peer gives: its own numbers, the nodes that they name, and the epochs in which these were made.
use Rattle.std.specs.Prelude.{ℕ, suc, ◌%◌, Bool, true, false, not, ◌&&◌, if◌then◌else◌, ◌==◌, List, [], ◌∷◌, ◌++◌, map, filter, take, slice_get, Option, None, Some, is_some}
use Rattle.b1_model.specs.declared.limits.TheConstants.{INVALID}
use Rattle.b1_model.specs.declared.naming.Wire.{Wire}
use Rattle.b1_model.specs.declared.commands.Command.{Command}
use Rattle.b1_model.specs.declared.commands.Command.TheVariants as cmd
use Rattle.b1_model.specs.declared.answers.Answer.{Answer}
use Rattle.b1_model.specs.declared.answers.Answer.TheVariants as ans
use Rattle.b1_model.specs.declared.records.Call.{Call}
use Rattle.b1_model.specs.declared.records.PeerCalls.{PeerCalls}
use Rattle.b1_model.specs.declared.records.Record.{Record}

-- 2^64 - 1, which names nothing
abbrev pub invalid : ℕ
invalid = INVALID

-- a number by which a peer names a node of its own
abbrev pub is_own : ℕ → Bool
is_own n = (n % 4) == 0

-- a number that the bus gives
abbrev pub is_given : ℕ → Bool
is_given n = (n % 4) == 2

-- a node: its owner, its place among the nodes that the owner made, and the owner's epoch when it was made
pub record Node : Type 0 where
  pub owner : ℕ
  pub serial : ℕ
  pub epoch : ℕ

-- the same owner and the same place
abbrev pub same_node : Node → Node → Bool
same_node x y = (x.owner == y.owner) && (x.serial == y.serial)

-- an own number whose node was made, and in which epoch
pub record Name : Type 0 where
  pub number : ℕ
  pub epoch : ℕ

-- whether a number stands among the names
abbrev pub is_known : ℕ → List Name → Bool
is_known n [] = false
is_known n (m ∷ ms) = if n == m.number then true else is_known n ms

-- each own number that isn't known yet joins the names, with the epoch e
abbrev pub add_new : ℕ → List Name → List ℕ → List Name
add_new e known [] = known
add_new e known (n ∷ ns) = add_new e (if is_own n && not (is_known n known) then known ++ record { number = n; epoch = e } ∷ [] else known) ns

-- the names that the wires from p make
abbrev pub wired : List Wire → ℕ → List Name
wired ws p = add_new 0 [] (map (λ w. w.number) (filter (λ w. w.from == p) ws))

-- the calls of peer p, none where there is no such peer
abbrev pub calls_in : Option PeerCalls → List Call
calls_in None = []
calls_in (Some p) = p.calls

-- the calls of peer p
abbrev pub calls_of : Record → ℕ → List Call
calls_of r p = calls_in (slice_get r.peers p)

-- a reset or a disconnect that was accepted
abbrev pub is_flush : Answer → Bool
is_flush (ans.Reset stamp) = true
is_flush a = false

-- the epoch after a call
abbrev pub next_epoch : ℕ → Answer → ℕ
next_epoch e a = if is_flush a then suc e else e

-- the carried numbers of a send whose begin was accepted: it was sent, or a destination refused it
abbrev pub carried_by : Command → Answer → List ℕ
carried_by (cmd.Send s) (ans.Sent b) = s.with
carried_by (cmd.Send s) (ans.Refused b) = if is_some b.place then s.with else []
carried_by c a = []

-- the names after these calls, which begin with the names known and in epoch e
abbrev pub made_in : ℕ → List Name → List Call → List Name
made_in e known [] = known
made_in e known (c ∷ cs) = made_in (next_epoch e c.answer) (add_new e known (carried_by c.command c.answer)) cs

-- the names of p that are known once its call k has begun, in the order of their nodes' places
abbrev pub made : List Wire → Record → ℕ → ℕ → List Name
made ws r p k = made_in 0 (wired ws p) (take (suc k) (calls_of r p))

-- how often these calls flush, from e on
abbrev pub epoch_in : ℕ → List Call → ℕ
epoch_in e [] = e
epoch_in e (c ∷ cs) = epoch_in (next_epoch e c.answer) cs

-- the epoch of p before its call k
abbrev pub epoch_at : Record → ℕ → ℕ → ℕ
epoch_at r p k = epoch_in 0 (take k (calls_of r p))

-- the node of p that an own number names, where the first of the names has the place i
abbrev pub node_from : ℕ → ℕ → ℕ → List Name → Option Node
node_from p i n [] = None
node_from p i n (m ∷ ms) = if n == m.number then Some (record { owner = p; serial = i; epoch = m.epoch }) else node_from p (suc i) n ms

-- the node of p that an own number names
abbrev pub own_node : ℕ → List Name → ℕ → Option Node
own_node p known n = node_from p 0 n known

-- the nodes of these names
abbrev pub nodes_from : ℕ → ℕ → List Name → List Node
nodes_from p i [] = []
nodes_from p i (m ∷ ms) = record { owner = p; serial = i; epoch = m.epoch } ∷ nodes_from p (suc i) ms

-- the number of a name
abbrev pub name_number : Option Name → Option ℕ
name_number None = None
name_number (Some m) = Some m.number

-- the own number of the node at a place
abbrev pub number_at : List Name → ℕ → Option ℕ
number_at known i = name_number (slice_get known i)
