-- The numbers of nodes, and of the destroy notices that drivers received, are even.
use Rattle.std.specs.Prelude.{◌≡◌, ◌<◌, ◌%◌, ⊤, ℕ, length, Some}
use Rattle.b1_model.specs.declared.naming.Key.{Key}
use Rattle.b1_model.specs.declared.answers.Answer.{Answer}
use Rattle.b1_model.specs.declared.answers.Answer.TheVariants as ans
use Rattle.b1_model.specs.declared.answers.Receipt.TheVariants as receipt
use Rattle.b1_model.specs.declared.records.Call.{Call}
use Rattle.b1_model.specs.declared.entries.Entry.{Entry}
use Rattle.b1_model.specs.declared.entries.Entry.TheVariants.{OwnNotice}
use Rattle.b1_model.specs.declared.events.Doing.{Doing}
use Rattle.b1_model.specs.declared.events.Phase.{Phase}
use Rattle.b1_model.specs.declared.events.Phase.TheVariants.{Reaping}
use Rattle.b1_model.specs.MachineParts.{PeerPart, DriverPart, NodePart, State}
use Rattle.b1_step.specs.Rights.{Has}
use Rattle.b1_inv.specs.Words.{IsPeer, IsDriver}

-- the number of a destroy notice is even, so it names a node; any other answer says nothing here
abbrev pub NamesNode : Answer → Type 0
NamesNode (ans.Got (receipt.Destroyed key number)) = number % 2 ≡ 0
NamesNode got = ⊤

-- the same of the answer that a command has while it reaps
abbrev pub ReapsNode : Phase → Type 0
ReapsNode (Reaping got) = NamesNode got
ReapsNode phase = ⊤

-- a destroy notice of an own node is of one that was made
abbrev pub IsOfMade : PeerPart → Entry → Type 0
IsOfMade x (OwnNotice serial index) = serial < length x.nodes
IsOfMade x e = ⊤

-- a peer's nodes have own numbers, and the destroy notices in its queue are of its nodes
pub record NodesNumbered (x : PeerPart) : Type 0 where
  pub own : (n : NodePart) → Has x.nodes n → n.number % 4 ≡ 0
  pub noticed : (f : Key × Entry) → Has x.queue f → IsOfMade x f.1

-- the destroy notices among a driver's calls, and the one that its open command received, name nodes
pub record NoticesNamed (d : DriverPart) : Type 0 where
  pub calls : (call : Call) → Has d.calls call → NamesNode call.answer
  pub reaping : (doing : Doing) → d.doing ≡ Some doing → ReapsNode doing.phase

-- both, of all parts
pub record ReceiptsRight (s : State) : Type 0 where
  pub nodes : (q : ℕ) (x : PeerPart) → IsPeer s q x → NodesNumbered x
  pub named : (p : ℕ) (d : DriverPart) → IsDriver s p d → NoticesNamed d
