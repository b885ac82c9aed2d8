-- What a peer's numbers name: own numbers its nodes, given numbers the nodes of its lines.
use Rattle.std.specs.Prelude.{ℕ, ◌==◌, if◌then◌else◌, List, [], ◌∷◌, ◌++◌, Option, None, Some}
use Rattle.std.specs.Prelude.{fold, filter, find, position}
use Rattle.b1_model.specs.declared.naming.NodeRef.{NodeRef}
use Rattle.b1_model.specs.Names.{is_own}
use Rattle.b1_model.specs.MachineParts.{same_ref}
use Rattle.b1_serial_bus.specs.Parts.{OwnNode, HeldLine, Part}

-- the serial of the node with an own number
abbrev pub serial_of : ℕ → List OwnNode → Option ℕ
serial_of number nodes = position (λ n. n.number == number) nodes

-- the line with a given number
abbrev pub line_numbered : ℕ → List HeldLine → Option HeldLine
line_numbered number lines = find (λ l. l.number == number) lines

-- the line of a node
abbrev pub line_of : NodeRef → List HeldLine → Option HeldLine
line_of x lines = find (λ l. same_ref l.node x) lines

-- the node that an own number names
abbrev pub own_node : Part → ℕ → Option NodeRef
own_node x number = elim (serial_of number x.nodes) [
  | None ↦ None
  | Some serial ↦ Some (record { owner = x.me; serial = serial })
]

-- the node that a given number names
abbrev pub held_node : Part → ℕ → Option NodeRef
held_node x number = elim (line_numbered number x.lines) [ None ↦ None | Some l ↦ Some l.node ]

-- the node that a number names
abbrev pub node_named : Part → ℕ → Option NodeRef
node_named x number = if is_own number then own_node x number else held_node x number

-- an own number that names nothing gets a node
abbrev pub with_made : List OwnNode → ℕ → List OwnNode
with_made nodes number = elim (serial_of number nodes) [
  | None ↦ nodes ++ record { number = number; destroyed = None } ∷ []
  | Some serial ↦ nodes
]

-- the own numbers among these get nodes where they name nothing, in their order
abbrev pub making : List ℕ → Part → Part
making numbers x = record x { nodes = fold with_made x.nodes (filter is_own numbers) }
