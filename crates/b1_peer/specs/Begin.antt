-- The nodes that a begun SEND makes, and the room that it takes before.
use Rattle.std.specs.Prelude.{◌≡◌, ℕ, ◌+◌, ◌≤◌, if◌then◌else◌, List, Option, Some, None, filter, fold, length}
use Rattle.std.specs.Bool.{then_some}
use Rattle.b1_model.specs.declared.answers.Reason.{Reason}
use Rattle.b1_model.specs.declared.answers.Reason.TheVariants as reason
use Rattle.b1_model.specs.Names.{is_own}
use Rattle.b1_model.specs.MachineParts.{NodePart, HandleRecord, is_destroyed}
use Rattle.b1_model.specs.MachineTables.{with_made}
use Rattle.b1_nodes.specs.Nodes.{Nodes, node_in}
use Rattle.b1_peer_queue.specs.Mail.{Mail}

-- a node is made for an own number that names none
abbrev pub one_made : ℕ → ℕ → List NodePart → List NodePart
one_made peers number nodes = if is_own number then with_made peers number nodes else nodes

-- the same for each of several numbers
abbrev pub all_made : ℕ → List ℕ → List NodePart → List NodePart
all_made peers numbers nodes = fold (λ made number. with_made peers number made) nodes (filter is_own numbers)

-- only room is gained
pub record MoreNodes (mail new_mail : Mail) (nodes new_nodes : Nodes) : Type 0 where
  pub mail_same : new_mail ≡ record mail { spare = new_mail.spare }
  pub mail_more : mail.spare ≤ new_mail.spare
  pub nodes_same : new_nodes ≡ record nodes { spare = new_nodes.spare }

-- there is room for so many more nodes, and for all notices
pub record EnoughNodes (more records : ℕ) (mail : Mail) (nodes : Nodes) : Type 0 where
  pub notices : length nodes.nodes + more + records ≤ mail.spare
  pub places : more ≤ nodes.spare

-- the refusal of an own number, by its serial
abbrev pub own_reason : ℕ → Option ℕ → List NodePart → Option Reason
own_reason me None nodes = None
own_reason me (Some serial) nodes = then_some (is_destroyed (node_in nodes serial).state) (reason.Gone me serial)

-- the refusal of a given number, by the record that holds it
abbrev pub held_reason : Option HandleRecord → Option Reason
held_reason None = None
held_reason (Some h) = then_some h.dead (reason.Gone h.node.owner h.node.serial)
