-- One step of what a walk along a peer's calls keeps: a name more, and where a number's line stands.
use Rattle.std.specs.Prelude.{ℕ, pred, ◌+◌, Bool, not, ◌&&◌, if◌then◌else◌, ◌==◌, List, [], ◌∷◌, ◌++◌, map, filter, Option, None, Some}
use Rattle.b1_model.specs.declared.naming.Key.{Key}
use Rattle.b1_model.specs.declared.commands.Command.{Command}
use Rattle.b1_model.specs.declared.answers.Receipt.TheVariants as rec
use Rattle.b1_model.specs.declared.answers.Answer.{Answer}
use Rattle.b1_model.specs.declared.answers.Answer.TheVariants as ans
use Rattle.b1_model.specs.Names.{Node, Name, is_own, is_known, nodes_from}
use Rattle.b1_model.specs.Ledger.{Line, Table, has_line, received, named, destroy_numbers}

-- the names with one number more, if it is an own one that isn't known yet
abbrev pub with_name : ℕ → ℕ → List Name → List Name
with_name e n known = if is_own n && not (is_known n known) then known ++ record { number = n; epoch = e } ∷ [] else known

-- a line with one less that is held; none where it was the last
abbrev pub less_held : Line → Option Line
less_held l = if l.held == 1 then None else Some (record l { held = pred l.held })

-- the nodes of p's names but those that are gone
abbrev pub live : (Node → Bool) → ℕ → List Name → List Node
live gone p known = filter (λ x. not (gone x)) (nodes_from p 0 known)

-- the nodes that a call of p destroys, if it is a destruction, where p has destroyed those that are gone
abbrev pub doomed_by : ℕ → List Name → Table → (Node → Bool) → Command → Answer → Option (List (Option Node))
doomed_by p known t gone c (ans.Destroyed stamp) = Some (map (named p known t) (destroy_numbers c))
doomed_by p known t gone c (ans.Reset (Some stamp)) = Some (map Some (live gone p known))
doomed_by p known t gone c a = None

-- the slots of a message receipt, by a look-up of the slots of a key; none of any other answer
abbrev pub slots_for : (Key → List (Option Node)) → Answer → List (Option Node)
slots_for look (ans.Got (rec.Message key number offset handles payload)) = look key
slots_for look a = []

-- a table with the lines that were made beside it
abbrev pub beside : Table → Table → Table
beside t made = record { lines = t.lines ++ made.lines; given = t.given + made.given }

-- the lines beside a table after a number with the node x was received
abbrev pub received_beside : ℕ → Option Node → Table → Table → Table
received_beside n x t made = if has_line n t.lines then made else received n x made
