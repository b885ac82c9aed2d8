-- The text of a script, a function of it.
use Rattle.std.specs.Prelude.{ℕ, List, [], ◌∷◌, ◌++◌, map, Option, Some, None, codes}
use Rattle.std.specs.Fmt.{decimal}
use Rattle.std.specs.List.{flat_map, enumerate_from}
use Rattle.b1_model.specs.declared.commands.Command.{Command}
use Rattle.b1_model.specs.declared.naming.PeerSpec.{PeerSpec}
use Rattle.b1_model.specs.declared.naming.Wire.{Wire}
use Rattle.b1_model.specs.declared.version.Version.{Version}
use Rattle.b1_model.specs.Versions.{version_of, version_number}
use Rattle.b1_script.specs.declared.script.Script.{Script}
use Rattle.b1_script.specs.Spelling.{entries_of}
use Rattle.b1_text.specs.declared.statement.Entry.{Entry}
use Rattle.b1_text.specs.declared.statement.Statement.{Statement}
use Rattle.b1_text.specs.declared.statement.Statement.TheVariants as says
use Rattle.b1_text_words.specs.declared.items.Form.TheVariants.{Script as in_script}
use Rattle.b1_text_words.specs.Commands.{command_text_in, cookie_text}
use Rattle.b1_text_words.specs.Numbers.{script_handle_text, list_text}

-- a peer: user, pool and limits
abbrev pub peer_text : PeerSpec → List ℕ
peer_text p = codes "peer " ++ decimal p.user ++ codes " " ++ decimal p.pool ++ codes " " ++ decimal p.limits.entries ++ codes " " ++ decimal p.limits.bytes ++ codes " " ++ decimal p.limits.handles

-- a wire: from whom, by which number, to whom
abbrev pub wire_text : Wire → List ℕ
wire_text w = codes "wire " ++ decimal w.from ++ codes " " ++ script_handle_text w.number ++ codes " " ++ decimal w.to

-- the first line of a text of this version
abbrev pub name_text : Version → List ℕ
name_text version = codes "bus1 script " ++ decimal (version_number version)

-- a command, behind its cookie where it has one
abbrev pub entry_text : Entry → List ℕ
entry_text e = cookie_text e.cookie ++ command_text_in in_script e.command

-- what stands on the line of a statement
abbrev pub statement_text : Statement → List ℕ
statement_text (says.Name version) = name_text version
statement_text (says.Clock clock) = codes "clock " ++ decimal clock
statement_text (says.Peer p) = peer_text p
statement_text (says.Wire w) = wire_text w
statement_text (says.Commands p) = codes "commands " ++ decimal p
statement_text (says.Command e) = entry_text e
statement_text (says.Turns turns) = codes "turns " ++ list_text decimal turns

-- a line: the statement and a line feed
abbrev pub line_text : Statement → List ℕ
line_text s = statement_text s ++ codes "\n"

-- a command without a cookie, and one with its cookie
abbrev pub plain : Command → Entry
plain command = record { cookie = None; command = command }

abbrev pub marked : ℕ × Command → Entry
marked pair = record { cookie = Some pair.0; command = pair.1 }

-- one peer's commands without cookies, and with their cookies
abbrev pub plain_entries : List Command → List Entry
plain_entries commands = map plain commands

abbrev pub marked_entries : List (ℕ × Command) → List Entry
marked_entries pairs = map marked pairs

-- each peer's commands, with their cookies where there are cookies
abbrev pub entries_said : Option (List (List ℕ)) → List (List Command) → List (List Entry)
entries_said None lists = map plain_entries lists
entries_said (Some cookies) lists = map marked_entries (entries_of cookies lists)

-- one peer's commands, behind a line with its number
abbrev pub list_statements : ℕ × List Entry → List Statement
list_statements (p, entries) = says.Commands p ∷ map says.Command entries

-- each peer's commands, in the order of their numbers
abbrev pub lists_statements : List (List Entry) → List Statement
lists_statements lists = flat_map list_statements (enumerate_from 0 lists)

-- the statements before the commands
abbrev pub opening_statements : Script → List Statement
opening_statements s =
    says.Name (version_of s.cookies) ∷ says.Clock s.opening.first_clock ∷ map says.Peer s.opening.peers ++ map says.Wire s.opening.wires

-- what a script's text says, line after line
abbrev pub statements : Script → List Statement
statements s = opening_statements s ++ lists_statements (entries_said s.cookies s.commands) ++ says.Turns s.turns ∷ []

-- the text of a script
abbrev pub script_text : Script → List ℕ
script_text s = flat_map line_text (statements s)
