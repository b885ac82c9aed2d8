-- Scripts of version 1 as scripts of version 2.
use Rattle.std.specs.Prelude.{ℕ, List, length, map, Option, None, Some}
use Rattle.std.specs.List.{range_with_len}
use Rattle.b1_model.specs.declared.commands.Command.{Command}
use Rattle.b1_script.specs.declared.script.Script.{Script}

-- the places of a peer's commands in its list, from 0
abbrev pub places : List Command → List ℕ
places commands = range_with_len 0 (length commands)

-- a script's cookies, or where it has none each command's place
abbrev pub cookies_or_places : Option (List (List ℕ)) → List (List Command) → List (List ℕ)
cookies_or_places None lists = map places lists
cookies_or_places (Some cookies) lists = cookies

-- the script of version 2 with the same opening, commands and turns: the script itself where it has cookies
abbrev pub upgraded : Script → Script
upgraded s = record s { cookies = Some (cookies_or_places s.cookies s.commands) }
