-- The report of a record, a function of it.
use Rattle.std.specs.Prelude.{ℕ, List, [], ◌∷◌, ◌++◌, Option, None, Some, length, codes, All}
use Rattle.std.specs.Fmt.{decimal}
use Rattle.std.specs.List.{flat_map, enumerate_from}
use Rattle.b1_model.specs.Versions.{version_of, version_number, cookies_of}
use Rattle.b1_model.specs.declared.commands.Command.{Command}
use Rattle.b1_model.specs.declared.commands.Command.TheVariants as cmd
use Rattle.b1_model.specs.declared.records.Call.{Call}
use Rattle.b1_model.specs.declared.records.PeerCalls.{PeerCalls}
use Rattle.b1_model.specs.declared.records.Record.{Record}
use Rattle.b1_model.specs.declared.version.Version.{Version}
use Rattle.b1_model.specs.declared.version.Version.TheVariants.{One}
use Rattle.b1_text_words.specs.declared.items.Form.TheVariants as forms
use Rattle.b1_text_words.specs.Commands.{command_text, cookie_text, HasWords}
pub use Rattle.b1_report_lines.specs.Answers.{answer_text, IsAnswer}
pub use Rattle.b1_report_lines.specs.Lines.{Cookies}

-- the line of a call, behind its cookie, where it has one
abbrev pub call_text : Option ℕ → Call → List ℕ
call_text cookie c = cookie_text cookie ++ (command_text c.command ++ codes " = " ++ answer_text c.command c.answer ++ codes "\n")

-- a line for each call; the first calls have these cookies
abbrev pub calls_text : List ℕ → List Call → List ℕ
calls_text cookies [] = []
calls_text [] (c ∷ calls) = call_text None c ++ calls_text [] calls
calls_text (n ∷ cookies) (c ∷ calls) = call_text (Some n) c ++ calls_text cookies calls

-- the first line of a peer
abbrev pub peer_line : ℕ → PeerCalls → List ℕ
peer_line p x = codes "peer " ++ decimal p ++ codes " epoch " ++ decimal x.epoch ++ codes " clock " ++ decimal x.clock ++ codes "\n"

-- a peer with its calls
abbrev pub peer_text : Cookies → ℕ × PeerCalls → List ℕ
peer_text cookies (p, x) = peer_line p x ++ calls_text (cookies_of cookies p) x.calls

-- each peer, in the order of their numbers
abbrev pub peers_text : Cookies → List PeerCalls → List ℕ
peers_text cookies xs = flat_map (peer_text cookies) (enumerate_from 0 xs)

-- what stands before the peers
abbrev pub head_text : Version → ℕ → List ℕ
head_text version peers = codes "bus1 report " ++ decimal (version_number version) ++ codes "\npeers " ++ decimal peers ++ codes "\n"

-- the report: without cookies of the first version, and with the cookies of each peer's commands of the second
abbrev pub report_text : Cookies → Record → List ℕ
report_text cookies r = head_text (version_of cookies) (length r.peers) ++ peers_text cookies r.peers ++ codes "end\n"

-- a command that a report of this version has words for: an AWAIT that ended stands there as a RECV, and a PEER_RESET
-- without flush has words in the second version alone
abbrev pub IsWritten : Version → Command → Type 0
IsWritten One (cmd.Limit limits) = ⊥
IsWritten version command = HasWords forms.Report command

-- a call that has a line of its own
abbrev pub HasSpelling : Version → Call → Type 0
HasSpelling version c = IsWritten version c.command × IsAnswer c.command c.answer

-- each call has a line of its own
abbrev pub AllSpelled : Version → List Call → Type 0
AllSpelled version calls = All (HasSpelling version) calls

-- each call of each peer has a line of its own
abbrev pub EachSpelled : Version → List PeerCalls → Type 0
EachSpelled version peers = All (λ x. AllSpelled version x.calls) peers
