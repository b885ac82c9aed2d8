-- The lines of a report, without their line feeds, and which of them may stand where.
use Rattle.std.specs.Prelude.{◌≡◌, ℕ, ◌+◌, ◌-◌, ◌<◌, ◌≤◌, List, [], ◌++◌, codes, Option, Result, Ok, Err, slice_get}
use Rattle.std.specs.Fmt.{decimal}
use Rattle.b1_model.specs.Versions.{version_of, version_number, cookies_of}
use Rattle.b1_model.specs.declared.records.Call.{Call}
use Rattle.b1_model.specs.declared.version.Version.{Version}
use Rattle.b1_text_words.specs.Commands.{command_text, cookie_text, IsCommand}
use Rattle.b1_text_words.specs.declared.items.Form.TheVariants.{Report}
use Rattle.b1_report_lines.specs.declared.lines.Line.{Line}
use Rattle.b1_report_lines.specs.declared.lines.Line.TheVariants as line
use Rattle.b1_report_lines.specs.declared.lines.Place.{Place}
use Rattle.b1_report_lines.specs.declared.lines.Place.TheVariants as place
use Rattle.b1_report_lines.specs.declared.unread.Stop.TheVariants.{Cut, Broken}
use Rattle.b1_report_lines.specs.declared.unread.Unread.{Unread}
use Rattle.b1_report_lines.specs.declared.unread.Unread.TheVariants.{Stopped, Memory}
use Rattle.b1_report_lines.specs.Answers.{answer_text, IsAnswer, Is64, HasFields}

-- the cookies of each peer's commands, which only a report of the second version has
abbrev pub Cookies : Type 0
Cookies = Option (List (List ℕ))

-- the cookie of the next call, where so many peers have begun, and the last of them has so many calls
abbrev pub next_cookie : Cookies → ℕ → ℕ → Option ℕ
next_cookie cookies begun calls = slice_get (cookies_of cookies (begun - 1)) calls

-- a call that a report of this version can have, whose numbers fit
pub record IsCall (version : Version) (c : Call) : Type 0 where
  pub command : IsCommand Report version c.command
  pub can : IsAnswer c.command c.answer
  pub fields : HasFields c.answer

-- a command and its answer
abbrev pub call_words : Call → List ℕ
call_words c = command_text c.command ++ codes " = " ++ answer_text c.command c.answer

-- the line of a call, behind its cookie, where it has one
abbrev pub call_line : Option ℕ → Call → List ℕ
call_line cookie c = cookie_text cookie ++ call_words c

-- the first line
abbrev pub header_line : Version → List ℕ
header_line version = codes "bus1 report " ++ decimal (version_number version)

-- the line at which a peer's calls begin
abbrev pub peer_line : ℕ → ℕ → ℕ → List ℕ
peer_line p epoch clock = codes "peer " ++ decimal p ++ codes " epoch " ++ decimal epoch ++ codes " clock " ++ decimal clock

-- the line that says how many peers there are
abbrev pub count_line : ℕ → List ℕ
count_line peers = codes "peers " ++ decimal peers

-- a line at its place, in a report of so many peers with these cookies
abbrev pub line_text : Cookies → ℕ → Place → Line → List ℕ
line_text cookies peers spot line.Header = header_line (version_of cookies)
line_text cookies peers spot line.Count = count_line peers
line_text cookies peers (place.Peers begun calls) (line.Peer epoch clock) = peer_line begun epoch clock
line_text cookies peers spot (line.Peer epoch clock) = []
line_text cookies peers (place.Peers begun calls) (line.Call call) = call_line (next_cookie cookies begun calls) call
line_text cookies peers spot (line.Call call) = []
line_text cookies peers spot line.End = codes "end"

-- a line that may stand there: a peer follows until all have begun, then the end may, and calls stand behind a peer
abbrev pub MayStand : Cookies → ℕ → Place → Line → Type 0
MayStand cookies peers place.Header line.Header = Unit {0}
MayStand cookies peers place.Count line.Count = Unit {0}
MayStand cookies peers (place.Peers begun calls) (line.Peer epoch clock) = (begun < peers) × (Is64 epoch × Is64 clock)
MayStand cookies peers (place.Peers begun calls) (line.Call call) = (0 < begun) × IsCall (version_of cookies) call
MayStand cookies peers (place.Peers begun calls) line.End = begun ≡ peers
MayStand cookies peers spot next = ⊥

-- where a report stands behind a line
abbrev pub next_place : Place → Line → Place
next_place place.Header next = place.Count
next_place place.Count next = place.Peers 0 0
next_place (place.Peers begun calls) (line.Peer epoch clock) = place.Peers (begun + 1) 0
next_place (place.Peers begun calls) (line.Call call) = place.Peers begun (calls + 1)
next_place (place.Peers begun calls) line.End = place.Done
next_place spot next = spot

-- no more peers have begun than there are
abbrev pub IsPlace : ℕ → Place → Type 0
IsPlace peers (place.Peers begun calls) = begun ≤ peers
IsPlace peers spot = Unit {0}

-- the bytes are a line that may stand there
pub record IsLineText (cookies : Cookies) (peers : ℕ) (spot : Place) (bytes : List ℕ) (next : Line) : Type 0 where
  pub may : MayStand cookies peers spot next
  pub spelled : bytes ≡ line_text cookies peers spot next

-- with some bytes behind them, or with none, they are such a line
pub record BeginLine (cookies : Cookies) (peers : ℕ) (spot : Place) (bytes : List ℕ) : Type 0 where
  pub rest : List ℕ
  pub next : Line
  pub whole : IsLineText cookies peers spot (bytes ++ rest) next

-- the only line that the bytes are
pub record IsOnlyLine (cookies : Cookies) (peers : ℕ) (spot : Place) (bytes : List ℕ) (next : Line) : Type 0 where
  pub is_line : IsLineText cookies peers spot bytes next
  pub only : (other : Line) → IsLineText cookies peers spot bytes other → other ≡ next

-- the line that the bytes are; else whether some line begins with them, or none does
abbrev pub TellsLineStop : Cookies → ℕ → Place → List ℕ → Unread → Type 0
TellsLineStop cookies peers spot bytes (Stopped Cut) = BeginLine cookies peers spot bytes × ((next : Line) → ¬ (IsLineText cookies peers spot bytes next))
TellsLineStop cookies peers spot bytes (Stopped Broken) = ¬ (BeginLine cookies peers spot bytes)
TellsLineStop cookies peers spot bytes Memory = Unit {0}

abbrev pub TellsLine : Cookies → ℕ → Place → List ℕ → Result Line Unread → Type 0
TellsLine cookies peers spot bytes (Ok next) = IsOnlyLine cookies peers spot bytes next
TellsLine cookies peers spot bytes (Err why) = TellsLineStop cookies peers spot bytes why

-- ---- how the line of a call with this cookie is read

abbrev pub TellsCallStop : Version → Option ℕ → List ℕ → Unread → Type 0
TellsCallStop version cookie bytes (Stopped Cut) =
    ((rest : List ℕ) × (c : Call) × (IsCall version c × (bytes ++ rest ≡ call_line cookie c))) × ((c : Call) → IsCall version c → ¬ (bytes ≡ call_line cookie c))
TellsCallStop version cookie bytes (Stopped Broken) = (rest : List ℕ) (c : Call) → IsCall version c → ¬ (bytes ++ rest ≡ call_line cookie c)
TellsCallStop version cookie bytes Memory = Unit {0}

-- the only call whose line the bytes are; else whether some call's line begins with them, or none does
abbrev pub TellsCall : Version → Option ℕ → List ℕ → Result Call Unread → Type 0
TellsCall version cookie bytes (Ok call) = (IsCall version call × (bytes ≡ call_line cookie call)) × ((other : Call) → IsCall version other → bytes ≡ call_line cookie other → other ≡ call)
TellsCall version cookie bytes (Err why) = TellsCallStop version cookie bytes why
