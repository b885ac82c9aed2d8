-- Lines of a report, one behind the other.
use Rattle.std.specs.Prelude.{◌≡◌, ℕ, ◌+◌, ◌^◌, ◌<◌, ◌⊎◌, List, [], ◌∷◌, ◌++◌, length, Option, Some, None, Result, Ok, Err}
use Rattle.b1_errs.specs.declared.Cause.TheVariants.{Line}
use Rattle.b1_errs.specs.declared.NotRead.{NotRead}
use Rattle.b1_errs.specs.declared.NotRead.TheVariants.{Bad, Memory}
use Rattle.b1_model.specs.declared.records.Call.{Call}
use Rattle.b1_model.specs.declared.records.PeerCalls.{PeerCalls}
use Rattle.b1_report_lines.specs.declared.lines.Line as lines
use Rattle.b1_report_lines.specs.declared.lines.Line.TheVariants as line
use Rattle.b1_report_lines.specs.declared.lines.Place.{Place}
use Rattle.b1_report_lines.specs.declared.lines.Place.TheVariants as place
use Rattle.b1_report_lines.specs.declared.unread.Stop.TheVariants.{Cut}
use Rattle.b1_report_lines.specs.declared.unread.Unread.{Unread}
use Rattle.b1_report_lines.specs.declared.unread.Unread.TheVariants as unread
use Rattle.b1_report_lines.specs.Lines.{Cookies, line_text, next_place, IsOnlyLine, BeginLine}
use Rattle.b1_report.specs.declared.drafts.Draft.{Draft}

-- lines that lead from one place to another, each of them the only line that its bytes are
abbrev pub IsRun : Cookies → ℕ → Place → List lines.Line → Place → Type 0
IsRun cookies peers spot [] end = spot ≡ end
IsRun cookies peers spot (l ∷ ls) end = IsOnlyLine cookies peers spot (line_text cookies peers spot l) l × IsRun cookies peers (next_place spot l) ls end

-- their text
abbrev pub run_text : Cookies → ℕ → Place → List lines.Line → List ℕ
run_text cookies peers spot [] = []
run_text cookies peers spot (l ∷ ls) = line_text cookies peers spot l ++ 10 ∷ run_text cookies peers (next_place spot l) ls

-- the bytes are these lines, to the end of a report
pub record AreAllLines (cookies : Cookies) (peers : ℕ) (bytes : List ℕ) (ls : List lines.Line) : Type 0 where
  pub run : IsRun cookies peers place.Header ls place.Done
  pub same : bytes ≡ run_text cookies peers place.Header ls

-- a place behind which one more peer, or one more call, is still counted
abbrev pub CanFollow : Place → lines.Line → Type 0
CanFollow (place.Peers begun calls) (line.Peer epoch clock) = begun + 1 < 2 ^ 32
CanFollow (place.Peers begun calls) (line.Call call) = calls + 1 < 2 ^ 64
CanFollow spot next = Unit {0}

-- why the last line, which has no line feed, isn't whole
abbrev pub TellsUnfinished : Cookies → ℕ → Place → List ℕ → ℕ → NotRead → Type 0
TellsUnfinished cookies peers spot left at (Bad place Line) = ((place ≡ at) × ¬ (BeginLine cookies peers spot left)) ⊎ ((place ≡ at + length left) × BeginLine cookies peers spot left)
TellsUnfinished cookies peers spot left at (Bad place cause) = ⊥
TellsUnfinished cookies peers spot left at Memory = Unit {0}

-- a last line that could be whole with a line feed is cut too
abbrev pub cut_short : Result lines.Line Unread → Unread
cut_short (Ok next) = unread.Stopped Cut
cut_short (Err why) = why

-- of a line that is whole
abbrev pub line_fault : ℕ → Unread → NotRead
line_fault at (unread.Stopped stop) = Bad at Line
line_fault at unread.Memory = Memory

-- the calls at the front of lines, and the peers behind them
abbrev pub front_calls : List lines.Line → List Call
front_calls [] = []
front_calls (line.Peer epoch clock ∷ ls) = []
front_calls (line.Call call ∷ ls) = call ∷ front_calls ls
front_calls (l ∷ ls) = front_calls ls

abbrev pub gathered : List lines.Line → List PeerCalls
gathered [] = []
gathered (line.Peer epoch clock ∷ ls) = record { epoch = epoch; clock = clock; calls = front_calls ls } ∷ gathered ls
gathered (l ∷ ls) = gathered ls

-- the peer that has begun, with its calls
abbrev pub opened : Option (ℕ × ℕ) → List Call → List PeerCalls
opened None calls = []
opened (Some peer) calls = record { epoch = peer.0; clock = peer.1; calls = calls } ∷ []

-- what a draft comes to, with lines that follow
abbrev pub drafted : Draft → List lines.Line → List PeerCalls
drafted d ls = d.peers.items ++ (opened d.begun (d.calls.items ++ front_calls ls) ++ gathered ls)

-- what all lines of the bytes come to
pub record IsDrafted (cookies : Cookies) (peers : ℕ) (bytes : List ℕ) (draft : Draft) : Type 0 where
  pub all : List lines.Line
  pub are : AreAllLines cookies peers bytes all
  pub same : drafted draft [] ≡ gathered all
