-- Which bytes are a report, and where bytes stop going on to one.
use Rattle.std.specs.Prelude.{◌≡◌, ℕ, ◌^◌, ◌<◌, ◌==◌, if◌then◌else◌, ◌⊎◌, List, [], ◌∷◌, ◌++◌, length, take, drop, Result, Ok, Err}
use Rattle.std.specs.List.{AllByRecursion}
use Rattle.b1_errs.specs.declared.Cause.TheVariants.{Line}
use Rattle.b1_errs.specs.declared.NotRead.{NotRead}
use Rattle.b1_errs.specs.declared.NotRead.TheVariants.{Bad, Memory}
use Rattle.b1_model.specs.Versions.{version_of}
use Rattle.b1_model.specs.declared.records.Call.{Call}
use Rattle.b1_model.specs.declared.records.PeerCalls.{PeerCalls}
use Rattle.b1_model.specs.declared.records.Record.{Record}
use Rattle.b1_model.specs.declared.version.Version.TheVariants.{Two}
use Rattle.b1_report_lines.specs.Answers.{HasFields}
use Rattle.b1_text_words.specs.Commands.{IsCommand}
use Rattle.b1_text_words.specs.declared.items.Form.TheVariants.{Report}
use Rattle.b1_report.specs.Report.{Cookies, EachSpelled, report_text}

-- the numbers of a call fit the fields that hold them
pub record HasCallFields (c : Call) : Type 0 where
  pub command : IsCommand Report Two c.command
  pub answer : HasFields c.answer

pub record HasPeerFields (x : PeerCalls) : Type 0 where
  pub epoch : x.epoch < 2 ^ 64
  pub clock : x.clock < 2 ^ 64
  pub calls : AllByRecursion HasCallFields x.calls

-- the numbers of a record fit the fields that hold them
abbrev pub HasRecordFields : Record → Type 0
HasRecordFields rec = AllByRecursion HasPeerFields rec.peers

-- the bytes are the report of a record of so many peers, with these cookies, in which each call has a spelling
pub record IsReport (cookies : Cookies) (peers : ℕ) (bytes : List ℕ) (rec : Record) : Type 0 where
  pub count : length rec.peers ≡ peers
  pub spelled : EachSpelled (version_of cookies) rec.peers
  pub fields : HasRecordFields rec
  pub same : bytes ≡ report_text cookies rec

-- with some bytes behind them, or with none, they are a report of so many peers
pub record CanGoOn (cookies : Cookies) (peers : ℕ) (bytes : List ℕ) : Type 0 where
  pub rest : List ℕ
  pub rec : Record
  pub whole : IsReport cookies peers (bytes ++ rest) rec

-- the first line with its line feed, or all of the bytes where they have none
abbrev pub first_line : List ℕ → List ℕ
first_line [] = []
first_line (b ∷ bs) = if b == 10 then b ∷ [] else b ∷ first_line bs

-- a number of whole lines
abbrev pub AreLines : List ℕ → Type 0
AreLines bytes = (bytes ≡ []) ⊎ ((front : List ℕ) × (bytes ≡ front ++ 10 ∷ []))

-- a line begins there; up to it the bytes can go on, and with it they can't
pub record LineBreaks (cookies : Cookies) (peers : ℕ) (bytes : List ℕ) (at : ℕ) : Type 0 where
  pub there : at < length bytes
  pub lines : AreLines (take at bytes)
  pub before : CanGoOn cookies peers (take at bytes)
  pub broken : ¬ (CanGoOn cookies peers (take at bytes ++ first_line (drop at bytes)))

-- the bytes end there; they can go on, and are no report
pub record EndsEarly (cookies : Cookies) (peers : ℕ) (bytes : List ℕ) (at : ℕ) : Type 0 where
  pub end : at ≡ length bytes
  pub before : CanGoOn cookies peers bytes
  pub short : (rec : Record) → ¬ (IsReport cookies peers bytes rec)

-- the first place behind which no report goes on
abbrev pub IsFault : Cookies → ℕ → List ℕ → ℕ → Type 0
IsFault cookies peers bytes at = LineBreaks cookies peers bytes at ⊎ EndsEarly cookies peers bytes at

abbrev pub TellsFault : Cookies → ℕ → List ℕ → NotRead → Type 0
TellsFault cookies peers bytes (Bad at Line) = IsFault cookies peers bytes at
TellsFault cookies peers bytes (Bad at cause) = ⊥
TellsFault cookies peers bytes Memory = Unit {0}

-- the record whose report the bytes are, or where they stop being one, unless memory ran out
abbrev pub TellsReport : Cookies → ℕ → List ℕ → Result Record NotRead → Type 0
TellsReport cookies peers bytes (Ok rec) = IsReport cookies peers bytes rec
TellsReport cookies peers bytes (Err why) = TellsFault cookies peers bytes why

-- this record was read, unless memory ran out
abbrev pub WasRead : Record → Result Record NotRead → Type 0
WasRead rec (Ok found) = found ≡ rec
WasRead rec (Err Memory) = Unit {0}
WasRead rec (Err (Bad at cause)) = ⊥
