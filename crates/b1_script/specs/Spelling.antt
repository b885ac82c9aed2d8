-- Script files: the one spelling of each script.
use Rattle.std.specs.Prelude.{◌≡◌, ℕ, ◌+◌, ◌%◌, ◌<◌, ◌≤◌, ◌==◌, nat_le, if◌then◌else◌, List, [], ◌++◌, length, map, zip, Option, None, Some, codes}
use Rattle.std.specs.List.{flat_map, AllByRecursion}
use Rattle.b1_model.specs.declared.commands.Command.{Command}
use Rattle.b1_model.specs.declared.naming.PeerSpec.{PeerSpec}
use Rattle.b1_model.specs.declared.naming.Wire.{Wire}
use Rattle.b1_model.specs.declared.limits.TheConstants.{FEW_PEERS, MOST_PEERS, MOST_SCRIPT, MOST_WIDE_SCRIPT}
use Rattle.b1_model.specs.declared.version.Version.{Version}
use Rattle.b1_model.specs.declared.version.Version.TheVariants.{One, Two}
use Rattle.b1_model.specs.Opening.{IsOpening}
use Rattle.b1_model.specs.Versions.{version_of, version_number}
use Rattle.b1_wire.specs.Numbers.{u32_bytes, u64_bytes}
use Rattle.b1_records.specs.Spelling.{IsWithin, IsWithin2, Is32, Is64, HasNumbers, AreLimits, Stands}
use Rattle.b1_records.specs.Spelling as records
use Rattle.b1_script.specs.declared.script.Script.{Script}

-- how many bytes stand before the first peer
abbrev pub header_len : ℕ
header_len = 40

abbrev pub peer_spelling : PeerSpec → List ℕ
peer_spelling p = u32_bytes p.user ++ u32_bytes p.pool ++ u32_bytes p.limits.entries ++ u32_bytes p.limits.bytes ++ u32_bytes p.limits.handles ++ u32_bytes 0

abbrev pub wire_spelling : Wire → List ℕ
wire_spelling w = u32_bytes w.from ++ u32_bytes w.to ++ u64_bytes w.number

-- one peer's commands without cookies: how many, a reserved zero, and their records
abbrev pub commands_spelling : List Command → List ℕ
commands_spelling commands = u32_bytes (length commands) ++ u32_bytes 0 ++ flat_map records.spelling commands

-- a cookie and its command
abbrev pub entry_spelling : ℕ × Command → List ℕ
entry_spelling entry = records.spelling2 entry.0 entry.1

-- one peer's commands with their cookies: how many, a reserved zero, and their records
abbrev pub entries_spelling : List (ℕ × Command) → List ℕ
entries_spelling entries = u32_bytes (length entries) ++ u32_bytes 0 ++ flat_map entry_spelling entries

-- the cookies and the commands of one peer, each cookie with its command; and those of each peer
abbrev pub paired : List ℕ × List Command → List (ℕ × Command)
paired both = zip both.0 both.1

abbrev pub entries_of : List (List ℕ) → List (List Command) → List (List (ℕ × Command))
entries_of cookies lists = map paired (zip cookies lists)

-- each peer's commands, with their cookies where there are cookies
abbrev pub lists_spelling : Option (List (List ℕ)) → List (List Command) → List ℕ
lists_spelling None lists = flat_map commands_spelling lists
lists_spelling (Some cookies) lists = flat_map entries_spelling (entries_of cookies lists)

-- a zero behind an odd number of turns
abbrev pub pad_spelling : ℕ → List ℕ
pad_spelling turns = if turns % 2 == 1 then u32_bytes 0 else []

-- what stands behind the header
abbrev pub parts : Script → List ℕ
parts s =
    flat_map peer_spelling s.opening.peers ++ flat_map wire_spelling s.opening.wires ++ lists_spelling s.cookies s.commands
    ++ flat_map u32_bytes s.turns ++ pad_spelling (length s.turns)

-- the name of the format, and its version
abbrev pub name_spelling : Version → List ℕ
name_spelling version = codes "BUS1SCR1" ++ u32_bytes (version_number version)

-- the format, how many peers, and the first clock
abbrev pub start_spelling : Script → List ℕ
start_spelling s = name_spelling (version_of s.cookies) ++ u32_bytes (length s.opening.peers) ++ u64_bytes s.opening.first_clock

-- how many wires and turns, the length of the whole, and a reserved zero
abbrev pub sizes_spelling : Script → List ℕ
sizes_spelling s = u32_bytes (length s.opening.wires) ++ u32_bytes (length s.turns) ++ u32_bytes (header_len + length (parts s)) ++ u32_bytes 0

abbrev pub header_spelling : Script → List ℕ
header_spelling s = start_spelling s ++ sizes_spelling s

-- the bytes of a script
abbrev pub spelling : Script → List ℕ
spelling s = header_spelling s ++ parts s

-- how many peers a script of each version has at most
abbrev pub most_peers : Version → ℕ
most_peers One = FEW_PEERS
most_peers Two = MOST_PEERS

-- how many bytes the script of so many peers has at most
abbrev pub most_len : ℕ → ℕ
most_len peers = if nat_le peers FEW_PEERS then MOST_SCRIPT else MOST_WIDE_SCRIPT

-- what a record can carry, with a cookie in version 2
abbrev pub IsWithinOf : Version → Command → Type 0
IsWithinOf One command = IsWithin command
IsWithinOf Two command = IsWithin2 command

-- where there are cookies, as many lists of them as peers, and as many in each as the peer has commands
abbrev pub HasCookies : Option (List (List ℕ)) → List (List Command) → Type 0
HasCookies None lists = Unit {0}
HasCookies (Some cookies) lists = map length cookies ≡ map length lists

-- what a script file can say: an opening that a bus can begin with, of no more peers than its version has, a list of
-- commands for each peer, each command within a record's limits, turns of peers, a cookie for each command or for none, and
-- not too much of all
pub record HasSpelling (s : Script) : Type 0 where
  pub opening : IsOpening s.opening
  pub few : length s.opening.peers ≤ most_peers (version_of s.cookies)
  pub lists : length s.commands ≡ length s.opening.peers
  pub commands : AllByRecursion (AllByRecursion (IsWithinOf (version_of s.cookies))) s.commands
  pub turns : AllByRecursion (λ p. p < length s.opening.peers) s.turns
  pub cookies : HasCookies s.cookies s.commands
  pub short : header_len + length (parts s) ≤ most_len (length s.opening.peers)

pub record IsSpec (p : PeerSpec) : Type 0 where
  pub user : Is32 p.user
  pub pool : Is32 p.pool
  pub limits : AreLimits p.limits

abbrev pub IsWire : Wire → Type 0
IsWire w = Is64 w.number

-- each cookie fits its field
abbrev pub AreCookies : Option (List (List ℕ)) → Type 0
AreCookies None = Unit {0}
AreCookies (Some cookies) = AllByRecursion (AllByRecursion Is64) cookies

-- each number of a script fits the field that it has in the program
pub record HasFields (s : Script) : Type 0 where
  pub peers : AllByRecursion IsSpec s.opening.peers
  pub wires : AllByRecursion IsWire s.opening.wires
  pub commands : AllByRecursion (AllByRecursion HasNumbers) s.commands
  pub cookies : AreCookies s.cookies

-- a script is spelled at the front of the bytes, up to an end
pub record IsScript (bytes : List ℕ) (s : Script) (end : ℕ) : Type 0 where
  pub has_spelling : HasSpelling s
  pub fields : HasFields s
  pub stands : Stands bytes 0 (spelling s) end

-- the bytes are a script and nothing else
pub record IsWhole (bytes : List ℕ) (s : Script) : Type 0 where
  pub has_spelling : HasSpelling s
  pub fields : HasFields s
  pub spelled : bytes ≡ spelling s
