-- Reading a script from left to right, with the first rule that is broken.
use Rattle.std.specs.Prelude.{ℕ, zero, suc, ◌+◌, ◌%◌, Bool, false, ◌&&◌, ◌||◌, ◌==◌, not, nat_lt, nat_le, if◌then◌else◌, List, [], ◌∷◌, length, map, Option, None, Some, Result, Ok, Err, find}
use Rattle.std.specs.Option.{option_map_or}
use Rattle.b1_errs.specs.declared.Cause.TheVariants as causes
use Rattle.b1_model.specs.declared.commands.Command.{Command}
use Rattle.b1_model.specs.declared.limits.TheConstants.{CLOCK_LIMIT, FEW_PEERS, MOST_POOL, MOST_POOLS, MOST_SCRIPT, MOST_WIDE_SCRIPT}
use Rattle.b1_model.specs.declared.naming.PeerSpec.{PeerSpec}
use Rattle.b1_model.specs.declared.naming.Wire.{Wire}
use Rattle.b1_model.specs.declared.version.Version.{Version}
use Rattle.b1_model.specs.declared.version.Version.TheVariants.{One, Two}
use Rattle.b1_model.specs.Opening.{from_owner, after_wire}
use Rattle.b1_model.specs.Versions.{version_number}
use Rattle.b1_records.specs.Reading.{◌>>=◌, Read, Fault, fault_of, checked, known, many, number_at, long_number_at, zero_at, command_at, command2_at}
use Rattle.b1_script.specs.declared.header.Header.{Header}
use Rattle.b1_script.specs.declared.script.Script.{Script}
use Rattle.b1_script.specs.Spelling.{most_peers}

-- the number whose bytes are `BUS1SCR1`
abbrev pub magic_number : ℕ
magic_number = 0x3152_4353_3153_5542

abbrev pub is_first_clock : ℕ → Bool
is_first_clock n = (n % 2 == 0) && nat_le n CLOCK_LIMIT

unfoldable pub magic_at : ℕ → List ℕ → ℕ → Read ℕ
magic_at limit bytes at = checked (λ n. n == magic_number) causes.Magic at (long_number_at limit bytes at)

-- the version of a number, where there is one
abbrev pub numbered_version : ℕ → Option Version
numbered_version number = find (λ version. version_number version == number) (One ∷ Two ∷ [])

unfoldable pub version_at : ℕ → List ℕ → ℕ → Read Version
version_at limit bytes at = do
  number ← number_at limit bytes at
  known (numbered_version number.0) causes.Version at number.1

unfoldable pub peer_count_at : ℕ → List ℕ → Version → ℕ → Read ℕ
peer_count_at limit bytes version at = checked (λ n. nat_le 1 n && nat_le n (most_peers version)) causes.Count at (number_at limit bytes at)

unfoldable pub clock_at : ℕ → List ℕ → ℕ → Read ℕ
clock_at limit bytes at = checked is_first_clock causes.Range at (long_number_at limit bytes at)

-- the place of the length in the header
abbrev pub len_place : ℕ
len_place = 32

-- the length of the script of so many peers
unfoldable pub len_at : ℕ → List ℕ → ℕ → ℕ → Read ℕ
len_at limit bytes peers at = checked (λ n. nat_le peers FEW_PEERS || nat_le n MOST_WIDE_SCRIPT) causes.Length at (number_at limit bytes at)

unfoldable pub header_at : ℕ → List ℕ → ℕ → Read Header
header_at limit bytes at = do
  name ← magic_at limit bytes at
  version ← version_at limit bytes name.1
  peers ← peer_count_at limit bytes version.0 version.1
  clock ← clock_at limit bytes peers.1
  wires ← number_at limit bytes clock.1
  turns ← number_at limit bytes wires.1
  len ← len_at limit bytes peers.0 turns.1
  end ← zero_at limit bytes len.1
  Ok (record { version = version.0; peers = peers.0; first_clock = clock.0; wires = wires.0; turns = turns.0; len = len.0 }, end.1)

abbrev pub is_pool : ℕ → Bool
is_pool n = (n % 8 == 0) && nat_le 8 n && nat_le n MOST_POOL

-- a pool, where those before it have so many bytes together
unfoldable pub pool_at : ℕ → List ℕ → ℕ → ℕ → Read ℕ
pool_at limit bytes before at = checked (λ n. is_pool n && nat_le (before + n) MOST_POOLS) causes.Range at (number_at limit bytes at)

unfoldable pub peer_at : ℕ → List ℕ → ℕ → ℕ → Read PeerSpec
peer_at limit bytes before at = do
  user ← number_at limit bytes at
  pool ← pool_at limit bytes before user.1
  entries ← number_at limit bytes pool.1
  size ← number_at limit bytes entries.1
  handles ← number_at limit bytes size.1
  end ← zero_at limit bytes handles.1
  Ok (record { user = user.0; pool = pool.0; limits = record { entries = entries.0; bytes = size.0; handles = handles.0 } }, end.1)

-- so many peers, where the pools before them have so many bytes together
abbrev pub peers_at : ℕ → List ℕ → ℕ → ℕ → ℕ → Read (List PeerSpec)
peers_at limit bytes before zero at = Ok ([], at)
peers_at limit bytes before (suc count) at = do
  first ← peer_at limit bytes before at
  others ← peers_at limit bytes (before + first.0.pool) count first.1
  Ok (first.0 ∷ others.0, others.1)

-- a peer's number, and that of another peer: one that isn't a peer's is out of range, and the same one breaks the wiring
unfoldable pub peer_number_at : ℕ → List ℕ → ℕ → ℕ → Read ℕ
peer_number_at limit bytes n at = checked (λ p. nat_lt p n) causes.Range at (number_at limit bytes at)

unfoldable pub other_number_at : ℕ → List ℕ → ℕ → ℕ → ℕ → Read ℕ
other_number_at limit bytes n from at = checked (λ p. not (p == from)) causes.Wiring at (peer_number_at limit bytes n at)

-- whether a wire names a node that the other peer doesn't own
abbrev pub gives_foreign : List Wire → Wire → Bool
gives_foreign held w = option_map_or (λ given. not (given.from == w.to)) (from_owner held w) false

unfoldable pub wire_at : ℕ → List ℕ → ℕ → List Wire → ℕ → Read Wire
wire_at limit bytes n held at = do
  from ← peer_number_at limit bytes n at
  to ← other_number_at limit bytes n from.0 from.1
  number ← checked (λ number. gives_foreign held (record { from = from.0; to = to.0; number = number })) causes.Wiring to.1 (long_number_at limit bytes to.1)
  Ok (record { from = from.0; to = to.0; number = number.0 }, number.1)

-- so many wires, where so much is held before
abbrev pub wires_at : ℕ → List ℕ → ℕ → List Wire → ℕ → ℕ → Read (List Wire)
wires_at limit bytes n held zero at = Ok ([], at)
wires_at limit bytes n held (suc count) at = do
  first ← wire_at limit bytes n held at
  others ← wires_at limit bytes n (after_wire held first.0) count first.1
  Ok (first.0 ∷ others.0, others.1)

unfoldable pub command_list_at : ℕ → List ℕ → ℕ → ℕ → Read (List Command)
command_list_at limit bytes count at = many (command_at limit bytes) count at

-- one peer's commands
unfoldable pub commands_at : ℕ → List ℕ → ℕ → Read (List Command)
commands_at limit bytes at = do
  count ← number_at limit bytes at
  start ← zero_at limit bytes count.1
  command_list_at limit bytes count.0 start.1

-- so many commands with their cookies
unfoldable pub entry_list_at : ℕ → List ℕ → ℕ → ℕ → Read (List (ℕ × Command))
entry_list_at limit bytes count at = many (command2_at limit bytes) count at

-- one peer's commands with their cookies
unfoldable pub entries_at : ℕ → List ℕ → ℕ → Read (List (ℕ × Command))
entries_at limit bytes at = do
  count ← number_at limit bytes at
  start ← zero_at limit bytes count.1
  entry_list_at limit bytes count.0 start.1

-- the cookies of each peer, and its commands
abbrev pub cookies_in : List (List (ℕ × Command)) → List (List ℕ)
cookies_in lists = map (λ entries. map (λ entry. entry.0) entries) lists

abbrev pub commands_in : List (List (ℕ × Command)) → List (List Command)
commands_in lists = map (λ entries. map (λ entry. entry.1) entries) lists

-- the cookies and the commands of n peers
unfoldable pub lists_at : ℕ → List ℕ → Version → ℕ → ℕ → Read (Option (List (List ℕ)) × List (List Command))
lists_at limit bytes One n at = do
  lists ← many (commands_at limit bytes) n at
  Ok ((None, lists.0), lists.1)
lists_at limit bytes Two n at = do
  lists ← many (entries_at limit bytes) n at
  Ok ((Some (cookies_in lists.0), commands_in lists.0), lists.1)

unfoldable pub turns_at : ℕ → List ℕ → ℕ → ℕ → ℕ → Read (List ℕ)
turns_at limit bytes n count at = many (peer_number_at limit bytes n) count at

-- the reserved field behind an odd number of turns
unfoldable pub pad_at : ℕ → List ℕ → ℕ → ℕ → Read ℕ
pad_at limit bytes turns at = if turns % 2 == 1 then zero_at limit bytes at else Ok (0, at)

-- what stands behind the header
unfoldable pub parts_at : ℕ → List ℕ → Header → ℕ → Read Script
parts_at limit bytes header at = do
  peers ← peers_at limit bytes 0 header.peers at
  wires ← wires_at limit bytes header.peers [] header.wires peers.1
  lists ← lists_at limit bytes header.version header.peers wires.1
  turns ← turns_at limit bytes header.peers header.turns lists.1
  end ← pad_at limit bytes header.turns turns.1
  Ok (record { opening = record { first_clock = header.first_clock; peers = peers.0; wires = wires.0 }; commands = lists.0.1; turns = turns.0; cookies = lists.0.0 }, end.1)

-- the script at the front of the bytes, of which no field passes the limit; in the end its length is judged
unfoldable pub script_at : ℕ → List ℕ → Read Script
script_at limit bytes = do
  header ← header_at limit bytes 0
  script ← parts_at limit bytes header.0 header.1
  if script.1 == header.0.len then Ok script else Err (len_place, causes.Length)

-- the first rule broken by a script at the front of the bytes, where one is
abbrev pub bad_script : List ℕ → Option Fault
bad_script bytes = fault_of (script_at MOST_SCRIPT bytes)

-- all of the bytes were read
abbrev pub to_the_end : List ℕ → Read Script → Result Script Fault
to_the_end bytes (Ok script) = if script.1 == length bytes then Ok script.0 else Err (script.1, causes.Trailing)
to_the_end bytes (Err fault) = Err fault

-- the script that all of the bytes are: that they are too long is judged first, and that bytes are left over last
unfoldable pub whole_at : List ℕ → Result Script Fault
whole_at bytes =
    if nat_lt MOST_SCRIPT (length bytes) then Err (MOST_SCRIPT, causes.Long)
    else to_the_end bytes (script_at MOST_SCRIPT bytes)

-- the first rule broken by bytes that are to be one script, where one is
abbrev pub bad : List ℕ → Option Fault
bad bytes = fault_of (whole_at bytes)
