-- A script as far as the lines of its text were read, and what each further line makes of it.
use Rattle.std.specs.Prelude.{◌≡◌, ℕ, ◌+◌, ◌-◌, ◌*◌, ◌%◌, ◌≤◌, Bool, true, false, ◌&&◌, ◌==◌, not, nat_lt, nat_le, if◌then◌else◌, List, [], ◌∷◌, ◌++◌, length, map, filter_map, Option, Some, None, IsSome, IfSome}
use Rattle.std.specs.List.{list_all, AllByRecursion}
use Rattle.b1_model.specs.declared.limits.TheConstants.{MOST_POOLS, MOST_SCRIPT}
use Rattle.b1_model.specs.declared.commands.Command.{Command}
use Rattle.b1_model.specs.declared.naming.Opening.{Opening}
use Rattle.b1_model.specs.declared.naming.PeerSpec.{PeerSpec}
use Rattle.b1_model.specs.declared.naming.Wire.{Wire}
use Rattle.b1_model.specs.declared.version.Version.{Version}
use Rattle.b1_model.specs.declared.version.Version.TheVariants.{One, Two}
use Rattle.b1_model.specs.Opening.{after_wire, pool_bytes}
use Rattle.b1_model.specs.Versions.{version_of}
use Rattle.b1_records.specs.Spelling.{Is32, Is64, HasNumbers}
use Rattle.b1_records.specs.Spelling as records
use Rattle.b1_script.specs.declared.script.Script.{Script}
use Rattle.b1_script.specs.Spelling.{IsSpec, IsWithinOf, most_len, most_peers}
use Rattle.b1_script.specs.Reading.{is_first_clock, is_pool, gives_foreign}
use Rattle.b1_text.specs.declared.draft.Draft.{Draft}
use Rattle.b1_text.specs.declared.draft.Draft.TheVariants.{Empty, Named, Opened, Listing, Whole}
use Rattle.b1_text.specs.declared.statement.Entry.{Entry}
use Rattle.b1_text.specs.declared.statement.Statement.{Statement}
use Rattle.b1_text.specs.declared.statement.Statement.TheVariants as says
use Rattle.b1_text.specs.Texts.{statement_text}

-- each number of a wire fits its field
pub record HasWireFields (w : Wire) : Type 0 where
  pub from : Is32 w.from
  pub to : Is32 w.to
  pub number : Is64 w.number

-- a command that a record can carry, of the version that its cookie tells
pub record IsCarried (e : Entry) : Type 0 where
  pub within : IsWithinOf (version_of e.cookie) e.command
  pub numbers : HasNumbers e.command
  pub cookie : IfSome e.cookie Is64

-- turns of which a script can have so many, each of which fits its field
pub record AreTurns (turns : List ℕ) : Type 0 where
  pub peers : AllByRecursion Is32 turns
  pub few : length turns ≤ MOST_SCRIPT

-- each number of a statement fits its field
abbrev pub Fits : Statement → Type 0
Fits (says.Name version) = Unit {0}
Fits (says.Clock clock) = Is64 clock
Fits (says.Peer p) = IsSpec p
Fits (says.Wire w) = HasWireFields w
Fits (says.Commands p) = Is32 p
Fits (says.Command e) = IsCarried e
Fits (says.Turns turns) = AreTurns turns

-- a command's record, with its cookie where it has one
abbrev pub record_spelling : Option ℕ → Command → List ℕ
record_spelling None c = records.spelling c
record_spelling (Some cookie) c = records.spelling2 cookie c

-- the bytes of a command's record
abbrev pub record_len : Entry → ℕ
record_len e = length (record_spelling e.cookie e.command)

-- whether a command stands in a text of this version: in version 2 each has a cookie, in version 1 none
abbrev pub is_of : Version → Option ℕ → Bool
is_of One None = true
is_of One (Some cookie) = false
is_of Two None = false
is_of Two (Some cookie) = true

-- the bytes of so many turns
abbrev pub turns_len : ℕ → ℕ
turns_len count = 4 * (count + count % 2)

-- the bytes of the least script: one peer, no wires, commands or turns
abbrev pub least_len : ℕ
least_len = 72

-- the bytes that one more peer adds, with its list of commands: the least script has one
abbrev pub peer_len : Opening → ℕ
peer_len o = if length o.peers == 0 then 0 else 32

-- the bytes that a wire adds
abbrev pub wire_len : ℕ
wire_len = 16

-- whether so many bytes more are not too many, in a script of so many peers
abbrev pub has_room : ℕ → ℕ → ℕ → Bool
has_room peers len more = nat_le (len + more) (most_len peers)

-- the first clock
abbrev pub opened : Version → ℕ → Option Draft
opened version clock =
    if is_first_clock clock then Some (Opened version (record { first_clock = clock; peers = []; wires = [] }) [] least_len) else None

-- how many bytes pools can still have behind those of these peers
abbrev pub pools_left : List PeerSpec → ℕ
pools_left peers = MOST_POOLS - pool_bytes peers

-- whether one more pool can have this size
abbrev pub can_pool : List PeerSpec → ℕ → Bool
can_pool peers pool = is_pool pool && nat_le pool (pools_left peers)

-- whether an opening can have one more peer: no wire, fewer peers than its version may have, and no pools too great
abbrev pub can_peer : Version → Opening → PeerSpec → Bool
can_peer version o p = (length o.wires == 0) && nat_lt (length o.peers) (most_peers version) && can_pool o.peers p.pool

-- one more peer
abbrev pub with_peer : Version → Opening → List Wire → ℕ → PeerSpec → Option Draft
with_peer version o held len p =
    if can_peer version o p && has_room (length o.peers + 1) len (peer_len o)
    then Some (Opened version (record o { peers = o.peers ++ p ∷ [] }) held (len + peer_len o)) else None

-- whether a wire can be made among n peers
abbrev pub can_wire : ℕ → List Wire → Wire → Bool
can_wire n held w = nat_lt w.from n && nat_lt w.to n && not (w.to == w.from) && gives_foreign held w

-- one more wire
abbrev pub with_wire : Version → Opening → List Wire → ℕ → Wire → Option Draft
with_wire version o held len w =
    if can_wire (length o.peers) held w && has_room (length o.peers) len wire_len
    then Some (Opened version (record o { wires = o.wires ++ w ∷ [] }) (after_wire held w) (len + wire_len)) else None

-- the first peer's commands
abbrev pub with_first_list : Version → Opening → ℕ → ℕ → Option Draft
with_first_list version o len p = if (p == 0) && nat_lt 0 (length o.peers) then Some (Listing version o [] [] len) else None

-- the next peer's commands
abbrev pub with_list : Version → Opening → List (List Entry) → List Entry → ℕ → ℕ → Option Draft
with_list version o lists list len p =
    if (p == length lists + 1) && nat_lt p (length o.peers) then Some (Listing version o (lists ++ list ∷ []) [] len) else None

-- one more command
abbrev pub with_command : Version → Opening → List (List Entry) → List Entry → ℕ → Entry → Option Draft
with_command version o lists list len e =
    if is_of version e.cookie && has_room (length o.peers) len (record_len e)
    then Some (Listing version o lists (list ++ e ∷ []) (len + record_len e)) else None

-- whether turns can stand behind so many lists: there is one for each peer, and each turn is a peer's
abbrev pub can_turn : Opening → ℕ → List ℕ → Bool
can_turn o lists turns = (lists == length o.peers) && list_all (λ p. nat_lt p (length o.peers)) turns

-- the commands of each peer, and in version 2 their cookies
abbrev pub commands_said : List (List Entry) → List (List Command)
commands_said lists = map (λ entries. map (λ e. e.command) entries) lists

abbrev pub cookies_said : Version → List (List Entry) → Option (List (List ℕ))
cookies_said One lists = None
cookies_said Two lists = Some (map (λ entries. filter_map (λ e. e.cookie) entries) lists)

-- the script of an opening, of what each peer's lines say, and of turns
abbrev pub script_said : Version → Opening → List (List Entry) → List ℕ → Script
script_said version o lists turns =
    record { opening = o; commands = commands_said lists; turns = turns; cookies = cookies_said version lists }

-- the turns, behind each peer's commands
abbrev pub with_turns : Version → Opening → List (List Entry) → List Entry → ℕ → List ℕ → Option Draft
with_turns version o lists list len turns =
    if can_turn o (length lists + 1) turns && has_room (length o.peers) len (turns_len (length turns))
    then Some (Whole (script_said version o (lists ++ list ∷ []) turns)) else None

-- what a statement makes of an empty text, of its name, of an opening, of lists of commands
abbrev pub after_nothing : Statement → Option Draft
after_nothing (says.Name version) = Some (Named version)
after_nothing s = None

abbrev pub after_name : Version → Statement → Option Draft
after_name version (says.Clock clock) = opened version clock
after_name version s = None

abbrev pub after_opening : Version → Opening → List Wire → ℕ → Statement → Option Draft
after_opening version o held len (says.Peer p) = with_peer version o held len p
after_opening version o held len (says.Wire w) = with_wire version o held len w
after_opening version o held len (says.Commands p) = with_first_list version o len p
after_opening version o held len s = None

abbrev pub after_lists : Version → Opening → List (List Entry) → List Entry → ℕ → Statement → Option Draft
after_lists version o lists list len (says.Commands p) = with_list version o lists list len p
after_lists version o lists list len (says.Command e) = with_command version o lists list len e
after_lists version o lists list len (says.Turns turns) = with_turns version o lists list len turns
after_lists version o lists list len s = None

-- the draft behind one more statement, where a script can go on so
abbrev pub step : Draft → Statement → Option Draft
step Empty s = after_nothing s
step (Named version) s = after_name version s
step (Opened version o held len) s = after_opening version o held len s
step (Listing version o lists list len) s = after_lists version o lists list len s
step (Whole script) s = None

-- the word is the text of a statement with which a script can go on
pub record IsNext (d : Draft) (line : List ℕ) : Type 0 where
  pub statement : Statement
  pub fits : Fits statement
  pub same : line ≡ statement_text statement
  pub goes_on : IsSome (step d statement)

-- the draft behind one more statement, and behind several
abbrev pub next : Option Draft → Statement → Option Draft
next None s = None
next (Some d) s = step d s

abbrev pub run : Option Draft → List Statement → Option Draft
run r [] = r
run r (s ∷ ss) = run (next r s) ss
