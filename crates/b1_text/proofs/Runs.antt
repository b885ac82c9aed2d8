-- A script's statements, taken one after the other, make the script.
use Rattle.std.proofs.Common.{◌≡◌, ℕ, ◌+◌, ◌-◌, ◌*◌, ◌%◌, ◌<◌, ◌≤◌, Bool, true, false, ◌&&◌, cond, eqb, ltb, leb, List, [], ◌∷◌, ◌++◌, length, map, Option, Some, None, refl, ap, ◌∙◌, append_assoc, arith, eq-eqb}
use Rattle.std.specs.List.{flat_map, enumerate_from, AllByRecursion}
use Rattle.std.proofs.lemmas.Bool.{lt-ltb}
use Rattle.std.proofs.lemmas.List.{append-nil, length-append}
use Rattle.std.proofs.lemmas.List.Concat.{flat_map-cons}
use Rattle.std.proofs.lemmas.List.Sums.{sum_by-append, sum_by-cons}
use Rattle.b1_model.specs.declared.limits.TheConstants.{CLOCK_LIMIT, FEW_PEERS, MOST_PEERS, MOST_POOLS, MOST_SCRIPT, MOST_WIDE_SCRIPT}
use Rattle.b1_model.specs.declared.commands.Command.{Command}
use Rattle.b1_model.specs.declared.naming.Opening.{Opening}
use Rattle.b1_model.specs.declared.naming.PeerSpec.{PeerSpec}
use Rattle.b1_model.specs.declared.naming.Wire.{Wire}
use Rattle.b1_model.specs.declared.version.Version.{Version}
use Rattle.b1_model.specs.declared.version.Version.TheVariants.{One, Two}
use Rattle.b1_model.specs.Opening.{after_wire, CanWire, AreWired, HasPool, pool_bytes}
use Rattle.b1_model.specs.Versions.{version_of}
use Rattle.b1_script.specs.declared.script.Script.{Script}
use Rattle.b1_script.specs.Spelling.{HasSpelling, most_peers, most_len}
use Rattle.b1_text.specs.declared.draft.Draft.{Draft}
use Rattle.b1_text.specs.declared.draft.Draft.TheVariants.{Empty, Named, Opened, Listing, Whole}
use Rattle.b1_text.specs.declared.statement.Entry.{Entry}
use Rattle.b1_text.specs.declared.statement.Statement.{Statement}
use Rattle.b1_text.specs.declared.statement.Statement.TheVariants as says
use Rattle.b1_text.specs.Texts.{entries_said, list_statements, lists_statements, statements}
use Rattle.b1_text.specs.Drafts.{record_len, turns_len, peer_len, pools_left, is_of, has_room, can_pool, can_peer, can_wire, can_turn, cookies_said, script_said, step, next, run}
use Rattle.b1_text.proofs.Entries.{AreOf, AllOf, said_of, said_count, commands_again, cookies_again}
use Rattle.b1_text.proofs.Lengths.{records_sum, lists_sum, length_parts}
use Rattle.b1_text.proofs.Judging.{both, clock_test, pool_left_test, room_test, wire_test, peers_test}

-- ---- running

pub run-append : (a b : List Statement) (r : Option Draft) → run r (a ++ b) ≡ run (run r a) b
run-append [] b r = refl
run-append (s ∷ ss) b r = run-append ss b (next r s)

pub run-none : (ss : List Statement) → run None ss ≡ None
run-none [] = refl
run-none (s ∷ ss) = run-none ss

-- ---- parts of an opening

abbrev pub opening_of : ℕ → List PeerSpec → List Wire → Opening
opening_of clock peers wires = record { first_clock = clock; peers = peers; wires = wires }

-- the bytes of the least script with so many peers
abbrev pub peers_len : ℕ → ℕ
peers_len n = 72 + 32 * (n - 1)

pub peers_more : (n : ℕ) (b : Bool) → eqb n 0 ≡ b → peers_len n + cond b 0 32 ≡ peers_len (n + 1)
peers_more n b is = grind arith

-- each script may have so many bytes
pub wide_under : (peers : ℕ) → MOST_WIDE_SCRIPT ≤ most_len peers
wide_under peers = by (leb peers FEW_PEERS)
  where
    by : (b : Bool) → MOST_WIDE_SCRIPT ≤ cond b MOST_SCRIPT MOST_WIDE_SCRIPT
    by true = omega arith
    by false = omega arith

pub peers_under : (version : Version) → most_peers version ≤ MOST_PEERS
peers_under One = omega arith
peers_under Two = omega arith

-- there is room for as many peers as a version may have
pub peer_room : (version : Version) (n : ℕ) → n < most_peers version → peers_len (n + 1) ≤ most_len (n + 1)
peer_room version n few = omega (arith, few, peers_under version, wide_under (n + 1))

peer_step : (version : Version) (clock : ℕ) (front : List PeerSpec) (p : PeerSpec) → HasPool p → length front < most_peers version → pool_bytes front + p.pool ≤ MOST_POOLS
    → step (Opened version (opening_of clock front []) [] (peers_len (length front))) (says.Peer p) ≡ Some (Opened version (opening_of clock (front ++ p ∷ []) []) [] (peers_len (length (front ++ p ∷ []))))
peer_step version clock front p pool few together =
    let o : Opening = opening_of clock front [] in
    let n : length (front ++ p ∷ []) ≡ length front + 1 = length-append front (p ∷ []) in
    let sum = peers_more (length front) (eqb (length front) 0) refl in
    let left : p.pool ≤ pools_left front = omega (arith, together) in
    let can : can_peer version o p ≡ true = both (ltb (length front) (most_peers version)) (can_pool front p.pool) (lt-ltb (length front) (most_peers version) few) (pool_left_test front p.pool pool left) in
    let fits : peers_len (length front) + peer_len o ≤ most_len (length front + 1) = omega (arith, sum, peer_room version (length front) few) in
    let room : has_room (length front + 1) (peers_len (length front)) (peer_len o) ≡ true = room_test (length front + 1) (peers_len (length front)) (peer_len o) fits in
    let test : (can_peer version o p && has_room (length front + 1) (peers_len (length front)) (peer_len o)) ≡ true = both (can_peer version o p) (has_room (length front + 1) (peers_len (length front)) (peer_len o)) can room in
    rw (test, sum, n) refl

peers_run : (version : Version) (clock : ℕ) (ps front : List PeerSpec) (more : List Statement) → AllByRecursion HasPool ps → length front + length ps ≤ most_peers version → pool_bytes front + pool_bytes ps ≤ MOST_POOLS
    → run (Some (Opened version (opening_of clock front []) [] (peers_len (length front)))) (map says.Peer ps ++ more) ≡ run (Some (Opened version (opening_of clock (front ++ ps) []) [] (peers_len (length (front ++ ps))))) more
peers_run version clock [] front more pools few together = rw (append-nil front) refl
peers_run version clock (p ∷ ps) front more pools few together =
    let n : length (front ++ p ∷ []) ≡ length front + 1 = length-append front (p ∷ []) in
    let sum = sum_by-cons (λ (spec : PeerSpec). spec.pool) p ps in
    let front_sum = sum_by-append (λ (spec : PeerSpec). spec.pool) front (p ∷ []) in
    let one = peer_step version clock front p pools.0 (omega (arith, few)) (omega (arith, sum, together)) in
    let ih = peers_run version clock ps (front ++ p ∷ []) more pools.1 (omega (arith, n, few)) (omega (arith, sum, front_sum, together)) in
    ap (λ (r : Option Draft). run r (map says.Peer ps ++ more)) one ∙ ih ∙ ap (λ (qs : List PeerSpec). run (Some (Opened version (opening_of clock qs []) [] (peers_len (length qs)))) more) (append_assoc front (p ∷ []) ps)

-- what several wires give
abbrev pub all_wires : List Wire → List Wire → List Wire
all_wires held [] = held
all_wires held (w ∷ ws) = all_wires (after_wire held w) ws

wire_step : (version : Version) (clock : ℕ) (peers : List PeerSpec) (front held : List Wire) (len : ℕ) (w : Wire) → CanWire (length peers) held w → len + 16 ≤ most_len (length peers)
    → step (Opened version (opening_of clock peers front) held len) (says.Wire w) ≡ Some (Opened version (opening_of clock peers (front ++ w ∷ [])) (after_wire held w) (len + 16))
wire_step version clock peers front held len w can short =
    let test : (can_wire (length peers) held w && has_room (length peers) len 16) ≡ true = both (can_wire (length peers) held w) (has_room (length peers) len 16) (wire_test (length peers) held w can) (room_test (length peers) len 16 short) in
    rw test refl

wires_run : (version : Version) (clock : ℕ) (peers : List PeerSpec) (ws front held : List Wire) (len : ℕ) (more : List Statement) → AreWired (length peers) held ws → len + 16 * length ws ≤ most_len (length peers)
    → run (Some (Opened version (opening_of clock peers front) held len)) (map says.Wire ws ++ more) ≡ run (Some (Opened version (opening_of clock peers (front ++ ws)) (all_wires held ws) (len + 16 * length ws))) more
wires_run version clock peers [] front held len more wired short = let sum : len + 0 ≡ len = omega arith in rw (append-nil front, sum) refl
wires_run version clock peers (w ∷ ws) front held len more wired short =
    let one = wire_step version clock peers front held len w wired.0 (omega (arith, short)) in
    let ih = wires_run version clock peers ws (front ++ w ∷ []) (after_wire held w) (len + 16) more wired.1 (omega (arith, short)) in
    let sum : len + 16 + 16 * length ws ≡ len + 16 * length (w ∷ ws) = omega arith in
    ap (λ (r : Option Draft). run r (map says.Wire ws ++ more)) one ∙ ih
    ∙ ap (λ (vs : List Wire). run (Some (Opened version (opening_of clock peers vs) (all_wires held (w ∷ ws)) (len + 16 + 16 * length ws))) more) (append_assoc front (w ∷ []) ws)
    ∙ ap (λ (n : ℕ). run (Some (Opened version (opening_of clock peers (front ++ w ∷ ws)) (all_wires held (w ∷ ws)) n)) more) sum

-- ---- commands

command_step : (version : Version) (o : Opening) (lists : List (List Entry)) (front : List Entry) (len : ℕ) (e : Entry) → is_of version e.cookie ≡ true → len + record_len e ≤ most_len (length o.peers)
    → step (Listing version o lists front len) (says.Command e) ≡ Some (Listing version o lists (front ++ e ∷ []) (len + record_len e))
command_step version o lists front len e of short =
    let test : (is_of version e.cookie && has_room (length o.peers) len (record_len e)) ≡ true = both (is_of version e.cookie) (has_room (length o.peers) len (record_len e)) of (room_test (length o.peers) len (record_len e) short) in
    rw test refl

commands_run : (version : Version) (o : Opening) (lists : List (List Entry)) (es front : List Entry) (len : ℕ) (more : List Statement) → AreOf version es → len + records_sum es ≤ most_len (length o.peers)
    → run (Some (Listing version o lists front len)) (map says.Command es ++ more) ≡ run (Some (Listing version o lists (front ++ es) (len + records_sum es))) more
commands_run version o lists [] front len more of short = let sum : len + 0 ≡ len = omega arith in rw (append-nil front, sum) refl
commands_run version o lists (e ∷ es) front len more of short =
    let one = command_step version o lists front len e of.0 (omega (arith, short)) in
    let ih = commands_run version o lists es (front ++ e ∷ []) (len + record_len e) more of.1 (omega (arith, short)) in
    let sum : len + record_len e + records_sum es ≡ len + records_sum (e ∷ es) = omega arith in
    ap (λ (r : Option Draft). run r (map says.Command es ++ more)) one ∙ ih
    ∙ ap (λ (ds : List Entry). run (Some (Listing version o lists ds (len + record_len e + records_sum es))) more) (append_assoc front (e ∷ []) es)
    ∙ ap (λ (n : ℕ). run (Some (Listing version o lists (front ++ e ∷ es) n)) more) sum

turns_step : (version : Version) (o : Opening) (lists : List (List Entry)) (list : List Entry) (len : ℕ) (turns : List ℕ) → length lists + 1 ≡ length o.peers → AllByRecursion (λ p. p < length o.peers) turns
    → len + turns_len (length turns) ≤ most_len (length o.peers) → step (Listing version o lists list len) (says.Turns turns) ≡ Some (Whole (script_said version o (lists ++ list ∷ []) turns))
turns_step version o lists list len turns all peers short =
    let can : can_turn o (length lists + 1) turns ≡ true = both (eqb (length lists + 1) (length o.peers)) _ (eq-eqb (length lists + 1) (length o.peers) all) (peers_test (length o.peers) turns peers) in
    let room : has_room (length o.peers) len (turns_len (length turns)) ≡ true = room_test (length o.peers) len (turns_len (length turns)) short in
    let test : (can_turn o (length lists + 1) turns && has_room (length o.peers) len (turns_len (length turns))) ≡ true = both (can_turn o (length lists + 1) turns) (has_room (length o.peers) len (turns_len (length turns))) can room in
    rw test refl

list_step : (version : Version) (o : Opening) (lists : List (List Entry)) (list : List Entry) (len p : ℕ) → p ≡ length lists + 1 → p < length o.peers
    → step (Listing version o lists list len) (says.Commands p) ≡ Some (Listing version o (lists ++ list ∷ []) [] len)
list_step version o lists list len p at few =
    let test : (eqb p (length lists + 1) && ltb p (length o.peers)) ≡ true = both (eqb p (length lists + 1)) (ltb p (length o.peers)) (eq-eqb p (length lists + 1) at) (lt-ltb p (length o.peers) few) in
    rw test refl

-- the lists that are left, and the turns
lists_run : (version : Version) (o : Opening) (rest lists : List (List Entry)) (list : List Entry) (len : ℕ) (turns : List ℕ) (n : ℕ) → n ≡ length lists + 1 → length lists + 1 + length rest ≡ length o.peers
    → AllByRecursion (λ p. p < length o.peers) turns → AllOf version rest → len + lists_sum rest + turns_len (length turns) ≤ most_len (length o.peers)
    → run (Some (Listing version o lists list len)) (flat_map list_statements (enumerate_from n rest) ++ says.Turns turns ∷ []) ≡ Some (Whole (script_said version o (lists ++ list ∷ rest) turns))
lists_run version o [] lists list len turns n at all peers of short = turns_step version o lists list len turns (omega (arith, all)) peers (omega (arith, short))
lists_run version o (es ∷ rest) lists list len turns n at all peers of short =
    let after : List Statement = flat_map list_statements (enumerate_from (n + 1) rest) ++ says.Turns turns ∷ [] in
    let count : length (lists ++ list ∷ []) ≡ length lists + 1 = length-append lists (list ∷ []) in
    let split : flat_map list_statements (enumerate_from n (es ∷ rest)) ++ says.Turns turns ∷ [] ≡ says.Commands n ∷ (map says.Command es ++ after)
    = ap (λ (x : List Statement). x ++ says.Turns turns ∷ []) (flat_map-cons list_statements (n, es) (enumerate_from (n + 1) rest))
    ∙ ap (λ (x : List Statement). says.Commands n ∷ x) (append_assoc (map says.Command es) (flat_map list_statements (enumerate_from (n + 1) rest)) (says.Turns turns ∷ [])) in
    let one = list_step version o lists list len n at (omega (arith, at, all)) in
    let two = commands_run version o (lists ++ list ∷ []) es [] len after of.0 (omega (arith, short)) in
    let ih = lists_run version o rest (lists ++ list ∷ []) es (len + records_sum es) turns (n + 1) (omega (arith, at, count)) (omega (arith, count, all)) peers of.1 (omega (arith, short)) in
    ap (λ (x : List Statement). run (Some (Listing version o lists list len)) x) split
    ∙ ap (λ (r : Option Draft). run r (map says.Command es ++ after)) one
    ∙ two ∙ ih ∙ ap (λ (ls : List (List Entry)). Some (Whole (script_said version o ls turns))) (append_assoc lists (list ∷ []) (es ∷ rest))

-- ---- the whole

first_list_step : (version : Version) (o : Opening) (held : List Wire) (len : ℕ) → 1 ≤ length o.peers → step (Opened version o held len) (says.Commands 0) ≡ Some (Listing version o [] [] len)
first_list_step version o held len some = rw (lt-ltb 0 (length o.peers) some) refl

-- all lists, and the turns
all_lists_run : (version : Version) (o : Opening) (held : List Wire) (lists : List (List Entry)) (len : ℕ) (turns : List ℕ) → 1 ≤ length o.peers → length lists ≡ length o.peers
    → AllByRecursion (λ p. p < length o.peers) turns → AllOf version lists → len + lists_sum lists + turns_len (length turns) ≤ most_len (length o.peers)
    → run (Some (Opened version o held len)) (flat_map list_statements (enumerate_from 0 lists) ++ says.Turns turns ∷ []) ≡ Some (Whole (script_said version o lists turns))
all_lists_run version o held [] len turns some all peers of short = absurd (omega (arith, some, all))
all_lists_run version o held (es ∷ rest) len turns some all peers of short =
    let after : List Statement = flat_map list_statements (enumerate_from 1 rest) ++ says.Turns turns ∷ [] in
    let split : flat_map list_statements (enumerate_from 0 (es ∷ rest)) ++ says.Turns turns ∷ [] ≡ says.Commands 0 ∷ (map says.Command es ++ after)
    = ap (λ (x : List Statement). x ++ says.Turns turns ∷ []) (flat_map-cons list_statements (0, es) (enumerate_from 1 rest))
    ∙ ap (λ (x : List Statement). says.Commands 0 ∷ x) (append_assoc (map says.Command es) (flat_map list_statements (enumerate_from 1 rest)) (says.Turns turns ∷ [])) in
    let one = first_list_step version o held len some in
    let two = commands_run version o [] es [] len after of.0 (omega (arith, short)) in
    let three = lists_run version o rest [] es (len + records_sum es) turns 1 refl (omega (arith, all)) peers of.1 (omega (arith, short)) in
    ap (λ (x : List Statement). run (Some (Opened version o held len)) x) split ∙ ap (λ (r : Option Draft). run r (map says.Command es ++ after)) one ∙ two ∙ three

clock_step : (version : Version) (clock : ℕ) → clock % 2 ≡ 0 → clock ≤ CLOCK_LIMIT → step (Named version) (says.Clock clock) ≡ Some (Opened version (opening_of clock [] []) [] 72)
clock_step version clock even most = rw (clock_test clock even most) refl

-- a script is made of what its lines say
pub script_again : (s : Script) → HasSpelling s → script_said (version_of s.cookies) s.opening (entries_said s.cookies s.commands) s.turns ≡ s
script_again s has =
    ap (λ (lists : List (List Command)). record { opening = s.opening; commands = lists; turns = s.turns; cookies = cookies_said (version_of s.cookies) (entries_said s.cookies s.commands) }) (commands_again s.cookies s.commands has.cookies)
    ∙ ap (λ (cookies : Option (List (List ℕ))). record s { cookies = cookies }) (cookies_again s.cookies s.commands has.cookies)

pub whole_run : (s : Script) → HasSpelling s → run (Some Empty) (statements s) ≡ Some (Whole s)
whole_run s has =
    let version : Version = version_of s.cookies in
    let clock : ℕ = s.opening.first_clock in
    let peers : List PeerSpec = s.opening.peers in
    let wires : List Wire = s.opening.wires in
    let said : List (List Entry) = entries_said s.cookies s.commands in
    let lists : List Statement = lists_statements said in
    let end : List Statement = says.Turns s.turns ∷ [] in
    let o = has.opening in
    let len = length_parts s has.cookies in
    let count : length said ≡ length peers = said_count s.cookies s.commands has.cookies ∙ has.lists in
    let sum : peers_len (length peers) + 16 * length wires + lists_sum said + turns_len (length s.turns) ≤ most_len (length peers) = omega (arith, len, has.short, o.least, has.lists) in
    let parts_are : map says.Peer peers ++ map says.Wire wires ++ lists ++ end ≡ map says.Peer peers ++ (map says.Wire wires ++ (lists ++ end))
    = append_assoc (map says.Peer peers ++ map says.Wire wires) lists end ∙ append_assoc (map says.Peer peers) (map says.Wire wires) (lists ++ end) in
    let one = clock_step version clock o.even o.clock in
    let two = peers_run version clock peers [] (map says.Wire wires ++ (lists ++ end)) o.pools (omega (arith, has.few)) (omega (arith, o.together)) in
    let three = wires_run version clock peers wires [] [] (peers_len (length peers)) (lists ++ end) o.wires (omega (arith, sum)) in
    let four = all_lists_run version s.opening (all_wires [] wires) said (peers_len (length peers) + 16 * length wires) s.turns o.least count has.turns (said_of s.cookies s.commands) sum in
    ap (λ (r : Option Draft). run r (map says.Peer peers ++ map says.Wire wires ++ lists ++ end)) one
    ∙ ap (λ (x : List Statement). run (Some (Opened version (opening_of clock [] []) [] 72)) x) parts_are
    ∙ two ∙ three ∙ four
    ∙ ap (λ (x : Script). Some (Whole x)) (script_again s has)
