-- An accepted text is shorter than the most that is read.
use Rattle.std.proofs.Common.{◌≡◌, ℕ, ◌+◌, ◌*◌, ◌/◌, ◌%◌, ◌<◌, ◌≤◌, Bool, true, false, cond, eqb, List, [], ◌∷◌, ◌++◌, length, map, Option, Some, None, codes, refl, ap, arith}
use Rattle.std.specs.Prelude.{IfSome}
use Rattle.std.specs.Fmt.{decimal}
use Rattle.std.specs.List.{flat_map, enumerate_from, AllByRecursion}
use Rattle.std.proofs.lemmas.Fmt.{length-decimal-le}
use Rattle.std.proofs.lemmas.List.{length-append}
use Rattle.std.proofs.lemmas.List.Concat.{flat_map-cons}
use Rattle.b1_model.specs.declared.limits.TheConstants.{MOST_TEXT}
use Rattle.b1_model.specs.declared.commands.Command.{Command}
use Rattle.b1_model.specs.declared.commands.Command.TheVariants.{Disconnect, Query, Reset, Limit, Release, Destroy, SliceRelease, Send, Recv, Await}
use Rattle.b1_model.specs.declared.commands.SendCmd.{SendCmd}
use Rattle.b1_model.specs.declared.naming.Limits.{Limits}
use Rattle.b1_model.specs.declared.naming.PeerSpec.{PeerSpec}
use Rattle.b1_model.specs.declared.naming.Wire.{Wire}
use Rattle.b1_model.specs.declared.version.Version.{Version}
use Rattle.b1_model.specs.declared.version.Version.TheVariants.{One, Two}
use Rattle.b1_records.specs.Spelling.{Is32, Is64, AreLimits, HasNumbers}
use Rattle.b1_script.specs.declared.script.Script.{Script}
use Rattle.b1_script.specs.Spelling.{IsSpec}
use Rattle.b1_script.proofs.Laws.{most_under}
use Rattle.b1_text_words.specs.declared.items.Form.TheVariants.{Script as in_script}
use Rattle.b1_text_words.specs.Commands.{command_text_in, cookie_text, limits_text, flag_of}
use Rattle.b1_text_words.specs.Numbers.{script_handle_text, script_offset_text, slot_text, list_text, hex_pair, hex_text}
use Rattle.b1_text.specs.declared.statement.Entry.{Entry}
use Rattle.b1_text.specs.declared.statement.Statement.{Statement}
use Rattle.b1_text.specs.declared.statement.Statement.TheVariants as says
use Rattle.b1_text.specs.Texts.{name_text, entry_text, peer_text, wire_text, line_text, entries_said, list_statements, lists_statements, opening_statements, statements}
use Rattle.b1_text.specs.Accepted.{IsText}
use Rattle.b1_text.specs.Drafts.{HasWireFields, IsCarried, Fits, record_len}
use Rattle.b1_text.specs.Nexts.{plain_len}
use Rattle.b1_text.proofs.Entries.{said_count}
use Rattle.b1_text.proofs.Fitting.{statements_fit}
use Rattle.b1_text.proofs.Lengths.{records_sum, lists_sum, length_parts}
use Rattle.b1_text.proofs.Records.{cookie_len, record_is, destroy_len, send_len}

-- ---- words

small_len : (n : ℕ) → Is32 n → length (decimal n) ≤ 10
small_len n h = length-decimal-le 10 n (omega arith) (omega (arith, h)) (omega (arith, h))

long_len : (n : ℕ) → Is64 n → length (decimal n) ≤ 20
long_len n h = length-decimal-le 20 n (omega arith) (omega (arith, h)) (omega (arith, h))

slot_len : (n : ℕ) → length (decimal (n / 2 % 64)) ≤ 2
slot_len n = length-decimal-le 2 (n / 2 % 64) (omega arith) (omega arith) (omega arith)

either_len : (b : Bool) (x y : List ℕ) (most : ℕ) → length x ≤ most → length y ≤ most → length (cond b x y) ≤ most
either_len true x y most h k = h
either_len false x y most h k = k

handle_len : (n : ℕ) → Is64 n → length (script_handle_text n) ≤ 24
handle_len n h =
    let a = length-append (codes "@") (decimal (n / 128) ++ codes "." ++ decimal (n / 2 % 64)) in
    let b = length-append (decimal (n / 128) ++ codes ".") (decimal (n / 2 % 64)) in
    let c = length-append (decimal (n / 128)) (codes ".") in
    let most = long_len (n / 128) (omega (arith, h)) in
    let slot = slot_len n in
    let whole = long_len n h in
    either_len (eqb (n % 2) 1) (codes "@" ++ slot_text n) (decimal n) 24 (omega (arith, a, b, c, most, slot)) (omega (arith, whole))

offset_len : (n : ℕ) → Is64 n → length (script_offset_text n) ≤ 24
offset_len n h =
    let most = long_len (n / 2) (omega (arith, h)) in
    let whole = long_len n h in
    either_len (eqb (n % 2) 1) (codes "@" ++ decimal (n / 2)) (decimal n) 24 (omega (arith, most, length-append (codes "@") (decimal (n / 2)))) (omega (arith, whole))

handles_len : (ns : List ℕ) → AllByRecursion Is64 ns → length (flat_map (λ n. codes "," ++ script_handle_text n) ns) ≤ 25 * length ns
handles_len [] h = omega arith
handles_len (n ∷ ns) h =
    let e = ap (λ (x : List ℕ). length x) (flat_map-cons (λ n. codes "," ++ script_handle_text n) n ns) in
    let a = length-append (codes "," ++ script_handle_text n) (flat_map (λ n. codes "," ++ script_handle_text n) ns) in
    let ih = handles_len ns h.1 in
    omega (arith, e, a, ih, handle_len n h.0)

list_len : (ns : List ℕ) → AllByRecursion Is64 ns → length (list_text script_handle_text ns) ≤ 1 + 25 * length ns
list_len [] h = omega arith
list_len (n ∷ ns) h =
    let a = length-append (script_handle_text n) (flat_map (λ n. codes "," ++ script_handle_text n) ns) in
    let ih = handles_len ns h.1 in
    omega (arith, a, ih, handle_len n h.0)

turns_more : (ts : List ℕ) → AllByRecursion Is32 ts → length (flat_map (λ n. codes "," ++ decimal n) ts) ≤ 11 * length ts
turns_more [] h = omega arith
turns_more (t ∷ ts) h =
    let e = ap (λ (x : List ℕ). length x) (flat_map-cons (λ n. codes "," ++ decimal n) t ts) in
    let a = length-append (codes "," ++ decimal t) (flat_map (λ n. codes "," ++ decimal n) ts) in
    let ih = turns_more ts h.1 in
    omega (arith, e, a, ih, small_len t h.0)

turn_list_len : (ts : List ℕ) → AllByRecursion Is32 ts → length (list_text decimal ts) ≤ 1 + 11 * length ts
turn_list_len [] h = omega arith
turn_list_len (t ∷ ts) h =
    let a = length-append (decimal t) (flat_map (λ n. codes "," ++ decimal n) ts) in
    let ih = turns_more ts h.1 in
    omega (arith, a, ih, small_len t h.0)

pairs_len : (bs : List ℕ) → length (flat_map hex_pair bs) ≡ 2 * length bs
pairs_len [] = refl
pairs_len (b ∷ bs) =
    let e = ap (λ (x : List ℕ). length x) (flat_map-cons hex_pair b bs) in
    let ih = pairs_len bs in
    omega (arith, e, ih)

hex_len : (bs : List ℕ) → length (hex_text bs) ≤ 1 + 2 * length bs
hex_len [] = omega arith
hex_len (b ∷ bs) = omega (arith, pairs_len (b ∷ bs))

-- ---- commands

flag_len : (go_on : Bool) → length (flag_of go_on) ≡ 5
flag_len true = refl
flag_len false = refl

limits_len : (l : Limits) → AreLimits l → length (limits_text l) ≤ 32
limits_len l h =
    let a = length-append (decimal l.entries ++ codes " " ++ decimal l.bytes ++ codes " ") (decimal l.handles) in
    let b = length-append (decimal l.entries ++ codes " " ++ decimal l.bytes) (codes " ") in
    let c = length-append (decimal l.entries ++ codes " ") (decimal l.bytes) in
    let d = length-append (decimal l.entries) (codes " ") in
    omega (arith, a, b, c, d, small_len l.entries h.entries, small_len l.bytes h.bytes, small_len l.handles h.handles)

send_text_len : (s : SendCmd) → HasNumbers (Send s) → length (command_text_in in_script (Send s)) + 1 ≤ 4 * plain_len (Send s)
send_text_len s h =
    let flag : List ℕ = codes "send " ++ flag_of s.go_on in
    let to : List ℕ = list_text script_handle_text s.to in
    let with : List ℕ = list_text script_handle_text s.with in
    let a = length-append (flag ++ to ++ codes " with " ++ with ++ codes " data ") (hex_text s.payload) in
    let b = length-append (flag ++ to ++ codes " with " ++ with) (codes " data ") in
    let c = length-append (flag ++ to ++ codes " with ") with in
    let d = length-append (flag ++ to) (codes " with ") in
    let e = length-append flag to in
    let f = length-append (codes "send ") (flag_of s.go_on) in
    omega (arith, a, b, c, d, e, f, flag_len s.go_on, list_len s.to h.to, list_len s.with h.with, hex_len s.payload, send_len s)

command_len : (c : Command) → HasNumbers c → length (command_text_in in_script c) + 1 ≤ 4 * plain_len c
command_len Disconnect h = omega arith
command_len Query h = omega arith
command_len (Reset limits) h = omega (arith, limits_len limits h, length-append (codes "reset ") (limits_text limits))
command_len (Limit limits) h = omega (arith, limits_len limits h, length-append (codes "limit ") (limits_text limits))
command_len (Release n) h = omega (arith, handle_len n h, length-append (codes "release ") (script_handle_text n))
command_len (Destroy ns) h = omega (arith, list_len ns h, destroy_len ns, length-append (codes "destroy ") (list_text script_handle_text ns))
command_len (SliceRelease n) h = omega (arith, offset_len n h, length-append (codes "slice ") (script_offset_text n))
command_len (Send s) h = send_text_len s h
command_len Recv h = omega arith
command_len Await h = omega arith

cookie_text_len : (k : Option ℕ) → IfSome k Is64 → length (cookie_text k) ≤ 4 * cookie_len k
cookie_text_len None h = omega arith
cookie_text_len (Some n) h = omega (arith, long_len n h, length-append (codes "#" ++ decimal n) (codes " "), length-append (codes "#") (decimal n))

entry_len : (e : Entry) → IsCarried e → length (entry_text e) + 1 ≤ 4 * record_len e
entry_len e h = omega (arith, length-append (cookie_text e.cookie) (command_text_in in_script e.command), cookie_text_len e.cookie h.cookie, command_len e.command h.numbers, record_is e h)

name_len : (version : Version) → length (name_text version) ≤ 13
name_len One = omega (arith, length-append (codes "bus1 script ") (decimal 1), length-decimal-le 1 1 (omega arith) (omega arith) (omega arith))
name_len Two = omega (arith, length-append (codes "bus1 script ") (decimal 2), length-decimal-le 1 2 (omega arith) (omega arith) (omega arith))

-- ---- lines

-- a quarter of the most bytes of a line
weight : Statement → ℕ
weight (says.Name version) = 4
weight (says.Clock clock) = 7
weight (says.Peer p) = 24
weight (says.Wire w) = 16
weight (says.Commands p) = 8
weight (says.Command e) = record_len e
weight (says.Turns turns) = 4 * length turns + 2

peer_len : (p : PeerSpec) → IsSpec p → length (peer_text p) ≤ 59
peer_len p h =
    let one : List ℕ = codes "peer " ++ decimal p.user ++ codes " " in
    let two : List ℕ = one ++ decimal p.pool ++ codes " " in
    let three : List ℕ = two ++ decimal p.limits.entries ++ codes " " in
    let four : List ℕ = three ++ decimal p.limits.bytes ++ codes " " in
    let a = length-append four (decimal p.limits.handles) in
    let b = length-append (three ++ decimal p.limits.bytes) (codes " ") in
    let c = length-append three (decimal p.limits.bytes) in
    let d = length-append (two ++ decimal p.limits.entries) (codes " ") in
    let e = length-append two (decimal p.limits.entries) in
    let f = length-append (one ++ decimal p.pool) (codes " ") in
    let g = length-append one (decimal p.pool) in
    let i = length-append (codes "peer " ++ decimal p.user) (codes " ") in
    let j = length-append (codes "peer ") (decimal p.user) in
    omega (arith, a, b, c, d, e, f, g, i, j, small_len p.user h.user, small_len p.pool h.pool, small_len p.limits.entries h.limits.entries, small_len p.limits.bytes h.limits.bytes, small_len p.limits.handles h.limits.handles)

wire_len : (w : Wire) → HasWireFields w → length (wire_text w) ≤ 51
wire_len w h =
    let one : List ℕ = codes "wire " ++ decimal w.from ++ codes " " in
    let two : List ℕ = one ++ script_handle_text w.number ++ codes " " in
    let a = length-append two (decimal w.to) in
    let b = length-append (one ++ script_handle_text w.number) (codes " ") in
    let c = length-append one (script_handle_text w.number) in
    let d = length-append (codes "wire " ++ decimal w.from) (codes " ") in
    let e = length-append (codes "wire ") (decimal w.from) in
    omega (arith, a, b, c, d, e, small_len w.from h.from, handle_len w.number h.number, small_len w.to h.to)

line_len : (s : Statement) → Fits s → length (line_text s) ≤ 4 * weight s
unfolding weight
line_len (says.Name version) h = omega (arith, name_len version, length-append (name_text version) (codes "\n"))
line_len (says.Clock clock) h = omega (arith, long_len clock h, length-append (codes "clock " ++ decimal clock) (codes "\n"), length-append (codes "clock ") (decimal clock))
line_len (says.Peer p) h = omega (arith, peer_len p h, length-append (peer_text p) (codes "\n"))
line_len (says.Wire w) h = omega (arith, wire_len w h, length-append (wire_text w) (codes "\n"))
line_len (says.Commands p) h = omega (arith, small_len p h, length-append (codes "commands " ++ decimal p) (codes "\n"), length-append (codes "commands ") (decimal p))
line_len (says.Command e) h = omega (arith, entry_len e h, length-append (entry_text e) (codes "\n"))
line_len (says.Turns ts) h = omega (arith, turn_list_len ts h.peers, length-append (codes "turns " ++ list_text decimal ts) (codes "\n"), length-append (codes "turns ") (list_text decimal ts))

weights : List Statement → ℕ
weights [] = 0
weights (s ∷ ss) = weight s + weights ss

lines_len : (ss : List Statement) → AllByRecursion Fits ss → length (flat_map line_text ss) ≤ 4 * weights ss
unfolding weights
lines_len [] h = omega arith
lines_len (s ∷ ss) h =
    let e = ap (λ (x : List ℕ). length x) (flat_map-cons line_text s ss) in
    let a = length-append (line_text s) (flat_map line_text ss) in
    let ih = lines_len ss h.1 in
    omega (arith, e, a, ih, line_len s h.0)

-- ---- the whole

weights-append : (a b : List Statement) → weights (a ++ b) ≡ weights a + weights b
unfolding weights
weights-append [] b = omega arith
weights-append (s ∷ ss) b = let ih = weights-append ss b in omega (arith, ih)

peers_weigh : (ps : List PeerSpec) → weights (map says.Peer ps) ≡ 24 * length ps
unfolding weights weight
peers_weigh [] = refl
peers_weigh (p ∷ ps) = let ih = peers_weigh ps in omega (arith, ih)

wires_weigh : (ws : List Wire) → weights (map says.Wire ws) ≡ 16 * length ws
unfolding weights weight
wires_weigh [] = refl
wires_weigh (w ∷ ws) = let ih = wires_weigh ws in omega (arith, ih)

commands_weigh : (cs : List Entry) → weights (map says.Command cs) ≡ records_sum cs
unfolding weights weight
commands_weigh [] = refl
commands_weigh (c ∷ cs) = let ih = commands_weigh cs in omega (arith, ih)

lists_weigh : (n : ℕ) (ls : List (List Entry)) → weights (flat_map list_statements (enumerate_from n ls)) ≡ 8 * length ls + lists_sum ls
unfolding weights weight
lists_weigh n [] = refl
lists_weigh n (cs ∷ ls) =
    let e = ap (λ (x : List Statement). weights x) (flat_map-cons list_statements (n, cs) (enumerate_from (n + 1) ls)) in
    let a = weights-append (map says.Command cs) (flat_map list_statements (enumerate_from (n + 1) ls)) in
    let ih = lists_weigh (n + 1) ls in
    omega (arith, e, a, ih, commands_weigh cs)

pub text_short : (bytes : List ℕ) (s : Script) → IsText bytes s → length bytes < MOST_TEXT
unfolding weights weight
text_short bytes s t =
    let has = t.writable.has_spelling in
    let said : List (List Entry) = entries_said s.cookies s.commands in
    let peers : List Statement = map says.Peer s.opening.peers in
    let wires : List Statement = map says.Wire s.opening.wires in
    let opening : List Statement = opening_statements s in
    let lists : List Statement = lists_statements said in
    let a = weights-append (opening ++ lists) (says.Turns s.turns ∷ []) in
    let b = weights-append opening lists in
    let c = weights-append peers wires in
    let same = ap (λ (x : List ℕ). length x) t.spelled in
    let long = lines_len (statements s) (statements_fit s t.writable) in
    let count = said_count s.cookies s.commands has.cookies in
    let under = most_under (length s.opening.peers) in
    omega (arith, same, long, a, b, c, peers_weigh s.opening.peers, wires_weigh s.opening.wires, lists_weigh 0 said, length_parts s has.cookies, count, has.short, under)
