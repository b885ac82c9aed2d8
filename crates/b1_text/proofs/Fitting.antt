-- Each statement of a script fits its fields, and its text has no line feed.
use Rattle.std.proofs.Common.{◌≡◌, ◌≢◌, ℕ, ◌+◌, ◌-◌, ◌/◌, ◌%◌, ◌^◌, ◌<◌, ◌≤◌, Bool, true, false, not, cond, eqb, ltb, List, [], ◌∷◌, ◌++◌, length, map, Option, Some, None, refl, sym, subst, ◌∙◌, codes, arith}
use Rattle.std.specs.Prelude.{IfSome}
use Rattle.std.specs.Fmt.{decimal}
use Rattle.std.specs.List.{flat_map, enumerate_from, list_all, AllByRecursion}
use Rattle.std.proofs.lemmas.Bool.{eqb-false, not-true}
use Rattle.std.proofs.lemmas.Fmt.{decimal_by_steps}
use Rattle.b1_model.specs.declared.commands.Command.{Command}
use Rattle.b1_model.specs.declared.commands.Command.TheVariants.{Disconnect, Query, Reset, Limit, Release, Destroy, SliceRelease, Send, Recv, Await}
use Rattle.b1_model.specs.declared.commands.SendCmd.{SendCmd}
use Rattle.b1_model.specs.declared.naming.Limits.{Limits}
use Rattle.b1_model.specs.declared.naming.PeerSpec.{PeerSpec}
use Rattle.b1_model.specs.declared.naming.Wire.{Wire}
use Rattle.b1_model.specs.declared.limits.TheConstants.{MOST_PEERS}
use Rattle.b1_model.specs.declared.version.Version.{Version}
use Rattle.b1_model.specs.declared.version.Version.TheVariants.{One, Two}
use Rattle.b1_model.specs.Opening.{after_wire, AreWired}
use Rattle.b1_model.specs.Versions.{version_of}
use Rattle.b1_records.specs.Spelling.{Is32, Is64, AreLimits, HasNumbers, IsSend}
use Rattle.b1_script.specs.declared.script.Script.{Script}
use Rattle.b1_script.specs.Spelling.{IsSpec, IsWire}
use Rattle.b1_script.proofs.Laws.{most_under}
use Rattle.b1_text_words.specs.declared.items.Form.TheVariants.{Script as in_script}
use Rattle.b1_text_words.specs.Commands.{command_text_in, cookie_text, limits_text, HasWords}
use Rattle.b1_text_words.specs.Numbers.{script_handle_text, script_offset_text, list_text, hex_pair, hex_text}
use Rattle.b1_text.specs.declared.statement.Entry.{Entry}
use Rattle.b1_text.specs.declared.statement.Statement.{Statement}
use Rattle.b1_text.specs.declared.statement.Statement.TheVariants as says
use Rattle.b1_text.specs.Texts.{name_text, statement_text, entries_said, list_statements, lists_statements, statements}
use Rattle.b1_text.specs.Accepted.{IsWritable, IsLine}
use Rattle.b1_text.specs.Drafts.{IsCarried, Fits}
use Rattle.b1_text.proofs.Entries.{said_count, said_carried}
use Rattle.b1_text.proofs.Lengths.{length_parts}
use Rattle.b1_text.proofs.Judging.{both_of}
use Rattle.b1_text.specs.Nexts.{load_text}
use Rattle.b1_text.proofs.Sends.{flag_words, load_of, send_split}

pub all_both : {A : Type 0} (P : A → Type 0) (xs ys : List A) → AllByRecursion P xs → AllByRecursion P ys → AllByRecursion P (xs ++ ys)
all_both P [] ys h k = k
all_both P (x ∷ xs) ys h k = (h.0, all_both P xs ys h.1 k)

pub all_at : {A : Type 0} (P : A → Type 0) (xs ys : List A) (x : A) → AllByRecursion P (xs ++ x ∷ ys) → P x
all_at P [] ys x h = h.0
all_at P (y ∷ xs) ys x h = all_at P xs ys x h.1

-- ---- numbers fit

peers_fit : (ps : List PeerSpec) → AllByRecursion IsSpec ps → AllByRecursion Fits (map says.Peer ps)
peers_fit [] h = tt
peers_fit (p ∷ ps) h = (h.0, peers_fit ps h.1)

wires_fit : (n : ℕ) (ws held : List Wire) → n ≤ MOST_PEERS → AreWired n held ws → AllByRecursion IsWire ws → AllByRecursion Fits (map says.Wire ws)
wires_fit n [] held few h k = tt
wires_fit n (w ∷ ws) held few h k = (record { from = omega (arith, h.0.from, few); to = omega (arith, h.0.to, few); number = k.0 }, wires_fit n ws (after_wire held w) few h.1 k.1)

commands_fit : (es : List Entry) → AllByRecursion IsCarried es → AllByRecursion Fits (map says.Command es)
commands_fit [] h = tt
commands_fit (e ∷ es) h = (h.0, commands_fit es h.1)

lists_fit : (ls : List (List Entry)) (n : ℕ) → n + length ls ≤ MOST_PEERS → AllByRecursion (AllByRecursion IsCarried) ls → AllByRecursion Fits (flat_map list_statements (enumerate_from n ls))
lists_fit [] n few h = tt
lists_fit (es ∷ ls) n few h =
    all_both Fits (says.Commands n ∷ map says.Command es) (flat_map list_statements (enumerate_from (n + 1) ls)) (omega (arith, few), commands_fit es h.0) (lists_fit ls (n + 1) (omega (arith, few)) h.1)

turns_fit : (n : ℕ) (ts : List ℕ) → n ≤ MOST_PEERS → AllByRecursion (λ p. p < n) ts → AllByRecursion Is32 ts
turns_fit n [] few h = tt
turns_fit n (t ∷ ts) few h = (omega (arith, h.0, few), turns_fit n ts few h.1)

pub statements_fit : (s : Script) → IsWritable s → AllByRecursion Fits (statements s)
statements_fit s is =
    let has = is.has_spelling in
    let o = has.opening in
    let said : List (List Entry) = entries_said s.cookies s.commands in
    let few : length s.opening.peers ≤ MOST_PEERS = o.most in
    let n : length said ≡ length s.opening.peers = said_count s.cookies s.commands has.cookies ∙ has.lists in
    let name : Statement = says.Name (version_of s.cookies) in
    let front : List Statement = name ∷ says.Clock s.opening.first_clock ∷ (map says.Peer s.opening.peers ++ map says.Wire s.opening.wires) in
    let start : AllByRecursion Fits front
    = (tt, (omega (arith, o.clock), all_both Fits (map says.Peer s.opening.peers) (map says.Wire s.opening.wires) (peers_fit s.opening.peers is.fields.peers) (wires_fit (length s.opening.peers) s.opening.wires [] few o.wires is.fields.wires))) in
    let lists = lists_fit said 0 (omega (arith, n, few)) (said_carried s.cookies s.commands has.commands is.fields.commands is.fields.cookies) in
    all_both Fits (front ++ lists_statements said) (says.Turns s.turns ∷ []) (all_both Fits front (lists_statements said) start lists)
    (record { peers = turns_fit (length s.opening.peers) s.turns few has.turns; few = omega (arith, length_parts s has.cookies, has.short, most_under (length s.opening.peers)) }, tt)

-- ---- no line feed

-- words without line feeds, by a test
pub clean : (word : List ℕ) → list_all (λ b. not (eqb b 10)) word ≡ true → IsLine word
clean [] h = tt
clean (b ∷ bs) h =
    let t = both_of (not (eqb b 10)) (list_all (λ b. not (eqb b 10)) bs) h in
    (eqb-false b 10 (not-true (eqb b 10) t.0), clean bs t.1)

joined : (a b : List ℕ) → IsLine a → IsLine b → IsLine (a ++ b)
joined a b h k = all_both (λ c. c ≢ 10) a b h k

-- a text behind fixed bytes
behind : (word text : List ℕ) → list_all (λ b. not (eqb b 10)) word ≡ true → IsLine text → IsLine (word ++ text)
behind word text test h = joined word text (clean word test) h

abbrev space : List ℕ
space = codes " "

decimal_clean : (n : ℕ) → n < 2 ^ 64 → IsLine (decimal n)
decimal_clean n small = decimal_by_steps (λ _ ds. IsLine ds) (λ m low. (omega arith, tt)) (λ m ds high h. joined ds ((48 + m % 10) ∷ []) h (omega arith, tt)) n small

-- two numbers with a space between them
spaced : (a b : List ℕ) → IsLine a → IsLine b → IsLine (a ++ space ++ b)
spaced a b h k = joined (a ++ space) b (joined a space h (clean space refl)) k

odd_clean : (b : Bool) (x y : List ℕ) → IsLine x → IsLine y → IsLine (cond b x y)
odd_clean true x y h k = h
odd_clean false x y h k = k

handle_clean : (n : ℕ) → Is64 n → IsLine (script_handle_text n)
handle_clean n small =
    odd_clean (eqb (n % 2) 1) (codes "@" ++ decimal (n / 128) ++ codes "." ++ decimal (n / 2 % 64)) (decimal n)
    (joined (codes "@" ++ decimal (n / 128) ++ codes ".") (decimal (n / 2 % 64)) (joined (codes "@" ++ decimal (n / 128)) (codes ".") (behind (codes "@") (decimal (n / 128)) refl (decimal_clean (n / 128) (omega (arith, small)))) (clean (codes ".") refl)) (decimal_clean (n / 2 % 64) (omega arith)))
    (decimal_clean n small)

offset_clean : (n : ℕ) → Is64 n → IsLine (script_offset_text n)
offset_clean n small = odd_clean (eqb (n % 2) 1) (codes "@" ++ decimal (n / 2)) (decimal n) (behind (codes "@") (decimal (n / 2)) refl (decimal_clean (n / 2) (omega (arith, small)))) (decimal_clean n small)

items_clean : (P : ℕ → Type 0) (text : ℕ → List ℕ) → ((n : ℕ) → P n → IsLine (text n)) → (ns : List ℕ) → AllByRecursion P ns → IsLine (flat_map (λ n. codes "," ++ text n) ns)
items_clean P text f [] h = tt
items_clean P text f (n ∷ ns) h = joined (codes "," ++ text n) (flat_map (λ n. codes "," ++ text n) ns) (behind (codes ",") (text n) refl (f n h.0)) (items_clean P text f ns h.1)

list_clean : (P : ℕ → Type 0) (text : ℕ → List ℕ) → ((n : ℕ) → P n → IsLine (text n)) → (ns : List ℕ) → AllByRecursion P ns → IsLine (list_text text ns)
list_clean P text f [] h = clean (codes "-") refl
list_clean P text f (n ∷ ns) h = joined (text n) (flat_map (λ n. codes "," ++ text n) ns) (f n h.0) (items_clean P text f ns h.1)

digit_clean : (n : ℕ) (b : Bool) → cond b (48 + n) (97 + (n - 10)) ≢ 10
digit_clean n true = omega arith
digit_clean n false = omega arith

pairs_clean : (bs : List ℕ) → IsLine (flat_map hex_pair bs)
pairs_clean [] = tt
pairs_clean (b ∷ bs) = (digit_clean (b / 16) (ltb (b / 16) 10), (digit_clean (b % 16) (ltb (b % 16) 10), pairs_clean bs))

hex_clean : (bs : List ℕ) → IsLine (hex_text bs)
hex_clean [] = clean (codes "-") refl
hex_clean (b ∷ bs) = pairs_clean (b ∷ bs)

flag_clean : (b : Bool) → IsLine (flag_words b)
flag_clean true = clean (codes "send 1 to ") refl
flag_clean false = clean (codes "send 0 to ") refl

spaced_off : (a b : List ℕ) → IsLine a → IsLine b → IsLine (a ++ 32 ∷ b)
spaced_off a b h k = joined a (32 ∷ b) h (omega arith, k)

load_clean : (s : SendCmd) → IsSend s → IsLine (load_text (load_of s))
load_clean s h =
    let to = list_clean Is64 script_handle_text handle_clean s.to h.to in
    let with = list_clean Is64 script_handle_text handle_clean s.with h.with in
    let tail = behind (codes "data ") (hex_text s.payload) refl (hex_clean s.payload) in
    let cargo = spaced_off (list_text script_handle_text s.with) (codes "data " ++ hex_text s.payload) with tail in
    spaced_off (list_text script_handle_text s.to) (codes "with " ++ (list_text script_handle_text s.with ++ 32 ∷ (codes "data " ++ hex_text s.payload))) to (behind (codes "with ") (list_text script_handle_text s.with ++ 32 ∷ (codes "data " ++ hex_text s.payload)) refl cargo)

-- a command of a script has words
pub has_words : (c : Command) → HasWords in_script c
has_words c = tt

limits_clean : (word : List ℕ) (limits : Limits) → list_all (λ b. not (eqb b 10)) word ≡ true → AreLimits limits → IsLine (word ++ limits_text limits)
limits_clean word limits test h =
    behind word (limits_text limits) test
    (spaced (decimal limits.entries ++ space ++ decimal limits.bytes) (decimal limits.handles)
    (spaced (decimal limits.entries) (decimal limits.bytes) (decimal_clean limits.entries (omega (arith, h.entries))) (decimal_clean limits.bytes (omega (arith, h.bytes))))
    (decimal_clean limits.handles (omega (arith, h.handles))))

command_clean : (c : Command) → HasNumbers c → IsLine (command_text_in in_script c)
command_clean Disconnect h = clean (codes "disconnect") refl
command_clean Query h = clean (codes "query") refl
command_clean (Reset limits) h = limits_clean (codes "reset ") limits refl h
command_clean (Limit limits) h = limits_clean (codes "limit ") limits refl h
command_clean (Release number) h = behind (codes "release ") (script_handle_text number) refl (handle_clean number h)
command_clean (Destroy numbers) h = behind (codes "destroy ") (list_text script_handle_text numbers) refl (list_clean Is64 script_handle_text handle_clean numbers h)
command_clean (SliceRelease offset) h = behind (codes "slice ") (script_offset_text offset) refl (offset_clean offset h)
command_clean (Send send) h =
    subst (λ (x : List ℕ). IsLine x) (sym (send_split send)) (joined (flag_words send.go_on) (load_text (load_of send)) (flag_clean send.go_on) (load_clean send h))
command_clean Recv h = clean (codes "recv") refl
command_clean Await h = clean (codes "await") refl

cookie_clean : (k : Option ℕ) → IfSome k Is64 → IsLine (cookie_text k)
cookie_clean None h = tt
cookie_clean (Some n) h = joined (codes "#" ++ decimal n) space (behind (codes "#") (decimal n) refl (decimal_clean n h)) (clean space refl)

name_clean : (version : Version) → IsLine (name_text version)
name_clean One = behind (codes "bus1 script ") (decimal 1) refl (decimal_clean 1 (omega arith))
name_clean Two = behind (codes "bus1 script ") (decimal 2) refl (decimal_clean 2 (omega arith))

pub statement_clean : (s : Statement) → Fits s → IsLine (statement_text s)
statement_clean (says.Name version) h = name_clean version
statement_clean (says.Clock clock) h = behind (codes "clock ") (decimal clock) refl (decimal_clean clock h)
statement_clean (says.Peer p) h =
    let a = behind (codes "peer ") (decimal p.user) refl (decimal_clean p.user (omega (arith, h.user))) in
    let b = spaced (codes "peer " ++ decimal p.user) (decimal p.pool) a (decimal_clean p.pool (omega (arith, h.pool))) in
    let c = spaced (codes "peer " ++ decimal p.user ++ space ++ decimal p.pool) (decimal p.limits.entries) b (decimal_clean p.limits.entries (omega (arith, h.limits.entries))) in
    let d = spaced (codes "peer " ++ decimal p.user ++ space ++ decimal p.pool ++ space ++ decimal p.limits.entries) (decimal p.limits.bytes) c (decimal_clean p.limits.bytes (omega (arith, h.limits.bytes))) in
    spaced (codes "peer " ++ decimal p.user ++ space ++ decimal p.pool ++ space ++ decimal p.limits.entries ++ space ++ decimal p.limits.bytes) (decimal p.limits.handles) d (decimal_clean p.limits.handles (omega (arith, h.limits.handles)))
statement_clean (says.Wire w) h =
    let a = behind (codes "wire ") (decimal w.from) refl (decimal_clean w.from (omega (arith, h.from))) in
    let b = spaced (codes "wire " ++ decimal w.from) (script_handle_text w.number) a (handle_clean w.number h.number) in
    spaced (codes "wire " ++ decimal w.from ++ space ++ script_handle_text w.number) (decimal w.to) b (decimal_clean w.to (omega (arith, h.to)))
statement_clean (says.Commands p) h = behind (codes "commands ") (decimal p) refl (decimal_clean p (omega (arith, h)))
statement_clean (says.Command e) h = joined (cookie_text e.cookie) (command_text_in in_script e.command) (cookie_clean e.cookie h.cookie) (command_clean e.command h.numbers)
statement_clean (says.Turns turns) h = behind (codes "turns ") (list_text decimal turns) refl (list_clean Is32 decimal (λ n k. decimal_clean n (omega (arith, k))) turns h.peers)
