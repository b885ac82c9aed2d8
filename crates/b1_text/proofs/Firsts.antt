-- The statement of a line, by the word that the line begins with.
use Rattle.std.proofs.Common.{◌≡◌, ◌≢◌, ℕ, ◌+◌, ◌*◌, ◌≤◌, Bool, true, false, ◌||◌, ◌⊎◌, inl, inr, eqb, leb, List, [], ◌∷◌, ◌++◌, drop, Option, Some, None, codes, refl, sym, ap, subst, ◌∙◌, append_assoc, arith, eq-eqb}
use Rattle.std.specs.Prelude.{IfSome}
use Rattle.std.specs.Fmt.{decimal}
use Rattle.std.proofs.lemmas.Fmt.{decimal_digit}
use Rattle.std.specs.List.{AllByRecursion}
use Rattle.b1_model.specs.declared.limits.TheConstants.{MOST_SCRIPT}
use Rattle.b1_model.specs.declared.commands.Command.{Command}
use Rattle.b1_model.specs.declared.commands.Command.TheVariants.{Disconnect, Query, Reset, Limit, Release, Destroy, SliceRelease, Send, Recv, Await}
use Rattle.b1_model.specs.declared.naming.PeerSpec.{PeerSpec}
use Rattle.b1_model.specs.declared.naming.Wire.{Wire}
use Rattle.b1_model.specs.declared.version.Version.{Version}
use Rattle.b1_model.specs.declared.version.Version.TheVariants.{One, Two}
use Rattle.b1_model.specs.Versions.{version_of, version_number}
use Rattle.b1_records.specs.Spelling.{Is32, Is64, IsWithin, IsWithin2, HasNumbers}
use Rattle.b1_script.specs.Spelling.{IsSpec, IsWithinOf}
use Rattle.b1_text_words.specs.declared.items.Form.TheVariants.{Script as in_script}
use Rattle.b1_text_words.specs.declared.items.Item.TheVariants.{UpTo}
use Rattle.b1_text_words.specs.Commands.{command_text_in, cookie_text, IsCommand}
use Rattle.b1_text_words.specs.Items.{item_text, AreItems}
use Rattle.b1_text_words.specs.Numbers.{list_text, script_handle_text}
use Rattle.b1_text_words.specs.Words.{Reads}
use Rattle.b1_text.specs.declared.statement.Entry.{Entry}
use Rattle.b1_text.specs.declared.statement.Statement.{Statement}
use Rattle.b1_text.specs.declared.statement.Statement.TheVariants as says
use Rattle.b1_text.specs.Texts.{plain, marked, entry_text, statement_text, peer_text, wire_text}
use Rattle.b1_text.specs.Bodies.{peer_body, wire_body, cookie_word, marked_body, IsMarked}
use Rattle.b1_text.specs.Nexts.{load_text}
use Rattle.b1_text.proofs.Sends.{flag_words, load_of, send_split}
use Rattle.b1_text.specs.Drafts.{HasWireFields, IsCarried, Fits}

-- ---- first bytes

unfoldable pub first : List ℕ → ℕ
first [] = 0
first (b ∷ bs) = b

-- the bytes that commands begin with
unfoldable pub starts : ℕ → Bool
starts b = (eqb b 35) || (eqb b 97) || (eqb b 100) || (eqb b 108) || (eqb b 113) || (eqb b 114) || (eqb b 115)

send_starts : (go_on : Bool) (x : List ℕ) → starts (first (flag_words go_on ++ x)) ≡ true
unfolding starts first
send_starts true x = refl
send_starts false x = refl

command_starts : (c : Command) → starts (first (command_text_in in_script c)) ≡ true
unfolding starts first
command_starts Disconnect = refl
command_starts Query = refl
command_starts (Reset limits) = refl
command_starts (Limit limits) = refl
command_starts (Release number) = refl
command_starts (Destroy numbers) = refl
command_starts (SliceRelease offset) = refl
command_starts (Send s) = ap (λ (x : List ℕ). starts (first x)) (send_split s) ∙ send_starts s.go_on (load_text (load_of s))
command_starts Recv = refl
command_starts Await = refl

entry_starts : (k : Option ℕ) (c : Command) → starts (first (cookie_text k ++ command_text_in in_script c)) ≡ true
unfolding starts first
entry_starts None c = command_starts c
entry_starts (Some n) c = refl

pub no_command : (word : List ℕ) (e : Entry) → starts (first word) ≡ false → word ≡ entry_text e → ⊥
no_command word e is same = let yes : starts (first word) ≡ true = ap (λ (x : List ℕ). starts (first x)) same ∙ entry_starts e.cookie e.command in cc

-- the first two bytes, as a number
two : List ℕ → ℕ
two [] = 0
two (a ∷ []) = 0
two (a ∷ b ∷ bs) = 256 * a + b

differ : {x y : List ℕ} → x ≡ y → eqb (two x) (two y) ≡ false → ⊥
differ {x = x} {y = y} e apart = let yes = eq-eqb (two x) (two y) (ap two e) in cc

-- ---- one kind of statement behind its word

pub three_parts : (a b c : List ℕ) → (((a ++ 32 ∷ []) ++ b) ++ 32 ∷ []) ++ c ≡ a ++ 32 ∷ (b ++ 32 ∷ c)
three_parts a b c = append_assoc ((a ++ 32 ∷ []) ++ b) (32 ∷ []) c ∙ append_assoc (a ++ 32 ∷ []) b (32 ∷ c) ∙ append_assoc a (32 ∷ []) (b ++ 32 ∷ c)

pub peer_split : (p : PeerSpec) → peer_text p ≡ codes "peer " ++ peer_body p
peer_split p = simp append_assoc

pub wire_split : (w : Wire) → wire_text w ≡ codes "wire " ++ wire_body w
wire_split w = ap (λ (x : List ℕ). codes "wire " ++ x) (three_parts (decimal w.from) (script_handle_text w.number) (decimal w.to))

pub record Kind {X : Type 0} (word : List ℕ) (text : X → List ℕ) (IsOf : X → Type 0) (make : X → Statement) : Type 0 where
  pub texts : (x : X) → statement_text (make x) ≡ word ++ text x
  pub fits : (x : X) → IsOf x → Fits (make x)
  pub only : (s : Statement) (body : List ℕ) → Fits s → word ++ body ≡ statement_text s → (x : X) × (s ≡ make x) × IsOf x × (body ≡ text x)

both_same : {X : Type 0} (x y : X) (s : Statement) (make : X → Statement) → Some x ≡ Some y → s ≡ make y → Some (make x) ≡ Some s
both_same x y s make both is = let same : x ≡ y = cc in ap (λ z. Some (make z)) same ∙ ap (λ z. Some z) (sym is)

pub some_reads : {X : Type 0} {word : List ℕ} {text : X → List ℕ} {IsOf : X → Type 0} {make : X → Statement} (k : Kind word text IsOf make) (body : List ℕ) (r : Option X) (x : X) → Reads text IsOf body r → r ≡ Some x → Reads statement_text Fits (word ++ body) (Some (make x))
some_reads {word = word} {text = text} {IsOf = IsOf} {make = make} k body r x reads is =
    let at = subst (λ o. Reads text IsOf body o) is reads in
    record {
      found = (k.fits x at.found.0, ap (λ (z : List ℕ). word ++ z) at.found.1 ∙ sym (k.texts x));
      whole = λ s fits same.
          let o = k.only s body fits same in
          let both = at.whole o.0 o.2 o.3 in
          both_same x o.0 s make both o.1;
    }

pub none_reads : {X : Type 0} {word : List ℕ} {text : X → List ℕ} {IsOf : X → Type 0} {make : X → Statement} (k : Kind word text IsOf make) (body : List ℕ) (r : Option X) → Reads text IsOf body r → r ≡ None → Reads statement_text Fits (word ++ body) None
none_reads {word = word} {text = text} {IsOf = IsOf} {make = make} k body r reads is =
    let at = subst (λ o. Reads text IsOf body o) is reads in
    record { found = tt; whole = λ s fits same. let o = k.only s body fits same in let both : None ≡ Some o.0 = at.whole o.0 o.2 o.3 in absurd (cc) }

-- ---- the statements that a word begins

pub only_clock : (s : Statement) (body : List ℕ) → Fits s → codes "clock " ++ body ≡ statement_text s → (n : ℕ) × (s ≡ says.Clock n) × Is64 n × (body ≡ decimal n)
unfolding starts first two
only_clock (says.Clock n) body fits e = (n, refl, fits, ap (λ (x : List ℕ). drop 6 x) e)
only_clock (says.Command c) body fits e = absurd (no_command (codes "clock " ++ body) c refl e)
only_clock (says.Name v) body fits e = absurd (differ e refl)
only_clock (says.Peer p) body fits e = absurd (differ e refl)
only_clock (says.Wire w) body fits e = absurd (differ e refl)
only_clock (says.Commands p) body fits e = absurd (differ e refl)
only_clock (says.Turns ts) body fits e = absurd (differ e refl)

pub only_peer : (s : Statement) (body : List ℕ) → Fits s → codes "peer " ++ body ≡ statement_text s → (p : PeerSpec) × (s ≡ says.Peer p) × IsSpec p × (body ≡ peer_body p)
unfolding starts first two
only_peer (says.Peer p) body fits e = (p, refl, fits, ap (λ (x : List ℕ). drop 5 x) (e ∙ peer_split p))
only_peer (says.Command c) body fits e = absurd (no_command (codes "peer " ++ body) c refl e)
only_peer (says.Name v) body fits e = absurd (differ e refl)
only_peer (says.Clock n) body fits e = absurd (differ e refl)
only_peer (says.Wire w) body fits e = absurd (differ e refl)
only_peer (says.Commands p) body fits e = absurd (differ e refl)
only_peer (says.Turns ts) body fits e = absurd (differ e refl)

pub only_wire : (s : Statement) (body : List ℕ) → Fits s → codes "wire " ++ body ≡ statement_text s → (w : Wire) × (s ≡ says.Wire w) × HasWireFields w × (body ≡ wire_body w)
unfolding starts first two
only_wire (says.Wire w) body fits e = (w, refl, fits, ap (λ (x : List ℕ). drop 5 x) (e ∙ wire_split w))
only_wire (says.Command c) body fits e = absurd (no_command (codes "wire " ++ body) c refl e)
only_wire (says.Name v) body fits e = absurd (differ e refl)
only_wire (says.Clock n) body fits e = absurd (differ e refl)
only_wire (says.Peer p) body fits e = absurd (differ e refl)
only_wire (says.Commands p) body fits e = absurd (differ e refl)
only_wire (says.Turns ts) body fits e = absurd (differ e refl)

pub only_commands : (s : Statement) (body : List ℕ) → Fits s → codes "commands " ++ body ≡ statement_text s → (n : ℕ) × (s ≡ says.Commands n) × Is32 n × (body ≡ decimal n)
unfolding starts first two
only_commands (says.Commands n) body fits e = (n, refl, fits, ap (λ (x : List ℕ). drop 9 x) e)
only_commands (says.Command c) body fits e = absurd (no_command (codes "commands " ++ body) c refl e)
only_commands (says.Name v) body fits e = absurd (differ e refl)
only_commands (says.Clock n) body fits e = absurd (differ e refl)
only_commands (says.Peer p) body fits e = absurd (differ e refl)
only_commands (says.Wire w) body fits e = absurd (differ e refl)
only_commands (says.Turns ts) body fits e = absurd (differ e refl)

pub each_up : (ts : List ℕ) → AllByRecursion (λ n. n ≤ 4294967295) ts → AllByRecursion Is32 ts
each_up [] h = tt
each_up (t ∷ ts) h = (omega (arith, h.0), each_up ts h.1)

each_down : (ts : List ℕ) → AllByRecursion Is32 ts → AllByRecursion (λ n. n ≤ 4294967295) ts
each_down [] h = tt
each_down (t ∷ ts) h = (omega (arith, h.0), each_down ts h.1)

pub only_turns : (s : Statement) (body : List ℕ) → Fits s → codes "turns " ++ body ≡ statement_text s → (ts : List ℕ) × (s ≡ says.Turns ts) × AreItems (UpTo 4294967295) MOST_SCRIPT ts × (body ≡ list_text decimal ts)
unfolding starts first two
only_turns (says.Turns ts) body fits e = (ts, refl, record { items = each_down ts fits.peers; few = fits.few }, ap (λ (x : List ℕ). drop 6 x) e)
only_turns (says.Command c) body fits e = absurd (no_command (codes "turns " ++ body) c refl e)
only_turns (says.Name v) body fits e = absurd (differ e refl)
only_turns (says.Clock n) body fits e = absurd (differ e refl)
only_turns (says.Peer p) body fits e = absurd (differ e refl)
only_turns (says.Wire w) body fits e = absurd (differ e refl)
only_turns (says.Commands n) body fits e = absurd (differ e refl)

pub turns_are : (ts : List ℕ) → AreItems (UpTo 4294967295) MOST_SCRIPT ts → AllByRecursion Is32 ts
turns_are ts h = each_up ts h.items

abbrev pub clock_kind : Kind (codes "clock ") decimal Is64 (λ n. says.Clock n)
clock_kind = record { texts = λ n. refl; fits = λ n h. h; only = only_clock }

abbrev pub peer_kind : Kind (codes "peer ") peer_body IsSpec (λ p. says.Peer p)
peer_kind = record { texts = peer_split; fits = λ p h. h; only = only_peer }

abbrev pub wire_kind : Kind (codes "wire ") wire_body HasWireFields (λ w. says.Wire w)
wire_kind = record { texts = wire_split; fits = λ w h. h; only = only_wire }

abbrev pub commands_kind : Kind (codes "commands ") decimal Is32 (λ n. says.Commands n)
commands_kind = record { texts = λ n. refl; fits = λ n h. h; only = only_commands }

abbrev pub turns_kind : Kind (codes "turns ") (list_text (item_text (UpTo 4294967295))) (AreItems (UpTo 4294967295) MOST_SCRIPT) (λ ts. says.Turns ts)
turns_kind = record { texts = λ ts. refl; fits = λ ts h. record { peers = each_up ts h.items; few = h.few }; only = only_turns }

-- ---- the name, and commands

-- the number of a version
abbrev pub version_text : Version → List ℕ
version_text version = decimal (version_number version)

abbrev pub AnyVersion : Version → Type 0
AnyVersion version = Unit {0}

pub only_name : (s : Statement) (body : List ℕ) → Fits s → codes "bus1 script " ++ body ≡ statement_text s → (v : Version) × (s ≡ says.Name v) × AnyVersion v × (body ≡ version_text v)
unfolding starts first two
only_name (says.Name v) body fits e = (v, refl, tt, ap (λ (x : List ℕ). drop 12 x) e)
only_name (says.Command c) body fits e = absurd (no_command (codes "bus1 script " ++ body) c refl e)
only_name (says.Clock n) body fits e = absurd (differ e refl)
only_name (says.Peer p) body fits e = absurd (differ e refl)
only_name (says.Wire w) body fits e = absurd (differ e refl)
only_name (says.Commands n) body fits e = absurd (differ e refl)
only_name (says.Turns ts) body fits e = absurd (differ e refl)

abbrev pub name_kind : Kind (codes "bus1 script ") version_text AnyVersion (λ v. says.Name v)
name_kind = record { texts = λ v. refl; fits = λ v h. tt; only = only_name }

pub version_digit : (v : Version) → version_text v ≡ (48 + version_number v) ∷ []
version_digit One = decimal_digit 1 (omega arith)
version_digit Two = decimal_digit 2 (omega arith)

abbrev head_of : List ℕ → ℕ
head_of [] = 0
head_of (b ∷ bs) = b

same_number : (v w : Version) → version_number v ≡ version_number w → v ≡ w
same_number One One e = refl
same_number One Two e = absurd (omega (arith, e))
same_number Two One e = absurd (omega (arith, e))
same_number Two Two e = refl

pub same_digit : (v w : Version) → version_text v ≡ version_text w → v ≡ w
same_digit v w e =
    let heads : 48 + version_number v ≡ 48 + version_number w = ap head_of (sym (version_digit v) ∙ e ∙ version_digit w) in
    same_number v w (omega (arith, heads))

-- the line of a version
pub version_reads : (body : List ℕ) (v : Version) → body ≡ (48 + version_number v) ∷ [] → Reads statement_text Fits (codes "bus1 script " ++ body) (Some (says.Name v))
version_reads body v same =
    let is : body ≡ version_text v = same ∙ sym (version_digit v) in
    some_reads name_kind body (Some v) v (record { found = (tt, is); whole = λ w h e. ap (λ z. Some z) (same_digit v w (sym is ∙ e)) }) refl

pub no_version_reads : (body : List ℕ) → body ≢ codes "1" → body ≢ codes "2" → Reads statement_text Fits (codes "bus1 script " ++ body) None
no_version_reads body one two = none_reads name_kind body None (record { found = tt; whole = λ w h e. absurd (by w (e ∙ version_digit w)) }) refl
  where
    by : (w : Version) → body ≡ (48 + version_number w) ∷ [] → ⊥
    by One e = one e
    by Two e = two e

-- a line that begins with none of the words of other statements
pub record IsOther (line : List ℕ) : Type 0 where
  pub name : (rest : List ℕ) → line ≢ codes "bus1 script " ++ rest
  pub clock : (rest : List ℕ) → line ≢ codes "clock " ++ rest
  pub peer : (rest : List ℕ) → line ≢ codes "peer " ++ rest
  pub wire : (rest : List ℕ) → line ≢ codes "wire " ++ rest
  pub commands : (rest : List ℕ) → line ≢ codes "commands " ++ rest
  pub turns : (rest : List ℕ) → line ≢ codes "turns " ++ rest

only_command : (line : List ℕ) (s : Statement) → IsOther line → Fits s → line ≡ statement_text s → (e : Entry) × (s ≡ says.Command e) × IsCarried e × (line ≡ entry_text e)
only_command line (says.Command e) other fits same = (e, refl, fits, same)
only_command line (says.Name v) other fits e = absurd (other.name (version_text v) e)
only_command line (says.Clock n) other fits e = absurd (other.clock (decimal n) e)
only_command line (says.Peer p) other fits e = absurd (other.peer (peer_body p) (e ∙ peer_split p))
only_command line (says.Wire w) other fits e = absurd (other.wire (wire_body w) (e ∙ wire_split w))
only_command line (says.Commands n) other fits e = absurd (other.commands (decimal n) e)
only_command line (says.Turns ts) other fits e = absurd (other.turns (list_text decimal ts) e)

-- what a line can say of a command is what a record can carry
within_two : (c : Command) → IsCommand in_script Two c → IsWithin2 c
within_two Disconnect h = tt
within_two Query h = tt
within_two (Reset limits) h = tt
within_two (Limit limits) h = tt
within_two (Release number) h = tt
within_two (Destroy numbers) h = h.few
within_two (SliceRelease offset) h = tt
within_two (Send s) h = record { to = h.to.few; with = h.with.few; payload = h.payload.few }
within_two Recv h = tt
within_two Await h = tt

numbers_two : (c : Command) → IsCommand in_script Two c → HasNumbers c
numbers_two Disconnect h = tt
numbers_two Query h = tt
numbers_two (Reset limits) h = record { entries = h.entries; bytes = h.bytes; handles = h.handles }
numbers_two (Limit limits) h = record { entries = h.entries; bytes = h.bytes; handles = h.handles }
numbers_two (Release number) h = h
numbers_two (Destroy numbers) h = h.items
numbers_two (SliceRelease offset) h = h
numbers_two (Send s) h = record { to = h.to.items; with = h.with.items; payload = h.payload.items }
numbers_two Recv h = tt
numbers_two Await h = tt

pub command_two : (c : Command) → IsWithin2 c → HasNumbers c → IsCommand in_script Two c
command_two Disconnect w h = tt
command_two Query w h = tt
command_two (Reset limits) w h = record { entries = h.entries; bytes = h.bytes; handles = h.handles }
command_two (Limit limits) w h = record { entries = h.entries; bytes = h.bytes; handles = h.handles }
command_two (Release number) w h = h
command_two (Destroy numbers) w h = record { items = h; few = w }
command_two (SliceRelease offset) w h = h
command_two (Send s) w h = record { to = record { items = h.to; few = w.to }; with = record { items = h.with; few = w.with }; payload = record { items = h.payload; few = w.payload } }
command_two Recv w h = tt
command_two Await w h = tt

two_of_one : (c : Command) → IsCommand in_script One c → IsCommand in_script Two c
two_of_one Disconnect h = tt
two_of_one Query h = tt
two_of_one (Reset limits) h = h
two_of_one (Limit limits) h = absurd h
two_of_one (Release number) h = h
two_of_one (Destroy numbers) h = h
two_of_one (SliceRelease offset) h = h
two_of_one (Send s) h = h
two_of_one Recv h = tt
two_of_one Await h = tt

within_one : (c : Command) → IsCommand in_script One c → IsWithin c
within_one Disconnect h = tt
within_one Query h = tt
within_one (Reset limits) h = tt
within_one (Limit limits) h = absurd h
within_one (Release number) h = tt
within_one (Destroy numbers) h = h.few
within_one (SliceRelease offset) h = tt
within_one (Send s) h = record { to = h.to.few; with = h.with.few; payload = h.payload.few }
within_one Recv h = tt
within_one Await h = tt

pub command_one : (c : Command) → IsWithin c → HasNumbers c → IsCommand in_script One c
command_one Disconnect w h = tt
command_one Query w h = tt
command_one (Reset limits) w h = record { entries = h.entries; bytes = h.bytes; handles = h.handles }
command_one (Limit limits) w h = absurd w
command_one (Release number) w h = h
command_one (Destroy numbers) w h = record { items = h; few = w }
command_one (SliceRelease offset) w h = h
command_one (Send s) w h = record { to = record { items = h.to; few = w.to }; with = record { items = h.with; few = w.with }; payload = record { items = h.payload; few = w.payload } }
command_one Recv w h = tt
command_one Await w h = tt

-- a command alone, and one behind its cookie
pub plain_carried : (c : Command) → IsCommand in_script One c → IsCarried (plain c)
plain_carried c h = record { within = within_one c h; numbers = numbers_two c (two_of_one c h); cookie = tt }

pub marked_carried : (x : ℕ × Command) → IsMarked x → IsCarried (marked x)
marked_carried x h = record { within = within_two x.1 h.command; numbers = numbers_two x.1 h.command; cookie = h.cookie }

pub marked_text : (x : ℕ × Command) → entry_text (marked x) ≡ marked_body x
marked_text x = append_assoc (cookie_word x.0) (codes " ") (command_text_in in_script x.1)

-- the entry of a line is a command alone, or one behind its cookie
abbrev IsEither : List ℕ → Entry → Type 0
IsEither line e = ((c : Command) × (e ≡ plain c) × IsCommand in_script One c × (line ≡ command_text_in in_script c)) ⊎ ((x : ℕ × Command) × (e ≡ marked x) × IsMarked x × (line ≡ marked_body x))

either : (line : List ℕ) (k : Option ℕ) (c : Command) → IsWithinOf (version_of k) c → HasNumbers c → IfSome k Is64 → line ≡ cookie_text k ++ command_text_in in_script c → IsEither line (record { cookie = k; command = c })
either line None c within numbers fits same = inl (c, refl, command_one c within numbers, same)
either line (Some n) c within numbers fits same = inr ((n, c), refl, record { cookie = fits; command = command_two c within numbers }, same ∙ marked_text (n, c))

-- a command's words begin with a letter, and a cookie with another byte
letters : ℕ → Bool
letters b = leb 97 b

send_letters : (go_on : Bool) (x : List ℕ) → letters (first (flag_words go_on ++ x)) ≡ true
unfolding letters first
send_letters true x = refl
send_letters false x = refl

command_letters : (c : Command) → letters (first (command_text_in in_script c)) ≡ true
unfolding letters first
command_letters Disconnect = refl
command_letters Query = refl
command_letters (Reset limits) = refl
command_letters (Limit limits) = refl
command_letters (Release number) = refl
command_letters (Destroy numbers) = refl
command_letters (SliceRelease offset) = refl
command_letters (Send s) = ap (λ (x : List ℕ). letters (first x)) (send_split s) ∙ send_letters s.go_on (load_text (load_of s))
command_letters Recv = refl
command_letters Await = refl

hash_first : (x : ℕ × Command) → letters (first (marked_body x)) ≡ false
unfolding letters first
hash_first x = refl

pub hash_or_letter : (x : ℕ × Command) (c : Command) → marked_body x ≡ command_text_in in_script c → ⊥
hash_or_letter x c e = let both : false ≡ true = sym (hash_first x) ∙ ap (λ (w : List ℕ). letters (first w)) e ∙ command_letters c in cc

-- a line that says a command behind its cookie
pub marked_reads : (line : List ℕ) (m : Option (ℕ × Command)) (x : ℕ × Command) → IsOther line → Reads marked_body IsMarked line m → m ≡ Some x → Reads statement_text Fits line (Some (says.Command (marked x)))
marked_reads line m x other reads is =
    let at = subst (λ o. Reads marked_body IsMarked line o) is reads in
    record {
      found = (marked_carried x at.found.0, at.found.1 ∙ sym (marked_text x));
      whole = λ s fits same.
          let o = only_command line s other fits same in
          elim (either line o.0.cookie o.0.command o.2.within o.2.numbers o.2.cookie o.3) [
            | inl p ↦ absurd (hash_or_letter x p.0 (sym at.found.1 ∙ p.3))
            | inr y ↦ both_same x y.0 s (λ d. says.Command (marked d)) (at.whole y.0 y.2 y.3) (o.1 ∙ ap (λ (e : Entry). says.Command e) y.1)
          ];
    }

-- a line that says a command alone
pub plain_reads : (line : List ℕ) (m : Option (ℕ × Command)) (r : Option Command) (c : Command) → IsOther line → Reads marked_body IsMarked line m → m ≡ None → Reads (command_text_in in_script) (IsCommand in_script One) line r → r ≡ Some c → Reads statement_text Fits line (Some (says.Command (plain c)))
plain_reads line m r c other unmarked none reads is =
    let at = subst (λ o. Reads (command_text_in in_script) (IsCommand in_script One) line o) is reads in
    let no = subst (λ o. Reads marked_body IsMarked line o) none unmarked in
    record {
      found = (plain_carried c at.found.0, at.found.1);
      whole = λ s fits same.
          let o = only_command line s other fits same in
          elim (either line o.0.cookie o.0.command o.2.within o.2.numbers o.2.cookie o.3) [
            | inl p ↦ both_same c p.0 s (λ d. says.Command (plain d)) (at.whole p.0 p.2 p.3) (o.1 ∙ ap (λ (e : Entry). says.Command e) p.1)
            | inr y ↦ let both : None ≡ Some y.0 = no.whole y.0 y.2 y.3 in absurd (cc)
          ];
    }

-- a line that says neither
pub nothing_reads : (line : List ℕ) (m : Option (ℕ × Command)) (r : Option Command) → IsOther line → Reads marked_body IsMarked line m → m ≡ None → Reads (command_text_in in_script) (IsCommand in_script One) line r → r ≡ None → Reads statement_text Fits line None
nothing_reads line m r other unmarked none reads is =
    let at = subst (λ o. Reads (command_text_in in_script) (IsCommand in_script One) line o) is reads in
    let no = subst (λ o. Reads marked_body IsMarked line o) none unmarked in
    record {
      found = tt;
      whole = λ s fits same.
          let o = only_command line s other fits same in
          elim (either line o.0.cookie o.0.command o.2.within o.2.numbers o.2.cookie o.3) [
            | inl p ↦ let both : None ≡ Some p.0 = at.whole p.0 p.2 p.3 in absurd (cc)
            | inr y ↦ let both : None ≡ Some y.0 = no.whole y.0 y.2 y.3 in absurd (cc)
          ];
    }
