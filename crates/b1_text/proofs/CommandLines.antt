-- The bytes that begin the line of a command for whose record there is room.
use Rattle.std.proofs.Common.{◌≡◌, ◌↔◌, ℕ, ◌+◌, ◌-◌, ◌<◌, ◌≤◌, Bool, true, false, ◌&&◌, List, ◌∷◌, ◌++◌, length, Option, Some, None, codes, IsTrue, refl, sym, ap, subst, ◌∙◌, arith}
use Rattle.std.specs.Prelude.{IfSome}
use Rattle.std.specs.Fmt.{decimal}
use Rattle.b1_model.specs.declared.commands.Command.{Command}
use Rattle.b1_model.specs.declared.commands.Command.TheVariants.{Disconnect, Query, Reset, Limit, Release, Destroy, SliceRelease, Send, Recv, Await}
use Rattle.b1_model.specs.declared.commands.SendCmd.{SendCmd}
use Rattle.b1_model.specs.declared.naming.Limits.{Limits}
use Rattle.b1_model.specs.declared.version.Version.{Version}
use Rattle.b1_model.specs.declared.version.Version.TheVariants.{One, Two}
use Rattle.b1_model.specs.Versions.{version_of}
use Rattle.b1_records.specs.Spelling.{Is64, AreLimits, HasNumbers}
use Rattle.b1_script.specs.Spelling.{IsWithinOf, most_len}
use Rattle.b1_text_words.specs.declared.items.Form.TheVariants.{Script as in_script}
use Rattle.b1_text_words.specs.declared.items.Item.TheVariants.{Handle}
use Rattle.b1_text_words.specs.Commands.{command_text_in, cookie_text, limits_text}
use Rattle.b1_text_words.specs.Items.{AreItems}
use Rattle.b1_text_words.specs.Numbers.{script_handle_text, script_offset_text, list_text}
use Rattle.b1_text_words.specs.Words.{Spells, Reads, Begins, IsFree}
use Rattle.b1_text.specs.declared.statement.Entry.{Entry}
use Rattle.b1_text.specs.Texts.{plain, marked, entry_text}
use Rattle.b1_text.specs.Bodies.{cookie_word, marked_body}
use Rattle.b1_text.specs.Drafts.{IsCarried, record_spelling, record_len, is_of, has_room}
use Rattle.b1_text.specs.Nexts.{Passes, plain_len, IsRecorded, HasRoom, HasRoomBeside, HasMarkedRoom, HasRoomAs, is_plain, is_reference, is_reset, is_send, IsLoad, load_text}
use Rattle.b1_text.proofs.Records.{least_plain, within_two, plain_record, marked_record, destroy_len, send_len}
use Rattle.b1_text.proofs.Judging.{both_of, room_test, room_is}
use Rattle.b1_text.proofs.Cuts.{cookie_free}
use Rattle.b1_text.proofs.Firsts.{marked_text}
use Rattle.b1_text.proofs.Begins.{Halves, begins_map, begins_same, halves_none, halves_some, no_halves, never, same_test}
use Rattle.b1_text.proofs.Loads.{HandlesFit}
use Rattle.b1_text.proofs.Sends.{flag_words, load_of, send_split}

-- the line of such a command begins with the bytes
abbrev pub CommandBegins : (Command → Bool) → ℕ → List ℕ → Type 0
CommandBegins kind room line = Begins (Spells (command_text_in in_script) (HasRoomAs kind room)) line

abbrev pub WordBegins : List ℕ → List ℕ → Type 0
WordBegins word line = Begins (λ w. w ≡ word) line

-- ---- tests

pub yes : {Q : Type 0} (r : Bool) → IsTrue r → Q → IsTrue r ↔ Q
yes r is q = (λ _. q, λ _. is)

pub last : {P Q : Type 0} (r : Bool) → IsTrue r ↔ P → (P → Q) → (Q → P) → IsTrue r ↔ Q
last r h f g = (λ t. f (h.0 t), λ q. h.1 (g q))

pub not_so : {P : Type 0} (r : Bool) → r ≡ false → IsTrue r ↔ P → P → ⊥
not_so r is h p = let t = subst (λ (b : Bool). IsTrue b) is (h.1 p) in cc

pub not_true : {P : Type 0} → IsTrue false ↔ P → P → ⊥
not_true h p = let t = h.1 p in cc

pub too_small : (kind : Command → Bool) (room : ℕ) (line : List ℕ) → ((c : Command) → HasRoomAs kind room c → ⊥) → IsTrue false ↔ CommandBegins kind room line
too_small kind room line f = never (command_text_in in_script) (HasRoomAs kind room) line (λ b. f b.whole.value b.whole.is_of)

-- ---- commands of one word

word_command : (room : ℕ) (line : List ℕ) (c : Command) → is_plain c ≡ true → IsRecorded c → plain_len c ≤ room → WordBegins (command_text_in in_script c) line → CommandBegins is_plain room line
word_command room line c is carried fits b = record { rest = b.rest; whole = record { value = c; is_of = record { is = is; has_room = record { carried = carried; fits = fits } }; same = b.whole } }

pub disconnect_begins : (room : ℕ) (line : List ℕ) → 8 ≤ room → WordBegins (codes "disconnect") line → CommandBegins is_plain room line
disconnect_begins room line fits b = word_command room line Disconnect refl (record { within = tt; numbers = tt }) (omega arith) b

pub query_begins : (room : ℕ) (line : List ℕ) → 8 ≤ room → WordBegins (codes "query") line → CommandBegins is_plain room line
query_begins room line fits b = word_command room line Query refl (record { within = tt; numbers = tt }) (omega arith) b

pub recv_begins : (room : ℕ) (line : List ℕ) → 8 ≤ room → WordBegins (codes "recv") line → CommandBegins is_plain room line
recv_begins room line fits b = word_command room line Recv refl (record { within = tt; numbers = tt }) (omega arith) b

pub await_begins : (room : ℕ) (line : List ℕ) → 8 ≤ room → WordBegins (codes "await") line → CommandBegins is_plain room line
await_begins room line fits b = word_command room line Await refl (record { within = tt; numbers = tt }) (omega arith) b

record NoneBefore (line : List ℕ) : Type 0 where
  disconnect : WordBegins (codes "disconnect") line → ⊥
  query : WordBegins (codes "query") line → ⊥
  recv : WordBegins (codes "recv") line → ⊥

plain_word : (room : ℕ) (line rest : List ℕ) (c : Command) → NoneBefore line → HasRoomAs is_plain room c → line ++ rest ≡ command_text_in in_script c → WordBegins (codes "await") line
plain_word room line rest Disconnect before h same = absurd (before.disconnect (record { rest = rest; whole = same }))
plain_word room line rest Query before h same = absurd (before.query (record { rest = rest; whole = same }))
plain_word room line rest Recv before h same = absurd (before.recv (record { rest = rest; whole = same }))
plain_word room line rest Await before h same = record { rest = rest; whole = same }
plain_word room line rest (Reset limits) before h same = let bad = h.is in absurd cc
plain_word room line rest (Limit limits) before h same = absurd h.has_room.carried.within
plain_word room line rest (Release n) before h same = let bad = h.is in absurd cc
plain_word room line rest (Destroy ns) before h same = let bad = h.is in absurd cc
plain_word room line rest (SliceRelease n) before h same = let bad = h.is in absurd cc
plain_word room line rest (Send s) before h same = let bad = h.is in absurd cc

pub plain_last : (room : ℕ) (line : List ℕ) → (WordBegins (codes "disconnect") line → ⊥) → (WordBegins (codes "query") line → ⊥) → (WordBegins (codes "recv") line → ⊥) → CommandBegins is_plain room line → WordBegins (codes "await") line
plain_last room line d q r b = plain_word room line b.rest b.whole.value (record { disconnect = d; query = q; recv = r }) b.whole.is_of b.whole.same

pub no_plain : (room : ℕ) (c : Command) → room < 8 → HasRoomAs is_plain room c → ⊥
no_plain room c small h = omega (arith, least_plain c, h.has_room.fits, small)

-- ---- commands of handles or a slice alone

abbrev pub ReleaseBegins : List ℕ → Type 0
ReleaseBegins line = Begins (Spells (λ n. codes "release " ++ script_handle_text n) Is64) line

abbrev pub SliceBegins : List ℕ → Type 0
SliceBegins line = Begins (Spells (λ n. codes "slice " ++ script_offset_text n) Is64) line

abbrev pub DestroyBegins : ℕ → List ℕ → Type 0
DestroyBegins most line = Begins (Spells (λ ns. codes "destroy " ++ list_text script_handle_text ns) (AreItems (Handle in_script) most)) line

pub release_begins : (room : ℕ) (line : List ℕ) → 16 ≤ room → ReleaseBegins line → CommandBegins is_reference room line
release_begins room line fits b =
    begins_map (λ n. codes "release " ++ script_handle_text n) Is64 (command_text_in in_script) (HasRoomAs is_reference room) line
    (λ n is. (Release n, record { is = refl; has_room = record { carried = record { within = tt; numbers = is }; fits = omega arith } }, refl)) b

pub slice_begins : (room : ℕ) (line : List ℕ) → 16 ≤ room → SliceBegins line → CommandBegins is_reference room line
slice_begins room line fits b =
    begins_map (λ n. codes "slice " ++ script_offset_text n) Is64 (command_text_in in_script) (HasRoomAs is_reference room) line
    (λ n is. (SliceRelease n, record { is = refl; has_room = record { carried = record { within = tt; numbers = is }; fits = omega arith } }, refl)) b

pub destroy_begins : (room most : ℕ) (line : List ℕ) → 16 ≤ room → HandlesFit (room - 16) most → DestroyBegins most line → CommandBegins is_reference room line
destroy_begins room most line fits fit b =
    begins_map (λ ns. codes "destroy " ++ list_text script_handle_text ns) (AreItems (Handle in_script) most) (command_text_in in_script) (HasRoomAs is_reference room) line
    (λ ns is.
    let h = (fit (length ns)).0 is.few in
    (Destroy ns, record { is = refl; has_room = record { carried = record { within = h.0; numbers = is.items }; fits = omega (arith, destroy_len ns, h.1, fits) } }, refl)) b

reference_of : (room most : ℕ) (line rest : List ℕ) (c : Command) → HandlesFit (room - 16) most → (ReleaseBegins line → ⊥) → (SliceBegins line → ⊥) → HasRoomAs is_reference room c → line ++ rest ≡ command_text_in in_script c → DestroyBegins most line
reference_of room most line rest (Release n) fit r s h same = absurd (r (record { rest = rest; whole = record { value = n; is_of = h.has_room.carried.numbers; same = same } }))
reference_of room most line rest (SliceRelease n) fit r s h same = absurd (s (record { rest = rest; whole = record { value = n; is_of = h.has_room.carried.numbers; same = same } }))
reference_of room most line rest (Destroy ns) fit r s h same =
    let few = (fit (length ns)).1 (h.has_room.carried.within, omega (arith, destroy_len ns, h.has_room.fits)) in
    record { rest = rest; whole = record { value = ns; is_of = record { items = h.has_room.carried.numbers; few = few }; same = same } }
reference_of room most line rest Disconnect fit r s h same = let bad = h.is in absurd cc
reference_of room most line rest Query fit r s h same = let bad = h.is in absurd cc
reference_of room most line rest (Reset limits) fit r s h same = let bad = h.is in absurd cc
reference_of room most line rest (Limit limits) fit r s h same = absurd h.has_room.carried.within
reference_of room most line rest (Send send) fit r s h same = let bad = h.is in absurd cc
reference_of room most line rest Recv fit r s h same = let bad = h.is in absurd cc
reference_of room most line rest Await fit r s h same = let bad = h.is in absurd cc

pub reference_last : (room most : ℕ) (line : List ℕ) → HandlesFit (room - 16) most → (ReleaseBegins line → ⊥) → (SliceBegins line → ⊥) → CommandBegins is_reference room line → DestroyBegins most line
reference_last room most line fit r s b = reference_of room most line b.rest b.whole.value fit r s b.whole.is_of b.whole.same

pub no_reference : (room : ℕ) (c : Command) → room < 16 → HasRoomAs is_reference room c → ⊥
no_reference room (Release n) small h = let fits : 16 ≤ room = h.has_room.fits in omega (arith, fits, small)
no_reference room (SliceRelease n) small h = let fits : 16 ≤ room = h.has_room.fits in omega (arith, fits, small)
no_reference room (Destroy ns) small h = omega (arith, h.has_room.fits, destroy_len ns, small)
no_reference room Disconnect small h = let bad = h.is in cc
no_reference room Query small h = let bad = h.is in cc
no_reference room (Reset limits) small h = let bad = h.is in cc
no_reference room (Limit limits) small h = h.has_room.carried.within
no_reference room (Send send) small h = let bad = h.is in cc
no_reference room Recv small h = let bad = h.is in cc
no_reference room Await small h = let bad = h.is in cc

-- ---- limits

abbrev pub LimitsBegin : List ℕ → Type 0
LimitsBegin line = Begins (Spells (λ l. codes "reset " ++ limits_text l) AreLimits) line

pub reset_begins : (room : ℕ) (line : List ℕ) → 24 ≤ room → LimitsBegin line → CommandBegins is_reset room line
reset_begins room line fits b =
    begins_map (λ l. codes "reset " ++ limits_text l) AreLimits (command_text_in in_script) (HasRoomAs is_reset room) line
    (λ l is. (Reset l, record { is = refl; has_room = record { carried = record { within = tt; numbers = is }; fits = omega arith } }, refl)) b

reset_of : (room : ℕ) (c : Command) → HasRoomAs is_reset room c → (l : Limits) × AreLimits l × (command_text_in in_script c ≡ codes "reset " ++ limits_text l)
reset_of room (Reset limits) h = (limits, h.has_room.carried.numbers, refl)
reset_of room Disconnect h = let bad = h.is in absurd cc
reset_of room Query h = let bad = h.is in absurd cc
reset_of room (Limit limits) h = absurd h.has_room.carried.within
reset_of room (Release n) h = let bad = h.is in absurd cc
reset_of room (Destroy ns) h = let bad = h.is in absurd cc
reset_of room (SliceRelease n) h = let bad = h.is in absurd cc
reset_of room (Send s) h = let bad = h.is in absurd cc
reset_of room Recv h = let bad = h.is in absurd cc
reset_of room Await h = let bad = h.is in absurd cc

pub limits_last : (room : ℕ) (line : List ℕ) → CommandBegins is_reset room line → LimitsBegin line
limits_last room line b = begins_map (command_text_in in_script) (HasRoomAs is_reset room) (λ l. codes "reset " ++ limits_text l) AreLimits line (λ c is. reset_of room c is) b

pub no_reset : (room : ℕ) (c : Command) → room < 24 → HasRoomAs is_reset room c → ⊥
no_reset room (Reset limits) small h = let fits : 24 ≤ room = h.has_room.fits in omega (arith, fits, small)
no_reset room Disconnect small h = let bad = h.is in cc
no_reset room Query small h = let bad = h.is in cc
no_reset room (Limit limits) small h = h.has_room.carried.within
no_reset room (Release n) small h = let bad = h.is in cc
no_reset room (Destroy ns) small h = let bad = h.is in cc
no_reset room (SliceRelease n) small h = let bad = h.is in cc
no_reset room (Send s) small h = let bad = h.is in cc
no_reset room Recv small h = let bad = h.is in cc
no_reset room Await small h = let bad = h.is in cc

-- ---- SENDs

is_load : (room : ℕ) (s : SendCmd) → HasRoom room (Send s) → IsLoad (room - 24) (load_of s)
is_load room s h =
    let n = h.carried.numbers in
    let w = h.carried.within in
    let len = send_len s in
    record {
      to = record { items = n.to; few = w.to; fits = omega (arith, len, h.fits) };
      cargo = record {
        handles = record { items = n.with; few = w.with; fits = omega (arith, len, h.fits) };
        payload = record { items = n.payload; few = w.payload; fits = omega (arith, len, h.fits) };
      };
    }

send_room : (room : ℕ) (s : SendCmd) → 24 ≤ room → IsLoad (room - 24) (load_of s) → HasRoom room (Send s)
send_room room s fits l =
    let c = l.cargo in
    record {
      carried = record {
        within = record { to = l.to.few; with = c.handles.few; payload = c.payload.few };
        numbers = record { to = l.to.items; with = c.handles.items; payload = c.payload.items };
      };
      fits = omega (arith, send_len s, fits, l.to.fits, c.handles.fits, c.payload.fits);
    }

abbrev pub FlagBegins : List ℕ → ℕ → List ℕ → Type 0
FlagBegins word room line = Begins (Spells (λ x. word ++ load_text x) (IsLoad room)) line

send_begins : (go_on : Bool) (room : ℕ) (line : List ℕ) → 24 ≤ room → FlagBegins (flag_words go_on) (room - 24) line → CommandBegins is_send room line
send_begins go_on room line fits b =
    begins_map (λ x. flag_words go_on ++ load_text x) (IsLoad (room - 24)) (command_text_in in_script) (HasRoomAs is_send room) line
    (λ x is. let s : SendCmd = record { go_on = go_on; to = x.0; with = x.1.0; payload = x.1.1 } in (Send s, record { is = refl; has_room = send_room room s fits is }, sym (send_split s))) b

pub first_flag : (room : ℕ) (line : List ℕ) → 24 ≤ room → FlagBegins (codes "send 0 to ") (room - 24) line → CommandBegins is_send room line
first_flag room line fits b = send_begins false room line fits b

pub second_flag : (room : ℕ) (line : List ℕ) → 24 ≤ room → FlagBegins (codes "send 1 to ") (room - 24) line → CommandBegins is_send room line
second_flag room line fits b = send_begins true room line fits b

flag_of : (go_on : Bool) (room : ℕ) (line rest : List ℕ) (s : SendCmd) → s.go_on ≡ go_on → (FlagBegins (codes "send 0 to ") (room - 24) line → ⊥) → HasRoom room (Send s) → line ++ rest ≡ command_text_in in_script (Send s) → FlagBegins (codes "send 1 to ") (room - 24) line
flag_of true room line rest s is none h same =
    let text : line ++ rest ≡ flag_words true ++ load_text (load_of s) = same ∙ send_split s ∙ ap (λ (b : Bool). flag_words b ++ load_text (load_of s)) is in
    record { rest = rest; whole = record { value = load_of s; is_of = is_load room s h; same = text } }
flag_of false room line rest s is none h same =
    let text : line ++ rest ≡ flag_words false ++ load_text (load_of s) = same ∙ send_split s ∙ ap (λ (b : Bool). flag_words b ++ load_text (load_of s)) is in
    absurd (none (record { rest = rest; whole = record { value = load_of s; is_of = is_load room s h; same = text } }))

send_of : (room : ℕ) (line rest : List ℕ) (c : Command) → (FlagBegins (codes "send 0 to ") (room - 24) line → ⊥) → HasRoomAs is_send room c → line ++ rest ≡ command_text_in in_script c → FlagBegins (codes "send 1 to ") (room - 24) line
send_of room line rest (Send s) none h same = flag_of s.go_on room line rest s refl none h.has_room same
send_of room line rest Disconnect none h same = let bad = h.is in absurd cc
send_of room line rest Query none h same = let bad = h.is in absurd cc
send_of room line rest (Reset limits) none h same = let bad = h.is in absurd cc
send_of room line rest (Limit limits) none h same = absurd h.has_room.carried.within
send_of room line rest (Release n) none h same = let bad = h.is in absurd cc
send_of room line rest (Destroy ns) none h same = let bad = h.is in absurd cc
send_of room line rest (SliceRelease n) none h same = let bad = h.is in absurd cc
send_of room line rest Recv none h same = let bad = h.is in absurd cc
send_of room line rest Await none h same = let bad = h.is in absurd cc

pub second_last : (room : ℕ) (line : List ℕ) → (FlagBegins (codes "send 0 to ") (room - 24) line → ⊥) → CommandBegins is_send room line → FlagBegins (codes "send 1 to ") (room - 24) line
second_last room line none b = send_of room line b.rest b.whole.value none b.whole.is_of b.whole.same

pub no_send : (room : ℕ) (c : Command) → room < 24 → HasRoomAs is_send room c → ⊥
no_send room (Send s) small h = omega (arith, h.has_room.fits, send_len s, small)
no_send room Disconnect small h = let bad = h.is in cc
no_send room Query small h = let bad = h.is in cc
no_send room (Reset limits) small h = let bad = h.is in cc
no_send room (Limit limits) small h = h.has_room.carried.within
no_send room (Release n) small h = let bad = h.is in cc
no_send room (Destroy ns) small h = let bad = h.is in cc
no_send room (SliceRelease n) small h = let bad = h.is in cc
no_send room Recv small h = let bad = h.is in cc
no_send room Await small h = let bad = h.is in cc

-- ---- all commands

abbrev pub AnyBegins : ℕ → List ℕ → Type 0
AnyBegins room line = Begins (Spells (command_text_in in_script) (HasRoom room)) line

pub any_begins : (kind : Command → Bool) (room : ℕ) (line : List ℕ) → CommandBegins kind room line → AnyBegins room line
any_begins kind room line b = begins_same (command_text_in in_script) (HasRoomAs kind room) (HasRoom room) line (λ c is. is.has_room) b

any_of : (room : ℕ) (line rest : List ℕ) (c : Command) → (CommandBegins is_plain room line → ⊥) → (CommandBegins is_reference room line → ⊥) → (CommandBegins is_reset room line → ⊥) → HasRoom room c → line ++ rest ≡ command_text_in in_script c → CommandBegins is_send room line
any_of room line rest (Send s) p r t h same = record { rest = rest; whole = record { value = Send s; is_of = record { is = refl; has_room = h }; same = same } }
any_of room line rest Disconnect p r t h same = absurd (p (record { rest = rest; whole = record { value = Disconnect; is_of = record { is = refl; has_room = h }; same = same } }))
any_of room line rest Query p r t h same = absurd (p (record { rest = rest; whole = record { value = Query; is_of = record { is = refl; has_room = h }; same = same } }))
any_of room line rest Recv p r t h same = absurd (p (record { rest = rest; whole = record { value = Recv; is_of = record { is = refl; has_room = h }; same = same } }))
any_of room line rest Await p r t h same = absurd (p (record { rest = rest; whole = record { value = Await; is_of = record { is = refl; has_room = h }; same = same } }))
any_of room line rest (Limit limits) p r t h same = absurd h.carried.within
any_of room line rest (Release n) p r t h same = absurd (r (record { rest = rest; whole = record { value = Release n; is_of = record { is = refl; has_room = h }; same = same } }))
any_of room line rest (SliceRelease n) p r t h same = absurd (r (record { rest = rest; whole = record { value = SliceRelease n; is_of = record { is = refl; has_room = h }; same = same } }))
any_of room line rest (Destroy ns) p r t h same = absurd (r (record { rest = rest; whole = record { value = Destroy ns; is_of = record { is = refl; has_room = h }; same = same } }))
any_of room line rest (Reset limits) p r t h same = absurd (t (record { rest = rest; whole = record { value = Reset limits; is_of = record { is = refl; has_room = h }; same = same } }))

pub any_last : (room : ℕ) (line : List ℕ) → (CommandBegins is_plain room line → ⊥) → (CommandBegins is_reference room line → ⊥) → (CommandBegins is_reset room line → ⊥) → AnyBegins room line → CommandBegins is_send room line
any_last room line p r t b = any_of room line b.rest b.whole.value p r t b.whole.is_of b.whole.same

-- ---- commands beside a cookie

-- a command that a record with a cookie can carry
abbrev pub BesideBegins : ℕ → List ℕ → Type 0
BesideBegins room line = Begins (Spells (command_text_in in_script) (HasRoomBeside room)) line

abbrev pub LimitBegins : List ℕ → Type 0
LimitBegins line = Begins (Spells (λ l. codes "limit " ++ limits_text l) AreLimits) line

pub beside_limit : (room : ℕ) (line : List ℕ) → 24 ≤ room → LimitBegins line → BesideBegins room line
beside_limit room line fits b =
    begins_map (λ l. codes "limit " ++ limits_text l) AreLimits (command_text_in in_script) (HasRoomBeside room) line
    (λ l is. (Limit l, record { within = tt; numbers = is; fits = omega arith }, refl)) b

pub beside_any : (room : ℕ) (line : List ℕ) → AnyBegins room line → BesideBegins room line
beside_any room line b =
    begins_same (command_text_in in_script) (HasRoom room) (HasRoomBeside room) line
    (λ c is. record { within = within_two c is.carried.within; numbers = is.carried.numbers; fits = is.fits }) b

beside_of : (room : ℕ) (line rest : List ℕ) (c : Command) → ((24 ≤ room) → LimitBegins line → ⊥) → HasRoomBeside room c → line ++ rest ≡ command_text_in in_script c → AnyBegins room line
beside_of room line rest (Limit l) none h same = let fits : 24 ≤ room = h.fits in absurd (none fits (record { rest = rest; whole = record { value = l; is_of = h.numbers; same = same } }))
beside_of room line rest Disconnect none h same = record { rest = rest; whole = record { value = Disconnect; is_of = record { carried = record { within = tt; numbers = h.numbers }; fits = h.fits }; same = same } }
beside_of room line rest Query none h same = record { rest = rest; whole = record { value = Query; is_of = record { carried = record { within = tt; numbers = h.numbers }; fits = h.fits }; same = same } }
beside_of room line rest (Reset l) none h same = record { rest = rest; whole = record { value = Reset l; is_of = record { carried = record { within = tt; numbers = h.numbers }; fits = h.fits }; same = same } }
beside_of room line rest (Release n) none h same = record { rest = rest; whole = record { value = Release n; is_of = record { carried = record { within = tt; numbers = h.numbers }; fits = h.fits }; same = same } }
beside_of room line rest (Destroy ns) none h same = record { rest = rest; whole = record { value = Destroy ns; is_of = record { carried = record { within = h.within; numbers = h.numbers }; fits = h.fits }; same = same } }
beside_of room line rest (SliceRelease n) none h same = record { rest = rest; whole = record { value = SliceRelease n; is_of = record { carried = record { within = tt; numbers = h.numbers }; fits = h.fits }; same = same } }
beside_of room line rest (Send s) none h same = record { rest = rest; whole = record { value = Send s; is_of = record { carried = record { within = h.within; numbers = h.numbers }; fits = h.fits }; same = same } }
beside_of room line rest Recv none h same = record { rest = rest; whole = record { value = Recv; is_of = record { carried = record { within = tt; numbers = h.numbers }; fits = h.fits }; same = same } }
beside_of room line rest Await none h same = record { rest = rest; whole = record { value = Await; is_of = record { carried = record { within = tt; numbers = h.numbers }; fits = h.fits }; same = same } }

pub beside_last : (room : ℕ) (line : List ℕ) → ((24 ≤ room) → LimitBegins line → ⊥) → BesideBegins room line → AnyBegins room line
beside_last room line none b = beside_of room line b.rest b.whole.value none b.whole.is_of b.whole.same

-- ---- a cookie, and a command beside it

abbrev pub MarkedBegins : ℕ → List ℕ → Type 0
MarkedBegins room line = Begins (Spells marked_body (HasMarkedRoom room)) line

abbrev marked_halves : (room : ℕ) → Halves cookie_word (command_text_in in_script) marked_body (HasMarkedRoom room)
marked_halves room = record { first = λ x. x.0; rest = λ x. x.1; text = λ x. refl; free = λ x is. cookie_free x.0 is.cookie }

beside_room : (room : ℕ) (x : ℕ × Command) → HasMarkedRoom room x → HasRoomBeside (room - 8) x.1
beside_room room x h = record { within = h.within; numbers = h.numbers; fits = omega (arith, h.fits) }

-- the bytes of a cookie's word
pub cookie_begins : (line : List ℕ) (r : Bool) → IsTrue r ↔ Begins (Spells (λ n. codes "#" ++ decimal n) (λ n. n ≤ 18446744073709551615)) line → IsTrue r ↔ Begins (Spells cookie_word Is64) line
cookie_begins line r h = same_test cookie_word (λ n. n ≤ 18446744073709551615) Is64 line r (λ n is. omega (arith, is)) (λ n is. omega (arith, is)) h

pub no_marked : (room : ℕ) (line : List ℕ) → room < 16 → IsTrue false ↔ MarkedBegins room line
no_marked room line small =
    never marked_body (HasMarkedRoom room) line (λ b. omega (arith, b.whole.is_of.fits, least_plain b.whole.value.1, small))

pub marked_alone : (room : ℕ) (line : List ℕ) (r : Bool) → 16 ≤ room → IsFree 32 line → IsTrue r ↔ Begins (Spells cookie_word Is64) line → IsTrue r ↔ MarkedBegins room line
marked_alone room line r fits plain h =
    halves_none (marked_halves room) Is64 line r (λ x is. is.cookie)
    (λ n is. ((n, Recv), record { cookie = is; within = tt; numbers = tt; fits = omega (arith, fits) }, refl)) plain h

pub marked_known : (room : ℕ) (line w rest : List ℕ) (m : Option ℕ) (cookie : ℕ) (r : Bool) → 16 ≤ room → line ≡ w ++ 32 ∷ rest → IsFree 32 w → Reads cookie_word Is64 w m → m ≡ Some cookie
    → IsTrue r ↔ BesideBegins (room - 8) rest → IsTrue r ↔ MarkedBegins room line
marked_known room line w rest m cookie r room_is split plain reads is h =
    let found = subst (λ o. Reads cookie_word Is64 w o) is reads in
    halves_some (marked_halves room) (HasRoomBeside (room - 8)) line w rest r split plain
    (λ x of same. beside_room room x of)
    (λ c of. ((cookie, c), record { cookie = found.found.0; within = of.within; numbers = of.numbers; fits = omega (arith, of.fits, room_is) }, found.found.1, refl)) h

pub marked_none : (room : ℕ) (line w rest : List ℕ) (m : Option ℕ) → line ≡ w ++ 32 ∷ rest → IsFree 32 w → Reads cookie_word Is64 w m → m ≡ None → IsTrue false ↔ MarkedBegins room line
marked_none room line w rest m split plain reads is =
    never marked_body (HasMarkedRoom room) line (no_halves (marked_halves room) line w rest split plain
    (λ x of same. let both : None ≡ Some x.0 = sym is ∙ reads.whole x.0 of.cookie same in cc))

-- ---- the lines of a text

abbrev pub EntryBegins : Version → ℕ → ℕ → List ℕ → Type 0
EntryBegins version peers len line = Begins (Spells entry_text (Passes IsCarried (λ e. is_of version e.cookie && has_room peers len (record_len e)))) line

-- too many bytes were read for one more record
pub no_entry : (version : Version) (peers len : ℕ) (line : List ℕ) → most_len peers < len → IsTrue false ↔ EntryBegins version peers len line
no_entry version peers len line more =
    never entry_text (Passes IsCarried (λ e. is_of version e.cookie && has_room peers len (record_len e))) line
    (λ b. let tests = both_of (is_of version b.whole.value.cookie) (has_room peers len (record_len b.whole.value)) b.whole.is_of.goes_on in omega (arith, more, room_is peers len (record_len b.whole.value) tests.1))

-- what the line of a text of version 1 says
plain_of : (peers len : ℕ) (k : Option ℕ) (c : Command) → is_of One k ≡ true → IsWithinOf (version_of k) c → HasNumbers c → len + length (record_spelling k c) ≤ most_len peers
    → (d : Command) × HasRoom (most_len peers - len) d × (cookie_text k ++ command_text_in in_script c ≡ command_text_in in_script d)
plain_of peers len None c is within numbers fits = (c, record { carried = record { within = within; numbers = numbers }; fits = omega (arith, plain_record c within, fits) }, refl)
plain_of peers len (Some k) c is within numbers fits = absurd cc

entry_plain : (peers len : ℕ) (e : Entry) → Passes IsCarried (λ e. is_of One e.cookie && has_room peers len (record_len e)) e → (d : Command) × HasRoom (most_len peers - len) d × (entry_text e ≡ command_text_in in_script d)
entry_plain peers len e p =
    let tests = both_of (is_of One e.cookie) (has_room peers len (record_len e)) p.goes_on in
    plain_of peers len e.cookie e.command tests.0 p.fits.within p.fits.numbers (room_is peers len (record_len e) tests.1)

plain_entry : (peers len : ℕ) (d : Command) → len ≤ most_len peers → HasRoom (most_len peers - len) d → Passes IsCarried (λ e. is_of One e.cookie && has_room peers len (record_len e)) (plain d)
plain_entry peers len d few h =
    record {
      fits = record { within = h.carried.within; numbers = h.carried.numbers; cookie = tt };
      goes_on = room_test peers len (record_len (plain d)) (omega (arith, plain_record d h.carried.within, h.fits, few));
    }

pub plain_lines : (peers len : ℕ) (line : List ℕ) (r : Bool) → len ≤ most_len peers → IsTrue r ↔ AnyBegins (most_len peers - len) line → IsTrue r ↔ EntryBegins One peers len line
plain_lines peers len line r few h = (
  λ t. begins_map (command_text_in in_script) (HasRoom (most_len peers - len)) entry_text (Passes IsCarried (λ e. is_of One e.cookie && has_room peers len (record_len e))) line (λ d is. (plain d, plain_entry peers len d few is, refl)) (h.0 t),
  λ b. h.1 (begins_map entry_text (Passes IsCarried (λ e. is_of One e.cookie && has_room peers len (record_len e))) (command_text_in in_script) (HasRoom (most_len peers - len)) line (entry_plain peers len) b),
)

-- and of version 2
marked_of : (peers len : ℕ) (k : Option ℕ) (c : Command) → is_of Two k ≡ true → IsWithinOf (version_of k) c → HasNumbers c → IfSome k Is64 → len + length (record_spelling k c) ≤ most_len peers
    → (x : ℕ × Command) × HasMarkedRoom (most_len peers - len) x × (cookie_text k ++ command_text_in in_script c ≡ marked_body x)
marked_of peers len None c is within numbers cookie fits = absurd cc
marked_of peers len (Some k) c is within numbers cookie fits = ((k, c), record { cookie = cookie; within = within; numbers = numbers; fits = omega (arith, marked_record k c, fits) }, marked_text (k, c))

entry_marked : (peers len : ℕ) (e : Entry) → Passes IsCarried (λ e. is_of Two e.cookie && has_room peers len (record_len e)) e → (x : ℕ × Command) × HasMarkedRoom (most_len peers - len) x × (entry_text e ≡ marked_body x)
entry_marked peers len e p =
    let tests = both_of (is_of Two e.cookie) (has_room peers len (record_len e)) p.goes_on in
    marked_of peers len e.cookie e.command tests.0 p.fits.within p.fits.numbers p.fits.cookie (room_is peers len (record_len e) tests.1)

marked_entry : (peers len : ℕ) (x : ℕ × Command) → len ≤ most_len peers → HasMarkedRoom (most_len peers - len) x → Passes IsCarried (λ e. is_of Two e.cookie && has_room peers len (record_len e)) (marked x)
marked_entry peers len x few h =
    record {
      fits = record { within = h.within; numbers = h.numbers; cookie = h.cookie };
      goes_on = room_test peers len (record_len (marked x)) (omega (arith, marked_record x.0 x.1, h.fits, few));
    }

pub marked_lines : (peers len : ℕ) (line : List ℕ) (r : Bool) → len ≤ most_len peers → IsTrue r ↔ MarkedBegins (most_len peers - len) line → IsTrue r ↔ EntryBegins Two peers len line
marked_lines peers len line r few h = (
  λ t. begins_map marked_body (HasMarkedRoom (most_len peers - len)) entry_text (Passes IsCarried (λ e. is_of Two e.cookie && has_room peers len (record_len e))) line (λ x is. (marked x, marked_entry peers len x few is, sym (marked_text x))) (h.0 t),
  λ b. h.1 (begins_map entry_text (Passes IsCarried (λ e. is_of Two e.cookie && has_room peers len (record_len e))) marked_body (HasMarkedRoom (most_len peers - len)) line (entry_marked peers len) b),
)
