-- No line's text has a line feed.
use Rattle.std.specs.Prelude.{codes}
use Rattle.std.proofs.Common.{◌≡◌, ℕ, ◌%◌, ◌^◌, ◌<◌, Bool, true, false, cond, eqb, List, [], ◌∷◌, ◌++◌, Option, Some, None, refl, ap, subst, ◌∙◌, arith, inl}
use Rattle.std.specs.Fmt.{decimal}
use Rattle.b1_model.specs.declared.answers.Answer.{Answer}
use Rattle.b1_model.specs.declared.answers.Reason.{Reason}
use Rattle.b1_model.specs.declared.commands.Command.{Command}
use Rattle.b1_model.specs.declared.commands.Command.TheVariants as cmd
use Rattle.b1_model.specs.declared.records.Call.{Call}
use Rattle.b1_model.specs.declared.version.Version.{Version}
use Rattle.b1_model.specs.Versions.{version_of, version_number}
use Rattle.b1_text_words.specs.Commands.{command_text, cookie_text}
use Rattle.b1_text_words.specs.Numbers.{number_text, list_text, hex_text}
use Rattle.b1_report_lines.specs.declared.kinds.AnswerKind.{AnswerKind}
use Rattle.b1_report_lines.specs.declared.kinds.AnswerKind.TheVariants as kinds
use Rattle.b1_report_lines.specs.declared.lines.Line.{Line}
use Rattle.b1_report_lines.specs.declared.lines.Line.TheVariants as line
use Rattle.b1_report_lines.specs.declared.lines.Place.{Place}
use Rattle.b1_report_lines.specs.declared.lines.Place.TheVariants as place
use Rattle.b1_report_lines.specs.declared.reasons.ReasonKind.{ReasonKind}
use Rattle.b1_report_lines.specs.declared.reasons.ReasonKind.TheVariants as why
use Rattle.b1_report_lines.specs.Answers.{reason_text, place_text, places_text, answer_text, Is32, Is64, HasReasonFields, HasPlaceFields}
use Rattle.b1_report_lines.specs.Forms.{reason_word}
use Rattle.b1_report_lines.specs.Lines.{Cookies, IsCall, call_line, call_words, header_line, next_cookie, peer_line, line_text, MayStand}
use Rattle.b1_report_lines.proofs.Choices.{behind_mark, FitsOption, dash_text}
use Rattle.b1_report_lines.proofs.Decimals.{decimal_free, any_decimal_free, known_free}
use Rattle.b1_report_lines.proofs.ExactAnswers.{AnswerValue, doomed_text, IsDoomed, doomed_words, IsNotice, node_words, IsNode, words_of, FitsForm, word_of, IsFit, same, onto}
use Rattle.b1_report_lines.proofs.ExactPlaces.{reason_free}
use Rattle.b1_report_lines.proofs.FreeCommands.{list_free, hex_free, command_in_line}
use Rattle.b1_report_lines.proofs.Splitting.{IsFree, free_cons, free_append}

abbrev InLine : List ℕ → Type 0
InLine text = IsFree 10 text

also : (x y : List ℕ) → InLine x → InLine y → InLine (x ++ y)
also x y h k = free_append 10 x y h k

-- a mark that is no line feed
marked : (m : ℕ) (x y : List ℕ) → eqb m 10 ≡ false → InLine x → InLine y → InLine (x ++ m ∷ y)
marked m x y e h k = free_append 10 x (m ∷ y) h (free_cons 10 m y e k)

long : (n : ℕ) → Is64 n → InLine (decimal n)
long n h = decimal_free 10 n (inl (omega arith)) h

short : (n : ℕ) → Is32 n → InLine (decimal n)
short n h = long n (omega (arith, h))

known : (n : ℕ) → Is64 n → InLine (number_text n)
known n h = known_free 10 n (inl (omega arith)) h

word_in_line : (kind : ReasonKind) → InLine (reason_word kind)
word_in_line why.Unknown = refl
word_in_line why.Absent = refl
word_in_line why.Staged = refl
word_in_line why.Memory = refl
word_in_line why.Invalid = refl
word_in_line why.Full = refl
word_in_line why.Overflow = refl
word_in_line why.Size = refl
word_in_line why.Shutdown = refl
word_in_line why.Gone = refl
word_in_line why.Entries = refl
word_in_line why.Bytes = refl
word_in_line why.Handles = refl

reason_in_line : (r : Reason) → HasReasonFields r → InLine (reason_text r)
reason_in_line r h = reason_free 10 (omega arith) refl refl word_in_line r h

place_in_line : (o : Option Reason) → HasPlaceFields o → InLine (place_text o)
place_in_line None h = refl
place_in_line (Some r) h = reason_in_line r h

doomed_in_line : (n : ℕ) → IsDoomed n → InLine (doomed_text n)
doomed_in_line n h = also (cond (eqb (n % 4) 0) (codes "node ") (codes "handle ")) (decimal n) (either (eqb (n % 4) 0)) (long n h.0) where
  either : (b : Bool) → InLine (cond b (codes "node ") (codes "handle "))
  either true = refl
  either false = refl

destroyed_in_line : (stamp : ℕ) (o : Option (ℕ × (ℕ × ℕ))) → Is64 stamp → FitsOption IsNotice o → InLine (decimal stamp ++ behind_mark 46 doomed_words o)
destroyed_in_line stamp None h k = also (decimal stamp) [] (long stamp h) refl
destroyed_in_line stamp (Some v) h k =
    marked 46 (decimal stamp) (doomed_words v) refl (long stamp h)
    (marked 46 (decimal v.0) (decimal v.1.0 ++ 32 ∷ doomed_text v.1.1) refl (short v.0 k.0) (marked 32 (decimal v.1.0) (doomed_text v.1.1) refl (short v.1.0 k.1.0) (doomed_in_line v.1.1 k.1.1)))

refused_in_line : (r : Reason) (o : Option ℕ) → HasReasonFields r → FitsOption Is32 o → InLine (reason_text r ++ behind_mark 32 (λ n. codes "at " ++ decimal n) o)
refused_in_line r None h k = also (reason_text r) [] (reason_in_line r h) refl
refused_in_line r (Some n) h k = marked 32 (reason_text r) (codes "at " ++ decimal n) refl (reason_in_line r h) (also (codes "at ") (decimal n) refl (short n k))

dash_in_line : (o : Option ℕ) → FitsOption Is64 o → InLine (dash_text decimal o)
dash_in_line None h = refl
dash_in_line (Some n) h = long n h

node_in_line : (v : ℕ × (ℕ × (List ℕ × List ℕ))) → IsNode v → InLine (codes "node " ++ node_words v)
node_in_line v h =
    let numbers : InLine (list_text number_text v.1.1.0) = list_free 10 number_text Is64 refl refl known v.1.1.0 h.1.1.0 in
    let payload : InLine (hex_text v.1.1.1) = hex_free 10 (inl (omega arith)) refl v.1.1.1 h.1.1.1 in
    also (codes "node ") (node_words v) refl
    (marked 32 (number_text v.0) (codes "slice " ++ (decimal v.1.0 ++ 32 ∷ (codes "handles " ++ (list_text number_text v.1.1.0 ++ 32 ∷ (codes "bytes " ++ hex_text v.1.1.1))))) refl (known v.0 h.0)
    (also (codes "slice ") (decimal v.1.0 ++ 32 ∷ (codes "handles " ++ (list_text number_text v.1.1.0 ++ 32 ∷ (codes "bytes " ++ hex_text v.1.1.1)))) refl
    (marked 32 (decimal v.1.0) (codes "handles " ++ (list_text number_text v.1.1.0 ++ 32 ∷ (codes "bytes " ++ hex_text v.1.1.1))) refl (short v.1.0 h.1.0)
    (also (codes "handles ") (list_text number_text v.1.1.0 ++ 32 ∷ (codes "bytes " ++ hex_text v.1.1.1)) refl
    (marked 32 (list_text number_text v.1.1.0) (codes "bytes " ++ hex_text v.1.1.1) refl numbers (also (codes "bytes ") (hex_text v.1.1.1) refl payload))))))

form_in_line : (kind : AnswerKind) (v : AnswerValue kind) → FitsForm kind v → InLine (words_of kind v)
form_in_line kinds.Sent v h = marked 32 (decimal v.0) (places_text v.1) refl (long v.0 h.0) (list_free 10 place_text HasPlaceFields refl refl place_in_line v.1 h.1)
form_in_line kinds.Message v h =
    marked 46 (decimal v.0) (decimal v.1.0 ++ 46 ∷ (decimal v.1.1.0 ++ 32 ∷ (codes "node " ++ node_words v.1.1.1))) refl (long v.0 h.0)
    (marked 46 (decimal v.1.0) (decimal v.1.1.0 ++ 32 ∷ (codes "node " ++ node_words v.1.1.1)) refl (short v.1.0 h.1.0)
    (marked 32 (decimal v.1.1.0) (codes "node " ++ node_words v.1.1.1) refl (short v.1.1.0 h.1.1.0) (node_in_line v.1.1.1 h.1.1.1)))
form_in_line kinds.Destroyed v h = destroyed_in_line v.0 v.1 h.0 h.1
form_in_line kinds.Released v h = marked 32 (decimal v.0) (codes "node " ++ number_text v.1) refl (long v.0 h.0) (also (codes "node ") (number_text v.1) refl (known v.1 h.1))
form_in_line kinds.Done v h = refl
form_in_line kinds.Info v h =
    marked 32 (decimal v.0) (decimal v.1.0 ++ 32 ∷ (decimal v.1.1.0 ++ 32 ∷ (decimal v.1.1.1.0 ++ 32 ∷ decimal v.1.1.1.1))) refl (short v.0 h.0)
    (marked 32 (decimal v.1.0) (decimal v.1.1.0 ++ 32 ∷ (decimal v.1.1.1.0 ++ 32 ∷ decimal v.1.1.1.1)) refl (short v.1.0 h.1.0)
    (marked 32 (decimal v.1.1.0) (decimal v.1.1.1.0 ++ 32 ∷ decimal v.1.1.1.1) refl (short v.1.1.0 h.1.1.0)
    (marked 32 (decimal v.1.1.1.0) (decimal v.1.1.1.1) refl (short v.1.1.1.0 h.1.1.1.0) (short v.1.1.1.1 h.1.1.1.1))))
form_in_line kinds.Refused v h = refused_in_line v.0 v.1 h.0 h.1
form_in_line kinds.Reset v h = dash_in_line v h

reset_in_line : (command : Command) → InLine (word_of command kinds.Reset)
reset_in_line cmd.Disconnect = refl
reset_in_line cmd.Query = refl
reset_in_line (cmd.Reset limits) = refl
reset_in_line (cmd.Limit limits) = refl
reset_in_line (cmd.Release number) = refl
reset_in_line (cmd.Destroy numbers) = refl
reset_in_line (cmd.SliceRelease number) = refl
reset_in_line (cmd.Send send) = refl
reset_in_line cmd.Recv = refl
reset_in_line cmd.Await = refl

front_in_line : (command : Command) (kind : AnswerKind) → InLine (word_of command kind)
front_in_line command kinds.Sent = refl
front_in_line command kinds.Message = refl
front_in_line command kinds.Destroyed = refl
front_in_line command kinds.Released = refl
front_in_line command kinds.Done = refl
front_in_line command kinds.Info = refl
front_in_line command kinds.Refused = refl
front_in_line command kinds.Reset = reset_in_line command

answer_in_line : (command : Command) (answer : Answer) → IsFit command answer → InLine (answer_text command answer)
answer_in_line command answer h =
    let o = onto command answer h in
    subst InLine (same command o.0 o.1 o.2.0.0 o.2.0.1 ∙ ap (answer_text command) o.2.1)
    (also (word_of command o.0) (words_of o.0 o.1) (front_in_line command o.0) (form_in_line o.0 o.1 o.2.0.1))

words_in_line : (version : Version) (c : Call) → IsCall version c → InLine (call_words c)
words_in_line version c h = also (command_text c.command ++ codes " = ") (answer_text c.command c.answer) (also (command_text c.command) (codes " = ") (command_in_line version c.command h.command) refl) (answer_in_line c.command c.answer (h.can, h.fields))

cookie_in_line : (cookie : Option ℕ) → InLine (cookie_text cookie)
cookie_in_line None = refl
cookie_in_line (Some n) = also (codes "#" ++ decimal n) (codes " ") (also (codes "#") (decimal n) refl (any_decimal_free 10 n (inl (omega arith)))) refl

call_in_line : (version : Version) (cookie : Option ℕ) (c : Call) → IsCall version c → InLine (call_line cookie c)
call_in_line version cookie c h = also (cookie_text cookie) (call_words c) (cookie_in_line cookie) (words_in_line version c h)

header_in_line : (version : Version) → InLine (header_line version)
header_in_line version = also (codes "bus1 report ") (decimal (version_number version)) refl (any_decimal_free 10 (version_number version) (inl (omega arith)))

peer_in_line : (p epoch clock : ℕ) → Is64 p → Is64 epoch → Is64 clock → InLine (peer_line p epoch clock)
peer_in_line p epoch clock h k l =
    also (codes "peer " ++ decimal p ++ codes " epoch " ++ decimal epoch ++ codes " clock ") (decimal clock)
    (also (codes "peer " ++ decimal p ++ codes " epoch " ++ decimal epoch) (codes " clock ")
    (also (codes "peer " ++ decimal p ++ codes " epoch ") (decimal epoch) (also (codes "peer " ++ decimal p) (codes " epoch ") (also (codes "peer ") (decimal p) refl (long p h)) refl) (long epoch k)) refl)
    (long clock l)

-- a line that may stand there
pub line_in_line : (cookies : Cookies) (peers : ℕ) (spot : Place) (l : Line) → peers < 2 ^ 32 → MayStand cookies peers spot l → IsFree 10 (line_text cookies peers spot l)
line_in_line cookies peers place.Header line.Header lt h = header_in_line (version_of cookies)
line_in_line cookies peers place.Header line.Count lt h = absurd h
line_in_line cookies peers place.Header (line.Peer epoch clock) lt h = absurd h
line_in_line cookies peers place.Header (line.Call call) lt h = absurd h
line_in_line cookies peers place.Header line.End lt h = absurd h
line_in_line cookies peers place.Count line.Header lt h = absurd h
line_in_line cookies peers place.Count line.Count lt h = also (codes "peers ") (decimal peers) refl (short peers lt)
line_in_line cookies peers place.Count (line.Peer epoch clock) lt h = absurd h
line_in_line cookies peers place.Count (line.Call call) lt h = absurd h
line_in_line cookies peers place.Count line.End lt h = absurd h
line_in_line cookies peers (place.Peers begun calls) line.Header lt h = absurd h
line_in_line cookies peers (place.Peers begun calls) line.Count lt h = absurd h
line_in_line cookies peers (place.Peers begun calls) (line.Peer epoch clock) lt h = peer_in_line begun epoch clock (omega (arith, h.0, lt)) h.1.0 h.1.1
line_in_line cookies peers (place.Peers begun calls) (line.Call call) lt h = call_in_line (version_of cookies) (next_cookie cookies begun calls) call h.1
line_in_line cookies peers (place.Peers begun calls) line.End lt h = refl
line_in_line cookies peers place.Done line.Header lt h = absurd h
line_in_line cookies peers place.Done line.Count lt h = absurd h
line_in_line cookies peers place.Done (line.Peer epoch clock) lt h = absurd h
line_in_line cookies peers place.Done (line.Call call) lt h = absurd h
line_in_line cookies peers place.Done line.End lt h = absurd h
