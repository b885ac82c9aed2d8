-- Answers are read exactly.
use Rattle.std.specs.Prelude.{codes}
use Rattle.std.proofs.Common.{◌≡◌, ℕ, ◌%◌, false, cond, eqb, List, [], ◌∷◌, ◌++◌, Option, Some, None, Ok, Err, refl, sym, ap, arith, inl, inr, ◌⊎◌, eq-eqb}
use Rattle.std.proofs.lemmas.Bool.Decides.{eqb_tells}
use Rattle.std.proofs.lemmas.List.{append_assoc, append-nil}
use Rattle.std.specs.Fmt.{decimal}
use Rattle.std.specs.List.{AllByRecursion}
use Rattle.b1_model.specs.declared.answers.Answer.{Answer}
use Rattle.b1_model.specs.declared.answers.Answer.TheVariants as ans
use Rattle.b1_model.specs.declared.answers.Reason.{Reason}
use Rattle.b1_model.specs.declared.answers.Receipt.TheVariants as receipt
use Rattle.b1_model.specs.declared.commands.Command.{Command}
use Rattle.b1_model.specs.declared.commands.Command.TheVariants as cmd
use Rattle.b1_text_words.specs.Numbers.{number_text, list_text, hex_text}
use Rattle.b1_report_lines.specs.declared.unread.Stop.TheVariants.{Broken}
use Rattle.b1_report_lines.specs.declared.kinds.AnswerKind.{AnswerKind}
use Rattle.b1_report_lines.specs.declared.kinds.AnswerKind.TheVariants as kinds
use Rattle.b1_report_lines.specs.Answers.{reason_text, places_text, reset_text, kind_text, answer_text, IsReset, IsAnswer, Is32, Is64, IsByte, Is32Option, Is64Option, HasReasonFields, HasPlaceFields, HasFields}
use Rattle.b1_report_lines.specs.Reading.{◌>>=◌, Read, mapped, behind, only, or_word, joined, optional, dash, quarter_at, known_at, hex_at}
use Rattle.b1_report_lines.specs.Forms.{short_at, long_at, reason_at, places_at, numbers_at, doomed_at, slice_at, node_at, message_at, answer_word, answer_kinds, plain_kind_at, answer_kind_at, destroyed_made, message_made, info_made, answer_of, answer_at}
use Rattle.b1_report_lines.proofs.Splitting.{IsFree}
use Rattle.b1_report_lines.proofs.Exact.{IsExact, converted, only_exact, behind_exact, joined_exact, mapped_same, bind_same, same_reader}
use Rattle.b1_report_lines.proofs.Choices.{either_exact, optional_exact, behind_mark, FitsOption, dash_exact, dash_text}
use Rattle.b1_report_lines.proofs.Decimals.{known_exact, known_free, decimal_free, quarter_exact, not_invalid, apart_decimal}
use Rattle.b1_report_lines.proofs.Hexes.{hex_exact}
use Rattle.b1_report_lines.proofs.Keyed.{FindsSome, finds_none, finds_word, finds_words, keyed_exact}
use Rattle.b1_report_lines.proofs.ExactReasons.{short_exact, long_exact, short_then, long_then, point, space, reason_exact}
use Rattle.b1_report_lines.proofs.ExactPlaces.{reason_free_of_space, places_exact, numbers_exact, numbers_free}

-- ---- the number of a destroyed node

abbrev pub doomed_text : ℕ → List ℕ
doomed_text n = cond (eqb (n % 4) 0) (codes "node ") (codes "handle ") ++ decimal n

abbrev pub IsDoomed : ℕ → Type 0
IsDoomed n = Is64 n × (n % 2 ≡ 0)

node_same : (n : ℕ) → Is64 n × (n % 4 ≡ 0) → codes "node " ++ decimal n ≡ doomed_text n
node_same n h = rw (eq-eqb (n % 4) 0 h.1) refl

two_tests : (n : ℕ) → n % 4 ≡ 2 → eqb (n % 4) 0 ≡ false
two_tests n h = rw h refl

handle_same : (n : ℕ) → Is64 n × (n % 4 ≡ 2) → codes "handle " ++ decimal n ≡ doomed_text n
handle_same n h = rw (two_tests n h.1) refl

node_apart : (n : ℕ) → Is64 n × (n % 4 ≡ 2) → behind (codes "node ") (quarter_at 0) (doomed_text n) ≡ Err Broken
node_apart n h = rw (two_tests n h.1) refl

doomed_there : (n : ℕ) → (Is64 n × (n % 4 ≡ 0)) ⊎ (Is64 n × (n % 4 ≡ 2)) → IsDoomed n
doomed_there n (inl h) = (h.0, omega (arith, h.1))
doomed_there n (inr h) = (h.0, omega (arith, h.1))

doomed_back : (n : ℕ) → IsDoomed n → (Is64 n × (n % 4 ≡ 0)) ⊎ (Is64 n × (n % 4 ≡ 2))
doomed_back n h = elim (eqb_tells (n % 4) 0) [
  | inl e ↦ inl (h.0, e.1)
  | inr e ↦ inr (h.0, omega (arith, h.1, e.1))
]

doomed_exact : IsExact doomed_at doomed_text IsDoomed
unfolding doomed_at
doomed_exact =
    let first : IsExact (behind (codes "node ") (quarter_at 0)) doomed_text (λ n. Is64 n × (n % 4 ≡ 0))
    = converted (behind (codes "node ") (quarter_at 0)) (λ n. codes "node " ++ decimal n) doomed_text (λ n. Is64 n × (n % 4 ≡ 0)) (λ n. Is64 n × (n % 4 ≡ 0)) (behind_exact (codes "node ") (quarter_at 0) decimal (λ n. Is64 n × (n % 4 ≡ 0)) (quarter_exact 0 (omega arith))) node_same (λ n h. h) (λ n h. h) in
    let second : IsExact (behind (codes "handle ") (quarter_at 2)) doomed_text (λ n. Is64 n × (n % 4 ≡ 2))
    = converted (behind (codes "handle ") (quarter_at 2)) (λ n. codes "handle " ++ decimal n) doomed_text (λ n. Is64 n × (n % 4 ≡ 2)) (λ n. Is64 n × (n % 4 ≡ 2)) (behind_exact (codes "handle ") (quarter_at 2) decimal (λ n. Is64 n × (n % 4 ≡ 2)) (quarter_exact 2 (omega arith))) handle_same (λ n h. h) (λ n h. h) in
    converted doomed_at doomed_text doomed_text (λ n. (Is64 n × (n % 4 ≡ 0)) ⊎ (Is64 n × (n % 4 ≡ 2))) IsDoomed
    (either_exact (behind (codes "node ") (quarter_at 0)) (behind (codes "handle ") (quarter_at 2)) doomed_text (λ n. Is64 n × (n % 4 ≡ 0)) (λ n. Is64 n × (n % 4 ≡ 2)) first second node_apart)
    (λ n h. refl) doomed_there doomed_back

doomed_is : (n : ℕ) → IsDoomed n → 32 ∷ doomed_text n ≡ kind_text n ++ number_text n
doomed_is n h =
    let even : number_text n ≡ decimal n = not_invalid n (omega (arith, h.0, h.1)) in
    rw even (elim (eqb_tells (n % 4) 0) [
      | inl e ↦ rw e.0 refl
      | inr e ↦ rw e.0 refl
    ])

-- ---- each form

abbrev pub slice_text : ℕ × (List ℕ × List ℕ) → List ℕ
slice_text v = decimal v.0 ++ 32 ∷ (codes "handles " ++ (list_text number_text v.1.0 ++ 32 ∷ (codes "bytes " ++ hex_text v.1.1)))

abbrev pub IsSlice : ℕ × (List ℕ × List ℕ) → Type 0
IsSlice v = Is32 v.0 × (AllByRecursion Is64 v.1.0 × AllByRecursion IsByte v.1.1)

abbrev pub node_words : ℕ × (ℕ × (List ℕ × List ℕ)) → List ℕ
node_words v = number_text v.0 ++ 32 ∷ (codes "slice " ++ slice_text v.1)

abbrev pub IsNode : ℕ × (ℕ × (List ℕ × List ℕ)) → Type 0
IsNode v = Is64 v.0 × IsSlice v.1

abbrev pub message_text : ℕ × (ℕ × (ℕ × (ℕ × (ℕ × (List ℕ × List ℕ))))) → List ℕ
message_text v = decimal v.0 ++ 46 ∷ (decimal v.1.0 ++ 46 ∷ (decimal v.1.1.0 ++ 32 ∷ (codes "node " ++ node_words v.1.1.1)))

abbrev pub IsMessage : ℕ × (ℕ × (ℕ × (ℕ × (ℕ × (List ℕ × List ℕ))))) → Type 0
IsMessage v = Is64 v.0 × (Is32 v.1.0 × (Is32 v.1.1.0 × IsNode v.1.1.1))

slice_exact : IsExact slice_at slice_text IsSlice
slice_exact =
    let payload = behind_exact (codes "bytes ") hex_at hex_text (AllByRecursion IsByte) hex_exact in
    let handles = joined_exact 32 numbers_at (behind (codes "bytes ") hex_at) (list_text number_text) (λ b. codes "bytes " ++ hex_text b) (AllByRecursion Is64) (AllByRecursion IsByte) numbers_exact payload numbers_free in
    let tail = behind_exact (codes "handles ") (joined 32 numbers_at (behind (codes "bytes ") hex_at)) (λ v. list_text number_text v.0 ++ 32 ∷ (codes "bytes " ++ hex_text v.1)) (λ v. AllByRecursion Is64 v.0 × AllByRecursion IsByte v.1) handles in
    short_then 32 (behind (codes "handles ") (joined 32 numbers_at (behind (codes "bytes ") hex_at))) (λ v. codes "handles " ++ (list_text number_text v.0 ++ 32 ∷ (codes "bytes " ++ hex_text v.1))) (λ v. AllByRecursion Is64 v.0 × AllByRecursion IsByte v.1) space tail

known_then : {B : Type 0} (second : List ℕ → Read B) (text : B → List ℕ) (Fits : B → Type 0) → IsExact second text Fits
    → IsExact (joined 32 known_at second) (λ p. number_text p.0 ++ 32 ∷ text p.1) (λ p. Is64 p.0 × Fits p.1)
known_then second text Fits two = joined_exact 32 known_at second number_text text Is64 Fits known_exact two (λ n h. known_free 32 n (inl (omega arith)) h)

node_exact : IsExact node_at node_words IsNode
node_exact = known_then (behind (codes "slice ") slice_at) (λ v. codes "slice " ++ slice_text v) IsSlice (behind_exact (codes "slice ") slice_at slice_text IsSlice slice_exact)

message_exact : IsExact message_at message_text IsMessage
message_exact =
    let node = behind_exact (codes "node ") node_at node_words IsNode node_exact in
    let index = short_then 32 (behind (codes "node ") node_at) (λ v. codes "node " ++ node_words v) IsNode space node in
    let origin = short_then 46 (joined 32 short_at (behind (codes "node ") node_at)) (λ v. decimal v.0 ++ 32 ∷ (codes "node " ++ node_words v.1)) (λ v. Is32 v.0 × IsNode v.1) point index in
    long_then 46 (joined 46 short_at (joined 32 short_at (behind (codes "node ") node_at))) (λ v. decimal v.0 ++ 46 ∷ (decimal v.1.0 ++ 32 ∷ (codes "node " ++ node_words v.1.1))) (λ v. Is32 v.0 × (Is32 v.1.0 × IsNode v.1.1)) point origin

abbrev pub doomed_words : ℕ × (ℕ × ℕ) → List ℕ
doomed_words v = decimal v.0 ++ 46 ∷ (decimal v.1.0 ++ 32 ∷ doomed_text v.1.1)

abbrev pub IsNotice : ℕ × (ℕ × ℕ) → Type 0
IsNotice v = Is32 v.0 × (Is32 v.1.0 × IsDoomed v.1.1)

notice_exact : IsExact (joined 46 short_at (joined 32 short_at doomed_at)) doomed_words IsNotice
notice_exact =
    let index = short_then 32 doomed_at doomed_text IsDoomed space doomed_exact in
    short_then 46 (joined 32 short_at doomed_at) (λ v. decimal v.0 ++ 32 ∷ doomed_text v.1) (λ v. Is32 v.0 × IsDoomed v.1) point index

destroyed_exact : IsExact (optional 46 long_at (joined 46 short_at (joined 32 short_at doomed_at))) (λ v. decimal v.0 ++ behind_mark 46 doomed_words v.1) (λ v. Is64 v.0 × FitsOption IsNotice v.1)
destroyed_exact = optional_exact 46 long_at (joined 46 short_at (joined 32 short_at doomed_at)) decimal doomed_words Is64 IsNotice long_exact notice_exact (λ n h. known_decimal_free n h) where
  known_decimal_free : (n : ℕ) → Is64 n → IsFree 46 (decimal n)
  known_decimal_free n h = decimal_free 46 n point h

abbrev pub info_words : ℕ × (ℕ × (ℕ × (ℕ × ℕ))) → List ℕ
info_words v = decimal v.0 ++ 32 ∷ (decimal v.1.0 ++ 32 ∷ (decimal v.1.1.0 ++ 32 ∷ (decimal v.1.1.1.0 ++ 32 ∷ decimal v.1.1.1.1)))

abbrev pub IsInfo : ℕ × (ℕ × (ℕ × (ℕ × ℕ))) → Type 0
IsInfo v = Is32 v.0 × (Is32 v.1.0 × (Is32 v.1.1.0 × (Is32 v.1.1.1.0 × Is32 v.1.1.1.1)))

info_exact : IsExact (joined 32 short_at (joined 32 short_at (joined 32 short_at (joined 32 short_at short_at)))) info_words IsInfo
info_exact =
    let one = short_then 32 short_at decimal Is32 space short_exact in
    let two = short_then 32 (joined 32 short_at short_at) (λ v. decimal v.0 ++ 32 ∷ decimal v.1) (λ v. Is32 v.0 × Is32 v.1) space one in
    let three = short_then 32 (joined 32 short_at (joined 32 short_at short_at)) (λ v. decimal v.0 ++ 32 ∷ (decimal v.1.0 ++ 32 ∷ decimal v.1.1)) (λ v. Is32 v.0 × (Is32 v.1.0 × Is32 v.1.1)) space two in
    short_then 32 (joined 32 short_at (joined 32 short_at (joined 32 short_at short_at))) (λ v. decimal v.0 ++ 32 ∷ (decimal v.1.0 ++ 32 ∷ (decimal v.1.1.0 ++ 32 ∷ decimal v.1.1.1))) (λ v. Is32 v.0 × (Is32 v.1.0 × (Is32 v.1.1.0 × Is32 v.1.1.1))) space three

refused_exact : IsExact (optional 32 reason_at (behind (codes "at ") short_at)) (λ v. reason_text v.0 ++ behind_mark 32 (λ n. codes "at " ++ decimal n) v.1) (λ v. HasReasonFields v.0 × FitsOption Is32 v.1)
refused_exact = optional_exact 32 reason_at (behind (codes "at ") short_at) reason_text (λ n. codes "at " ++ decimal n) HasReasonFields Is32 reason_exact (behind_exact (codes "at ") short_at decimal Is32 short_exact) reason_free_of_space

dash_apart : (n : ℕ) → Is64 n → behind {A = Option ℕ} (45 ∷ []) (only None) (decimal n) ≡ Err Broken
dash_apart n h = ap (λ (x : Read (List ℕ)). x >>= only {A = Option ℕ} None) (apart_decimal 45 [] n (inl (omega arith)) h)

-- ---- all forms

abbrev pub AnswerValue : AnswerKind → Type 0
AnswerValue kinds.Sent = ℕ × List (Option Reason)
AnswerValue kinds.Message = ℕ × (ℕ × (ℕ × (ℕ × (ℕ × (List ℕ × List ℕ)))))
AnswerValue kinds.Destroyed = ℕ × Option (ℕ × (ℕ × ℕ))
AnswerValue kinds.Released = ℕ × ℕ
AnswerValue kinds.Done = Answer
AnswerValue kinds.Info = ℕ × (ℕ × (ℕ × (ℕ × ℕ)))
AnswerValue kinds.Refused = Reason × Option ℕ
AnswerValue kinds.Reset = Option ℕ

abbrev pub answer_tail : (kind : AnswerKind) → List ℕ → Read (AnswerValue kind)
answer_tail kinds.Sent bytes = joined 32 long_at places_at bytes
answer_tail kinds.Message bytes = message_at bytes
answer_tail kinds.Destroyed bytes = optional 46 long_at (joined 46 short_at (joined 32 short_at doomed_at)) bytes
answer_tail kinds.Released bytes = joined 32 long_at (behind (codes "node ") known_at) bytes
answer_tail kinds.Done bytes = only ans.Done bytes
answer_tail kinds.Info bytes = joined 32 short_at (joined 32 short_at (joined 32 short_at (joined 32 short_at short_at))) bytes
answer_tail kinds.Refused bytes = optional 32 reason_at (behind (codes "at ") short_at) bytes
answer_tail kinds.Reset bytes = dash long_at bytes

abbrev pub answer_made : (kind : AnswerKind) → AnswerValue kind → Answer
answer_made kinds.Sent v = ans.Sent (record { stamp = v.0; places = v.1 })
answer_made kinds.Message v = message_made v
answer_made kinds.Destroyed v = destroyed_made v.0 v.1
answer_made kinds.Released v = ans.Got (receipt.Released v.0 v.1)
answer_made kinds.Done v = v
answer_made kinds.Info v = info_made v
answer_made kinds.Refused v = ans.Refused (record { reason = v.0; place = v.1 })
answer_made kinds.Reset v = ans.Reset v

abbrev pub words_of : (kind : AnswerKind) → AnswerValue kind → List ℕ
words_of kinds.Sent v = decimal v.0 ++ 32 ∷ places_text v.1
words_of kinds.Message v = message_text v
words_of kinds.Destroyed v = decimal v.0 ++ behind_mark 46 doomed_words v.1
words_of kinds.Released v = decimal v.0 ++ 32 ∷ (codes "node " ++ number_text v.1)
words_of kinds.Done v = []
words_of kinds.Info v = info_words v
words_of kinds.Refused v = reason_text v.0 ++ behind_mark 32 (λ n. codes "at " ++ decimal n) v.1
words_of kinds.Reset v = dash_text decimal v

abbrev pub FitsForm : (kind : AnswerKind) → AnswerValue kind → Type 0
FitsForm kinds.Sent v = Is64 v.0 × AllByRecursion HasPlaceFields v.1
FitsForm kinds.Message v = IsMessage v
FitsForm kinds.Destroyed v = Is64 v.0 × FitsOption IsNotice v.1
FitsForm kinds.Released v = Is64 v.0 × Is64 v.1
FitsForm kinds.Done v = v ≡ ans.Done
FitsForm kinds.Info v = IsInfo v
FitsForm kinds.Refused v = HasReasonFields v.0 × FitsOption Is32 v.1
FitsForm kinds.Reset v = FitsOption Is64 v

each : (kind : AnswerKind) → IsExact (answer_tail kind) (words_of kind) (FitsForm kind)
each kinds.Sent = long_then 32 places_at places_text (AllByRecursion HasPlaceFields) space places_exact
each kinds.Message = message_exact
each kinds.Destroyed = destroyed_exact
each kinds.Released = long_then 32 (behind (codes "node ") known_at) (λ n. codes "node " ++ number_text n) Is64 space (behind_exact (codes "node ") known_at number_text Is64 known_exact)
each kinds.Done = only_exact ans.Done
each kinds.Info = info_exact
each kinds.Refused = refused_exact
each kinds.Reset = dash_exact long_at decimal Is64 long_exact dash_apart

-- the word of a reset is the command's
abbrev pub reset_word : Command → List ℕ
reset_word cmd.Disconnect = codes "left "
reset_word command = codes "reset "

abbrev pub word_of : Command → AnswerKind → List ℕ
word_of command kinds.Reset = reset_word command
word_of command kind = answer_word kind

abbrev pub IsKindOf : Command → AnswerKind → Type 0
IsKindOf command kinds.Reset = IsReset command
IsKindOf command kind = Unit {0}

plain_finds : (command : Command) → FindsSome plain_kind_at (word_of command) (IsKindOf command)
plain_finds command = finds_words (λ b. Err Broken) (word_of command) (IsKindOf command) answer_kinds (tt, (tt, (tt, (tt, (tt, (tt, (tt, tt))))))) (finds_none (word_of command) (IsKindOf command))

finds : (command : Command) → FindsSome (answer_kind_at command) (word_of command) (IsKindOf command)
finds cmd.Disconnect = finds_word plain_kind_at (word_of cmd.Disconnect) (IsKindOf cmd.Disconnect) kinds.Reset tt (plain_finds cmd.Disconnect)
finds (cmd.Reset limits) = finds_word plain_kind_at (word_of (cmd.Reset limits)) (IsKindOf (cmd.Reset limits)) kinds.Reset tt (plain_finds (cmd.Reset limits))
finds (cmd.Limit limits) = plain_finds (cmd.Limit limits)
finds cmd.Query = plain_finds cmd.Query
finds (cmd.Release number) = plain_finds (cmd.Release number)
finds (cmd.Destroy numbers) = plain_finds (cmd.Destroy numbers)
finds (cmd.SliceRelease offset) = plain_finds (cmd.SliceRelease offset)
finds (cmd.Send send) = plain_finds (cmd.Send send)
finds cmd.Recv = plain_finds cmd.Recv
finds cmd.Await = plain_finds cmd.Await

passes : (command : Command) (b : List ℕ) (x : AnswerKind × List ℕ) → plain_kind_at b ≡ Ok x → answer_kind_at command b ≡ Ok x
passes cmd.Disconnect b x e = ap (λ r. or_word r kinds.Reset (codes "left ") b) e
passes (cmd.Reset limits) b x e = ap (λ r. or_word r kinds.Reset (codes "reset ") b) e
passes cmd.Query b x e = e
passes (cmd.Limit limits) b x e = e
passes (cmd.Release number) b x e = e
passes (cmd.Destroy numbers) b x e = e
passes (cmd.SliceRelease offset) b x e = e
passes (cmd.Send send) b x e = e
passes cmd.Recv b x e = e
passes cmd.Await b x e = e

reset_again : (command : Command) (r : List ℕ) → IsReset command → answer_kind_at command (reset_word command ++ r) ≡ Ok (kinds.Reset, r)
reset_again cmd.Disconnect r h = refl
reset_again (cmd.Reset limits) r h = refl
reset_again cmd.Query r h = absurd h
reset_again (cmd.Limit limits) r h = absurd h
reset_again (cmd.Release number) r h = absurd h
reset_again (cmd.Destroy numbers) r h = absurd h
reset_again (cmd.SliceRelease offset) r h = absurd h
reset_again (cmd.Send send) r h = absurd h
reset_again cmd.Recv r h = absurd h
reset_again cmd.Await r h = absurd h

again : (command : Command) (kind : AnswerKind) (r : List ℕ) → IsKindOf command kind → answer_kind_at command (word_of command kind ++ r) ≡ Ok (kind, r)
again command kinds.Sent r h = passes command (codes "sent " ++ r) (kinds.Sent, r) refl
again command kinds.Message r h = passes command (codes "data " ++ r) (kinds.Message, r) refl
again command kinds.Destroyed r h = passes command (codes "destroyed " ++ r) (kinds.Destroyed, r) refl
again command kinds.Released r h = passes command (codes "released " ++ r) (kinds.Released, r) refl
again command kinds.Done r h = passes command (codes "ok" ++ r) (kinds.Done, r) refl
again command kinds.Info r h = passes command (codes "info " ++ r) (kinds.Info, r) refl
again command kinds.Refused r h = passes command (codes "refused " ++ r) (kinds.Refused, r) refl
again command kinds.Reset r h = reset_again command r h

abbrev pub IsFit : Command → Answer → Type 0
IsFit command answer = IsAnswer command answer × HasFields answer

reset_same : (command : Command) (v : Option ℕ) → IsReset command → reset_word command ++ dash_text decimal v ≡ reset_text command v
reset_same cmd.Disconnect None h = refl
reset_same cmd.Disconnect (Some n) h = refl
reset_same (cmd.Reset limits) None h = refl
reset_same (cmd.Reset limits) (Some n) h = refl
reset_same cmd.Query v h = absurd h
reset_same (cmd.Limit limits) v h = absurd h
reset_same (cmd.Release number) v h = absurd h
reset_same (cmd.Destroy numbers) v h = absurd h
reset_same (cmd.SliceRelease offset) v h = absurd h
reset_same (cmd.Send send) v h = absurd h
reset_same cmd.Recv v h = absurd h
reset_same cmd.Await v h = absurd h

destroyed_same : (command : Command) (stamp : ℕ) (o : Option (ℕ × (ℕ × ℕ))) → FitsOption IsNotice o
    → codes "destroyed " ++ (decimal stamp ++ behind_mark 46 doomed_words o) ≡ answer_text command (destroyed_made stamp o)
destroyed_same command stamp None h = ap (λ (x : List ℕ). codes "destroyed " ++ x) (append-nil (decimal stamp))
destroyed_same command stamp (Some v) h = rw (doomed_is v.1.1 h.1.1) (simp append_assoc)

refused_same : (command : Command) (r : Reason) (o : Option ℕ) → codes "refused " ++ (reason_text r ++ behind_mark 32 (λ n. codes "at " ++ decimal n) o) ≡ answer_text command (answer_made kinds.Refused (r, o))
refused_same command r None = sym (append_assoc (codes "refused ") (reason_text r) [])
refused_same command r (Some n) = sym (append_assoc (codes "refused ") (reason_text r) (32 ∷ (codes "at " ++ decimal n)))

pub same : (command : Command) (kind : AnswerKind) (v : AnswerValue kind) → IsKindOf command kind → FitsForm kind v → word_of command kind ++ words_of kind v ≡ answer_text command (answer_made kind v)
same command kinds.Sent v h k = simp append_assoc
same command kinds.Message v h k = simp append_assoc
same command kinds.Destroyed v h k = destroyed_same command v.0 v.1 k.1
same command kinds.Released v h k = simp append_assoc
same command kinds.Done v h k = rw k refl
same command kinds.Info v h k = simp append_assoc
same command kinds.Refused v h k = refused_same command v.0 v.1
same command kinds.Reset v h k = reset_same command v h

destroyed_there : (command : Command) (stamp : ℕ) (o : Option (ℕ × (ℕ × ℕ))) → Is64 stamp → FitsOption IsNotice o → IsFit command (destroyed_made stamp o)
destroyed_there command stamp None h k = (tt, h)
destroyed_there command stamp (Some v) h k = (k.1.1.1, (h, (k.0, (k.1.0, k.1.1.0))))

reset_fields : (v : Option ℕ) → FitsOption Is64 v → Is64Option v
reset_fields None h = tt
reset_fields (Some n) h = h

place_fields : (v : Option ℕ) → FitsOption Is32 v → Is32Option v
place_fields None h = tt
place_fields (Some n) h = h

there : (command : Command) (kind : AnswerKind) (v : AnswerValue kind) → IsKindOf command kind → FitsForm kind v → IsFit command (answer_made kind v)
there command kinds.Sent v h k = (tt, k)
there command kinds.Message v h k = (tt, k)
there command kinds.Destroyed v h k = destroyed_there command v.0 v.1 k.0 k.1
there command kinds.Released v h k = (tt, k)
there command kinds.Done v h k = rw k (tt, tt)
there command kinds.Info v h k = (tt, k)
there command kinds.Refused v h k = (tt, (k.0, place_fields v.1 k.1))
there command kinds.Reset v h k = (h, reset_fields v k)

abbrev pub Made : Command → Answer → Type 0
Made command answer = (kind : AnswerKind) × (v : AnswerValue kind) × ((IsKindOf command kind × FitsForm kind v) × (answer_made kind v ≡ answer))

reset_fits : (v : Option ℕ) → Is64Option v → FitsOption Is64 v
reset_fits None h = tt
reset_fits (Some n) h = h

place_fits : (v : Option ℕ) → Is32Option v → FitsOption Is32 v
place_fits None h = tt
place_fits (Some n) h = h

pub onto : (command : Command) (answer : Answer) → IsFit command answer → Made command answer
onto command (ans.Sent sent) h = (kinds.Sent, (sent.stamp, sent.places), ((tt, h.1), refl))
onto command (ans.Got (receipt.Message key number offset handles payload)) h = (kinds.Message, (key.stamp, (key.origin, (key.index, (number, (offset, (handles, payload)))))), ((tt, h.1), refl))
onto command (ans.Got (receipt.Destroyed key number)) h = (kinds.Destroyed, (key.stamp, Some (key.origin, (key.index, number))), ((tt, (h.1.0, (h.1.1.0, (h.1.1.1.0, (h.1.1.1.1, h.0))))), refl))
onto command (ans.Got (receipt.Released stamp number)) h = (kinds.Released, (stamp, number), ((tt, h.1), refl))
onto command ans.Done h = (kinds.Done, ans.Done, ((tt, refl), refl))
onto command (ans.Destroyed stamp) h = (kinds.Destroyed, (stamp, None), ((tt, (h.1, tt)), refl))
onto command (ans.Reset stamp) h = (kinds.Reset, stamp, ((h.0, reset_fits stamp h.1), refl))
onto command (ans.Info user pool limits) h = (kinds.Info, (user, (pool, (limits.entries, (limits.bytes, limits.handles)))), ((tt, h.1), refl))
onto command (ans.Refused refused) h = (kinds.Refused, (refused.reason, refused.place), ((tt, (h.1.0, place_fits refused.place h.1.1)), refl))

answer_same : (kind : AnswerKind) (bytes : List ℕ) → mapped (answer_made kind) (answer_tail kind bytes) ≡ answer_of kind bytes
unfolding answer_of
answer_same kinds.Sent bytes = refl
answer_same kinds.Message bytes = refl
answer_same kinds.Destroyed bytes = refl
answer_same kinds.Released bytes = refl
answer_same kinds.Done bytes = mapped_same (only ans.Done bytes)
answer_same kinds.Info bytes = refl
answer_same kinds.Refused bytes = refl
answer_same kinds.Reset bytes = refl

abbrev rest_by_kind : AnswerKind × List ℕ → Read Answer
rest_by_kind x = mapped (answer_made x.0) (answer_tail x.0 x.1)

pub answer_exact : (command : Command) → IsExact (answer_at command) (answer_text command) (IsFit command)
unfolding answer_at
answer_exact command =
    same_reader (λ b. answer_kind_at command b >>= rest_by_kind) (answer_at command) (answer_text command) (IsFit command)
    (λ b. bind_same (answer_kind_at command b) rest_by_kind (λ x. answer_of x.0 x.1) (λ x. answer_same x.0 x.1))
    (keyed_exact AnswerValue (answer_kind_at command) (word_of command) (IsKindOf command) answer_tail answer_made words_of FitsForm (answer_text command) (IsFit command)
    (finds command) (again command) each (same command) (there command) (onto command) (kinds.Done, tt))
