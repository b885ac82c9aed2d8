-- How reasons and answers are read: the word at the front tells the form of what follows it.
use Rattle.std.specs.Prelude.{ℕ, ◌^◌, List, [], ◌∷◌, codes, Option, Some, None, Err}
use Rattle.b1_model.specs.declared.answers.Answer.{Answer}
use Rattle.b1_model.specs.declared.answers.Answer.TheVariants as ans
use Rattle.b1_model.specs.declared.answers.Front.TheVariants as front
use Rattle.b1_model.specs.declared.answers.Quantity.{Quantity}
use Rattle.b1_model.specs.declared.answers.Quantity.TheVariants as quantity
use Rattle.b1_model.specs.declared.answers.Reason.{Reason}
use Rattle.b1_model.specs.declared.answers.Reason.TheVariants as reason
use Rattle.b1_model.specs.declared.answers.Receipt.TheVariants as receipt
use Rattle.b1_model.specs.declared.commands.Command.{Command}
use Rattle.b1_model.specs.declared.commands.Command.TheVariants as cmd
use Rattle.b1_report_lines.specs.declared.unread.Stop.TheVariants.{Broken}
use Rattle.b1_report_lines.specs.declared.reasons.ReasonKind.{ReasonKind}
use Rattle.b1_report_lines.specs.declared.reasons.ReasonKind.TheVariants as why
use Rattle.b1_report_lines.specs.declared.kinds.AnswerKind.{AnswerKind}
use Rattle.b1_report_lines.specs.declared.kinds.AnswerKind.TheVariants as kinds
use Rattle.b1_report_lines.specs.Reading.{◌>>=◌, Read, mapped, or_else, or_word, only, behind, joined, optional, dash, listed, number_at, quarter_at, known_at, hex_at}

-- the first of some words that stands at the front, and what follows it
abbrev pub or_words : {K : Type 0} → (K → List ℕ) → Read (K × List ℕ) → List K → List ℕ → Read (K × List ℕ)
or_words word found [] bytes = found
or_words word found (kind ∷ kinds) bytes = or_words word (or_word found kind (word kind) bytes) kinds bytes

abbrev pub short_at : List ℕ → Read ℕ
short_at = number_at (2 ^ 32)

abbrev pub long_at : List ℕ → Read ℕ
long_at = number_at (2 ^ 64)

-- ---- reasons

abbrev pub reason_word : ReasonKind → List ℕ
reason_word why.Unknown = codes "ENXIO:"
reason_word why.Absent = codes "EAGAIN:absent"
reason_word why.Staged = codes "EAGAIN:staged:"
reason_word why.Memory = codes "ENOMEM"
reason_word why.Invalid = codes "EINVAL"
reason_word why.Full = codes "EXFULL:"
reason_word why.Overflow = codes "EOVERFLOW:"
reason_word why.Size = codes "EMSGSIZE:"
reason_word why.Shutdown = codes "ESHUTDOWN"
reason_word why.Gone = codes "EHOSTUNREACH:"
reason_word why.Entries = codes "EDQUOT:entries:"
reason_word why.Bytes = codes "EDQUOT:bytes:"
reason_word why.Handles = codes "EDQUOT:handles:"

abbrev pub reason_kinds : List ReasonKind
reason_kinds =
    why.Unknown ∷ why.Absent ∷ why.Staged ∷ why.Memory ∷ why.Invalid ∷ why.Full ∷ why.Overflow ∷ why.Size ∷ why.Shutdown ∷ why.Gone ∷ why.Entries ∷ why.Bytes ∷ why.Handles ∷ []

abbrev pub reason_kind_at : List ℕ → Read (ReasonKind × List ℕ)
reason_kind_at bytes = or_words reason_word (Err Broken) reason_kinds bytes

abbrev pub quota_at : List ℕ → Read (ℕ × (ℕ × (ℕ × ℕ)))
quota_at bytes = joined 58 long_at (joined 58 long_at (joined 58 short_at short_at)) bytes

abbrev pub quota_made : Quantity → ℕ × (ℕ × (ℕ × ℕ)) → Reason
quota_made what v = reason.Quota what v.0 v.1.0 v.1.1.0 v.1.1.1

-- a reason of a kind, behind its word
unfoldable pub reason_of : ReasonKind → List ℕ → Read Reason
reason_of why.Unknown bytes = mapped (λ n. reason.Unknown n) (known_at bytes)
reason_of why.Absent bytes = only (reason.Again front.Absent) bytes
reason_of why.Staged bytes = mapped (λ v. reason.Again (front.Staged v.0 v.1)) (joined 58 short_at long_at bytes)
reason_of why.Memory bytes = only reason.Memory bytes
reason_of why.Invalid bytes = only reason.Invalid bytes
reason_of why.Full bytes = mapped (λ v. reason.Full v.0 v.1) (joined 58 short_at short_at bytes)
reason_of why.Overflow bytes = mapped (λ n. reason.Overflow n) (long_at bytes)
reason_of why.Size bytes = mapped (λ n. reason.Size n) (long_at bytes)
reason_of why.Shutdown bytes = only reason.Shutdown bytes
reason_of why.Gone bytes = mapped (λ v. reason.Gone v.0 v.1) (joined 46 short_at short_at bytes)
reason_of why.Entries bytes = mapped (quota_made quantity.Entries) (quota_at bytes)
reason_of why.Bytes bytes = mapped (quota_made quantity.Bytes) (quota_at bytes)
reason_of why.Handles bytes = mapped (quota_made quantity.Handles) (quota_at bytes)

unfoldable pub reason_at : List ℕ → Read Reason
reason_at bytes = reason_kind_at bytes >>= λ x. reason_of x.0 x.1

-- ---- answers

unfoldable pub place_at : List ℕ → Read (Option Reason)
place_at bytes = or_else (behind (codes "ok") (only None) bytes) (mapped (λ x. Some x) (reason_at bytes))

unfoldable pub places_at : List ℕ → Read (List (Option Reason))
places_at bytes = listed place_at bytes

unfoldable pub numbers_at : List ℕ → Read (List ℕ)
numbers_at bytes = listed known_at bytes

abbrev pub answer_word : AnswerKind → List ℕ
answer_word kinds.Sent = codes "sent "
answer_word kinds.Message = codes "data "
answer_word kinds.Destroyed = codes "destroyed "
answer_word kinds.Released = codes "released "
answer_word kinds.Done = codes "ok"
answer_word kinds.Info = codes "info "
answer_word kinds.Refused = codes "refused "
answer_word kinds.Reset = codes "reset "

abbrev pub answer_kinds : List AnswerKind
answer_kinds = kinds.Sent ∷ kinds.Message ∷ kinds.Destroyed ∷ kinds.Released ∷ kinds.Done ∷ kinds.Info ∷ kinds.Refused ∷ []

abbrev pub plain_kind_at : List ℕ → Read (AnswerKind × List ℕ)
plain_kind_at bytes = or_words answer_word (Err Broken) answer_kinds bytes

-- the word of a reset is the command's
abbrev pub answer_kind_at : Command → List ℕ → Read (AnswerKind × List ℕ)
answer_kind_at cmd.Disconnect bytes = or_word (plain_kind_at bytes) kinds.Reset (codes "left ") bytes
answer_kind_at (cmd.Reset limits) bytes = or_word (plain_kind_at bytes) kinds.Reset (codes "reset ") bytes
answer_kind_at command bytes = plain_kind_at bytes

-- the number of a destroyed node
unfoldable pub doomed_at : List ℕ → Read ℕ
doomed_at bytes = or_else (behind (codes "node ") (quarter_at 0) bytes) (behind (codes "handle ") (quarter_at 2) bytes)

-- a message: behind the key its node, its slice, its handles and its bytes
abbrev pub slice_at : List ℕ → Read (ℕ × (List ℕ × List ℕ))
slice_at bytes = joined 32 short_at (behind (codes "handles ") (joined 32 numbers_at (behind (codes "bytes ") hex_at))) bytes

abbrev pub node_at : List ℕ → Read (ℕ × (ℕ × (List ℕ × List ℕ)))
node_at bytes = joined 32 known_at (behind (codes "slice ") slice_at) bytes

abbrev pub message_at : List ℕ → Read (ℕ × (ℕ × (ℕ × (ℕ × (ℕ × (List ℕ × List ℕ))))))
message_at bytes = joined 46 long_at (joined 46 short_at (joined 32 short_at (behind (codes "node ") node_at))) bytes

abbrev pub destroyed_made : ℕ → Option (ℕ × (ℕ × ℕ)) → Answer
destroyed_made stamp None = ans.Destroyed stamp
destroyed_made stamp (Some v) = ans.Got (receipt.Destroyed (record { stamp = stamp; origin = v.0; index = v.1.0 }) v.1.1)

abbrev pub message_made : ℕ × (ℕ × (ℕ × (ℕ × (ℕ × (List ℕ × List ℕ))))) → Answer
message_made v = ans.Got (receipt.Message (record { stamp = v.0; origin = v.1.0; index = v.1.1.0 }) v.1.1.1.0 v.1.1.1.1.0 v.1.1.1.1.1.0 v.1.1.1.1.1.1)

abbrev pub info_made : ℕ × (ℕ × (ℕ × (ℕ × ℕ))) → Answer
info_made v = ans.Info v.0 v.1.0 (record { entries = v.1.1.0; bytes = v.1.1.1.0; handles = v.1.1.1.1 })

abbrev pub message_of : List ℕ → Read Answer
message_of bytes = mapped message_made (message_at bytes)

abbrev pub destroyed_at : List ℕ → Read Answer
destroyed_at bytes = mapped (λ v. destroyed_made v.0 v.1) (optional 46 long_at (joined 46 short_at (joined 32 short_at doomed_at)) bytes)

abbrev pub info_at : List ℕ → Read Answer
info_at bytes = mapped info_made (joined 32 short_at (joined 32 short_at (joined 32 short_at (joined 32 short_at short_at))) bytes)

abbrev pub refused_at : List ℕ → Read Answer
refused_at bytes = mapped (λ v. ans.Refused (record { reason = v.0; place = v.1 })) (optional 32 reason_at (behind (codes "at ") short_at) bytes)

-- an answer of a kind, behind its word
unfoldable pub answer_of : AnswerKind → List ℕ → Read Answer
answer_of kinds.Sent bytes = mapped (λ v. ans.Sent (record { stamp = v.0; places = v.1 })) (joined 32 long_at places_at bytes)
answer_of kinds.Message bytes = message_of bytes
answer_of kinds.Destroyed bytes = destroyed_at bytes
answer_of kinds.Released bytes = mapped (λ v. ans.Got (receipt.Released v.0 v.1)) (joined 32 long_at (behind (codes "node ") known_at) bytes)
answer_of kinds.Done bytes = only ans.Done bytes
answer_of kinds.Info bytes = info_at bytes
answer_of kinds.Refused bytes = refused_at bytes
answer_of kinds.Reset bytes = mapped (λ v. ans.Reset v) (dash long_at bytes)

unfoldable pub answer_at : Command → List ℕ → Read Answer
answer_at command bytes = answer_kind_at command bytes >>= λ x. answer_of x.0 x.1
