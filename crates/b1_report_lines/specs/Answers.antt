-- The texts of answers.
use Rattle.std.specs.Prelude.{◌≡◌, ℕ, ◌%◌, ◌^◌, ◌<◌, if◌then◌else◌, ◌==◌, Option, None, Some, List, [], ◌++◌, codes, Result, Ok, Err}
use Rattle.std.specs.Fmt.{decimal}
use Rattle.std.specs.List.{AllByRecursion}
use Rattle.b1_model.specs.declared.answers.Answer.{Answer}
use Rattle.b1_model.specs.declared.answers.Answer.TheVariants as ans
use Rattle.b1_model.specs.declared.answers.Front.{Front}
use Rattle.b1_model.specs.declared.answers.Front.TheVariants as front
use Rattle.b1_model.specs.declared.answers.Quantity.{Quantity}
use Rattle.b1_model.specs.declared.answers.Quantity.TheVariants as quantity
use Rattle.b1_model.specs.declared.answers.Reason.{Reason}
use Rattle.b1_model.specs.declared.answers.Reason.TheVariants as reason
use Rattle.b1_model.specs.declared.answers.Receipt.{Receipt}
use Rattle.b1_model.specs.declared.answers.Receipt.TheVariants as receipt
use Rattle.b1_model.specs.declared.answers.Refused.{Refused}
use Rattle.b1_model.specs.declared.commands.Command.{Command}
use Rattle.b1_model.specs.declared.commands.Command.TheVariants as cmd
use Rattle.b1_text_words.specs.Numbers.{number_text, list_text, hex_text, key_text}
use Rattle.b1_report_lines.specs.declared.unread.Stop.TheVariants.{Cut, Broken}
use Rattle.b1_report_lines.specs.declared.unread.Unread.{Unread}
use Rattle.b1_report_lines.specs.declared.unread.Unread.TheVariants.{Stopped, Memory}

-- a limited quantity
abbrev pub quantity_text : Quantity → List ℕ
quantity_text quantity.Entries = codes "entries"
quantity_text quantity.Bytes = codes "bytes"
quantity_text quantity.Handles = codes "handles"

-- a front that can't be taken
abbrev pub front_text : Front → List ℕ
front_text front.Absent = codes "EAGAIN:absent"
front_text (front.Staged origin stamp) = codes "EAGAIN:staged:" ++ decimal origin ++ codes ":" ++ decimal stamp

-- a node that takes no messages
abbrev pub gone_text : ℕ → ℕ → List ℕ
gone_text owner serial = codes "EHOSTUNREACH:" ++ (decimal owner ++ codes "." ++ decimal serial)

-- why something is refused, with the values that the refusal keeps
abbrev pub reason_text : Reason → List ℕ
reason_text (reason.Unknown number) = codes "ENXIO:" ++ number_text number
reason_text (reason.Again front) = front_text front
reason_text reason.Memory = codes "ENOMEM"
reason_text reason.Invalid = codes "EINVAL"
reason_text (reason.Full asked largest) = codes "EXFULL:" ++ decimal asked ++ codes ":" ++ decimal largest
reason_text (reason.Overflow clock) = codes "EOVERFLOW:" ++ decimal clock
reason_text (reason.Size len) = codes "EMSGSIZE:" ++ decimal len
reason_text reason.Shutdown = codes "ESHUTDOWN"
reason_text (reason.Gone owner serial) = gone_text owner serial
reason_text (reason.Quota what own others limit asked) =
    codes "EDQUOT:" ++ quantity_text what ++ (codes ":" ++ decimal own ++ codes ":" ++ decimal others ++ codes ":" ++ decimal limit ++ codes ":" ++ decimal asked)

-- what one destination answered
abbrev pub place_text : Option Reason → List ℕ
place_text None = codes "ok"
place_text (Some reason) = reason_text reason

-- what each destination answered
abbrev pub places_text : List (Option Reason) → List ℕ
places_text places = list_text place_text places

-- the place of a refusal, where it has one
abbrev pub at_text : Option ℕ → List ℕ
at_text None = []
at_text (Some place) = codes " at " ++ decimal place

-- a refusal
abbrev pub refused_text : Refused → List ℕ
refused_text r = codes "refused " ++ reason_text r.reason ++ at_text r.place

-- a destroyed node by its own number, or by the number that a holder has for it
abbrev pub kind_text : ℕ → List ℕ
kind_text number = if number % 4 == 0 then codes " node " else codes " handle "

-- a receipt
abbrev pub receipt_text : Receipt → List ℕ
receipt_text (receipt.Message key number offset handles payload) =
    codes "data " ++ key_text key ++ codes " node " ++ number_text number ++ (codes " slice " ++ decimal offset ++ codes " handles ") ++ list_text number_text handles ++ codes " bytes " ++ hex_text payload
receipt_text (receipt.Destroyed key number) = codes "destroyed " ++ key_text key ++ kind_text number ++ number_text number
receipt_text (receipt.Released stamp number) = codes "released " ++ decimal stamp ++ codes " node " ++ number_text number

-- a stamp, or a dash where there is none
abbrev pub stamp_text : Option ℕ → List ℕ
stamp_text None = codes "-"
stamp_text (Some stamp) = decimal stamp

-- the answer of a disconnect, or of a reset
abbrev pub reset_text : Command → Option ℕ → List ℕ
reset_text cmd.Disconnect stamp = codes "left " ++ stamp_text stamp
reset_text command stamp = codes "reset " ++ stamp_text stamp

-- the answer of a command
abbrev pub answer_text : Command → Answer → List ℕ
answer_text command (ans.Sent sent) = codes "sent " ++ decimal sent.stamp ++ codes " " ++ places_text sent.places
answer_text command (ans.Got receipt) = receipt_text receipt
answer_text command ans.Done = codes "ok"
answer_text command (ans.Destroyed stamp) = codes "destroyed " ++ decimal stamp
answer_text command (ans.Reset stamp) = reset_text command stamp
answer_text command (ans.Info user pool limits) =
    codes "info " ++ decimal user ++ codes " " ++ decimal pool ++ codes " " ++ decimal limits.entries ++ codes " " ++ decimal limits.bytes ++ codes " " ++ decimal limits.handles
answer_text command (ans.Refused refused) = refused_text refused

-- a reset answers a PEER_RESET or a PEER_DISCONNECT
abbrev pub IsReset : Command → Type 0
IsReset cmd.Disconnect = Unit {0}
IsReset (cmd.Reset limits) = Unit {0}
IsReset command = ⊥

-- an answer that has a text of its own: the number of a destroyed node is even
abbrev pub IsAnswer : Command → Answer → Type 0
IsAnswer command (ans.Reset stamp) = IsReset command
IsAnswer command (ans.Got (receipt.Destroyed key number)) = number % 2 ≡ 0
IsAnswer command answer = Unit {0}

-- numbers that fit the fields which hold them
abbrev pub Is32 : ℕ → Type 0
Is32 n = n < 2 ^ 32

abbrev pub Is64 : ℕ → Type 0
Is64 n = n < 2 ^ 64

abbrev pub IsByte : ℕ → Type 0
IsByte b = b < 256

-- a reason whose numbers fit
abbrev pub HasReasonFields : Reason → Type 0
HasReasonFields (reason.Unknown number) = Is64 number
HasReasonFields (reason.Again front.Absent) = Unit {0}
HasReasonFields (reason.Again (front.Staged origin stamp)) = Is32 origin × Is64 stamp
HasReasonFields reason.Memory = Unit {0}
HasReasonFields reason.Invalid = Unit {0}
HasReasonFields (reason.Full asked largest) = Is32 asked × Is32 largest
HasReasonFields (reason.Overflow clock) = Is64 clock
HasReasonFields (reason.Size len) = Is64 len
HasReasonFields reason.Shutdown = Unit {0}
HasReasonFields (reason.Gone owner serial) = Is32 owner × Is32 serial
HasReasonFields (reason.Quota what own others limit asked) = Is64 own × (Is64 others × (Is32 limit × Is32 asked))

abbrev pub HasPlaceFields : Option Reason → Type 0
HasPlaceFields None = Unit {0}
HasPlaceFields (Some reason) = HasReasonFields reason

abbrev pub Is32Option : Option ℕ → Type 0
Is32Option None = Unit {0}
Is32Option (Some n) = Is32 n

abbrev pub Is64Option : Option ℕ → Type 0
Is64Option None = Unit {0}
Is64Option (Some n) = Is64 n

-- an answer whose numbers fit
abbrev pub HasFields : Answer → Type 0
HasFields (ans.Sent sent) = Is64 sent.stamp × AllByRecursion HasPlaceFields sent.places
HasFields (ans.Got (receipt.Message key number offset handles payload)) =
    Is64 key.stamp × (Is32 key.origin × (Is32 key.index × (Is64 number × (Is32 offset × (AllByRecursion Is64 handles × AllByRecursion IsByte payload)))))
HasFields (ans.Got (receipt.Destroyed key number)) = Is64 key.stamp × (Is32 key.origin × (Is32 key.index × Is64 number))
HasFields (ans.Got (receipt.Released stamp number)) = Is64 stamp × Is64 number
HasFields ans.Done = Unit {0}
HasFields (ans.Destroyed stamp) = Is64 stamp
HasFields (ans.Reset stamp) = Is64Option stamp
HasFields (ans.Info user pool limits) = Is32 user × (Is32 pool × (Is32 limits.entries × (Is32 limits.bytes × Is32 limits.handles)))
HasFields (ans.Refused refused) = HasReasonFields refused.reason × Is32Option refused.place

-- the bytes are the text of an answer that the command can have
pub record IsAnswerText (command : Command) (bytes : List ℕ) (answer : Answer) : Type 0 where
  pub can : IsAnswer command answer
  pub fields : HasFields answer
  pub spelled : bytes ≡ answer_text command answer

-- with some bytes behind them, or with none, they are the text of an answer
pub record BeginAnswer (command : Command) (bytes : List ℕ) : Type 0 where
  pub rest : List ℕ
  pub answer : Answer
  pub whole : IsAnswerText command (bytes ++ rest) answer

-- the answer whose text the bytes are; else whether some answer's text begins with them, or no text does
abbrev pub TellsStop : Command → List ℕ → Unread → Type 0
TellsStop command bytes (Stopped Cut) = BeginAnswer command bytes × ((answer : Answer) → ¬ (IsAnswerText command bytes answer))
TellsStop command bytes (Stopped Broken) = ¬ (BeginAnswer command bytes)
TellsStop command bytes Memory = Unit {0}

abbrev pub TellsAnswer : Command → List ℕ → Result Answer Unread → Type 0
TellsAnswer command bytes (Ok answer) = IsAnswerText command bytes answer
TellsAnswer command bytes (Err why) = TellsStop command bytes why
