-- How texts write commands.
use Rattle.std.specs.Prelude.{ℕ, ◌-◌, ◌^◌, ◌<◌, Bool, if◌then◌else◌, List, [], ◌++◌, Option, None, Some, codes}
use Rattle.std.specs.Fmt.{decimal}
use Rattle.b1_model.specs.declared.commands.Command.{Command}
use Rattle.b1_model.specs.declared.commands.Command.TheVariants as cmd
use Rattle.b1_model.specs.declared.commands.SendCmd.{SendCmd}
use Rattle.b1_model.specs.declared.limits.TheConstants.{MOST_NUMBERS, MOST_BYTES}
use Rattle.b1_model.specs.declared.naming.Limits.{Limits}
use Rattle.b1_model.specs.declared.version.Version.{Version}
use Rattle.b1_model.specs.declared.version.Version.TheVariants.{One, Two}
use Rattle.b1_text_words.specs.declared.items.Form.{Form}
use Rattle.b1_text_words.specs.declared.items.Form.TheVariants.{Script, Report}
use Rattle.b1_text_words.specs.declared.items.Item.TheVariants.{Handle, Offset}
use Rattle.b1_text_words.specs.Items.{item_text, AreItems, AreBytes}
use Rattle.b1_text_words.specs.Numbers.{list_text, hex_text}

-- the flag CONTINUE
abbrev pub flag_of : Bool → List ℕ
flag_of go_on = if go_on then codes "1 to " else codes "0 to "

-- a SEND: flag, destinations, carried handles, bytes
abbrev pub send_text_in : Form → SendCmd → List ℕ
send_text_in form s =
    codes "send " ++ flag_of s.go_on ++ list_text (item_text (Handle form)) s.to ++ codes " with " ++ list_text (item_text (Handle form)) s.with ++ codes " data " ++ hex_text s.payload

-- the limits of a PEER_RESET
abbrev pub limits_text : Limits → List ℕ
limits_text limits = decimal limits.entries ++ codes " " ++ decimal limits.bytes ++ codes " " ++ decimal limits.handles

-- a command, in a script or in a report; a PEER_RESET without flush is called a limit
abbrev pub command_text_in : Form → Command → List ℕ
command_text_in form cmd.Disconnect = codes "disconnect"
command_text_in form cmd.Query = codes "query"
command_text_in form (cmd.Reset limits) = codes "reset " ++ limits_text limits
command_text_in form (cmd.Limit limits) = codes "limit " ++ limits_text limits
command_text_in form (cmd.Release number) = codes "release " ++ item_text (Handle form) number
command_text_in form (cmd.Destroy numbers) = codes "destroy " ++ list_text (item_text (Handle form)) numbers
command_text_in form (cmd.SliceRelease offset) = codes "slice " ++ item_text (Offset form) offset
command_text_in form (cmd.Send send) = send_text_in form send
command_text_in form cmd.Recv = codes "recv"
command_text_in form cmd.Await = codes "await"

-- what stands before a command's words in version 2
abbrev pub cookie_text : Option ℕ → List ℕ
cookie_text None = []
cookie_text (Some cookie) = codes "#" ++ decimal cookie ++ codes " "

-- a command that has words in this form: an AWAIT has none in a report
abbrev pub HasWords : Form → Command → Type 0
HasWords Report cmd.Await = ⊥
HasWords form command = Unit {0}

-- in a report
abbrev pub send_text : SendCmd → List ℕ
send_text = send_text_in Report

abbrev pub command_text : Command → List ℕ
command_text = command_text_in Report

-- how many numbers one list has at most, and how many bytes a payload: a report has no limit
abbrev pub most_numbers : Form → ℕ
most_numbers Script = MOST_NUMBERS
most_numbers Report = 2 ^ 64 - 1

abbrev pub most_bytes : Form → ℕ
most_bytes Script = MOST_BYTES
most_bytes Report = 2 ^ 64 - 1

-- limits that fit their fields
pub record AreLimits (limits : Limits) : Type 0 where
  pub entries : limits.entries < 2 ^ 32
  pub bytes : limits.bytes < 2 ^ 32
  pub handles : limits.handles < 2 ^ 32

-- a SEND of this form
pub record IsSend (form : Form) (send : SendCmd) : Type 0 where
  pub to : AreItems (Handle form) (most_numbers form) send.to
  pub with : AreItems (Handle form) (most_numbers form) send.with
  pub payload : AreBytes (most_bytes form) send.payload

-- a command of this form and version: its numbers fit their fields, and its lists have no more items than the form allows;
-- no AWAIT stands in a report, and no PEER_RESET without flush in version 1
abbrev pub IsCommand : Form → Version → Command → Type 0
IsCommand form version (cmd.Reset limits) = AreLimits limits
IsCommand form One (cmd.Limit limits) = ⊥
IsCommand form Two (cmd.Limit limits) = AreLimits limits
IsCommand form version (cmd.Release number) = number < 2 ^ 64
IsCommand form version (cmd.Destroy numbers) = AreItems (Handle form) (most_numbers form) numbers
IsCommand form version (cmd.SliceRelease offset) = offset < 2 ^ 64
IsCommand form version (cmd.Send send) = IsSend form send
IsCommand Report version cmd.Await = ⊥
IsCommand form version command = Unit {0}
