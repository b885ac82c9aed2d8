-- The parts of a command's line.
use Rattle.std.specs.Prelude.{◌≡◌, ◌≢◌, ◌⊎◌, ℕ, Bool, List, ◌∷◌, ◌++◌, codes}
use Rattle.b1_model.specs.declared.commands.Command.{Command}
use Rattle.b1_model.specs.declared.commands.Command.TheVariants as cmd
use Rattle.b1_model.specs.declared.version.Version.{Version}
use Rattle.b1_model.specs.declared.version.Version.TheVariants.{Two}
use Rattle.b1_text_words.specs.declared.items.Form.{Form}
use Rattle.b1_text_words.specs.declared.items.Form.TheVariants.{Script}
use Rattle.b1_text_words.specs.Commands.{IsCommand, flag_of}
use Rattle.b1_text_words.specs.Words.{IsFree}

-- the line doesn't begin with the text
abbrev pub IsNotBehind : List ℕ → List ℕ → Type 0
IsNotBehind text line = (rest : List ℕ) → line ≢ text ++ rest

-- the line doesn't begin with a flag
abbrev pub IsNoFlag : List ℕ → Type 0
IsNoFlag line = (go_on : Bool) (rest : List ℕ) → line ≢ flag_of go_on ++ rest

-- destinations, carried handles and bytes, with the words between them
pub record AreSendWords (to with payload line : List ℕ) : Type 0 where
  pub to_free : IsFree 32 to
  pub with_free : IsFree 32 with
  pub whole : line ≡ to ++ 32 ∷ (codes "with " ++ (with ++ 32 ∷ (codes "data " ++ payload)))

-- the line has no such words
abbrev pub IsNoSend : List ℕ → Type 0
IsNoSend line = (to with payload : List ℕ) → AreSendWords to with payload line → ⊥

-- an AWAIT of a script
abbrev pub IsAwaitIn : Form → Command → Type 0
IsAwaitIn Script cmd.Await = Unit {0}
IsAwaitIn form command = ⊥

-- a command of one word
abbrev pub IsAloneIn : Form → Command → Type 0
IsAloneIn form cmd.Recv = Unit {0}
IsAloneIn form cmd.Query = Unit {0}
IsAloneIn form cmd.Disconnect = Unit {0}
IsAloneIn form command = IsAwaitIn form command

-- a command of one kind; each but the PEER_RESET without flush stands in both versions
abbrev pub IsReleaseIn : Form → Command → Type 0
IsReleaseIn form (cmd.Release number) = IsCommand form Two (cmd.Release number)
IsReleaseIn form command = ⊥

abbrev pub IsSliceIn : Form → Command → Type 0
IsSliceIn form (cmd.SliceRelease offset) = IsCommand form Two (cmd.SliceRelease offset)
IsSliceIn form command = ⊥

abbrev pub IsResetIn : Form → Version → Command → Type 0
IsResetIn form version (cmd.Reset limits) = IsCommand form version (cmd.Reset limits)
IsResetIn form version (cmd.Limit limits) = IsCommand form version (cmd.Limit limits)
IsResetIn form version command = ⊥

abbrev pub IsDestroyIn : Form → Command → Type 0
IsDestroyIn form (cmd.Destroy numbers) = IsCommand form Two (cmd.Destroy numbers)
IsDestroyIn form command = ⊥

-- a command of a word and numbers
abbrev pub IsNumberedIn : Form → Version → Command → Type 0
IsNumberedIn form version command =
    IsReleaseIn form command ⊎ (IsSliceIn form command ⊎ (IsResetIn form version command ⊎ IsDestroyIn form command))

-- a SEND
abbrev pub IsSendIn : Form → Command → Type 0
IsSendIn form (cmd.Send send) = IsCommand form Two (cmd.Send send)
IsSendIn form command = ⊥
