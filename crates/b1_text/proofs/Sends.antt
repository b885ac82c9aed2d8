-- The text of a SEND, behind its flag.
use Rattle.std.proofs.Common.{◌≡◌, ℕ, Bool, true, false, List, ◌∷◌, ◌++◌, codes, ◌∙◌, append_assoc}
use Rattle.b1_model.specs.declared.commands.Command.TheVariants.{Send}
use Rattle.b1_model.specs.declared.commands.SendCmd.{SendCmd}
use Rattle.b1_text_words.specs.declared.items.Form.TheVariants.{Script as in_script}
use Rattle.b1_text_words.specs.Commands.{command_text_in}
use Rattle.b1_text_words.specs.Numbers.{script_handle_text, list_text, hex_text}
use Rattle.b1_text.specs.Nexts.{load_text}

-- the first words of a SEND
abbrev pub flag_words : Bool → List ℕ
flag_words true = codes "send 1 to "
flag_words false = codes "send 0 to "

abbrev pub load_of : SendCmd → List ℕ × (List ℕ × List ℕ)
load_of s = (s.to, (s.with, s.payload))

six_parts : (f a b c : List ℕ) → ((((f ++ a) ++ codes " with ") ++ b) ++ codes " data ") ++ c ≡ f ++ (a ++ 32 ∷ (codes "with " ++ (b ++ 32 ∷ (codes "data " ++ c))))
six_parts f a b c =
    append_assoc (((f ++ a) ++ codes " with ") ++ b) (codes " data ") c
    ∙ append_assoc ((f ++ a) ++ codes " with ") b (codes " data " ++ c)
    ∙ append_assoc (f ++ a) (codes " with ") (b ++ (codes " data " ++ c))
    ∙ append_assoc f a (codes " with " ++ (b ++ (codes " data " ++ c)))

split_at : (go_on : Bool) (to with payload : List ℕ) → command_text_in in_script (Send (record { go_on = go_on; to = to; with = with; payload = payload })) ≡ flag_words go_on ++ load_text (to, (with, payload))
split_at true to with payload = six_parts (codes "send 1 to ") (list_text script_handle_text to) (list_text script_handle_text with) (hex_text payload)
split_at false to with payload = six_parts (codes "send 0 to ") (list_text script_handle_text to) (list_text script_handle_text with) (hex_text payload)

pub send_split : (s : SendCmd) → command_text_in in_script (Send s) ≡ flag_words s.go_on ++ load_text (load_of s)
send_split s = split_at s.go_on s.to s.with s.payload
