-- By the group of the command.
use Rattle.std.proofs.Common.{◌≡◌, true, false, inl, inr, refl}
use Rattle.b1_text_words.specs.Verbs.{IsAloneIn, IsNumberedIn, IsSendIn}
use Rattle.b1_text_words.proofs.Parts.{some_command, command_begins, alone_is, numbered_is, send_is}
use Rattle.b1_text_words.proofs.commands.begins_command.Goals as goal

pub returns-then-begins_alone : goal.returns-then-begins_alone
returns-then-begins_alone c = (λ is. some_command c.args.form c.args.version (IsAloneIn c.args.form) (alone_is c.args.form c.args.version) c.args.line.now (c.begins_alone.ensures.0 c.if-begins_alone.true), λ b. refl)

pub returns-then-begins_numbers : goal.returns-then-begins_numbers
returns-then-begins_numbers c = (λ is. some_command c.args.form c.args.version (IsNumberedIn c.args.form c.args.version) (numbered_is c.args.form c.args.version) c.args.line.now (c.begins_numbers.ensures.0 c.if-begins_numbers.true), λ b. refl)

pub returns : goal.returns
returns c = (
  λ is. some_command c.args.form c.args.version (IsSendIn c.args.form) (send_is c.args.form c.args.version) c.args.line.now (c.begins_send.ensures.0 is),
  λ b. elim (command_begins c.args.form c.args.version c.args.line.now b) [
    | inl found ↦ absurd (let yes : c.begins_alone.result ≡ true = c.begins_alone.ensures.1 found in let not : c.begins_alone.result ≡ false = c.if-begins_alone.false in cc)
    | inr more ↦ elim more [ inl found ↦ absurd (let yes : c.begins_numbers.result ≡ true = c.begins_numbers.ensures.1 found in let not : c.begins_numbers.result ≡ false = c.if-begins_numbers.false in cc) | inr found ↦ c.begins_send.ensures.1 found ]
  ],
)
