use Rattle.std.proofs.Common.{◌≡◌, ◌++◌, OnOk, List, ℕ, subst, sym, ap, string_bytes}
use Rattle.b1_text.specs.declared.statement.Statement.TheVariants as says
use Rattle.b1_text.specs.Texts.{line_text}
use Rattle.b1_text.proofs.Texts.{text_joined, plain_lines}
use Rattle.b1_text.proofs.printing.write_plain_list.Goals as goal

pub returns : goal.returns
returns c =
    let joined = text_joined c.write_plain_commands.result (string_bytes c.args.out.now) _ _ _ _ c.in_ok-write.ensures.bytes (rw c.as_slice.ensures at c.write_plain_commands.ensures) in
    subst (λ (t : List ℕ). OnOk c.write_plain_commands.result (string_bytes c.write_plain_commands.new.out ≡ string_bytes c.args.out.now ++ t)) (ap (λ t. line_text (says.Commands c.args.number) ++ t) (sym (plain_lines c.args.commands.now))) joined
