use Rattle.std.proofs.Common.{[], codes}
use Rattle.b1_text.specs.Nexts.{IsCargo, cargo_text}
use Rattle.b1_text.proofs.Begins.{word_some, word_none, ok_test}
use Rattle.b1_text.proofs.Loads.{no_cargo}
use Rattle.b1_text.proofs.begin_command.begins_with.Goals as goal

pub returns-in-Some : goal.returns-in-Some
returns-in-Some c =
    ok_test c.begins_cargo.result (λ b h. word_some (codes "with ") cargo_text (IsCargo c.args.room) c.args.line.now c.in-Some.rest.now b c.in-Some.ensures h) c.begins_cargo.ensures

pub returns-in-None : goal.returns-in-None
returns-in-None c = word_none (codes "with ") cargo_text (IsCargo c.args.room) c.args.line.now c.begins_text.result ([], []) (no_cargo c.args.room) c.in-None.ensures c.begins_text.ensures
