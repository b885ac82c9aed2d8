use Rattle.std.proofs.Common.{[]}
use Rattle.b1_text.specs.Nexts.{IsLoad, load_text}
use Rattle.b1_text.proofs.Begins.{word_some, word_none, ok_test}
use Rattle.b1_text.proofs.Loads.{no_load}
use Rattle.b1_text.proofs.begin_command.begins_flag.Goals as goal

pub returns-in-Some : goal.returns-in-Some
returns-in-Some c =
    ok_test c.begins_load.result (λ b h. word_some c.args.word.now load_text (IsLoad c.args.room) c.args.line.now c.in-Some.rest.now b c.in-Some.ensures h) c.begins_load.ensures

pub returns-in-None : goal.returns-in-None
returns-in-None c = word_none c.args.word.now load_text (IsLoad c.args.room) c.args.line.now c.begins_text.result ([], ([], [])) (no_load c.args.room) c.in-None.ensures c.begins_text.ensures
