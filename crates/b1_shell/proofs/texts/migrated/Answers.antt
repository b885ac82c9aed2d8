use Rattle.b1_script.specs.Spelling.{HasFields}
use Rattle.b1_shell.proofs.Inputs.{migrated_is, none_of, some_of, too_long_is}
use Rattle.b1_shell.proofs.texts.migrated.Goals as goal

pub returns-in_ok-write-in-Some-clause-says : goal.returns-in_ok-write-in-Some-clause-says
returns-in_ok-write-in-Some-clause-says c = λ input whole.
    migrated_is input _ c.args.script c.in-Some.script whole (some_of c.in_ok-script.field-0 c.in-Some.script _ c.in-Some.is c.in_ok-script.ensures.upgraded) (some_of c.in_ok-script.field-0 c.in-Some.script HasFields c.in-Some.is (c.in_ok-script.ensures.fields c.requires.fields)) c.in_ok-write-in-Some.ensures

pub returns-in_ok-bad_line-in-None-clause-says : goal.returns-in_ok-bad_line-in-None-clause-says
returns-in_ok-bad_line-in-None-clause-says c = λ input whole.
    too_long_is input _ c.args.script whole (none_of c.in_ok-script.field-0 _ c.in-None.is c.in_ok-script.ensures.long) c.in_ok-bad_line-in-None.ensures
