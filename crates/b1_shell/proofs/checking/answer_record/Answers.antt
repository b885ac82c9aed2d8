use Rattle.b1_shell.proofs.checking.answer_record.Goals as goal

pub judge-requires-clause-opening : goal.judge-requires-clause-opening
judge-requires-clause-opening c = c.requires.front.is.script.has_spelling.opening

pub judge-requires-clause-commands : goal.judge-requires-clause-commands
judge-requires-clause-commands c = c.requires.front.is.script.has_spelling.lists
