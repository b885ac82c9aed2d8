-- What is judged, in two clauses.
use Rattle.b1_judge.proofs.JudgedLemmas.{if_legal, if_broken}
use Rattle.b1_judge.proofs.judging.judge.Goals as goal

pub returns-clause-legal : goal.returns-clause-legal
returns-clause-legal c = if_legal c.args.script.now c.args.rec.now (record { commands = c.requires.commands; calls = c.requires.peers }) c.judge_parts.result c.judge_parts.ensures

pub returns-clause-broken : goal.returns-clause-broken
returns-clause-broken c = if_broken c.args.script.now c.args.rec.now (record { commands = c.requires.commands; calls = c.requires.peers }) c.judge_parts.result c.judge_parts.ensures
