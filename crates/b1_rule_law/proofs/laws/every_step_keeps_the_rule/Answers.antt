use Rattle.b1_rule.proofs.Keeps.{gives_lock, joins, splits, takes_lock}
use Rattle.b1_rule.proofs.Whole.{settles, starts}
use Rattle.b1_rule_law.proofs.laws.every_step_keeps_the_rule.Goals as goal

pub returns-clause-make : goal.returns-clause-make
returns-clause-make c = λ o xs ds words k wide zeros. starts o xs ds words k.opening k.reached k.short k.users k.room wide zeros

pub returns-clause-split : goal.returns-clause-split
returns-clause-split c = splits

pub returns-clause-join : goal.returns-clause-join
returns-clause-join c = joins

pub returns-clause-take : goal.returns-clause-take
returns-clause-take c = takes_lock

pub returns-clause-store : goal.returns-clause-store
returns-clause-store c = gives_lock

pub returns-clause-close : goal.returns-clause-close
returns-clause-close c = λ o first id ds words ys many me final.
    let k = settles o first id ds words ys many me final in
    (k.led, record { opening = k.opening; reached = k.reached; short = k.short; users = k.users; room = k.room })
