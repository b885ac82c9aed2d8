use Rattle.b1_judge.proofs.CandidateLemmas.{none_named}
use Rattle.b1_judge.proofs.candidates.earlier_calls.Goals as goal

pub returns-then-holds_none : goal.returns-then-holds_none
returns-then-holds_none c =
    none_named c.args.walk.now c.args.facts.now c.peer.result c.epoch.result c.before_epoch.result c.requires (c.holds_none.ensures c.if-holds_none.true) c.peer.ensures c.epoch.ensures c.before_epoch.ensures
