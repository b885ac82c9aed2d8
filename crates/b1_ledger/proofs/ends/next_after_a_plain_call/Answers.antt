use Rattle.b1_ledger.proofs.NextAfter.{may_plain, may_others}
use Rattle.b1_ledger.proofs.ends.next_after_a_plain_call.Goals as goal

pub returns-clause-all : goal.returns-clause-all
returns-clause-all c0 o r t p c q key legal a none quiet = may_plain o r t p c a legal none quiet q key

pub returns-clause-others : goal.returns-clause-others
returns-clause-others c0 o r t p c q key legal a none n = may_others o r t p c a legal none q key n
