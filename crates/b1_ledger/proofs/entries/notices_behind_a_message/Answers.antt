use Rattle.b1_ledger.proofs.Steps.{notice_received, notice_of_received, notice_of_kept}
use Rattle.b1_ledger.proofs.entries.notices_behind_a_message.Goals as goal

pub returns-clause-all : goal.returns-clause-all
returns-clause-all c0 ws r q k c key other at e = notice_received ws r q k c at key e other

pub returns-clause-come : goal.returns-clause-come
returns-clause-come c0 ws r q k c key number offset handles payload x at e h = notice_of_received ws r q k c at key number offset handles payload e x h

pub returns-clause-stay : goal.returns-clause-stay
returns-clause-stay c0 ws r q k c key number offset handles payload x at e h = notice_of_kept ws r q k c at key number offset handles payload e x h
