use Rattle.b1_locks.proofs.short.do_one.Goals as goal

pub returns-then-is_begin-clause-does : goal.returns-then-is_begin-clause-does
returns-then-is_begin-clause-does g c = c.refuse_begin.ensures.does c.args.opening.now
