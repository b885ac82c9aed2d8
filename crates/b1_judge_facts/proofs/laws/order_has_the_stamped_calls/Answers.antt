use Rattle.b1_judge_facts.proofs.Orders.{complete, sound, strictly, restricted}
use Rattle.b1_judge_facts.proofs.laws.order_has_the_stamped_calls.Goals as goal

pub returns-clause-complete : goal.returns-clause-complete
returns-clause-complete c0 r rises q k stamp c at is = complete r rises q k stamp c at is

pub returns-clause-sound : goal.returns-clause-sound
returns-clause-sound c0 r rises i s at = sound r rises i s at

pub returns-clause-ascends : goal.returns-clause-ascends
returns-clause-ascends c0 r rises i j s t l e f = strictly r rises i j s t l e f

pub returns-clause-restricted : goal.returns-clause-restricted
returns-clause-restricted c0 r rises q = restricted r rises q
