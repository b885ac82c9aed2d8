use Rattle.b1_text.proofs.Answers.{no_break}
use Rattle.b1_text.proofs.Breaks.{one_place}
use Rattle.b1_text.proofs.Somewhere.{breaks_somewhere}
use Rattle.b1_text.proofs.a_text_breaks_in_one_place.Goals as goal

pub returns-clause-one : goal.returns-clause-one
returns-clause-one c text at end a b = one_place text at end a b

pub returns-clause-none : goal.returns-clause-none
returns-clause-none c text at accepted breaks = no_break text at breaks accepted

pub returns-clause-some : goal.returns-clause-some
returns-clause-some c text none never = breaks_somewhere text none never
