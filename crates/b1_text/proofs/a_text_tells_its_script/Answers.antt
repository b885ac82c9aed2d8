use Rattle.std.proofs.Common.{sym, ◌∙◌}
use Rattle.b1_text.proofs.Injective.{script_tells}
use Rattle.b1_text.proofs.Short.{text_short}
use Rattle.b1_text.proofs.a_text_tells_its_script.Goals as goal

pub returns-clause-one_script : goal.returns-clause-one_script
returns-clause-one_script c text s t a b = script_tells s t a.writable b.writable (sym a.spelled ∙ b.spelled)

pub returns-clause-one_text : goal.returns-clause-one_text
returns-clause-one_text c a b s x y = x.spelled ∙ sym y.spelled

pub returns-clause-short : goal.returns-clause-short
returns-clause-short c text s t = text_short text s t
