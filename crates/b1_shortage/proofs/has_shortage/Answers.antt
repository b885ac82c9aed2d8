use Rattle.std.proofs.Common.{sym, ◌∙◌}
use Rattle.b1_shortage.proofs.ShownLemmas.{nothing_short}
use Rattle.b1_shortage.proofs.has_shortage.Goals as goal

pub returns-clause-nowhere : goal.returns-clause-nowhere
returns-clause-nowhere c = λ none. nothing_short c.args.rec.now (sym c.record_is_short.ensures ∙ none)
