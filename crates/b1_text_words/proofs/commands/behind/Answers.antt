-- What is left of the line.
use Rattle.std.proofs.Common.{◌≡◌, ◌≢◌, ◌++◌, List, ℕ, subst}
use Rattle.std.specs.Prelude.{MatchOption}
use Rattle.std.proofs.lemmas.Bool.Decides.{Decides-eqb}
use Rattle.std.proofs.lemmas.Slice.Eq.{strip_prefix_is}
use Rattle.b1_text_words.proofs.commands.behind.Goals as goal

pub returns : goal.returns
returns c = subst (λ p. MatchOption c.strip_prefix.result ((rest : List ℕ) → c.args.line.now ≢ p ++ rest) (λ x. c.args.line.now ≡ p ++ x.now)) c.as_bytes.ensures.value
    (strip_prefix_is Decides-eqb c.args.line.now c.as_bytes.result.now c.strip_prefix.result c.strip_prefix.ensures.cases)
