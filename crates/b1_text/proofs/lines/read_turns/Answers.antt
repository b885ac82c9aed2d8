use Rattle.std.proofs.Common.{◌≡◌, ◌++◌, ◌∙◌, ℕ, List, Some, codes, subst, sym}
use Rattle.b1_text_words.specs.Words.{Reads}
use Rattle.b1_text.specs.declared.statement.Statement.TheVariants as says
use Rattle.b1_text.specs.Texts.{statement_text}
use Rattle.b1_text.specs.Drafts.{Fits}
use Rattle.b1_text.proofs.Firsts.{turns_kind, some_reads, none_reads}
use Rattle.b1_text.proofs.lines.read_turns.Goals as goal

pub returns-in_ok-turns-in-Some : goal.returns-in_ok-turns-in-Some
returns-in_ok-turns-in-Some c =
    let same : c.from_vec.result ≡ c.in-Some.numbers = c.from_vec.ensures ∙ c.in_ok-turns-in-Some.ensures ∙ c.as_slice.ensures in
    let reads = some_reads turns_kind c.args.body.now c.in_ok-numbers.field-0 c.in-Some.numbers c.in_ok-numbers.ensures c.in-Some.is in
    subst (λ (x : List ℕ). Reads statement_text Fits (codes "turns " ++ c.args.body.now) (Some (says.Turns x))) (sym same) reads

pub returns-in-None : goal.returns-in-None
returns-in-None c = none_reads turns_kind c.args.body.now c.in_ok-numbers.field-0 c.in_ok-numbers.ensures c.in-None.is
