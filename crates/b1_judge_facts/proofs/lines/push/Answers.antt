use Rattle.std.specs.Prelude.{◌∷◌, ◌++◌, [], Some, length}
use Rattle.std.proofs.Common.{arith, sym, ap, ◌∙◌}
use Rattle.b1_judge_facts.specs.Indexes.{lines_left}
use Rattle.b1_judge_facts.proofs.LinesLeft.{has_by, none_of, left_push}
use Rattle.b1_judge_facts.proofs.Indexing.{push_put}
use Rattle.b1_judge_facts.proofs.lines.push.Goals as goal

pub index-requires : goal.index-requires
index-requires c = none_of _ (sym (has_by c.args.lines.now.items c.args.by_number.now c.requires.indexed.numbers c.args.line.number) ∙ c.requires.new)

pub returns-clause-indexed : goal.returns-clause-indexed
returns-clause-indexed c =
    push_put c.args.lines.now.items c.push.new.self.items c.args.line c.len-place.result c.args.by_number.now c.index.new.by_number c.args.by_node.now c.index.new.by_node
    (c.in-Ok.ensures.items ∙ ap (λ l. l ++ Some c.args.line ∷ []) c.in_ok-reserve.ensures.items)
    (omega (arith, c.len-place.ensures, ap length c.in_ok-reserve.ensures.items))
    c.requires.indexed c.requires.new c.in_ok-index.ensures.0 c.in_ok-index.ensures.1

pub returns-clause-pushed : goal.returns-clause-pushed
returns-clause-pushed c = ap lines_left (c.in-Ok.ensures.items ∙ ap (λ l. l ++ Some c.args.line ∷ []) c.in_ok-reserve.ensures.items) ∙ left_push c.args.lines.now.items c.args.line
