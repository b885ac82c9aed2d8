use Rattle.std.proofs.Common.{ℕ, ◌++◌, ◌∙◌, List, sym, ap, map, string_bytes}
use Rattle.std.specs.List.{flat_map, enumerate_from}
use Rattle.b1_text.specs.Texts.{line_text, list_statements, plain_entries}
use Rattle.b1_text.proofs.Texts.{made_more, made_all, lines_of_lists}
use Rattle.b1_text.proofs.printing.write_plain_lists.Goals as goal

pub loop-number-preserved : goal.loop-number-preserved
loop-number-preserved c =
    c.in_ok-write_plain_list.ensures ∙ made_more plain_entries (λ x. flat_map line_text (list_statements x)) _ _ _ _ _ c.loop-number-test.true c.index-lists-number.is c.loop-number.invariant

pub returns : goal.returns
returns c =
    made_all plain_entries (λ x. flat_map line_text (list_statements x)) c.args.lists.now c.loop-number.number _ _ c.loop-number-test.false c.loop-number.invariant
    ∙ ap (λ (t : List ℕ). string_bytes c.args.out.now ++ t) (sym (lines_of_lists list_statements (enumerate_from 0 (map plain_entries c.args.lists.now))))
