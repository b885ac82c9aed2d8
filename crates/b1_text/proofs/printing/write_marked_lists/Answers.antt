use Rattle.std.proofs.Common.{◌≡◌, ℕ, ◌++◌, ◌∙◌, List, sym, ap, map, get_or, string_bytes, arith}
use Rattle.std.specs.Prelude.{zip}
use Rattle.std.specs.List.{flat_map, enumerate_from}
use Rattle.b1_model.specs.declared.commands.Command.{Command}
use Rattle.b1_script.specs.Spelling.{entries_of}
use Rattle.b1_script.proofs.Entries.{lists_match, same_at, count_entries}
use Rattle.b1_text.specs.Texts.{line_text, list_statements, marked_entries}
use Rattle.b1_text.proofs.Texts.{made_more, made_all, entries_at, lines_of_lists}
use Rattle.b1_text.proofs.printing.write_marked_lists.Goals as goal

pub write_marked_list-requires : goal.write_marked_list-requires
write_marked_list-requires c =
    rw (c.index-cookies-number.is, c.index-lists-number.is) (same_at c.args.cookies.now c.args.lists.now c.loop-number.number c.index-cookies-number.result c.index-lists-number.result c.requires c.loop-number-test.true)

pub loop-number-preserved : goal.loop-number-preserved
loop-number-preserved c =
    let cookies : List (List ℕ) = c.args.cookies.now in
    let lists : List (List Command) = c.args.lists.now in
    let own : List ℕ = c.index-cookies-number.result in
    let list : List Command = c.index-lists-number.result in
    let count = lists_match cookies lists c.requires in
    let entries = count_entries cookies lists c.requires in
    let at : zip own list ≡ get_or (entries_of cookies lists) c.loop-number.number (zip own list)
    = ap (λ (k : List ℕ). zip k list) c.index-cookies-number.is ∙ ap (λ (l : List Command). zip (get_or cookies c.loop-number.number own) l) c.index-lists-number.is
    ∙ entries_at cookies lists c.loop-number.number own list (zip own list) (omega (arith, count, c.loop-number-test.true)) c.loop-number-test.true in
    c.in_ok-write_marked_list.ensures ∙ made_more marked_entries (λ x. flat_map line_text (list_statements x)) (entries_of cookies lists) c.loop-number.number (zip own list) _ _ (omega (arith, entries, c.loop-number-test.true)) at c.loop-number.invariant

pub returns : goal.returns
returns c =
    let entries = count_entries c.args.cookies.now c.args.lists.now c.requires in
    made_all marked_entries (λ x. flat_map line_text (list_statements x)) (entries_of c.args.cookies.now c.args.lists.now) c.loop-number.number _ _ (omega (arith, entries, c.loop-number-test.false)) c.loop-number.invariant
    ∙ ap (λ (t : List ℕ). string_bytes c.args.out.now ++ t) (sym (lines_of_lists list_statements (enumerate_from 0 (map marked_entries (entries_of c.args.cookies.now c.args.lists.now)))))
