use Rattle.std.proofs.Common.{◌≡◌, ◌∙◌, get_or}
use Rattle.b1_script.proofs.Entries.{list_written, lists_written}
use Rattle.b1_script.proofs.writing.put_entry_lists.Goals as goal

pub loop-place-preserved : goal.loop-place-preserved
loop-place-preserved c =
    let own : c.as_slice.result.now ≡ get_or c.args.cookies.now c.loop-place.place c.index-cookies-place.result = c.as_slice.ensures ∙ c.index-cookies-place.is in
    let list : c.as_slice-in-loop-place.result.now ≡ get_or c.args.lists.now c.loop-place.place c.index-lists-place.result = c.as_slice-in-loop-place.ensures ∙ c.index-lists-place.is in
    c.in_ok-put_entries.ensures ∙ rw (own, list) (list_written c.loop-place.out.items c.args.out.now.items c.args.cookies.now c.args.lists.now c.loop-place.place c.index-cookies-place.result c.index-lists-place.result c.requires.same c.loop-place-test.true c.loop-place.invariant)

pub returns : goal.returns
returns c = lists_written c.loop-place.out.items c.args.out.now.items c.args.cookies.now c.args.lists.now c.loop-place.place c.requires.same c.loop-place-test.false c.loop-place.invariant
