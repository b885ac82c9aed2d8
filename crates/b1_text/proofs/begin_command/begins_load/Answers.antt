use Rattle.b1_text.proofs.Begins.{ok_test}
use Rattle.b1_text.proofs.Loads.{load_alone, load_known, load_none, known_room}
use Rattle.b1_text.proofs.begin_command.begins_load.Goals as goal

pub returns-in_default : goal.returns-in_default
returns-in_default c = load_alone c.args.room c.most_handles.result c.args.line.now c.begins_list.result c.most_handles.ensures c.in_default.ensures.free c.begins_list.ensures

pub overflow_sub-room : goal.overflow_sub-room
overflow_sub-room c = rw c.len.ensures (known_room c.args.room c.most_handles-2.result c.in-Some.first.now c.in_ok-to.field-0 c.in-Some-2.to c.most_handles-2.ensures c.in_ok-to.ensures c.in-Some-2.is)

pub returns-in-Some-2 : goal.returns-in-Some-2
returns-in-Some-2 c =
    let next = rw c.len.ensures at c.begins_with.ensures in
    ok_test c.begins_with.result (λ b h. load_known c.args.room c.most_handles-2.result c.args.line.now c.in-Some.first.now c.in-Some.rest.now c.in_ok-to.field-0 c.in-Some-2.to b c.most_handles-2.ensures c.in-Some.ensures.parts c.in-Some.ensures.first c.in_ok-to.ensures c.in-Some-2.is h) next

pub returns-in-None : goal.returns-in-None
returns-in-None c =
    load_none c.args.room c.most_handles-2.result c.args.line.now c.in-Some.first.now c.in-Some.rest.now c.in_ok-to.field-0 c.most_handles-2.ensures c.in-Some.ensures.parts c.in-Some.ensures.first c.in_ok-to.ensures c.in-None.is
