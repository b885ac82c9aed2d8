use Rattle.std.proofs.Common.{arith}
use Rattle.b1_text.proofs.Begins.{ok_test}
use Rattle.b1_text.proofs.CommandLines.{cookie_begins, marked_alone, marked_known, marked_none}
use Rattle.b1_text.proofs.begin_command.begins_marked.Goals as goal

pub returns-in_default : goal.returns-in_default
returns-in_default c = marked_alone c.args.room c.args.line.now c.begins_one.result (omega (arith, c.if-room.false)) c.in_default.ensures.free (cookie_begins c.args.line.now c.begins_one.result c.begins_one.ensures)

pub returns-in-Some-read_cookie : goal.returns-in-Some-read_cookie
returns-in-Some-read_cookie c =
    ok_test c.begins_beside.result
    (λ b h. marked_known c.args.room c.args.line.now c.in-Some.first.now c.in-Some.rest.now c.read_cookie.result c.in-Some-read_cookie.field-0 b (omega (arith, c.if-room.false)) c.in-Some.ensures.parts c.in-Some.ensures.first c.read_cookie.ensures c.in-Some-read_cookie.is h)
    c.begins_beside.ensures

pub returns-in-None : goal.returns-in-None
returns-in-None c = marked_none c.args.room c.args.line.now c.in-Some.first.now c.in-Some.rest.now c.read_cookie.result c.in-Some.ensures.parts c.in-Some.ensures.first c.read_cookie.ensures c.in-None.is
