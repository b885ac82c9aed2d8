use Rattle.b1_text.proofs.Cuts.{marked_cut, no_space, no_first, no_rest, both_parts}
use Rattle.b1_text.proofs.fields.read_marked.Goals as goal

pub returns-in_default : goal.returns-in_default
returns-in_default c = no_space marked_cut c.args.line.now c.in_default.ensures.free

pub returns-in_default-read_cookie : goal.returns-in_default-read_cookie
returns-in_default-read_cookie c = no_first marked_cut c.args.line.now c.in-Some.first.now c.in-Some.rest.now c.read_cookie.result c.in-Some.ensures.parts c.in-Some.ensures.first c.read_cookie.ensures c.in_default-read_cookie.is

pub returns-in-Some-2 : goal.returns-in-Some-2
returns-in-Some-2 c =
    both_parts marked_cut c.args.line.now c.in-Some.first.now c.in-Some.rest.now c.read_cookie.result c.in_ok-command.field-0 (c.in-Some-read_cookie.cookie, c.in-Some-2.command) c.in-Some.ensures.parts c.in-Some.ensures.first c.read_cookie.ensures c.in-Some-read_cookie.is c.in_ok-command.ensures c.in-Some-2.is

pub returns-in-None : goal.returns-in-None
returns-in-None c = no_rest marked_cut c.args.line.now c.in-Some.first.now c.in-Some.rest.now c.in_ok-command.field-0 c.in-Some.ensures.parts c.in-Some.ensures.first c.in_ok-command.ensures c.in-None.is
