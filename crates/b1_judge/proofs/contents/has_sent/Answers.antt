-- What a message receipt must have is what the look-ups give.
use Rattle.std.proofs.Common.{◌∙◌}
use Rattle.b1_judge.proofs.ContentsLemmas.{sent_by}
use Rattle.b1_judge.proofs.contents.has_sent.Goals as goal

pub returns : goal.returns
returns c =
    sent_by c.args.walk.now c.args.facts.now c.args.key.now c.args.number c.args.handles.now c.args.payload.now c.requires.along c.message.result c.in-Some.message c.message.ensures c.in-Some.is
    c.own_number-own.result c.destination.result c.payload-sent.result.now c.carried.result.now c.as_slice.result.now c.agrees.result
    c.own_number-own.ensures c.destination.ensures c.payload-sent.ensures c.carried.ensures (c.as_slice.ensures ∙ c.in_ok-arrived.ensures) c.agrees.ensures
