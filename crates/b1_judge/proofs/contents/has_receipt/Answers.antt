-- A message receipt has what was sent.
use Rattle.b1_judge.proofs.ContentsLemmas.{sent_is}
use Rattle.b1_judge.proofs.contents.has_receipt.Goals as goal

pub returns-in-Message : goal.returns-in-Message
returns-in-Message c =
    sent_is c.args.walk.now c.args.receipt.now c.in-Message.key c.in-Message.number c.in-Message.offset c.in-Message.handles c.in-Message.payload c.in-Message.is
    c.as_slice-handles.result.now c.as_slice-payload.result.now c.as_slice-handles.ensures c.as_slice-payload.ensures c.has_sent.result c.has_sent.ensures
