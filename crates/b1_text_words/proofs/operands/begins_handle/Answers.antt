-- With no sign before it, an even number begins so.
use Rattle.b1_text_words.specs.Numbers.{slot_text}
use Rattle.b1_text_words.proofs.References.{begins_even, even_begins}
use Rattle.b1_text_words.proofs.operands.begins_handle.Goals as goal

pub returns-in-None : goal.returns-in-None
returns-in-None c =
    let e = c.even.result in
    let m = c.args.most in
    let w = c.args.word.now in (
      λ is. begins_even slot_text e m w c.even.ensures.least c.even.ensures.most c.even.ensures.step (c.begins_among.ensures.0 is),
      λ b. c.begins_among.ensures.1 (even_begins slot_text e m w c.even.ensures.least c.even.ensures.most c.even.ensures.step c.in-None.ensures b),
    )
