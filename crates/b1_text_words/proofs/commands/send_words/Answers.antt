-- The words of a SEND, if all are there.
use Rattle.b1_text_words.proofs.Sends.{no_to, no_with, no_space, no_data}
use Rattle.b1_text_words.proofs.commands.send_words.Goals as goal

pub returns-in_default : goal.returns-in_default
returns-in_default c = no_to c.args.line.now c.in_default.ensures.free

pub returns-in_default-behind : goal.returns-in_default-behind
returns-in_default-behind c = no_with c.args.line.now c.in-Some.to.now c.in-Some.rest.now c.in-Some.ensures.parts c.in-Some.ensures.first c.in_default-behind.ensures

pub returns-in_default-split : goal.returns-in_default-split
returns-in_default-split c = no_space c.args.line.now c.in-Some.to.now c.in-Some.rest.now c.in-Some-behind.rest.now c.in-Some.ensures.parts c.in-Some.ensures.first c.in-Some-behind.ensures c.in_default-split.ensures.free

pub returns-in-None : goal.returns-in-None
returns-in-None c = no_data c.args.line.now c.in-Some.to.now c.in-Some.rest.now c.in-Some-behind.rest.now c.in-Some-split.with.now c.in-Some-split.rest.now c.in-Some.ensures.parts c.in-Some.ensures.first c.in-Some-behind.ensures c.in-Some-split.ensures.parts c.in-Some-split.ensures.first c.in-None.ensures
