-- A receipt and one of its slots, if both are there.
use Rattle.std.proofs.Common.{subst}
use Rattle.std.specs.Prelude.{decimal}
use Rattle.b1_text_words.specs.Items.{IsUpTo}
use Rattle.b1_text_words.specs.Words.{Reads}
use Rattle.b1_text_words.proofs.Slots.{no_receipt, no_slot, slot_read}
use Rattle.b1_text_words.proofs.operands.read_slot.Goals as goal

pub returns-in_default-read_up_to : goal.returns-in_default-read_up_to
returns-in_default-read_up_to c = no_receipt c.args.most c.args.rest.now c.in-Some.receipt.now c.in-Some.slot.now _ c.ranges.most.fits c.in-Some.ensures.parts c.in-Some.ensures.first c.in_default-read_up_to.is c.read_up_to.ensures

pub returns-in-Some-read_up_to-2 : goal.returns-in-Some-read_up_to-2
returns-in-Some-read_up_to-2 c =
    let slots = subst (λ l. Reads decimal (IsUpTo l) c.in-Some.slot.now c.read_up_to-2.result) c.last_slot.ensures c.read_up_to-2.ensures in
    slot_read c.args.most c.in-Some-read_up_to.receipt c.in-Some-read_up_to-2.slot c.args.rest.now c.in-Some.receipt.now c.in-Some.slot.now _ _ c.requires c.ranges.most.fits c.in-Some.ensures.parts c.in-Some.ensures.first c.in-Some-read_up_to.is c.read_up_to.ensures c.in-Some-read_up_to-2.is slots

pub returns-in-None : goal.returns-in-None
returns-in-None c =
    let slots = subst (λ l. Reads decimal (IsUpTo l) c.in-Some.slot.now c.read_up_to-2.result) c.last_slot.ensures c.read_up_to-2.ensures in
    no_slot c.args.most c.in-Some-read_up_to.receipt c.args.rest.now c.in-Some.receipt.now c.in-Some.slot.now _ _ c.ranges.most.fits c.in-Some.ensures.parts c.in-Some.ensures.first c.in-Some-read_up_to.is c.read_up_to.ensures c.in-None.is slots
