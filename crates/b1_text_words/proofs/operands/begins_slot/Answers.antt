-- A receipt and the bytes that begin one of its slots.
use Rattle.std.proofs.Common.{◌/◌, ◌-◌, ◌↔◌, IsTrue, subst}
use Rattle.std.specs.Prelude.{decimal}
use Rattle.b1_text_words.specs.Items.{IsUpTo}
use Rattle.b1_text_words.specs.Words.{Begins, Spells}
use Rattle.b1_text_words.proofs.Languages.{read_found}
use Rattle.b1_text_words.proofs.Slots.{begins_index, index_begins, nothing_without_receipt}
use Rattle.b1_text_words.proofs.operands.begins_slot.Goals as goal

pub returns-in-Some-read_up_to : goal.returns-in-Some-read_up_to
returns-in-Some-read_up_to c =
    let q = c.in-Some-read_up_to.receipt in
    let found = read_found decimal (IsUpTo ((c.args.most - 1) / 128)) c.in-Some.receipt.now _ q c.read_up_to.ensures c.in-Some-read_up_to.is in
    let r = c.begins_up_to-in-Some-read_up_to.result in
    let ends = subst (λ l. IsTrue r ↔ Begins (Spells decimal (IsUpTo l)) c.in-Some.slot.now) c.last_slot.ensures c.begins_up_to-in-Some-read_up_to.ensures in (
      λ is. begins_index c.args.most q c.args.rest.now c.in-Some.receipt.now c.in-Some.slot.now c.requires c.in-Some.ensures.parts found.0 found.1 (ends.0 is),
      λ b. ends.1 (index_begins c.args.most q c.args.rest.now c.in-Some.receipt.now c.in-Some.slot.now c.ranges.most.fits c.in-Some.ensures.parts c.in-Some.ensures.first found.0 found.1 b),
    )

pub returns-in-None : goal.returns-in-None
returns-in-None c = (
  λ is. absurd (cc),
  λ b. absurd (nothing_without_receipt c.args.most c.args.rest.now c.in-Some.receipt.now c.in-Some.slot.now _ c.ranges.most.fits c.in-Some.ensures.parts c.in-Some.ensures.first c.in-None.is c.read_up_to.ensures b),
)
