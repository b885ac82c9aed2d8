-- A comma parts an item from a list of the room that is left.
use Rattle.std.proofs.Common.{◌≡◌, true, false}
use Rattle.b1_text_words.proofs.Commas.{spells_more, more_spells}
use Rattle.b1_text_words.proofs.lists.fits_some.Goals as goal

pub returns-then-not-fits_item : goal.returns-then-not-fits_item
returns-then-not-fits_item c = (
  λ is. absurd (cc),
  λ s. absurd (let h = more_spells c.args.item c.requires c.loop-room.room c.loop-room.rest.now c.in-Some.first.now c.in-Some.behind.now c.in-Some.ensures.parts c.in-Some.ensures.first (c.loop-room.invariant.0 s) in
      let yes : c.fits_item-in-loop-room.result ≡ true = c.fits_item-in-loop-room.ensures.1 h.0 in
      let not : c.fits_item-in-loop-room.result ≡ false = c.if-not-fits_item.true in cc),
)

pub loop-room-preserved : goal.loop-room-preserved
loop-room-preserved c = (
  λ s. (more_spells c.args.item c.requires c.loop-room.room c.loop-room.rest.now c.in-Some.first.now c.in-Some.behind.now c.in-Some.ensures.parts c.in-Some.ensures.first (c.loop-room.invariant.0 s)).1,
  λ s. c.loop-room.invariant.1 (spells_more c.args.item c.requires c.loop-room.room c.loop-room.rest.now c.in-Some.first.now c.in-Some.behind.now c.in-Some.ensures.parts c.loop-room-test.true (c.fits_item-in-loop-room.ensures.0 c.if-not-fits_item.false) s),
)
