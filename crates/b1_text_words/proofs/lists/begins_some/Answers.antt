-- A comma parts an item from a list of the room that is left.
use Rattle.std.proofs.Common.{◌≡◌, true, false}
use Rattle.b1_text_words.proofs.Commas.{begins_more, more_begins, begins_last, last_begins}
use Rattle.b1_text_words.proofs.lists.begins_some.Goals as goal

pub returns-then-not-fits_item : goal.returns-then-not-fits_item
returns-then-not-fits_item c = (
  λ is. absurd (cc),
  λ s. absurd (let h = more_begins c.args.item c.requires c.loop-room.room c.loop-room.rest.now c.in-Some.first.now c.in-Some.behind.now c.in-Some.ensures.parts c.in-Some.ensures.first (c.loop-room.invariant.0 s) in
      let yes : c.fits_item.result ≡ true = c.fits_item.ensures.1 h.0 in
      let not : c.fits_item.result ≡ false = c.if-not-fits_item.true in cc),
)

pub loop-room-preserved : goal.loop-room-preserved
loop-room-preserved c = (
  λ s. (more_begins c.args.item c.requires c.loop-room.room c.loop-room.rest.now c.in-Some.first.now c.in-Some.behind.now c.in-Some.ensures.parts c.in-Some.ensures.first (c.loop-room.invariant.0 s)).1,
  λ s. c.loop-room.invariant.1 (begins_more c.args.item c.requires c.loop-room.room c.loop-room.rest.now c.in-Some.first.now c.in-Some.behind.now c.in-Some.ensures.parts c.loop-room-test.true (c.fits_item.ensures.0 c.if-not-fits_item.false) s),
)

pub returns-in_default : goal.returns-in_default
returns-in_default c = (
  λ is. c.loop-room.invariant.1 (begins_last c.args.item c.requires c.loop-room.room c.loop-room.rest.now c.loop-room-test.true (c.begins_item.ensures.0 is)),
  λ b. c.begins_item.ensures.1 (last_begins c.args.item c.requires c.loop-room.room c.loop-room.rest.now c.in_default.ensures.free (c.loop-room.invariant.0 b)),
)
