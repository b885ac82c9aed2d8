-- The whole is such a list where the rest is one of what room is left.
use Rattle.std.proofs.Common.{◌↔◌}
use Rattle.b1_text_words.specs.Items.{SpellsSome}
use Rattle.b1_text_words.proofs.lists.fits_some.Given as goal

abbrev pub invariant-loop-room : goal.invariant-loop-room
invariant-loop-room l = SpellsSome l.item l.most l.word ↔ SpellsSome l.item l.room l.rest

abbrev pub decreases-loop-room : goal.decreases-loop-room
decreases-loop-room l = l.room
