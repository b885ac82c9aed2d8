-- The whole begins such a list where the rest begins one of what room is left.
use Rattle.std.proofs.Common.{◌↔◌}
use Rattle.b1_text_words.specs.Items.{SpellsSome}
use Rattle.b1_text_words.specs.Words.{Begins}
use Rattle.b1_text_words.proofs.lists.begins_some.Given as goal

abbrev pub invariant-loop-room : goal.invariant-loop-room
invariant-loop-room l = Begins (SpellsSome l.item l.most) l.word ↔ Begins (SpellsSome l.item l.room) l.rest

abbrev pub decreases-loop-room : goal.decreases-loop-room
decreases-loop-room l = l.room
