use Rattle.std.proofs.Common.{inl, inr}
use Rattle.b1_play.proofs.Passing.{settles, settle_more}
use Rattle.b1_play.proofs.rounds.play_rounds.Goals as goal

pub returns-then-are_over : goal.returns-then-are_over
returns-then-are_over g c =
    settles c.args.core.now c.loop-end.core c.rounds_of_attempts.new.core c.in_ok-end.end c.loop-end.invariant c.in_ok-end.ensures
    (elim (c.are_over.ensures.over c.if-are_over.true) [ inl called ↦ absurd (cc called) | inr other ↦ elim other [ inl none ↦ inr none | inr empty ↦ inl empty ] ])

pub loop-end-preserved : goal.loop-end-preserved
loop-end-preserved g c =
    let more = c.are_over.ensures.more c.if-are_over.false in
    (settle_more c.args.core.now c.loop-end.core c.rounds_of_attempts.new.core c.in_ok-end.end c.loop-end.invariant c.in_ok-end.ensures more.2 more.1).0
