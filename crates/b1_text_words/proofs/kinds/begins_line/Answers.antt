-- Word by word.
use Rattle.std.proofs.Common.{◌≡◌, true, false}
use Rattle.b1_text_words.proofs.Lines.{others_free, step_begins, begins_step, end_begins, begins_end}
use Rattle.b1_text_words.proofs.kinds.begins_line.Goals as goal

pub returns-in_default : goal.returns-in_default
returns-in_default c = (
  λ is. c.loop-kind.invariant.1.1 (begins_end c.args.separator c.args.kinds.now c.loop-kind.kind-index c.kind-item.result c.loop-kind-test.true c.kind-item.is c.is_bounded_kind.ensures c.loop-kind.invariant.0 c.loop-kind.rest.now (c.begins_word.ensures.0 is)),
  λ b. c.begins_word.ensures.1 (end_begins c.args.separator c.args.kinds.now c.loop-kind.kind-index c.kind-item.result c.loop-kind-test.true c.kind-item.is c.is_bounded_kind.ensures c.loop-kind.invariant.0 c.loop-kind.rest.now c.in_default.ensures.free (c.loop-kind.invariant.1.0 b)),
)

pub returns-then-not-fits_word : goal.returns-then-not-fits_word
returns-then-not-fits_word c = (
  λ is. absurd (cc),
  λ b. absurd (let h = step_begins c.args.separator c.args.kinds.now c.loop-kind.kind-index c.kind-item.result c.loop-kind-test.true c.kind-item.is c.is_bounded_kind.ensures c.loop-kind.invariant.0 c.loop-kind.rest.now c.in-Some.word.now c.in-Some.others.now c.in-Some.ensures.parts c.in-Some.ensures.first (c.loop-kind.invariant.1.0 b) in
      let yes : c.fits_word.result ≡ true = c.fits_word.ensures.1 h.0 in let not : c.fits_word.result ≡ false = c.if-not-fits_word.true in cc),
)

pub loop-kind-preserved : goal.loop-kind-preserved
loop-kind-preserved c = (
  others_free c.args.separator c.args.kinds.now c.loop-kind.kind-index c.kind-item.result c.loop-kind-test.true c.kind-item.is c.is_bounded_kind.ensures c.loop-kind.invariant.0,
  (
    λ b. (step_begins c.args.separator c.args.kinds.now c.loop-kind.kind-index c.kind-item.result c.loop-kind-test.true c.kind-item.is c.is_bounded_kind.ensures c.loop-kind.invariant.0 c.loop-kind.rest.now c.in-Some.word.now c.in-Some.others.now c.in-Some.ensures.parts c.in-Some.ensures.first (c.loop-kind.invariant.1.0 b)).1,
    λ b. c.loop-kind.invariant.1.1 (begins_step c.args.separator c.args.kinds.now c.loop-kind.kind-index c.kind-item.result c.loop-kind-test.true c.kind-item.is c.is_bounded_kind.ensures c.loop-kind.invariant.0 c.loop-kind.rest.now c.in-Some.word.now c.in-Some.others.now c.in-Some.ensures.parts (c.fits_word.ensures.0 c.if-not-fits_word.false) b),
  ),
)
