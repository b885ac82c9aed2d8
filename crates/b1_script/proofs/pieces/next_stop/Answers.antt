use Rattle.std.proofs.Common.{arith, subst, sym, ℕ}
use Rattle.b1_script.specs.Pieces.{HasNoneBefore}
use Rattle.b1_script.proofs.Stops.{none_before, none_ever, none_untold}
use Rattle.b1_script.proofs.pieces.next_stop.Goals as goal

pub returns-in-None : goal.returns-in-None
returns-in-None c = (c.in-None.ensures, none_untold c.args.bytes.now c.in-None.ensures)

pub returns-in-Some : goal.returns-in-Some
returns-in-Some c =
    let bytes = c.args.bytes.now in
    (omega (arith, c.if-bytes-len.true), subst (λ (n : ℕ). HasNoneBefore bytes n) (sym c.in-Some.ensures.1) (none_before bytes c.in-Some.ensures.0))

pub returns-in-Some-2 : goal.returns-in-Some-2
returns-in-Some-2 c = none_ever c.args.bytes.now c.in-Some.ensures.0 (omega (arith, c.in-Some.ensures.1, c.if-bytes-len.false))
