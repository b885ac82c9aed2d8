use Rattle.std.proofs.Common.{◌-◌, length, take, drop, arith}
use Rattle.std.proofs.lemmas.Grind.{common_steps}
use Rattle.b1_script.proofs.Stops.{in_two, left_of, none_found}
use Rattle.b1_script.proofs.pieces.take_piece.Goals as goal

pub returns-in-Some-clause-bytes : goal.returns-in-Some-clause-bytes
returns-in-Some-clause-bytes c =
    let piece = c.args.piece.now in
    let a = c.loop-taken.taken in
    in_two c.args.bytes.now.items c.loop-taken.bytes.items c.take_front.new.bytes.items piece (take (length piece - a) (drop a piece)) a c.in_ok-taken.field-0 c.loop-taken.invariant.bytes (left_of piece a) c.in_ok-taken.ensures.bytes

pub loop-taken-preserved : goal.loop-taken-preserved
loop-taken-preserved c =
    let piece = c.args.piece.now in
    let a = c.loop-taken.taken in
    record {
      within = grind (arith, common_steps, c.in_ok-taken.ensures.within, c.loop-taken.invariant.within);
      bytes = in_two c.args.bytes.now.items c.loop-taken.bytes.items c.take_front.new.bytes.items piece (take (length piece - a) (drop a piece)) a c.in_ok-taken.field-0 c.loop-taken.invariant.bytes (left_of piece a) c.in_ok-taken.ensures.bytes;
      unfound = none_found c.in_ok-script.field-0 c.deref.result.now c.take_front.new.bytes.items c.in-None.is c.deref.ensures.value c.in_ok-script.ensures.unfound;
      shorter = c.in_ok-taken.ensures.shorter;
    }
