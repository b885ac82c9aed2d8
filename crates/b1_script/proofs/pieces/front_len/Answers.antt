use Rattle.std.proofs.Common.{◌+◌, length, arith}
use Rattle.std.proofs.lemmas.Grind.{common_steps}
use Rattle.b1_script.proofs.Stops.{still_none}
use Rattle.b1_script.proofs.pieces.front_len.Goals as goal

pub returns-in-Some-clause-shorter : goal.returns-in-Some-clause-shorter
returns-in-Some-clause-shorter c = still_none c.args.bytes.now c.args.piece.now c.min.result c.in-Some.stop c.requires.unfound c.requires.shorter (grind (arith, common_steps, c.min.ensures)) c.in-Some.ensures.1 (grind (arith, common_steps, c.min.ensures, c.in-Some.ensures.0))

pub returns-in-None-clause-shorter : goal.returns-in-None-clause-shorter
returns-in-None-clause-shorter c = still_none c.args.bytes.now c.args.piece.now (length c.args.piece.now) (length c.args.bytes.now + length c.args.piece.now) c.requires.unfound c.requires.shorter (omega arith) (c.in-None.ensures _) (omega arith)
