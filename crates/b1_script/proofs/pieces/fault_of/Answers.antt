use Rattle.b1_script.proofs.Stops.{no_front}
use Rattle.b1_script.proofs.pieces.fault_of.Goals as goal

pub unreachable-requires : goal.unreachable-requires
unreachable-requires c = no_front c.args.bytes.now c.in-Ok.field-0.0 c.in-Ok.field-0.1 c.requires.unfound c.requires.shorter c.in-Ok.ensures.found
