use Rattle.b1_crew.proofs.Crews.{one_of}
use Rattle.b1_crew.proofs.parts.beside.Goals as goal

pub play_all-requires-after_bounds : goal.play_all-requires-after_bounds
play_all-requires-after_bounds g c κs within = one_of c.args.bus.now c.args.drivers.now c.requires
