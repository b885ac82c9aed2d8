use Rattle.b1_script.proofs.Stops.{all_or_whole}
use Rattle.b1_script.proofs.pieces.ScriptReader.feed.Goals as goal

pub returns-in-Ok-clause-all : goal.returns-in-Ok-clause-all
returns-in-Ok-clause-all c = all_or_whole c.in-Ok.script _ _ _ c.in-Ok.ensures.all c.in-Ok.ensures.found
