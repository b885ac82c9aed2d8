use Rattle.b1_run.proofs.Ends.{done_is}
use Rattle.b1_run.proofs.running.done.Goals as goal

pub returns : goal.returns
returns c = done_is c.args._script.now c.args.closed c.finish.result c.facts.ensures.reached c.facts.ensures.closed c.finish.ensures.record c.finish.ensures.legal c.requires.opening c.requires.drained c.every_reached_state_is_sound.ensures.reached c.every_reached_record_is_legal.ensures.whole
