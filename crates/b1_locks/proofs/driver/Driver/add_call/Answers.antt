use Rattle.b1_locks.proofs.Finished.{did_so}
use Rattle.b1_locks.proofs.driver.Driver.add_call.Goals as goal

pub returns : goal.returns
returns g c =
    let k = c.finish_command.ensures in
    did_so c.args.self.now c.finish_command.new.self c.args.command c.requires.other k.member k.steps k.spare k.ended
