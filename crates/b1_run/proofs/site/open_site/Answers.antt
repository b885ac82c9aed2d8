use Rattle.std.proofs.Common.{map, refl}
use Rattle.b1_locks.specs.Faces.{DriverFace}
use Rattle.b1_run.proofs.Ends.{are_at, none_called}
use Rattle.b1_run.proofs.site.open_site.Goals as goal

pub returns : goal.returns
returns c =
    let fs = c.in_ok-bus.drivers.items in
    record {
      opening = c.in_ok-bus.ensures.opening;
      are_at = are_at c.in_ok-bus.bus c.args.script.now.commands c.in_ok-workers.workers.items fs (map (λ (f : DriverFace). f.own) fs) c.in_ok-workers.ensures c.in_ok-bus.ensures.members refl
          (none_called c.args.script.now.commands c.args.script.now.opening.peers fs c.in_ok-bus.ensures.parts);
    }
