use Rattle.std.proofs.Common.{◌≡◌, map, ap, ◌∙◌}
use Rattle.b1_locks.specs.Faces.{ClosedFace, DriverFace, members}
use Rattle.b1_bus.proofs.States.{if_ok}
use Rattle.b1_run.specs.Runs.{IsShutDown}
use Rattle.b1_run.proofs.Ends.{crew_at, owns_of, follow_of, both_ok}
use Rattle.b1_run.proofs.site.close_site.Goals as goal

pub close-requires : goal.close-requires
close-requires c = record { crew = ap members c.in_ok-drivers.ensures ∙ crew_at c.args.site.bus c.args._script.now.commands c.args.site.workers.items c.requires.are_at }

pub returns-clause-closed : goal.returns-clause-closed
returns-clause-closed c =
    let ws = c.args.site.workers.items in
    both_ok (λ (f : ClosedFace). f.opening ≡ c.args.site.bus.opening) (λ (f : ClosedFace). f.drivers ≡ map (λ (d : DriverFace). d.own) c.in_ok-drivers.drivers.items) (λ (f : ClosedFace). IsShutDown c.args._script.now f) c.close.result
    (λ f opening drivers. record {
      opening = opening ∙ c.requires.opening;
      follows = follow_of c.args.site.bus c.args._script.now.commands ws f.drivers c.requires.are_at (drivers ∙ owns_of ws c.in_ok-drivers.drivers.items c.in_ok-drivers.ensures);
    }) c.close.ensures.opening c.close.ensures.drivers

pub returns-clause-drivers : goal.returns-clause-drivers
returns-clause-drivers c =
    if_ok _ _ c.close.result (λ f drivers. drivers ∙ owns_of c.args.site.workers.items c.in_ok-drivers.drivers.items c.in_ok-drivers.ensures) c.close.ensures.drivers
