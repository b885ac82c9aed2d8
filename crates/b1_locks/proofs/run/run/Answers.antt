use Rattle.std.proofs.Common.{ap, length, Some, arith}
use Rattle.b1_rule.specs.Rule.{holding}
use Rattle.b1_locks.proofs.Runs.{begins_here}
use Rattle.b1_locks.proofs.run.run.Goals as goal

pub event-requires-clause-begun : goal.event-requires-clause-begun
event-requires-clause-begun g c =
    let d = c.args.hand.now.state in
    (holding d, Some c.args.command, c.requires.rests, begins_here c.args.bus.now.opening d c.begin.new.self c.args.command c.requires.idle c.requires.stands c.begin.ensures)

pub go_on-requires-clause-fit : goal.go_on-requires-clause-fit
go_on-requires-clause-fit g c =
    let d = c.args.hand.now.state in
    (c.event.ensures.moved (holding d) (Some c.args.command) c.requires.rests (begins_here c.args.bus.now.opening d c.begin.new.self c.args.command c.requires.idle c.requires.stands c.begin.ensures)).fit

pub go_on-requires-clause-stands : goal.go_on-requires-clause-stands
go_on-requires-clause-stands g c =
    let d = c.args.hand.now.state in
    (c.event.ensures.moved (holding d) (Some c.args.command) c.requires.rests (begins_here c.args.bus.now.opening d c.begin.new.self c.args.command c.requires.idle c.requires.stands c.begin.ensures)).stands

pub returns-clause-steps : goal.returns-clause-steps
returns-clause-steps g c =
    let d = c.args.hand.now.state in
    let moved = c.event.ensures.moved (holding d) (Some c.args.command) c.requires.rests (begins_here c.args.bus.now.opening d c.begin.new.self c.args.command c.requires.idle c.requires.stands c.begin.ensures) in
    let (n, goes) = c.go_on.ensures.goes in
    record { first = c.event.new.hand.state.part; begins = moved.moves; count = n; goes = goes }

pub returns-clause-spare : goal.returns-clause-spare
returns-clause-spare g c =
    let d = c.args.hand.now.state in
    let moved = c.event.ensures.moved (holding d) (Some c.args.command) c.requires.rests (begins_here c.args.bus.now.opening d c.begin.new.self c.args.command c.requires.idle c.requires.stands c.begin.ensures) in
    let a = c.go_on.ensures.spare in
    let b = moved.spare in
    omega (arith, a, b, ap (λ z. z.spare) c.begin.ensures, ap (λ z. length z.part.calls) c.begin.ensures)
