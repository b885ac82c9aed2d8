use Rattle.std.proofs.Common.{refl, ap, length, Some, arith}
use Rattle.b1_model.specs.declared.commands.Command.TheVariants as cmd
use Rattle.b1_rule.specs.Rule.{holding}
use Rattle.b1_locks.proofs.Runs.{begins_here, owes_nothing, begins_next, refused_begin}
use Rattle.b1_locks.proofs.run.run_short.Goals as goal

pub event-requires-clause-begun : goal.event-requires-clause-begun
event-requires-clause-begun g c =
    let d = c.args.hand.now.state in
    (holding d, Some (cmd.Send c.args.send), c.requires.rests, begins_here c.args.bus.now.opening d c.begin.new.self (cmd.Send c.args.send) c.requires.idle c.requires.stands c.begin.ensures)

pub go_on-requires-clause-fit : goal.go_on-requires-clause-fit
go_on-requires-clause-fit g c =
    let d = c.args.hand.now.state in
    (c.event.ensures.moved (holding d) (Some (cmd.Send c.args.send)) c.requires.rests (begins_here c.args.bus.now.opening d c.begin.new.self (cmd.Send c.args.send) c.requires.idle c.requires.stands c.begin.ensures)).fit

pub go_on-requires-clause-stands : goal.go_on-requires-clause-stands
go_on-requires-clause-stands g c =
    let d = c.args.hand.now.state in
    (c.event.ensures.moved (holding d) (Some (cmd.Send c.args.send)) c.requires.rests (begins_here c.args.bus.now.opening d c.begin.new.self (cmd.Send c.args.send) c.requires.idle c.requires.stands c.begin.ensures)).stands

pub returns-clause-steps : goal.returns-clause-steps
returns-clause-steps g c =
    let d = c.args.hand.now.state in
    let moved = c.event.ensures.moved (holding d) (Some (cmd.Send c.args.send)) c.requires.rests (begins_here c.args.bus.now.opening d c.begin.new.self (cmd.Send c.args.send) c.requires.idle c.requires.stands c.begin.ensures) in
    let (n, goes) = c.go_on.ensures.goes in
    record { first = c.event.new.hand.state.part; begins = moved.moves; count = n; goes = goes }

pub returns-clause-spare : goal.returns-clause-spare
returns-clause-spare g c =
    let d = c.args.hand.now.state in
    let moved = c.event.ensures.moved (holding d) (Some (cmd.Send c.args.send)) c.requires.rests (begins_here c.args.bus.now.opening d c.begin.new.self (cmd.Send c.args.send) c.requires.idle c.requires.stands c.begin.ensures) in
    let a = c.go_on.ensures.spare in
    let b = moved.spare in
    omega (arith, a, b, ap (λ z. z.spare) c.begin.ensures, ap (λ z. length z.part.calls) c.begin.ensures)

pub returns-clause-refused : goal.returns-clause-refused
returns-clause-refused g c = λ is_open.
    let o = c.args.bus.now.opening in
    let d = c.args.hand.now.state.part in
    let e = c.begin.new.self.part in
    let owes = owes_nothing o d c.every_reached_state_is_sound.ensures.reached c.requires.stands c.requires.idle.closed in
    let same = ap (λ z. z.part) c.begin.ensures in
    let (n, goes) = c.go_on.ensures.goes in
    refused_begin o d e c.event.new.hand.state.part c.go_on.new.hand.state.part c.args.send n same (c.event.ensures.short refl (begins_next d e c.args.send owes is_open same)) goes
