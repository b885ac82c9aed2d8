use Rattle.std.proofs.Common.{subst}
use Rattle.b1_model.specs.Legal.{Legal}
use Rattle.b1_model.specs.MachineStep.{Reached, record_of_state}
use Rattle.b1_legal.specs.Promises.{StepsKeepPromises}
use Rattle.b1_core.specs.Turns.{Bus}
use Rattle.b1_core.specs.Bus.{state_of}
use Rattle.b1_core.proofs.bus.Core.facts.Goals as goal

pub returns-clause-reached : goal.returns-clause-reached
returns-clause-reached g c = subst (λ (b : Bus). Reached b.opening b.state) c.self.view_is c.self.invariant.core.reached

pub returns-clause-legal : goal.returns-clause-legal
returns-clause-legal g c =
    let core = c.self.invariant.core in
    let s = state_of c.self.inside.peers.items c.self.inside.drivers.items in
    subst (λ (b : Bus). Legal b.opening (record_of_state b.state)) c.self.view_is (c.every_reached_record_is_legal.ensures.legal c.self.inside.opening s core.opening core.reached)

pub returns-clause-promises : goal.returns-clause-promises
returns-clause-promises g c =
    let core = c.self.invariant.core in
    let s = state_of c.self.inside.peers.items c.self.inside.drivers.items in
    subst (λ (b : Bus). StepsKeepPromises b.opening b.state) c.self.view_is (c.every_step_keeps_promises.ensures.steps c.self.inside.opening s core.opening core.reached)
