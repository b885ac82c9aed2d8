use Rattle.b1_input.proofs.Holding.{front_only}
use Rattle.b1_input.proofs.input.Input.front.Goals as goal

pub returns-clause-only : goal.returns-clause-only
returns-clause-only c =
    let i = c.self.inside in
    front_only (λ f. (f.script, f.end)) c.args.self i.script.bytes i.behind.items i.count i.wanting c.read_front.result c.self.view_is (c.self.invariant c.if-wanting.false) c.read_front.ensures.exact
