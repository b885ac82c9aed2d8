use Rattle.b1_input.proofs.Holding.{whole_found_of, whole_only}
use Rattle.b1_input.proofs.input.Input.whole.Goals as goal

pub returns-clause-found : goal.returns-clause-found
returns-clause-found c =
    let i = c.self.inside in
    whole_found_of c.args.self i.script.bytes i.behind.items i.count i.wanting c.read_all_of.result c.self.view_is (c.self.invariant c.if-wanting.false) c.read_all_of.ensures

pub returns-clause-only : goal.returns-clause-only
returns-clause-only c =
    let i = c.self.inside in
    whole_only c.args.self i.script.bytes i.behind.items i.count i.wanting c.read_all_of.result c.self.view_is (c.self.invariant c.if-wanting.false) c.read_all_of.ensures
