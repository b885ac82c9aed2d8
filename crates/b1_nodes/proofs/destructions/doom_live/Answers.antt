use Rattle.std.proofs.Common.{List, ◌≡◌, ◌≢◌, AllPairs, sym, subst, rules, ℕ}
use Rattle.b1_model.specs.MachineParts.{is_live}
use Rattle.b1_model.specs.MachineDestroy.{live_serials}
use Rattle.b1_nodes.specs.Nodes.{AllMade}
use Rattle.b1_nodes.proofs.Doomed.{no_live_left, live_made, live_distinct}
use Rattle.b1_nodes.proofs.destructions.doom_live.Goals as goal

pub returns-clause-live : goal.returns-clause-live
returns-clause-live c =
    let is : c.loop-serial.doomed.items ≡ live_serials 0 c.args.nodes.now.nodes = no_live_left c.loop-serial.serial c.args.nodes.now.nodes c.loop-serial.doomed.items _ (search rules) c.loop-serial.invariant.serials in
    subst (AllMade (λ n. is_live n.state) c.args.nodes.now.nodes) (sym is) (live_made c.args.nodes.now.nodes)

pub returns-clause-distinct : goal.returns-clause-distinct
returns-clause-distinct c =
    let is : c.loop-serial.doomed.items ≡ live_serials 0 c.args.nodes.now.nodes = no_live_left c.loop-serial.serial c.args.nodes.now.nodes c.loop-serial.doomed.items _ (search rules) c.loop-serial.invariant.serials in
    subst (λ (xs : List ℕ). AllPairs ◌≢◌ xs) (sym is) (live_distinct c.args.nodes.now.nodes)
