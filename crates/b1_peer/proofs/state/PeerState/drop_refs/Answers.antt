use Rattle.std.proofs.Common.{◌≤◌, ◌<◌, length}
use native.Mathlib.Omega.{arith}
use Rattle.b1_model.specs.MachineParts.{node_at}
use Rattle.b1_model.specs.MachineTables.{count_of}
use Rattle.b1_nodes.specs.Nodes.{node_in}
use Rattle.b1_peer.proofs.KeptSends.{of_fields}
use Rattle.b1_peer.proofs.KeptGives.{is_due, no_release_found, drop_released_kept, drop_unreleased_kept}
use Rattle.b1_peer.proofs.state.PeerState.drop_refs.Goals as goal

pub put_notice-requires-clause-spare : goal.put_notice-requires-clause-spare
put_notice-requires-clause-spare g c =
    let made = of_fields (λ s. c.args.serial < length s.part.nodes) _ _ c.self.invariant c.self.view_is c.requires.made in
    let enough = of_fields (λ s. c.args.k ≤ count_of (node_at s.part c.args.serial) c.args.holder) _ _ c.self.invariant c.self.view_is c.requires.enough in
    let some : 1 ≤ count_of (node_in c.self.inside.nodes.nodes c.args.serial) c.args.holder = omega (arith, enough, c.requires.some) in
    let due = is_due _ c.self.invariant c.args.serial c.args.holder c.args.k c.detach.new.self c.detach.result made some c.detach.ensures.detached c.detach.ensures.unheld c.if-detach.true in
    due.spare

pub put_notice-requires-clause-new_notice : goal.put_notice-requires-clause-new_notice
put_notice-requires-clause-new_notice g c =
    let made = of_fields (λ s. c.args.serial < length s.part.nodes) _ _ c.self.invariant c.self.view_is c.requires.made in
    let enough = of_fields (λ s. c.args.k ≤ count_of (node_at s.part c.args.serial) c.args.holder) _ _ c.self.invariant c.self.view_is c.requires.enough in
    let some : 1 ≤ count_of (node_in c.self.inside.nodes.nodes c.args.serial) c.args.holder = omega (arith, enough, c.requires.some) in
    let due = is_due _ c.self.invariant c.args.serial c.args.holder c.args.k c.detach.new.self c.detach.result made some c.detach.ensures.detached c.detach.ensures.unheld c.if-detach.true in
    no_release_found c.args.serial c.self.inside.mail.queue due.none

pub invariant_of-self : goal.invariant_of-self
invariant_of-self g c =
    let made = of_fields (λ s. c.args.serial < length s.part.nodes) _ _ c.self.invariant c.self.view_is c.requires.made in
    let enough = of_fields (λ s. c.args.k ≤ count_of (node_at s.part c.args.serial) c.args.holder) _ _ c.self.invariant c.self.view_is c.requires.enough in
    let some : 1 ≤ count_of (node_in c.self.inside.nodes.nodes c.args.serial) c.args.holder = omega (arith, enough, c.requires.some) in
    drop_released_kept _ c.self.invariant c.args.serial c.args.holder c.args.k c.max-self-inside.result _ c.detach.new.self c.put_notice.new.self c.detach.result made some c.detach.ensures.detached c.detach.ensures.unheld c.if-detach.true c.put_notice.ensures

pub invariant_of-self-else-detach : goal.invariant_of-self-else-detach
invariant_of-self-else-detach g c =
    let enough = of_fields (λ s. c.args.k ≤ count_of (node_at s.part c.args.serial) c.args.holder) _ _ c.self.invariant c.self.view_is c.requires.enough in
    let some : 1 ≤ count_of (node_in c.self.inside.nodes.nodes c.args.serial) c.args.holder = omega (arith, enough, c.requires.some) in
    drop_unreleased_kept _ c.self.invariant c.args.serial c.args.holder c.args.k c.max-self-inside.result c.detach.new.self some c.detach.ensures.detached
