use Rattle.std.proofs.Common.{length, ◌∙◌}
use native.Mathlib.Omega.{arith}
use Rattle.b1_model.specs.MachineParts.{is_live}
use Rattle.b1_nodes.specs.Nodes.{AllMade}
use Rattle.b1_inv_peer.specs.Needs.{StagesAnew}
use Rattle.b1_peer.proofs.KeptSends.{of_fields}
use Rattle.b1_peer.proofs.KeptDestroys.{doomed_few, begin_doomed, begin_kept, begin_seen, begin_holders}
use Rattle.b1_peer.proofs.state.PeerState.begin.Goals as goal

pub stage_own-requires-clause-few : goal.stage_own-requires-clause-few
stage_own-requires-clause-few g c =
    let live = of_fields (λ s. AllMade (λ n. is_live n.state) s.part.nodes c.args.doomed.now) _ _ c.self.invariant c.self.view_is c.requires.live in
    let most = doomed_few c.self.inside.nodes.nodes c.args.doomed.now live c.requires.distinct in
    omega (arith, most, c.len-few.ensures.len)

pub stage_own-requires-clause-fit : goal.stage_own-requires-clause-fit
stage_own-requires-clause-fit g c =
    let live = of_fields (λ s. AllMade (λ n. is_live n.state) s.part.nodes c.args.doomed.now) _ _ c.self.invariant c.self.view_is c.requires.live in
    let new = of_fields (λ s. StagesAnew s.part s.part.me (length c.args.doomed.now)) _ _ c.self.invariant c.self.view_is c.requires.new_keys in
    (begin_doomed _ c.self.invariant c.args.doomed.now live c.requires.distinct new).fit

pub invariant_of-self : goal.invariant_of-self
invariant_of-self g c =
    let live = of_fields (λ s. AllMade (λ n. is_live n.state) s.part.nodes c.args.doomed.now) _ _ c.self.invariant c.self.view_is c.requires.live in
    let new = of_fields (λ s. StagesAnew s.part s.part.me (length c.args.doomed.now)) _ _ c.self.invariant c.self.view_is c.requires.new_keys in
    begin_kept _ c.args.doomed.now c.stage_own.new.mail c.dying.new.self (begin_doomed _ c.self.invariant c.args.doomed.now live c.requires.distinct new) c.stage_own.ensures c.dying.ensures.doomed

pub returns-clause-holders : goal.returns-clause-holders
returns-clause-holders g c = rw (← c.self.view_is) (c.dying.ensures.holders ∙ begin_holders _ c.self.invariant c.args.doomed.now)

pub returns-clause-doomed : goal.returns-clause-doomed
returns-clause-doomed g c = rw (← c.self.view_is) (begin_seen _ c.self.invariant c.args.doomed.now c.stage_own.new.mail c.dying.new.self c.stage_own.ensures c.dying.ensures.doomed)
