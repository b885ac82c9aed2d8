use Rattle.std.proofs.Common.{◌≡◌, ◌∙◌, false, refl, sym, ap, subst, length, not, is_none}
use Rattle.std.specs.Prelude.{IfOk, OnErr}
use native.Mathlib.Omega.{arith}
use Rattle.b1_model.specs.MachineOrder.{next_command}
use Rattle.b1_core.specs.Turns.{Bus, driver_at, has_open, scripted, IsWanted, Turns}
use Rattle.b1_core.specs.Bus.{state_of}
use Rattle.b1_core.proofs.Turning.{as_many_drivers, as_many_peers}
use Rattle.b1_core.proofs.Buses.{part_is, driver_is, closed_tried, on_error, core_tried, turns_tried}
use Rattle.b1_core.proofs.bus.Core.step.Goals as goal

pub index-requires : goal.index-requires
index-requires g c =
    let o = c.self.inside.opening in
    let lists = c.self.inside.commands in
    let xs = c.self.inside.peers.items in
    let ds = c.self.inside.drivers.items in
    let p = c.args.p in
    let core = c.self.invariant.core in
    let many = as_many_drivers o xs ds core.opening core.reached core.stocked in
    let same = ap (λ (b : Bus). length b.opening.peers) c.self.view_is in
    omega (arith, many, same, c.requires.peer, c.self.inside.drivers.ok.0)

pub turn-requires-clause-begins : goal.turn-requires-clause-begins
turn-requires-clause-begins g c =
    let o = c.self.inside.opening in
    let lists = c.self.inside.commands in
    let xs = c.self.inside.peers.items in
    let ds = c.self.inside.drivers.items in
    let p = c.args.p in
    let core = c.self.invariant.core in
    let many = as_many_drivers o xs ds core.opening core.reached core.stocked in
    let same = ap (λ (b : Bus). length b.opening.peers) c.self.view_is in
    let d = c.index.result.now in
    let here = part_is ds p d (omega (arith, many, same, c.requires.peer)) c.index.ensures in
    let want = subst (IsWanted lists p d.part) c.in-Some.is c.in_ok-command.ensures.wanted in
    want.1 ∙ ap (λ f. not (is_none f.doing)) (sym here)

pub invariant_of-self : goal.invariant_of-self
invariant_of-self g c =
    let o = c.self.inside.opening in
    let lists = c.self.inside.commands in
    let xs = c.self.inside.peers.items in
    let ds = c.self.inside.drivers.items in
    let p = c.args.p in
    let core = c.self.invariant.core in
    let many = as_many_drivers o xs ds core.opening core.reached core.stocked in
    let same = ap (λ (b : Bus). length b.opening.peers) c.self.view_is in
    let ys = c.turn.new.peers.items in
    let es = c.turn.new.drivers.items in
    let moved = core_tried o lists xs ys ds es p c.in-Some.command c.turn.result core c.turn.ensures.step c.turn.ensures.stocked c.turn.ensures.peers c.turn.ensures.drivers in
    let before = as_many_peers o xs ds core.opening core.reached core.stocked in
    let after = as_many_peers o ys es moved.opening moved.reached moved.stocked in
    record { core = moved; empty = c.self.invariant.empty; room = omega (arith, before, after, c.self.invariant.room) }

pub returns-in-Some-clause-turn : goal.returns-in-Some-clause-turn
returns-in-Some-clause-turn g c =
    let o = c.self.inside.opening in
    let lists = c.self.inside.commands in
    let xs = c.self.inside.peers.items in
    let ds = c.self.inside.drivers.items in
    let p = c.args.p in
    let core = c.self.invariant.core in
    let many = as_many_drivers o xs ds core.opening core.reached core.stocked in
    let same = ap (λ (b : Bus). length b.opening.peers) c.self.view_is in
    let ys = c.turn.new.peers.items in
    let es = c.turn.new.drivers.items in
    let d = c.index.result.now in
    let here = part_is ds p d (omega (arith, many, same, c.requires.peer)) c.index.ensures in
    let want = subst (IsWanted lists p d.part) c.in-Some.is c.in_ok-command.ensures.wanted in
    let old : Bus = record { opening = o; commands = lists; state = state_of xs ds } in
    let new : Bus = record { opening = o; commands = lists; state = state_of ys es } in
    subst (λ b. IfOk c.turn.result (λ t. Turns b p t new)) c.self.view_is
    (turns_tried old new p c.in-Some.command c.turn.result c.turn.ensures.step (want.0 ∙ ap (scripted lists p) (sym here)) refl refl)

pub returns-in-None-clause-turn : goal.returns-in-None-clause-turn
returns-in-None-clause-turn g c =
    let o = c.self.inside.opening in
    let lists = c.self.inside.commands in
    let xs = c.self.inside.peers.items in
    let ds = c.self.inside.drivers.items in
    let p = c.args.p in
    let core = c.self.invariant.core in
    let many = as_many_drivers o xs ds core.opening core.reached core.stocked in
    let same = ap (λ (b : Bus). length b.opening.peers) c.self.view_is in
    let d = c.index.result.now in
    let want = subst (IsWanted lists p d.part) c.in-None.is c.in_ok-command.ensures.wanted in
    let there = driver_is c.args.self.now o lists xs ds p d c.self.view_is (omega (arith, many, same, c.requires.peer)) c.index.ensures in (
      refl,
      ap (λ f. not (is_none f.doing)) there ∙ ap (λ z. not (is_none z)) want.0,
      sym (ap (λ (b : Bus). is_none (next_command b.commands p (driver_at c.args.self.now.state p))) c.self.view_is) ∙ ap (λ f. is_none (next_command lists p f)) there ∙ ap (λ z. is_none z) want.1,
    )

pub returns-in-Some-clause-closed : goal.returns-in-Some-clause-closed
returns-in-Some-clause-closed g c =
    let o = c.self.inside.opening in
    let lists = c.self.inside.commands in
    let xs = c.self.inside.peers.items in
    let ds = c.self.inside.drivers.items in
    let p = c.args.p in
    let core = c.self.invariant.core in
    let many = as_many_drivers o xs ds core.opening core.reached core.stocked in
    let same = ap (λ (b : Bus). length b.opening.peers) c.self.view_is in
    let d = c.index.result.now in
    let here = part_is ds p d (omega (arith, many, same, c.requires.peer)) c.index.ensures in
    let want = subst (IsWanted lists p d.part) c.in-Some.is c.in_ok-command.ensures.wanted in
    let old : Bus = record { opening = o; commands = lists; state = state_of xs ds } in
    subst (λ b. OnErr c.turn.result (has_open b p ≡ false)) c.self.view_is (closed_tried old p c.in-Some.command c.turn.result c.turn.ensures.closed (want.1 ∙ ap (λ f. not (is_none f.doing)) (sym here)))

pub returns-in_err-command-clause-closed : goal.returns-in_err-command-clause-closed
returns-in_err-command-clause-closed g c =
    let o = c.self.inside.opening in
    let lists = c.self.inside.commands in
    let xs = c.self.inside.peers.items in
    let ds = c.self.inside.drivers.items in
    let p = c.args.p in
    let core = c.self.invariant.core in
    let many = as_many_drivers o xs ds core.opening core.reached core.stocked in
    let same = ap (λ (b : Bus). length b.opening.peers) c.self.view_is in
    let d = c.index.result.now in
    let there = driver_is c.args.self.now o lists xs ds p d c.self.view_is (omega (arith, many, same, c.requires.peer)) c.index.ensures in
    on_error (has_open c.args.self.now p ≡ false) c.from_residual.result (ap (λ f. not (is_none f.doing)) there ∙ ap (λ z. not (is_none z)) c.in_err-command.ensures.closed)
