use Rattle.std.proofs.Common.{◌≡◌, ◌∙◌, false, refl, sym, ap, subst, List, length, not, is_none, Ok, Err, Result}
use Rattle.std.specs.Prelude.{IfOk, OnErr}
use native.Mathlib.Omega.{arith}
use Rattle.b1_model.specs.declared.naming.Opening.{Opening}
use Rattle.b1_model.specs.declared.commands.Command.{Command}
use Rattle.b1_peer.specs.Seen.{PeerSeen}
use Rattle.b1_driver.specs.Parts.{Driver}
use Rattle.b1_core.specs.Turns.{Bus, drained, has_open, Drains}
use Rattle.b1_core.specs.Bus.{state_of}
use Rattle.b1_core.proofs.Turning.{as_many_drivers, as_many_peers}
use Rattle.b1_core.proofs.Buses.{part_is, closed_tried, core_tried, drains_tried, drain_begins}
use Rattle.b1_core.proofs.bus.Core.drain_step.Goals as goal

pub index-requires : goal.index-requires
index-requires g c =
    let o = c.self.inside.opening in
    let lists = c.self.inside.commands in
    let xs = c.self.inside.peers.items in
    let ds = c.self.inside.drivers.items in
    let p = c.args.p in
    let core = c.self.invariant.core in
    let many = as_many_drivers o xs ds core.opening core.reached core.stocked in
    let same = ap (λ (b : Bus). length b.opening.peers) c.self.view_is in
    omega (arith, many, same, c.requires.peer, c.self.inside.drivers.ok.0)

pub turn-requires-clause-begins : goal.turn-requires-clause-begins
turn-requires-clause-begins g c =
    let o = c.self.inside.opening in
    let lists = c.self.inside.commands in
    let xs = c.self.inside.peers.items in
    let ds = c.self.inside.drivers.items in
    let p = c.args.p in
    let core = c.self.invariant.core in
    let many = as_many_drivers o xs ds core.opening core.reached core.stocked in
    let same = ap (λ (b : Bus). length b.opening.peers) c.self.view_is in
    let d = c.index.result.now in
    let here = part_is ds p d (omega (arith, many, same, c.requires.peer)) c.index.ensures in
    ap (λ r. is_none r) c.drain_command-command.ensures ∙ drain_begins d.part ∙ ap (λ f. not (is_none f.doing)) (sym here)

pub invariant_of-self : goal.invariant_of-self
invariant_of-self g c =
    let o = c.self.inside.opening in
    let lists = c.self.inside.commands in
    let xs = c.self.inside.peers.items in
    let ds = c.self.inside.drivers.items in
    let p = c.args.p in
    let core = c.self.invariant.core in
    let many = as_many_drivers o xs ds core.opening core.reached core.stocked in
    let same = ap (λ (b : Bus). length b.opening.peers) c.self.view_is in
    let ys = c.turn.new.peers.items in
    let es = c.turn.new.drivers.items in
    let moved = core_tried o lists xs ys ds es p c.drain_command-command.result c.turn.result core c.turn.ensures.step c.turn.ensures.stocked c.turn.ensures.peers c.turn.ensures.drivers in
    let before = as_many_peers o xs ds core.opening core.reached core.stocked in
    let after = as_many_peers o ys es moved.opening moved.reached moved.stocked in
    record { core = moved; empty = c.self.invariant.empty; room = omega (arith, before, after, c.self.invariant.room) }

pub returns-clause-turn : goal.returns-clause-turn
returns-clause-turn g c =
    let o = c.self.inside.opening in
    let lists = c.self.inside.commands in
    let xs = c.self.inside.peers.items in
    let ds = c.self.inside.drivers.items in
    let p = c.args.p in
    let core = c.self.invariant.core in
    let many = as_many_drivers o xs ds core.opening core.reached core.stocked in
    let same = ap (λ (b : Bus). length b.opening.peers) c.self.view_is in
    let ys = c.turn.new.peers.items in
    let es = c.turn.new.drivers.items in
    let d = c.index.result.now in
    let here = part_is ds p d (omega (arith, many, same, c.requires.peer)) c.index.ensures in
    let old : Bus = record { opening = o; commands = lists; state = state_of xs ds } in
    let new : Bus = record { opening = o; commands = lists; state = state_of ys es } in
    subst (λ b. IfOk c.turn.result (λ t. Drains b p t new)) c.self.view_is
    (drains_tried old new p c.drain_command-command.result c.turn.result c.turn.ensures.step (c.drain_command-command.ensures ∙ ap drained (sym here)) refl refl)

abbrev bus_of : Opening → List (List Command) → List PeerSeen → List Driver → Bus
bus_of o lists xs ds = record { opening = o; commands = lists; state = state_of xs ds }

-- where a turn wants memory, the bus stays
kept : {T E : Type 0} (o : Opening) (lists : List (List Command)) (xs ys : List PeerSeen) (ds es : List Driver) (b : Bus) (r : Result T E) → bus_of o lists xs ds ≡ b → OnErr r (ys ≡ xs) → OnErr r (es ≡ ds) → OnErr r (bus_of o lists ys es ≡ b)
kept o lists xs ys ds es b (Ok t) is peers drivers = peers
kept o lists xs ys ds es b (Err e) is peers drivers = ap (λ l. bus_of o lists l es) peers ∙ ap (λ l. bus_of o lists xs l) drivers ∙ is

pub returns-clause-err : goal.returns-clause-err
returns-clause-err g c = kept c.self.inside.opening c.self.inside.commands c.self.inside.peers.items c.turn.new.peers.items c.self.inside.drivers.items c.turn.new.drivers.items c.args.self.now c.turn.result c.self.view_is c.turn.ensures.peers c.turn.ensures.drivers

pub returns-clause-closed : goal.returns-clause-closed
returns-clause-closed g c =
    let o = c.self.inside.opening in
    let lists = c.self.inside.commands in
    let xs = c.self.inside.peers.items in
    let ds = c.self.inside.drivers.items in
    let p = c.args.p in
    let core = c.self.invariant.core in
    let many = as_many_drivers o xs ds core.opening core.reached core.stocked in
    let same = ap (λ (b : Bus). length b.opening.peers) c.self.view_is in
    let d = c.index.result.now in
    let here = part_is ds p d (omega (arith, many, same, c.requires.peer)) c.index.ensures in
    let old : Bus = record { opening = o; commands = lists; state = state_of xs ds } in
    subst (λ b. OnErr c.turn.result (has_open b p ≡ false)) c.self.view_is (closed_tried old p c.drain_command-command.result c.turn.result c.turn.ensures.closed (ap (λ r. is_none r) c.drain_command-command.ensures ∙ drain_begins d.part ∙ ap (λ f. not (is_none f.doing)) (sym here)))
