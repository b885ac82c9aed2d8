use Rattle.std.proofs.Common.{◌∙◌, sym, ap, subst, map}
use Rattle.std.specs.List.{All}
use native.Mathlib.Omega.{arith}
use Rattle.b1_model.specs.MachineStep.{idle_drivers}
use Rattle.b1_driver.specs.Parts.{Driver}
use Rattle.b1_core.proofs.Openings.{HasRoomFor, take_all, count_idle, map_more, all_more, driver_more, are_new}
use Rattle.b1_core.proofs.making.make_drivers.Goals as goal

pub loop-me-preserved : goal.loop-me-preserved
loop-me-preserved c =
    let o = c.args.opening.now in
    let ds = c.loop-me.drivers.items in
    let d = c.in_ok-make.field-0 in
    let room = c.in_ok-make.ensures in
    record {
      parts = ap (map (λ (e : Driver). e.part)) c.in_ok-push.ensures.items ∙ map_more (λ (e : Driver). e.part) ds d ∙ driver_more o c.loop-me.me (map (λ (e : Driver). e.part) ds) d.part (omega (arith, c.loop-me-test.true, c.len-count.ensures)) c.loop-me.invariant.parts room.part;
      stock = subst (All (HasRoomFor o)) (sym c.in_ok-push.ensures.items) (all_more (HasRoomFor o) ds d c.loop-me.invariant.stock (room.spare, room.doomed ∙ c.len-wires.ensures, omega (arith, room.doomed, room.here)));
    }

pub returns-clause-parts : goal.returns-clause-parts
returns-clause-parts c =
    let o = c.args.opening.now in
    let count = count_idle 0 o.peers in
    c.loop-me.invariant.parts ∙ take_all (idle_drivers 0 o.peers) c.loop-me.me (omega (arith, c.loop-me-test.false, c.len-count.ensures, count))

pub returns-clause-stock : goal.returns-clause-stock
returns-clause-stock c = are_new c.every_reached_state_is_sound.ensures.reached c.args.opening.now c.requires c.loop-me.drivers.items c.loop-me.invariant.stock
