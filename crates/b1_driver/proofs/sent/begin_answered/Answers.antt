use Rattle.std.proofs.Common.{length, subst, ap, arith}
use Rattle.b1_driver.specs.Parts.{HasRoom, HasRoomFor}
use Rattle.b1_driver.proofs.Lists.{all_unattached}
use Rattle.b1_driver.proofs.sent.begin_answered.Goals as goal

pub returns-in-Starting-Ok-clause-holds : goal.returns-in-Starting-Ok-clause-holds
returns-in-Starting-Ok-clause-holds c =
    let room : HasRoom c.args.room.now (length c.in-Starting-Ok.begun.to) (length c.in-Starting-Ok.begun.with) = subst (HasRoomFor c.args.room.now) c.in-Starting-Ok.is-1 c.requires.room in
    record {
      few_destinations = room.few;
      few_places = omega (arith, ap length c.take-places.ensures.empty);
      next = omega (arith, ap length c.take-places.ensures.empty, c.take-places.ensures.places, room.for_places);
      destinations = omega (arith, c.take-places.ensures.places, room.for_places);
      none_attached = all_unattached c.in-Starting-Ok.begun c.args.room.now.lists c.args.room.now.handles c.take-places.result.1 room.for_slots room.in_each c.take-places.ensures.slots;
    }
