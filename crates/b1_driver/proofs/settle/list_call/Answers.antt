use Rattle.std.proofs.Common.{rules, ◌≡◌, ap, arith, length, vec_len, vec_capacity, ◌+◌, ◌≤◌}
use Rattle.b1_driver.proofs.Listing.{listed, room_stays}
use Rattle.b1_driver.proofs.settle.list_call.Goals as goal

pub returns-clause-places : goal.returns-clause-places
returns-clause-places c =
    let at : c.len.result ≡ length c.args.calls.now.items = search rules in
    let calls : vec_len c.args.calls.now ≡ length c.args.calls.now.items = search rules in
    let places : vec_len c.args.places.now ≡ length c.args.places.now.items = search rules in
    let calls_after : vec_len c.add_call.new.calls ≡ length c.add_call.new.calls.items = search rules in
    let places_after : vec_len c.note.new.places ≡ length c.note.new.places.items = search rules in
    let listed_calls : length c.add_call.new.calls.items ≡ _ = ap length c.add_call.ensures.items in
    let listed_places : length c.note.new.places.items ≡ _ = ap length c.note.ensures.items in
    let was : vec_capacity c.args.calls.now + length c.args.places.now.items ≤ vec_capacity c.args.places.now + length c.args.calls.now.items = (let h = c.requires.places.room in omega (arith, h, calls, places)) in
    let stays = room_stays c.args.calls.now.items c.args.places.now.items c.len.result c.args.command c.args.answer _ _ was in
    record {
      places_are = rw (c.note.ensures.items, c.add_call.ensures.items) (listed c.args.calls.now.items c.args.places.now.items c.len.result c.args.command c.args.answer c.requires.places.places_are at);
      room = omega (arith, stays, calls_after, places_after, listed_calls, listed_places, c.note.ensures.capacity, c.add_call.ensures.capacity);
    }
