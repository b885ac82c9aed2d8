use Rattle.std.proofs.Common.{◌≡◌, List, length, sym, ap, ◌∙◌, subst, arith}
use Rattle.std.specs.Slots.{slots_items}
use Rattle.atomic_table.specs.Seated.{TableId}
use Rattle.b1_model.specs.declared.naming.Opening.{Opening}
use Rattle.b1_model.specs.MachineParts.{State}
use Rattle.b1_peer.specs.Seen.{PeerSeen}
use Rattle.b1_rule.specs.Rule.{state_of, LedTo}
use Rattle.b1_locks.specs.Faces.{IsClosed}
use Rattle.b1_bus.proofs.States.{settles_all, settled_closed, as_many_as, all_on, many_peers}
use Rattle.b1_bus.proofs.closing.close_in.Goals as goal

pub join_all-seat-requires-clause-some : goal.join_all-seat-requires-clause-some
join_all-seat-requires-clause-some c =
    let many : length c.args.drivers.items ≡ length c.args.bus.opening.peers = as_many_as c.args.bus c.args.drivers.items c.requires.crew in
    let some = c.into_parts-table.ensures.some in
    omega arith

pub join_all-seat-requires-clause-on : goal.join_all-seat-requires-clause-on
join_all-seat-requires-clause-on c =
    rw (c.into_parts-table.ensures.table, c.into_parts-table.ensures.key) (all_on c.args.bus c.args.drivers.items c.requires.crew)

pub take_all-peers-requires-clause-room : goal.take_all-peers-requires-clause-room
take_all-peers-requires-clause-room c =
    let many : length c.args.drivers.items ≡ length c.args.bus.opening.peers = as_many_as c.args.bus c.args.drivers.items c.requires.crew in
    let slots = c.into_parts-table.ensures.slots in
    let table = ap (λ (t : TableId). t.slots) c.into_parts-table.ensures.table in
    let counts = c.close_with.ensures.counts.1 in
    let room = c.requires.for_peers in
    omega arith

pub invariant_of-result : goal.invariant_of-result
invariant_of-result c =
    let parts = c.into_parts-table.ensures in
    let o = c.into_parts-table.result.0.shared.key.opening.value in
    let ds = c.join_all-seat.new.states.items in
    let ys = slots_items c.close_with.result.slots in
    let settled = settles_all c.args.bus o c.args.drivers.items ds parts.key c.requires.crew c.join_all-seat.ensures.states
    (state_of c.into_parts-table.result.0.shared.key.peers.value.items c.into_parts-table.result.0.shared.key.drivers.value.items)
    c.join_all-seat.result.id c.join_all-seat.result.me.0 (slots_items c.close_with.result.words) ys (ap (λ m. m.0) c.join_all-seat.ensures.parts) c.close_with.ensures.values.2 in
    let closed : IsClosed o ys ds = settled_closed o _ ys ds settled c.join_all-seat.ensures.idle in
    let many : length c.args.drivers.items ≡ length c.args.bus.opening.peers = as_many_as c.args.bus c.args.drivers.items c.requires.crew in
    let as_many : length ys ≡ length o.peers = many_peers o ys ds closed in
    let same : length o.peers ≡ length c.args.bus.opening.peers = ap (λ (z : Opening). length z.peers) parts.key in
    let items : length c.take_all-peers.result.items ≡ length ys = ap length c.take_all-peers.ensures in
    let room = c.requires.for_records in
    record {
      closed =
          subst (λ (z : Opening). IsClosed z c.take_all-peers.result.items ds) (parts.key ∙ sym parts.opening)
          (subst (λ (l : List PeerSeen). IsClosed o l ds) (sym c.take_all-peers.ensures) closed);
      empty = c.requires.no_record;
      room = omega arith;
    }

pub returns-clause-led : goal.returns-clause-led
returns-clause-led c =
    let parts = c.into_parts-table.ensures in
    let o = c.into_parts-table.result.0.shared.key.opening.value in
    let first = state_of c.into_parts-table.result.0.shared.key.peers.value.items c.into_parts-table.result.0.shared.key.drivers.value.items in
    let ds = c.join_all-seat.new.states.items in
    let ys = slots_items c.close_with.result.slots in
    let settled = settles_all c.args.bus o c.args.drivers.items ds parts.key c.requires.crew c.join_all-seat.ensures.states first
    c.join_all-seat.result.id c.join_all-seat.result.me.0 (slots_items c.close_with.result.words) ys (ap (λ m. m.0) c.join_all-seat.ensures.parts) c.close_with.ensures.values.2 in
    subst (λ (z : Opening). LedTo z c.args.bus.first (state_of c.take_all-peers.result.items ds)) (parts.key ∙ sym parts.opening)
    (subst (λ (l : List PeerSeen). LedTo o c.args.bus.first (state_of l ds)) (sym c.take_all-peers.ensures)
    (subst (λ (s : State). LedTo o s (state_of ys ds)) (sym parts.first) settled.led))
