use Rattle.std.proofs.Common.{◌≡◌, refl, sym, ap, subst, length, arith}
use Rattle.b1_model.specs.MachineDriver.{next_action}
use Rattle.b1_inv_peer.specs.PeerOk.{PeerOk}
use Rattle.b1_event.specs.Events.{Allowed, Does, HasStock}
use Rattle.b1_locks.proofs.Events.{allowed_here, stock_here, known_here, moved_here, slot_of, slot_is, stepped_here}
use Rattle.b1_locks.proofs.bus.Bus.work.Goals as goal

pub do_one-requires-clause-allowed : goal.do_one-requires-clause-allowed
do_one-requires-clause-allowed g c =
    let o = c.args.self.now.opening in
    let m = c.args.seat.now.me in
    let q = c.args.at in
    let d = c.args.driver.now in
    let bears = c.reached_states_bear_events.ensures in
    let (before, command, k) = c.requires.lock in
    let same = slot_is m.1 q k.took.seen c.slot_mut-peer.result.now (slot_of o before command m q d k) c.slot_mut-peer.ensures.value in
    subst (λ y. Allowed d.part (next_action d.part) y.part) same (allowed_here o bears before command m q d k (subst (λ y. PeerOk y.part) (sym same) c.facts.ensures.ok))

pub do_one-requires-clause-stock : goal.do_one-requires-clause-stock
do_one-requires-clause-stock g c =
    let o = c.args.self.now.opening in
    let m = c.args.seat.now.me in
    let q = c.args.at in
    let d = c.args.driver.now in
    let bears = c.reached_states_bear_events.ensures in
    let (before, command, k) = c.requires.lock in
    let same = slot_is m.1 q k.took.seen c.slot_mut-peer.result.now (slot_of o before command m q d k) c.slot_mut-peer.ensures.value in
    subst (λ y. HasStock (next_action d.part) y.part d) same (stock_here o bears before command m q d k)

pub do_one-requires-clause-known : goal.do_one-requires-clause-known
do_one-requires-clause-known g c =
    let o = c.args.self.now.opening in
    let m = c.args.seat.now.me in
    let q = c.args.at in
    let d = c.args.driver.now in
    let bears = c.reached_states_bear_events.ensures in
    let (before, command, k) = c.requires.lock in
    let known = known_here o bears before command m q d k in
    let same : length c.self.inside.opening.peers ≡ length o.peers = ap (λ b. length b.opening.peers) c.self.view_is in
    omega (arith, known, same)

pub returns-clause-stepped : goal.returns-clause-stepped
returns-clause-stepped g c =
    let o = c.args.self.now.opening in
    let m = c.args.seat.now.me in
    let q = c.args.at in
    let d = c.args.driver.now in
    let bears = c.reached_states_bear_events.ensures in
    let (before, command, k) = c.requires.lock in
    let same = slot_is m.1 q k.took.seen c.slot_mut-peer.result.now (slot_of o before command m q d k) c.slot_mut-peer.ensures.value in
    let does : Does o d k.took.seen c.do_one.new.driver c.do_one.new.at =
    subst (λ x. Does o d x c.do_one.new.driver c.do_one.new.at) (sym same) (subst (λ a. Does a d c.slot_mut-peer.result.now c.do_one.new.driver c.do_one.new.at) (ap (λ b. b.opening) c.self.view_is) c.do_one.ensures.does) in
    stepped_here o bears before command m q d k c.do_one.new.driver c.do_one.new.at does _ refl

pub returns-clause-moved : goal.returns-clause-moved
returns-clause-moved g c = λ before command k.
    let o = c.args.self.now.opening in
    let m = c.args.seat.now.me in
    let q = c.args.at in
    let d = c.args.driver.now in
    let bears = c.reached_states_bear_events.ensures in
    let same = slot_is m.1 q k.took.seen c.slot_mut-peer.result.now (slot_of o before command m q d k) c.slot_mut-peer.ensures.value in
    let does : Does o d k.took.seen c.do_one.new.driver c.do_one.new.at =
    subst (λ x. Does o d x c.do_one.new.driver c.do_one.new.at) (sym same) (subst (λ a. Does a d c.slot_mut-peer.result.now c.do_one.new.driver c.do_one.new.at) (ap (λ b. b.opening) c.self.view_is) c.do_one.ensures.does) in
    moved_here o bears before command m q d k c.do_one.new.driver c.do_one.new.at does
