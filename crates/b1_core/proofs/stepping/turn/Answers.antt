use Rattle.std.proofs.Common.{◌≡◌, ◌∙◌, sym, ap, subst, set, length, not, is_none, Some, slice_get}
use native.Mathlib.Omega.{arith}
use Rattle.b1_model.specs.MachineDriver.{peer_of}
use Rattle.b1_core.specs.Turns.{StandsBehind}
use Rattle.b1_core.specs.Bus.{state_of, AreStocked, IsStep}
use Rattle.b1_core.proofs.Buses.{part_is}
use Rattle.b1_core.proofs.Turning.{read_at, as_many_drivers, short, stock_at, number, at_within, allowed, users, stock, found, is_step, still_stocked, same_set}
use Rattle.b1_core.proofs.stepping.turn.Goals as goal

pub index_mut-driver-requires : goal.index_mut-driver-requires
index_mut-driver-requires g c =
    let o = c.args.opening.now in
    let xs = c.args.peers.now.items in
    let ds = c.args.drivers.now.items in
    let p = c.args.p in
    let opening = c.requires.opening in
    let reached = c.requires.reached in
    let stocked = c.requires.stocked in
    let many = as_many_drivers o xs ds opening reached stocked in
    omega (arith, many, c.requires.peer, c.args.drivers.now.ok.0)

pub begin-requires-clause-begins : goal.begin-requires-clause-begins
begin-requires-clause-begins g c =
    let o = c.args.opening.now in
    let xs = c.args.peers.now.items in
    let ds = c.args.drivers.now.items in
    let p = c.args.p in
    let opening = c.requires.opening in
    let reached = c.requires.reached in
    let stocked = c.requires.stocked in
    let many = as_many_drivers o xs ds opening reached stocked in
    c.requires.begins ∙ ap (λ f. not (is_none f.doing)) (part_is ds p c.index_mut-driver.result.now (omega (arith, many, c.requires.peer)) c.index_mut-driver.ensures.value)

pub begin-requires-clause-few : goal.begin-requires-clause-few
begin-requires-clause-few g c =
    let o = c.args.opening.now in
    let xs = c.args.peers.now.items in
    let ds = c.args.drivers.now.items in
    let p = c.args.p in
    let opening = c.requires.opening in
    let reached = c.requires.reached in
    let stocked = c.requires.stocked in
    let d = c.index_mut-driver.result.now in
    let many = as_many_drivers o xs ds opening reached stocked in
    let is_driver = read_at ds p d (omega (arith, many, c.requires.peer)) c.index_mut-driver.ensures.value in
    (stock_at o xs ds opening reached stocked p d is_driver).2.few

pub returns-in_err-begin-clause-stocked : goal.returns-in_err-begin-clause-stocked
returns-in_err-begin-clause-stocked g c =
    let o = c.args.opening.now in
    let xs = c.args.peers.now.items in
    let ds = c.args.drivers.now.items in
    let p = c.args.p in
    let opening = c.requires.opening in
    let reached = c.requires.reached in
    let stocked = c.requires.stocked in
    let d = c.index_mut-driver.result.now in
    let many = as_many_drivers o xs ds opening reached stocked in
    let is_driver = read_at ds p d (omega (arith, many, c.requires.peer)) c.index_mut-driver.ensures.value in
    subst (AreStocked o xs) (sym (ap (set ds p) c.in_err-begin.ensures.err ∙ same_set ds p d is_driver)) stocked

pub index_mut-peer-requires : goal.index_mut-peer-requires
index_mut-peer-requires g c =
    let o = c.args.opening.now in
    let xs = c.args.peers.now.items in
    let ds = c.args.drivers.now.items in
    let p = c.args.p in
    let opening = c.requires.opening in
    let reached = c.requires.reached in
    let stocked = c.requires.stocked in
    let d = c.index_mut-driver.result.now in
    let many = as_many_drivers o xs ds opening reached stocked in
    let is_driver = read_at ds p d (omega (arith, many, c.requires.peer)) c.index_mut-driver.ensures.value in
    let bears = c.reached_states_bear_events.ensures o (state_of xs ds) opening reached (short o xs ds opening reached stocked) in
    let e = c.begin.new.driver in
    let is_begun = c.in_ok-begin.ensures.begun in
    let doomed = c.begin.ensures.doomed in
    let here = c.begin.ensures.here in
    let few = c.begin.ensures.few in
    let place_is = c.place_of-at.ensures ∙ ap (peer_of p) c.next.ensures.action in
    let within = at_within o xs ds opening reached stocked bears p d is_driver c.args.command e is_begun doomed here few in
    omega (arith, within, place_is, c.args.peers.now.ok.0)

pub do_event-requires-clause-allowed : goal.do_event-requires-clause-allowed
do_event-requires-clause-allowed g c =
    let o = c.args.opening.now in
    let xs = c.args.peers.now.items in
    let ds = c.args.drivers.now.items in
    let p = c.args.p in
    let opening = c.requires.opening in
    let reached = c.requires.reached in
    let stocked = c.requires.stocked in
    let d = c.index_mut-driver.result.now in
    let many = as_many_drivers o xs ds opening reached stocked in
    let is_driver = read_at ds p d (omega (arith, many, c.requires.peer)) c.index_mut-driver.ensures.value in
    let bears = c.reached_states_bear_events.ensures o (state_of xs ds) opening reached (short o xs ds opening reached stocked) in
    let e = c.begin.new.driver in
    let is_begun = c.in_ok-begin.ensures.begun in
    let doomed = c.begin.ensures.doomed in
    let here = c.begin.ensures.here in
    let few = c.begin.ensures.few in
    let place_is = c.place_of-at.ensures ∙ ap (peer_of p) c.next.ensures.action in
    let within = at_within o xs ds opening reached stocked bears p d is_driver c.args.command e is_begun doomed here few in
    let x = c.index_mut-peer.result.now in
    let is_peer = subst (λ n. slice_get xs n ≡ Some x) place_is (read_at xs c.place_of-at.result x (omega (arith, within, place_is)) c.index_mut-peer.ensures.value) in
    allowed o xs ds opening reached stocked bears p d is_driver c.args.command e is_begun doomed here few x is_peer c.facts.ensures.ok

pub do_event-requires-clause-stock : goal.do_event-requires-clause-stock
do_event-requires-clause-stock g c =
    let o = c.args.opening.now in
    let xs = c.args.peers.now.items in
    let ds = c.args.drivers.now.items in
    let p = c.args.p in
    let opening = c.requires.opening in
    let reached = c.requires.reached in
    let stocked = c.requires.stocked in
    let d = c.index_mut-driver.result.now in
    let many = as_many_drivers o xs ds opening reached stocked in
    let is_driver = read_at ds p d (omega (arith, many, c.requires.peer)) c.index_mut-driver.ensures.value in
    let bears = c.reached_states_bear_events.ensures o (state_of xs ds) opening reached (short o xs ds opening reached stocked) in
    let e = c.begin.new.driver in
    let is_begun = c.in_ok-begin.ensures.begun in
    let doomed = c.begin.ensures.doomed in
    let here = c.begin.ensures.here in
    let few = c.begin.ensures.few in
    let place_is = c.place_of-at.ensures ∙ ap (peer_of p) c.next.ensures.action in
    let within = at_within o xs ds opening reached stocked bears p d is_driver c.args.command e is_begun doomed here few in
    let x = c.index_mut-peer.result.now in
    let is_peer = subst (λ n. slice_get xs n ≡ Some x) place_is (read_at xs c.place_of-at.result x (omega (arith, within, place_is)) c.index_mut-peer.ensures.value) in
    stock o xs ds opening reached stocked bears p d is_driver c.args.command e is_begun doomed here few x is_peer

pub do_event-requires-clause-known : goal.do_event-requires-clause-known
do_event-requires-clause-known g c =
    let o = c.args.opening.now in
    let xs = c.args.peers.now.items in
    let ds = c.args.drivers.now.items in
    let p = c.args.p in
    let opening = c.requires.opening in
    let reached = c.requires.reached in
    let stocked = c.requires.stocked in
    let d = c.index_mut-driver.result.now in
    let many = as_many_drivers o xs ds opening reached stocked in
    let is_driver = read_at ds p d (omega (arith, many, c.requires.peer)) c.index_mut-driver.ensures.value in
    let bears = c.reached_states_bear_events.ensures o (state_of xs ds) opening reached (short o xs ds opening reached stocked) in
    let e = c.begin.new.driver in
    let is_begun = c.in_ok-begin.ensures.begun in
    let doomed = c.begin.ensures.doomed in
    let here = c.begin.ensures.here in
    let few = c.begin.ensures.few in
    let place_is = c.place_of-at.ensures ∙ ap (peer_of p) c.next.ensures.action in
    let within = at_within o xs ds opening reached stocked bears p d is_driver c.args.command e is_begun doomed here few in
    let k = number o xs ds opening reached stocked bears p d is_driver c.args.command e is_begun doomed here few in
    omega (arith, k, c.requires.peer)

pub do_event-requires-clause-users : goal.do_event-requires-clause-users
do_event-requires-clause-users g c =
    let o = c.args.opening.now in
    let xs = c.args.peers.now.items in
    let ds = c.args.drivers.now.items in
    let p = c.args.p in
    let opening = c.requires.opening in
    let reached = c.requires.reached in
    let stocked = c.requires.stocked in
    let d = c.index_mut-driver.result.now in
    let many = as_many_drivers o xs ds opening reached stocked in
    let is_driver = read_at ds p d (omega (arith, many, c.requires.peer)) c.index_mut-driver.ensures.value in
    let bears = c.reached_states_bear_events.ensures o (state_of xs ds) opening reached (short o xs ds opening reached stocked) in
    let e = c.begin.new.driver in
    let is_begun = c.in_ok-begin.ensures.begun in
    let doomed = c.begin.ensures.doomed in
    let here = c.begin.ensures.here in
    let few = c.begin.ensures.few in
    let place_is = c.place_of-at.ensures ∙ ap (peer_of p) c.next.ensures.action in
    let within = at_within o xs ds opening reached stocked bears p d is_driver c.args.command e is_begun doomed here few in
    let x = c.index_mut-peer.result.now in
    let is_peer = subst (λ n. slice_get xs n ≡ Some x) place_is (read_at xs c.place_of-at.result x (omega (arith, within, place_is)) c.index_mut-peer.ensures.value) in
    users o xs ds opening reached stocked bears p d is_driver c.args.command e is_begun doomed here few x is_peer

pub turn_after-requires : goal.turn_after-requires
turn_after-requires g c =
    let o = c.args.opening.now in
    let xs = c.args.peers.now.items in
    let ds = c.args.drivers.now.items in
    let p = c.args.p in
    let opening = c.requires.opening in
    let reached = c.requires.reached in
    let stocked = c.requires.stocked in
    let d = c.index_mut-driver.result.now in
    let many = as_many_drivers o xs ds opening reached stocked in
    let is_driver = read_at ds p d (omega (arith, many, c.requires.peer)) c.index_mut-driver.ensures.value in
    let bears = c.reached_states_bear_events.ensures o (state_of xs ds) opening reached (short o xs ds opening reached stocked) in
    let e = c.begin.new.driver in
    let is_begun = c.in_ok-begin.ensures.begun in
    let doomed = c.begin.ensures.doomed in
    let here = c.begin.ensures.here in
    let few = c.begin.ensures.few in
    let place_is = c.place_of-at.ensures ∙ ap (peer_of p) c.next.ensures.action in
    let within = at_within o xs ds opening reached stocked bears p d is_driver c.args.command e is_begun doomed here few in
    let x = c.index_mut-peer.result.now in
    let is_peer = subst (λ n. slice_get xs n ≡ Some x) place_is (read_at xs c.place_of-at.result x (omega (arith, within, place_is)) c.index_mut-peer.ensures.value) in
    λ closed as_many. found o xs ds opening reached stocked bears p d is_driver c.args.command e is_begun doomed here few x is_peer c.do_event.new.driver c.do_event.new.at c.do_event.ensures closed (as_many ∙ ap length c.calls-calls.ensures)

pub returns-clause-step : goal.returns-clause-step
returns-clause-step g c =
    let o = c.args.opening.now in
    let xs = c.args.peers.now.items in
    let ds = c.args.drivers.now.items in
    let p = c.args.p in
    let opening = c.requires.opening in
    let reached = c.requires.reached in
    let stocked = c.requires.stocked in
    let d = c.index_mut-driver.result.now in
    let many = as_many_drivers o xs ds opening reached stocked in
    let is_driver = read_at ds p d (omega (arith, many, c.requires.peer)) c.index_mut-driver.ensures.value in
    let bears = c.reached_states_bear_events.ensures o (state_of xs ds) opening reached (short o xs ds opening reached stocked) in
    let e = c.begin.new.driver in
    let is_begun = c.in_ok-begin.ensures.begun in
    let doomed = c.begin.ensures.doomed in
    let here = c.begin.ensures.here in
    let few = c.begin.ensures.few in
    let place_is = c.place_of-at.ensures ∙ ap (peer_of p) c.next.ensures.action in
    let within = at_within o xs ds opening reached stocked bears p d is_driver c.args.command e is_begun doomed here few in
    let x = c.index_mut-peer.result.now in
    let is_peer = subst (λ n. slice_get xs n ≡ Some x) place_is (read_at xs c.place_of-at.result x (omega (arith, within, place_is)) c.index_mut-peer.ensures.value) in
    let behind = subst (λ l. StandsBehind (length l) c.turn_after.result c.do_event.new.driver.part) c.calls-calls.ensures c.turn_after.ensures in
    subst (λ n. IsStep o (state_of xs ds) p c.args.command c.turn_after.result (state_of (set xs n c.do_event.new.at) (set ds p c.do_event.new.driver))) (sym place_is)
    (is_step o xs ds opening reached stocked bears p d is_driver c.args.command e is_begun doomed here few x is_peer c.do_event.new.driver c.do_event.new.at c.do_event.ensures c.turn_after.result behind)

pub returns-clause-stocked : goal.returns-clause-stocked
returns-clause-stocked g c =
    let o = c.args.opening.now in
    let xs = c.args.peers.now.items in
    let ds = c.args.drivers.now.items in
    let p = c.args.p in
    let opening = c.requires.opening in
    let reached = c.requires.reached in
    let stocked = c.requires.stocked in
    let d = c.index_mut-driver.result.now in
    let many = as_many_drivers o xs ds opening reached stocked in
    let is_driver = read_at ds p d (omega (arith, many, c.requires.peer)) c.index_mut-driver.ensures.value in
    let bears = c.reached_states_bear_events.ensures o (state_of xs ds) opening reached (short o xs ds opening reached stocked) in
    let e = c.begin.new.driver in
    let is_begun = c.in_ok-begin.ensures.begun in
    let doomed = c.begin.ensures.doomed in
    let here = c.begin.ensures.here in
    let few = c.begin.ensures.few in
    let place_is = c.place_of-at.ensures ∙ ap (peer_of p) c.next.ensures.action in
    let within = at_within o xs ds opening reached stocked bears p d is_driver c.args.command e is_begun doomed here few in
    let x = c.index_mut-peer.result.now in
    let is_peer = subst (λ n. slice_get xs n ≡ Some x) place_is (read_at xs c.place_of-at.result x (omega (arith, within, place_is)) c.index_mut-peer.ensures.value) in
    subst (λ n. AreStocked o (set xs n c.do_event.new.at) (set ds p c.do_event.new.driver)) (sym place_is)
    (still_stocked o xs ds opening reached stocked bears p d is_driver c.args.command e is_begun doomed here few x is_peer c.do_event.new.driver c.do_event.new.at c.do_event.ensures)
