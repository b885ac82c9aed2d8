use Rattle.std.proofs.Common.{◌≡◌, ℕ, ◌<◌, ◌==◌, Some, List, length, map, get_or, slice_get, sym, ap, ◌∙◌, arith}
use Rattle.std.proofs.lemmas.List.{length-map}
use Rattle.std.proofs.lemmas.Option.{slice_get-get_or}
use Rattle.b1_model.specs.MachineParts.{PeerPart, DriverPart}
use Rattle.b1_model.specs.MachineStep.{idle_driver, no_peer}
use Rattle.b1_peer.specs.Seen.{PeerSeen}
use Rattle.b1_driver.specs.Parts.{Driver}
use Rattle.b1_rule.specs.Rule.{state_of}
use Rattle.b1_run.proofs.Ends.{is_closed}
use Rattle.b1_run.proofs.Left as left
use Rattle.b1_run.proofs.closing.stuck_peers.Goals as goal
use Rattle.b1_run.proofs.closing.stuck_peers.Goals.{in-Ended, in-Waiting+in_ok-push-in-Waiting}

module _ (xs : List PeerSeen) (ds : List Driver) (p : ℕ) (as_many : length ds ≡ length xs) (short : p < length xs) where
  driver_here : slice_get (map (λ d. d.part) ds) p ≡ Some (get_or (map (λ d. d.part) ds) p (idle_driver p))
  driver_here = slice_get-get_or (map (λ (d : Driver). d.part) ds) p (idle_driver p) (let long : length (map (λ d. d.part) ds) ≡ length ds = length-map ds (λ (d : Driver). d.part) in omega (arith, long, as_many, short))

  peer_here : slice_get (map (λ x. x.part) xs) p ≡ Some (get_or (map (λ x. x.part) xs) p no_peer)
  peer_here = slice_get-get_or (map (λ (x : PeerSeen). x.part) xs) p no_peer (let long : length (map (λ x. x.part) xs) ≡ length xs = length-map xs (λ (x : PeerSeen). x.part) in omega (arith, long, short))

pub loop-p-preserved : goal.loop-p-preserved
loop-p-preserved c =
    let xs : List PeerSeen = c.args.closed.now.peers in
    let ds : List Driver = c.args.closed.now.drivers in
    let p : ℕ = c.loop-p.p in
    let looked : left.Looked c.args.lists.now (state_of xs ds) p c.loop-p.waiting.items = record { found = c.loop-p.invariant.found; wait = c.loop-p.invariant.wait } in
    let short : p < length xs = omega (arith, c.loop-p-test.true, c.count-p-end.ensures) in
    let d : DriverPart = get_or (map (λ e. e.part) ds) p (idle_driver p) in
    let x : PeerPart = get_or (map (λ y. y.part) xs) p no_peer in
    let driver = driver_here xs ds p c.facts.ensures.as_many short in
    let peer = peer_here xs ds p c.facts.ensures.as_many short in
    elim c.match-standing_of.branch [
      | in-Ended w ↦ (let k = left.ended c.args.lists.now (state_of xs ds) p d x driver peer c.loop-p.waiting.items c.match-standing_of.waiting.items looked
          (ap (λ v. v.items) w.waiting-is) (w.in-Ended.ensures d x driver peer) in record { found = k.found; wait = k.wait })
      | in-Waiting+in_ok-push-in-Waiting w ↦ (let stands = w.in-Waiting.ensures d x driver peer in
          let k = left.waits c.args.lists.now (state_of xs ds) p d x driver peer c.loop-p.waiting.items c.match-standing_of.waiting.items looked
          (ap (λ v. v.items) w.waiting-is ∙ w.in_ok-push-in-Waiting.ensures.items) stands.0 stands.1 stands.2 in record { found = k.found; wait = k.wait })
    ]

pub returns-clause-stuck : goal.returns-clause-stuck
returns-clause-stuck c =
    let xs : List PeerSeen = c.args.closed.now.peers in
    let ds : List Driver = c.args.closed.now.drivers in
    let looked : left.Looked c.args.lists.now (state_of xs ds) c.loop-p.p c.loop-p.waiting.items = record { found = c.loop-p.invariant.found; wait = c.loop-p.invariant.wait } in
    let many : length (map (λ x. x.part) xs) ≡ length xs = length-map xs (λ (x : PeerSeen). x.part) in
    left.stuck c.args.lists.now (state_of xs ds) c.loop-p.p c.loop-p.waiting.items (is_closed c.args.lists.now xs ds c.facts.ensures.closed) looked
    (omega (arith, many, c.loop-p-test.false, c.loop-p.auto.p-end, c.count-p-end.ensures))
    (ap (λ n. n == 0) (sym c.loop-p.waiting.ok.0) ∙ sym c.if-is_empty.ensures)
