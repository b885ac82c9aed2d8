use Rattle.std.proofs.Common.{◌≡◌, ◌∙◌, sym, ap, subst, set, length, map, ◌<◌, ◌^◌, [], true}
use Rattle.std.proofs.lemmas.List.{length-map, length-set}
use native.Mathlib.Omega.{arith}
use Rattle.b1_model.specs.MachineParts.{is_live, node_at}
use Rattle.b1_model.specs.MachineTables.{count_of}
use Rattle.b1_model.specs.MachineStep.{with_part, wire_counted, wire_held, no_peer}
use Rattle.b1_core.specs.Wiring.{part_of, CanHold}
use Rattle.b1_core.proofs.Wiring.{set_apart}
use Rattle.b1_core.proofs.Openings.{part_read, part_changed, passed, users_same}
use Rattle.b1_core.proofs.making.pass.Goals as goal

pub index_mut-requires : goal.index_mut-requires
index_mut-requires g c =
    let xs = c.args.peers.now.items in
    let node = c.args.node in
    let to = c.args.to in
    let parts = map (λ y. y.part) xs in
    let many = length-map xs (λ y. y.part) in
    omega (arith, many, c.requires.owner, c.args.peers.now.ok.0)

pub wire_count-requires-clause-made : goal.wire_count-requires-clause-made
wire_count-requires-clause-made g c =
    let xs = c.args.peers.now.items in
    let node = c.args.node in
    let to = c.args.to in
    let parts = map (λ y. y.part) xs in
    let many = length-map xs (λ y. y.part) in
    let x = c.index_mut.result.now in
    let at = part_read xs node.owner x (omega (arith, many, c.requires.owner)) c.index_mut.ensures.value in
    subst (λ y. node.serial < length y.nodes) (sym at) c.requires.counts.made

pub wire_count-requires-clause-other : goal.wire_count-requires-clause-other
wire_count-requires-clause-other g c =
    let xs = c.args.peers.now.items in
    let node = c.args.node in
    let to = c.args.to in
    let parts = map (λ y. y.part) xs in
    let many = length-map xs (λ y. y.part) in
    let x = c.index_mut.result.now in
    let at = part_read xs node.owner x (omega (arith, many, c.requires.owner)) c.index_mut.ensures.value in
    λ same. c.requires.apart (same ∙ ap (λ y. y.me) at ∙ c.requires.counts.me)

pub wire_count-requires-clause-peer : goal.wire_count-requires-clause-peer
wire_count-requires-clause-peer g c =
    let xs = c.args.peers.now.items in
    let node = c.args.node in
    let to = c.args.to in
    let parts = map (λ y. y.part) xs in
    let many = length-map xs (λ y. y.part) in
    let x = c.index_mut.result.now in
    let at = part_read xs node.owner x (omega (arith, many, c.requires.owner)) c.index_mut.ensures.value in
    subst (λ y. to < y.peers) (sym at) c.requires.counts.peer

pub wire_count-requires-clause-live : goal.wire_count-requires-clause-live
wire_count-requires-clause-live g c =
    let xs = c.args.peers.now.items in
    let node = c.args.node in
    let to = c.args.to in
    let parts = map (λ y. y.part) xs in
    let many = length-map xs (λ y. y.part) in
    let x = c.index_mut.result.now in
    let at = part_read xs node.owner x (omega (arith, many, c.requires.owner)) c.index_mut.ensures.value in
    subst (λ y. is_live (node_at y node.serial).state ≡ true) (sym at) c.requires.counts.live

pub wire_count-requires-clause-unused : goal.wire_count-requires-clause-unused
wire_count-requires-clause-unused g c =
    let xs = c.args.peers.now.items in
    let node = c.args.node in
    let to = c.args.to in
    let parts = map (λ y. y.part) xs in
    let many = length-map xs (λ y. y.part) in
    let x = c.index_mut.result.now in
    let at = part_read xs node.owner x (omega (arith, many, c.requires.owner)) c.index_mut.ensures.value in
    subst (λ y. y.queue ≡ []) (sym at) c.requires.counts.unused

pub wire_count-requires-clause-fits : goal.wire_count-requires-clause-fits
wire_count-requires-clause-fits g c =
    let xs = c.args.peers.now.items in
    let node = c.args.node in
    let to = c.args.to in
    let parts = map (λ y. y.part) xs in
    let many = length-map xs (λ y. y.part) in
    let x = c.index_mut.result.now in
    let at = part_read xs node.owner x (omega (arith, many, c.requires.owner)) c.index_mut.ensures.value in
    subst (λ y. count_of (node_at y node.serial) to < 2 ^ 63) (sym at) c.requires.counts.fits

pub index_mut-requires-2 : goal.index_mut-requires-2
index_mut-requires-2 g c =
    let xs = c.args.peers.now.items in
    let node = c.args.node in
    let to = c.args.to in
    let parts = map (λ y. y.part) xs in
    let many = length-map xs (λ y. y.part) in
    omega (arith, many, c.requires.dest, c.args.peers.now.ok.0)

pub wire_held-requires-clause-other : goal.wire_held-requires-clause-other
wire_held-requires-clause-other g c =
    let xs = c.args.peers.now.items in
    let node = c.args.node in
    let to = c.args.to in
    let parts = map (λ y. y.part) xs in
    let many = length-map xs (λ y. y.part) in
    let x = c.index_mut.result.now in
    let at = part_read xs node.owner x (omega (arith, many, c.requires.owner)) c.index_mut.ensures.value in
    let y = c.wire_count.new.self in
    let counted = part_changed (wire_counted node to) xs node.owner x y (omega (arith, many, c.requires.owner)) c.index_mut.ensures.value (ap (λ z. z.part) c.wire_count.ensures) in
    let z = c.index_mut-2.result.now in
    let more = length-set xs node.owner y in
    let there = part_read (set xs node.owner y) to z (omega (arith, many, more, c.requires.dest)) c.index_mut-2.ensures.value ∙ ap (λ l. part_of l to) counted ∙ set_apart parts node.owner to (wire_counted node to (part_of parts node.owner)) no_peer (λ e. c.requires.apart (sym e)) in
    (subst (λ w. CanHold w node) (sym there) c.requires.holds).other

pub wire_held-requires-clause-few : goal.wire_held-requires-clause-few
wire_held-requires-clause-few g c =
    let xs = c.args.peers.now.items in
    let node = c.args.node in
    let to = c.args.to in
    let parts = map (λ y. y.part) xs in
    let many = length-map xs (λ y. y.part) in
    let x = c.index_mut.result.now in
    let at = part_read xs node.owner x (omega (arith, many, c.requires.owner)) c.index_mut.ensures.value in
    let y = c.wire_count.new.self in
    let counted = part_changed (wire_counted node to) xs node.owner x y (omega (arith, many, c.requires.owner)) c.index_mut.ensures.value (ap (λ z. z.part) c.wire_count.ensures) in
    let z = c.index_mut-2.result.now in
    let more = length-set xs node.owner y in
    let there = part_read (set xs node.owner y) to z (omega (arith, many, more, c.requires.dest)) c.index_mut-2.ensures.value ∙ ap (λ l. part_of l to) counted ∙ set_apart parts node.owner to (wire_counted node to (part_of parts node.owner)) no_peer (λ e. c.requires.apart (sym e)) in
    (subst (λ w. CanHold w node) (sym there) c.requires.holds).few

pub wire_held-requires-clause-not_dead : goal.wire_held-requires-clause-not_dead
wire_held-requires-clause-not_dead g c =
    let xs = c.args.peers.now.items in
    let node = c.args.node in
    let to = c.args.to in
    let parts = map (λ y. y.part) xs in
    let many = length-map xs (λ y. y.part) in
    let x = c.index_mut.result.now in
    let at = part_read xs node.owner x (omega (arith, many, c.requires.owner)) c.index_mut.ensures.value in
    let y = c.wire_count.new.self in
    let counted = part_changed (wire_counted node to) xs node.owner x y (omega (arith, many, c.requires.owner)) c.index_mut.ensures.value (ap (λ z. z.part) c.wire_count.ensures) in
    let z = c.index_mut-2.result.now in
    let more = length-set xs node.owner y in
    let there = part_read (set xs node.owner y) to z (omega (arith, many, more, c.requires.dest)) c.index_mut-2.ensures.value ∙ ap (λ l. part_of l to) counted ∙ set_apart parts node.owner to (wire_counted node to (part_of parts node.owner)) no_peer (λ e. c.requires.apart (sym e)) in
    (subst (λ w. CanHold w node) (sym there) c.requires.holds).not_dead

pub wire_held-requires-clause-fits : goal.wire_held-requires-clause-fits
wire_held-requires-clause-fits g c =
    let xs = c.args.peers.now.items in
    let node = c.args.node in
    let to = c.args.to in
    let parts = map (λ y. y.part) xs in
    let many = length-map xs (λ y. y.part) in
    let x = c.index_mut.result.now in
    let at = part_read xs node.owner x (omega (arith, many, c.requires.owner)) c.index_mut.ensures.value in
    let y = c.wire_count.new.self in
    let counted = part_changed (wire_counted node to) xs node.owner x y (omega (arith, many, c.requires.owner)) c.index_mut.ensures.value (ap (λ z. z.part) c.wire_count.ensures) in
    let z = c.index_mut-2.result.now in
    let more = length-set xs node.owner y in
    let there = part_read (set xs node.owner y) to z (omega (arith, many, more, c.requires.dest)) c.index_mut-2.ensures.value ∙ ap (λ l. part_of l to) counted ∙ set_apart parts node.owner to (wire_counted node to (part_of parts node.owner)) no_peer (λ e. c.requires.apart (sym e)) in
    (subst (λ w. CanHold w node) (sym there) c.requires.holds).fits

pub returns-clause-parts : goal.returns-clause-parts
returns-clause-parts g c =
    let xs = c.args.peers.now.items in
    let node = c.args.node in
    let to = c.args.to in
    let parts = map (λ y. y.part) xs in
    let many = length-map xs (λ y. y.part) in
    let x = c.index_mut.result.now in
    let at = part_read xs node.owner x (omega (arith, many, c.requires.owner)) c.index_mut.ensures.value in
    let y = c.wire_count.new.self in
    let counted = part_changed (wire_counted node to) xs node.owner x y (omega (arith, many, c.requires.owner)) c.index_mut.ensures.value (ap (λ z. z.part) c.wire_count.ensures) in
    let z = c.index_mut-2.result.now in
    let more = length-set xs node.owner y in
    let there = part_read (set xs node.owner y) to z (omega (arith, many, more, c.requires.dest)) c.index_mut-2.ensures.value ∙ ap (λ l. part_of l to) counted ∙ set_apart parts node.owner to (wire_counted node to (part_of parts node.owner)) no_peer (λ e. c.requires.apart (sym e)) in
    passed c.wire_held.result (λ held. part_changed (wire_held node) (set xs node.owner y) to z c.wire_held.new.self (omega (arith, many, more, c.requires.dest)) c.index_mut-2.ensures.value (ap (λ w. w.part) held) ∙ ap (with_part to (wire_held node)) counted) c.wire_held.ensures

pub returns-clause-users : goal.returns-clause-users
returns-clause-users g c =
    let xs = c.args.peers.now.items in
    let node = c.args.node in
    let to = c.args.to in
    let parts = map (λ y. y.part) xs in
    let many = length-map xs (λ y. y.part) in
    let x = c.index_mut.result.now in
    let at = part_read xs node.owner x (omega (arith, many, c.requires.owner)) c.index_mut.ensures.value in
    let y = c.wire_count.new.self in
    let counted = part_changed (wire_counted node to) xs node.owner x y (omega (arith, many, c.requires.owner)) c.index_mut.ensures.value (ap (λ z. z.part) c.wire_count.ensures) in
    let z = c.index_mut-2.result.now in
    let more = length-set xs node.owner y in
    let there = part_read (set xs node.owner y) to z (omega (arith, many, more, c.requires.dest)) c.index_mut-2.ensures.value ∙ ap (λ l. part_of l to) counted ∙ set_apart parts node.owner to (wire_counted node to (part_of parts node.owner)) no_peer (λ e. c.requires.apart (sym e)) in
    passed c.wire_held.result (λ held. users_same (set xs node.owner y) to z c.wire_held.new.self (omega (arith, many, more, c.requires.dest)) c.index_mut-2.ensures.value (ap (λ w. w.users) held) ∙ users_same xs node.owner x y (omega (arith, many, c.requires.owner)) c.index_mut.ensures.value (ap (λ w. w.users) c.wire_count.ensures)) c.wire_held.ensures
