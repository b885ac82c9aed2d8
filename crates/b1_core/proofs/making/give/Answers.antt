use Rattle.std.proofs.Common.{◌∙◌, sym, ap, subst, map}
use Rattle.std.proofs.lemmas.List.{length-map}
use native.Mathlib.Omega.{arith}
use Rattle.b1_model.specs.MachineTables.{node_named}
use Rattle.b1_model.specs.MachineStep.{with_part, wire_made, wire_counted, wire_held}
use Rattle.b1_core.specs.Wiring.{CanPass}
use Rattle.b1_core.proofs.Openings.{part_changed, passed, users_same, wired_node, wired_none, giver_is}
use Rattle.b1_core.proofs.making.give.Goals as goal

pub pass-requires : goal.pass-requires
pass-requires g c =
    let xs = c.args.peers.now.items in
    let w = c.args.wire.now in
    let many = length-map xs (λ y. y.part) in
    let made = part_changed (wire_made w.number) xs w.from c.index_mut.result.now c.wire_name.new.self (omega (arith, many, c.requires.giver)) c.index_mut.ensures.value (ap (λ z. z.part) c.in_ok-node.ensures.made) in
    let named = ap (λ y. node_named y w.number) (giver_is xs w c.index_mut.result.now c.wire_name.new.self (omega (arith, many, c.requires.giver)) c.index_mut.ensures.value (ap (λ z. z.part) c.in_ok-node.ensures.made)) ∙ sym c.in_ok-node.ensures.node ∙ c.in-Some.is in
    subst (λ l. CanPass l c.in-Some.node w.to) (sym made) (c.requires.passes c.in-Some.node named)

pub returns-in-Some-clause-parts : goal.returns-in-Some-clause-parts
returns-in-Some-clause-parts g c =
    let xs = c.args.peers.now.items in
    let w = c.args.wire.now in
    let node = c.in-Some.node in
    let many = length-map xs (λ y. y.part) in
    let made = part_changed (wire_made w.number) xs w.from c.index_mut.result.now c.wire_name.new.self (omega (arith, many, c.requires.giver)) c.index_mut.ensures.value (ap (λ z. z.part) c.in_ok-node.ensures.made) in
    let named = ap (λ y. node_named y w.number) (giver_is xs w c.index_mut.result.now c.wire_name.new.self (omega (arith, many, c.requires.giver)) c.index_mut.ensures.value (ap (λ z. z.part) c.in_ok-node.ensures.made)) ∙ sym c.in_ok-node.ensures.node ∙ c.in-Some.is in
    passed c.pass.result (λ e. e ∙ ap (λ l. with_part w.to (wire_held node) (with_part node.owner (wire_counted node w.to) l)) made ∙ sym (wired_node (map (λ y. y.part) xs) w node named)) c.pass.ensures.parts

pub returns-in-Some-clause-users : goal.returns-in-Some-clause-users
returns-in-Some-clause-users g c =
    let xs = c.args.peers.now.items in
    let many = length-map xs (λ y. y.part) in
    passed c.pass.result (λ e. e ∙ users_same xs c.args.wire.now.from c.index_mut.result.now c.wire_name.new.self (omega (arith, many, c.requires.giver)) c.index_mut.ensures.value (ap (λ z. z.users) c.in_ok-node.ensures.made)) c.pass.ensures.users

pub returns-in-None-clause-parts : goal.returns-in-None-clause-parts
returns-in-None-clause-parts g c =
    let xs = c.args.peers.now.items in
    let w = c.args.wire.now in
    let many = length-map xs (λ y. y.part) in
    let made = part_changed (wire_made w.number) xs w.from c.index_mut.result.now c.wire_name.new.self (omega (arith, many, c.requires.giver)) c.index_mut.ensures.value (ap (λ z. z.part) c.in_ok-node.ensures.made) in
    let named = ap (λ y. node_named y w.number) (giver_is xs w c.index_mut.result.now c.wire_name.new.self (omega (arith, many, c.requires.giver)) c.index_mut.ensures.value (ap (λ z. z.part) c.in_ok-node.ensures.made)) ∙ sym c.in_ok-node.ensures.node ∙ c.in-None.is in
    made ∙ sym (wired_none (map (λ y. y.part) xs) w named)

pub returns-in-None-clause-users : goal.returns-in-None-clause-users
returns-in-None-clause-users g c =
    let xs = c.args.peers.now.items in
    let many = length-map xs (λ y. y.part) in
    users_same xs c.args.wire.now.from c.index_mut.result.now c.wire_name.new.self (omega (arith, many, c.requires.giver)) c.index_mut.ensures.value (ap (λ z. z.users) c.in_ok-node.ensures.made)
