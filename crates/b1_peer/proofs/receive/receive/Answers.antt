use Rattle.std.proofs.Common.{◌≡◌, List, ℕ, length, sym, ◌∙◌, ap, arith, rules}
use Rattle.b1_peer_pool.specs.Content.{padded_len}
use Rattle.b1_peer.proofs.KeptReceive.{numbers_fit, has_arrived, delivered}
use Rattle.b1_peer.proofs.receive.receive.Goals as goal

pub publish-requires-clause-within : goal.publish-requires-clause-within
publish-requires-clause-within g c =
    let few = numbers_fit c.args.me c.args.nodes.now.nodes c.args.handles.now c.arrive.new.handles c.args.delivery.with.now c.args.delivery.slots.now c.arrive.new.numbers.items c.arrive.new.refs.items c.arrive.ensures.arrived in
    let fits = c.requires.may_arrive.within in
    let at_is : c.padded_length-at.result ≡ padded_len (length c.args.delivery.payload) = search rules in
    omega (arith, few, fits, at_is)

pub returns-clause-arrived : goal.returns-clause-arrived
returns-clause-arrived g c = has_arrived c.args.me c.args.nodes.now.nodes c.args.handles.now c.arrive.new.handles c.args.delivery.with.now c.args.delivery.slots.now c.arrive.new.numbers.items c.arrive.new.refs.items c.args.delivery.key c.args.delivery.number c.args.delivery.offset c.args.delivery.payload c.from_vec.result c.args.dead.now.items c.add.new.self.items c.arrive.ensures.arrived c.from_vec.ensures (search rules)

pub returns-clause-delivered : goal.returns-clause-delivered
returns-clause-delivered g c =
    let at_is : c.padded_length-at.result ≡ padded_len (length c.args.delivery.payload) = search rules in
    let few = numbers_fit c.args.me c.args.nodes.now.nodes c.args.handles.now c.arrive.new.handles c.args.delivery.with.now c.args.delivery.slots.now c.arrive.new.numbers.items c.arrive.new.refs.items c.arrive.ensures.arrived in
    let fits = c.requires.may_arrive.within in
    let same = ap (λ (ns : List ℕ). length ns) c.deref.ensures.value in
    delivered _ c.args.delivery.offset c.padded_length-at.result c.args.delivery.payload c.deref.result.now c.from_vec.result _ c.requires.may_arrive.stored c.requires.may_arrive.queued at_is
    (omega (arith, few, fits, at_is, same))
    c.publish.ensures.bytes c.requires.may_arrive.holds (c.from_vec.ensures ∙ sym c.deref.ensures.value)
