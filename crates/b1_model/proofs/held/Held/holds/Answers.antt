use Rattle.std.proofs.Common.{rules, arith, ◌≡◌, sym, refl, ◌∙◌, ◌==◌, nat_lt, false, length}
use Rattle.std.proofs.lemmas.Option.{slice_get_past, slice_get_read}
use Rattle.b1_model.proofs.HeldLemmas.{and_assoc, has_none, has_past, has_place}
use Rattle.b1_model.proofs.held.Held.holds.Goals as goal

pub returns-then-place-len : goal.returns-then-place-len
returns-then-place-len c = rw (← c.self.view_is) (c.eq.ensures ∙ and_assoc (c.index.result.now.from == c.args.wire.now.from) (c.index.result.now.to == c.args.wire.now.to) (c.index.result.now.number == c.args.wire.now.number) ∙ has_place c.self.inside.wires.items c.self.inside.places c.self.invariant.placed c.args.wire.now c.in-Some.place.now c.index.result.now (sym c.in-Some.ensures.value) (slice_get_read c.self.inside.wires.items (length c.self.inside.wires.items) c.in-Some.place.now c.index.result.now refl (let few : c.len.result ≡ length c.self.inside.wires.items = search rules in grind (arith, few, c.if-place-len.true)) c.index.ensures))

pub returns-else-place-len : goal.returns-else-place-len
returns-else-place-len c = rw (← c.self.view_is) ((let past : nat_lt c.in-Some.place.now c.len.result ≡ false = grind (arith, c.if-place-len.false) in past) ∙ sym (has_past c.self.inside.wires.items c.self.inside.places c.self.invariant.placed c.args.wire.now c.in-Some.place.now (sym c.in-Some.ensures.value) (slice_get_past c.self.inside.wires.items c.in-Some.place.now (let few : c.len.result ≡ length c.self.inside.wires.items = search rules in grind (arith, few, c.if-place-len.false)))))

pub returns-in-None : goal.returns-in-None
returns-in-None c = rw (← c.self.view_is) (sym (has_none c.self.inside.wires.items c.self.inside.places c.self.invariant.placed c.args.wire.now (sym c.in-None.ensures.value)))
