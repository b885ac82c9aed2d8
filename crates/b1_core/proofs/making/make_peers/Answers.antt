use Rattle.std.proofs.Common.{◌≡◌, ◌<◌, ◌+◌, ◌∙◌, sym, ap, subst, length, take, drop, get_or}
use native.Mathlib.Omega.{arith}
use Rattle.b1_model.specs.declared.naming.Wire.{Wire}
use Rattle.std.specs.List.{All}
use Rattle.std.proofs.lemmas.List.Sums.{fold_more}
use Rattle.std.proofs.Math.Seq.{take-length}
use Rattle.b1_model.specs.MachineStep.{peers_before, wired}
use Rattle.b1_event.specs.Events.{HasUsers}
use Rattle.b1_core.specs.Wiring.{CanGive}
use Rattle.b1_core.proofs.Wiring.{after}
use Rattle.b1_core.proofs.Giving.{can_give}
use Rattle.b1_core.proofs.Openings.{split_at}
use Rattle.b1_core.proofs.making.make_peers.Goals as goal

pub give-requires : goal.give-requires
give-requires g c =
    let o = c.args.opening.now in
    let i = c.loop-wire.wire-index in
    let none : Wire = record { from = 0; to = 0; number = 0 } in
    let same = c.as_slice-wire-items.ensures in
    let within = c.loop-wire-test.true in
    let is_within : i < length o.wires = omega (arith, within, ap length same) in
    subst (λ l. CanGive l (get_or c.as_slice-wire-items.result.now i none)) (sym c.loop-wire.invariant.parts)
    (subst (λ ws. CanGive (after o (take i o.wires)) (get_or ws i none)) (sym same) (can_give c.every_reached_state_is_sound.ensures.reached o c.requires (take i o.wires) (get_or o.wires i none) (drop (i + 1) o.wires) (split_at o.wires i none is_within)))

pub loop-wire-preserved : goal.loop-wire-preserved
loop-wire-preserved g c =
    let o = c.args.opening.now in
    let i = c.loop-wire.wire-index in
    let none : Wire = record { from = 0; to = 0; number = 0 } in
    let same = c.as_slice-wire-items.ensures in
    let is_within : i < length o.wires = omega (arith, c.loop-wire-test.true, ap length same) in
    record {
      parts = c.in_ok-give.ensures.parts
          ∙ ap (λ xs. wired xs (get_or c.as_slice-wire-items.result.now i none)) c.loop-wire.invariant.parts
          ∙ ap (λ ws. wired (after o (take i o.wires)) (get_or ws i none)) same
          ∙ sym (fold_more wired (peers_before o 0 o.peers) o.wires i none is_within);
      users = c.in_ok-give.ensures.users ∙ c.loop-wire.invariant.users;
    }

pub returns-clause-parts : goal.returns-clause-parts
returns-clause-parts g c =
    let o = c.args.opening.now in
    let all : c.loop-wire.wire-index ≡ length o.wires = omega (arith, c.loop-wire-test.false, c.loop-wire.auto.wire-index-end, ap length c.as_slice-wire-items.ensures) in
    c.loop-wire.invariant.parts ∙ ap (λ n. after o (take n o.wires)) all ∙ ap (λ ws. after o ws) (take-length o.wires)

pub returns-clause-users : goal.returns-clause-users
returns-clause-users g c = subst (All (HasUsers c.args.opening.now)) (sym c.loop-wire.invariant.users) c.in_ok-peers.ensures.users
