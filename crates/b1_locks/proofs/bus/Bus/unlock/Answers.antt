use Rattle.std.proofs.Common.{rules, ◌<◌, [], sym, subst, arith}
use mathlib.Core.Option.{none}
use Rattle.atomic_table.specs.Table.{step, Allows}
use Rattle.b1_rule.specs.Rule.{state_of, Kept}
use Rattle.b1_rule.specs.Plays.{Changes, stored}
use Rattle.b1_rule.proofs.Keeps.{gives_lock}
use Rattle.b1_locks.proofs.bus.Bus.unlock.Goals as goal

pub store-requires : goal.store-requires
store-requires g c =
    let shared = c.self.inside.table.shared in
    let o = shared.key.opening.value in
    let first = state_of shared.key.peers.value.items shared.key.drivers.value.items in
    let slots = shared.table_id.slots in
    let q = c.args.peer in
    let id = c.args.seat.now.id in
    let k = c.requires.stepped in
    let new = g.J.Becoming.part in
    let within : q < shared.table_id.words = search rules in
    let near : q < slots = let a = c.self.invariant.words in let b = c.self.invariant.slots in omega (arith, within, a, b) in
    let changes = subst (λ e. Changes c.args.seat.now.me.0.opening k.before q k.found e k.seen) (sym c.requires.becoming) k.changes in (
      search rules,
      within,
      subst (λ m. Allows (Kept o first) slots id m q (λ _. 0) (λ _. stored new (step slots q 0 0 none) m 0)) (sym k.me)
          (gives_lock o c.args.seat.now.me.0.opening first slots id q k.before k.found k.seen [] new changes near),
    )
