use Rattle.std.proofs.Common.{rules, ◌≡◌, ◌<◌, eqb, refl, sym, ◌∙◌, subst, arith}
use mathlib.Core.Option.{none}
use prog.Atomic.{either}
use Rattle.atomic_table.specs.Table.{step, Allows}
use Rattle.b1_rule.specs.Rule.{state_of, Kept}
use Rattle.b1_rule.specs.Plays.{resting, took}
use Rattle.b1_rule.proofs.Keeps.{takes_lock}
use Rattle.b1_locks.proofs.bus.Bus.lock.Goals as goal

pub compare_exchange-requires : goal.compare_exchange-requires
compare_exchange-requires g c =
    let shared = c.self.inside.table.shared in
    let o = shared.key.opening.value in
    let first = state_of shared.key.peers.value.items shared.key.drivers.value.items in
    let slots = shared.table_id.slots in
    let q = c.args.peer in
    let id = c.loop.seat.id in
    let rests = c.requires.rests in
    let a = c.args.seat.now.me.0.opening in
    let me : c.loop.seat.me ≡ resting a rests.before = c.loop.invariant.3 ∙ rests.me in
    let within : q < shared.table_id.words = search rules in
    let near : q < slots = let a = c.self.invariant.words in let b = c.self.invariant.slots in omega (arith, within, a, b) in (
      search rules,
      within,
      subst (λ m. Allows (Kept o first) slots id m q (λ n. either (eqb n 0) 1 n) (took (step slots q 0 1 none) m)) (sym me)
          (takes_lock o first slots id (resting a rests.before) q refl refl refl near),
    )
