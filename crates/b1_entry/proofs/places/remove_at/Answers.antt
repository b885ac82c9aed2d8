use Rattle.std.proofs.Common.{◌≡◌, ◌∙◌, sym, refl, None, Some, IsSome, arith}
use Rattle.std.proofs.lemmas.List.{get_or_default}
use Rattle.b1_entry.specs.Table.{entry_at}
use Rattle.b1_entry.proofs.PlaceLemmas.{vacant_removed}
use Rattle.b1_entry.proofs.places.remove_at.Goals as goal

pub returns-clause-vacant : goal.returns-clause-vacant
returns-clause-vacant c =
    let here : entry_at c.args.slots.now.items c.args.place ≡ Some c.in_ok-entry.entry =
    get_or_default c.args.slots.now.items c.args.place None c.index_mut.result.now (omega (arith, c.if-place-len.false, c.len.ensures))
    ∙ sym c.index_mut.ensures.value
    ∙ sym c.take.ensures.value
    ∙ c.in_ok-entry.was in
    let there : IsSome (entry_at c.args.slots.now.items c.args.place) = rw here refl in
    rw c.take.ensures.after
    (vacant_removed c.args.slots.now.items c.args.vacant.now.items _ c.requires.vacant c.args.place there c.push.new.self.items _ c.in-Ok.ensures.items c.push.ensures.capacity)
