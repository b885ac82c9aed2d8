use Rattle.std.proofs.Common.{sym, ◌∙◌, arith}
use Rattle.b1_model.specs.declared.answers.Quantity.TheVariants.{Entries, Bytes, Handles}
use Rattle.b1_quota.specs.Accounts.{plus}
use Rattle.b1_quota.proofs.AccountLemmas.{found_in, own_read, with_charge_read, absent_in}
use Rattle.b1_quota.proofs.accounts.charge_more.Goals as goal

pub add-requires-clause-entries : goal.add-requires-clause-entries
add-requires-clause-entries c =
    let here = found_in c.args.user c.deref.result.now c.args.accounts.now.items c.in-Some.i c.index_mut.result.now c.deref.ensures.value c.in-Some.ensures c.index_mut.ensures.value in
    omega (arith, own_read c.args.user c.args.accounts.now.items c.in-Some.i c.index_mut.result.now c.requires.distinct here.0 c.index_mut.ensures.value here.1 Entries)

pub add-requires-clause-bytes : goal.add-requires-clause-bytes
add-requires-clause-bytes c =
    let here = found_in c.args.user c.deref.result.now c.args.accounts.now.items c.in-Some.i c.index_mut.result.now c.deref.ensures.value c.in-Some.ensures c.index_mut.ensures.value in
    omega (arith, own_read c.args.user c.args.accounts.now.items c.in-Some.i c.index_mut.result.now c.requires.distinct here.0 c.index_mut.ensures.value here.1 Bytes)

pub add-requires-clause-handles : goal.add-requires-clause-handles
add-requires-clause-handles c =
    let here = found_in c.args.user c.deref.result.now c.args.accounts.now.items c.in-Some.i c.index_mut.result.now c.deref.ensures.value c.in-Some.ensures c.index_mut.ensures.value in
    omega (arith, own_read c.args.user c.args.accounts.now.items c.in-Some.i c.index_mut.result.now c.requires.distinct here.0 c.index_mut.ensures.value here.1 Handles)

pub returns-in-Some : goal.returns-in-Some
returns-in-Some c =
    let here = found_in c.args.user c.deref.result.now c.args.accounts.now.items c.in-Some.i c.index_mut.result.now c.deref.ensures.value c.in-Some.ensures c.index_mut.ensures.value in
    rw c.add.ensures (with_charge_read c.args.user c.args.accounts.now.items c.in-Some.i c.index_mut.result.now c.requires.distinct here.0 c.index_mut.ensures.value here.1 (plus c.args.more.now))

pub returns-in_default : goal.returns-in_default
returns-in_default c = absent_in c.args.user (plus c.args.more.now) c.deref.result.now c.args.accounts.now.items c.deref.ensures.value (sym c.index_of.ensures ∙ c.in_default.is)
