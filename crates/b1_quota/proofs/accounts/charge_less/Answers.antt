use Rattle.std.proofs.Common.{sym, ◌∙◌, arith}
use Rattle.b1_model.specs.declared.answers.Quantity.TheVariants.{Entries, Bytes, Handles}
use Rattle.b1_quota.specs.Accounts.{minus}
use Rattle.b1_quota.proofs.AccountLemmas.{found_in, own_read, with_charge_read, absent_in}
use Rattle.b1_quota.proofs.accounts.charge_less.Goals as goal

pub subtract-requires-clause-entries : goal.subtract-requires-clause-entries
subtract-requires-clause-entries c =
    let here = found_in c.args.user c.deref.result.now c.args.accounts.now.items c.in-Some.i c.index_mut.result.now c.deref.ensures.value c.in-Some.ensures c.index_mut.ensures.value in
    omega (arith, own_read c.args.user c.args.accounts.now.items c.in-Some.i c.index_mut.result.now c.requires.distinct here.0 c.index_mut.ensures.value here.1 Entries)

pub subtract-requires-clause-bytes : goal.subtract-requires-clause-bytes
subtract-requires-clause-bytes c =
    let here = found_in c.args.user c.deref.result.now c.args.accounts.now.items c.in-Some.i c.index_mut.result.now c.deref.ensures.value c.in-Some.ensures c.index_mut.ensures.value in
    omega (arith, own_read c.args.user c.args.accounts.now.items c.in-Some.i c.index_mut.result.now c.requires.distinct here.0 c.index_mut.ensures.value here.1 Bytes)

pub subtract-requires-clause-handles : goal.subtract-requires-clause-handles
subtract-requires-clause-handles c =
    let here = found_in c.args.user c.deref.result.now c.args.accounts.now.items c.in-Some.i c.index_mut.result.now c.deref.ensures.value c.in-Some.ensures c.index_mut.ensures.value in
    omega (arith, own_read c.args.user c.args.accounts.now.items c.in-Some.i c.index_mut.result.now c.requires.distinct here.0 c.index_mut.ensures.value here.1 Handles)

pub returns-in-Some : goal.returns-in-Some
returns-in-Some c =
    let here = found_in c.args.user c.deref.result.now c.args.accounts.now.items c.in-Some.i c.index_mut.result.now c.deref.ensures.value c.in-Some.ensures c.index_mut.ensures.value in
    rw c.subtract.ensures (with_charge_read c.args.user c.args.accounts.now.items c.in-Some.i c.index_mut.result.now c.requires.distinct here.0 c.index_mut.ensures.value here.1 (minus c.args.less.now))

pub returns-in_default : goal.returns-in_default
returns-in_default c = absent_in c.args.user (minus c.args.less.now) c.deref.result.now c.args.accounts.now.items c.deref.ensures.value (sym c.index_of.ensures ∙ c.in_default.is)
