use Rattle.b1_quota.proofs.AccountLemmas.{cleared_more}
use Rattle.b1_quota.proofs.accounts.clear.Goals as goal

pub loop-account-preserved : goal.loop-account-preserved
loop-account-preserved c =
    cleared_more c.args.accounts.now.items c.loop-account.account-items c.loop-account.account-index (rw c.deref_mut-account-items.ensures.value at c.loop-account-test.true) c.loop-account.invariant
