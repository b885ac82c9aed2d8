use Rattle.std.proofs.Common.{◌≡◌, take, arith}
use Rattle.std.proofs.lemmas.List.{take_all}
use Rattle.b1_quota.proofs.AccountLemmas.{no_account, own_more_le, others_more_le, own-others}
use Rattle.b1_quota.proofs.accounts.shares_of.Goals as goal

pub overflow_add-shares : goal.overflow_add-shares
overflow_add-shares c = omega (arith, own_more_le c.args.what c.args.user c.args.accounts.now c.loop-account.account-index no_account c.loop-account-test.true)

pub overflow_add-shares-else-account-user : goal.overflow_add-shares-else-account-user
overflow_add-shares-else-account-user c = omega (arith, others_more_le c.args.what c.args.user c.args.accounts.now c.loop-account.account-index no_account c.loop-account-test.true)

pub returns-clause-within : goal.returns-clause-within
returns-clause-within c =
    let all : take c.loop-account.account-index c.args.accounts.now ≡ c.args.accounts.now = take_all _ _ (omega arith) in
    omega (arith, rw all at c.loop-account.invariant.own, rw all at c.loop-account.invariant.others, own-others c.args.what c.args.user c.args.accounts.now)
