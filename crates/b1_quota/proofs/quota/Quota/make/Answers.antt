use Rattle.b1_quota.proofs.AccountLemmas.{with_user-distinct, with_user-uncharged, with_user-has, charged_to-uncharged}
use Rattle.b1_quota.proofs.QuotaLemmas.{IsSound-uncharged, any_more}
use Rattle.b1_quota.proofs.quota.Quota.make.Goals as goal

pub loop-user-preserved : goal.loop-user-preserved
loop-user-preserved c =
    rw c.in_ok-open_account.ensures
    (record {
      distinct = with_user-distinct _ _ c.loop-user.invariant.distinct;
      uncharged = with_user-uncharged _ _ c.loop-user.invariant.uncharged;
      users = λ u. any_more c.args.users.now c.loop-user.user-index u _ _ c.loop-user-test.true (c.loop-user.invariant.users u) (with_user-has _ u _);
    })

pub invariant_of-result : goal.invariant_of-result
invariant_of-result c = IsSound-uncharged c.loop-user.accounts.items c.loop-user.invariant.distinct c.loop-user.invariant.uncharged

pub returns-clause-nothing_charged : goal.returns-clause-nothing_charged
returns-clause-nothing_charged c = λ what passes. charged_to-uncharged what passes c.loop-user.accounts.items c.loop-user.invariant.uncharged
