use Rattle.std.proofs.Common.{◌≡◌, take}
use Rattle.b1_quota.specs.Accounts.{own, others}
use Rattle.b1_quota.proofs.accounts.shares_of.Given as goal

abbrev pub invariant-loop-account : goal.invariant-loop-account
invariant-loop-account l = record {
  own : l.shares.own ≡ own l.what l.user (take l.account-index l.accounts);
  others : l.shares.others ≡ others l.what l.user (take l.account-index l.accounts);
}
