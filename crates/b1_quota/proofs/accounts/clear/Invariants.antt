use Rattle.std.proofs.Common.{◌≡◌, take, drop, ◌++◌}
use Rattle.b1_quota.specs.Accounts.{cleared}
use Rattle.b1_quota.proofs.accounts.clear.Given as goal

abbrev pub invariant-loop-account : goal.invariant-loop-account
invariant-loop-account l = l.account-items ≡ cleared (take l.account-index l.fn.accounts.items) ++ drop l.account-index l.fn.accounts.items
