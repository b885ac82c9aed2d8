use Rattle.std.proofs.Common.{◌≡◌, ◌==◌, ℕ, take}
use Rattle.std.specs.List.{list_any}
use Rattle.b1_quota.specs.Accounts.{cleared, has_account, IsDistinct}
use Rattle.b1_quota.proofs.quota.Quota.make.Given as goal

abbrev pub invariant-loop-user : goal.invariant-loop-user
invariant-loop-user l = record {
  distinct : IsDistinct l.accounts.items;
  uncharged : cleared l.accounts.items ≡ l.accounts.items;
  users : (u : ℕ) → has_account u l.accounts.items ≡ list_any (λ v. v == u) (take l.user-index l.users);
}
