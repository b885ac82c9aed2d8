use Rattle.std.proofs.Common.{ap, ◌∙◌}
use Rattle.b1_quota.specs.Accounts.{users_of}
use Rattle.b1_quota.specs.Charges.{Charges}
use Rattle.b1_quota.proofs.AccountLemmas.{charged_to-cleared, users_of-cleared}
use Rattle.b1_quota.proofs.QuotaLemmas.{IsSound-cleared}
use Rattle.b1_quota.proofs.quota.Quota.flush.Goals as goal

pub invariant_of-self : goal.invariant_of-self
invariant_of-self c = rw c.clear.ensures (IsSound-cleared c.self.inside.accounts.items c.self.invariant.distinct)

pub returns-clause-nothing_charged : goal.returns-clause-nothing_charged
returns-clause-nothing_charged c = λ what passes. rw c.clear.ensures (charged_to-cleared what passes c.self.inside.accounts.items)

pub returns-clause-users : goal.returns-clause-users
returns-clause-users c = rw c.clear.ensures (users_of-cleared c.self.inside.accounts.items) ∙ ap (λ (q : Charges). users_of q.accounts) c.self.view_is
