use Rattle.std.proofs.Common.{ap, ◌∙◌}
use Rattle.b1_quota.specs.Accounts.{minus, users_of}
use Rattle.b1_quota.specs.Charges.{Charges}
use Rattle.b1_quota.proofs.AccountLemmas.{users_of-with_charge}
use Rattle.b1_quota.proofs.QuotaLemmas.{by_quantity, seen-minus, seen-charged_to-minus}
use Rattle.b1_quota.proofs.quota.Quota.discharge.Goals as goal

pub invariant_of-self : goal.invariant_of-self
invariant_of-self c =
    rw c.charge_less.ensures (seen-minus (record { limits = c.self.inside.limits; home = c.self.inside.home; accounts = c.self.inside.accounts.items }) c.args.self.now c.self.view_is c.args.user c.args.asked c.self.invariant c.requires.user (by_quantity _ c.requires.entries c.requires.bytes c.requires.handles))

pub returns-clause-amounts : goal.returns-clause-amounts
returns-clause-amounts c =
    λ what passes. rw c.charge_less.ensures (seen-charged_to-minus (record { limits = c.self.inside.limits; home = c.self.inside.home; accounts = c.self.inside.accounts.items }) c.args.self.now c.self.view_is c.args.user c.args.asked c.self.invariant c.requires.user (by_quantity _ c.requires.entries c.requires.bytes c.requires.handles) what passes)

pub returns-clause-users : goal.returns-clause-users
returns-clause-users c =
    rw c.charge_less.ensures (users_of-with_charge c.args.user (minus c.args.asked) c.self.inside.accounts.items) ∙ ap (λ (q : Charges). users_of q.accounts) c.self.view_is
