use Rattle.std.proofs.Common.{ap, ◌∙◌, arith}
use Rattle.b1_model.specs.declared.answers.Quantity.TheVariants.{Entries, Bytes, Handles}
use Rattle.b1_quota.specs.Accounts.{plus, users_of}
use Rattle.b1_quota.specs.Charges.{Charges}
use Rattle.b1_quota.proofs.AccountLemmas.{users_of-with_charge}
use Rattle.b1_quota.proofs.QuotaLemmas.{by_quantity, seen-room, seen-plus, seen-charged_to-plus}
use Rattle.b1_quota.proofs.quota.Quota.charge.Goals as goal

pub charge_more-requires-clause-entries : goal.charge_more-requires-clause-entries
charge_more-requires-clause-entries c = omega (arith, seen-room (record { limits = c.self.inside.limits; home = c.self.inside.home; accounts = c.self.inside.accounts.items }) c.args.self.now c.self.view_is c.args.user c.args.asked c.self.invariant Entries c.in_ok-check.ensures.fits)

pub charge_more-requires-clause-bytes : goal.charge_more-requires-clause-bytes
charge_more-requires-clause-bytes c = omega (arith, seen-room (record { limits = c.self.inside.limits; home = c.self.inside.home; accounts = c.self.inside.accounts.items }) c.args.self.now c.self.view_is c.args.user c.args.asked c.self.invariant Bytes c.in_ok-check-2.ensures.fits)

pub charge_more-requires-clause-handles : goal.charge_more-requires-clause-handles
charge_more-requires-clause-handles c = omega (arith, seen-room (record { limits = c.self.inside.limits; home = c.self.inside.home; accounts = c.self.inside.accounts.items }) c.args.self.now c.self.view_is c.args.user c.args.asked c.self.invariant Handles c.in_ok-check-3.ensures.fits)

pub invariant_of-self : goal.invariant_of-self
invariant_of-self c =
    rw c.charge_more.ensures (seen-plus (record { limits = c.self.inside.limits; home = c.self.inside.home; accounts = c.self.inside.accounts.items }) c.args.self.now c.self.view_is c.args.user c.args.asked c.self.invariant c.requires (by_quantity _ c.in_ok-check.ensures.fits c.in_ok-check-2.ensures.fits c.in_ok-check-3.ensures.fits))

pub returns-clause-amounts : goal.returns-clause-amounts
returns-clause-amounts c = λ what passes. rw c.charge_more.ensures (seen-charged_to-plus (record { limits = c.self.inside.limits; home = c.self.inside.home; accounts = c.self.inside.accounts.items }) c.args.self.now c.self.view_is c.args.user c.args.asked c.self.invariant c.requires what passes)

pub returns-clause-users : goal.returns-clause-users
returns-clause-users c =
    rw c.charge_more.ensures (users_of-with_charge c.args.user (plus c.args.asked) c.self.inside.accounts.items) ∙ ap (λ (q : Charges). users_of q.accounts) c.self.view_is
