-- What contracts see of a quota, and when it refuses a charge.
use Rattle.std.specs.Prelude.{ℕ, ◌==◌, if◌then◌else◌, List, Option, Some, None}
use Rattle.b1_model.specs.declared.answers.Quantity.{Quantity}
use Rattle.b1_model.specs.declared.answers.Quantity.TheVariants.{Entries, Bytes, Handles}
use Rattle.b1_model.specs.declared.entries.Charge.{Charge}
use Rattle.b1_model.specs.declared.naming.Limits.{Limits}
use Rattle.b1_model.specs.MachineTables.{limit_of, within_quota}
use Rattle.b1_quota.specs.declared.accounts.Account.{Account}
use Rattle.b1_quota.specs.declared.quota.Over.{Over}
use Rattle.b1_quota.specs.Accounts.{amount_in, own, others}

-- a quota: the peer's limits, the peer's own user, and the users' accounts
pub record Charges : Type 0 where
  pub limits : Limits
  pub home : ℕ
  pub accounts : List Account

-- a quantity's refusal, if it is refused
abbrev pub over : Charges → ℕ → Charge → Quantity → Option Over
over q user asked what =
    if within_quota (user == q.home) (own what user q.accounts) (others what user q.accounts) (limit_of what q.limits) (amount_in what asked) then None
    else Some (record { what = what; own = own what user q.accounts; others = others what user q.accounts; limit = limit_of what q.limits; asked = amount_in what asked })

-- the refusal of the first quantity that is refused: entries, then bytes, then handles
abbrev pub refusal : Charges → ℕ → Charge → Option Over
refusal q user asked =
    elim (over q user asked Entries) [
      | Some r ↦ Some r
      | None ↦ elim (over q user asked Bytes) [ Some r ↦ Some r | None ↦ over q user asked Handles ]
    ]
