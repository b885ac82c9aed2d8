-- Users' accounts: what they are charged, and how a charge changes them.
use Rattle.std.specs.Prelude.{◌≢◌, ℕ, ◌+◌, ◌-◌, ◌==◌, ◌<◌, ◌^◌, Bool, true, not, if◌then◌else◌, List, [], ◌∷◌, ◌++◌, map, sum_by, AllPairs}
use Rattle.std.specs.List.{list_any}
use Rattle.b1_model.specs.declared.answers.Quantity.{Quantity}
use Rattle.b1_model.specs.declared.answers.Quantity.TheVariants.{Entries, Bytes, Handles}
use Rattle.b1_model.specs.declared.entries.Charge.{Charge}
use Rattle.b1_quota.specs.declared.accounts.Account.{Account}

-- how much of a quantity a charge has
abbrev pub amount_in : Quantity → Charge → ℕ
amount_in Entries charge = charge.entries
amount_in Bytes charge = charge.bytes
amount_in Handles charge = charge.handles

-- how much of a quantity the users that pass are charged together
abbrev pub charged_to : Quantity → (ℕ → Bool) → List Account → ℕ
charged_to what passes accounts = sum_by (λ a. if passes a.user then amount_in what a.charge else 0) accounts

-- what one user is charged, what all other users are charged, what all users are charged
abbrev pub own : Quantity → ℕ → List Account → ℕ
own what user accounts = charged_to what (λ u. u == user) accounts

abbrev pub others : Quantity → ℕ → List Account → ℕ
others what user accounts = charged_to what (λ u. not (u == user)) accounts

abbrev pub total : Quantity → List Account → ℕ
total what accounts = charged_to what (λ u. true) accounts

-- the users
abbrev pub users_of : List Account → List ℕ
users_of accounts = map (λ a. a.user) accounts

-- an account with another charge
abbrev pub recharged : (Charge → Charge) → Account → Account
recharged change a = record a { charge = change a.charge }

-- a user's account changes
abbrev pub with_charge : ℕ → (Charge → Charge) → List Account → List Account
with_charge user change accounts = map (λ a. if a.user == user then recharged change a else a) accounts

abbrev pub plus : Charge → Charge → Charge
plus more charge = record { entries = charge.entries + more.entries; bytes = charge.bytes + more.bytes; handles = charge.handles + more.handles }

abbrev pub minus : Charge → Charge → Charge
minus less charge = record { entries = charge.entries - less.entries; bytes = charge.bytes - less.bytes; handles = charge.handles - less.handles }

abbrev pub nothing : Charge
nothing = record { entries = 0; bytes = 0; handles = 0 }

-- nobody is charged anything
abbrev pub cleared : List Account → List Account
cleared accounts = map (recharged (λ c. nothing)) accounts

-- whether a user has an account
abbrev pub has_account : ℕ → List Account → Bool
has_account user accounts = list_any (λ u. u == user) (users_of accounts)

-- the accounts with an uncharged one for a user who has none
abbrev pub with_user : ℕ → List Account → List Account
with_user user accounts = if has_account user accounts then accounts else accounts ++ record { user = user; charge = nothing } ∷ []

-- no user has two accounts
abbrev pub IsDistinct : List Account → Type 0
IsDistinct accounts = AllPairs ◌≢◌ (users_of accounts)

-- no user has two accounts, and what all are charged together can be counted in 32 bits
pub record IsSound (accounts : List Account) : Type 0 where
  pub distinct : IsDistinct accounts
  pub fits : (what : Quantity) → total what accounts < 2 ^ 32
