-- Where the peers stand while the wires give their references.
use Rattle.std.specs.Prelude.{◌≡◌, ℕ, ◌<◌, List, [], length, slice_get, slice_set, Some, None, All}
use Rattle.b1_model.specs.declared.naming.Wire.{Wire}
use Rattle.b1_model.specs.Names.{wired}
use Rattle.b1_model.specs.Ledger.{named, handed, wire_tables}
use Rattle.b1_judge_facts.specs.declared.standing.Standing.{Standing}
use Rattle.b1_judge_facts.specs.Steps.{with_name}

-- a wire from and to one of n peers
abbrev pub IsWithin : ℕ → Wire → Type 0
IsWithin n w = (w.from < n) × (w.to < n)

abbrev pub AreWithin : ℕ → List Wire → Type 0
AreWithin n ws = All (IsWithin n) ws

-- where p stands with all names, after these wires gave their references
abbrev pub given_by : List Wire → List Wire → ℕ → Standing
given_by all ws p = record { names = wired all p; table = wire_tables all (λ q. record { lines = []; given = 0 }) ws p; epoch = 0; last = None }

-- each of n peers stands so
pub record AreBegun (all ws : List Wire) (n : ℕ) (xs : List Standing) : Type 0 where
  pub count : length xs ≡ n
  pub each : (p : ℕ) (x : Standing) → slice_get xs p ≡ Some x → x ≡ given_by all ws p

-- with names alone
abbrev pub AreNamed : List Wire → ℕ → List Standing → Type 0
AreNamed all n xs = AreBegun all [] n xs

-- a wire gave its reference
pub record Gives (w : Wire) (xs ys : List Standing) : Type 0 where
  pub giver : Standing
  pub taker : Standing
  pub gives : slice_get xs w.from ≡ Some giver
  pub takes : slice_get xs w.to ≡ Some taker
  pub given : ys ≡ slice_set xs w.to (record taker { table = handed (named w.from giver.names giver.table w.number) taker.table })

-- a wire gave its name
pub record GivesName (w : Wire) (xs ys : List Standing) : Type 0 where
  pub giver : Standing
  pub gives : slice_get xs w.from ≡ Some giver
  pub named : ys ≡ slice_set xs w.from (record giver { names = with_name 0 w.number giver.names })
