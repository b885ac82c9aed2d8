-- Where no driver is left to join, the states so far are all.
use Rattle.std.proofs.Common.{◌≡◌, ◌∙◌, sym, refl, ap, List, [], ◌∷◌, ◌++◌, length, map, arith}
use Rattle.b1_driver.specs.Parts.{Driver}
use Rattle.b1_locks.specs.Faces.{DriverFace}

nothing_behind : (states : List Driver) → states ++ [] ≡ states
nothing_behind [] = refl
nothing_behind (d ∷ rest) = ap (λ xs. d ∷ xs) (nothing_behind rest)

no_successor : (d : DriverFace) (rest : List DriverFace) → length (d ∷ rest) ≡ 0 → ⊥
no_successor d rest none = omega (arith, none)

pub none_left : (states : List Driver) (left : List DriverFace) (all : List Driver) → length left ≡ 0 → states ++ map (λ d. d.own) left ≡ all → states ≡ all
none_left states [] all none rest = sym (nothing_behind states) ∙ rest
none_left states (d ∷ ds) all none rest = absurd (no_successor d ds none)
