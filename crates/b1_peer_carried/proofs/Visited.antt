-- Which doomed nodes of a visit need a notice.
use Rattle.std.proofs.Common.{◌≡◌, ℕ, Bool, true, false, ◌||◌, List, ◌∷◌, refl}
use Rattle.std.specs.List.{list_any}
use Rattle.b1_model.specs.MachineParts.{PeerPart}
use Rattle.b1_model.specs.MachineDestroy.{needs_notice, notice_by, with_foreign_notice}

-- whether one of the doomed nodes of an owner needs one
abbrev pub any_needs : PeerPart → ℕ → List ℕ → Bool
any_needs x origin doomed = list_any (λ serial. needs_notice x (record { owner = origin; serial = serial })) doomed

-- one of them needs one exactly where the first does, or a later one after the first was visited
pub any_needs_more : (x : PeerPart) (origin index serial : ℕ) (rest : List ℕ) → any_needs x origin (serial ∷ rest) ≡ (needs_notice x (record { owner = origin; serial = serial }) || any_needs (with_foreign_notice origin x index (record { owner = origin; serial = serial })) origin rest)
any_needs_more x origin index serial rest =
    by_first (needs_notice x (record { owner = origin; serial = serial }))
  where
    by_first : (b : Bool) → (b || any_needs x origin rest) ≡ (b || any_needs (notice_by b origin x index (record { owner = origin; serial = serial })) origin rest)
    by_first true = refl
    by_first false = refl
