-- One more element of a list that is written, and that fits.
use Rattle.std.proofs.Common.{◌≡◌, ◌∙◌, ap, append_assoc, ℕ, ◌+◌, ◌<◌, ◌++◌, codes, All, List, length, take, get_or}
use Rattle.std.specs.List.{flat_map}
use Rattle.std.proofs.lemmas.List.{flat_map_more, take_more}
use Rattle.std.proofs.lemmas.List.Elements.{All-push}

pub one_more_fits : {X : Type 0} (P : X → Type 0) (xs : List X) (i : ℕ) (d : X) → i < length xs → All P (take i xs) → P (get_or xs i d) → All P (take (i + 1) xs)
one_more_fits P xs i d within all here = rw (take_more xs i d within) (All-push P (take i xs) (get_or xs i d) all here)

-- the text of the next element, behind a comma
pub one_more_behind_comma : {A : Type 0} (text : A → List ℕ) (xs : List A) (i : ℕ) (d : A) (old so_far mid out : List ℕ) →
    i < length xs → so_far ≡ old ++ flat_map (λ x. codes "," ++ text x) (take i xs) → mid ≡ so_far ++ codes "," → out ≡ mid ++ text (get_or xs i d) →
    out ≡ old ++ flat_map (λ x. codes "," ++ text x) (take (i + 1) xs)
one_more_behind_comma text xs i d old so_far mid out within before comma last =
    last ∙ ap (λ t. t ++ text (get_or xs i d)) comma ∙ append_assoc so_far (codes ",") (text (get_or xs i d))
    ∙ rw (before, take_more xs i d within) (flat_map_more (λ x. codes "," ++ text x) old (take i xs) (get_or xs i d))
