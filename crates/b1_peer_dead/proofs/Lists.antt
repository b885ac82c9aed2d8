-- Lists paired one by one.
use Rattle.std.proofs.Common.{◌≡◌, ◌<◌, ◌++◌, List, [], ◌∷◌, length, refl, sym, ◌∙◌, arith}
use Rattle.std.specs.Prelude.{filter_map, zip, Option}
use Rattle.std.proofs.lemmas.List.{append-nil}

pub zip_short : {K X : Type 0} → (ks : List K) (xs : List X) → length xs < 1 → zip ks xs ≡ []
zip_short [] xs short = refl
zip_short (k ∷ ks) [] short = refl
zip_short (k ∷ ks) (x ∷ xs) short = absurd (omega arith)

-- nothing more is gathered where one of the lists is at its end
pub none_left : {K X Y : Type 0} → (h : K × X → Option Y) (ks : List K) (xs : List X) (made all : List Y) → length xs < 1 → made ++ filter_map h (zip ks xs) ≡ all → made ≡ all
none_left h ks xs made all short is = sym (rw (zip_short ks xs short) (append-nil made)) ∙ is
