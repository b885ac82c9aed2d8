-- Reads and writes past the end of a list, and lists of drops.
use Rattle.std.proofs.Common.{◌≡◌, ℕ, zero, suc, ◌≤◌, List, [], ◌∷◌, ◌++◌, length, get_or, map, replicate, set, drop, slice_get, Some, None, refl, ap, sym, ◌∙◌, arith}
use Rattle.std.proofs.lemmas.Option.{unwrap_or-slice_get, get_or_from_slice_get}
use Rattle.std.proofs.lemmas.List.{set-set}
use Rattle.std.specs.Option.{unwrap_or}
use Rattle.b1_model.specs.declared.naming.NodeRef.{NodeRef}
use Rattle.b1_model.specs.declared.parts.Begun.{Begun}
use Rattle.b1_model.specs.declared.parts.Slot.{Slot}
use Rattle.b1_model.specs.declared.parts.Slot.TheVariants.{Unattached}
use Rattle.b1_model.specs.MachineTook.{drops_of}
use Rattle.b1_driver.specs.Stages.{unattached}

pub set_past : {X : Type 0} (xs : List X) (i : ℕ) (y : X) → length xs ≤ i → set xs i y ≡ xs
set_past [] i y past = refl
set_past (x ∷ xs) zero y past = absurd (omega arith)
set_past (x ∷ xs) (suc i) y past = ap (λ l. x ∷ l) (set_past xs i y (omega arith))

pub read_none : {X : Type 0} (xs : List X) (i : ℕ) (d : X) → slice_get xs i ≡ None → get_or xs i d ≡ d
read_none xs i d none = sym (unwrap_or-slice_get xs i d) ∙ ap (λ o. unwrap_or o d) none

pub set_twice : {X : Type 0} (xs : List X) (i : ℕ) (y z d : X) (f : X → X) → Some y ≡ slice_get xs i → set (set xs i z) i (f y) ≡ set xs i (f (get_or xs i d))
set_twice xs i y z d f read = set-set xs i z (f y) ∙ ap (λ v. set xs i (f v)) (sym (get_or_from_slice_get xs i y d (sym read)))

pub first_drop : (holder clock : ℕ) (l : List (NodeRef × ℕ)) (node : NodeRef) (amount : ℕ) → Some (node, amount) ≡ slice_get l 0 → slice_get (drops_of holder clock l) 0 ≡ Some (record { node = node; holder = holder; amount = amount; clock = clock })
first_drop holder clock [] node amount read = cc
first_drop holder clock ((n, k) ∷ l) node amount read = grind arith

pub no_drop : (holder clock : ℕ) (l : List (NodeRef × ℕ)) → slice_get l 0 ≡ None → slice_get (drops_of holder clock l) 0 ≡ None
no_drop holder clock [] read = refl
no_drop holder clock (r ∷ l) read = cc

pub nothing_owed : (holder clock : ℕ) (a b : List (NodeRef × ℕ)) → drops_of holder clock (a ++ b) ≡ [] → (a ≡ []) × (b ≡ [])
nothing_owed holder clock [] [] e = (refl, refl)
nothing_owed holder clock [] (x ∷ b) e = absurd (grind arith)
nothing_owed holder clock (x ∷ a) b e = absurd (grind arith)

pub drop_drops : (holder clock : ℕ) (l : List (NodeRef × ℕ)) → drops_of holder clock (drop 1 l) ≡ drop 1 (drops_of holder clock l)
drop_drops holder clock [] = refl
drop_drops holder clock (r ∷ l) = refl

pub map_same : {X Y : Type 0} (xs : List X) (y : Y) → map (λ (x : X). y) xs ≡ replicate (length xs) y
map_same [] y = refl
map_same (x ∷ xs) y = ap (λ l. y ∷ l) (map_same xs y)

pub all_unattached : (begun : Begun) (lists handles : ℕ) (slots : List (List Slot)) → lists ≡ length begun.to → handles ≡ length begun.with → slots ≡ replicate lists (replicate handles Unattached) → slots ≡ unattached begun
all_unattached begun lists handles slots destinations in_each are =
    are ∙ ap (λ n. replicate n (replicate handles Unattached)) destinations ∙ ap (λ n. replicate (length begun.to) (replicate n Unattached)) in_each
    ∙ ap (λ l. replicate (length begun.to) l) (sym (map_same begun.with Unattached))
    ∙ sym (map_same begun.to (map (λ (node : NodeRef). Unattached) begun.with))
