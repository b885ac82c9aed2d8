-- The stamp of a SEND, and which of its places were accepted.
use Rattle.std.proofs.Common.{◌≡◌, refl, sym, ap, ◌∙◌, inl, inr, ℕ, suc, ◌+◌, ◌≤◌, ◌==◌, max, Bool, true, false, cond, not, nat_lt, List, [], ◌∷◌, ◌++◌, map, fold, filter, length, zip, Option, Some, None, is_none, arith}
use Rattle.std.specs.Prelude.{slice_get}
use Rattle.std.proofs.lemmas.Bool.{lt-ltb, le-leb, false_from_ne_true, eqb-true}
use Rattle.std.proofs.lemmas.List.Sums.{fold-append}
use Rattle.b1_model.specs.declared.naming.NodeRef.{NodeRef}
use Rattle.b1_model.specs.declared.answers.Reason.{Reason}
use Rattle.b1_model.specs.MachineDriver.{next_accepted, accepted_from, is_place}
use Rattle.b1_step.specs.Rights.{Has}
use Rattle.b1_serial_bus.specs.Letters.{Places}
use Rattle.b1_serial_send.proofs.Midway.{Answered}
use Rattle.b1_serial_send.proofs.Lists.{max_twice, fold_max}
use Rattle.b1_serial_send.proofs.Charges.{count_at}
use Rattle.b1_serial_send.proofs.Accepted.{not_below}

-- ---- some place was accepted

abbrev pub is_any : Places → Bool
is_any [] = false
is_any (None ∷ rest) = true
is_any (Some r ∷ rest) = is_any rest

any_from : (zs : Places) (here from : ℕ) → from ≤ here → nat_lt (next_accepted here from zs) (here + length zs) ≡ is_any zs
any_from [] here from low = not_below here (here + 0) (omega arith)
any_from (None ∷ rest) here from low =
    ap (λ b. nat_lt (cond b here (next_accepted (here + 1) from rest)) (here + suc (length rest))) (le-leb from here low)
    ∙ lt-ltb here (here + suc (length rest)) (omega arith)
any_from (Some r ∷ rest) here from low =
    ap (nat_lt (next_accepted (here + 1) from rest)) (omega arith) ∙ any_from rest (here + 1) from (omega (arith, low))

pub any_is : (zs : Places) → is_place (accepted_from 0 zs) zs ≡ is_any zs
any_is zs = ap (nat_lt (accepted_from 0 zs)) (omega arith) ∙ any_from zs 0 0 (omega arith)

-- the accepted ones are none only where no place was accepted
pub accepted_any : (tos : List NodeRef) (zs : Places) → length zs ≤ length tos → (length (map (λ (z : NodeRef × Option Reason). z.0) (filter (λ (z : NodeRef × Option Reason). is_none z.1) (zip tos zs))) == 0) ≡ not (is_any zs)
accepted_any [] [] fits = refl
accepted_any [] (z ∷ zs) fits = absurd (omega (arith, fits))
accepted_any (t ∷ ts) [] fits = refl
accepted_any (t ∷ ts) (None ∷ zs) fits = false_from_ne_true _ (λ is. let n = eqb-true _ 0 is in absurd (omega (arith, n)))
accepted_any (t ∷ ts) (Some r ∷ zs) fits = accepted_any ts zs (omega (arith, fits))

-- ---- the greatest of some clocks

greatest : (k : ℕ) (vs : List ℕ) → fold max k vs ≡ max k (fold max 0 vs)
greatest k vs = ap (λ j. fold max j vs) (omega arith) ∙ fold_max k 0 vs

again : (k : ℕ) (vs : List ℕ) → fold max (fold max k vs) vs ≡ fold max k vs
again k vs =
    greatest (fold max k vs) vs
    ∙ ap (λ j. max j (fold max 0 vs)) (greatest k vs)
    ∙ max_twice k (fold max 0 vs)
    ∙ sym (greatest k vs)

-- clocks collected once more for each accepted place are collected once
abbrev pub collected_by : List ℕ → ℕ → Places → ℕ
collected_by vs first zs = fold (λ k a. elim a [ None ↦ fold max k vs | Some r ↦ k ]) first zs

collected_done : (vs : List ℕ) (k : ℕ) (zs : Places) → collected_by vs (fold max k vs) zs ≡ fold max k vs
collected_done vs k [] = refl
collected_done vs k (None ∷ rest) = ap (λ j. collected_by vs j rest) (again k vs) ∙ collected_done vs k rest
collected_done vs k (Some r ∷ rest) = collected_done vs k rest

pub collected_once : (vs : List ℕ) (k : ℕ) (zs : Places) → is_any zs ≡ true → collected_by vs k zs ≡ fold max k vs
collected_once vs k [] any = absurd (cc any)
collected_once vs k (None ∷ rest) any = collected_done vs k rest
collected_once vs k (Some r ∷ rest) any = collected_once vs k rest any

pub stamps_same : (clock : ℕ) (owners voids : List ℕ) → max clock (fold max (fold max 0 owners) voids) ≡ fold max clock (owners ++ voids)
stamps_same clock owners voids =
    sym (fold-append max clock owners voids
    ∙ ap (λ k. fold max k voids) (greatest clock owners)
    ∙ fold_max clock (fold max 0 owners) voids)

pub fold_above : (k : ℕ) (xs : List ℕ) → k ≤ fold max k xs
fold_above k xs = let e = greatest k xs in omega (arith, e)

pub fold_has : (k : ℕ) (xs : List ℕ) (x : ℕ) → Has xs x → x ≤ fold max k xs
fold_has k [] x there = absurd there
fold_has k (y ∷ rest) x (inl same) = let e = fold_above (max k y) rest in omega (arith, e, same)
fold_has k (y ∷ rest) x (inr there) = fold_has (max k y) rest x there

-- ---- a peer that accepted

pub count_has : (q : ℕ) (ds : Answered) → 1 ≤ count_at q ds → (to : NodeRef) × Has ds (to, None) × (to.owner ≡ q)
count_has q [] some = absurd (omega (arith, some))
count_has q ((to, Some r) ∷ rest) some = let k = count_has q rest some in (k.0, inr k.1, k.2)
count_has q ((to, None) ∷ rest) some = by (to.owner == q) refl some (count_has q rest)
  where
    Found : Answered → Type 0
    Found zs = (t : NodeRef) × Has zs (t, None) × (t.owner ≡ q)

    later : Found rest → Found ((to, None) ∷ rest)
    later k = (k.0, inr k.1, k.2)

    by : (b : Bool) → to.owner == q ≡ b → 1 ≤ cond b (suc (count_at q rest)) (count_at q rest) → (1 ≤ count_at q rest → Found rest) → Found ((to, None) ∷ rest)
    by true own some further = (to, inl refl, eqb-true to.owner q own)
    by false other some further = later (further some)

pub accepted_has : (ds : Answered) (to : NodeRef) → Has ds (to, None) → Has (map (λ (z : NodeRef × Option Reason). z.0) (filter (λ (z : NodeRef × Option Reason). is_none z.1) ds)) to
accepted_has [] to there = absurd there
accepted_has ((t, Some r) ∷ rest) to (inl same) = absurd (cc (ap (λ (z : NodeRef × Option Reason). z.1) same))
accepted_has ((t, Some r) ∷ rest) to (inr there) = accepted_has rest to there
accepted_has ((t, None) ∷ rest) to (inl same) = inl (ap (λ (z : NodeRef × Option Reason). z.0) same)
accepted_has ((t, None) ∷ rest) to (inr there) = inr (accepted_has rest to there)

pub map_has : {X Y : Type 0} (g : X → Y) (xs : List X) (x : X) → Has xs x → Has (map g xs) (g x)
map_has g [] x there = absurd there
map_has g (y ∷ rest) x (inl same) = inl (ap g same)
map_has g (y ∷ rest) x (inr there) = inr (map_has g rest x there)

-- ---- one place

pub zip_split : (tos : List NodeRef) (before : Places) (a : Option Reason) (rest : Places) (to : NodeRef) → slice_get tos (length before) ≡ Some to → (later : Answered) × (zip tos (before ++ a ∷ rest) ≡ zip tos before ++ (to, a) ∷ later)
zip_split [] [] a rest to is = absurd (cc is)
zip_split [] (b ∷ bs) a rest to is = absurd (cc is)
zip_split (t ∷ ts) [] a rest to is = (zip ts rest, ap (λ n. (n, a) ∷ zip ts rest) (cc is))
zip_split (t ∷ ts) (b ∷ bs) a rest to is = let k = zip_split ts bs a rest to is in (k.0, ap (λ zs. (t, b) ∷ zs) k.1)
