-- The wires give their references one after another.
use Rattle.std.specs.Prelude.{◌≡◌, refl, ℕ, zero, suc, ◌+◌, ◌<◌, ◌≢◌, ◌⊎◌, Bool, true, false, ◌==◌, if◌then◌else◌, List, [], ◌∷◌, ◌++◌, length, map, filter, take, slice_get, slice_set, Some, None}
use Rattle.std.proofs.lemmas.Option.{same_Some}
use Rattle.std.proofs.lemmas.List.{take_more, length-set}
use Rattle.std.proofs.lemmas.Bool.{ne_eqb}
use Rattle.std.proofs.Common.{get_or, arith, inl, inr, sym, ap, ◌∙◌, eq-eqb}
use Rattle.b1_model.specs.declared.naming.Wire.{Wire}
use Rattle.b1_model.specs.Names.{Name, wired, add_new}
use Rattle.b1_model.specs.Ledger.{Table, named, handed, wire_tables}
use Rattle.b1_model.specs.Opening.{AreWired, after_wire}
use Rattle.b1_judge_facts.specs.declared.standing.Standing.{Standing}
use Rattle.b1_judge_facts.specs.Start.{IsWithin, AreWithin, given_by, AreBegun, AreNamed, Gives, GivesName}
use Rattle.b1_judge_facts.specs.Steps.{with_name}

-- what stands at a place of a list that was written to
pub set_cases : {A : Type 0} (xs : List A) (i k : ℕ) (y z : A) → slice_get (slice_set xs i y) k ≡ Some z → ((k ≡ i) × (z ≡ y)) ⊎ ((k ≢ i) × (slice_get xs k ≡ Some z))
set_cases [] i k y z e = cc
set_cases (x ∷ xs) zero zero y z e = inl (refl, sym (same_Some _ _ e))
set_cases (x ∷ xs) zero (suc k) y z e = inr ((λ h. cc h), e)
set_cases (x ∷ xs) (suc i) zero y z e = inr ((λ h. cc h), e)
set_cases (x ∷ xs) (suc i) (suc k) y z e = elim (set_cases xs i k y z e) [ inl h ↦ inl (ap suc h.0, h.1) | inr h ↦ inr ((λ f. h.0 (omega (arith, f))), h.1) ]

wire_more : (all : List Wire) (ts : ℕ → Table) (ws : List Wire) (w : Wire) (p : ℕ) → wire_tables all ts (ws ++ w ∷ []) p ≡ (if p == w.to then handed (named w.from (wired all w.from) (wire_tables all ts ws w.from) w.number) (wire_tables all ts ws p) else wire_tables all ts ws p)
wire_more all ts [] w p = refl
wire_more all ts (v ∷ ws) w p = wire_more all (λ q. if q == v.to then handed (named v.from (wired all v.from) (ts v.from) v.number) (ts q) else ts q) ws w p

pub gives_next : (all ws : List Wire) (n : ℕ) (w : Wire) (xs ys : List Standing) → AreBegun all ws n xs → Gives w xs ys → AreBegun all (ws ++ w ∷ []) n ys
gives_next all ws n w xs ys h g = record {
  count = ap length g.given ∙ length-set xs w.to (record { names = g.taker.names; table = handed (named w.from g.giver.names g.giver.table w.number) g.taker.table; epoch = g.taker.epoch; last = g.taker.last }) ∙ h.count;
  each = λ p x e. one p x (set_cases xs w.to p (record { names = g.taker.names; table = handed (named w.from g.giver.names g.giver.table w.number) g.taker.table; epoch = g.taker.epoch; last = g.taker.last }) x (ap (λ l. slice_get l p) (sym g.given) ∙ e));
}
  where
    none : ℕ → Table
    none q = record { lines = []; given = 0 }

    new : Standing
    new = record { names = g.taker.names; table = handed (named w.from g.giver.names g.giver.table w.number) g.taker.table; epoch = g.taker.epoch; last = g.taker.last }

    one : (p : ℕ) (x : Standing) → (((p ≡ w.to) × (x ≡ new)) ⊎ ((p ≢ w.to) × (slice_get xs p ≡ Some x))) → x ≡ given_by all (ws ++ w ∷ []) p
    one p x (inl f) =
        let giver : g.giver ≡ given_by all ws w.from = h.each w.from g.giver g.gives in
        let taker : g.taker ≡ given_by all ws w.to = h.each w.to g.taker g.takes in
        let here : (p == w.to) ≡ true = eq-eqb p w.to f.0 in
        let tables : wire_tables all none (ws ++ w ∷ []) p ≡ handed (named w.from (wired all w.from) (wire_tables all none ws w.from) w.number) (wire_tables all none ws p) = wire_more all none ws w p ∙ rw here refl in
        f.1
        ∙ ap (λ y. record { names = g.taker.names; table = handed (named w.from y.names y.table w.number) g.taker.table; epoch = g.taker.epoch; last = g.taker.last }) giver
        ∙ ap (λ y. record { names = y.names; table = handed (named w.from (wired all w.from) (wire_tables all none ws w.from) w.number) y.table; epoch = y.epoch; last = y.last }) taker
        ∙ ap (λ q. record { names = wired all q; table = handed (named w.from (wired all w.from) (wire_tables all none ws w.from) w.number) (wire_tables all none ws q); epoch = 0; last = None }) (sym f.0)
        ∙ ap (λ t. record { names = wired all p; table = t; epoch = 0; last = None }) (sym tables)
    one p x (inr f) =
        let other : (p == w.to) ≡ false = ne_eqb p w.to f.0 in
        let tables : wire_tables all none (ws ++ w ∷ []) p ≡ wire_tables all none ws p = wire_more all none ws w p ∙ rw other refl in
        h.each p x f.1 ∙ ap (λ t. record { names = wired all p; table = t; epoch = 0; last = None }) (sym tables)

pub begun_next : (ws : List Wire) (i n : ℕ) (d : Wire) (xs ys : List Standing) → i < length ws → AreBegun ws (take i ws) n xs → Gives (get_or ws i d) xs ys → AreBegun ws (take (i + 1) ws) n ys
begun_next ws i n d xs ys l h g = rw (take_more ws i d l) (gives_next ws (take i ws) n (get_or ws i d) xs ys h g)

-- the wires of an opening are within it
pub within : (n : ℕ) (held ws : List Wire) → AreWired n held ws → AreWithin n ws
within n held ws h = λ i d l. at held ws i d l h
  where
    at : (held ws : List Wire) (i : ℕ) (d : Wire) → i < length ws → AreWired n held ws → IsWithin n (get_or ws i d)
    at held [] i d l h = absurd (omega (arith, l))
    at held (v ∷ ws) zero d l h = (h.0.from, h.0.to)
    at held (v ∷ ws) (suc i) d l h = at (after_wire held v) ws i d (omega (arith, l)) h.1

-- ---- the names

add_more : (known : List Name) (ns : List ℕ) (n : ℕ) → add_new 0 known (ns ++ n ∷ []) ≡ with_name 0 n (add_new 0 known ns)
add_more known [] n = refl
add_more known (m ∷ ns) n = add_more (with_name 0 m known) ns n

-- the numbers of the wires from p
abbrev numbers_from : ℕ → List Wire → List ℕ
numbers_from p ws = map (λ w. w.number) (filter (λ w. w.from == p) ws)

numbers_more : (p : ℕ) (ws : List Wire) (w : Wire) → numbers_from p (ws ++ w ∷ []) ≡ (if w.from == p then numbers_from p ws ++ w.number ∷ [] else numbers_from p ws)
numbers_more p [] w = go (w.from == p)
  where
    go : (b : Bool) → map (λ w. w.number) (if b then w ∷ [] else []) ≡ (if b then w.number ∷ [] else [])
    go true = refl
    go false = refl
numbers_more p (v ∷ ws) w = go (v.from == p) (w.from == p) (numbers_more p ws w)
  where
    go : (a b : Bool) → numbers_from p (ws ++ w ∷ []) ≡ (if b then numbers_from p ws ++ w.number ∷ [] else numbers_from p ws) → map (λ w. w.number) (if a then v ∷ filter (λ w. w.from == p) (ws ++ w ∷ []) else filter (λ w. w.from == p) (ws ++ w ∷ [])) ≡ (if b then map (λ w. w.number) (if a then v ∷ filter (λ w. w.from == p) ws else filter (λ w. w.from == p) ws) ++ w.number ∷ [] else map (λ w. w.number) (if a then v ∷ filter (λ w. w.from == p) ws else filter (λ w. w.from == p) ws))
    go true true ih = ap (λ ns. v.number ∷ ns) ih
    go true false ih = ap (λ ns. v.number ∷ ns) ih
    go false true ih = ih
    go false false ih = ih

wired_more : (ws : List Wire) (w : Wire) (p : ℕ) → wired (ws ++ w ∷ []) p ≡ (if w.from == p then with_name 0 w.number (wired ws p) else wired ws p)
wired_more ws w p = ap (add_new 0 []) (numbers_more p ws w) ∙ go (w.from == p)
  where
    go : (b : Bool) → add_new 0 [] (if b then numbers_from p ws ++ w.number ∷ [] else numbers_from p ws) ≡ (if b then with_name 0 w.number (wired ws p) else wired ws p)
    go true = add_more [] (numbers_from p ws) w.number
    go false = refl

-- with no table yet, whatever wires are given later
names_next : (ws : List Wire) (n : ℕ) (w : Wire) (xs ys : List Standing) → AreNamed ws n xs → GivesName w xs ys → AreNamed (ws ++ w ∷ []) n ys
names_next ws n w xs ys h g = record {
  count = ap length g.named ∙ length-set xs w.from new ∙ h.count;
  each = λ p x e. one p x (set_cases xs w.from p new x (ap (λ l. slice_get l p) (sym g.named) ∙ e));
}
  where
    new : Standing
    new = record { names = with_name 0 w.number g.giver.names; table = g.giver.table; epoch = g.giver.epoch; last = g.giver.last }

    one : (p : ℕ) (x : Standing) → (((p ≡ w.from) × (x ≡ new)) ⊎ ((p ≢ w.from) × (slice_get xs p ≡ Some x))) → x ≡ given_by (ws ++ w ∷ []) [] p
    one p x (inl f) =
        let giver : g.giver ≡ given_by ws [] w.from = h.each w.from g.giver g.gives in
        let here : (w.from == p) ≡ true = eq-eqb w.from p (sym f.0) in
        let names : wired (ws ++ w ∷ []) p ≡ with_name 0 w.number (wired ws p) = wired_more ws w p ∙ rw here refl in
        f.1
        ∙ ap (λ y. record { names = with_name 0 w.number y.names; table = y.table; epoch = y.epoch; last = y.last }) giver
        ∙ ap (λ q. record { names = with_name 0 w.number (wired ws q); table = record { lines = []; given = 0 }; epoch = 0; last = None }) (sym f.0)
        ∙ ap (λ l. record { names = l; table = record { lines = []; given = 0 }; epoch = 0; last = None }) (sym names)
    one p x (inr f) =
        let other : (w.from == p) ≡ false = ne_eqb w.from p (λ e. f.0 (sym e)) in
        let names : wired (ws ++ w ∷ []) p ≡ wired ws p = wired_more ws w p ∙ rw other refl in
        h.each p x f.1 ∙ ap (λ l. record { names = l; table = record { lines = []; given = 0 }; epoch = 0; last = None }) (sym names)

pub named_next : (ws : List Wire) (i n : ℕ) (d : Wire) (xs ys : List Standing) → i < length ws → AreNamed (take i ws) n xs → GivesName (get_or ws i d) xs ys → AreNamed (take (i + 1) ws) n ys
named_next ws i n d xs ys l h g = rw (take_more ws i d l) (names_next (take i ws) n (get_or ws i d) xs ys h g)
