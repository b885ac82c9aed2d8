-- The node at a key among some destructions, with one more behind them.
use Rattle.std.proofs.Common.{◌≡◌, ◌⊎◌, refl, sym, ap, ◌∙◌, inl, inr, ℕ, zero, suc, ◌==◌, Bool, true, false, cond, List, [], ◌∷◌, ◌++◌, find, Option, Some, None, option_map}
use Rattle.std.specs.Prelude.{slice_get}
use Rattle.std.specs.Option.{option_flatten}
use Rattle.std.proofs.lemmas.Bool.{eqb-true, eq-eqb}
use Rattle.std.proofs.lemmas.List.Folds.{find-append}
use Rattle.std.proofs.lemmas.Option.{same_Some}
use Rattle.b1_model.specs.declared.naming.NodeRef.{NodeRef}
use Rattle.b1_model.specs.Names.{Node}
use Rattle.b1_model.specs.Ledger.{Destruction, node_at}
use Rattle.b1_inv_record.specs.Destructions.{own_ref}
use Rattle.b1_inv_record.specs.Epochs.{ref_of}
use Rattle.b1_inv_doomed.proofs.Refs.{refs, own_refs}

-- the node at a place of the destruction with a stamp
abbrev pub at_in : List Destruction → ℕ → ℕ → Option Node
at_in ds stamp index = node_at index (find (λ d. d.stamp == stamp) ds)

one_found : (e : Destruction) (stamp : ℕ) → e.stamp ≡ stamp → find (λ d. d.stamp == stamp) (e ∷ []) ≡ Some e
one_found e stamp same = ap (λ b. cond b (Some e) None) (eq-eqb e.stamp stamp same)

-- what was found stays
pub at_kept : (ds : List Destruction) (e : Destruction) (stamp index : ℕ) (x : Node) → at_in ds stamp index ≡ Some x → at_in (ds ++ e ∷ []) stamp index ≡ Some x
at_kept ds e stamp index x is = by (find (λ d. d.stamp == stamp) ds) refl
  where
    by : (r : Option Destruction) → find (λ d. d.stamp == stamp) ds ≡ r → at_in (ds ++ e ∷ []) stamp index ≡ Some x
    by None at = let none : None ≡ Some x = sym (ap (node_at index) at) ∙ is in absurd (cc none)
    by (Some d) at =
        let there : find (λ d. d.stamp == stamp) (ds ++ e ∷ []) ≡ Some d = find-append (λ k. k.stamp == stamp) ds (e ∷ []) ∙ rw at refl in
        ap (node_at index) there ∙ sym (ap (node_at index) at) ∙ is

-- what is found was found, or is in the last
pub at_end : (ds : List Destruction) (e : Destruction) (stamp index : ℕ) (x : Node) → at_in (ds ++ e ∷ []) stamp index ≡ Some x → (at_in ds stamp index ≡ Some x) ⊎ ((e.stamp ≡ stamp) × (node_at index (Some e) ≡ Some x))
at_end ds e stamp index x is = by (find (λ d. d.stamp == stamp) ds) refl
  where
    last : (b : Bool) → (e.stamp == stamp) ≡ b → node_at index (cond b (Some e) None) ≡ Some x → (e.stamp ≡ stamp) × (node_at index (Some e) ≡ Some x)
    last true same there = (eqb-true e.stamp stamp same, there)
    last false differs there = absurd (cc there)

    by : (r : Option Destruction) → find (λ d. d.stamp == stamp) ds ≡ r → (at_in ds stamp index ≡ Some x) ⊎ ((e.stamp ≡ stamp) × (node_at index (Some e) ≡ Some x))
    by None at =
        let there : find (λ d. d.stamp == stamp) (ds ++ e ∷ []) ≡ find (λ d. d.stamp == stamp) (e ∷ []) = find-append (λ k. k.stamp == stamp) ds (e ∷ []) ∙ rw at refl in
        inr (last (e.stamp == stamp) refl (sym (ap (node_at index) there) ∙ is))
    by (Some d) at =
        let there : find (λ d. d.stamp == stamp) (ds ++ e ∷ []) ≡ Some d = find-append (λ k. k.stamp == stamp) ds (e ∷ []) ∙ rw at refl in
        inl (ap (node_at index) at ∙ sym (ap (node_at index) there) ∙ is)

-- the last is found by its stamp, where none before it has the same
pub at_last : (ds : List Destruction) (e : Destruction) (index : ℕ) → find (λ d. d.stamp == e.stamp) ds ≡ None → at_in (ds ++ e ∷ []) e.stamp index ≡ node_at index (Some e)
at_last ds e index none =
    let there : find (λ d. d.stamp == e.stamp) (ds ++ e ∷ []) ≡ Some e = find-append (λ k. k.stamp == e.stamp) ds (e ∷ []) ∙ rw none (one_found e e.stamp refl) in
    ap (node_at index) there

-- ---- places of own nodes

flat_ref : (named : List (Option Node)) (i : ℕ) → option_map ref_of (option_flatten (slice_get named i)) ≡ option_flatten (slice_get (refs named) i)
flat_ref [] i = refl
flat_ref (x ∷ rest) zero = refl
flat_ref (x ∷ rest) (suc i) = flat_ref rest i

own_place : (p : ℕ) (doomed : List ℕ) (i serial : ℕ) → slice_get doomed i ≡ Some serial → option_flatten (slice_get (own_refs p doomed) i) ≡ Some (own_ref p serial)
own_place p [] i serial at = absurd (cc at)
own_place p (n ∷ rest) zero serial at = ap (λ k. Some (own_ref p k)) (same_Some n serial at)
own_place p (n ∷ rest) (suc i) serial at = own_place p rest i serial at

place_own : (p : ℕ) (doomed : List ℕ) (i : ℕ) (node : NodeRef) → option_flatten (slice_get (own_refs p doomed) i) ≡ Some node → (serial : ℕ) × (slice_get doomed i ≡ Some serial) × (own_ref p serial ≡ node)
place_own p [] i node at = absurd (cc at)
place_own p (n ∷ rest) zero node at = (n, refl, same_Some (own_ref p n) node at)
place_own p (n ∷ rest) (suc i) node at = place_own p rest i node at

module _ (p stamp : ℕ) (named : List (Option Node)) (doomed : List ℕ) (same : refs named ≡ own_refs p doomed) where
  abbrev new : Destruction
  new = record { stamp = stamp; origin = p; nodes = named }

  pub node_there : (i serial : ℕ) → slice_get doomed i ≡ Some serial → option_map ref_of (node_at i (Some new)) ≡ Some (own_ref p serial)
  node_there i serial at = flat_ref named i ∙ ap (λ l. option_flatten (slice_get l i)) same ∙ own_place p doomed i serial at

  pub there_node : (i : ℕ) (x : Node) → node_at i (Some new) ≡ Some x → (serial : ℕ) × (slice_get doomed i ≡ Some serial) × (own_ref p serial ≡ ref_of x)
  there_node i x is = place_own p doomed i (ref_of x) (sym (flat_ref named i ∙ ap (λ l. option_flatten (slice_get l i)) same) ∙ ap (option_map ref_of) is)
