-- The destructions of a record with more calls behind those that it had: where each names own numbers alone, they stay.
use Rattle.std.proofs.Common.{◌≡◌, refl, sym, ap, subst, ◌∙◌, ℕ, zero, suc, ◌+◌, ◌<◌, ◌≤◌, true, List, [], ◌∷◌, ◌++◌, map, take, length, Option, Some, None, append-nil}
use Rattle.std.specs.Prelude.{slice_get, position}
use Rattle.std.specs.List.{list_all}
use Rattle.std.proofs.lemmas.Bool.{and_parts}
use Rattle.std.proofs.lemmas.List.{length-append, append_assoc, take-append-le}
use native.Mathlib.Omega.{arith}
use Rattle.b1_model.specs.declared.answers.Answer.{Answer}
use Rattle.b1_model.specs.declared.answers.Answer.TheVariants as ans
use Rattle.b1_model.specs.declared.commands.Command.{Command}
use Rattle.b1_model.specs.declared.naming.Key.{Key}
use Rattle.b1_model.specs.declared.naming.NodeRef.{NodeRef}
use Rattle.b1_model.specs.declared.naming.Wire.{Wire}
use Rattle.b1_model.specs.declared.records.Call.{Call}
use Rattle.b1_model.specs.declared.records.Record.{Record}
use Rattle.b1_model.specs.Names.{is_own, Name, wired, calls_of, made_in, made}
use Rattle.b1_model.specs.Ledger.{Table, named, table, Destruction, destroy_numbers, destruction_by, add_destruction, destructions_before, destructions_of}
use Rattle.b1_step.specs.Rights.{Has}
use Rattle.b1_step.proofs.Lists.{has_at}
use Rattle.b1_ledger.proofs.Sequences.{slice_get-append_lt}
use Rattle.b1_inv_record.specs.Epochs.{is_ref, doom_from, doom_key}
use Rattle.b1_inv_record.specs.Numbers.{names_own, is_destroy}

-- ---- what a destruction names by own numbers is by no table

same_named : (p : ℕ) (known : List Name) (t u : Table) (numbers : List ℕ) → list_all is_own numbers ≡ true → map (named p known t) numbers ≡ map (named p known u) numbers
same_named p known t u [] own = refl
same_named p known t u (n ∷ rest) own =
    let k = and_parts (is_own n) (list_all is_own rest) own in
    rw (k.0, same_named p known t u rest k.1) refl

same_by : (p : ℕ) (known : List Name) (t u : Table) (earlier : List Destruction) (c : Command) (a : Answer) → (is_destroy a ≡ true → names_own c ≡ true) → destruction_by p known t earlier c a ≡ destruction_by p known u earlier c a
same_by p known t u earlier c (ans.Destroyed stamp) own = ap (λ nodes. record { stamp = stamp; origin = p; nodes = nodes } ∷ []) (same_named p known t u (destroy_numbers c) (own refl))
same_by p known t u earlier c (ans.Reset (Some stamp)) own = refl
same_by p known t u earlier c (ans.Reset None) own = refl
same_by p known t u earlier c a own = refl

-- the calls that destroyed name own numbers alone
abbrev pub AllOwn : List Call → Type 0
AllOwn calls = (c : Call) → Has calls c → is_destroy c.answer ≡ true → names_own c.command ≡ true

same_add : (p : ℕ) (known : List Name) (t u : Table) (c : Option Call) (earlier : List Destruction) → ((d : Call) → c ≡ Some d → is_destroy d.answer ≡ true → names_own d.command ≡ true) → add_destruction p known t c earlier ≡ add_destruction p known u c earlier
same_add p known t u None earlier own = refl
same_add p known t u (Some d) earlier own = ap (λ ds. earlier ++ ds) (same_by p known t u earlier d.command d.answer (own d refl))

module _ (ws : List Wire) (r t : Record) (p : ℕ) (more : List Call) (grows : calls_of t p ≡ calls_of r p ++ more) (own : AllOwn (calls_of r p)) where
  same_made : (k : ℕ) → suc k ≤ length (calls_of r p) → made ws t p k ≡ made ws r p k
  same_made k low = ap (λ calls. made_in 0 (wired ws p) (take (suc k) calls)) grows ∙ ap (made_in 0 (wired ws p)) (take-append-le (suc k) (calls_of r p) more low)

  same_call : (k : ℕ) → k < length (calls_of r p) → slice_get (calls_of t p) k ≡ slice_get (calls_of r p) k
  same_call k low = ap (λ calls. slice_get calls k) grows ∙ slice_get-append_lt (calls_of r p) more k low

  -- the destructions before a call that was there
  pub same_before : (k : ℕ) → k ≤ length (calls_of r p) → destructions_before ws t p k ≡ destructions_before ws r p k
  same_before zero low = refl
  same_before (suc k) low =
      ap (λ known. add_destruction p known (table ws t p k) (slice_get (calls_of t p) k) (destructions_before ws t p k)) (same_made k low)
      ∙ ap (λ c. add_destruction p (made ws r p k) (table ws t p k) c (destructions_before ws t p k)) (same_call k (omega (arith, low)))
      ∙ ap (add_destruction p (made ws r p k) (table ws t p k) (slice_get (calls_of r p) k)) (same_before k (omega (arith, low)))
      ∙ same_add p (made ws r p k) (table ws t p k) (table ws r p k) (slice_get (calls_of r p) k) (destructions_before ws r p k) (λ d is. own d (has_at (calls_of r p) k d is))

  -- some destructions, and maybe more behind them
  abbrev MoreDooms : List Destruction → List Destruction → Type 0
  MoreDooms old new = (new_ones : List Destruction) × (new ≡ old ++ new_ones)

  add_more : (known : List Name) (b : Table) (c : Option Call) (old earlier : List Destruction) → MoreDooms old earlier → MoreDooms old (add_destruction p known b c earlier)
  add_more known b None old earlier h = h
  add_more known b (Some d) old earlier (new_ones, same) = (new_ones ++ destruction_by p known b earlier d.command d.answer, ap (λ ds. ds ++ destruction_by p known b earlier d.command d.answer) same ∙ append_assoc old new_ones (destruction_by p known b earlier d.command d.answer))

  more_before : (n k m : ℕ) → m ≡ k + n → MoreDooms (destructions_before ws t p n) (destructions_before ws t p m)
  more_before n zero m is = let same : n ≡ m = omega (arith, is) in subst (λ i. MoreDooms (destructions_before ws t p n) (destructions_before ws t p i)) same ([], sym (append-nil (destructions_before ws t p n)))
  more_before n (suc k) zero is = absurd (omega (arith, is))
  more_before n (suc k) (suc m) is = add_more (made ws t p m) (table ws t p m) (slice_get (calls_of t p) m) (destructions_before ws t p n) (destructions_before ws t p m) (more_before n k m (omega (arith, is)))

  pub dooms_grow : MoreDooms (destructions_of ws r p) (destructions_of ws t p)
  dooms_grow =
      let len = ap length grows in
      let sum = length-append (calls_of r p) more in
      let whole : length (calls_of t p) ≡ length more + length (calls_of r p) = omega (arith, len, sum) in
      subst (λ ds. MoreDooms ds (destructions_of ws t p)) (same_before (length (calls_of r p)) (omega arith))
      (more_before (length (calls_of r p)) (length more) (length (calls_of t p)) whole)

-- ---- a node's key stays

doom_stays : (node : NodeRef) (ds es : List Destruction) (key : Key) → doom_from node ds ≡ Some key → doom_from node (ds ++ es) ≡ Some key
doom_stays node [] es key is = absurd (cc is)
doom_stays node (d ∷ rest) es key is = by (position (is_ref node) d.nodes) (doom_stays node rest es key) is
  where
    by : (i : Option ℕ) → (doom_from node rest ≡ Some key → doom_from node (rest ++ es) ≡ Some key)
        → elim i [ Some j ↦ Some (record { stamp = d.stamp; origin = d.origin; index = j }) | None ↦ doom_from node rest ] ≡ Some key
        → elim i [ Some j ↦ Some (record { stamp = d.stamp; origin = d.origin; index = j }) | None ↦ doom_from node (rest ++ es) ] ≡ Some key
    by (Some j) further here = here
    by None further here = further here

pub doom_key_stays : (ws : List Wire) (r t : Record) (node : NodeRef) (key : Key) (more : List Call) → calls_of t node.owner ≡ calls_of r node.owner ++ more → AllOwn (calls_of r node.owner) → doom_key ws r node ≡ Some key → doom_key ws t node ≡ Some key
doom_key_stays ws r t node key more grows own is =
    let ds = dooms_grow ws r t node.owner more grows own in
    ap (doom_from node) ds.1 ∙ doom_stays node (destructions_of ws r node.owner) ds.0 key is
