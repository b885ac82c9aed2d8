-- The epochs of nodes: a step changes none of a node that was made, and nodes of the present epoch stand behind all others.
use Rattle.std.proofs.Common.{◌≡◌, refl, sym, ap, ◌∙◌, ℕ, zero, suc, ◌≤◌, Bool, true, false, cond, ◌&&◌, not, nat_lt, List, [], ◌∷◌, ◌++◌, filter, length, map, Option, Some, None}
use Rattle.std.specs.Prelude.{slice_get, ⊤, ◌==◌}
use Rattle.std.proofs.lemmas.Bool.{le-ltb}
use native.Mathlib.Omega.{arith}
use Rattle.b1_model.specs.declared.naming.NodeRef.{NodeRef}
use Rattle.b1_model.specs.declared.naming.Wire.{Wire}
use Rattle.b1_model.specs.declared.naming.Opening.{Opening}
use Rattle.b1_model.specs.declared.records.Call.{Call}
use Rattle.b1_model.specs.Names.{Name, is_own, is_known, calls_of, wired, next_epoch, add_new, carried_by, made_in, epoch_in}
use Rattle.b1_model.specs.MachineParts.{State}
use Rattle.b1_model.specs.MachineStep.{record_of_state}
use Rattle.b1_ledger.specs.Growth.{all_names}
use Rattle.b1_ledger.proofs.Sequences.{Each}
use Rattle.b1_ledger.proofs.Made.{each-more, each-append, names_low, epoch_grows, wired_low}
use Rattle.b1_inv_record.specs.Epochs.{first_now, epoch_now, epoch_of_node}

-- ---- epochs rise along the names

-- each name's epoch is at least those before it
abbrev Rising : List Name → Type 0
Rising [] = ⊤
Rising (m ∷ ms) = Each (λ n. m.epoch ≤ n.epoch) ms × Rising ms

rising_end : (e n : ℕ) (names : List Name) → Each (λ m. m.epoch ≤ e) names → Rising names → Rising (names ++ record { number = n; epoch = e } ∷ [])
rising_end e n [] low up = (tt, tt)
rising_end e n (m ∷ ms) low up = (each-append (λ k. m.epoch ≤ k.epoch) ms (record { number = n; epoch = e } ∷ []) up.0 (low.0, tt), rising_end e n ms low.1 up.1)

low_end : (e n : ℕ) (names : List Name) → Each (λ m. m.epoch ≤ e) names → Each (λ m. m.epoch ≤ e) (names ++ record { number = n; epoch = e } ∷ [])
low_end e n names low = each-append (λ m. m.epoch ≤ e) names (record { number = n; epoch = e } ∷ []) low (omega arith, tt)

rising_new : (e : ℕ) (numbers : List ℕ) (names : List Name) → Each (λ m. m.epoch ≤ e) names → Rising names → Rising (add_new e names numbers)
rising_new e [] names low up = up
rising_new e (n ∷ rest) names low up = by (is_own n && not (is_known n names)) (rising_new e rest)
  where
    by : (b : Bool) → ((known : List Name) → Each (λ m. m.epoch ≤ e) known → Rising known → Rising (add_new e known rest)) → Rising (add_new e (cond b (names ++ record { number = n; epoch = e } ∷ []) names) rest)
    by true further = further (names ++ record { number = n; epoch = e } ∷ []) (low_end e n names low) (rising_end e n names low up)
    by false further = further names low up

rising_made : (e : ℕ) (names : List Name) (calls : List Call) → Each (λ m. m.epoch ≤ e) names → Rising names → Rising (made_in e names calls)
rising_made e names [] low up = up
rising_made e names (c ∷ rest) low up =
    let new = add_new e names (carried_by c.command c.answer) in
    rising_made (next_epoch e c.answer) new rest
    (each-more (λ m. m.epoch ≤ e) (λ m. m.epoch ≤ next_epoch e c.answer) new (λ m l. let more = epoch_grows e c.answer in omega (arith, l, more)) (names_low e names (carried_by c.command c.answer) low))
    (rising_new e (carried_by c.command c.answer) names low up)

pub names_rise : (ws : List Wire) (q : ℕ) (calls : List Call) → Rising (made_in 0 (wired ws q) calls)
names_rise ws q calls = rising_made 0 (wired ws q) calls (wired_low ws q) (rising_new 0 (map (λ w. w.number) (filter (λ w. w.from == q) ws)) [] tt tt)

none_pass : (epoch : ℕ) (names : List Name) → Each (λ m. epoch ≤ m.epoch) names → length (filter (λ m. nat_lt m.epoch epoch) names) ≡ 0
none_pass epoch [] all = refl
none_pass epoch (m ∷ ms) all = rw (le-ltb m.epoch epoch all.0) (none_pass epoch ms all.1)

-- a name whose epoch isn't below one stands behind all that are
few_before : (epoch : ℕ) (names : List Name) (i : ℕ) (m : Name) → Rising names → slice_get names i ≡ Some m → epoch ≤ m.epoch → length (filter (λ k. nat_lt k.epoch epoch) names) ≤ i
few_before epoch [] i m up at high = absurd (cc at)
few_before epoch (k ∷ ks) zero m up at high =
    let same : k ≡ m = cc at in
    let first : epoch ≤ k.epoch = let e = ap (λ z. z.epoch) same in omega (arith, e, high) in
    let none = none_pass epoch (k ∷ ks) (first, each-more (λ n. k.epoch ≤ n.epoch) (λ n. epoch ≤ n.epoch) ks (λ n l. omega (arith, first, l)) up.0) in omega (arith, none)
few_before epoch (k ∷ ks) (suc i) m up at high = by (nat_lt k.epoch epoch) (few_before epoch ks i m up.1 at high)
  where
    by : (b : Bool) → length (filter (λ n. nat_lt n.epoch epoch) ks) ≤ i → length (cond b (k ∷ filter (λ n. nat_lt n.epoch epoch) ks) (filter (λ n. nat_lt n.epoch epoch) ks)) ≤ suc i
    by true low = omega (arith, low)
    by false low = omega (arith, low)

filter_few : (test : Name → Bool) (names : List Name) → length (filter test names) ≤ length names
filter_few test [] = omega arith
filter_few test (m ∷ ms) = by (test m) (filter_few test ms)
  where
    by : (b : Bool) → length (filter test ms) ≤ length ms → length (cond b (m ∷ filter test ms) (filter test ms)) ≤ suc (length ms)
    by true low = omega (arith, low)
    by false low = omega (arith, low)

-- a node of the present epoch stands behind the nodes of earlier ones
pub present_first : (o : Opening) (s : State) (node : NodeRef) → epoch_of_node o s node ≡ epoch_now s node.owner → first_now o s node.owner ≤ node.serial
present_first o s node is = by (slice_get (all_names o.wires (record_of_state s) node.owner) node.serial) refl
  where
    by : (at : Option Name) → slice_get (all_names o.wires (record_of_state s) node.owner) node.serial ≡ at → first_now o s node.owner ≤ node.serial
    by (Some m) at =
        let epoch : m.epoch ≡ epoch_now s node.owner = ap (λ z. elim z [ None ↦ epoch_now s node.owner | Some n ↦ n.epoch ]) (sym at) ∙ is in
        few_before (epoch_now s node.owner) (all_names o.wires (record_of_state s) node.owner) node.serial m (names_rise o.wires node.owner (calls_of (record_of_state s) node.owner)) at (omega (arith, epoch))
    by None at =
        let high = past (all_names o.wires (record_of_state s) node.owner) node.serial at in
        let few = filter_few (λ m. nat_lt m.epoch (epoch_in 0 (calls_of (record_of_state s) node.owner))) (all_names o.wires (record_of_state s) node.owner) in omega (arith, high, few)
      where
        past : (names : List Name) (i : ℕ) → slice_get names i ≡ None → length names ≤ i
        past [] i none = omega arith
        past (k ∷ ks) zero none = absurd (cc none)
        past (k ∷ ks) (suc i) none = let low = past ks i none in omega (arith, low)
