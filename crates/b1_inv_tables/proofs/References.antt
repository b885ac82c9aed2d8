-- A reference comes to a part, or is given up there: its table and its records change alike.
use Rattle.std.proofs.Common.{◌≡◌, ◌⊎◌, refl, sym, ap, subst, ◌∙◌, inl, inr, ℕ, zero, suc, pred, ◌+◌, ◌-◌, ◌*◌, ◌%◌, ◌≤◌, ◌==◌, nat_lt, Bool, true, false, cond, [], ◌∷◌, ◌++◌, find, Option, Some, None}
use Rattle.std.specs.Prelude.{unwrap_or}
use Rattle.std.proofs.lemmas.Bool.{eq-eqb, ne_eqb, lt-ltb, ltb-true, ltb-false}
use native.Mathlib.Omega.{arith}
use Rattle.b1_model.specs.declared.naming.NodeRef.{NodeRef}
use Rattle.b1_model.specs.Names.{Node, is_given}
use Rattle.b1_model.specs.Ledger.{Line, Table, line_number, has_line, raised, lowered, received, given_number}
use Rattle.b1_model.specs.MachineParts.{HandleRecord, same_ref, record_of}
use Rattle.b1_model.specs.MachineTables.{changed, less_flight, less_held, more_held, next_number, is_number, held_node}
use Rattle.b1_step.specs.Rights.{Has}
use Rattle.b1_step.specs.Ordered.{Rising}
use Rattle.b1_step.proofs.Lists.{has_append, has_left, has_right}
use Rattle.b1_step.proofs.Orders.{same_ref_is, same_ref_itself}
use Rattle.b1_inv.specs.Numbers.{AreNumbered, WasGiven}
use Rattle.b1_inv_record.specs.Epochs.{ref_of}
use Rattle.b1_inv_record.specs.Names.{IsLineOf}
use Rattle.b1_inv_refs.proofs.Views.{Handles}
use Rattle.b1_inv_refs.proofs.Numbered.{given_then}
use Rattle.b1_inv_refs.proofs.GivenUp.{one_record, found_has, number_is, record_found}
use Rattle.b1_inv_tables.proofs.Lines.{is_ref_of, has_line_of, has_line_none, more, less, raised_is, raised_other, raised_own, raised_apart, added_apart, lowered_is, lowered_more, lowered_other, lowered_own, lowered_apart}
use Rattle.b1_inv_tables.proofs.Agrees.{IsTable, other_or, other_stays, own_stays, found_there, line_of_number, no_line, line_found, line_given}

-- a number that was given, and the next one, are given numbers by their form
pub next_is_given : (count : ℕ) → is_given (next_number count) ≡ true
next_is_given count = let e : (2 + 4 * count) % 4 ≡ 2 = omega arith in eq-eqb ((2 + 4 * count) % 4) 2 e

-- so are the numbers that were given
pub was_is_given : (count n : ℕ) → WasGiven count n → is_given n ≡ true
was_is_given count n (g, low, same) = ap is_given same ∙ next_is_given g

-- a given number without a line makes one
pub received_new : (n : ℕ) (x : Option Node) (t : Table) → is_given n ≡ true → has_line n t.lines ≡ false → received n x t ≡ record { lines = t.lines ++ record { number = n; node = x; held = 1 } ∷ []; given = suc t.given }
received_new n x t given new = rw (given, new) refl

-- a given number with a line raises it
pub received_more : (n : ℕ) (x : Option Node) (t : Table) → is_given n ≡ true → has_line n t.lines ≡ true → received n x t ≡ record { lines = raised n t.lines; given = t.given }
received_more n x t given there = rw (given, there) refl

-- one less of a number
one_fewer : (n : ℕ) → n - 1 ≡ pred n
one_fewer zero = omega arith
one_fewer (suc n) = omega arith

module _ (t : Table) (count : ℕ) (hs : Handles) (up : Rising hs) (all : AreNumbered count hs) (k : IsTable t count hs) where
  -- ---- a reference to a node comes

  module _ (x : Node) (h : HandleRecord) (found : record_of (ref_of x) hs ≡ Some h) where
    -- the change of the record
    abbrev pub come : HandleRecord → HandleRecord
    come g = more_held (next_number count) (less_flight g)

    -- the node as the machine has it
    abbrev node : NodeRef
    node = ref_of x

    -- the record is there
    there : Has hs h
    there = (found_there node come (λ g. refl) hs up h found).0

    -- it is of the node
    node_is : h.node ≡ node
    node_is = (found_there node come (λ g. refl) hs up h found).1

    -- the number by which the record hands the node
    pub number_of_slot : given_number t.given (line_number x t.lines) ≡ unwrap_or h.number (next_number count)
    number_of_slot = by h.number refl
      where
        by : (z : Option ℕ) → h.number ≡ z → given_number t.given (line_number x t.lines) ≡ unwrap_or z (next_number count)
        by None is = ap (given_number t.given) (no_line t count hs up all k x h there (sym node_is) is) ∙ ap next_number (sym k.given)
        by (Some n) is = ap (given_number t.given) (line_found t count hs up all k x h n there (sym node_is) is)

    -- another record than the node's
    apart_of : (g : HandleRecord) → Has hs g → (g ≡ h → ⊥) → same_ref node g.node ≡ false
    apart_of g has other = by (same_ref node g.node) refl
      where
        by : (b : Bool) → same_ref node g.node ≡ b → b ≡ false
        by false is = refl
        by true is = absurd (other (one_record hs g h up has there (sym (same_ref_is node g.node is) ∙ sym node_is)))

    -- the record that is found is this one
    is_found : (g : HandleRecord) → record_of node hs ≡ Some g → g ≡ h
    is_found g is = let both : Some g ≡ Some h = sym is ∙ found in cc both

    -- it stays, held once more
    come_stays : Has (changed node come hs) (come h)
    come_stays = own_stays node come (λ g. refl) hs up h found (let e : nat_lt 0 (h.held + 1) ≡ true = lt-ltb 0 (h.held + 1) (omega arith) in rw e refl)

    -- under a new number
    module _ (none : h.number ≡ None) where
      -- it was not held
      unheld : h.held ≡ 0
      unheld = all.unheld h there none

      -- the line that comes
      abbrev new_line : Line
      new_line = record { number = next_number count; node = Some x; held = 1 }

      -- its number is new
      is_new : (l : Line) → Has t.lines l → l.number ≡ next_number count → ⊥
      is_new l has same = let g = line_given t count hs up all k l has in let low = g.1 in let is = g.2 in absurd (omega (arith, low, is, same))

      -- it is the line of the record
      new_of : IsLineOf (come h) new_line
      new_of = (ap (λ n. cond (n == 0) (Some (next_number count)) h.number) unheld, ap (λ n. n + 1) unheld, is_ref_of h.node (Some x) (ap Some (sym node_is)))

      -- no other line is the record's
      other_record : (l : Line) (g : HandleRecord) → IsLineOf g l → g ≡ h → ⊥
      other_record l g of same = let both : Some l.number ≡ None = sym of.0 ∙ ap (λ z. z.number) same ∙ none in absurd (cc both)

      -- the table with the line
      come_new : IsTable (record { lines = t.lines ++ new_line ∷ []; given = suc t.given }) (given_then count h.held) (changed node come hs)
      come_new = record {
        given = let one : given_then count h.held ≡ count + 1 = ap (given_then count) unheld in let two = k.given in omega (arith, one, two);
        apart = added_apart t.lines new_line k.apart is_new;
        lines = λ l has. elim (has_append t.lines (new_line ∷ []) l has) [
          | inl old ↦ let f = k.lines l old in (f.0, other_stays node come (λ g. refl) hs up f.0 f.1 (apart_of f.0 f.1 (other_record l f.0 f.2)), f.2)
          | inr (inl is) ↦ (come h, come_stays, subst (IsLineOf (come h)) (sym is) new_of)
          | inr (inr nothing) ↦ absurd nothing
        ];
        records = λ g number has is. elim (other_or node come (λ z. refl) hs up g has) [
          | inl old ↦ let f = k.records g number old.0 is in (f.0, has_left t.lines (new_line ∷ []) f.0 f.1, f.2)
          | inr (z, at, same) ↦ (new_line, has_right t.lines (new_line ∷ []) new_line (inl refl), subst (λ w. IsLineOf w new_line) (sym (same ∙ ap come (is_found z at))) new_of)
        ];
      }

    -- under the number that it has
    module _ (n : ℕ) (is_n : h.number ≡ Some n) where
      -- it was held
      held_some : 1 ≤ h.held
      held_some = (all.held h n there is_n).0

      -- so its number stays
      not_none : (h.held == 0) ≡ false
      not_none = ne_eqb h.held 0 (λ e. let some = held_some in absurd (omega (arith, some, e)))

      -- its line is held once more
      more_of : (l : Line) → IsLineOf h l → IsLineOf (come h) (more l)
      more_of l of = (ap (λ b. cond b (Some (next_number count)) h.number) not_none ∙ of.0, (let one = of.1 in omega (arith, one)), of.2)

      -- a line with another number is not the record's
      other_number : (l : Line) (g : HandleRecord) → IsLineOf g l → (l.number ≡ n → ⊥) → g ≡ h → ⊥
      other_number l g of apart same = let both : Some l.number ≡ Some n = sym of.0 ∙ ap (λ z. z.number) same ∙ is_n in apart (cc both)

      -- the table with the line held once more
      come_more : IsTable (record { lines = raised n t.lines; given = t.given }) (given_then count h.held) (changed node come hs)
      come_more = record {
        given = ap (λ b. cond b (count + 1) count) not_none ∙ k.given;
        apart = raised_apart n t.lines k.apart;
        lines = λ l has. elim (raised_is n t.lines l k.apart has) [
          | inl other ↦ let f = k.lines l other.0 in (f.0, other_stays node come (λ g. refl) hs up f.0 f.1 (apart_of f.0 f.1 (other_number l f.0 f.2 other.1)), f.2)
          | inr (m, was, number, same) ↦ (come h, come_stays, subst (IsLineOf (come h)) (sym same) (more_of m (line_of_number t count hs up all k m h was there (is_n ∙ ap Some (sym number)))))
        ];
        records = λ g number has is. elim (other_or node come (λ z. refl) hs up g has) [
          | inl old ↦ let f = k.records g number old.0 is in (f.0, raised_other n t.lines f.0 f.1 (λ same. other_node g old.0 old.1 (f.2.0 ∙ ap Some same)), f.2)
          | inr (z, at, same) ↦ let f = k.records h n there is_n in (more f.0, raised_own n t.lines f.0 k.apart f.1 (number_of_line f.0 f.2), subst (λ w. IsLineOf w (more f.0)) (sym (same ∙ ap come (is_found z at))) (more_of f.0 f.2))
        ];
      }
        where
          other_node : (g : HandleRecord) → Has hs g → same_ref node g.node ≡ false → g.number ≡ Some n → ⊥
          other_node g has apart is =
              let same : node ≡ g.node = sym node_is ∙ all.apart h g n there has is_n is in
              let both : true ≡ false = sym (same_ref_itself node) ∙ ap (same_ref node) same ∙ apart in absurd (cc both)

          number_of_line : (l : Line) → IsLineOf h l → l.number ≡ n
          number_of_line l of = let both : Some l.number ≡ Some n = sym of.0 ∙ is_n in cc both

    -- the table after the reference came
    pub come_table : IsTable (received (unwrap_or h.number (next_number count)) (Some x) t) (given_then count h.held) (changed (ref_of x) come hs)
    come_table = by h.number refl
      where
        by : (z : Option ℕ) → h.number ≡ z → IsTable (received (unwrap_or z (next_number count)) (Some x) t) (given_then count h.held) (changed (ref_of x) come hs)
        by None is = subst (λ u. IsTable u (given_then count h.held) (changed (ref_of x) come hs)) (sym (received_new (next_number count) (Some x) t (next_is_given count) (has_line_none (next_number count) t.lines (is_new is)))) (come_new is)
        by (Some n) is =
            let f = k.records h n there is in
            let same : f.0.number ≡ n = (let both : Some f.0.number ≡ Some n = sym f.2.0 ∙ is in cc both) in
            subst (λ u. IsTable u (given_then count h.held) (changed (ref_of x) come hs)) (sym (received_more n (Some x) t (was_is_given count n (all.held h n there is).1) (has_line_of n t.lines f.0 f.1 same))) (come_more n is)

  -- ---- a reference to a node is given up

  module _ (node : NodeRef) (h : HandleRecord) (found : record_of node hs ≡ Some h) (n : ℕ) (is_n : h.number ≡ Some n) where
    -- the record is there
    had : Has hs h
    had = (found_there node less_held (λ g. refl) hs up h found).0

    -- it is of the node
    of_node : h.node ≡ node
    of_node = (found_there node less_held (λ g. refl) hs up h found).1

    -- its line
    line_at : (l : Line) × Has t.lines l × IsLineOf h l
    line_at = k.records h n had is_n

    -- its line has its number
    line_n : (l : Line) → IsLineOf h l → l.number ≡ n
    line_n l of = let both : Some l.number ≡ Some n = sym of.0 ∙ is_n in cc both

    -- where it was held more than once
    still : (l : Line) → IsLineOf h l → nat_lt 1 h.held ≡ true → IsLineOf (less_held h) (less l)
    still l of many = (ap (λ b. cond b h.number None) many ∙ of.0, ap (λ m. m - 1) of.1 ∙ one_fewer l.held, of.2)

    -- it stays where it was held more than once
    less_there : nat_lt 1 h.held ≡ true → Has (changed node less_held hs) (less_held h)
    less_there many = own_stays node less_held (λ g. refl) hs up h found (let low = ltb-true 1 h.held many in let e : nat_lt 0 (h.held - 1) ≡ true = lt-ltb 0 (h.held - 1) (omega (arith, low)) in rw e refl)

    -- its line was held more than once then
    not_once : (l : Line) → IsLineOf h l → nat_lt 1 h.held ≡ true → (l.held == 1) ≡ false
    not_once l of many = ne_eqb l.held 1 (λ e. let low = ltb-true 1 h.held many in let one = of.1 in absurd (omega (arith, low, one, e)))

    -- or once
    only_once : (l : Line) → IsLineOf h l → nat_lt 1 h.held ≡ false → (l.held == 1) ≡ true
    only_once l of few = let high = ltb-false 1 h.held few in let some = (all.held h n had is_n).0 in let one = of.1 in eq-eqb l.held 1 (omega (arith, high, some, one))

    -- another record is of another node
    another : (g : HandleRecord) → Has hs g → (g ≡ h → ⊥) → same_ref node g.node ≡ false
    another g has other = by (same_ref node g.node) refl
      where
        by : (b : Bool) → same_ref node g.node ≡ b → b ≡ false
        by false is = refl
        by true is = absurd (other (one_record hs g h up has had (sym (same_ref_is node g.node is) ∙ sym of_node)))

    -- each line then is of a record
    line_stays : (l : Line) → Has (lowered n t.lines) l → (Has t.lines l × (l.number ≡ n → ⊥)) ⊎ ((m : Line) × Has t.lines m × (m.number ≡ n) × (l ≡ less m)) → (g : HandleRecord) × Has (changed node less_held hs) g × IsLineOf g l
    line_stays l has (inl (was, apart)) =
        let f = k.lines l was in
        (f.0, other_stays node less_held (λ g. refl) hs up f.0 f.1 (another f.0 f.1 (λ same. apart (let both : Some l.number ≡ Some n = sym f.2.0 ∙ ap (λ z. z.number) same ∙ is_n in cc both))), f.2)
    line_stays l has (inr (m, was, number, same)) = by (nat_lt 1 h.held) refl
      where
        of : IsLineOf h m
        of = line_of_number t count hs up all k m h was had (is_n ∙ ap Some (sym number))

        by : (b : Bool) → nat_lt 1 h.held ≡ b → (g : HandleRecord) × Has (changed node less_held hs) g × IsLineOf g l
        by true many = (less_held h, less_there many, subst (IsLineOf (less_held h)) (sym same) (still m of many))
        by false few = absurd (lowered_more n t.lines l m k.apart was number (only_once m of few) has (ap (λ z. z.number) same ∙ number))

    -- each numbered record then has its line
    record_stays : (g : HandleRecord) (number : ℕ) → g.number ≡ Some number → (Has hs g × (same_ref node g.node ≡ false)) ⊎ ((z : HandleRecord) × (record_of node hs ≡ Some z) × (g ≡ less_held z)) → (l : Line) × Has (lowered n t.lines) l × IsLineOf g l
    record_stays g number is (inl (was, apart)) =
        let f = k.records g number was is in (
          f.0,
          lowered_other n t.lines f.0 f.1 (λ same.
              let node_same : node ≡ g.node = sym of_node ∙ all.apart h g n had was is_n (f.2.0 ∙ ap Some same) in
              let both : true ≡ false = sym (same_ref_itself node) ∙ ap (same_ref node) node_same ∙ apart in
              absurd (cc both)),
          f.2,
        )
    record_stays g number is (inr (z, at, same)) = by (nat_lt 1 h.held) refl
      where
        is_h : g ≡ less_held h
        is_h = same ∙ ap less_held (let both : Some z ≡ Some h = sym at ∙ found in let e : z ≡ h = cc both in e)

        by : (b : Bool) → nat_lt 1 h.held ≡ b → (l : Line) × Has (lowered n t.lines) l × IsLineOf g l
        by true many = (less line_at.0, lowered_own n t.lines line_at.0 k.apart line_at.1 (line_n line_at.0 line_at.2) (not_once line_at.0 line_at.2 many), subst (λ w. IsLineOf w (less line_at.0)) (sym is_h) (still line_at.0 line_at.2 many))
        by false few =
            let both : Some number ≡ None = sym is ∙ ap (λ w. w.number) is_h ∙ ap (λ b. cond b h.number None) few in
            absurd (cc both)

    -- the table after the reference was given up
    pub less_table : IsTable (record { lines = lowered n t.lines; given = t.given }) count (changed node less_held hs)
    less_table = record {
      given = k.given;
      apart = lowered_apart n t.lines k.apart;
      lines = λ l has. line_stays l has (lowered_is n t.lines l k.apart has);
      records = λ g number has is. record_stays g number is (other_or node less_held (λ z. refl) hs up g has);
    }

  -- what a held number names is given up
  pub release_table : (n : ℕ) (node : NodeRef) → held_node n hs ≡ Some node → IsTable (record { lines = lowered n t.lines; given = t.given }) count (changed node less_held hs)
  release_table n node is = by (find (is_number n) hs) refl is
    where
      by : (z : Option HandleRecord) → find (is_number n) hs ≡ z → elim z [ None ↦ None | Some h ↦ Some h.node ] ≡ Some node → IsTable (record { lines = lowered n t.lines; given = t.given }) count (changed node less_held hs)
      by None at here = absurd (cc here)
      by (Some h) at here =
          let f = found_has (is_number n) hs h at in
          let same : h.node ≡ node = cc here in
          less_table node h (ap (λ m. record_of m hs) (sym same) ∙ record_found hs h up f.0) n (number_is n h f.1)
