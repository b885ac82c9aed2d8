-- A wire gives a reference: the table and the records of its holder change alike.
use Rattle.std.proofs.Common.{◌≡◌, ◌⊎◌, refl, sym, ap, subst, ◌∙◌, inl, inr, ℕ, suc, ◌+◌, ◌==◌, Bool, true, false, cond, [], ◌∷◌, ◌++◌, Option, Some, None}
use Rattle.std.proofs.lemmas.Bool.{ne_eqb}
use native.Mathlib.Omega.{arith}
use Rattle.b1_model.specs.declared.naming.NodeRef.{NodeRef}
use Rattle.b1_model.specs.Names.{Node}
use Rattle.b1_model.specs.Ledger.{Line, Table, line_number, raised, received, given_number, handed}
use Rattle.b1_model.specs.MachineParts.{HandleRecord, same_ref, record_of, record_or_none}
use Rattle.b1_model.specs.MachineTables.{changed_or_made, more_held, next_number}
use Rattle.b1_step.specs.Rights.{Has}
use Rattle.b1_step.specs.Ordered.{Rising}
use Rattle.b1_step.proofs.Lists.{has_append, has_left, has_right}
use Rattle.b1_step.proofs.Orders.{same_ref_is, same_ref_itself}
use Rattle.b1_step.proofs.Lookups.{rising_made, other_made}
use Rattle.b1_inv.specs.Numbers.{AreNumbered}
use Rattle.b1_inv_record.specs.Epochs.{ref_of}
use Rattle.b1_inv_record.specs.Names.{IsLineOf}
use Rattle.b1_inv_refs.proofs.Views.{Handles, or_none}
use Rattle.b1_inv_refs.proofs.Numbered.{given_then}
use Rattle.b1_inv_refs.proofs.GivenUp.{record_found, one_record, found_has}
use Rattle.b1_inv_refs.proofs.Wired.{made_there, made_is}
use Rattle.b1_inv_tables.proofs.Lines.{ref_is, is_ref_of, node_is, has_line_of, has_line_none, line_number_none, more, raised_is, raised_other, raised_own, raised_apart, added_apart}
use Rattle.b1_inv_tables.proofs.Agrees.{IsTable, line_of_number, line_found, line_given}
use Rattle.b1_inv_tables.proofs.References.{next_is_given, was_is_given, received_new, received_more}

module _ (t : Table) (count : ℕ) (hs : Handles) (up : Rising hs) (all : AreNumbered count hs) (k : IsTable t count hs) (x : Node) where
  -- the node as the machine has it
  abbrev node : NodeRef
  node = ref_of x

  -- the record, or what stands in its place
  abbrev was : HandleRecord
  was = record_or_none node hs

  -- the change of the record
  abbrev give : HandleRecord → HandleRecord
  give = more_held (next_number count)

  -- the records then
  abbrev new : Handles
  new = changed_or_made node give hs

  -- the record is of the node
  was_node : was.node ≡ node
  was_node = by (record_of node hs) refl
    where
      by : (z : Option HandleRecord) → record_of node hs ≡ z → (or_none node z).node ≡ node
      by None at = refl
      by (Some h) at = same_ref_is h.node node (found_has (λ g. same_ref g.node node) hs h at).1

  -- a record of the node is that one
  is_was : (g : HandleRecord) → Has hs g → g.node ≡ node → g ≡ was
  is_was g there same = ap (or_none node) (sym (record_found hs g up there) ∙ ap (λ n. record_of n hs) same)

  -- one that has a number stands there
  was_there : (n : ℕ) → was.number ≡ Some n → Has hs was
  was_there n is = by (record_of node hs) refl is
    where
      by : (z : Option HandleRecord) → record_of node hs ≡ z → (or_none node z).number ≡ Some n → Has hs (or_none node z)
      by None at none = absurd (cc none)
      by (Some h) at some = (found_has (λ g. same_ref g.node node) hs h at).0

  -- one without a number is not held
  was_unheld : was.number ≡ None → was.held ≡ 0
  was_unheld none = by (record_of node hs) refl none
    where
      by : (z : Option HandleRecord) → record_of node hs ≡ z → (or_none node z).number ≡ None → (or_none node z).held ≡ 0
      by None at is = refl
      by (Some h) at is = all.unheld h (found_has (λ g. same_ref g.node node) hs h at).0 is

  -- the record that is given is there
  gives : Has new (give was)
  gives = made_there node give (λ h. refl) hs up

  -- a record then is another one as before, or the one that is given
  then_or : (g : HandleRecord) → Has new g → (Has hs g × (same_ref node g.node ≡ false)) ⊎ (g ≡ give was)
  then_or g there = by (same_ref node g.node) refl
    where
      by : (b : Bool) → same_ref node g.node ≡ b → (Has hs g × (same_ref node g.node ≡ false)) ⊎ (g ≡ give was)
      by true is = inr (one_record new g (give was) (rising_made node give (λ h. refl) hs up) there gives (sym (same_ref_is node g.node is) ∙ sym was_node))
      by false is = elim (made_is node give (λ h. refl) hs up g there) [
        | inl old ↦ inl (old, is)
        | inr same ↦ let both : true ≡ false = sym (same_ref_itself node) ∙ ap (same_ref node) (sym was_node ∙ sym (ap (λ z. z.node) same)) ∙ is in absurd (cc both)
      ]

  -- another record stays
  old_stays : (g : HandleRecord) → Has hs g → same_ref node g.node ≡ false → Has new g
  old_stays g there apart = (found_has (λ h. same_ref h.node g.node) new g (other_made node give (λ h. refl) g.node apart hs ∙ record_found hs g up there)).0

  -- another record is of another node
  other_node : (g : HandleRecord) → Has hs g → (g ≡ was → ⊥) → same_ref node g.node ≡ false
  other_node g there other = by (same_ref node g.node) refl
    where
      by : (b : Bool) → same_ref node g.node ≡ b → b ≡ false
      by false is = refl
      by true is = absurd (other (is_was g there (sym (same_ref_is node g.node is))))

  -- ---- under a new number

  module _ (none : was.number ≡ None) where
    -- the line that comes
    abbrev new_line : Line
    new_line = record { number = next_number count; node = Some x; held = 1 }

    -- the node had no line
    no_lines : line_number x t.lines ≡ None
    no_lines = line_number_none x t.lines (λ l there is.
        let f = k.lines l there in
        let both : Some f.0.node ≡ Some node = sym (ref_is f.0.node l.node f.2.2) ∙ node_is x l.node is in
        let same : f.0.node ≡ node = cc both in
        let number : Some l.number ≡ None = sym f.2.0 ∙ ap (λ z. z.number) (is_was f.0 f.1 same) ∙ none in
        absurd (cc number))

    -- its number is new
    is_new : (l : Line) → Has t.lines l → l.number ≡ next_number count → ⊥
    is_new l there same = let g = line_given t count hs up all k l there in let low = g.1 in let is = g.2 in absurd (omega (arith, low, is, same))

    -- it is the line of the record that is given
    new_of : IsLineOf (give was) new_line
    new_of = (ap (λ n. cond (n == 0) (Some (next_number count)) was.number) (was_unheld none), ap (λ n. n + 1) (was_unheld none), is_ref_of was.node (Some x) (ap Some (sym was_node)))

    -- no other line is the record's
    other_record : (l : Line) (g : HandleRecord) → IsLineOf g l → g ≡ was → ⊥
    other_record l g of same = let both : Some l.number ≡ None = sym of.0 ∙ ap (λ z. z.number) same ∙ none in absurd (cc both)

    -- the table with the line
    table_new : IsTable (record { lines = t.lines ++ new_line ∷ []; given = suc t.given }) (given_then count was.held) new
    table_new = record {
      given = let one : given_then count was.held ≡ count + 1 = ap (given_then count) (was_unheld none) in let two = k.given in omega (arith, one, two);
      apart = added_apart t.lines new_line k.apart is_new;
      lines = λ l has. elim (has_append t.lines (new_line ∷ []) l has) [
        | inl old ↦ let f = k.lines l old in (f.0, old_stays f.0 f.1 (other_node f.0 f.1 (other_record l f.0 f.2)), f.2)
        | inr (inl is) ↦ (give was, gives, subst (IsLineOf (give was)) (sym is) new_of)
        | inr (inr nothing) ↦ absurd nothing
      ];
      records = λ g number has is. elim (then_or g has) [
        | inl old ↦ let f = k.records g number old.0 is in (f.0, has_left t.lines (new_line ∷ []) f.0 f.1, f.2)
        | inr same ↦ (new_line, has_right t.lines (new_line ∷ []) new_line (inl refl), subst (λ z. IsLineOf z new_line) (sym same) new_of)
      ];
    }

    -- the table after the node was handed
    given_new : IsTable (handed (Some x) t) (given_then count was.held) new
    given_new =
        let number : given_number t.given (line_number x t.lines) ≡ next_number count = ap (given_number t.given) no_lines ∙ ap next_number (sym k.given) in
        subst (λ u. IsTable u (given_then count was.held) new) (sym (ap (λ n. received n (Some x) t) number ∙ received_new (next_number count) (Some x) t (next_is_given count) (has_line_none (next_number count) t.lines is_new))) table_new

  -- ---- under the number that it has

  module _ (n : ℕ) (is_n : was.number ≡ Some n) where
    -- the record is there
    there : Has hs was
    there = was_there n is_n

    -- it was held
    not_none : (was.held == 0) ≡ false
    not_none = ne_eqb was.held 0 (λ e. let some = (all.held was n there is_n).0 in absurd (omega (arith, some, e)))

    -- its line is held once more
    more_of : (l : Line) → IsLineOf was l → IsLineOf (give was) (more l)
    more_of l of = (ap (λ b. cond b (Some (next_number count)) was.number) not_none ∙ of.0, (let one = of.1 in omega (arith, one)), of.2)

    -- its line has its number
    number_of_line : (l : Line) → IsLineOf was l → l.number ≡ n
    number_of_line l of = let both : Some l.number ≡ Some n = sym of.0 ∙ is_n in cc both

    -- a line with another number is not the record's
    other_number : (l : Line) (g : HandleRecord) → IsLineOf g l → (l.number ≡ n → ⊥) → g ≡ was → ⊥
    other_number l g of apart same = let both : Some l.number ≡ Some n = sym of.0 ∙ ap (λ z. z.number) same ∙ is_n in apart (cc both)

    -- a record of another node has another number
    another : (g : HandleRecord) → Has hs g → same_ref node g.node ≡ false → g.number ≡ Some n → ⊥
    another g has apart is =
        let same : node ≡ g.node = sym was_node ∙ all.apart was g n there has is_n is in
        let both : true ≡ false = sym (same_ref_itself node) ∙ ap (same_ref node) same ∙ apart in absurd (cc both)

    -- the table with the line held once more
    table_more : IsTable (record { lines = raised n t.lines; given = t.given }) (given_then count was.held) new
    table_more = record {
      given = ap (λ b. cond b (count + 1) count) not_none ∙ k.given;
      apart = raised_apart n t.lines k.apart;
      lines = λ l has. elim (raised_is n t.lines l k.apart has) [
        | inl other ↦ let f = k.lines l other.0 in (f.0, old_stays f.0 f.1 (other_node f.0 f.1 (other_number l f.0 f.2 other.1)), f.2)
        | inr (m, had, number, same) ↦ (give was, gives, subst (IsLineOf (give was)) (sym same) (more_of m (line_of_number t count hs up all k m was had there (is_n ∙ ap Some (sym number)))))
      ];
      records = λ g number has is. elim (then_or g has) [
        | inl old ↦ let f = k.records g number old.0 is in (f.0, raised_other n t.lines f.0 f.1 (λ same. another g old.0 old.1 (f.2.0 ∙ ap Some same)), f.2)
        | inr same ↦ let f = k.records was n there is_n in (more f.0, raised_own n t.lines f.0 k.apart f.1 (number_of_line f.0 f.2), subst (λ z. IsLineOf z (more f.0)) (sym same) (more_of f.0 f.2))
      ];
    }

    -- the table after the node was handed
    given_more : IsTable (handed (Some x) t) (given_then count was.held) new
    given_more =
        let f = k.records was n there is_n in
        let number : given_number t.given (line_number x t.lines) ≡ n = ap (given_number t.given) (line_found t count hs up all k x was n there (sym was_node) is_n) in
        subst (λ u. IsTable u (given_then count was.held) new)
        (sym (ap (λ m. received m (Some x) t) number ∙ received_more n (Some x) t (was_is_given count n (all.held was n there is_n).1) (has_line_of n t.lines f.0 f.1 (number_of_line f.0 f.2)))) table_more

  -- one more reference to the node
  pub given_table : IsTable (handed (Some x) t) (given_then count (record_or_none (ref_of x) hs).held) (changed_or_made (ref_of x) (more_held (next_number count)) hs)
  given_table = by was.number refl
    where
      by : (z : Option ℕ) → was.number ≡ z → IsTable (handed (Some x) t) (given_then count was.held) new
      by None is = given_new is
      by (Some n) is = given_more n is
