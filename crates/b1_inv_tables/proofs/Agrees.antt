-- The lines of a table against the handle records of a part: what stays so where records change that aren't held, where a reference comes, and where one is given up.
use Rattle.std.proofs.Common.{◌≡◌, ◌⊎◌, refl, sym, ap, subst, ◌∙◌, inl, inr, ℕ, Bool, true, false, cond, Option, Some, None, option_map}
use native.Mathlib.Omega.{arith}
use Rattle.b1_model.specs.declared.naming.NodeRef.{NodeRef}
use Rattle.b1_model.specs.Names.{Node}
use Rattle.b1_model.specs.Ledger.{Line, Table, line_number}
use Rattle.b1_model.specs.MachineParts.{HandleRecord, same_ref, record_of}
use Rattle.b1_model.specs.MachineTables.{is_needed, changed}
use Rattle.b1_step.specs.Rights.{Has, HandlesKept}
use Rattle.b1_step.specs.Ordered.{Rising}
use Rattle.b1_step.proofs.Orders.{same_ref_is}
use Rattle.b1_step.proofs.Lookups.{kept_by, rising_changed, own_changed, other_changed}
use Rattle.b1_inv.specs.Numbers.{AreNumbered, WasGiven}
use Rattle.b1_inv_record.specs.Epochs.{ref_of, is_ref}
use Rattle.b1_inv_record.specs.Names.{IsLineOf}
use Rattle.b1_inv_refs.proofs.Views.{Handles}
use Rattle.b1_inv_refs.proofs.GivenUp.{record_found, one_record, found_has}
use Rattle.b1_inv_tables.proofs.Lines.{AreApart, ref_is, node_is, is_node_of, line_number_is, line_number_some, line_number_none}

-- the lines of a table, each number once, are the numbered records, and as many numbers were given
pub record IsTable (t : Table) (count : ℕ) (hs : Handles) : Type 0 where
  pub given : count ≡ t.given
  pub apart : AreApart t.lines
  pub lines : (l : Line) → Has t.lines l → (h : HandleRecord) × Has hs h × IsLineOf h l
  pub records : (h : HandleRecord) (number : ℕ) → Has hs h → h.number ≡ Some number → (l : Line) × Has t.lines l × IsLineOf h l

-- ---- records that aren't held change

-- two records of a node under one number, held as often
pub record SameLine (h g : HandleRecord) : Type 0 where
  pub node : g.node ≡ h.node
  pub number : g.number ≡ h.number
  pub held : g.held ≡ h.held

-- each record stays as a table sees it, but that one which isn't held may go; and each is an old one, or isn't held
pub record LinesKept (old new : Handles) : Type 0 where
  pub stays : (h : HandleRecord) → Has old h → ((g : HandleRecord) × Has new g × SameLine h g) ⊎ (h.held ≡ 0)
  pub comes : (g : HandleRecord) → Has new g → ((h : HandleRecord) × Has old h × SameLine h g) ⊎ (g.number ≡ None)

-- a record is as itself
pub same_line : (h : HandleRecord) → SameLine h h
same_line h = record { node = refl; number = refl; held = refl }

-- records stay as they are
pub lines_same : (hs : Handles) → LinesKept hs hs
lines_same hs = record { stays = λ h there. inl (h, there, same_line h); comes = λ g there. inl (g, there, same_line g) }

-- what other drivers leave
pub lines_of_kept : (old new : Handles) → HandlesKept old new → LinesKept old new
lines_of_kept old new k = record {
  stays = λ h there. elim (k.stays h there) [ inl (g, now, same) ↦ inl (g, now, record { node = same.node; number = same.number; held = same.held }) | inr gone ↦ inr gone ];
  comes = λ g there. elim (k.comes g there) [ inl (h, was, same) ↦ inl (h, was, record { node = same.node; number = same.number; held = same.held }) | inr new_one ↦ inr new_one.0.number ];
}

-- one change after another
pub lines_trans : (old mid new : Handles) → LinesKept old mid → LinesKept mid new → LinesKept old new
lines_trans old mid new one two = record {
  stays = λ h there. elim (one.stays h there) [
    | inr gone ↦ inr gone
    | inl (g, now, same) ↦ elim (two.stays g now) [
      | inr gone ↦ inr (sym same.held ∙ gone)
      | inl (f, later, also) ↦ inl (f, later, record { node = also.node ∙ same.node; number = also.number ∙ same.number; held = also.held ∙ same.held })
    ]
  ];
  comes = λ f there. elim (two.comes f there) [
    | inr none ↦ inr none
    | inl (g, now, also) ↦ elim (one.comes g now) [
      | inr none ↦ inr (also.number ∙ none)
      | inl (h, was, same) ↦ inl (h, was, record { node = also.node ∙ same.node; number = also.number ∙ same.number; held = also.held ∙ same.held })
    ]
  ];
}

-- a line is of the same record
line_of : (h g : HandleRecord) (l : Line) → SameLine h g → IsLineOf h l → IsLineOf g l
line_of h g l same is = (same.number ∙ is.0, same.held ∙ is.1, ap (λ n. is_ref n l.node) same.node ∙ is.2)

-- a table has the lines of the records then
pub kept_table : (t : Table) (count : ℕ) (old new : Handles) → AreNumbered count old → LinesKept old new → IsTable t count old → IsTable t count new
kept_table t count old new all kept k = record {
  given = k.given;
  apart = k.apart;
  lines = λ l there.
      let f = k.lines l there in
      elim (kept.stays f.0 f.1) [
        | inl (g, now, same) ↦ (g, now, line_of f.0 g l same f.2)
        | inr gone ↦ let some = (all.held f.0 l.number f.1 f.2.0).0 in absurd (omega (arith, some, gone))
      ];
  records = λ g number there is. elim (kept.comes g there) [
    | inl (h, was, same) ↦ let f = k.records h number was (sym same.number ∙ is) in (f.0, f.1, line_of h g f.0 same f.2)
    | inr none ↦ let both : Some number ≡ None = sym is ∙ none in absurd (cc both)
  ];
}

-- ---- one record changes

module _ (node : NodeRef) (f : HandleRecord → HandleRecord) (keeps : (h : HandleRecord) → (f h).node ≡ h.node) (hs : Handles) (up : Rising hs) where
  -- a record after the change is another one as before, or the changed one
  pub other_or : (g : HandleRecord) → Has (changed node f hs) g → (Has hs g × (same_ref node g.node ≡ false)) ⊎ ((h : HandleRecord) × (record_of node hs ≡ Some h) × (g ≡ f h))
  other_or g there = by (same_ref node g.node) refl
    where
      found : record_of g.node (changed node f hs) ≡ Some g
      found = record_found (changed node f hs) g (rising_changed node f keeps hs up) there

      own : (z : Option HandleRecord) → record_of node hs ≡ z → kept_by f z ≡ Some g → (h : HandleRecord) × (record_of node hs ≡ Some h) × (g ≡ f h)
      own None at is = absurd (cc is)
      own (Some h) at is = need (is_needed (f h)) is
        where
          need : (b : Bool) → cond b (Some (f h)) None ≡ Some g → (k : HandleRecord) × (record_of node hs ≡ Some k) × (g ≡ f k)
          need true same = let e : f h ≡ g = cc same in (h, at, sym e)
          need false none = absurd (cc none)

      by : (b : Bool) → same_ref node g.node ≡ b → (Has hs g × (same_ref node g.node ≡ false)) ⊎ ((h : HandleRecord) × (record_of node hs ≡ Some h) × (g ≡ f h))
      by false apart = inl ((found_has (λ h. same_ref h.node g.node) hs g (sym (other_changed node f keeps g.node apart hs) ∙ found)).0, apart)
      by true same = inr (own (record_of node hs) refl (sym (own_changed node f keeps hs up) ∙ ap (λ n. record_of n (changed node f hs)) (same_ref_is node g.node same) ∙ found))

  -- another record stays
  pub other_stays : (g : HandleRecord) → Has hs g → same_ref node g.node ≡ false → Has (changed node f hs) g
  other_stays g there apart = (found_has (λ h. same_ref h.node g.node) (changed node f hs) g (other_changed node f keeps g.node apart hs ∙ record_found hs g up there)).0

  -- the changed one stays where it is needed
  pub own_stays : (h : HandleRecord) → record_of node hs ≡ Some h → is_needed (f h) ≡ true → Has (changed node f hs) (f h)
  own_stays h found needed = (found_has (λ g. same_ref g.node node) (changed node f hs) (f h) (own_changed node f keeps hs up ∙ ap (kept_by f) found ∙ ap (λ b. cond b (Some (f h)) None) needed)).0

  -- the record that is found is there, and of the node
  pub found_there : (h : HandleRecord) → record_of node hs ≡ Some h → Has hs h × (h.node ≡ node)
  found_there h found = let k = found_has (λ g. same_ref g.node node) hs h found in (k.0, same_ref_is h.node node k.1)

  -- where the change leaves what a table sees
  pub same_kept : ((h : HandleRecord) → SameLine h (f h)) → LinesKept hs (changed node f hs)
  same_kept same = record {
    stays = λ h there. by_node h there (same_ref node h.node) refl;
    comes = λ g there. elim (other_or g there) [
      | inl old ↦ inl (g, old.0, same_line g)
      | inr (h, found, is) ↦ inl (h, (found_there h found).0, subst (SameLine h) (sym is) (same h))
    ];
  }
    where
      by_node : (h : HandleRecord) → Has hs h → (b : Bool) → same_ref node h.node ≡ b → ((g : HandleRecord) × Has (changed node f hs) g × SameLine h g) ⊎ (h.held ≡ 0)
      by_node h there false apart = inl (h, other_stays h there apart, same_line h)
      by_node h there true is = need (is_needed (f h)) refl
        where
          found : record_of node hs ≡ Some h
          found = ap (λ n. record_of n hs) (same_ref_is node h.node is) ∙ record_found hs h up there

          need : (b : Bool) → is_needed (f h) ≡ b → ((g : HandleRecord) × Has (changed node f hs) g × SameLine h g) ⊎ (h.held ≡ 0)
          need true needed = inl (f h, own_stays h found needed, same h)
          need false unneeded = let none : (f h).held ≡ 0 = grind (arith, unneeded) in inr (sym (same h).held ∙ none)

-- ---- which line is of which record

module _ (t : Table) (count : ℕ) (hs : Handles) (up : Rising hs) (all : AreNumbered count hs) (k : IsTable t count hs) where
  -- a line with a record's number is that record's
  pub line_of_number : (l : Line) (h : HandleRecord) → Has t.lines l → Has hs h → h.number ≡ Some l.number → IsLineOf h l
  line_of_number l h there has is =
      let f = k.lines l there in
      let same : f.0 ≡ h = one_record hs f.0 h up f.1 has (all.apart f.0 h l.number f.1 has f.2.0 is) in
      subst (λ z. IsLineOf z l) same f.2

  -- a line of a record's node is that record's
  pub line_of_node : (l : Line) (h : HandleRecord) → Has t.lines l → Has hs h → option_map ref_of l.node ≡ Some h.node → IsLineOf h l
  line_of_node l h there has is =
      let f = k.lines l there in
      let both : Some f.0.node ≡ Some h.node = sym (ref_is f.0.node l.node f.2.2) ∙ is in
      let node : f.0.node ≡ h.node = cc both in
      let same : f.0 ≡ h = one_record hs f.0 h up f.1 has node in
      subst (λ z. IsLineOf z l) same f.2

  -- a record without number has no line
  pub no_line : (x : Node) (h : HandleRecord) → Has hs h → ref_of x ≡ h.node → h.number ≡ None → line_number x t.lines ≡ None
  no_line x h has node none = line_number_none x t.lines (λ l there is.
      let of = line_of_node l h there has (node_is x l.node is ∙ ap Some node) in
      let both : Some l.number ≡ None = sym of.0 ∙ none in
      absurd (cc both))

  -- a numbered record's line is found under its node, and under its number
  pub line_found : (x : Node) (h : HandleRecord) (n : ℕ) → Has hs h → ref_of x ≡ h.node → h.number ≡ Some n → line_number x t.lines ≡ Some n
  line_found x h n has node is =
      let f = k.records h n has is in
      let some = line_number_some x t.lines f.0 f.1 (is_node_of x f.0.node (ref_is h.node f.0.node f.2.2 ∙ ap Some (sym node))) in
      let g = line_number_is x t.lines some.0 some.1 in
      let of = line_of_node g.0 h g.1 has (node_is x g.0.node g.3 ∙ ap Some node) in
      let both : Some g.0.number ≡ Some n = sym of.0 ∙ is in
      let same : g.0.number ≡ n = cc both in
      some.1 ∙ ap Some (sym g.2 ∙ same)

  -- the number of a line was given
  pub line_given : (l : Line) → Has t.lines l → WasGiven count l.number
  line_given l there = let f = k.lines l there in (all.held f.0 l.number f.1 f.2.0).1
