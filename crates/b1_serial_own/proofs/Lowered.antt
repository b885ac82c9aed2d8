-- A reference that is given up lowers the line of its record.
use Rattle.std.proofs.Common.{◌≡◌, ◌≢◌, refl, sym, ap, ◌∙◌, subst, inl, inr, ℕ, ◌-◌, ◌<◌, ◌≤◌, ◌==◌, Bool, true, false, cond, ◌||◌, nat_lt, [], ◌∷◌, Option, Some, None, arith}
use Rattle.std.specs.Prelude.{find}
use Rattle.std.proofs.lemmas.Bool.{eqb-true, eqb-false, lt-ltb}
use Rattle.std.proofs.lemmas.Option.{same_Some}
use Rattle.b1_model.specs.declared.naming.NodeRef.{NodeRef}
use Rattle.b1_model.specs.MachineParts.{HandleRecord, same_ref}
use Rattle.b1_model.specs.MachineTables.{held_node, is_number, is_needed, changed, less_held}
use Rattle.b1_step.specs.Rights.{Has}
use Rattle.b1_step.specs.Ordered.{Rising}
use Rattle.b1_step.proofs.Orders.{same_ref_is, same_ref_itself}
use Rattle.b1_inv.specs.Numbers.{AreNumbered}
use Rattle.b1_inv_refs.proofs.Views.{Handles}
use Rattle.b1_inv_refs.proofs.GivenUp.{found_has, found_none, number_is, one_record}
use Rattle.b1_step.specs.Ordered.{BehindNode}
use Rattle.b1_step.proofs.Lookups.{none_behind}
use Rattle.b1_serial_bus.specs.References.{lowered}
use Rattle.b1_serial_rest.specs.Standing.{line_under, put_line, with_line, lines_of}
use Rattle.b1_serial_own.proofs.Sorted.{NoneNumbered, put_none_numbered, lines_in_order, put_lowered, put_own_lowered}

-- records without a number have no line with it
pub none_numbered : (n : ℕ) (hs : Handles) → ((h : HandleRecord) → Has hs h → h.number ≢ Some n) → NoneNumbered n (lines_of hs)
none_numbered n [] none = tt
none_numbered n (h ∷ rest) none = by (none_numbered n rest (λ g there. none g (inr there))) h.number refl
  where
    by : NoneNumbered n (lines_of rest) → (r : Option ℕ) → h.number ≡ r → NoneNumbered n (with_line r h (lines_of rest))
    by below None is = below
    by below (Some k) is = put_none_numbered n (line_under k h) (lines_of rest) (λ e. none h (inl refl) (is ∙ ap Some e)) below

-- the record of the number, and that no other record is its node's or has its number
pub record Alone (number : ℕ) (node : NodeRef) (hs : Handles) : Type 0 where
  pub numbered : (h : HandleRecord) → Has hs h → h.number ≡ Some number → same_ref h.node node ≡ true
  pub own : (h : HandleRecord) → Has hs h → same_ref h.node node ≡ true → (h.number ≡ Some number) × (1 ≤ h.held)
  pub one : (h g : HandleRecord) → Has hs h → Has hs g → same_ref h.node node ≡ true → same_ref g.node node ≡ true → h ≡ g

-- a record behind the first isn't the first
module _ (number : ℕ) (node : NodeRef) where
  lowered_own : (h : HandleRecord) (rest : Handles) → h.number ≡ Some number → 1 ≤ h.held → NoneNumbered number (lines_of rest)
      → lowered number (with_line h.number h (lines_of rest)) ≡ lines_of (cond (is_needed (less_held h)) (less_held h ∷ rest) rest)
  lowered_own h rest is some none =
      ap (λ r. lowered number (with_line r h (lines_of rest))) is
      ∙ put_own_lowered (line_under number h) (lines_of rest) (lines_in_order rest) none
      ∙ by (h.held == 1) refl
    where
      -- the last one
      gone : h.held ≡ 1 → (b : Bool) → lines_of rest ≡ lines_of (cond b (less_held h ∷ rest) rest)
      gone last true = sym (ap (λ r. with_line r (less_held h) (lines_of rest)) (ap (λ b. cond b h.number None) (ap (nat_lt 1) last)))
      gone last false = refl

      more : h.held ≢ 1 → 1 < h.held
      more other = omega (arith, some, other)

      needed : 1 < h.held → is_needed (less_held h) ≡ true
      needed less = ap (λ b. (b || nat_lt 0 h.flight) || h.notice) (lt-ltb 0 (h.held - 1) (omega (arith, less)))

      kept : 1 < h.held → put_line (record (line_under number h) { held = h.held - 1 }) (lines_of rest) ≡ lines_of (cond (is_needed (less_held h)) (less_held h ∷ rest) rest)
      kept less = sym (
          ap (λ b. lines_of (cond b (less_held h ∷ rest) rest)) (needed less)
          ∙ ap (λ r. with_line r (less_held h) (lines_of rest)) (ap (λ b. cond b h.number None) (lt-ltb 1 h.held less) ∙ is))

      by : (c : Bool) → h.held == 1 ≡ c → cond c (lines_of rest) (put_line (record (line_under number h) { held = h.held - 1 }) (lines_of rest)) ≡ lines_of (cond (is_needed (less_held h)) (less_held h ∷ rest) rest)
      by true last = gone (eqb-true h.held 1 last) (is_needed (less_held h))
      by false other = kept (more (eqb-false h.held 1 other))

  lowered_other : (h : HandleRecord) (rest : Handles) → h.number ≢ Some number → lowered number (lines_of rest) ≡ lines_of (changed node less_held rest) → lowered number (with_line h.number h (lines_of rest)) ≡ with_line h.number h (lines_of (changed node less_held rest))
  lowered_other h rest apart below = by h.number refl
    where
      by : (r : Option ℕ) → h.number ≡ r → lowered number (with_line r h (lines_of rest)) ≡ with_line r h (lines_of (changed node less_held rest))
      by None is = below
      by (Some k) is = put_lowered number (line_under k h) (lines_of rest) (lines_in_order rest) (λ e. apart (is ∙ ap Some e)) ∙ ap (put_line (line_under k h)) below

  -- no record has it any more: nothing is lowered
  absent : (hs : Handles) → ((h : HandleRecord) → Has hs h → same_ref h.node node ≡ false) → changed node less_held hs ≡ hs
  absent [] none = refl
  absent (h ∷ rest) none = ap (λ b. cond b (cond (is_needed (less_held h)) (less_held h ∷ rest) rest) (h ∷ changed node less_held rest)) (none h (inl refl)) ∙ ap (λ hs. h ∷ hs) (absent rest (λ g there. none g (inr there)))

  -- lowered, where the records are so
  pub lines_lowered : (hs : Handles) → Rising hs → Alone number node hs → (h : HandleRecord) → Has hs h → h.number ≡ Some number → lowered number (lines_of hs) ≡ lines_of (changed node less_held hs)
  lines_lowered [] up alone h there is = absurd there
  lines_lowered (g ∷ rest) up alone h there is = by (λ apart. lines_lowered rest up.1 later_alone h (in_rest apart) is) (same_ref g.node node) refl
    where
      in_rest : same_ref g.node node ≡ false → Has rest h
      in_rest apart = by_place there (alone.numbered h there is)
        where
          by_place : Has (g ∷ rest) h → same_ref h.node node ≡ true → Has rest h
          by_place (inl same) its = absurd (cc (sym apart ∙ ap (λ z. same_ref z.node node) (sym same) ∙ its))
          by_place (inr later) its = later

      -- behind the node's own record there is none with its number
      none_later : same_ref g.node node ≡ true → (k : HandleRecord) → Has rest k → k.number ≢ Some number
      none_later own k later numbered =
          let same = alone.one k g (inr later) (inl refl) (alone.numbered k (inr later) numbered) own in
          not_itself up.0 (subst (Has rest) same later)
        where
          not_itself : BehindNode g.node rest → Has rest g → ⊥
          not_itself behind there = absurd (cc (sym (found_none (λ h. same_ref h.node g.node) rest g (none_behind g.node rest behind) there) ∙ same_ref_itself g.node))

      later_alone : Alone number node rest
      later_alone = record {
        numbered = λ k later. alone.numbered k (inr later);
        own = λ k later. alone.own k (inr later);
        one = λ k l first second. alone.one k l (inr first) (inr second);
      }

      by : (same_ref g.node node ≡ false → lowered number (lines_of rest) ≡ lines_of (changed node less_held rest)) → (b : Bool) → same_ref g.node node ≡ b → lowered number (with_line g.number g (lines_of rest)) ≡ lines_of (cond b (cond (is_needed (less_held g)) (less_held g ∷ rest) rest) (g ∷ changed node less_held rest))
      by further true own =
          let facts = alone.own g (inl refl) own in
          lowered_own g rest facts.0 facts.1 (none_numbered number rest (none_later own))
      by further false apart =
          lowered_other g rest (λ numbered. absurd (cc (sym apart ∙ alone.numbered g (inl refl) numbered))) (further apart)

-- so it is where the records are numbered
pub released_lines : (given number : ℕ) (node : NodeRef) (hs : Handles) → Rising hs → AreNumbered given hs → held_node number hs ≡ Some node → lowered number (lines_of hs) ≡ lines_of (changed node less_held hs)
released_lines given number node hs up numbered named = by (find (is_number number) hs) refl named
  where
    alone : (h : HandleRecord) → Has hs h → h.number ≡ Some number → h.node ≡ node → Alone number node hs
    alone h there is same = record {
      numbered = λ k later named. ap (λ n. same_ref n node) (numbered.apart k h number later there named is ∙ same) ∙ same_ref_itself node;
      own = λ k later its.
          let it : k ≡ h = one_record hs k h up later there (same_ref_is k.node node its ∙ sym same) in
          (ap (λ z. z.number) it ∙ is, subst (λ z. 1 ≤ z.held) (sym it) (numbered.held h number there is).0);
      one = λ k l first second own also. one_record hs k l up first second (same_ref_is k.node node own ∙ sym (same_ref_is l.node node also));
    }

    by : (r : Option HandleRecord) → find (is_number number) hs ≡ r → elim r [ None ↦ None | Some h ↦ Some h.node ] ≡ Some node → lowered number (lines_of hs) ≡ lines_of (changed node less_held hs)
    by None found none = absurd (cc none)
    by (Some h) found is =
        let there = found_has (is_number number) hs h found in
        let numbered_so = number_is number h there.1 in
        lines_lowered number node hs up (alone h there.0 numbered_so (same_Some h.node node is)) h there.0 numbered_so
