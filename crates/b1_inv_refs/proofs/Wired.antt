-- A wire makes a node held once more: what that leaves of a part's records.
use Rattle.std.proofs.Common.{◌≡◌, ◌⊎◌, refl, sym, ap, ◌∙◌, inl, inr, subst, ℕ, ◌+◌, ◌==◌, Bool, true, false, cond, [], ◌∷◌, Option, Some, None}
use Rattle.std.proofs.lemmas.Bool.{ne_eqb}
use native.Mathlib.Omega.{arith}
use Rattle.b1_model.specs.declared.naming.NodeRef.{NodeRef}
use Rattle.b1_model.specs.MachineParts.{HandleRecord, same_ref, ref_before, record_of, record_or_none, no_record}
use Rattle.b1_model.specs.MachineTables.{changed_or_made, more_held, next_number}
use Rattle.b1_step.specs.Rights.{Has}
use Rattle.b1_step.specs.Ordered.{Rising}
use Rattle.b1_step.proofs.Orders.{same_ref_is, same_ref_itself}
use Rattle.b1_step.proofs.Lookups.{rising_made, own_made}
use Rattle.b1_inv.specs.Numbers.{AreNumbered}
use Rattle.b1_inv_refs.proofs.Views.{Handles, or_none, view_made, view_made_other}
use Rattle.b1_inv_refs.proofs.Arrivals.{held_in}
use Rattle.b1_inv_refs.proofs.GivenUp.{record_found, found_has}
use Rattle.b1_inv_refs.proofs.Numbered.{WasOrMade, made_has, HasNumber, has_number, numbered, given_then, more_of, one_more, is_new, with_old}

-- how often a node is held then
pub held_given : (number : ℕ) (other node : NodeRef) (hs : Handles) → Rising hs → held_in node (changed_or_made other (more_held number) hs) ≡ held_in node hs + cond (same_ref other node) 1 0
held_given number other node hs up = at (same_ref other node) refl
  where
    at : (b : Bool) → same_ref other node ≡ b → held_in node (changed_or_made other (more_held number) hs) ≡ held_in node hs + cond b 1 0
    at false is = let k = view_made_other (λ h. h.held) (more_held number) (λ h. refl) other node hs is in omega (arith, k)
    at true is = subst (λ m. held_in node (changed_or_made m (more_held number) hs) ≡ held_in node hs + 1) (sym (same_ref_is other node is)) (view_made (λ h. h.held) (more_held number) (λ h. refl) node hs up)

module _ (node : NodeRef) (f : HandleRecord → HandleRecord) (keeps : (h : HandleRecord) → (f h).node ≡ h.node) (hs : Handles) (up : Rising hs) where
  -- the record of the node then
  pub made_there : Has (changed_or_made node f hs) (f (record_or_none node hs))
  made_there = (found_has (λ h. same_ref h.node node) (changed_or_made node f hs) (f (record_or_none node hs)) (own_made node f keeps hs up)).0

  -- each other record was there
  pub made_is : (k : HandleRecord) → Has (changed_or_made node f hs) k → Has hs k ⊎ (k ≡ f (record_or_none node hs))
  made_is k there = at (same_ref k.node node) refl
    where
      apart : same_ref k.node node ≡ false → k.node ≡ node → ⊥
      apart is same = cc (sym is ∙ ap (λ n. same_ref n node) same ∙ same_ref_itself node)

      by_was : same_ref k.node node ≡ false → WasOrMade node f hs k → Has hs k
      by_was is (inl (inl old)) = old
      by_was is (inl (inr (h, found, has, same))) = absurd (apart is (ap (λ z. z.node) same ∙ keeps h ∙ same_ref_is h.node node (found_has (λ z. same_ref z.node node) hs h found).1))
      by_was is (inr new) = absurd (apart is (ap (λ z. z.node) new ∙ keeps (no_record node)))

      at : (b : Bool) → same_ref k.node node ≡ b → Has hs k ⊎ (k ≡ f (record_or_none node hs))
      at false is = inl (by_was is (made_has node f hs k there))
      at true is =
          let both : Some k ≡ Some (f (record_or_none node hs)) = sym (record_found (changed_or_made node f hs) k (rising_made node f keeps hs up) there) ∙ ap (λ n. record_of n (changed_or_made node f hs)) (same_ref_is k.node node is) ∙ own_made node f keeps hs up in
          inr (cc both)

-- a record that stands there stays, with its number if it has one
pub stays_there : (given : ℕ) (node : NodeRef) (hs : Handles) → Rising hs → AreNumbered given hs → (h : HandleRecord) (number : ℕ) → Has hs h → h.number ≡ Some number → (k : HandleRecord) × Has (changed_or_made node (more_held (next_number given)) hs) k × (k.number ≡ Some number) × (k.node ≡ h.node)
stays_there given node hs up all h number there is = at (same_ref h.node node) refl
  where
    other : (hs : Handles) → Has hs h → same_ref h.node node ≡ false → Has (changed_or_made node (more_held (next_number given)) hs) h
    other [] has apart = absurd has
    other (g ∷ rest) has apart = by (same_ref g.node node) refl (ref_before node g.node) (other rest) has
      where
        by : (b : Bool) → same_ref g.node node ≡ b → (c : Bool) → (Has rest h → same_ref h.node node ≡ false → Has (changed_or_made node (more_held (next_number given)) rest) h) → Has (g ∷ rest) h
            → Has (cond b (more_held (next_number given) g ∷ rest) (cond c (more_held (next_number given) (no_record node) ∷ g ∷ rest) (g ∷ changed_or_made node (more_held (next_number given)) rest))) h
        by true same c further (inl e) = absurd (cc (sym apart ∙ ap (λ z. same_ref z.node node) e ∙ same))
        by true same c further (inr deeper) = inr deeper
        by false same true further has_it = inr has_it
        by false same false further (inl e) = inl e
        by false same false further (inr deeper) = inr (further deeper apart)

    at : (b : Bool) → same_ref h.node node ≡ b → (k : HandleRecord) × Has (changed_or_made node (more_held (next_number given)) hs) k × (k.number ≡ Some number) × (k.node ≡ h.node)
    at false apart = (h, other hs there apart, is, refl)
    at true same =
        let found : record_or_none node hs ≡ h = ap (λ n. or_none n (record_of n hs)) (sym (same_ref_is h.node node same)) ∙ ap (or_none h.node) (record_found hs h up there) in
        let held = (all.held h number there is).0 in
        let test : (h.held == 0) ≡ false = ne_eqb h.held 0 (λ e. absurd (omega (arith, e, held))) in
        let number_is : (more_held (next_number given) (record_or_none node hs)).number ≡ Some number = ap (λ z. (more_held (next_number given) z).number) found ∙ ap (λ b. cond b (Some (next_number given)) h.number) test ∙ is in
        (more_held (next_number given) (record_or_none node hs), made_there node (more_held (next_number given)) (λ z. refl) hs up, number_is, ap (λ z. z.node) found)

module _ (given : ℕ) (node : NodeRef) (hs : Handles) (up : Rising hs) (all : AreNumbered given hs) where
  abbrev new_one : HandleRecord
  new_one = more_held (next_number given) (record_or_none node hs)

  -- what stood there, or stands in its place, has a number while it is held
  was_numbered : HasNumber given (record_or_none node hs)
  was_numbered = at (record_of node hs) refl
    where
      at : (r : Option HandleRecord) → record_of node hs ≡ r → HasNumber given (or_none node r)
      at None found = (λ is. refl, λ n is. absurd (cc is))
      at (Some h) found = has_number given hs all h (found_has (λ z. same_ref z.node node) hs h found).0

  each_given : (k : HandleRecord) → Has hs k ⊎ (k ≡ new_one) → HasNumber (given_then given (held_in node hs)) k
  each_given k (inl old) = more_of given (λ h. h) (λ h. refl) (λ h. refl) (λ h. refl) (held_in node hs == 0) k (has_number given hs all k old)
  each_given k (inr same) = subst (HasNumber (given_then given (held_in node hs))) (sym same) (one_more given (λ h. h) (λ h. refl) (λ h. refl) (λ h. refl) (record_or_none node hs) was_numbered)

  new_and_old : (k : HandleRecord) (number : ℕ) → Has hs k → new_one.number ≡ Some number → k.number ≡ Some number → new_one.node ≡ k.node
  new_and_old k number has is_new_one is_k = at (record_of node hs) refl
    where
      at : (r : Option HandleRecord) → record_of node hs ≡ r → new_one.node ≡ k.node
      at None found =
          let number_is : new_one.number ≡ Some (next_number given) = ap (λ r. (more_held (next_number given) (or_none node r)).number) found in
          let both : Some number ≡ Some (next_number given) = sym is_new_one ∙ number_is in
          let same : number ≡ next_number given = cc both in
          absurd (is_new given (λ h. h) (λ h. refl) (λ h. refl) (λ h. refl) number (all.held k number has is_k).1 same)
      at (Some h) found =
          let same : record_or_none node hs ≡ h = ap (or_none node) found in
          ap (λ z. z.node) same ∙ with_old given (λ h. h) (λ h. refl) (λ h. refl) (λ h. refl) hs all h k number (found_has (λ z. same_ref z.node node) hs h found).0 has (sym (ap (λ z. (more_held (next_number given) z).number) same) ∙ is_new_one) is_k

  apart_given : (h k : HandleRecord) (number : ℕ) → Has hs h ⊎ (h ≡ new_one) → Has hs k ⊎ (k ≡ new_one) → h.number ≡ Some number → k.number ≡ Some number → h.node ≡ k.node
  apart_given h k number (inl a) (inl b) is_h is_k = all.apart h k number a b is_h is_k
  apart_given h k number (inl a) (inr same) is_h is_k = sym (ap (λ z. z.node) same ∙ new_and_old h number a (sym (ap (λ z. z.number) same) ∙ is_k) is_h)
  apart_given h k number (inr same) (inl b) is_h is_k = ap (λ z. z.node) same ∙ new_and_old k number b (sym (ap (λ z. z.number) same) ∙ is_h) is_k
  apart_given h k number (inr same) (inr equal) is_h is_k = ap (λ z. z.node) (same ∙ sym equal)

  pub numbers_given : AreNumbered (given_then given (held_in node hs)) (changed_or_made node (more_held (next_number given)) hs)
  numbers_given =
      numbered _ (changed_or_made node (more_held (next_number given)) hs)
      (λ k there. each_given k (made_is node (more_held (next_number given)) (λ h. refl) hs up k there))
      (λ h k number there here. apart_given h k number (made_is node (more_held (next_number given)) (λ h. refl) hs up h there) (made_is node (more_held (next_number given)) (λ h. refl) hs up k here))
