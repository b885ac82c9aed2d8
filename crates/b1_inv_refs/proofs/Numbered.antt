-- Records and their numbers after each event, and whose nodes they are of.
use Rattle.std.proofs.Common.{◌≡◌, ◌⊎◌, refl, sym, ap, ◌∙◌, inl, inr, subst, ℕ, ◌+◌, ◌-◌, ◌≤◌, ◌==◌, Bool, true, false, cond, nat_lt, [], ◌∷◌, Some, None}
use Rattle.std.proofs.lemmas.Bool.{eqb-false, ltb-true, ltb-false}
use native.Mathlib.Omega.{arith}
use Rattle.b1_model.specs.declared.naming.NodeRef.{NodeRef}
use Rattle.b1_model.specs.MachineParts.{HandleRecord, same_ref, ref_before, record_of, record_or_none, no_record}
use Rattle.b1_model.specs.MachineTables.{is_needed, changed, changed_or_made, more_flight, more_held, less_held, next_number}
use Rattle.b1_step.specs.Rights.{Has}
use Rattle.b1_inv.specs.Numbers.{WasGiven, AreNumbered}
use Rattle.b1_inv_refs.proofs.Views.{Handles, or_none}

-- ---- where a record comes from

-- a record after a change was there, or is the changed one
abbrev pub WasOrChanged : NodeRef → (HandleRecord → HandleRecord) → Handles → HandleRecord → Type 0
WasOrChanged node f hs k = Has hs k ⊎ ((h : HandleRecord) × (record_of node hs ≡ Some h) × Has hs h × (k ≡ f h))

pub changed_has : (node : NodeRef) (f : HandleRecord → HandleRecord) (hs : Handles) (k : HandleRecord) → Has (changed node f hs) k → WasOrChanged node f hs k
changed_has node f [] k h = absurd h
changed_has node f (g ∷ rest) k h = at (changed_has node f rest k) (same_ref g.node node) refl h
  where
    by_need : (b : Bool) → Has (cond b (f g ∷ rest) rest) k → (same_ref g.node node ≡ true) → WasOrChanged node f (g ∷ rest) k
    by_need true (inl same) is = inr (g, rw is refl, inl refl, same)
    by_need true (inr there) is = inl (inr there)
    by_need false there is = inl (inr there)

    at : (Has (changed node f rest) k → WasOrChanged node f rest k) → (b : Bool) → same_ref g.node node ≡ b → Has (cond b (cond (is_needed (f g)) (f g ∷ rest) rest) (g ∷ changed node f rest)) k → WasOrChanged node f (g ∷ rest) k
    at further true is there = by_need (is_needed (f g)) there is
    at further false is (inl same) = inl (inl same)
    at further false is (inr there) = elim (further there) [ inl old ↦ inl (inr old) | inr (m, found, has, same) ↦ inr (m, rw is found, inr has, same) ]

-- or the one that was made
abbrev pub WasOrMade : NodeRef → (HandleRecord → HandleRecord) → Handles → HandleRecord → Type 0
WasOrMade node f hs k = WasOrChanged node f hs k ⊎ (k ≡ f (no_record node))

pub made_has : (node : NodeRef) (f : HandleRecord → HandleRecord) (hs : Handles) (k : HandleRecord) → Has (changed_or_made node f hs) k → WasOrMade node f hs k
made_has node f [] k (inl same) = inr same
made_has node f [] k (inr there) = absurd there
made_has node f (g ∷ rest) k h = at (made_has node f rest k) (same_ref g.node node) refl (ref_before node g.node) h
  where
    later : (same_ref g.node node ≡ false) → WasOrMade node f rest k → WasOrMade node f (g ∷ rest) k
    later is (inl (inl old)) = inl (inl (inr old))
    later is (inl (inr (m, found, has, same))) = inl (inr (m, rw is found, inr has, same))
    later is (inr new) = inr new

    at : (Has (changed_or_made node f rest) k → WasOrMade node f rest k) → (b : Bool) → same_ref g.node node ≡ b → (c : Bool) → Has (cond b (f g ∷ rest) (cond c (f (no_record node) ∷ g ∷ rest) (g ∷ changed_or_made node f rest))) k → WasOrMade node f (g ∷ rest) k
    at further true is c (inl same) = inl (inr (g, rw is refl, inl refl, same))
    at further true is c (inr there) = inl (inl (inr there))
    at further false is true (inl same) = inr same
    at further false is true (inr there) = inl (inl there)
    at further false is false (inl same) = inl (inl (inl same))
    at further false is false (inr there) = later is (further there)

-- ---- a fact of every record

abbrev pub EachRecord : (HandleRecord → Type 0) → Handles → Type 0
EachRecord P hs = (h : HandleRecord) → Has hs h → P h

pub each_changed : (P : HandleRecord → Type 0) (node : NodeRef) (f : HandleRecord → HandleRecord) → ((h : HandleRecord) → P h → P (f h)) → (hs : Handles) → EachRecord P hs → EachRecord P (changed node f hs)
each_changed P node f closed hs each k h = elim (changed_has node f hs k h) [ inl old ↦ each k old | inr (g, found, has, same) ↦ subst P (sym same) (closed g (each g has)) ]

pub each_made : (P : HandleRecord → Type 0) (node : NodeRef) (f : HandleRecord → HandleRecord) → ((h : HandleRecord) → P h → P (f h)) → P (f (no_record node)) → (hs : Handles) → EachRecord P hs → EachRecord P (changed_or_made node f hs)
each_made P node f closed new hs each k h = elim (made_has node f hs k h) [ inl was ↦ elim was [ inl old ↦ each k old | inr (g, found, has, same) ↦ subst P (sym same) (closed g (each g has)) ] | inr same ↦ subst P (sym same) new ]

-- ---- numbers

-- a record has a number that was given exactly while it is held
abbrev pub HasNumber : ℕ → HandleRecord → Type 0
HasNumber given h = (h.number ≡ None → h.held ≡ 0) × ((number : ℕ) → h.number ≡ Some number → (1 ≤ h.held) × WasGiven given number)

-- no two nodes have the same
abbrev pub NumbersApart : Handles → Type 0
NumbersApart hs = (h k : HandleRecord) (number : ℕ) → Has hs h → Has hs k → h.number ≡ Some number → k.number ≡ Some number → h.node ≡ k.node

pub has_number : (given : ℕ) (hs : Handles) → AreNumbered given hs → EachRecord (HasNumber given) hs
has_number given hs k h there = (k.unheld h there, λ number is. k.held h number there is)

pub numbered : (given : ℕ) (hs : Handles) → EachRecord (HasNumber given) hs → NumbersApart hs → AreNumbered given hs
numbered given hs each apart = record { unheld = λ h there. (each h there).0; held = λ h number there is. (each h there).1 number is; apart = apart }

pub numbers_none : (given : ℕ) → AreNumbered given []
numbers_none given = record { unheld = λ h there. absurd there; held = λ h number there is. absurd there; apart = λ h k number there. absurd there }

given_more : (given : ℕ) (number : ℕ) → WasGiven given number → WasGiven (given + 1) number
given_more given number (g, less, same) = (g, omega (arith, less), same)

pub numbers_more : (given : ℕ) (hs : Handles) → AreNumbered given hs → AreNumbered (given + 1) hs
numbers_more given hs k = record { unheld = k.unheld; held = λ h number there is. ((k.held h number there is).0, given_more given number (k.held h number there is).1); apart = k.apart }

module _ (given : ℕ) (node : NodeRef) (f : HandleRecord → HandleRecord) (keeps : (h : HandleRecord) → (f h).node ≡ h.node)
    (numbers : (h : HandleRecord) (number : ℕ) → (f h).number ≡ Some number → h.number ≡ Some number) where
  -- a numbered record was so before, at the same node
  from_before : (hs : Handles) (k : HandleRecord) (number : ℕ) → WasOrChanged node f hs k → k.number ≡ Some number → (h : HandleRecord) × Has hs h × (h.number ≡ Some number) × (k.node ≡ h.node)
  from_before hs k number (inl old) is = (k, old, is, refl)
  from_before hs k number (inr (h, found, has, same)) is = (h, has, numbers h number (sym (ap (λ z. z.number) same) ∙ is), ap (λ z. z.node) same ∙ keeps h)

  still_apart : (hs : Handles) → NumbersApart hs → (h k : HandleRecord) (number : ℕ) → WasOrChanged node f hs h → WasOrChanged node f hs k → h.number ≡ Some number → k.number ≡ Some number → h.node ≡ k.node
  still_apart hs apart h k number a b is_h is_k =
      let one = from_before hs h number a is_h in
      let two = from_before hs k number b is_k in
      one.3 ∙ apart one.0 two.0 number one.1 two.1 one.2 two.2 ∙ sym two.3

  pub numbers_changed : ((h : HandleRecord) → HasNumber given h → HasNumber given (f h)) → (hs : Handles) → AreNumbered given hs → AreNumbered given (changed node f hs)
  numbers_changed closed hs k =
      numbered given (changed node f hs) (each_changed (HasNumber given) node f closed hs (has_number given hs k))
      (λ h g number there here. still_apart hs k.apart h g number (changed_has node f hs h there) (changed_has node f hs g here))

-- the changes that leave a number
pub numbers_same : (given : ℕ) (node : NodeRef) (f : HandleRecord → HandleRecord) → ((h : HandleRecord) → (f h).node ≡ h.node) → ((h : HandleRecord) → (f h).number ≡ h.number) → ((h : HandleRecord) → (f h).held ≡ h.held) → (hs : Handles) → AreNumbered given hs → AreNumbered given (changed node f hs)
numbers_same given node f keeps number held hs k =
    numbers_changed given node f keeps (λ h n is. sym (number h) ∙ is)
    (λ h has. (λ is. held h ∙ has.0 (sym (number h) ∙ is), λ n is. let one = has.1 n (sym (number h) ∙ is) in let two = held h in (omega (arith, one.0, two), one.1)))
    hs k

-- a handle is given up once
one_less : (given : ℕ) (h : HandleRecord) → HasNumber given h → HasNumber given (less_held h)
one_less given h has = at (nat_lt 1 h.held) refl
  where
    at : (b : Bool) → nat_lt 1 h.held ≡ b → (cond b h.number None ≡ None → h.held - 1 ≡ 0) × ((n : ℕ) → cond b h.number None ≡ Some n → (1 ≤ h.held - 1) × WasGiven given n)
    at true is = (λ none. let k = has.0 none in omega (arith, k), λ n some. let more = ltb-true 1 h.held is in (omega (arith, more), (has.1 n some).1))
    at false is = (λ none. let less = ltb-false 1 h.held is in omega (arith, less), λ n some. absurd (cc some))

less_number : (h : HandleRecord) (n : ℕ) → (less_held h).number ≡ Some n → h.number ≡ Some n
less_number h n = at (nat_lt 1 h.held)
  where
    at : (b : Bool) → cond b h.number None ≡ Some n → h.number ≡ Some n
    at true is = is
    at false is = absurd (cc is)

pub numbers_less : (given : ℕ) (node : NodeRef) (hs : Handles) → AreNumbered given hs → AreNumbered given (changed node less_held hs)
numbers_less given node hs k = numbers_changed given node less_held (λ h. refl) less_number (one_less given) hs k

-- a record is made that isn't held
pub numbers_made : (given : ℕ) (node : NodeRef) (hs : Handles) → AreNumbered given hs → AreNumbered given (changed_or_made node more_flight hs)
numbers_made given node hs k =
    numbered given (changed_or_made node more_flight hs)
    (each_made (HasNumber given) node more_flight (λ h has. has) (λ none. refl, λ n is. absurd (cc is)) hs (has_number given hs k))
    (λ h g number there here is_h is_g. at h g number (made_has node more_flight hs h there) (made_has node more_flight hs g here) is_h is_g)
  where
    at : (h g : HandleRecord) (number : ℕ) → WasOrMade node more_flight hs h → WasOrMade node more_flight hs g → h.number ≡ Some number → g.number ≡ Some number → h.node ≡ g.node
    at h g number (inl a) (inl b) is_h is_g = still_apart given node more_flight (λ z. refl) (λ z n is. is) hs k.apart h g number a b is_h is_g
    at h g number (inr new) b is_h is_g = absurd (cc (sym is_h ∙ ap (λ z. z.number) new))
    at h g number (inl a) (inr new) is_h is_g = absurd (cc (sym is_g ∙ ap (λ z. z.number) new))

-- ---- a node is held once more

-- after a reference came, with a new number where it wasn't held
abbrev pub given_then : ℕ → ℕ → ℕ
given_then given held = cond (held == 0) (given + 1) given

module _ (given : ℕ) (g : HandleRecord → HandleRecord) (keeps_node : (h : HandleRecord) → (g h).node ≡ h.node) (keeps_held : (h : HandleRecord) → (g h).held ≡ h.held) (keeps_number : (h : HandleRecord) → (g h).number ≡ h.number) where
  -- the change of the record
  abbrev pub come : HandleRecord → HandleRecord
  come h = more_held (next_number given) (g h)

  come_number : (h : HandleRecord) → (come h).number ≡ cond (h.held == 0) (Some (next_number given)) h.number
  come_number h = ap (λ n. cond (n == 0) (Some (next_number given)) (g h).number) (keeps_held h) ∙ ap (λ n. cond (h.held == 0) (Some (next_number given)) n) (keeps_number h)

  pub one_more : (h : HandleRecord) → HasNumber given h → HasNumber (given_then given h.held) (come h)
  one_more h has = (λ none. absurd (no_number none), λ n some. (omega (arith, keeps_held h), was n (sym (come_number h) ∙ some)))
    where
      no_number : (come h).number ≡ None → ⊥
      no_number none = at (h.held == 0) refl (sym (come_number h) ∙ none)
        where
          at : (b : Bool) → (h.held == 0) ≡ b → cond b (Some (next_number given)) h.number ≡ None → ⊥
          at true is is_none = cc is_none
          at false is is_none = eqb-false h.held 0 is (has.0 is_none)

      was : (n : ℕ) → cond (h.held == 0) (Some (next_number given)) h.number ≡ Some n → WasGiven (given_then given h.held) n
      was n = at (h.held == 0)
        where
          at : (b : Bool) → cond b (Some (next_number given)) h.number ≡ Some n → WasGiven (cond b (given + 1) given) n
          at true is = let same : next_number given ≡ n = cc is in (given, omega arith, sym same)
          at false is = (has.1 n is).1

  -- numbers that were given differ from the next one
  pub is_new : (n : ℕ) → WasGiven given n → n ≡ next_number given → ⊥
  is_new n (k, less, same) next = absurd (omega (arith, less, same, next))

  -- the changed record and another one with the same number
  pub with_old : (hs : Handles) → AreNumbered given hs → (h k : HandleRecord) (number : ℕ) → Has hs h → Has hs k → (come h).number ≡ Some number → k.number ≡ Some number → h.node ≡ k.node
  with_old hs all h k number has_h has_k is_h is_k = at (h.held == 0) (sym (come_number h) ∙ is_h)
    where
      at : (b : Bool) → cond b (Some (next_number given)) h.number ≡ Some number → h.node ≡ k.node
      at true is = let same : next_number given ≡ number = cc is in absurd (is_new number (all.held k number has_k is_k).1 (sym same))
      at false is = all.apart h k number has_h has_k is is_k

  pub more_of : (b : Bool) (h : HandleRecord) → HasNumber given h → HasNumber (cond b (given + 1) given) h
  more_of true h has = (has.0, λ n is. ((has.1 n is).0, given_more given n (has.1 n is).1))
  more_of false h has = has

  more_of_all : (b : Bool) (hs : Handles) → AreNumbered given hs → AreNumbered (cond b (given + 1) given) hs
  more_of_all true hs all = numbers_more given hs all
  more_of_all false hs all = all

  module _ (node : NodeRef) (hs : Handles) (all : AreNumbered given hs) where
    abbrev held_now : ℕ
    held_now = (record_or_none node hs).held

    each_come : (k : HandleRecord) → WasOrChanged node come hs k → HasNumber (given_then given held_now) k
    each_come k (inl old) = more_of (held_now == 0) k (has_number given hs all k old)
    each_come k (inr (h, found, has, same)) =
        subst (HasNumber (given_then given held_now)) (sym same)
        (subst (λ n. HasNumber (given_then given n) (come h)) (sym (ap (λ r. (or_none node r).held) found)) (one_more h (has_number given hs all h has)))

    apart_come : (h k : HandleRecord) (number : ℕ) → WasOrChanged node come hs h → WasOrChanged node come hs k → h.number ≡ Some number → k.number ≡ Some number → h.node ≡ k.node
    apart_come h k number (inl a) (inl b) is_h is_k = all.apart h k number a b is_h is_k
    apart_come h k number (inr (m, found, has, same)) (inl b) is_h is_k = ap (λ z. z.node) same ∙ keeps_node m ∙ with_old hs all m k number has b (sym (ap (λ z. z.number) same) ∙ is_h) is_k
    apart_come h k number (inl a) (inr (m, found, has, same)) is_h is_k = sym (ap (λ z. z.node) same ∙ keeps_node m ∙ with_old hs all m h number has a (sym (ap (λ z. z.number) same) ∙ is_k) is_h)
    apart_come h k number (inr (m, found, has, same)) (inr (n, found_n, has_n, same_n)) is_h is_k =
        let one : m ≡ n = cc (sym found ∙ found_n) in
        ap (λ z. z.node) same ∙ keeps_node m ∙ ap (λ z. z.node) one ∙ sym (keeps_node n) ∙ sym (ap (λ z. z.node) same_n)

    pub numbers_come : AreNumbered (given_then given held_now) (changed node come hs)
    numbers_come = numbered _ (changed node come hs) (λ k there. each_come k (changed_has node come hs k there)) (λ h k number there here. apart_come h k number (changed_has node come hs h there) (changed_has node come hs k here))
