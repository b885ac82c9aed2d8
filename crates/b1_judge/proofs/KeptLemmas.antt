-- What the tests of stamps tell of a call.
use Rattle.std.specs.Prelude.{◌≡◌, refl, ℕ, ◌+◌, ◌<◌, ◌%◌, ◌↔◌, ◌⊎◌, Bool, true, false, not, if◌then◌else◌, List, [], ◌∷◌, take, length, get_or, slice_get, Option, None, Some, ◌==◌, IsTrue}
use Rattle.std.proofs.Common.{arith, inl, inr, sym, ◌∙◌, ap, subst}
use Rattle.std.proofs.lemmas.Option.{same_Some, slice_get_within, slice_get_read}
use Rattle.std.proofs.lemmas.Bool.Decides.{Decides-eqb}
use Rattle.std.proofs.lemmas.List.{length-take}
use Rattle.b1_model.specs.declared.records.Call.{Call}
use Rattle.b1_model.specs.declared.records.Record.{Record}
use Rattle.b1_model.specs.Names.{calls_of}
use Rattle.b1_model.specs.Ledger.{stamp_of}
use Rattle.b1_model.specs.Legal.{seen_stamp, KeepsKeys, KeepsOrder}
use Rattle.b1_ledger.proofs.Sequences.{slice_get-take}
use Rattle.std.specs.Ordering.{nat_cmp}
use Rattle.std.specs.List.{list_any}
use Rattle.std.specs.BTreeMap.{is_at}
use Rattle.std.specs.BTreeSet.{BTreeSet, contains}
use Rattle.b1_judge.specs.Stamps.{IsGivenIn, AreSeenBelow, AreGiven, Gives, IsBelow, IsMost}

-- an item of the front of a list stands before its end
pub in_front : {A : Type 0} (xs : List A) (k i : ℕ) (x : A) → slice_get (take k xs) i ≡ Some x → (i < k) × (slice_get xs i ≡ Some x)
in_front xs k i x e =
    let inside = slice_get_within (take k xs) i x e in
    let l : i < k = omega (arith, length-take k xs, inside) in
    (l, sym (slice_get-take xs k i l) ∙ e)

-- what was read at an index is the item there
pub call_read : (cs ds : List Call) (k : ℕ) (c : Call) → ds ≡ cs → k < length cs → c ≡ get_or ds k c → slice_get cs k ≡ Some c
call_read cs ds k c same l is = slice_get_read cs (length cs) k c refl l (is ∙ ap (λ (xs : List Call). get_or xs k c) same)

-- the stamp of what was read at an index
pub stamp_read : (ds : List Call) (k : ℕ) (c : Call) (o q : Option ℕ) → c ≡ get_or ds k c → o ≡ stamp_of (get_or ds k c).answer → o ≡ q → stamp_of c.answer ≡ q
stamp_read ds k c o q is given e = ap (λ (x : Call). stamp_of x.answer) is ∙ sym given ∙ e

-- the stamp of a call is one number
same_stamp : (cs : List Call) (k t u : ℕ) (c d : Call) → slice_get cs k ≡ Some c → stamp_of c.answer ≡ Some t → slice_get cs k ≡ Some d → stamp_of d.answer ≡ Some u → t ≡ u
same_stamp cs k t u c d at is at_d is_d = same_Some _ _ (sym is ∙ ap (λ (x : Call). stamp_of x.answer) (same_Some _ _ (sym at ∙ at_d)) ∙ is_d)

-- a call without a stamp has no stamp
no_stamp : (cs : List Call) (k u : ℕ) (c d : Call) → slice_get cs k ≡ Some c → stamp_of c.answer ≡ None → slice_get cs k ≡ Some d → stamp_of d.answer ≡ Some u → ⊥
no_stamp cs k u c d at is at_d is_d =
    let e = ap (λ (x : Call). stamp_of x.answer) (same_Some _ _ (sym at ∙ at_d)) in
    cc

module _ (r : Record) (p k : ℕ) (c : Call) (at : slice_get (calls_of r p) k ≡ Some c) where
  keys_kept : (t : ℕ) → stamp_of c.answer ≡ Some t → t % 2 ≡ 0 → ¬ IsGivenIn t (take k (calls_of r p)) → KeepsKeys r p k
  keys_kept t is even new = record {
    even = λ d u at_d is_d. subst (λ n. n % 2 ≡ 0) (same_stamp (calls_of r p) k t u c d at is at_d is_d) even;
    once = λ i u b d l at_b at_d is_b is_d. new (i, b, slice_get-take (calls_of r p) k i l ∙ at_b, is_b ∙ ap (λ n. Some n) (sym (same_stamp (calls_of r p) k t u c d at is at_d is_d)));
  }

  keys_even : (t : ℕ) → stamp_of c.answer ≡ Some t → KeepsKeys r p k → t % 2 ≡ 0
  keys_even t is kept = kept.even c t at is

  keys_new : (t : ℕ) → stamp_of c.answer ≡ Some t → KeepsKeys r p k → ¬ IsGivenIn t (take k (calls_of r p))
  keys_new t is kept g =
      let front = in_front (calls_of r p) k g.0 g.1 g.2 in
      kept.once g.0 t g.1 c front.0 front.1 at g.3 is

  pub keys_by : (t : ℕ) → stamp_of c.answer ≡ Some t → t % 2 ≡ 0 → (b : Bool) (cs : List Call) → cs ≡ calls_of r p → (IsTrue b ↔ IsGivenIn t (take k cs)) → (IsTrue (not b) ↔ KeepsKeys r p k)
  keys_by t is even true cs same h = ((λ e. cc e), (λ kept. absurd (keys_new t is kept (subst (λ xs. IsGivenIn t (take k xs)) same (h.0 refl)))))
  keys_by t is even false cs same h = ((λ _. keys_kept t is even (λ g. cc (h.1 (subst (λ xs. IsGivenIn t (take k xs)) (sym same) g)))), (λ _. refl))

  pub keys_odd : (t : ℕ) → stamp_of c.answer ≡ Some t → (t % 2 ≡ 0 → ⊥) → (IsTrue (t % 2 == 0) ↔ KeepsKeys r p k)
  keys_odd t is odd = ((λ e. absurd (odd ((Decides-eqb (t % 2) 0).0 e))), (λ kept. absurd (odd (keys_even t is kept))))

  pub keys_unstamped : stamp_of c.answer ≡ None → KeepsKeys r p k
  keys_unstamped is = record {
    even = λ d u at_d is_d. absurd (no_stamp (calls_of r p) k u c d at is at_d is_d);
    once = λ i u b d l at_b at_d is_b is_d. no_stamp (calls_of r p) k u c d at is at_d is_d;
  }

  pub order_by : (t : ℕ) → stamp_of c.answer ≡ Some t → (b : Bool) (cs : List Call) → cs ≡ calls_of r p → (IsTrue b ↔ AreSeenBelow t (take k cs)) → (IsTrue b ↔ KeepsOrder r p k)
  order_by t is b cs same h = (
    (λ e i s u x d l at_x at_d seen is_d. subst (λ n. s < n) (same_stamp (calls_of r p) k t u c d at is at_d is_d) (h.0 e i s x (ap (λ xs. slice_get (take k xs) i) same ∙ slice_get-take (calls_of r p) k i l ∙ at_x) seen)),
    (λ kept. h.1 (λ i s x at_x seen. (let front = in_front (calls_of r p) k i x (ap (λ xs. slice_get (take k xs) i) (sym same) ∙ at_x) in kept i s t x c front.0 front.1 at seen is))),
  )

  pub order_unstamped : stamp_of c.answer ≡ None → KeepsOrder r p k
  order_unstamped is i s u x d l at_x at_d seen is_d = absurd (no_stamp (calls_of r p) k u c d at is at_d is_d)

-- ---- one call more

-- what stands in a longer front
later : {A : Type 0} (xs : List A) (k i : ℕ) (x : A) → slice_get (take k xs) i ≡ Some x → slice_get (take (k + 1) xs) i ≡ Some x
later xs k i x e =
    let f = in_front xs k i x e in
    slice_get-take xs (k + 1) i (omega (arith, f.0)) ∙ f.1

last_one : {A : Type 0} (xs : List A) (k : ℕ) (x : A) → slice_get xs k ≡ Some x → slice_get (take (k + 1) xs) k ≡ Some x
last_one xs k x e = slice_get-take xs (k + 1) k (omega arith) ∙ e

earlier_or : {A : Type 0} (xs : List A) (k i : ℕ) (c x : A) → slice_get xs k ≡ Some c → slice_get (take (k + 1) xs) i ≡ Some x → (slice_get (take k xs) i ≡ Some x) ⊎ (x ≡ c)
earlier_or xs k i c x at e = go (before i k (in_front xs (k + 1) i x e).0)
  where
    before : (i k : ℕ) → i < k + 1 → (i < k) ⊎ (i ≡ k)
    before i k l = grind arith

    go : ((i < k) ⊎ (i ≡ k)) → (slice_get (take k xs) i ≡ Some x) ⊎ (x ≡ c)
    go (inl l) = inl (slice_get-take xs k i l ∙ (in_front xs (k + 1) i x e).1)
    go (inr f) = inr (same_Some x c (sym (in_front xs (k + 1) i x e).1 ∙ ap (slice_get xs) f ∙ at))

pub none_given : (given : BTreeSet ℕ) → given.keys ≡ [] → (cs : List Call) → AreGiven given (take 0 cs)
none_given given e cs t = ((λ h. absurd (none (sym (ap (list_any (is_at (nat_cmp t))) e) ∙ h))), (λ g. absurd (empty cs g)))
  where
    none : false ≡ true → ⊥
    none e = cc

    empty : (cs : List Call) → IsGivenIn t (take 0 cs) → ⊥
    empty [] g = cc g.2
    empty (c ∷ cs) g = cc g.2

pub given_next : (cs : List Call) (k : ℕ) (c : Call) (m n : BTreeSet ℕ) → slice_get cs k ≡ Some c → AreGiven m (take k cs) → Gives (stamp_of c.answer) m n → AreGiven n (take (k + 1) cs)
given_next cs k c m n at h gives t = go (stamp_of c.answer) refl gives
  where
    more : IsGivenIn t (take k cs) → IsGivenIn t (take (k + 1) cs)
    more g = (g.0, g.1, later cs k g.0 g.1 g.2, g.3)

    back : (stamp_of c.answer ≡ Some t → ⊥) → IsGivenIn t (take (k + 1) cs) → IsGivenIn t (take k cs)
    back other g = elim (earlier_or cs k g.0 c g.1 at g.2) [ inl e ↦ (g.0, g.1, e, g.3) | inr e ↦ absurd (other (ap (λ (x : Call). stamp_of x.answer) (sym e) ∙ g.3)) ]

    there : (s : ℕ) → stamp_of c.answer ≡ Some s → (b : Bool) → (s == t) ≡ b → contains nat_cmp n t ≡ (if b then true else contains nat_cmp m t) → IsTrue (contains nat_cmp n t) ↔ IsGivenIn t (take (k + 1) cs)
    there s is true e f =
        let same : s ≡ t = (Decides-eqb s t).0 e in
        ((λ _. (k, c, last_one cs k c at, is ∙ ap (λ x. Some x) same)), (λ _. f))
    there s is false e f = (
      (λ g. more ((h t).0 (sym f ∙ g))),
      (λ g. f ∙ (h t).1 (back (λ y. cc (sym e ∙ (Decides-eqb s t).1 (same_Some s t (sym is ∙ y)))) g)),
    )

    go : (o : Option ℕ) → stamp_of c.answer ≡ o → Gives o m n → IsTrue (contains nat_cmp n t) ↔ IsGivenIn t (take (k + 1) cs)
    go None is g = ((λ x. more ((h t).0 (sym (g t) ∙ x))), (λ x. g t ∙ (h t).1 (back (λ y. cc (is, y)) x)))
    go (Some s) is g = there s is (s == t) refl (g t)

pub none_seen : (cs : List Call) → IsMost None (take 0 cs)
none_seen cs t = ((λ _ i s b at seen. absurd (empty cs i b at)), (λ _ s e. absurd (no_stamp_none s e)))
  where
    empty : (cs : List Call) (i : ℕ) (b : Call) → slice_get (take 0 cs) i ≡ Some b → ⊥
    empty [] i b at = cc at
    empty (c ∷ cs) i b at = cc at

    no_stamp_none : (s : ℕ) → ◌≡◌ {A = Option ℕ} None (Some s) → ⊥
    no_stamp_none s e = cc

pub most_next : (cs : List Call) (k : ℕ) (c : Call) (one more : Option ℕ) → slice_get cs k ≡ Some c → IsMost one (take k cs) → ((t : ℕ) → IsBelow more t ↔ (IsBelow one t × IsBelow (seen_stamp c.answer) t)) → IsMost more (take (k + 1) cs)
most_next cs k c one more at h both t = (
  (λ below i s b here seen. (
      let parts = (both t).0 below in
      elim (earlier_or cs k i c b at here) [
        | inl e ↦ (h t).0 parts.0 i s b e seen
        | inr e ↦ parts.1 s (ap (λ (x : Call). seen_stamp x.answer) (sym e) ∙ seen)
      ])),
  (λ all. (both t).1 (
    (h t).1 (λ i s b here seen. all i s b (later cs k i b here) seen),
    λ s seen. all k s c (last_one cs k c at) seen,
  )),
)
