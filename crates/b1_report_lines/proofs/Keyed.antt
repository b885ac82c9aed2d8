-- A word at the front tells the form of what follows it.
use Rattle.std.proofs.Common.{◌≡◌, ℕ, List, [], ◌∷◌, ◌++◌, Ok, Err, refl, sym, ap, subst, ◌∙◌, inl, inr}
use Rattle.std.proofs.lemmas.List.{append_assoc}
use Rattle.std.specs.List.{AllByRecursion}
use Rattle.b1_report_lines.specs.declared.unread.Stop.TheVariants.{Cut, Broken}
use Rattle.b1_report_lines.specs.Reading.{◌>>=◌, Read, mapped, strip, or_word}
use Rattle.b1_report_lines.specs.Forms.{or_words}
use Rattle.b1_report_lines.proofs.Exact.{IsExact, mapped_ok, mapped_err, bind_ok, bind_err, strip_ok, strip_cut, strip_stable}
use Rattle.b1_report_lines.proofs.Choices.{or_ok, or_cut, or_broken}

pub record FindsSome {K : Type 0} (find : List ℕ → Read (K × List ℕ)) (word : K → List ℕ) (IsKind : K → Type 0) : Type 0 where
  pub takes : (b : List ℕ) (x : K × List ℕ) → find b ≡ Ok x → (b ≡ word x.0 ++ x.1) × IsKind x.0
  pub cut : (b : List ℕ) → find b ≡ Err Cut → (k : K) × (t : List ℕ) × ((b ++ t ≡ word k) × IsKind k)
  pub stable : (b t : List ℕ) → find b ≡ Err Broken → find (b ++ t) ≡ Err Broken

abbrev no_word : {K : Type 0} → List ℕ → Read (K × List ℕ)
no_word bytes = Err Broken

pub finds_none : {K : Type 0} (word : K → List ℕ) (IsKind : K → Type 0) → FindsSome (no_word {K = K}) word IsKind
finds_none word IsKind = record {
  takes = λ b x e. absurd (cc);
  cut = λ b e. absurd (cc);
  stable = λ b t e. refl;
}

pub finds_word : {K : Type 0} (find : List ℕ → Read (K × List ℕ)) (word : K → List ℕ) (IsKind : K → Type 0) (k : K) → IsKind k
    → FindsSome find word IsKind → FindsSome (λ b. or_word (find b) k (word k) b) word IsKind
finds_word {K = K} find word IsKind k is finds = record {
  takes = λ b x e. elim (or_ok (find b) (mapped (λ rest. (k, rest)) (strip (word k) b)) x e) [
    | inl u ↦ finds.takes b x u
    | inr u ↦
        let m = mapped_ok {A = List ℕ} {B = K × List ℕ} (λ rest. (k, rest)) (strip (word k) b) x u in
        subst (λ (y : K × List ℕ). (b ≡ word y.0 ++ y.1) × IsKind y.0) m.2 (strip_ok (word k) b m.0 m.1, is)
  ];
  cut = λ b e. elim (or_cut (find b) (mapped (λ rest. (k, rest)) (strip (word k) b)) e) [
    | inl u ↦ finds.cut b u
    | inr u ↦
        let c = strip_cut (word k) b (mapped_err {A = List ℕ} {B = K × List ℕ} (λ rest. (k, rest)) (strip (word k) b) Cut u) in
        (k, c.0, (c.1, is))
  ];
  stable = λ b t e.
      let u = or_broken (find b) (mapped (λ rest. (k, rest)) (strip (word k) b)) e in
      rw (finds.stable b t u.0, strip_stable (word k) b t (mapped_err {A = List ℕ} {B = K × List ℕ} (λ rest. (k, rest)) (strip (word k) b) Broken u.1)) refl;
}

pub finds_words : {K : Type 0} (find : List ℕ → Read (K × List ℕ)) (word : K → List ℕ) (IsKind : K → Type 0) (ks : List K) → AllByRecursion IsKind ks
    → FindsSome find word IsKind → FindsSome (λ b. or_words word (find b) ks b) word IsKind
finds_words find word IsKind [] h finds = finds
finds_words find word IsKind (k ∷ ks) h finds = finds_words (λ b. or_word (find b) k (word k) b) word IsKind ks h.1 (finds_word find word IsKind k h.0 finds)

module _ {K A : Type 0} (Value : K → Type 0) (find : List ℕ → Read (K × List ℕ)) (word : K → List ℕ) (IsKind : K → Type 0)
    (tail : (k : K) → List ℕ → Read (Value k)) (made : (k : K) → Value k → A) (text_of : (k : K) → Value k → List ℕ) (FitsOf : (k : K) → Value k → Type 0)
    (text : A → List ℕ) (Fits : A → Type 0)
    (finds : FindsSome find word IsKind) (again : (k : K) (r : List ℕ) → IsKind k → find (word k ++ r) ≡ Ok (k, r))
    (each : (k : K) → IsExact (tail k) (text_of k) (FitsOf k))
    (same : (k : K) (v : Value k) → IsKind k → FitsOf k v → word k ++ text_of k v ≡ text (made k v))
    (there : (k : K) (v : Value k) → IsKind k → FitsOf k v → Fits (made k v))
    (onto : (a : A) → Fits a → (k : K) × (v : Value k) × ((IsKind k × FitsOf k v) × (made k v ≡ a)))
    (some : (k : K) × IsKind k) where
  abbrev rest_of : K × List ℕ → Read A
  rest_of x = mapped {A = Value x.0} {B = A} (made x.0) (tail x.0 x.1)

  abbrev keyed : List ℕ → Read A
  keyed b = find b >>= rest_of

  keyed_takes : (b : List ℕ) (a : A) → keyed b ≡ Ok a → (b ≡ text a) × Fits a
  keyed_takes b a e =
      let x = bind_ok (find b) rest_of a e in
      let k : K = x.0.0 in
      let v = mapped_ok {A = Value k} {B = A} (made k) (tail k x.0.1) a x.2 in
      let f = finds.takes b x.0 x.1 in
      let t = (each k).takes x.0.1 v.0 v.1 in
      let whole : b ≡ text (made k v.0) = f.0 ∙ ap (λ (r : List ℕ). word k ++ r) t.0 ∙ same k v.0 f.1 t.1 in
      subst (λ (z : A). (b ≡ text z) × Fits z) v.2 (whole, there k v.0 f.1 t.1)

  keyed_again : (a : A) → Fits a → keyed (text a) ≡ Ok a
  keyed_again a h =
      let o = onto a h in
      let k : K = o.0 in
      let v : Value k = o.1 in
      let words : word k ++ text_of k v ≡ text a = same k v o.2.0.0 o.2.0.1 ∙ ap text o.2.1 in
      subst (λ (b : List ℕ). keyed b ≡ Ok a) words
      (ap (λ (r : Read (K × List ℕ)). r >>= rest_of) (again k (text_of k v) o.2.0.0) ∙ ap (mapped {A = Value k} {B = A} (made k)) ((each k).again v o.2.0.1) ∙ ap (λ (z : A). Ok z) o.2.1)

  keyed_cut : (b : List ℕ) → keyed b ≡ Err Cut → (t : List ℕ) × (a : A) × ((b ++ t ≡ text a) × Fits a)
  keyed_cut b e = elim (bind_err (find b) rest_of Cut e) [
    | inl u ↦
        let c = finds.cut b u in
        let k : K = c.0 in
        let v = (each k).some in
        (c.1 ++ text_of k v.0, made k v.0, (sym (append_assoc b c.1 (text_of k v.0)) ∙ ap (λ (r : List ℕ). r ++ text_of k v.0) c.2.0 ∙ same k v.0 c.2.1 v.1, there k v.0 c.2.1 v.1))
    | inr u ↦
        let k : K = u.0.0 in
        let f = finds.takes b u.0 u.1 in
        let c = (each k).cut u.0.1 (mapped_err {A = Value k} {B = A} (made k) (tail k u.0.1) Cut u.2) in
        (c.0, made k c.1, (ap (λ (r : List ℕ). r ++ c.0) f.0 ∙ append_assoc (word k) u.0.1 c.0 ∙ ap (λ (r : List ℕ). word k ++ r) c.2.0 ∙ same k c.1 f.1 c.2.1, there k c.1 f.1 c.2.1))
  ]

  keyed_stable : (b t : List ℕ) → keyed b ≡ Err Broken → keyed (b ++ t) ≡ Err Broken
  keyed_stable b t e = elim (bind_err (find b) rest_of Broken e) [
    | inl u ↦ ap (λ (r : Read (K × List ℕ)). r >>= rest_of) (finds.stable b t u)
    | inr u ↦
        let k : K = u.0.0 in
        let f = finds.takes b u.0 u.1 in
        let longer : b ++ t ≡ word k ++ (u.0.1 ++ t) = ap (λ (r : List ℕ). r ++ t) f.0 ∙ append_assoc (word k) u.0.1 t in
        ap keyed longer ∙ ap (λ (r : Read (K × List ℕ)). r >>= rest_of) (again k (u.0.1 ++ t) f.1)
        ∙ ap (mapped {A = Value k} {B = A} (made k)) ((each k).stable u.0.1 t (mapped_err {A = Value k} {B = A} (made k) (tail k u.0.1) Broken u.2))
  ]

  pub keyed_exact : IsExact (λ b. find b >>= λ (x : K × List ℕ). mapped {A = Value x.0} {B = A} (made x.0) (tail x.0 x.1)) text Fits
  keyed_exact = record {
    takes = keyed_takes;
    again = keyed_again;
    cut = keyed_cut;
    stable = keyed_stable;
    some = (made some.0 (each some.0).some.0, there some.0 (each some.0).some.0 some.1 (each some.0).some.1);
  }
