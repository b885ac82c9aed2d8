-- Bytes that begin the text of a value: behind a word, and cut at a space.
use Rattle.std.proofs.Common.{◌≡◌, ◌≢◌, ◌↔◌, ℕ, Bool, false, List, [], ◌∷◌, ◌++◌, Result, Ok, Err, inl, inr, ◌⊎◌, IsTrue, refl, sym, ap, ◌∙◌, append_assoc}
use Rattle.std.specs.Prelude.{IfOk}
use Rattle.b1_text_words.specs.Words.{Spells, Begins, IsFree}
use Rattle.b1_text_words.proofs.Languages.{joined_first}

-- ---- prefixes

-- of two texts that begin the same bytes, one begins the other
either_front : (a b c d : List ℕ) → a ++ b ≡ c ++ d → ((t : List ℕ) × (a ≡ c ++ t) × (t ++ b ≡ d)) ⊎ ((t : List ℕ) × (c ≡ a ++ t))
either_front a b [] d e = inl (a, refl, e)
either_front [] b (x ∷ c) d e = inr (x ∷ c, refl)
either_front (y ∷ a) b (x ∷ c) d e =
    let first : y ≡ x = cc in
    let others : a ++ b ≡ c ++ d = cc in
    elim (either_front a b c d others) [
      | inl h ↦ inl (h.0, ap (λ (z : ℕ). z ∷ a) first ∙ ap (λ (z : List ℕ). x ∷ z) h.1, h.2)
      | inr h ↦ inr (h.0, ap (λ (z : ℕ). z ∷ c) (sym first) ∙ ap (λ (z : List ℕ). y ∷ z) h.1)
    ]

cancel : (a b c : List ℕ) → a ++ b ≡ a ++ c → b ≡ c
cancel [] b c e = e
cancel (x ∷ a) b c e = let others : a ++ b ≡ a ++ c = cc in cancel a b c others

-- ---- other values of the same texts

pub begins_map : {A B : Type 0} (ta : A → List ℕ) (IsA : A → Type 0) (tb : B → List ℕ) (IsB : B → Type 0) (line : List ℕ) → ((a : A) → IsA a → (b : B) × IsB b × (ta a ≡ tb b)) → Begins (Spells ta IsA) line → Begins (Spells tb IsB) line
begins_map ta IsA tb IsB line f b =
    let v = f b.whole.value b.whole.is_of in
    record { rest = b.rest; whole = record { value = v.0; is_of = v.1; same = b.whole.same ∙ v.2 } }

-- the same values, told in two ways
pub begins_same : {A : Type 0} (text : A → List ℕ) (P Q : A → Type 0) (line : List ℕ) → ((a : A) → P a → Q a) → Begins (Spells text P) line → Begins (Spells text Q) line
begins_same text P Q line f b = record { rest = b.rest; whole = record { value = b.whole.value; is_of = f b.whole.value b.whole.is_of; same = b.whole.same } }

-- ---- behind a word

pub behind_word : {A : Type 0} (word : List ℕ) (text : A → List ℕ) (IsOf : A → Type 0) (line rest : List ℕ) → line ≡ word ++ rest → Begins (Spells text IsOf) rest → Begins (Spells (λ a. word ++ text a) IsOf) line
behind_word word text IsOf line rest split b =
    record {
      rest = b.rest;
      whole = record {
        value = b.whole.value;
        is_of = b.whole.is_of;
        same = ap (λ (z : List ℕ). z ++ b.rest) split ∙ append_assoc word rest b.rest ∙ ap (λ (z : List ℕ). word ++ z) b.whole.same;
      };
    }

pub of_word : {A : Type 0} (word : List ℕ) (text : A → List ℕ) (IsOf : A → Type 0) (line rest : List ℕ) → line ≡ word ++ rest → Begins (Spells (λ a. word ++ text a) IsOf) line → Begins (Spells text IsOf) rest
of_word word text IsOf line rest split b =
    let parts : word ++ (rest ++ b.rest) ≡ word ++ text b.whole.value
    = sym (append_assoc word rest b.rest) ∙ ap (λ (z : List ℕ). z ++ b.rest) (sym split) ∙ b.whole.same in
    record { rest = b.rest; whole = record { value = b.whole.value; is_of = b.whole.is_of; same = cancel word (rest ++ b.rest) (text b.whole.value) parts } }

pub within_word : {A : Type 0} (word : List ℕ) (text : A → List ℕ) (IsOf : A → Type 0) (line : List ℕ) (a : A) → IsOf a → Begins (λ w. w ≡ word) line → Begins (Spells (λ a. word ++ text a) IsOf) line
within_word word text IsOf line a is b =
    record { rest = b.rest ++ text a; whole = record { value = a; is_of = is; same = sym (append_assoc line b.rest (text a)) ∙ ap (λ (z : List ℕ). z ++ text a) b.whole } }

pub only_word : {A : Type 0} (word : List ℕ) (text : A → List ℕ) (IsOf : A → Type 0) (line : List ℕ) → ((rest : List ℕ) → line ≢ word ++ rest) → Begins (Spells (λ a. word ++ text a) IsOf) line → Begins (λ w. w ≡ word) line
only_word word text IsOf line apart b =
    elim (either_front line b.rest word (text b.whole.value) b.whole.same) [
      | inl h ↦ absurd (apart h.0 h.1)
      | inr h ↦ record { rest = h.0; whole = sym h.1 }
    ]

-- a test of what stands behind the word, and one where the line doesn't begin with the word
pub word_some : {A : Type 0} (word : List ℕ) (text : A → List ℕ) (IsOf : A → Type 0) (line rest : List ℕ) (r : Bool) → line ≡ word ++ rest → IsTrue r ↔ Begins (Spells text IsOf) rest → IsTrue r ↔ Begins (Spells (λ a. word ++ text a) IsOf) line
word_some word text IsOf line rest r split h = (λ t. behind_word word text IsOf line rest split (h.0 t), λ b. h.1 (of_word word text IsOf line rest split b))

pub word_none : {A : Type 0} (word : List ℕ) (text : A → List ℕ) (IsOf : A → Type 0) (line : List ℕ) (r : Bool) (a : A) → IsOf a → ((rest : List ℕ) → line ≢ word ++ rest) → IsTrue r ↔ Begins (λ w. w ≡ word) line → IsTrue r ↔ Begins (Spells (λ a. word ++ text a) IsOf) line
word_none word text IsOf line r a is apart h = (λ t. within_word word text IsOf line a is (h.0 t), λ b. h.1 (only_word word text IsOf line apart b))

-- the same values, told in two ways
pub same_test : {A : Type 0} (text : A → List ℕ) (P Q : A → Type 0) (line : List ℕ) (r : Bool) → ((a : A) → P a → Q a) → ((a : A) → Q a → P a) → IsTrue r ↔ Begins (Spells text P) line → IsTrue r ↔ Begins (Spells text Q) line
same_test text P Q line r f g h = (λ t. begins_same text P Q line f (h.0 t), λ b. h.1 (begins_same text Q P line g b))

-- the same texts, told in two ways
pub same_text : {A : Type 0} (text other : A → List ℕ) (IsOf : A → Type 0) (line : List ℕ) (r : Bool) → ((a : A) → text a ≡ other a) → IsTrue r ↔ Begins (Spells text IsOf) line → IsTrue r ↔ Begins (Spells other IsOf) line
same_text text other IsOf line r e h =
    (λ t. begins_map text IsOf other IsOf line (λ a is. (a, is, e a)) (h.0 t), λ b. h.1 (begins_map other IsOf text IsOf line (λ a is. (a, is, sym (e a))) b))

-- the same of an answer for which memory may be wanting
pub ok_test : {E P Q : Type 0} (r : Result Bool E) → ((b : Bool) → IsTrue b ↔ P → IsTrue b ↔ Q) → IfOk r (λ b. IsTrue b ↔ P) → IfOk r (λ b. IsTrue b ↔ Q)
ok_test (Ok b) f h = f b h
ok_test (Err e) f h = tt

-- no such text
pub never : {A : Type 0} (text : A → List ℕ) (IsOf : A → Type 0) (line : List ℕ) → (Begins (Spells text IsOf) line → ⊥) → IsTrue false ↔ Begins (Spells text IsOf) line
never text IsOf line none = (λ t. absurd cc, λ b. absurd (none b))

-- ---- cut at a space

stops : (w r f y : List ℕ) → IsFree 32 w → w ++ r ≡ f ++ 32 ∷ y → (t : List ℕ) × (w ++ t ≡ f)
stops [] r f y p e = (f, refl)
stops (c ∷ w) r [] y p e = absurd (p.0 (cc))
stops (c ∷ w) r (d ∷ f) y p e =
    let first : c ≡ d = cc in
    let others : w ++ r ≡ f ++ 32 ∷ y = cc in
    let h = stops w r f y p.1 others in
    (h.0, ap (λ (z : List ℕ). c ∷ z) h.1 ∙ ap (λ (z : ℕ). z ∷ f) first)

-- values whose texts have two parts, with a space between them
pub record Halves {A B C : Type 0} (ta : A → List ℕ) (tb : B → List ℕ) (tc : C → List ℕ) (IsC : C → Type 0) : Type 0 where
  pub first : C → A
  pub rest : C → B
  pub text : (c : C) → tc c ≡ ta (first c) ++ 32 ∷ tb (rest c)
  pub free : (c : C) → IsC c → IsFree 32 (ta (first c))

-- where no space is there, the first part begins with the bytes
pub first_of_halves : {A B C : Type 0} {ta : A → List ℕ} {tb : B → List ℕ} {tc : C → List ℕ} {IsC : C → Type 0} (k : Halves ta tb tc IsC) (IsA : A → Type 0) (line : List ℕ) → ((c : C) → IsC c → IsA (k.first c)) → IsFree 32 line → Begins (Spells tc IsC) line → Begins (Spells ta IsA) line
first_of_halves {ta = ta} {tb = tb} k IsA line f plain b =
    let c = b.whole.value in
    let h = stops line b.rest (ta (k.first c)) (tb (k.rest c)) plain (b.whole.same ∙ k.text c) in
    record { rest = h.0; whole = record { value = k.first c; is_of = f c b.whole.is_of; same = h.1 } }

pub halves_of_first : {A B C : Type 0} {ta : A → List ℕ} {tb : B → List ℕ} {tc : C → List ℕ} {IsC : C → Type 0} (k : Halves ta tb tc IsC) (IsA : A → Type 0) (line : List ℕ) → ((a : A) → IsA a → (c : C) × IsC c × (k.first c ≡ a)) → Begins (Spells ta IsA) line → Begins (Spells tc IsC) line
halves_of_first {ta = ta} {tb = tb} k IsA line f b =
    let v = f b.whole.value b.whole.is_of in
    let c = v.0 in
    record {
      rest = b.rest ++ 32 ∷ tb (k.rest c);
      whole = record {
        value = c;
        is_of = v.1;
        same = sym (append_assoc line b.rest (32 ∷ tb (k.rest c))) ∙ ap (λ (z : List ℕ). z ++ 32 ∷ tb (k.rest c)) (b.whole.same ∙ ap ta (sym v.2)) ∙ sym (k.text c);
      };
    }

pub halves_none : {A B C : Type 0} {ta : A → List ℕ} {tb : B → List ℕ} {tc : C → List ℕ} {IsC : C → Type 0} (k : Halves ta tb tc IsC) (IsA : A → Type 0) (line : List ℕ) (r : Bool) → ((c : C) → IsC c → IsA (k.first c)) → ((a : A) → IsA a → (c : C) × IsC c × (k.first c ≡ a)) → IsFree 32 line
    → IsTrue r ↔ Begins (Spells ta IsA) line → IsTrue r ↔ Begins (Spells tc IsC) line
halves_none k IsA line r f g plain h = (λ t. halves_of_first k IsA line g (h.0 t), λ b. h.1 (first_of_halves k IsA line f plain b))

-- where the first part is there, it is known
pub halves_split : {A B C : Type 0} {ta : A → List ℕ} {tb : B → List ℕ} {tc : C → List ℕ} {IsC : C → Type 0} (k : Halves ta tb tc IsC) (line w r : List ℕ) → line ≡ w ++ 32 ∷ r → IsFree 32 w → (b : Begins (Spells tc IsC) line)
    → (w ≡ ta (k.first b.whole.value)) × (r ++ b.rest ≡ tb (k.rest b.whole.value))
halves_split {ta = ta} {tb = tb} k line w r split plain b =
    let c = b.whole.value in
    joined_first 32 w (ta (k.first c)) (r ++ b.rest) (tb (k.rest c)) plain (k.free c b.whole.is_of) (sym (append_assoc w (32 ∷ r) b.rest) ∙ ap (λ (z : List ℕ). z ++ b.rest) (sym split) ∙ b.whole.same ∙ k.text c)

pub rest_of_halves : {A B C : Type 0} {ta : A → List ℕ} {tb : B → List ℕ} {tc : C → List ℕ} {IsC : C → Type 0} (k : Halves ta tb tc IsC) (IsB : B → Type 0) (line w r : List ℕ) → line ≡ w ++ 32 ∷ r → IsFree 32 w
    → ((c : C) → IsC c → w ≡ ta (k.first c) → IsB (k.rest c)) → Begins (Spells tc IsC) line → Begins (Spells tb IsB) r
rest_of_halves k IsB line w r split plain f b =
    let h = halves_split k line w r split plain b in
    record { rest = b.rest; whole = record { value = k.rest b.whole.value; is_of = f b.whole.value b.whole.is_of h.0; same = h.1 } }

pub halves_of_rest : {A B C : Type 0} {ta : A → List ℕ} {tb : B → List ℕ} {tc : C → List ℕ} {IsC : C → Type 0} (k : Halves ta tb tc IsC) (IsB : B → Type 0) (line w r : List ℕ) → line ≡ w ++ 32 ∷ r
    → ((b : B) → IsB b → (c : C) × IsC c × (w ≡ ta (k.first c)) × (k.rest c ≡ b)) → Begins (Spells tb IsB) r → Begins (Spells tc IsC) line
halves_of_rest {ta = ta} {tb = tb} k IsB line w r split f b =
    let v = f b.whole.value b.whole.is_of in
    let c = v.0 in
    record {
      rest = b.rest;
      whole = record {
        value = c;
        is_of = v.1;
        same = ap (λ (z : List ℕ). z ++ b.rest) split ∙ append_assoc w (32 ∷ r) b.rest ∙ ap (λ (z : List ℕ). z ++ 32 ∷ (r ++ b.rest)) v.2 ∙ ap (λ (z : List ℕ). ta (k.first c) ++ 32 ∷ z) (b.whole.same ∙ ap tb (sym v.3)) ∙ sym (k.text c);
      };
    }

pub halves_some : {A B C : Type 0} {ta : A → List ℕ} {tb : B → List ℕ} {tc : C → List ℕ} {IsC : C → Type 0} (k : Halves ta tb tc IsC) (IsB : B → Type 0) (line w r : List ℕ) (t : Bool) → line ≡ w ++ 32 ∷ r → IsFree 32 w
    → ((c : C) → IsC c → w ≡ ta (k.first c) → IsB (k.rest c)) → ((b : B) → IsB b → (c : C) × IsC c × (w ≡ ta (k.first c)) × (k.rest c ≡ b)) → IsTrue t ↔ Begins (Spells tb IsB) r → IsTrue t ↔ Begins (Spells tc IsC) line
halves_some k IsB line w r t split plain f g h = (λ s. halves_of_rest k IsB line w r split g (h.0 s), λ b. h.1 (rest_of_halves k IsB line w r split plain f b))

pub no_halves : {A B C : Type 0} {ta : A → List ℕ} {tb : B → List ℕ} {tc : C → List ℕ} {IsC : C → Type 0} (k : Halves ta tb tc IsC) (line w r : List ℕ) → line ≡ w ++ 32 ∷ r → IsFree 32 w
    → ((c : C) → IsC c → w ≡ ta (k.first c) → ⊥) → Begins (Spells tc IsC) line → ⊥
no_halves k line w r split plain f b = f b.whole.value b.whole.is_of (halves_split k line w r split plain b).0
