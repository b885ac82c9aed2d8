-- Values that are written as two, with a separator between them.
use Rattle.std.proofs.Common.{◌≡◌, ◌≢◌, arith, ℕ, ◌-◌, ◌^◌, ◌<◌, ◌≤◌, List, [], ◌∷◌, ◌++◌, inl, inr, Option, Some, None, refl, sym, ap, subst, ◌∙◌, append_assoc}
use Rattle.std.specs.Prelude.{decimal}
use Rattle.std.specs.Int.{IsInRange}
use Rattle.b1_model.specs.declared.naming.Limits.{Limits}
use Rattle.b1_text_words.specs.Commands.{AreLimits, limits_text}
use Rattle.b1_text_words.specs.Items.{IsUpTo, IsPair, IsNoDigit}
use Rattle.b1_text_words.specs.Numbers.{pair_text}
use Rattle.b1_text_words.specs.Words.{Spells, Reads, Begins, IsFree, Joined}
use Rattle.b1_text_words.proofs.References.{free_from, decimal_bytes}
use Rattle.b1_text_words.proofs.Languages.{read_found, read_none, joined_begins, joined_none, begins_joined, first_begins, begins_first, joined_first}

-- how the one value and the two stand to each other
pub record Pairing {A B C : Type 0} (s : ℕ) (first_text : A → List ℕ) (IsFirst : A → Type 0) (second_text : B → List ℕ) (IsSecond : B → Type 0) (text : C → List ℕ) (IsOf : C → Type 0) : Type 0 where
  pub first : C → A
  pub second : C → B
  pub both : A → B → C
  pub free : (a : A) → IsFirst a → IsFree s (first_text a)
  pub written : (c : C) → text c ≡ first_text (first c) ++ s ∷ second_text (second c)
  pub is_first : (c : C) → IsOf c → IsFirst (first c)
  pub is_second : (c : C) → IsOf c → IsSecond (second c)
  pub is_of : (a : A) (b : B) → IsFirst a → IsSecond b → IsOf (both a b)
  pub first_of : (a : A) (b : B) → first (both a b) ≡ a
  pub second_of : (a : A) (b : B) → second (both a b) ≡ b
  pub same : (c : C) → both (first c) (second c) ≡ c

pub begins_like : (K L : List ℕ → Type 0) (w : List ℕ) → ((x : List ℕ) → K x → L x) → Begins K w → Begins L w
begins_like K L w to b = record { rest = b.rest; whole = to (w ++ b.rest) b.whole }

pub spells_free : {A : Type 0} (text : A → List ℕ) (IsOf : A → Type 0) (s : ℕ) → ((a : A) → IsOf a → IsFree s (text a)) → (x : List ℕ) → Spells text IsOf x → IsFree s x
spells_free text IsOf s free x spelled = subst (IsFree s) (sym spelled.same) (free spelled.value spelled.is_of)

module _ {A B C : Type 0} (s : ℕ) (first_text : A → List ℕ) (IsFirst : A → Type 0) (second_text : B → List ℕ) (IsSecond : B → Type 0) (text : C → List ℕ) (IsOf : C → Type 0)
    (p : Pairing s first_text IsFirst second_text IsSecond text IsOf) where
  to_joined : (w : List ℕ) → Spells text IsOf w → Joined s (Spells first_text IsFirst) (Spells second_text IsSecond) w
  to_joined w x = record {
    first = first_text (p.first x.value);
    rest = second_text (p.second x.value);
    is_first = record { value = p.first x.value; is_of = p.is_first x.value x.is_of; same = refl };
    is_rest = record { value = p.second x.value; is_of = p.is_second x.value x.is_of; same = refl };
    whole = x.same ∙ p.written x.value;
  }

  from_joined : (w : List ℕ) → Joined s (Spells first_text IsFirst) (Spells second_text IsSecond) w → Spells text IsOf w
  from_joined w j = record {
    value = p.both j.is_first.value j.is_rest.value;
    is_of = p.is_of j.is_first.value j.is_rest.value j.is_first.is_of j.is_rest.is_of;
    same = j.whole ∙ ap (λ t. t ++ s ∷ j.rest) j.is_first.same ∙ ap (λ t. first_text j.is_first.value ++ s ∷ t) j.is_rest.same
        ∙ ap (λ a. first_text a ++ s ∷ second_text j.is_rest.value) (sym (p.first_of j.is_first.value j.is_rest.value))
        ∙ ap (λ b. first_text (p.first (p.both j.is_first.value j.is_rest.value)) ++ s ∷ second_text b) (sym (p.second_of j.is_first.value j.is_rest.value))
        ∙ sym (p.written (p.both j.is_first.value j.is_rest.value));
  }

  free_first : (x : List ℕ) → Spells first_text IsFirst x → IsFree s x
  free_first = spells_free first_text IsFirst s p.free

  parts_of : (w a b : List ℕ) (c : C) → w ≡ a ++ s ∷ b → IsFree s a → IsOf c → w ≡ text c → (a ≡ first_text (p.first c)) × (b ≡ second_text (p.second c))
  parts_of w a b c cut plain is same =
      joined_first s a (first_text (p.first c)) b (second_text (p.second c)) plain (p.free (p.first c) (p.is_first c is)) (sym cut ∙ same ∙ p.written c)

  -- what is read
  pub no_separator : (w : List ℕ) → IsFree s w → Reads text IsOf w None
  no_separator w plain = record { found = tt; whole = λ c is same. absurd (joined_none s (Spells first_text IsFirst) (Spells second_text IsSecond) w plain (to_joined w (record { value = c; is_of = is; same = same }))) }

  pub no_first : (w a b : List ℕ) (r : Option A) → w ≡ a ++ s ∷ b → IsFree s a → r ≡ None → Reads first_text IsFirst a r → Reads text IsOf w None
  no_first w a b r cut plain is reads = record {
    found = tt;
    whole = λ c of same.
        absurd (read_none first_text IsFirst a r reads is (record { value = p.first c; is_of = p.is_first c of; same = (parts_of w a b c cut plain of same).0 }));
  }

  pub no_second : (w a b : List ℕ) (r : Option B) → w ≡ a ++ s ∷ b → IsFree s a → r ≡ None → Reads second_text IsSecond b r → Reads text IsOf w None
  no_second w a b r cut plain is reads = record {
    found = tt;
    whole = λ c of same.
        absurd (read_none second_text IsSecond b r reads is (record { value = p.second c; is_of = p.is_second c of; same = (parts_of w a b c cut plain of same).1 }));
  }

  pub both_read : (w a b : List ℕ) (x : A) (y : B) (q : Option A) (r : Option B) → w ≡ a ++ s ∷ b → IsFree s a → q ≡ Some x → Reads first_text IsFirst a q → r ≡ Some y → Reads second_text IsSecond b r → Reads text IsOf w (Some (p.both x y))
  unfolding from_joined
  both_read w a b x y q r cut plain one firsts two seconds =
      let f = read_found first_text IsFirst a q x firsts one in
      let g = read_found second_text IsSecond b r y seconds two in
      let s' = from_joined w (record { first = a; rest = b; is_first = record { value = x; is_of = f.0; same = f.1 }; is_rest = record { value = y; is_of = g.0; same = g.1 }; whole = cut }) in
      record {
        found = (s'.is_of, s'.same);
        whole = λ c of same.
            let parts = parts_of w a b c cut plain of same in
            let left : q ≡ Some (p.first c) = firsts.whole (p.first c) (p.is_first c of) parts.0 in
            let right : r ≡ Some (p.second c) = seconds.whole (p.second c) (p.is_second c of) parts.1 in
            let xs : x ≡ p.first c = cc in
            let ys : y ≡ p.second c = cc in
            ap Some (ap (λ a'. p.both a' y) xs ∙ ap (λ b'. p.both (p.first c) b') ys ∙ p.same c);
      }

  -- the bytes that begin one
  pub begins_one : (w : List ℕ) → Begins (Spells second_text IsSecond) [] → Begins (Spells first_text IsFirst) w → Begins (Spells text IsOf) w
  begins_one w some b = begins_like (Joined s (Spells first_text IsFirst) (Spells second_text IsSecond)) (Spells text IsOf) w from_joined (first_begins s (Spells first_text IsFirst) (Spells second_text IsSecond) w b some)

  pub one_begins : (w : List ℕ) → IsFree s w → Begins (Spells text IsOf) w → Begins (Spells first_text IsFirst) w
  one_begins w plain b = begins_first s (Spells first_text IsFirst) (Spells second_text IsSecond) free_first w plain (begins_like (Spells text IsOf) (Joined s (Spells first_text IsFirst) (Spells second_text IsSecond)) w to_joined b)

  pub begins_two : (w a b : List ℕ) → w ≡ a ++ s ∷ b → Spells first_text IsFirst a → Begins (Spells second_text IsSecond) b → Begins (Spells text IsOf) w
  begins_two w a b cut f g = subst (Begins (Spells text IsOf)) (sym cut)
      (begins_like (Joined s (Spells first_text IsFirst) (Spells second_text IsSecond)) (Spells text IsOf) (a ++ s ∷ b) from_joined (begins_joined s (Spells first_text IsFirst) (Spells second_text IsSecond) a b f g))

  pub two_begin : (w a b : List ℕ) → w ≡ a ++ s ∷ b → IsFree s a → Begins (Spells text IsOf) w → Spells first_text IsFirst a × Begins (Spells second_text IsSecond) b
  two_begin w a b cut plain g = joined_begins s (Spells first_text IsFirst) (Spells second_text IsSecond) free_first a b plain
      (begins_like (Spells text IsOf) (Joined s (Spells first_text IsFirst) (Spells second_text IsSecond)) (a ++ s ∷ b) to_joined (subst (Begins (Spells text IsOf)) cut g))

-- the pairs of the texts

pub three : (s : ℕ) (a b c : List ℕ) → a ++ (s ∷ []) ++ b ++ (s ∷ []) ++ c ≡ a ++ s ∷ (b ++ s ∷ c)
three s a b c = append_assoc (a ++ (s ∷ []) ++ b) (s ∷ []) c ∙ append_assoc (a ++ (s ∷ [])) b (s ∷ c) ∙ append_assoc a (s ∷ []) (b ++ s ∷ c)

pub free_digits : (s most n : ℕ) → IsNoDigit s → most < 2 ^ 64 → n ≤ most → IsFree s (decimal n)
free_digits s most n other small within = free_from (IsInRange 48 57) s (decimal n) apart (decimal_bytes n (omega (arith, small, within))) where
  apart : (b : ℕ) → IsInRange 48 57 b → b ≢ s
  apart b range e = elim other [ inl below ↦ omega (arith, below, e, range) | inr above ↦ omega (arith, above, e, range) ]

abbrev pub of_small : (s : ℕ) → IsNoDigit s → Pairing s decimal (IsUpTo (2 ^ 32 - 1)) decimal (IsUpTo (2 ^ 32 - 1)) (pair_text s) IsPair
of_small s other = record {
  first = λ c. c.0;
  second = λ c. c.1;
  both = λ a b. (a, b);
  free = λ a within. free_digits s (2 ^ 32 - 1) a other (omega arith) within;
  written = λ c. refl;
  is_first = λ c is. omega (arith, is.0);
  is_second = λ c is. omega (arith, is.1);
  is_of = λ a b p q. (omega (arith, p), omega (arith, q));
  first_of = λ a b. refl;
  second_of = λ a b. refl;
  same = λ c. refl;
}

abbrev pub of_limits : Pairing {C = Limits} 32 decimal (IsUpTo (2 ^ 32 - 1)) (pair_text 32) IsPair limits_text AreLimits
of_limits = record {
  first = λ l. l.entries;
  second = λ l. (l.bytes, l.handles);
  both = λ a b. record { entries = a; bytes = b.0; handles = b.1 };
  free = λ a within. free_digits 32 (2 ^ 32 - 1) a (inl (omega arith)) (omega arith) within;
  written = λ l. three 32 (decimal l.entries) (decimal l.bytes) (decimal l.handles);
  is_first = λ l is. omega (arith, is.entries);
  is_second = λ l is. (is.bytes, is.handles);
  is_of = λ a b p q. record { entries = omega (arith, p); bytes = q.0; handles = q.1 };
  first_of = λ a b. refl;
  second_of = λ a b. refl;
  same = λ l. refl;
}

pub some_number : (most : ℕ) → Begins (Spells decimal (IsUpTo most)) []
some_number most = record { rest = decimal 0; whole = record { value = 0; is_of = omega arith; same = refl } }

pub some_pair : (s : ℕ) → IsNoDigit s → Begins (Spells (pair_text s) IsPair) []
some_pair s other = begins_one s decimal (IsUpTo (2 ^ 32 - 1)) decimal (IsUpTo (2 ^ 32 - 1)) (pair_text s) IsPair (of_small s other) [] (some_number (2 ^ 32 - 1)) (some_number (2 ^ 32 - 1))
