-- Texts of two parts with a space between them, read one part after the other.
use Rattle.std.proofs.Common.{◌≡◌, ◌≢◌, ℕ, ◌+◌, ◌/◌, ◌%◌, ◌^◌, ◌<◌, Bool, true, false, cond, eqb, List, [], ◌∷◌, ◌++◌, drop, Option, Some, None, codes, refl, sym, ap, subst, ◌∙◌, arith}
use Rattle.std.specs.Fmt.{decimal}
use Rattle.std.proofs.lemmas.Fmt.{decimal_by_steps}
use Rattle.b1_model.specs.declared.commands.Command.{Command}
use Rattle.b1_model.specs.declared.naming.Limits.{Limits}
use Rattle.b1_model.specs.declared.naming.PeerSpec.{PeerSpec}
use Rattle.b1_model.specs.declared.naming.Wire.{Wire}
use Rattle.b1_model.specs.declared.version.Version.TheVariants.{Two}
use Rattle.b1_records.specs.Spelling.{Is32, Is64, AreLimits}
use Rattle.b1_script.specs.Spelling.{IsSpec}
use Rattle.b1_text_words.specs.declared.items.Form.TheVariants.{Script as in_script}
use Rattle.b1_text_words.specs.Commands.{command_text_in, IsCommand}
use Rattle.b1_text_words.specs.Numbers.{script_handle_text}
use Rattle.b1_text_words.specs.Words.{Reads, IsFree}
use Rattle.b1_text_words.proofs.Languages.{joined_first, free_append}
use Rattle.b1_text.specs.Bodies.{two_text, AreTwo, limits_body, pool_body, IsPoolWithLimits, peer_body, end_body, IsEnd, wire_body, cookie_word, marked_body, IsMarked}
use Rattle.b1_text.specs.Drafts.{HasWireFields}

not_free : (s : ℕ) (a b : List ℕ) → IsFree s (a ++ s ∷ b) → ⊥
not_free s [] b p = p.0 refl
not_free s (c ∷ a) b p = not_free s a b p.1

-- a text of two parts: the first has no space
pub record Cut {A B C : Type 0} (ta : A → List ℕ) (IsA : A → Type 0) (tb : B → List ℕ) (IsB : B → Type 0) (tc : C → List ℕ) (IsC : C → Type 0) : Type 0 where
  pub first : C → A
  pub rest : C → B
  pub text : (c : C) → tc c ≡ ta (first c) ++ 32 ∷ tb (rest c)
  pub parts : (c : C) → IsC c → IsA (first c) × IsB (rest c)
  pub make : (c : C) → IsA (first c) → IsB (rest c) → IsC c
  pub unique : (c d : C) → first c ≡ first d → rest c ≡ rest d → c ≡ d
  pub free : (a : A) → IsA a → IsFree 32 (ta a)

pub no_space : {A B C : Type 0} {ta : A → List ℕ} {IsA : A → Type 0} {tb : B → List ℕ} {IsB : B → Type 0} {tc : C → List ℕ} {IsC : C → Type 0} (k : Cut ta IsA tb IsB tc IsC) (line : List ℕ) → IsFree 32 line → Reads tc IsC line None
no_space {ta = ta} {tb = tb} k line plain =
    record { found = tt; whole = λ c is same. absurd (not_free 32 (ta (k.first c)) (tb (k.rest c)) (subst (λ (x : List ℕ). IsFree 32 x) (same ∙ k.text c) plain)) }

some_none : {A : Type 0} (x : Option A) (a : A) → x ≡ None → x ≡ Some a → ⊥
some_none None a h e = cc
some_none (Some b) a h e = cc

some_same : {A : Type 0} (x : Option A) (a b : A) → x ≡ Some a → x ≡ Some b → a ≡ b
some_same x a b h e = let both : Some a ≡ Some b = sym h ∙ e in cc

split_of : {A B C : Type 0} {ta : A → List ℕ} {IsA : A → Type 0} {tb : B → List ℕ} {IsB : B → Type 0} {tc : C → List ℕ} {IsC : C → Type 0} (k : Cut ta IsA tb IsB tc IsC) (line w r : List ℕ) → line ≡ w ++ 32 ∷ r → IsFree 32 w
    → (c : C) → IsC c → line ≡ tc c → (w ≡ ta (k.first c)) × (r ≡ tb (k.rest c))
split_of {ta = ta} {tb = tb} k line w r split plain c is same =
    joined_first 32 w (ta (k.first c)) r (tb (k.rest c)) plain (k.free (k.first c) (k.parts c is).0) (sym split ∙ same ∙ k.text c)

pub no_first : {A B C : Type 0} {ta : A → List ℕ} {IsA : A → Type 0} {tb : B → List ℕ} {IsB : B → Type 0} {tc : C → List ℕ} {IsC : C → Type 0} (k : Cut ta IsA tb IsB tc IsC) (line w r : List ℕ) (x : Option A) → line ≡ w ++ 32 ∷ r → IsFree 32 w
    → Reads ta IsA w x → x ≡ None → Reads tc IsC line None
no_first k line w r x split plain reads none =
    record { found = tt; whole = λ c is same. let h = split_of k line w r split plain c is same in absurd (some_none x (k.first c) none (reads.whole (k.first c) (k.parts c is).0 h.0)) }

pub no_rest : {A B C : Type 0} {ta : A → List ℕ} {IsA : A → Type 0} {tb : B → List ℕ} {IsB : B → Type 0} {tc : C → List ℕ} {IsC : C → Type 0} (k : Cut ta IsA tb IsB tc IsC) (line w r : List ℕ) (y : Option B) → line ≡ w ++ 32 ∷ r → IsFree 32 w
    → Reads tb IsB r y → y ≡ None → Reads tc IsC line None
no_rest k line w r y split plain reads none =
    record { found = tt; whole = λ c is same. let h = split_of k line w r split plain c is same in absurd (some_none y (k.rest c) none (reads.whole (k.rest c) (k.parts c is).1 h.1)) }

read_is : {A : Type 0} {text : A → List ℕ} {IsOf : A → Type 0} (word : List ℕ) (r : Option A) (x : A) → Reads text IsOf word r → r ≡ Some x → Reads text IsOf word (Some x)
read_is {text = text} {IsOf = IsOf} word r x reads is = subst (λ o. Reads text IsOf word o) is reads

pub both_parts : {A B C : Type 0} {ta : A → List ℕ} {IsA : A → Type 0} {tb : B → List ℕ} {IsB : B → Type 0} {tc : C → List ℕ} {IsC : C → Type 0} (k : Cut ta IsA tb IsB tc IsC) (line w r : List ℕ) (x : Option A) (y : Option B) (c : C) → line ≡ w ++ 32 ∷ r → IsFree 32 w
    → Reads ta IsA w x → x ≡ Some (k.first c) → Reads tb IsB r y → y ≡ Some (k.rest c) → Reads tc IsC line (Some c)
both_parts {ta = ta} {IsA = IsA} {tb = tb} {IsB = IsB} {tc = tc} {IsC = IsC} k line w r x y c split plain ra xa rb yb =
    let fa = (read_is w x (k.first c) ra xa).found in
    let fb = (read_is r y (k.rest c) rb yb).found in
    record {
      found = (k.make c fa.0 fb.0, split ∙ ap (λ (z : List ℕ). z ++ 32 ∷ r) fa.1 ∙ ap (λ (z : List ℕ). ta (k.first c) ++ 32 ∷ z) fb.1 ∙ sym (k.text c));
      whole = λ d is same.
          let h = split_of k line w r split plain d is same in
          let one = some_same x (k.first c) (k.first d) xa (ra.whole (k.first d) (k.parts d is).0 h.0) in
          let two = some_same y (k.rest c) (k.rest d) yb (rb.whole (k.rest d) (k.parts d is).1 h.1) in
          ap (λ z. Some z) (k.unique c d one two);
    }

-- ---- words without spaces

decimal_free : (n : ℕ) → n < 2 ^ 64 → IsFree 32 (decimal n)
decimal_free n small = decimal_by_steps (λ _ ds. IsFree 32 ds) (λ m low. (omega arith, tt)) (λ m ds high h. free_append 32 ds ((48 + m % 10) ∷ []) h (omega arith, tt)) n small

pub free_32 : (n : ℕ) → Is32 n → IsFree 32 (decimal n)
free_32 n small = decimal_free n (omega (arith, small))

pick_free : (b : Bool) (x y : List ℕ) → IsFree 32 x → IsFree 32 y → IsFree 32 (cond b x y)
pick_free true x y h k = h
pick_free false x y h k = k

pub handle_free : (n : ℕ) → Is64 n → IsFree 32 (script_handle_text n)
handle_free n small =
    pick_free (eqb (n % 2) 1) (codes "@" ++ decimal (n / 128) ++ codes "." ++ decimal (n / 2 % 64)) (decimal n)
    (free_append 32 (codes "@" ++ decimal (n / 128) ++ codes ".") (decimal (n / 2 % 64))
    (free_append 32 (codes "@" ++ decimal (n / 128)) (codes ".") (free_append 32 (codes "@") (decimal (n / 128)) (omega arith, tt) (decimal_free (n / 128) (omega (arith, small)))) (omega arith, tt))
    (decimal_free (n / 2 % 64) (omega arith)))
    (decimal_free n small)

pub cookie_free : (n : ℕ) → Is64 n → IsFree 32 (cookie_word n)
cookie_free n small = (omega arith, decimal_free n small)

-- ---- a word that stands before a value

pub word_reads : {A : Type 0} {text : A → List ℕ} {IsOf : A → Type 0} (word line rest : List ℕ) (r : Option A) → line ≡ word ++ rest → ((x : A) → word ++ rest ≡ word ++ text x → rest ≡ text x) → Reads text IsOf rest r → Reads (λ a. word ++ text a) IsOf line r
word_reads {text = text} {IsOf = IsOf} word line rest None split cut reads =
    record { found = tt; whole = λ x is same. reads.whole x is (cut x (sym split ∙ same)) }
word_reads {text = text} {IsOf = IsOf} word line rest (Some y) split cut reads =
    record { found = (reads.found.0, split ∙ ap (λ (z : List ℕ). word ++ z) reads.found.1); whole = λ x is same. reads.whole x is (cut x (sym split ∙ same)) }

pub cookie_reads : (word rest : List ℕ) (r : Option ℕ) → word ≡ codes "#" ++ rest → Reads decimal Is64 rest r → Reads cookie_word Is64 word r
cookie_reads word rest r split reads = word_reads {text = decimal} {IsOf = Is64} (codes "#") word rest r split (λ x same. ap (λ (z : List ℕ). drop 1 z) same) reads

pub no_cookie_reads : (word : List ℕ) → ((rest : List ℕ) → word ≢ codes "#" ++ rest) → Reads cookie_word Is64 word None
no_cookie_reads word none = record { found = tt; whole = λ x is same. absurd (none (decimal x) same) }

-- ---- the parts of a peer and of a wire

pub pair_same : (x y : ℕ × ℕ) → x.0 ≡ y.0 → x.1 ≡ y.1 → x ≡ y
pair_same (a, b) (c, d) h k = ap (λ z. (z, b)) h ∙ ap (λ z. (c, z)) k

pub marked_same : (x y : ℕ × Command) → x.0 ≡ y.0 → x.1 ≡ y.1 → x ≡ y
marked_same (a, b) (c, d) h k = ap (λ z. (z, b)) h ∙ ap (λ z. (c, z)) k

pub pool_same : (x y : ℕ × Limits) → x.0 ≡ y.0 → x.1 ≡ y.1 → x ≡ y
pool_same (a, b) (c, d) h k = ap (λ z. (z, b)) h ∙ ap (λ z. (c, z)) k

limits_of : ℕ → ℕ × ℕ → Limits
limits_of a b = record { entries = a; bytes = b.0; handles = b.1 }

pub limits_same : (l m : Limits) → l.entries ≡ m.entries → ◌≡◌ {A = ℕ × ℕ} (l.bytes, l.handles) (m.bytes, m.handles) → l ≡ m
unfolding limits_of
limits_same l m h k = ap (λ a. limits_of a (l.bytes, l.handles)) h ∙ ap (limits_of m.entries) k

peer_of : ℕ → ℕ × Limits → PeerSpec
peer_of a b = record { user = a; pool = b.0; limits = b.1 }

pub peer_same : (p q : PeerSpec) → p.user ≡ q.user → ◌≡◌ {A = ℕ × Limits} (p.pool, p.limits) (q.pool, q.limits) → p ≡ q
unfolding peer_of
peer_same p q h k = ap (λ a. peer_of a (p.pool, p.limits)) h ∙ ap (peer_of q.user) k

wire_of : ℕ → ℕ × ℕ → Wire
wire_of a b = record { from = a; to = b.1; number = b.0 }

pub wire_same : (v w : Wire) → v.from ≡ w.from → ◌≡◌ {A = ℕ × ℕ} (v.number, v.to) (w.number, w.to) → v ≡ w
unfolding wire_of
wire_same v w h k = ap (λ a. wire_of a (v.number, v.to)) h ∙ ap (wire_of w.from) k

abbrev pub two_cut : Cut decimal Is32 decimal Is32 two_text AreTwo
two_cut = record { first = λ x. x.0; rest = λ x. x.1; text = λ x. refl; parts = λ x is. (is.first, is.second); make = λ x a b. record { first = a; second = b }; unique = λ x y a b. pair_same x y a b; free = free_32 }

abbrev pub limits_cut : Cut decimal Is32 two_text AreTwo limits_body AreLimits
limits_cut = record {
  first = λ l. l.entries;
  rest = λ l. (l.bytes, l.handles);
  text = λ l. refl;
  parts = λ l is. (is.entries, record { first = is.bytes; second = is.handles });
  make = λ l a b. record { entries = a; bytes = b.first; handles = b.second };
  unique = λ l m a b. limits_same l m a b;
  free = free_32;
}

abbrev pub pool_cut : Cut decimal Is32 limits_body AreLimits pool_body IsPoolWithLimits
pool_cut = record { first = λ x. x.0; rest = λ x. x.1; text = λ x. refl; parts = λ x is. (is.pool, is.limits); make = λ x a b. record { pool = a; limits = b }; unique = λ x y a b. pool_same x y a b; free = free_32 }

abbrev pub peer_cut : Cut decimal Is32 pool_body IsPoolWithLimits peer_body IsSpec
peer_cut = record {
  first = λ p. p.user;
  rest = λ p. (p.pool, p.limits);
  text = λ p. refl;
  parts = λ p is. (is.user, record { pool = is.pool; limits = is.limits });
  make = λ p a b. record { user = a; pool = b.pool; limits = b.limits };
  unique = λ p q a b. peer_same p q a b;
  free = free_32;
}

abbrev pub end_cut : Cut script_handle_text Is64 decimal Is32 end_body IsEnd
end_cut = record { first = λ x. x.0; rest = λ x. x.1; text = λ x. refl; parts = λ x is. (is.number, is.to); make = λ x a b. record { number = a; to = b }; unique = λ x y a b. pair_same x y a b; free = handle_free }

abbrev pub wire_cut : Cut decimal Is32 end_body IsEnd wire_body HasWireFields
wire_cut = record {
  first = λ w. w.from;
  rest = λ w. (w.number, w.to);
  text = λ w. refl;
  parts = λ w is. (is.from, record { number = is.number; to = is.to });
  make = λ w a b. record { from = a; to = b.to; number = b.number };
  unique = λ v w a b. wire_same v w a b;
  free = free_32;
}

abbrev pub marked_cut : Cut cookie_word Is64 (command_text_in in_script) (IsCommand in_script Two) marked_body IsMarked
marked_cut = record { first = λ x. x.0; rest = λ x. x.1; text = λ x. refl; parts = λ x is. (is.cookie, is.command); make = λ x a b. record { cookie = a; command = b }; unique = λ x y a b. marked_same x y a b; free = cookie_free }
