-- The bytes that begin the line of a wire.
use Rattle.std.proofs.Common.{◌≡◌, ◌≢◌, ◌↔◌, ℕ, ◌+◌, ◌-◌, ◌*◌, ◌/◌, ◌%◌, ◌^◌, ◌<◌, ◌≤◌, Bool, true, false, not, cond, eqb, ltb, List, [], ◌∷◌, ◌++◌, length, Option, Some, None, codes, IsTrue, ◌⊎◌, inl, inr, refl, sym, ap, subst, ◌∙◌, append_assoc, arith, eq-eqb}
use Rattle.std.specs.Prelude.{IsSomeAnd, slice_get, filter}
use Rattle.std.specs.Option.{option_map}
use Rattle.std.specs.Fmt.{decimal}
use Rattle.std.proofs.lemmas.Bool.{eqb-true, eqb-false, ne_eqb, cases_lt, le-ltb}
use Rattle.std.proofs.lemmas.List.Filters.{length-filter_both}
use Rattle.std.proofs.lemmas.Option.{slice_get_within}
use Rattle.std.proofs.lemmas.Fmt.{decimal_step}
use Rattle.b1_model.specs.declared.limits.TheConstants.{MOST_PEERS}
use Rattle.b1_model.specs.declared.naming.Wire.{Wire}
use Rattle.b1_model.specs.Opening.{held_by, from_owner, CanWire}
use Rattle.b1_records.specs.Spelling.{Is32, Is64}
use Rattle.b1_text_words.specs.Numbers.{script_handle_text}
use Rattle.b1_text_words.specs.Words.{Spells, Reads, Begins, IsFree}
use Rattle.b1_text.specs.Texts.{wire_text}
use Rattle.b1_text.specs.Bodies.{end_body, IsEnd, wire_body}
use Rattle.b1_text.specs.Drafts.{HasWireFields, can_wire}
use Rattle.b1_text.specs.Nexts.{Passes, AreFew, IsOwn}
use Rattle.b1_text.proofs.Judging.{wire_test, wire_is}
use Rattle.b1_text.proofs.Cuts.{free_32, handle_free}
use Rattle.b1_text.proofs.Firsts.{wire_split}
use Rattle.b1_text.proofs.Begins.{Halves, begins_map, halves_none, halves_some, halves_of_first, first_of_halves, no_halves, never, same_text, word_some, word_none}

abbrev pub NextWire : ℕ → List Wire → Wire → Type 0
NextWire n held = Passes HasWireFields (can_wire n held)

abbrev pub wire_of : ℕ → ℕ × ℕ → Wire
wire_of from x = record { from = from; to = x.1; number = x.0 }

abbrev pub NextEnd : ℕ → List Wire → ℕ → ℕ × ℕ → Type 0
NextEnd n held from = Passes IsEnd (λ x. can_wire n held (wire_of from x))

-- ---- a wire by an own number, to another peer

pub other : ℕ → ℕ
other from = cond (eqb from 0) 1 0

other_peer : (b : Bool) (n from : ℕ) → eqb from 0 ≡ b → 2 ≤ n → (cond b 1 0 < n) × (cond b 1 0 ≢ from)
other_peer true n from is some = let zero : from ≡ 0 = eqb-true from 0 is in (omega (arith, some), omega (arith, zero))
other_peer false n from is some = let apart : from ≢ 0 = eqb-false from 0 is in (omega (arith, some), λ e. apart (sym e))

own_gives : (held : List Wire) (w : Wire) → w.number % 4 ≡ 0 → w.to ≢ w.from → IsSomeAnd (from_owner held w) (λ given. given.from ≢ w.to)
own_gives held w own apart = rw (eq-eqb (w.number % 4) 0 own) (λ e. apart (sym e))

own_can : (n : ℕ) (held : List Wire) (from number : ℕ) → 2 ≤ n → from < n → number % 4 ≡ 0 → CanWire n held (wire_of from (number, other from))
unfolding other
own_can n held from number some within own =
    let o = other_peer (eqb from 0) n from refl some in
    record { from = within; to = o.0; apart = o.1; gives = own_gives held (wire_of from (number, other from)) own o.1 }

other_fits : (b : Bool) → Is32 (cond b 1 0)
other_fits true = omega arith
other_fits false = omega arith

own_end : (n : ℕ) (held : List Wire) (from number : ℕ) → 2 ≤ n → from < n → IsOwn number → NextEnd n held from (number, other from)
unfolding other
own_end n held from number some within is =
    record { fits = record { number = is.fits; to = other_fits (eqb from 0) }; goes_on = wire_test n held (wire_of from (number, other from)) (own_can n held from number some within is.own) }

-- a wire can be made from each of two peers or more
pub some_wire : (n : ℕ) (held : List Wire) (from : ℕ) → n ≤ MOST_PEERS → 2 ≤ n → from < n → NextWire n held (wire_of from (0, other from))
unfolding other
some_wire n held from most some within =
    record { fits = record { from = omega (arith, most, within); to = other_fits (eqb from 0); number = omega arith }; goes_on = wire_test n held (wire_of from (0, other from)) (own_can n held from 0 some within refl) }

-- ---- the parts

abbrev pub wire_halves : (n : ℕ) (held : List Wire) → Halves decimal end_body wire_body (NextWire n held)
wire_halves n held = record { first = λ w. w.from; rest = λ w. (w.number, w.to); text = λ w. refl; free = λ w is. free_32 w.from is.fits.from }

abbrev pub end_halves : (n : ℕ) (held : List Wire) (from : ℕ) → Halves script_handle_text decimal end_body (NextEnd n held from)
end_halves n held from = record { first = λ x. x.0; rest = λ x. x.1; text = λ x. refl; free = λ x is. handle_free x.0 is.fits.number }

-- ---- from whom

pub from_alone : (n : ℕ) (held : List Wire) (line : List ℕ) (r : Bool) → n ≤ MOST_PEERS → 2 ≤ n → IsFree 32 line → IsTrue r ↔ Begins (Spells decimal (λ a. a ≤ n - 1)) line → IsTrue r ↔ Begins (Spells wire_body (NextWire n held)) line
from_alone n held line r most some plain h =
    halves_none (wire_halves n held) (λ a. a ≤ n - 1) line r
    (λ w is. let can = wire_is n held w is.goes_on in omega (arith, can.from))
    (λ a is. (wire_of a (0, other a), some_wire n held a most some (omega (arith, is, some)), refl)) plain h

same_number : (word : List ℕ) (r : Option ℕ) (x y : ℕ) → Reads decimal Is32 word r → r ≡ Some x → Is32 y → word ≡ decimal y → y ≡ x
same_number word r x y reads is fits same = let both : Some x ≡ Some y = sym is ∙ reads.whole y fits same in (cc)

pub from_known : (n : ℕ) (held : List Wire) (line w rest : List ℕ) (x : Option ℕ) (from : ℕ) (r : Bool) → n ≤ MOST_PEERS → from < n → line ≡ w ++ 32 ∷ rest → IsFree 32 w → Reads decimal Is32 w x → x ≡ Some from
    → IsTrue r ↔ Begins (Spells end_body (NextEnd n held from)) rest → IsTrue r ↔ Begins (Spells wire_body (NextWire n held)) line
from_known n held line w rest x from r most within split plain reads is h =
    let found = subst (λ o. Reads decimal Is32 w o) is reads in
    halves_some (wire_halves n held) (NextEnd n held from) line w rest r split plain
    (λ v next same.
    let e : v.from ≡ from = same_number w x from v.from reads is next.fits.from same in
    let can : can_wire n held (wire_of from (v.number, v.to)) ≡ true = subst (λ (f : ℕ). can_wire n held (wire_of f (v.number, v.to)) ≡ true) e next.goes_on in
    record { fits = record { number = next.fits.number; to = next.fits.to }; goes_on = can })
    (λ y next. (wire_of from y, record { fits = record { from = omega (arith, within, most); to = next.fits.to; number = next.fits.number }; goes_on = next.goes_on }, found.found.1, refl)) h

pub from_outside : (n : ℕ) (held : List Wire) (line w rest : List ℕ) (x : Option ℕ) (from : ℕ) → n ≤ from → line ≡ w ++ 32 ∷ rest → IsFree 32 w → Reads decimal Is32 w x → x ≡ Some from
    → IsTrue (ltb from n) ↔ Begins (Spells wire_body (NextWire n held)) line
from_outside n held line w rest x from outside split plain reads is =
    subst (λ (t : Bool). IsTrue t ↔ Begins (Spells wire_body (NextWire n held)) line) (sym (le-ltb from n outside))
    (never wire_body (NextWire n held) line (no_halves (wire_halves n held) line w rest split plain
    (λ v next same.
    let e : v.from ≡ from = same_number w x from v.from reads is next.fits.from same in
    let can = wire_is n held v next.goes_on in
    omega (arith, e, can.from, outside))))

pub from_none : (n : ℕ) (held : List Wire) (line w rest : List ℕ) (x : Option ℕ) → line ≡ w ++ 32 ∷ rest → IsFree 32 w → Reads decimal Is32 w x → x ≡ None → IsTrue false ↔ Begins (Spells wire_body (NextWire n held)) line
from_none n held line w rest x split plain reads is =
    never wire_body (NextWire n held) line (no_halves (wire_halves n held) line w rest split plain
    (λ v next same. let both : None ≡ Some v.from = sym is ∙ reads.whole v.from next.fits.from same in cc))

-- ---- by which number

even_text : (n : ℕ) → n % 2 ≡ 0 → script_handle_text n ≡ decimal n
even_text n even = rw (ne_eqb (n % 2) 1 (omega (arith, even))) refl

ten_times : (n : ℕ) → 1 ≤ n → 10 * n < 2 ^ 64 → decimal (10 * n) ≡ decimal n ++ 48 ∷ []
ten_times n some fits =
    let front : 10 * n / 10 ≡ n = omega arith in
    let last : 48 + 10 * n % 10 ≡ 48 = omega arith in
    decimal_step (10 * n) (omega (arith, some)) fits ∙ ap (λ (k : ℕ). decimal k ++ (48 + 10 * n % 10) ∷ []) front ∙ ap (λ (d : ℕ). decimal n ++ d ∷ []) last

filter_len : (test : Wire → Bool) (ws : List Wire) → length (filter test ws) ≤ length ws
filter_len test ws = omega (arith, length-filter_both test (λ w. not (test w)) (λ w. refl) ws)

given_or_own : (w : Wire) (P : Wire → Type 0) (make : Wire → Wire) (a b : Bool) (s : Option Wire) → IsSomeAnd (cond a (Some w) (cond b (option_map make s) None)) P → (a ≡ true) ⊎ ((b ≡ true) × ((x : Wire) × (s ≡ Some x)))
given_or_own w P make true b s h = inl refl
given_or_own w P make false true (Some x) h = inr (refl, (x, refl))
given_or_own w P make false true None h = absurd h
given_or_own w P make false false s h = absurd h

-- a number that a wire can have is a multiple of 4, or a small given one
pub number_kind : (n : ℕ) (held : List Wire) (w : Wire) → CanWire n held w → (w.number % 4 ≡ 0) ⊎ ((w.number % 4 ≡ 2) × (w.number / 4 < length held))
number_kind n held w can =
    elim (given_or_own w (λ given. given.from ≢ w.to) (λ h. record { from = h.from; to = w.to; number = h.number }) (eqb (w.number % 4) 0) (eqb (w.number % 4) 2) (slice_get (held_by held w.from) (w.number / 4)) can.gives) [
      | inl own ↦ inl (eqb-true (w.number % 4) 0 own)
      | inr given ↦
          let there = slice_get_within (held_by held w.from) (w.number / 4) given.1.0 given.1.1 in
          let few = filter_len (λ h. eqb h.to w.from) held in
          inr (eqb-true (w.number % 4) 2 given.0, omega (arith, there, few))
    ]

-- bytes that begin a number of a wire begin an own number
own_instead : (number : ℕ) (rest line : List ℕ) → line ++ rest ≡ script_handle_text number → (number % 4 ≡ 0) ⊎ ((number % 4 ≡ 2) × (number / 4 < 2 ^ 20)) → Is64 number → Begins (Spells decimal IsOwn) line
own_instead number rest line same (inl own) fits =
    record { rest = rest; whole = record { value = number; is_of = record { fits = fits; own = own }; same = same ∙ even_text number (omega (arith, own)) } }
own_instead number rest line same (inr given) fits =
    let some : 1 ≤ number = omega (arith, given.0) in
    let small : number < 2 ^ 23 = omega (arith, given.1) in
    record {
      rest = rest ++ 48 ∷ [];
      whole = record {
        value = 10 * number;
        is_of = record { fits = omega (arith, small); own = omega (arith, given.0) };
        same = sym (append_assoc line rest (48 ∷ [])) ∙ ap (λ (x : List ℕ). x ++ 48 ∷ []) (same ∙ even_text number (omega (arith, given.0))) ∙ sym (ten_times number some (omega (arith, small)));
      };
    }

small_kind : (n : ℕ) (held : List Wire) (w : Wire) → AreFew held → CanWire n held w → (w.number % 4 ≡ 0) ⊎ ((w.number % 4 ≡ 2) × (w.number / 4 < 2 ^ 20))
small_kind n held w few can = elim (number_kind n held w can) [ inl own ↦ inl own | inr given ↦ inr (given.0, omega (arith, given.1, few)) ]

pub number_alone : (n : ℕ) (held : List Wire) (from : ℕ) (line : List ℕ) (r : Bool) → 2 ≤ n → from < n → AreFew held → IsFree 32 line → IsTrue r ↔ Begins (Spells decimal IsOwn) line → IsTrue r ↔ Begins (Spells end_body (NextEnd n held from)) line
number_alone n held from line r some within few plain h = (
  λ t. halves_of_first (end_halves n held from) IsOwn line (λ a is. ((a, other from), own_end n held from a some within is, refl)) (begins_map decimal IsOwn script_handle_text IsOwn line (λ a is. (a, is, sym (even_text a (omega (arith, is.own))))) (h.0 t)),
  λ b.
      let f = first_of_halves (end_halves n held from) (λ a. (to : ℕ) × NextEnd n held from (a, to)) line (λ x is. (x.1, is)) plain b in
      let v = f.whole.is_of in
      let can = wire_is n held (wire_of from (f.whole.value, v.0)) v.1.goes_on in
      h.1 (own_instead f.whole.value f.rest line f.whole.same (small_kind n held (wire_of from (f.whole.value, v.0)) few can) v.1.fits.number),
)

-- ---- to whom

same_handle : (word : List ℕ) (r : Option ℕ) (x y : ℕ) → Reads script_handle_text Is64 word r → r ≡ Some x → Is64 y → word ≡ script_handle_text y → y ≡ x
same_handle word r x y reads is fits same = let both : Some x ≡ Some y = sym is ∙ reads.whole y fits same in (cc)

abbrev pub NextTo : ℕ → List Wire → ℕ → ℕ → ℕ → Type 0
NextTo n held from number = Passes Is32 (λ to. can_wire n held (record { from = from; to = to; number = number }))

pub number_known : (n : ℕ) (held : List Wire) (from : ℕ) (line w rest : List ℕ) (x : Option ℕ) (number : ℕ) (r : Bool) → line ≡ w ++ 32 ∷ rest → IsFree 32 w → Reads script_handle_text Is64 w x → x ≡ Some number
    → IsTrue r ↔ Begins (Spells decimal (NextTo n held from number)) rest → IsTrue r ↔ Begins (Spells end_body (NextEnd n held from)) line
number_known n held from line w rest x number r split plain reads is h =
    let found = subst (λ o. Reads script_handle_text Is64 w o) is reads in
    halves_some (end_halves n held from) (NextTo n held from number) line w rest r split plain
    (λ y next same.
    let e : y.0 ≡ number = same_handle w x number y.0 reads is next.fits.number same in
    let can : can_wire n held (wire_of from (number, y.1)) ≡ true = subst (λ (k : ℕ). can_wire n held (wire_of from (k, y.1)) ≡ true) e next.goes_on in
    record { fits = next.fits.to; goes_on = can })
    (λ to next. ((number, to), record { fits = record { number = found.found.0; to = next.fits }; goes_on = next.goes_on }, found.found.1, refl)) h

pub number_none : (n : ℕ) (held : List Wire) (from : ℕ) (line w rest : List ℕ) (x : Option ℕ) → line ≡ w ++ 32 ∷ rest → IsFree 32 w → Reads script_handle_text Is64 w x → x ≡ None → IsTrue false ↔ Begins (Spells end_body (NextEnd n held from)) line
number_none n held from line w rest x split plain reads is =
    never end_body (NextEnd n held from) line (no_halves (end_halves n held from) line w rest split plain
    (λ y next same. let both : None ≡ Some y.0 = sym is ∙ reads.whole y.0 next.fits.number same in cc))

-- none of the peers so far is one to whom the wire can lead
abbrev pub NoneOf : ℕ → List Wire → ℕ → ℕ → List ℕ → ℕ → Type 0
NoneOf n held from number word end = (to : ℕ) → to < end → can_wire n held (record { from = from; to = to; number = number }) ≡ true → Begins (Spells decimal (λ m. m ≡ to)) word → ⊥

pub to_found : (n : ℕ) (held : List Wire) (from number to : ℕ) (word : List ℕ) → Is32 to → can_wire n held (record { from = from; to = to; number = number }) ≡ true → Begins (Spells decimal (λ m. m ≡ to)) word → Begins (Spells decimal (NextTo n held from number)) word
to_found n held from number to word fits can b =
    let v = b.whole.is_of in
    record { rest = b.rest; whole = record { value = to; is_of = record { fits = fits; goes_on = can }; same = b.whole.same ∙ ap decimal v } }

pub to_none : (n : ℕ) (held : List Wire) (from number : ℕ) (word : List ℕ) (end : ℕ) → n ≤ end → NoneOf n held from number word end → Begins (Spells decimal (NextTo n held from number)) word → ⊥
to_none n held from number word end all none b =
    let to : ℕ = b.whole.value in
    let can = wire_is n held (record { from = from; to = to; number = number }) b.whole.is_of.goes_on in
    none to (omega (arith, can.to, all)) b.whole.is_of.goes_on (record { rest = b.rest; whole = record { value = to; is_of = refl; same = b.whole.same } })

pub to_more : (n : ℕ) (held : List Wire) (from number : ℕ) (word : List ℕ) (end : ℕ) → NoneOf n held from number word end
    → (can_wire n held (record { from = from; to = end; number = number }) ≡ true → Begins (Spells decimal (λ m. m ≡ end)) word → ⊥) → NoneOf n held from number word (end + 1)
to_more n held from number word end none here to within can b =
    elim (cases_lt to end) [
      | inl before ↦ none to before can b
      | inr after ↦ let e : to ≡ end = omega (arith, after, within) in here (subst (λ (k : ℕ). can_wire n held (record { from = from; to = k; number = number }) ≡ true) e can) (subst (λ (k : ℕ). Begins (Spells decimal (λ m. m ≡ k)) word) e b)
    ]

-- ---- the whole line

pub line_some : (n : ℕ) (held : List Wire) (line rest : List ℕ) (r : Bool) → line ≡ codes "wire " ++ rest → IsTrue r ↔ Begins (Spells wire_body (NextWire n held)) rest → IsTrue r ↔ Begins (Spells wire_text (NextWire n held)) line
line_some n held line rest r split h =
    same_text (λ w. codes "wire " ++ wire_body w) wire_text (NextWire n held) line r (λ w. sym (wire_split w)) (word_some (codes "wire ") wire_body (NextWire n held) line rest r split h)

pub line_none : (n : ℕ) (held : List Wire) (line : List ℕ) (r : Bool) → n ≤ MOST_PEERS → 2 ≤ n → ((rest : List ℕ) → line ≢ codes "wire " ++ rest) → IsTrue r ↔ Begins (λ w. w ≡ codes "wire ") line → IsTrue r ↔ Begins (Spells wire_text (NextWire n held)) line
line_none n held line r most some apart h =
    same_text (λ w. codes "wire " ++ wire_body w) wire_text (NextWire n held) line r (λ w. sym (wire_split w))
    (word_none (codes "wire ") wire_body (NextWire n held) line r (wire_of 0 (0, other 0)) (some_wire n held 0 most some (omega (arith, some))) apart h)
