-- The lines of peers and of limits, word by word.
use Rattle.std.proofs.Common.{◌≡◌, ◌↔◌, ℕ, ◌^◌, ◌<◌, ◌≤◌, Bool, false, List, [], ◌∷◌, ◌++◌, codes, IsTrue, refl, sym, ap, ◌∙◌, append_assoc, arith}
use Rattle.std.specs.Fmt.{decimal}
use Rattle.b1_model.specs.declared.naming.Limits.{Limits}
use Rattle.b1_model.specs.declared.naming.PeerSpec.{PeerSpec}
use Rattle.b1_model.specs.Opening.{IsPool}
use Rattle.b1_records.specs.Spelling.{AreLimits}
use Rattle.b1_text_words.specs.Commands.{limits_text}
use Rattle.b1_text_words.specs.Words.{Spells, Begins, Joined}
use Rattle.b1_text.specs.Texts.{peer_text}
use Rattle.b1_text.specs.Bodies.{peer_body}
use Rattle.b1_text.specs.Nexts.{HasSpec}
use Rattle.b1_text.proofs.Begins.{never}
use Rattle.b1_text.proofs.Firsts.{three_parts, peer_split}

-- the same lines, told in two ways
pub same_lines : (P Q : List ℕ → Type 0) (line : List ℕ) (r : Bool) → ((w : List ℕ) → P w → Q w) → ((w : List ℕ) → Q w → P w) → IsTrue r ↔ Begins P line → IsTrue r ↔ Begins Q line
same_lines P Q line r f g h =
    (λ t. let b = h.0 t in record { rest = b.rest; whole = f (line ++ b.rest) b.whole }, λ b. h.1 (record { rest = b.rest; whole = g (line ++ b.rest) b.whole }))

-- a number of 32 bits
abbrev pub Number : List ℕ → Type 0
Number = Spells decimal (λ n. n ≤ 4294967295)

abbrev pub Word : List ℕ → List ℕ → Type 0
Word text word = word ≡ text

abbrev pub Then : (List ℕ → Type 0) → (List ℕ → Type 0) → List ℕ → Type 0
Then = Joined 32

joined : (w a b : List ℕ) → w ≡ a → (r s : List ℕ) → r ≡ s → w ++ 32 ∷ r ≡ a ++ 32 ∷ s
joined w a b e r s f = ap (λ (x : List ℕ). x ++ 32 ∷ r) e ∙ ap (λ (x : List ℕ). a ++ 32 ∷ x) f

-- ---- limits

abbrev pub LimitsLine : List ℕ → List ℕ → Type 0
LimitsLine word = Then (Word word) (Then Number (Then Number Number))

abbrev limits_behind : List ℕ → Limits → List ℕ
limits_behind word l = word ++ codes " " ++ limits_text l

limits_is : (e b h : ℕ) → decimal e ++ 32 ∷ (decimal b ++ 32 ∷ decimal h) ≡ limits_text (record { entries = e; bytes = b; handles = h })
limits_is e b h = sym (three_parts (decimal e) (decimal b) (decimal h))

limits_in : (word w : List ℕ) → LimitsLine word w → Spells (limits_behind word) AreLimits w
limits_in word w j =
    let two = j.is_rest in
    let three = two.is_rest in
    let e = two.is_first in
    let b = three.is_first in
    let h = three.is_rest in
    let l : Limits = record { entries = e.value; bytes = b.value; handles = h.value } in
    let tail : two.rest ≡ decimal b.value ++ 32 ∷ decimal h.value = three.whole ∙ joined three.first (decimal b.value) [] b.same three.rest (decimal h.value) h.same in
    let body : j.rest ≡ decimal e.value ++ 32 ∷ (decimal b.value ++ 32 ∷ decimal h.value) = two.whole ∙ joined two.first (decimal e.value) [] e.same two.rest (decimal b.value ++ 32 ∷ decimal h.value) tail in
    record {
      value = l;
      is_of = record { entries = omega (arith, e.is_of); bytes = omega (arith, b.is_of); handles = omega (arith, h.is_of) };
      same = j.whole ∙ joined j.first word [] j.is_first j.rest (limits_text l) (body ∙ limits_is e.value b.value h.value) ∙ sym (append_assoc word (codes " ") (limits_text l));
    }

number : (n : ℕ) → n < 2 ^ 32 → Number (decimal n)
number n fits = record { value = n; is_of = omega (arith, fits); same = refl }

limits_out : (word w : List ℕ) → Spells (limits_behind word) AreLimits w → LimitsLine word w
limits_out word w s =
    let l = s.value in
    record {
      first = word;
      rest = decimal l.entries ++ 32 ∷ (decimal l.bytes ++ 32 ∷ decimal l.handles);
      is_first = refl;
      is_rest = record {
        first = decimal l.entries;
        rest = decimal l.bytes ++ 32 ∷ decimal l.handles;
        is_first = number l.entries s.is_of.entries;
        is_rest = record {
          first = decimal l.bytes;
          rest = decimal l.handles;
          is_first = number l.bytes s.is_of.bytes;
          is_rest = number l.handles s.is_of.handles;
          whole = refl;
        };
        whole = refl;
      };
      whole = s.same ∙ append_assoc word (codes " ") (limits_text l) ∙ ap (λ (x : List ℕ). word ++ 32 ∷ x) (sym (limits_is l.entries l.bytes l.handles));
    }

pub limits_line : (word line : List ℕ) (r : Bool) → IsTrue r ↔ Begins (LimitsLine word) line → IsTrue r ↔ Begins (Spells (λ l. word ++ codes " " ++ limits_text l) AreLimits) line
limits_line word line r h = same_lines (LimitsLine word) (Spells (limits_behind word) AreLimits) line r (limits_in word) (limits_out word) h

-- ---- peers

abbrev pub PeerLine : (ℕ → Type 0) → List ℕ → Type 0
PeerLine Pool = Then (Word (codes "peer")) (Then Number (Then (Spells decimal Pool) (Then Number (Then Number Number))))

peer_in : (room : ℕ) (Pool : ℕ → Type 0) → ((n : ℕ) → Pool n → IsPool n × (n ≤ room)) → (w : List ℕ) → PeerLine Pool w → Spells peer_text (HasSpec room) w
peer_in room Pool f w j =
    let two = j.is_rest in
    let three = two.is_rest in
    let four = three.is_rest in
    let five = four.is_rest in
    let u = two.is_first in
    let p = three.is_first in
    let e = four.is_first in
    let b = five.is_first in
    let h = five.is_rest in
    let l5 : four.rest ≡ decimal b.value ++ 32 ∷ decimal h.value = five.whole ∙ joined five.first (decimal b.value) [] b.same five.rest (decimal h.value) h.same in
    let l4 : three.rest ≡ decimal e.value ++ 32 ∷ (decimal b.value ++ 32 ∷ decimal h.value) = four.whole ∙ joined four.first (decimal e.value) [] e.same four.rest (decimal b.value ++ 32 ∷ decimal h.value) l5 in
    let l3 : two.rest ≡ decimal p.value ++ 32 ∷ (decimal e.value ++ 32 ∷ (decimal b.value ++ 32 ∷ decimal h.value))
    = three.whole ∙ joined three.first (decimal p.value) [] p.same three.rest (decimal e.value ++ 32 ∷ (decimal b.value ++ 32 ∷ decimal h.value)) l4 in
    let spec : PeerSpec = record { user = u.value; pool = p.value; limits = record { entries = e.value; bytes = b.value; handles = h.value } } in
    let l2 : j.rest ≡ peer_body spec = two.whole ∙ joined two.first (decimal u.value) [] u.same two.rest (decimal p.value ++ 32 ∷ (decimal e.value ++ 32 ∷ (decimal b.value ++ 32 ∷ decimal h.value))) l3 in
    let pool = f p.value p.is_of in
    record {
      value = spec;
      is_of = record {
        spec = record {
          user = omega (arith, u.is_of);
          pool = omega (arith, pool.0.most);
          limits = record { entries = omega (arith, e.is_of); bytes = omega (arith, b.is_of); handles = omega (arith, h.is_of) };
        };
        pool = pool.0;
        fits = pool.1;
      };
      same = j.whole ∙ joined j.first (codes "peer") [] j.is_first j.rest (peer_body spec) l2 ∙ sym (peer_split spec);
    }

peer_out : (room : ℕ) (Pool : ℕ → Type 0) → ((n : ℕ) → IsPool n → n ≤ room → Pool n) → (w : List ℕ) → Spells peer_text (HasSpec room) w → PeerLine Pool w
peer_out room Pool f w s =
    let p = s.value in
    let is = s.is_of.spec in
    record {
      first = codes "peer";
      rest = peer_body p;
      is_first = refl;
      is_rest = record {
        first = decimal p.user;
        rest = decimal p.pool ++ 32 ∷ (decimal p.limits.entries ++ 32 ∷ (decimal p.limits.bytes ++ 32 ∷ decimal p.limits.handles));
        is_first = number p.user is.user;
        is_rest = record {
          first = decimal p.pool;
          rest = decimal p.limits.entries ++ 32 ∷ (decimal p.limits.bytes ++ 32 ∷ decimal p.limits.handles);
          is_first = record { value = p.pool; is_of = f p.pool s.is_of.pool s.is_of.fits; same = refl };
          is_rest = record {
            first = decimal p.limits.entries;
            rest = decimal p.limits.bytes ++ 32 ∷ decimal p.limits.handles;
            is_first = number p.limits.entries is.limits.entries;
            is_rest = record {
              first = decimal p.limits.bytes;
              rest = decimal p.limits.handles;
              is_first = number p.limits.bytes is.limits.bytes;
              is_rest = number p.limits.handles is.limits.handles;
              whole = refl;
            };
            whole = refl;
          };
          whole = refl;
        };
        whole = refl;
      };
      whole = s.same ∙ peer_split p;
    }

pub spec_line : {Pool : ℕ → Type 0} (room : ℕ) (line : List ℕ) (r : Bool) → IsTrue r ↔ Begins (PeerLine Pool) line → ((n : ℕ) → Pool n → IsPool n × (n ≤ room)) → ((n : ℕ) → IsPool n → n ≤ room → Pool n) → IsTrue r ↔ Begins (Spells peer_text (HasSpec room)) line
spec_line {Pool = Pool} room line r h f g = same_lines (PeerLine Pool) (Spells peer_text (HasSpec room)) line r (peer_in room Pool f) (peer_out room Pool g) h

-- where no pool has room
pub no_spec : (room : ℕ) (line : List ℕ) → room < 8 → IsTrue false ↔ Begins (Spells peer_text (HasSpec room)) line
no_spec room line small = never peer_text (HasSpec room) line (λ b. omega (arith, b.whole.is_of.pool.least, b.whole.is_of.fits, small))
