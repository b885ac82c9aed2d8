-- What is read is spelled so, and what is spelled so is read: for a field, and for one format after another.
use Rattle.std.proofs.Common.{◌≡◌, ℕ, zero, suc, ◌+◌, ◌^◌, ◌<◌, ◌≤◌, Bool, true, false, cond, ltb, List, [], ◌∷◌, ◌++◌, length, get_or, take, drop, Result, Ok, Err, refl, sym, ap, subst, ◌∙◌, arith, inl, inr}
use Rattle.std.specs.List.{flat_map, AllByRecursion}
use Rattle.std.specs.Int.{Width, w32, w64, byte_len, from_le_bytes, to_le_bytes}
use Rattle.std.proofs.lemmas.Bool.{cases_lt, ltb-false, le-ltb}
use Rattle.std.proofs.lemmas.List.{drop-drop, length-append, length-take, length-drop, get_or-drop, get_or-take, get_or_past}
use Rattle.std.proofs.lemmas.List.Concat.{flat_map-cons}
use Rattle.std.proofs.Math.Seq.{take-add}
use Rattle.std.proofs.lemmas.Nat.{le_bytes_4, le_bytes_8, from_le_bytes-to_le_bytes_4, from_le_bytes-to_le_bytes_8}
use Rattle.b1_errs.specs.declared.Cause.{Cause}
use Rattle.b1_wire.specs.Numbers.{u32_bytes, u64_bytes}
use Rattle.b1_records.specs.Spelling.{Stands, Is32, Is64}
use Rattle.b1_records.specs.Reading.{◌>>=◌, Read, Fault, checked, many, field_at, number_at, long_number_at}

abbrev pub IsBytes : List ℕ → Type 0
IsBytes bytes = (i : ℕ) → get_or bytes i 0 < 256

-- the value of a step that did not fail
pub bind_ok : {A B : Type 0} (r : Read A) (f : A × ℕ → Read B) (y : B × ℕ) → (r >>= f) ≡ Ok y → (x : A × ℕ) × (r ≡ Ok x) × (f x ≡ Ok y)
bind_ok (Ok x) f y e = (x, refl, e)
bind_ok (Err d) f y e = absurd cc

-- a test for a fault, and one for what is right, that were passed
pub guard_ok : {A : Type 0} (b : Bool) (d : Fault) (r : Read A) (y : A × ℕ) → cond b (Err d) r ≡ Ok y → (b ≡ false) × (r ≡ Ok y)
guard_ok true d r y e = absurd cc
guard_ok false d r y e = (refl, e)

pub passed_ok : {A : Type 0} (b : Bool) (d : Fault) (r : Read A) (y : A × ℕ) → cond b r (Err d) ≡ Ok y → (b ≡ true) × (r ≡ Ok y)
passed_ok true d r y e = (refl, e)
passed_ok false d r y e = absurd cc

abbrev pub done : {A : Type 0} → A → Result A Fault
done x = Ok x

pub ok_is : {A : Type 0} (x y : A) → done x ≡ done y → x ≡ y
ok_is x y e = cc

-- ---- texts that stand in bytes

pub stands_join : (bytes x y : List ℕ) (at middle end : ℕ) → Stands bytes at x middle → Stands bytes middle y end → Stands bytes at (x ++ y) end
stands_join bytes x y at middle end a b =
    let sum : length (x ++ y) ≡ length x + length y = length-append x y in
    let rest : drop (length x) (drop at bytes) ≡ drop middle bytes = drop-drop (length x) at bytes ∙ ap (λ (n : ℕ). drop n bytes) (sym a.ends) in
    record {
      there = ap (λ (n : ℕ). take n (drop at bytes)) sum ∙ take-add (length x) (length y) (drop at bytes)
          ∙ ap (λ (t : List ℕ). t ++ take (length y) (drop (length x) (drop at bytes))) a.there
          ∙ ap (λ (t : List ℕ). x ++ take (length y) t) rest ∙ ap (λ (t : List ℕ). x ++ t) b.there;
      ends = omega (arith, sum, a.ends, b.ends);
      within = b.within;
    }

-- the two halves of equal lists whose first halves are equally long
halves : (a x b y : List ℕ) → length a ≡ length x → a ++ b ≡ x ++ y → (a ≡ x) × (b ≡ y)
halves [] [] b y len e = (refl, e)
halves [] (x ∷ xs) b y len e = absurd cc
halves (a ∷ as') [] b y len e = absurd cc
halves (a ∷ as') (x ∷ xs) b y len e =
    let tails : as' ++ b ≡ xs ++ y = cc in
    let first : a ≡ x = cc in
    let ih = halves as' xs b y (omega (arith, len)) tails in
    (rw (first, ih.0) refl, ih.1)

pub stands_split : (bytes x y : List ℕ) (at end : ℕ) → Stands bytes at (x ++ y) end → Stands bytes at x (at + length x) × Stands bytes (at + length x) y end
stands_split bytes x y at end s =
    let sum : length (x ++ y) ≡ length x + length y = length-append x y in
    let both : take (length x) (drop at bytes) ++ take (length y) (drop (length x) (drop at bytes)) ≡ x ++ y
    = sym (take-add (length x) (length y) (drop at bytes)) ∙ ap (λ (n : ℕ). take n (drop at bytes)) (sym sum) ∙ s.there in
    let long : length x ≤ length (drop at bytes) = omega (arith, sum, s.ends, s.within, length-drop at bytes) in
    let h = halves (take (length x) (drop at bytes)) x (take (length y) (drop (length x) (drop at bytes))) y (omega (arith, long, length-take (length x) (drop at bytes))) both in (
      record { there = h.0; ends = refl; within = omega (arith, sum, s.ends, s.within) },
      record { there = rw (← drop-drop (length x) at bytes) h.1; ends = omega (arith, sum, s.ends); within = s.within },
    )

pub stands_nothing : (bytes : List ℕ) (at : ℕ) → at ≤ length bytes → Stands bytes at [] at
stands_nothing bytes at le = record { there = refl; ends = omega arith; within = le }

pub IsBytes-drop : (n : ℕ) (bytes : List ℕ) → IsBytes bytes → IsBytes (drop n bytes)
IsBytes-drop n bytes h i = rw get_or-drop (h (n + i))

pub IsBytes-take : (n : ℕ) (bytes : List ℕ) → IsBytes bytes → IsBytes (take n bytes)
IsBytes-take n bytes h i =
    elim (cases_lt i n) [
      | inl lt ↦ rw (get_or-take n bytes i 0 lt) (h i)
      | inr le ↦ rw (get_or_past (take n bytes) i 0 (omega (arith, length-take n bytes))) (omega arith)
    ]

-- what stands in bytes is bytes
pub stands_bytes : (bytes text : List ℕ) (at end : ℕ) → IsBytes bytes → Stands bytes at text end → IsBytes text
stands_bytes bytes text at end fits s = subst IsBytes s.there (IsBytes-take (length text) (drop at bytes) (IsBytes-drop at bytes fits))

-- ---- formats

-- read reads the values that fit from their texts, and nothing else
pub record IsFormat {A : Type 0} (limit : ℕ) (bytes : List ℕ) (read : ℕ → Read A) (text : A → List ℕ) (Fits : A → Type 0) : Type 0 where
  pub takes : (at : ℕ) (a : A) (end : ℕ) → at ≤ length bytes → at ≤ limit → read at ≡ Ok (a, end) → Stands bytes at (text a) end × (end ≤ limit) × Fits a
  pub again : (at : ℕ) (a : A) (end : ℕ) → Stands bytes at (text a) end → end ≤ limit → Fits a → read at ≡ Ok (a, end)

-- the same format in other words
pub convert : {A : Type 0} (limit : ℕ) (bytes : List ℕ) (read : ℕ → Read A) (text text' : A → List ℕ) (Fits Fits' : A → Type 0)
    → IsFormat limit bytes read text Fits → ((a : A) → Fits a → text a ≡ text' a) → ((a : A) → Fits a → Fits' a) → ((a : A) → Fits' a → Fits a) → IsFormat limit bytes read text' Fits'
convert {A = A} limit bytes read text text' Fits Fits' format same there back = record {
  takes = λ at a end in_bytes in_limit e.
      let t = format.takes at a end in_bytes in_limit e in
      (subst (λ (x : List ℕ). Stands bytes at x end) (same a t.2) t.0, t.1, there a t.2);
  again = λ at a end s by fits. format.again at a end (subst (λ (x : List ℕ). Stands bytes at x end) (sym (same a (back a fits))) s) by (back a fits);
}

pub field_format : (limit : ℕ) (bytes : List ℕ) (len : ℕ) → IsFormat limit bytes (field_at limit bytes len) (λ x. x) (λ x. length x ≡ len)
unfolding field_at
field_format limit bytes len = record {
  takes = λ at a end in_bytes in_limit e.
      let g = guard_ok (ltb (length bytes) (at + len)) _ _ (a, end) e in
      let h = guard_ok (ltb limit (at + len)) _ _ (a, end) g.1 in
      let there : at + len ≤ length bytes = ltb-false _ _ g.0 in
      let by : at + len ≤ limit = ltb-false _ _ h.0 in
      let is = ok_is (take len (drop at bytes), at + len) (a, end) h.1 in
      let a-is : take len (drop at bytes) ≡ a = ap (λ (p : List ℕ × ℕ). p.0) is in
      let end-is : at + len ≡ end = ap (λ (p : List ℕ × ℕ). p.1) is in
      let whole : length (take len (drop at bytes)) ≡ len = omega (arith, there, length-take len (drop at bytes), length-drop at bytes) in
      let len-is : length a ≡ len = sym (ap (λ (x : List ℕ). length x) a-is) ∙ whole in
      (record { there = ap (λ (n : ℕ). take n (drop at bytes)) len-is ∙ a-is; ends = omega (arith, end-is, len-is); within = omega (arith, end-is, there) }, omega (arith, end-is, by), len-is);
  again = λ at a end s by fits.
      let e : end ≡ at + len = omega (arith, s.ends, fits) in
      let there : ltb (length bytes) (at + len) ≡ false = le-ltb _ _ (omega (arith, e, s.within)) in
      let under : ltb limit (at + len) ≡ false = le-ltb _ _ (omega (arith, e, by)) in
      let a-is : take len (drop at bytes) ≡ a = ap (λ (n : ℕ). take n (drop at bytes)) (sym fits) ∙ s.there in
      rw (there, under, a-is, e) refl;
}

-- the width of numbers of four and of eight bytes
pub record IsWide (w : Width) (limit : ℕ) : Type 0 where
  pub len : (n : ℕ) → length (to_le_bytes w n) ≡ byte_len w
  pub back : (bytes : List ℕ) → length bytes ≡ byte_len w → IsBytes bytes → to_le_bytes w (from_le_bytes w bytes) ≡ bytes
  pub again : (n : ℕ) → n < limit → from_le_bytes w (to_le_bytes w n) ≡ n
  pub below : (bytes : List ℕ) → IsBytes bytes → from_le_bytes w bytes < limit

pub wide32 : IsWide w32 (2 ^ 32)
wide32 = record {
  len = λ n. refl;
  back = λ bytes len fits. le_bytes_4 bytes _ len fits refl;
  again = λ n lt. from_le_bytes-to_le_bytes_4 n lt;
  below = λ bytes fits. omega (arith, fits 0, fits 1, fits 2, fits 3);
}

pub wide64 : IsWide w64 (2 ^ 64)
wide64 = record {
  len = λ n. refl;
  back = λ bytes len fits. le_bytes_8 bytes _ len fits refl;
  again = λ n lt. from_le_bytes-to_le_bytes_8 n lt;
  below = λ bytes fits. omega (arith, fits 0, fits 1, fits 2, fits 3, fits 4, fits 5, fits 6, fits 7);
}

wide_format : (w : Width) (top limit : ℕ) (bytes : List ℕ) → IsBytes bytes → IsWide w top
    → IsFormat limit bytes (λ at. field_at limit bytes (byte_len w) at >>= λ field. Ok (from_le_bytes w field.0, field.1)) (to_le_bytes w) (λ n. n < top)
wide_format w top limit bytes fits wide = record {
  takes = λ at a end in_bytes in_limit e.
      let b = bind_ok (field_at limit bytes (byte_len w) at) (λ field. Ok (from_le_bytes w field.0, field.1)) (a, end) e in
      let t = (field_format limit bytes (byte_len w)).takes at b.0.0 b.0.1 in_bytes in_limit b.1 in
      let is = ok_is (from_le_bytes w b.0.0, b.0.1) (a, end) b.2 in
      let bs = stands_bytes bytes b.0.0 at b.0.1 fits t.0 in
      let same : to_le_bytes w (from_le_bytes w b.0.0) ≡ b.0.0 = wide.back b.0.0 t.2 bs in
      let made : Stands bytes at (to_le_bytes w (from_le_bytes w b.0.0)) b.0.1 = subst (λ (x : List ℕ). Stands bytes at x b.0.1) (sym same) t.0 in
      subst (λ (p : ℕ × ℕ). Stands bytes at (to_le_bytes w p.0) p.1 × (p.1 ≤ limit) × (p.0 < top)) is (made, t.1, wide.below b.0.0 bs);
  again = λ at a end s by lt.
      let f = (field_format limit bytes (byte_len w)).again at (to_le_bytes w a) end s by (wide.len a) in
      rw (f, wide.again a lt) refl;
}

pub number_format : (limit : ℕ) (bytes : List ℕ) → IsBytes bytes → IsFormat limit bytes (number_at limit bytes) u32_bytes Is32
unfolding number_at
number_format limit bytes fits = wide_format w32 (2 ^ 32) limit bytes fits wide32

pub long_number_format : (limit : ℕ) (bytes : List ℕ) → IsBytes bytes → IsFormat limit bytes (long_number_at limit bytes) u64_bytes Is64
unfolding long_number_at
long_number_format limit bytes fits = wide_format w64 (2 ^ 64) limit bytes fits wide64

-- a value with a test
pub checked_format : {A : Type 0} (limit : ℕ) (bytes : List ℕ) (test : A → Bool) (cause : Cause) (read : ℕ → Read A) (text : A → List ℕ) (Fits : A → Type 0)
    → IsFormat limit bytes read text Fits → IsFormat limit bytes (λ at. checked test cause at (read at)) text (λ a. (test a ≡ true) × Fits a)
checked_format {A = A} limit bytes test cause read text Fits format = record {
  takes = λ at a end in_bytes in_limit e.
      let b = bind_ok (read at) (λ x. cond (test x.0) (Ok x) (Err (at, cause))) (a, end) e in
      let p = passed_ok (test b.0.0) (at, cause) (Ok b.0) (a, end) b.2 in
      let is = ok_is b.0 (a, end) p.1 in
      let t = format.takes at b.0.0 b.0.1 in_bytes in_limit b.1 in
      subst (λ (q : A × ℕ). Stands bytes at (text q.0) q.1 × (q.1 ≤ limit) × ((test q.0 ≡ true) × Fits q.0)) is (t.0, t.1, (p.0, t.2));
  again = λ at a end s by fits. rw (format.again at a end s by fits.1, fits.0) refl;
}

-- nothing is read
pub pure_format : {A : Type 0} (limit : ℕ) (bytes : List ℕ) (v : A) → IsFormat limit bytes (λ at. Ok (v, at)) (λ b. []) (λ b. b ≡ v)
pure_format {A = A} limit bytes v = record {
  takes = λ at a end in_bytes in_limit e.
      let is = ok_is (v, at) (a, end) e in
      subst (λ (q : A × ℕ). Stands bytes at [] q.1 × (q.1 ≤ limit) × (q.0 ≡ v)) is (stands_nothing bytes at in_bytes, in_limit, refl);
  again = λ at a end s by fits.
      let e : end ≡ at = omega (arith, s.ends) in
      rw (fits, e) refl;
}

-- one format, and then another that may depend on the first value
pub seq_format : {A B : Type 0} (limit : ℕ) (bytes : List ℕ) (f : ℕ → Read A) (g : A → ℕ → Read B) (first : A → List ℕ) (FitsFirst : A → Type 0) (second : A → B → List ℕ) (FitsSecond : A → B → Type 0) (part : B → A)
    → IsFormat limit bytes f first FitsFirst
    → ((a : A) → FitsFirst a → IsFormat limit bytes (g a) (second a) (FitsSecond a))
    → ((a : A) (b : B) → FitsFirst a → FitsSecond a b → part b ≡ a)
    → IsFormat limit bytes (λ at. f at >>= λ x. g x.0 x.1) (λ b. first (part b) ++ second (part b) b) (λ b. FitsFirst (part b) × FitsSecond (part b) b)
seq_format {A = A} {B = B} limit bytes f g first FitsFirst second FitsSecond part format formats parts = record {
  takes = λ at b end in_bytes in_limit e.
      let x = bind_ok (f at) (λ (x : A × ℕ). g x.0 x.1) (b, end) e in
      let t = format.takes at x.0.0 x.0.1 in_bytes in_limit x.1 in
      let u = (formats x.0.0 t.2).takes x.0.1 b end t.0.within t.1 x.2 in
      let joined : Stands bytes at (first x.0.0 ++ second x.0.0 b) end = stands_join bytes (first x.0.0) (second x.0.0 b) at x.0.1 end t.0 u.0 in
      subst (λ (a : A). Stands bytes at (first a ++ second a b) end × (end ≤ limit) × (FitsFirst a × FitsSecond a b)) (sym (parts x.0.0 b t.2 u.2)) (joined, u.1, (t.2, u.2));
  again = λ at b end s by fits.
      let h = stands_split bytes (first (part b)) (second (part b) b) at end s in
      let middle : ℕ = at + length (first (part b)) in
      let under : middle ≤ limit = omega (arith, by, h.1.ends) in
      let one = format.again at (part b) middle h.0 under fits.0 in
      let two = (formats (part b) fits.0).again middle b end h.1 by fits.1 in
      rw (one, two) refl;
}

-- so many values of one format
module _ {A : Type 0} (limit : ℕ) (bytes : List ℕ) (read : ℕ → Read A) (text : A → List ℕ) (Fits : A → Type 0) (format : IsFormat limit bytes read text Fits) where
  many_takes : (n at : ℕ) (xs : List A) (end : ℕ) → at ≤ length bytes → at ≤ limit → many read n at ≡ Ok (xs, end) → Stands bytes at (flat_map text xs) end × (end ≤ limit) × ((length xs ≡ n) × AllByRecursion Fits xs)
  many_takes zero at xs end in_bytes in_limit e =
      let is = ok_is ([], at) (xs, end) e in
      subst (λ (q : List A × ℕ). Stands bytes at (flat_map text q.0) q.1 × (q.1 ≤ limit) × ((length q.0 ≡ 0) × AllByRecursion Fits q.0)) is (stands_nothing bytes at in_bytes, in_limit, (refl, tt))
  many_takes (suc n) at xs end in_bytes in_limit e =
      let a = bind_ok (read at) (λ first. many read n first.1 >>= λ others. Ok (first.0 ∷ others.0, others.1)) (xs, end) e in
      let b = bind_ok (many read n a.0.1) (λ others. Ok (a.0.0 ∷ others.0, others.1)) (xs, end) a.2 in
      let is = ok_is (a.0.0 ∷ b.0.0, b.0.1) (xs, end) b.2 in
      let t = format.takes at a.0.0 a.0.1 in_bytes in_limit a.1 in
      let u = many_takes n a.0.1 b.0.0 b.0.1 t.0.within t.1 b.1 in
      let joined = stands_join bytes (text a.0.0) (flat_map text b.0.0) at a.0.1 b.0.1 t.0 u.0 in
      let whole : Stands bytes at (flat_map text (a.0.0 ∷ b.0.0)) b.0.1 = rw flat_map-cons joined in
      subst (λ (q : List A × ℕ). Stands bytes at (flat_map text q.0) q.1 × (q.1 ≤ limit) × ((length q.0 ≡ suc n) × AllByRecursion Fits q.0)) is (whole, u.1, (ap suc u.2.0, (t.2, u.2.1)))

  many_again : (n : ℕ) (xs : List A) → length xs ≡ n → (at end : ℕ) → Stands bytes at (flat_map text xs) end → end ≤ limit → AllByRecursion Fits xs → many read n at ≡ Ok (xs, end)
  many_again zero [] len at end s by fits =
      let e : end ≡ at = omega (arith, s.ends) in
      rw e refl
  many_again zero (x ∷ xs) len at end s by fits = absurd (omega (arith, len))
  many_again (suc n) [] len at end s by fits = absurd (omega (arith, len))
  many_again (suc n) (x ∷ xs) len at end s by fits =
      let both : Stands bytes at (text x ++ flat_map text xs) end = subst (λ (t : List ℕ). Stands bytes at t end) (flat_map-cons text x xs) s in
      let h = stands_split bytes (text x) (flat_map text xs) at end both in
      let under : at + length (text x) ≤ limit = omega (arith, by, h.1.ends) in
      let one = format.again at x (at + length (text x)) h.0 under fits.0 in
      let rest = many_again n xs (omega (arith, len)) (at + length (text x)) end h.1 by fits.1 in
      rw (one, rest) refl

pub many_format : {A : Type 0} (limit : ℕ) (bytes : List ℕ) (read : ℕ → Read A) (text : A → List ℕ) (Fits : A → Type 0) → IsFormat limit bytes read text Fits
    → (n : ℕ) → IsFormat limit bytes (many read n) (flat_map text) (λ xs. (length xs ≡ n) × AllByRecursion Fits xs)
many_format limit bytes read text Fits format n = record {
  takes = many_takes limit bytes read text Fits format n;
  again = λ at xs end s by fits. many_again limit bytes read text Fits format n xs fits.0 at end s by fits.1;
}
