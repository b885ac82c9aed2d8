-- Numbers of a progression, in a range and by their first digits.
use Rattle.std.proofs.Common.{◌≡◌, ◌≢◌, arith, ℕ, zero, suc, ◌+◌, ◌-◌, ◌*◌, ◌/◌, ◌%◌, ◌^◌, ◌<◌, ◌≤◌, true, ◌⊎◌, inl, inr, sym, ap, subst, ◌∙◌}
use Rattle.std.proofs.lemmas.Bool.{cases_lt}
use Rattle.std.proofs.lemmas.Bool.Decides.{nat_tests}
use Rattle.std.proofs.Common.{leb}
use Rattle.std.proofs.lemmas.Nat.{div-add-mod', mul-le, mod_below}
use Rattle.std.proofs.Math.Nat.{add-mul-mod_self_right, zero-mod, one-le-pow, pow-succ', mul_assoc}
use Rattle.b1_text_words.specs.declared.among.Numbers.{Numbers}
use Rattle.b1_text_words.specs.Digits.{HasAmong, Reaches}

pub le_true : (a b : ℕ) → a ≤ b → leb a b ≡ true
le_true a b h = grind (arith, nat_tests)

pub true_le : (a b : ℕ) → leb a b ≡ true → a ≤ b
true_le a b h = grind (arith, nat_tests)

-- the next multiple of a step
next_multiple : (d m s : ℕ) → 1 ≤ s → m % s ≡ 0 → d ≤ m → 0 < d % s → d + (s - d % s) ≤ m
next_multiple d m s some whole within over =
    let below : d % s < s = mod_below d s some in
    let left : d / s * s + d % s ≡ d = div-add-mod' d s in
    let right : m / s * s + m % s ≡ m = div-add-mod' m s in
    elim (cases_lt (d / s) (m / s)) [
      | inl less ↦ (let more : (d / s + 1) * s ≤ m / s * s = mul-le (d / s + 1) s (m / s) s (omega (arith, less)) (omega arith) in
          let wide : (d / s + 1) * s ≡ d / s * s + s = omega arith in
          omega (arith, below, left, right, more, wide, whole))
      | inr least ↦ absurd (let fewer : m / s * s ≤ d / s * s = mul-le (m / s) s (d / s) s least (omega arith) in omega (arith, left, right, fewer, whole, within, over))
    ]

at_next : (d s : ℕ) → 1 ≤ s → (d + (s - d % s)) % s ≡ 0
at_next d s some =
    let below : d % s < s = mod_below d s some in
    let left : d / s * s + d % s ≡ d = div-add-mod' d s in
    let wide : (d / s + 1) * s ≡ d / s * s + s = omega arith in
    let same : d + (s - d % s) ≡ 0 + (d / s + 1) * s = omega (arith, below, left, wide) in
    ap (λ n. n % s) same ∙ add-mul-mod_self_right 0 (d / s + 1) s ∙ zero-mod s

-- in a range that begins above all of them
pub above_all : (s : Numbers) (low width : ℕ) → s.most < low → HasAmong s low width → ⊥
above_all s low width high h = omega (arith, high, h.above, h.among.most)

-- in a range that begins at the first, or before it
pub first_in : (s : Numbers) (low width : ℕ) → low ≤ s.least → s.least - low < width → HasAmong s low width
first_in s low width before near = record {
  number = s.least;
  among = record { least = omega arith; most = s.some; step = ap (λ n. n % s.step) (let none : s.least - s.least ≡ 0 = omega arith in none) ∙ zero-mod s.step };
  above = before;
  below = omega (arith, before, near);
}

pub first_near : (s : Numbers) (low width : ℕ) → low ≤ s.least → HasAmong s low width → s.least - low < width
first_near s low width before h = omega (arith, before, h.above, h.below, h.among.least)

-- in a range that begins behind the first
pub here_in : (s : Numbers) (low width : ℕ) → 1 ≤ width → s.least ≤ low → low ≤ s.most → (low - s.least) % s.step ≡ 0 → HasAmong s low width
here_in s low width wide behind within on = record { number = low; among = record { least = behind; most = within; step = on }; above = omega arith; below = omega (arith, wide) }

pub next_in : (s : Numbers) (low width : ℕ) → s.least ≤ low → low ≤ s.most →
    s.step - (low - s.least) % s.step < width → s.step - (low - s.least) % s.step ≤ s.most - low → HasAmong s low width
next_in s low width behind within near fits =
    let d = low - s.least in
    let apart : low + (s.step - (low - s.least) % s.step) - s.least ≡ (low - s.least) + (s.step - (low - s.least) % s.step) = omega (arith, behind) in
    record {
      number = low + (s.step - (low - s.least) % s.step);
      among = record { least = omega (arith, behind); most = omega (arith, within, fits); step = ap (λ n. n % s.step) apart ∙ at_next (low - s.least) s.step s.steps };
      above = omega arith;
      below = omega (arith, near);
    }

pub next_near : (s : Numbers) (low width : ℕ) → s.least ≤ low → low ≤ s.most → (low - s.least) % s.step ≢ 0 → HasAmong s low width →
    (s.step - (low - s.least) % s.step < width) × (s.step - (low - s.least) % s.step ≤ s.most - low)
next_near s low width behind within off h =
    let over : 0 < (low - s.least) % s.step = omega (arith, off) in
    let far = next_multiple (low - s.least) (h.number - s.least) s.step s.steps h.among.step (omega (arith, h.above)) over in
    (omega (arith, far, behind, h.below, h.above, h.among.least), omega (arith, far, behind, within, h.among.most, h.above, h.among.least))

-- with no further digit, and with one or more

pub reaches_now : (s : Numbers) (low width : ℕ) → HasAmong s low width → Reaches s low width
reaches_now s low width h = record { digits = 0; has = subst (λ w. HasAmong s (low * 1) w) (times_one width) (subst (λ l. HasAmong s l width) (times_one low) h) } where
  times_one : (a : ℕ) → a ≡ a * 1
  times_one a = omega arith

tens : (a k : ℕ) → a * 10 * 10 ^ k ≡ a * 10 ^ suc k
tens a k = mul_assoc a 10 (10 ^ k) ∙ ap (λ m. a * m) (sym (pow-succ' 10 k))

pub reaches_later : (s : Numbers) (low width : ℕ) → Reaches s (low * 10) (width * 10) → Reaches s low width
reaches_later s low width r = record { digits = suc r.digits; has = rw (← tens low r.digits, ← tens width r.digits) r.has }

pub reaches_either : (s : Numbers) (low width : ℕ) → Reaches s low width → HasAmong s low width ⊎ ((low ≤ s.most / 10) × Reaches s (low * 10) (width * 10))
reaches_either s low width r = split r.digits r.has where
  split : (k : ℕ) → HasAmong s (low * 10 ^ k) (width * 10 ^ k) → HasAmong s low width ⊎ ((low ≤ s.most / 10) × Reaches s (low * 10) (width * 10))
  split zero h = inl (let a : low * 1 ≡ low = omega arith in let b : width * 1 ≡ width = omega arith in subst (λ w. HasAmong s low w) b (subst (λ l. HasAmong s l (width * 1)) a h))
  split (suc k) h =
      let g : HasAmong s (low * 10 * 10 ^ k) (width * 10 * 10 ^ k) = rw (tens low k, tens width k) h in
      let one : low * 10 * 1 ≤ low * 10 * 10 ^ k = mul-le (low * 10) 1 (low * 10) (10 ^ k) (omega arith) (one-le-pow k 10 (omega arith)) in
      inr (omega (arith, one, g.above, g.among.most), record { digits = k; has = g })
