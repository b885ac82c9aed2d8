-- What is held of an input, piece by piece, and what it is read as.
use Rattle.std.proofs.Common.{◌≡◌, ◌≢◌, ◌⊎◌, ℕ, zero, suc, ◌+◌, ◌-◌, ◌<◌, ◌≤◌, List, [], ◌∷◌, ◌++◌, length, take, drop, slice_index_or, Bool, eq-eqb, IfOk, Result, Ok, Err, refl, sym, ap, subst, ◌∙◌, arith, inl, inr}
use Rattle.std.specs.List.{AllByRecursion}
use Rattle.std.proofs.lemmas.Bool.{le-ltb, ne_eqb}
use Rattle.std.proofs.lemmas.List.{append-nil, append_assoc, drop_at, length-append, length-drop, length-take, take-append-drop, take_all, take_at}
use Rattle.b1_errs.specs.declared.Cause.TheVariants as causes
use Rattle.b1_errs.specs.declared.NotRead.{NotRead}
use Rattle.b1_errs.specs.declared.NotRead.TheVariants.{Bad, Memory}
use Rattle.b1_model.specs.declared.limits.TheConstants.{MOST_SCRIPT}
use Rattle.b1_records.specs.Reading.{Fails, Fault, Gives, Read}
use Rattle.b1_records.specs.Spelling.{IsByte}
use Rattle.b1_records.proofs.Records.{each_byte}
use Rattle.b1_script.specs.declared.script.Script.{Script}
use Rattle.b1_script.specs.Pieces.{HasNoShorter, IsWholeScript}
use Rattle.b1_script.specs.Reading.{script_at, to_the_end, whole_at}
use Rattle.b1_script.specs.Spelling.{IsScript, IsWhole, spelling}
use Rattle.b1_script.proofs.Laws.{script_read, whole_answer, whole_read}
use Rattle.b1_input.specs.Held.{Held, IsFront, IsHeld, held_bytes}

-- ---- bytes

pub all_bytes : (xs : List ℕ) → ((i : ℕ) → slice_index_or xs i 0 < 256) → AllByRecursion IsByte xs
all_bytes [] h = tt
all_bytes (x ∷ xs) h = (h 0, all_bytes xs (λ i. h (suc i)))

more_bytes : (xs ys : List ℕ) → AllByRecursion IsByte xs → AllByRecursion IsByte ys → AllByRecursion IsByte (xs ++ ys)
more_bytes [] ys h k = k
more_bytes (x ∷ xs) ys h k = (h.0, more_bytes xs ys h.1 k)

-- ---- pieces

-- what was taken of a piece, and what is held then
pub record Taken (old behind piece new : List ℕ) (n : ℕ) : Type 0 where
  pub within : n ≤ length piece
  pub bytes : new ≡ old ++ take n piece
  pub all : (n ≡ length piece) ⊎ IsWholeScript new
  pub shorter : HasNoShorter new

-- a whole script takes nothing
none_of : (old behind piece new : List ℕ) (n : ℕ) → Taken old behind piece new n → IsWholeScript old → n ≡ 0
none_of old behind piece new zero t whole = refl
none_of old behind piece new (suc n) t whole =
    let added : length (take (suc n) piece) ≡ suc n = omega (arith, length-take (suc n) piece, t.within) in
    let len : length new ≡ length old + suc n = ap (λ (x : List ℕ). length x) t.bytes ∙ length-append old (take (suc n) piece) ∙ ap (λ (x : ℕ). length old + x) added in
    let front : take (length old) new ≡ old = ap (λ (x : List ℕ). take (length old) x) t.bytes ∙ take_at old (take (suc n) piece) (length old) refl in
    absurd (t.shorter.none (length old) (omega (arith, len)) (subst IsWholeScript (sym front) whole))

-- the bytes stay together
pub joined : (old behind piece new : List ℕ) (n count : ℕ) → Taken old behind piece new n → IsHeld old behind count → new ++ (behind ++ drop n piece) ≡ (old ++ behind) ++ piece
joined old behind piece new n count t held = elim held.whole [
  | inl none ↦
      rw (none, t.bytes) (append_assoc old (take n piece) (drop n piece) ∙ ap (λ (x : List ℕ). old ++ x) (take-append-drop n piece) ∙ ap (λ (x : List ℕ). x ++ piece) (sym (append-nil old)))
  | inr whole ↦
      let n-is = none_of old behind piece new n t whole in
      let same : new ≡ old = t.bytes ∙ ap (λ (k : ℕ). old ++ take k piece) n-is ∙ append-nil old in
      ap (λ (x : List ℕ). x ++ (behind ++ drop n piece)) same ∙ ap (λ (k : ℕ). old ++ (behind ++ drop k piece)) n-is ∙ sym (append_assoc old behind piece)
]

drop_whole : (xs : List ℕ) → drop (length xs) xs ≡ []
drop_whole [] = refl
drop_whole (x ∷ xs) = drop_whole xs

whole_then : (old behind piece new : List ℕ) (n count : ℕ) → Taken old behind piece new n → IsHeld old behind count → ((behind ++ drop n piece) ≡ []) ⊎ IsWholeScript new
whole_then old behind piece new n count t held = elim held.whole [
  | inl none ↦ elim t.all [
    | inl all ↦ inl (rw none (ap (λ (k : ℕ). drop k piece) all ∙ drop_whole piece))
    | inr whole ↦ inr whole
  ]
  | inr whole ↦ inr (subst IsWholeScript (sym (t.bytes ∙ ap (λ (k : ℕ). old ++ take k piece) (none_of old behind piece new n t whole) ∙ append-nil old)) whole)
]

pub held_then : (old behind piece new : List ℕ) (n count : ℕ) → Taken old behind piece new n → IsHeld old behind count → AllByRecursion IsByte piece → IsHeld new (behind ++ drop n piece) (count + n)
held_then old behind piece new n count t held bytes =
    let added : length (take n piece) ≡ n = omega (arith, length-take n piece, t.within) in
    let len : length new ≡ length old + n = ap (λ (x : List ℕ). length x) t.bytes ∙ length-append old (take n piece) ∙ ap (λ (x : ℕ). length old + x) added in
    record {
      whole = whole_then old behind piece new n count t held;
      counted = omega (arith, held.counted, len);
      bytes = subst (λ (x : List ℕ). AllByRecursion IsByte x) (sym (joined old behind piece new n count t held)) (more_bytes (old ++ behind) piece held.bytes bytes);
    }

-- ---- fronts

pub front_of : (front behind : List ℕ) (count : ℕ) (s : Script) → IsHeld front behind count → IsWhole front s → IsFront (front ++ behind) s count behind
front_of front behind count s held is =
    let len : length front ≡ length (spelling s) = ap (λ (x : List ℕ). length x) is.spelled in
    record {
      script = record {
        has_spelling = is.has_spelling;
        fields = is.fields;
        stands = record {
          there = ap (λ (n : ℕ). take n (front ++ behind)) (sym len) ∙ take_at front behind (length front) refl ∙ is.spelled;
          ends = omega (arith, held.counted, len);
          within = omega (arith, held.counted, length-append front behind);
        };
      };
      rest = sym (ap (λ (n : ℕ). drop n (front ++ behind)) held.counted ∙ drop_at front behind (length front) refl);
    }

-- ---- readings

pub left_of : (piece : List ℕ) (a : ℕ) → take (length piece - a) (drop a piece) ≡ drop a piece
left_of piece a = take_all (length piece - a) (drop a piece) (omega (arith, length-drop a piece))

-- what is held is read as its script
pub front_read : (front behind : List ℕ) (count : ℕ) (s : Script) → IsHeld front behind count → IsWhole front s → script_at MOST_SCRIPT (front ++ behind) ≡ Ok (s, count)
front_read front behind count s held is = script_read (front ++ behind) s count (each_byte (front ++ behind) held.bytes) (front_of front behind count s held is).script

-- bytes that aren't too many are read as their front is
whole_of : (bytes : List ℕ) (r : Read Script) → length bytes ≤ MOST_SCRIPT → script_at MOST_SCRIPT bytes ≡ r → whole_at bytes ≡ to_the_end bytes r
unfolding whole_at
whole_of bytes r few e = rw (le-ltb _ _ few, e) refl

-- a fault of the front is one of the whole
pub whole_fault : (bytes : List ℕ) (why : NotRead) → length bytes ≤ MOST_SCRIPT → Fails why (script_at MOST_SCRIPT bytes) → Fails why (whole_at bytes)
whole_fault bytes Memory few fault = tt
whole_fault bytes (Bad at cause) few fault = whole_of bytes (Err (at, cause)) few fault

-- a script at the front is the whole where nothing stands behind it
pub whole_front : (bytes : List ℕ) (s : Script) (end : ℕ) (behind : List ℕ) (r : Result Script NotRead) → length bytes ≤ MOST_SCRIPT → IsFront bytes s end behind → script_at MOST_SCRIPT bytes ≡ Ok (s, end)
    → (behind ≡ [] → r ≡ Ok s) → (behind ≢ [] → r ≡ Err (Bad end causes.Trailing)) → Gives {Y = Script} (λ x. x) r (whole_at bytes)
whole_front bytes s end [] r few front read none some =
    let len : end ≡ length bytes = omega (arith, length-drop end bytes, ap (λ (x : List ℕ). length x) front.rest, front.script.stands.within) in
    let whole : whole_at bytes ≡ Ok s = whole_of bytes (Ok (s, end)) few read ∙ rw (eq-eqb end (length bytes) len) refl in
    subst (λ (x : Result Script NotRead). Gives {Y = Script} (λ y. y) x (whole_at bytes)) (sym (none refl)) whole
whole_front bytes s end (b ∷ bs) r few front read none some =
    let less : end < length bytes = omega (arith, length-drop end bytes, ap (λ (x : List ℕ). length x) front.rest) in
    let whole : whole_at bytes ≡ Err (end, causes.Trailing) = whole_of bytes (Ok (s, end)) few read ∙ rw (ne_eqb end (length bytes) (λ e. omega (arith, e, less))) refl in
    subst (λ (x : Result Script NotRead). Gives {Y = Script} (λ y. y) x (whole_at bytes)) (sym (some (λ e. cc e))) whole

-- ---- what is seen of an input

-- what a front's reading gives, where the input is seen so
pub front_only : {X : Type 0} (view : X → Script × ℕ) (h : Held) (front behind : List ℕ) (count : ℕ) (wanting : Bool) (r : Result X NotRead) → record { front = front; behind = behind; wanting = wanting } ≡ h → IsHeld front behind count
    → Gives {Y = Script × ℕ} view r (script_at MOST_SCRIPT (front ++ behind)) → (s : Script) (end : ℕ) → IsScript (held_bytes h) s end → Gives {Y = Script × ℕ} view r (Ok (s, end))
front_only view h front behind count wanting r seen held given s end is =
    let same : IsScript (front ++ behind) s end = subst (λ (k : Held). IsScript (held_bytes k) s end) (sym seen) is in
    subst (λ (read : Read Script). Gives {Y = Script × ℕ} view r read) (script_read (front ++ behind) s end (each_byte (front ++ behind) held.bytes) same) given

pub whole_only : (h : Held) (front behind : List ℕ) (count : ℕ) (wanting : Bool) (r : Result Script NotRead) → record { front = front; behind = behind; wanting = wanting } ≡ h → IsHeld front behind count
    → Gives {Y = Script} (λ x. x) r (whole_at (front ++ behind)) → (s : Script) → IsWhole (held_bytes h) s → Gives {Y = Script} (λ x. x) r (Ok s)
whole_only h front behind count wanting r seen held given s is =
    let same : IsWhole (front ++ behind) s = subst (λ (k : Held). IsWhole (held_bytes k) s) (sym seen) is in
    subst (λ (read : Result Script Fault). Gives {Y = Script} (λ x. x) r read) (whole_read (front ++ behind) s (each_byte (front ++ behind) held.bytes) same) given

pub whole_found_of : (h : Held) (front behind : List ℕ) (count : ℕ) (wanting : Bool) (r : Result Script NotRead) → record { front = front; behind = behind; wanting = wanting } ≡ h → IsHeld front behind count
    → Gives {Y = Script} (λ x. x) r (whole_at (front ++ behind)) → IfOk r (λ s. IsWhole (held_bytes h) s)
whole_found_of h front behind count wanting r seen held given =
    subst (λ (k : Held). IfOk r (λ s. IsWhole (held_bytes k) s)) seen (whole_answer (front ++ behind) r (each_byte (front ++ behind) held.bytes) given)
