-- Where bytes that come in pieces can become a whole script.
use Rattle.std.proofs.Common.{◌≡◌, ◌≢◌, ◌⊎◌, Option, Some, None, Result, Ok, IfSome, ℕ, zero, suc, ◌+◌, ◌-◌, ◌<◌, ◌≤◌, List, [], ◌∷◌, ◌++◌, length, take, drop, refl, sym, ap, subst, ◌∙◌, arith, inl, inr}
use Rattle.std.specs.Prelude.{IfNone}
use Rattle.std.specs.Int.{w32, from_le_bytes}
use Rattle.std.proofs.Math.Seq.{take-add}
use Rattle.std.proofs.lemmas.Bool.{cases_lt}
use Rattle.std.proofs.lemmas.List.{append_assoc, drop-append-le, length-append, length-drop, length-take, take-append-le, take_all, take_at}
use Rattle.std.proofs.lemmas.Nat.{from_le_bytes-to_le_bytes_4}
use Rattle.b1_records.specs.Reading.{Fault}
use Rattle.b1_records.proofs.Formats.{IsBytes}
use Rattle.b1_script.proofs.Laws.{whole_is, whole_read, most_under}
use Rattle.b1_script.specs.declared.script.Script.{Script}
use Rattle.b1_script.specs.Pieces.{HasNoneBefore, HasNoShorter, IsWholeScript, told, told_end}
use Rattle.b1_script.specs.Spelling.{IsScript, IsWhole, header_len, header_spelling, parts, spelling}

-- a whole script tells its length
pub tells : (bytes : List ℕ) (s : Script) → IsWhole bytes s → (told_end ≤ length bytes) × (told bytes ≡ length bytes)
tells bytes s is =
    let whole : length (spelling s) ≡ header_len + length (parts s) = length-append (header_spelling s) (parts s) in
    let len : length bytes ≡ header_len + length (parts s) = ap (λ (x : List ℕ). length x) is.spelled ∙ whole in
    let number : told (spelling s) ≡ header_len + length (parts s) = from_le_bytes-to_le_bytes_4 (header_len + length (parts s)) (omega (arith, most_under (length s.opening.peers), is.has_spelling.short)) in
    (omega (arith, len), ap (λ (x : List ℕ). told x) is.spelled ∙ number ∙ sym len)

-- what stands behind doesn't change what is told
told_on : (bytes more : List ℕ) → told_end ≤ length bytes → told (bytes ++ more) ≡ told bytes
told_on bytes more there =
    let dropped : drop 32 (bytes ++ more) ≡ drop 32 bytes ++ more = drop-append-le 32 bytes more (omega (arith, there)) in
    let front : take 4 (drop 32 bytes ++ more) ≡ take 4 (drop 32 bytes) = take-append-le 4 (drop 32 bytes) more (omega (arith, there, length-drop 32 bytes)) in
    ap (λ (x : List ℕ). from_le_bytes w32 x) (ap (λ (x : List ℕ). take 4 x) dropped ∙ front)

-- ---- stops

some_length : (xs : List ℕ) → xs ≢ [] → 1 ≤ length xs
some_length [] some = absurd (some refl)
some_length (x ∷ xs) some = omega arith

pub none_untold : (bytes : List ℕ) → length bytes < told_end → HasNoneBefore bytes told_end
none_untold bytes few = record {
  none = λ more some short whole.
      let t = tells (bytes ++ more) whole.0 whole.1 in
      omega (arith, t.0, length-append bytes more, short);
}

pub none_before : (bytes : List ℕ) → told_end ≤ length bytes → HasNoneBefore bytes (told bytes)
none_before bytes there = record {
  none = λ more some short whole.
      let t = tells (bytes ++ more) whole.0 whole.1 in
      omega (arith, t.1, told_on bytes more there, length-append bytes more, short);
}

pub none_ever : (bytes : List ℕ) → told_end ≤ length bytes → told bytes ≤ length bytes → (stop : ℕ) → HasNoneBefore bytes stop
none_ever bytes there behind stop = record {
  none = λ more some short whole.
      let t = tells (bytes ++ more) whole.0 whole.1 in
      omega (arith, t.1, told_on bytes more there, length-append bytes more, some_length more some, behind);
}

-- ---- fronts

taken : (m : ℕ) (xs : List ℕ) → m ≤ length xs → length (take m xs) ≡ m
taken m xs le = omega (arith, length-take m xs, le)

split : (a b : List ℕ) (k : ℕ) → length a ≤ k → take k (a ++ b) ≡ a ++ take (k - length a) b
split [] b k ge = let e : k ≡ k - 0 = omega arith in ap (λ (n : ℕ). take n b) e
split (x ∷ xs) b zero ge = absurd (omega (arith, ge))
split (x ∷ xs) b (suc k) ge =
    let e : k - length xs ≡ suc k - suc (length xs) = omega arith in
    ap (λ (t : List ℕ). x ∷ t) (split xs b k (omega (arith, ge)) ∙ ap (λ (n : ℕ). xs ++ take n b) e)

-- of bytes that were added before a stop, a shorter front is no script
module _ (bytes piece : List ℕ) (n stop : ℕ) (unfound : ¬ IsWholeScript bytes) (shorter : HasNoShorter bytes) (within : n ≤ length piece) (stops : HasNoneBefore bytes stop) (under : length bytes + n ≤ stop) where
  long : length (bytes ++ take n piece) ≡ length bytes + n
  long = length-append bytes (take n piece) ∙ ap (λ (x : ℕ). length bytes + x) (taken n piece within)

  inside : (k : ℕ) → k < length bytes → ¬ IsWholeScript (take k (bytes ++ take n piece))
  inside k lt whole = shorter.none k lt (subst IsWholeScript (take-append-le k bytes (take n piece) (omega (arith, lt))) whole)

  there : ¬ IsWholeScript (take (length bytes) (bytes ++ take n piece))
  there whole = unfound (subst IsWholeScript (take_at bytes (take n piece) (length bytes) refl) whole)

  behind : (k : ℕ) → length bytes < k → k < length bytes + n → ¬ IsWholeScript (take k (bytes ++ take n piece))
  behind k gt short whole =
      let more : List ℕ = take (k - length bytes) (take n piece) in
      let len : length more ≡ k - length bytes = taken (k - length bytes) (take n piece) (omega (arith, short, taken n piece within)) in
      stops.none more (λ e. omega (arith, len, ap (λ (x : List ℕ). length x) e, gt)) (omega (arith, len, short, under, gt)) (subst IsWholeScript (split bytes (take n piece) k (omega (arith, gt))) whole)

  none_of : (k : ℕ) → k < length (bytes ++ take n piece) → ¬ IsWholeScript (take k (bytes ++ take n piece))
  none_of k short = elim (cases_lt k (length bytes)) [
    | inl lt ↦ inside k lt
    | inr ge ↦ elim (cases_lt (length bytes) k) [
      | inl gt ↦ behind k gt (omega (arith, short, long))
      | inr le ↦ subst (λ (x : ℕ). ¬ IsWholeScript (take x (bytes ++ take n piece))) (omega (arith, ge, le)) there
    ]
  ]

  pub still_none : HasNoShorter (bytes ++ take n piece)
  still_none = record { none = none_of }

-- nothing is shorter than no bytes
pub none_shorter : HasNoShorter []
none_shorter = record { none = λ n lt whole. omega (arith, lt) }

pub nothing_whole : ¬ IsWholeScript []
nothing_whole whole = let t = tells [] whole.0 whole.1 in omega (arith, t.0)

-- ---- a script at the front

pub front_whole : (bytes : List ℕ) (s : Script) (end : ℕ) → IsScript bytes s end → (end ≤ length bytes) × IsWhole (take end bytes) s
front_whole bytes s end is =
    let ends : end ≡ length (spelling s) = omega (arith, is.stands.ends) in
    (is.stands.within, record { has_spelling = is.has_spelling; fields = is.fields; spelled = ap (λ (n : ℕ). take n bytes) ends ∙ is.stands.there })

pub no_front : (bytes : List ℕ) (s : Script) (end : ℕ) → ¬ IsWholeScript bytes → HasNoShorter bytes → IsScript bytes s end → ⊥
no_front bytes s end unfound shorter is =
    let f = front_whole bytes s end is in
    elim (cases_lt end (length bytes)) [
      | inl lt ↦ shorter.none end lt (s, f.1)
      | inr ge ↦ unfound (s, subst (λ (x : List ℕ). IsWhole x s) (take_all end bytes (omega (arith, ge))) f.1)
    ]

-- ---- answers

-- a script as the answer of reading
abbrev pub read_done : Script → Result Script Fault
read_done s = Ok s

-- bytes are one whole script at most
pub one_whole : (bytes : List ℕ) (s t : Script) → IsBytes bytes → IsWhole bytes s → IsWhole bytes t → s ≡ t
one_whole bytes s t fits a b = whole_is s t (sym (whole_read bytes s fits a) ∙ whole_read bytes t fits b)

pub all_or_whole : (o : Option Script) (n len : ℕ) (bytes : List ℕ) → IfNone o (n ≡ len) → IfSome o (λ s. IsWhole bytes s) → (n ≡ len) ⊎ IsWholeScript bytes
all_or_whole None n len bytes all found = inl all
all_or_whole (Some s) n len bytes all found = inr (s, found)

pub none_found : (o : Option Script) (bytes same : List ℕ) → o ≡ None → bytes ≡ same → IfNone o (¬ IsWholeScript bytes) → ¬ IsWholeScript same
none_found o bytes same is e h = subst (λ (x : List ℕ). ¬ IsWholeScript x) e (subst (λ (x : Option Script). IfNone x (¬ IsWholeScript bytes)) is h)

-- a part of a piece, and then a part of what is left of it
pub in_two : (old middle new piece rest : List ℕ) (a b : ℕ) → middle ≡ old ++ take a piece → rest ≡ drop a piece → new ≡ middle ++ take b rest → new ≡ old ++ take (a + b) piece
in_two old middle new piece rest a b first left second =
    second ∙ ap (λ (x : List ℕ). x ++ take b rest) first ∙ append_assoc old (take a piece) (take b rest) ∙ ap (λ (x : List ℕ). old ++ (take a piece ++ take b x)) left ∙ ap (λ (x : List ℕ). old ++ x) (sym (take-add a b piece))

-- what is left of a piece, as it is seen
pub left_of : (piece : List ℕ) (a : ℕ) → take (length piece - a) (drop a piece) ≡ drop a piece
left_of piece a = take_all (length piece - a) (drop a piece) (omega (arith, length-drop a piece))
