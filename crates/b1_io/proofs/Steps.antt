-- One call after another gives or takes the bytes of both.
use Rattle.std.proofs.Common.{◌≡◌, ℕ, ◌+◌, ◌-◌, ◌≤◌, List, ◌++◌, Option, Some, None, Result, Ok, Err, take, drop, length, sym, append_assoc, arith, length-drop}
use Rattle.std.proofs.lemmas.List.{take-append-drop, drop-drop, length-append}
use Rattle.std.proofs.Math.Seq.{take-append_seam, take-add, take-length}
use Rattle.std.proofs.lemmas.Grind.{common_steps}
use Rattle.std.specs.Prelude.{OnErr}
use Rattle.b1_io.specs.Streams.{Gave, GaveSuch, Took}

pub gave_more : (a b c : Option (List ℕ)) (xs ys : List ℕ) → Gave a b xs → Gave b c ys → Gave a c (xs ++ ys)
gave_more a b None xs ys first second = grind (arith, first, second)
gave_more a b (Some rest) xs ys first second = grind (arith, common_steps, first, second, append_assoc xs ys rest)

took_more : (a b c : Option (List ℕ)) (xs ys : List ℕ) → Took a b xs → Took b c ys → Took a c (xs ++ ys)
took_more None b c xs ys first second = grind (arith, first, second)
took_more (Some former) b c xs ys first second = grind (arith, common_steps, first, second, append_assoc former xs ys)

-- a write of what is left of a text takes more of the text
pub took_rest : (a b c : Option (List ℕ)) (xs : List ℕ) (i n : ℕ) → Took a b (take i xs) → Took b c (take n (take (length xs - i) (drop i xs))) → Took a c (take (i + n) xs)
took_rest a b c xs i n first second =
    let whole : take (length xs - i) (drop i xs) ≡ drop i xs = rw (← length-drop i xs) (take-length (drop i xs)) in
    let more = rw whole at second in
    rw (take-add i n xs) (took_more a b c (take i xs) (take n (drop i xs)) first more)

-- a fact that holds anyway holds of an error
pub on_err : {T E P : Type 0} (r : Result T E) → P → OnErr r P
on_err (Ok v) p = tt
on_err (Err e) p = p

-- what a call loses, after the bytes of earlier calls
pub lost_more : (a b c : Option (List ℕ)) (xs : List ℕ) (most all : ℕ) → Gave a b xs → GaveSuch b c (λ ys. length ys ≤ most) → length xs + most ≤ all → GaveSuch a c (λ ys. length ys ≤ all)
lost_more a b c xs most all first lost le = (xs ++ lost.0, omega (arith, length-append xs lost.0, lost.1), gave_more a b c xs lost.0 first lost.2)

-- what stands at the front of a buffer, and then the rest, are the bytes from a place on
pub given_first : (bytes piece behind : List ℕ) (at n : ℕ) → piece ≡ take (at + n - at) (drop at bytes) → length piece ≡ n → drop at bytes ≡ take n (piece ++ behind) ++ drop (at + n) bytes
given_first bytes piece behind at n is len =
    let e : at + n - at ≡ n = omega arith in
    let is' = rw e at is in
    let front : take n (piece ++ behind) ≡ piece = rw (← len) (take-append_seam piece behind) in
    rw (front, is', ← drop-drop n at bytes) (sym (take-append-drop n (drop at bytes)))
