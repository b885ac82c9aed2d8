-- A text grows by one item.
use Rattle.std.proofs.Common.{◌≡◌, arith, zero-add, Result, Ok, Err, OnOk, append_assoc, ℕ, zero, suc, ◌+◌, ◌<◌, Option, None, Some, slice_get, List, [], ◌∷◌, ◌++◌, length, take, get_or, sym, ap, ◌∙◌}
use Rattle.std.specs.List.{flat_map, enumerate_from}
use Rattle.std.proofs.lemmas.List.{append-nil, flat_map_more, take_more, length-take-le}
use Rattle.b1_model.specs.declared.records.Call.{Call}
use Rattle.b1_report.specs.Report.{call_text, calls_text}

-- what is written, with the text of the next item behind it
pub text_more : {A : Type 0} (text : A → List ℕ) (xs : List A) (i : ℕ) (x : A) (old out : List ℕ) →
    i < length xs → x ≡ get_or xs i x → out ≡ old ++ flat_map text (take i xs) → out ++ text x ≡ old ++ flat_map text (take (i + 1) xs)
text_more text xs i x old out within at so_far =
    rw (so_far, take_more xs i x within, ← at) (flat_map_more text old (take i xs) x)

-- what a call wrote, behind what was written before it
pub text_joined : {E : Type 0} (r : Result (Unit {0}) E) (old mid out a b : List ℕ) → mid ≡ old ++ a → OnOk r (out ≡ mid ++ b) → OnOk r (out ≡ old ++ (a ++ b))
text_joined (Ok x) old mid out a b before behind = behind ∙ ap (λ t. t ++ b) before ∙ append_assoc old a b
text_joined (Err e) old mid out a b before behind = tt

-- the same of three calls
pub texts_joined : {E : Type 0} (r : Result (Unit {0}) E) (old first second out a b c : List ℕ) →
    first ≡ old ++ a → second ≡ first ++ b → OnOk r (out ≡ second ++ c) → OnOk r (out ≡ old ++ ((a ++ b) ++ c))
texts_joined {E = E} r old first second out a b c one two three =
    text_joined {E = E} r old second out (a ++ b) c (two ∙ ap (λ t. t ++ b) one ∙ append_assoc old a b) three

-- numbered items, with one more behind them
pub enumerate_more : {A : Type 0} (n : ℕ) (xs : List A) (x : A) → enumerate_from n (xs ++ x ∷ []) ≡ enumerate_from n xs ++ (n + length xs, x) ∷ []
enumerate_more n [] x = ap (λ k. (k, x) ∷ []) (omega arith)
enumerate_more n (y ∷ ys) x =
    let place : (n + 1) + length ys ≡ n + length (y ∷ ys) = omega arith in
    ap (λ zs. (n, y) ∷ zs) (enumerate_more (n + 1) ys x ∙ ap (λ k. enumerate_from (n + 1) ys ++ (k, x) ∷ []) place)

-- what is written of numbered items, with the text of the next item behind it
pub numbered_more : {A : Type 0} (text : ℕ × A → List ℕ) (xs : List A) (i : ℕ) (x : A) (old out : List ℕ) →
    i < length xs → x ≡ get_or xs i x → out ≡ old ++ flat_map text (enumerate_from 0 (take i xs)) →
    out ++ text (i, x) ≡ old ++ flat_map text (enumerate_from 0 (take (i + 1) xs))
numbered_more text xs i x old out within at so_far =
    let size : 0 + length (take i xs) ≡ i = zero-add (length (take i xs)) ∙ length-take-le i xs (omega arith) in
    rw (so_far, take_more xs i x within, ← at, enumerate_more 0 (take i xs) x, size) (flat_map_more text old (enumerate_from 0 (take i xs)) (i, x))

-- the text of one more call, with the cookie of its place
calls_more : (ns : List ℕ) (cs : List Call) (k : ℕ) (d : Call) → k < length cs → calls_text ns (take (suc k) cs) ≡ calls_text ns (take k cs) ++ call_text (slice_get ns k) (get_or cs k d)
calls_more ns [] k d lt = absurd (omega (arith, lt))
calls_more [] (c ∷ cs) zero d lt = append-nil (call_text None c)
calls_more (n ∷ ns) (c ∷ cs) zero d lt = append-nil (call_text (Some n) c)
calls_more [] (c ∷ cs) (suc k) d lt =
    ap (λ t. call_text None c ++ t) (calls_more [] cs k d (omega (arith, lt))) ∙ sym (append_assoc (call_text None c) (calls_text [] (take k cs)) (call_text None (get_or cs k d)))
calls_more (n ∷ ns) (c ∷ cs) (suc k) d lt =
    ap (λ t. call_text (Some n) c ++ t) (calls_more ns cs k d (omega (arith, lt))) ∙ sym (append_assoc (call_text (Some n) c) (calls_text ns (take k cs)) (call_text (slice_get ns k) (get_or cs k d)))

-- what is written of calls, with the line of the next one behind it
pub calls_text_more : (ns : List ℕ) (cs : List Call) (k : ℕ) (c : Call) (old out : List ℕ) → k < length cs → c ≡ get_or cs k c → out ≡ old ++ calls_text ns (take k cs) → out ++ call_text (slice_get ns k) c ≡ old ++ calls_text ns (take (k + 1) cs)
calls_text_more ns cs k c old out within at so_far =
    let more : k + 1 ≡ suc k = omega arith in
    ap (λ t. t ++ call_text (slice_get ns k) c) so_far ∙ append_assoc old (calls_text ns (take k cs)) (call_text (slice_get ns k) c)
    ∙ ap (λ t. old ++ t) (ap (λ x. calls_text ns (take k cs) ++ call_text (slice_get ns k) x) at ∙ sym (calls_more ns cs k c within) ∙ ap (λ n. calls_text ns (take n cs)) (sym more))
