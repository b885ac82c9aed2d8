-- Cookies and commands apart, and each cookie with its command.
use Rattle.std.proofs.Common.{◌≡◌, ℕ, zero, suc, ◌+◌, ◌<◌, ◌≤◌, List, [], ◌∷◌, ◌++◌, length, map, get_or, take, refl, ap, ◌∙◌, append_assoc, arith}
use Rattle.std.specs.Prelude.{zip}
use Rattle.std.specs.List.{flat_map}
use Rattle.std.proofs.lemmas.List.{append-nil, length-append, map-append, take_all}
use Rattle.std.proofs.lemmas.List.Concat.{flat_map-append}
use Rattle.b1_model.specs.declared.commands.Command.{Command}
use Rattle.b1_script.specs.Spelling.{entry_spelling, entries_spelling, entries_of}
use Rattle.b1_script.specs.Reading.{cookies_in, commands_in}

-- one more on each side is one more pair
pub zip_push : {A B : Type 0} (xs : List A) (ys : List B) (x : A) (y : B) → length xs ≡ length ys → zip (xs ++ x ∷ []) (ys ++ y ∷ []) ≡ zip xs ys ++ (x, y) ∷ []
zip_push [] [] x y e = refl
zip_push [] (b ∷ ys) x y e = absurd (omega (arith, e))
zip_push (a ∷ xs) [] x y e = absurd (omega (arith, e))
zip_push {A = A} {B = B} (a ∷ xs) (b ∷ ys) x y e = ap (λ (r : List (A × B)). (a, b) ∷ r) (zip_push xs ys x y (omega (arith, e)))

pub length_zip : {A B : Type 0} (xs : List A) (ys : List B) → length xs ≡ length ys → length (zip xs ys) ≡ length ys
length_zip [] [] e = refl
length_zip [] (b ∷ ys) e = absurd (omega (arith, e))
length_zip (a ∷ xs) [] e = absurd (omega (arith, e))
length_zip (a ∷ xs) (b ∷ ys) e = let ih = length_zip xs ys (omega (arith, e)) in omega (arith, ih)

next_zip : {A B : Type 0} (xs : List A) (ys : List B) (k : ℕ) (x : A) (y : B) → k < length xs → k < length ys → take (suc k) (zip xs ys) ≡ take k (zip xs ys) ++ (get_or xs k x, get_or ys k y) ∷ []
next_zip [] ys k x y l m = absurd (omega (arith, l))
next_zip (a ∷ xs) [] k x y l m = absurd (omega (arith, m))
next_zip (a ∷ xs) (b ∷ ys) zero x y l m = refl
next_zip {A = A} {B = B} (a ∷ xs) (b ∷ ys) (suc k) x y l m = ap (λ (r : List (A × B)). (a, b) ∷ r) (next_zip xs ys k x y (omega (arith, l)) (omega (arith, m)))

-- one more pair of the front
pub take_zip : {A B : Type 0} (xs : List A) (ys : List B) (k : ℕ) (x : A) (y : B) → k < length xs → k < length ys → take (k + 1) (zip xs ys) ≡ take k (zip xs ys) ++ (get_or xs k x, get_or ys k y) ∷ []
take_zip xs ys k x y l m = let e : k + 1 ≡ suc k = omega arith in rw e (next_zip xs ys k x y l m)

pub length_push : {A B : Type 0} (xs : List A) (ys : List B) (x : A) (y : B) → length xs ≡ length ys → length (xs ++ x ∷ []) ≡ length (ys ++ y ∷ [])
length_push xs ys x y e = omega (arith, e, length-append xs (x ∷ []), length-append ys (y ∷ []))

firsts : {A B : Type 0} (xs : List A) (ys : List B) → length xs ≡ length ys → map (λ (p : A × B). p.0) (zip xs ys) ≡ xs
firsts [] ys e = refl
firsts (a ∷ xs) [] e = absurd (omega (arith, e))
firsts {A = A} (a ∷ xs) (b ∷ ys) e = ap (λ (r : List A). a ∷ r) (firsts xs ys (omega (arith, e)))

seconds : {A B : Type 0} (xs : List A) (ys : List B) → length xs ≡ length ys → map (λ (p : A × B). p.1) (zip xs ys) ≡ ys
seconds [] [] e = refl
seconds [] (b ∷ ys) e = absurd (omega (arith, e))
seconds (a ∷ xs) [] e = absurd (omega (arith, e))
seconds {B = B} (a ∷ xs) (b ∷ ys) e = ap (λ (r : List B). b ∷ r) (seconds xs ys (omega (arith, e)))

again : {A B : Type 0} (es : List (A × B)) → zip (map (λ (p : A × B). p.0) es) (map (λ (p : A × B). p.1) es) ≡ es
again [] = refl
again {A = A} {B = B} (e ∷ es) = ap (λ (r : List (A × B)). e ∷ r) (again es)

-- as many lists on each side
pub lists_match : (cookies : List (List ℕ)) (lists : List (List Command)) → map length cookies ≡ map length lists → length cookies ≡ length lists
lists_match [] [] e = refl
lists_match [] (l ∷ ls) e = absurd cc
lists_match (c ∷ cs) [] e = absurd cc
lists_match (c ∷ cs) (l ∷ ls) e =
    let tail : map length cs ≡ map length ls = cc in
    let ih = lists_match cs ls tail in
    omega (arith, ih)

pub entries_push : (cookies : List (List ℕ)) (lists : List (List Command)) (own : List ℕ) (list : List Command) → length cookies ≡ length lists → entries_of (cookies ++ own ∷ []) (lists ++ list ∷ []) ≡ entries_of cookies lists ++ zip own list ∷ []
entries_push [] [] own list e = refl
entries_push [] (l ∷ ls) own list e = absurd (omega (arith, e))
entries_push (c ∷ cs) [] own list e = absurd (omega (arith, e))
entries_push (c ∷ cs) (l ∷ ls) own list e = ap (λ (r : List (List (ℕ × Command))). zip c l ∷ r) (entries_push cs ls own list (omega (arith, e)))

pub lengths_push : (cookies : List (List ℕ)) (lists : List (List Command)) (own : List ℕ) (list : List Command) → length own ≡ length list → map length cookies ≡ map length lists → map length (cookies ++ own ∷ []) ≡ map length (lists ++ list ∷ [])
lengths_push cookies lists own list one e = rw (map-append, map-append) (rw (one, e) refl)

-- one more list of the front
next_entries : (cookies : List (List ℕ)) (lists : List (List Command)) (k : ℕ) (x : List ℕ) (y : List Command) → k < length cookies → k < length lists → take (suc k) (entries_of cookies lists) ≡ take k (entries_of cookies lists) ++ zip (get_or cookies k x) (get_or lists k y) ∷ []
next_entries [] lists k x y l m = absurd (omega (arith, l))
next_entries (c ∷ cs) [] k x y l m = absurd (omega (arith, m))
next_entries (c ∷ cs) (d ∷ ds) zero x y l m = refl
next_entries (c ∷ cs) (d ∷ ds) (suc k) x y l m = ap (λ (r : List (List (ℕ × Command))). zip c d ∷ r) (next_entries cs ds k x y (omega (arith, l)) (omega (arith, m)))

-- the list of a place has as many commands as cookies
pub same_at : (cookies : List (List ℕ)) (lists : List (List Command)) (k : ℕ) (x : List ℕ) (y : List Command) → map length cookies ≡ map length lists → k < length lists → length (get_or cookies k x) ≡ length (get_or lists k y)
same_at [] [] k x y e m = absurd (omega (arith, m))
same_at [] (d ∷ ds) k x y e m = absurd cc
same_at (c ∷ cs) [] k x y e m = absurd cc
same_at (c ∷ cs) (d ∷ ds) zero x y e m = cc
same_at (c ∷ cs) (d ∷ ds) (suc k) x y e m =
    let tail : map length cs ≡ map length ds = cc in
    same_at cs ds k x y tail (omega (arith, m))

-- one more record is written
pub record_written : (out old cookies : List ℕ) (commands : List Command) (k x : ℕ) (y : Command) → length cookies ≡ length commands → k < length commands → out ≡ old ++ flat_map entry_spelling (take k (zip cookies commands))
    → out ++ entry_spelling (get_or cookies k x, get_or commands k y) ≡ old ++ flat_map entry_spelling (take (k + 1) (zip cookies commands))
record_written out old cookies commands k x y same lt so_far =
    let front : List (ℕ × Command) = take k (zip cookies commands) in
    let one : ℕ × Command = (get_or cookies k x, get_or commands k y) in
    let next : take (k + 1) (zip cookies commands) ≡ front ++ one ∷ [] = take_zip cookies commands k x y (omega (arith, same, lt)) lt in
    rw (next, flat_map-append entry_spelling front (one ∷ []), so_far) (simp (append_assoc, append-nil))

pub records_written : (out old cookies : List ℕ) (commands : List Command) (k : ℕ) → length cookies ≡ length commands → length commands ≤ k → out ≡ old ++ flat_map entry_spelling (take k (zip cookies commands)) → out ≡ old ++ flat_map entry_spelling (zip cookies commands)
records_written out old cookies commands k same le so_far =
    so_far ∙ ap (λ (es : List (ℕ × Command)). old ++ flat_map entry_spelling es) (take_all k (zip cookies commands) (omega (arith, length_zip cookies commands same, le)))

-- one more list is written
pub list_written : (out old : List ℕ) (cookies : List (List ℕ)) (lists : List (List Command)) (k : ℕ) (x : List ℕ) (y : List Command) → map length cookies ≡ map length lists → k < length lists → out ≡ old ++ flat_map entries_spelling (take k (entries_of cookies lists))
    → out ++ entries_spelling (zip (get_or cookies k x) (get_or lists k y)) ≡ old ++ flat_map entries_spelling (take (k + 1) (entries_of cookies lists))
list_written out old cookies lists k x y same lt so_far =
    let front : List (List (ℕ × Command)) = take k (entries_of cookies lists) in
    let one : List (ℕ × Command) = zip (get_or cookies k x) (get_or lists k y) in
    let more : k + 1 ≡ suc k = omega arith in
    let count = lists_match cookies lists same in
    let next : take (k + 1) (entries_of cookies lists) ≡ front ++ one ∷ [] = ap (λ (n : ℕ). take n (entries_of cookies lists)) more ∙ next_entries cookies lists k x y (omega (arith, count, lt)) lt in
    rw (next, flat_map-append entries_spelling front (one ∷ []), so_far) (simp (append_assoc, append-nil))

pub count_entries : (cookies : List (List ℕ)) (lists : List (List Command)) → map length cookies ≡ map length lists → length (entries_of cookies lists) ≡ length lists
count_entries [] [] e = refl
count_entries [] (l ∷ lists) e = absurd cc
count_entries (c ∷ cookies) [] e = absurd cc
count_entries (c ∷ cookies) (l ∷ lists) e =
    let tail : map length cookies ≡ map length lists = cc in
    let ih = count_entries cookies lists tail in
    omega (arith, ih)

pub lists_written : (out old : List ℕ) (cookies : List (List ℕ)) (lists : List (List Command)) (k : ℕ) → map length cookies ≡ map length lists → length lists ≤ k → out ≡ old ++ flat_map entries_spelling (take k (entries_of cookies lists)) → out ≡ old ++ flat_map entries_spelling (entries_of cookies lists)
lists_written out old cookies lists k same le so_far =
    so_far ∙ ap (λ (es : List (List (ℕ × Command))). old ++ flat_map entries_spelling es) (take_all k (entries_of cookies lists) (omega (arith, count_entries cookies lists same, le)))

pub cookies_back : (cookies : List (List ℕ)) (lists : List (List Command)) → map length cookies ≡ map length lists → cookies_in (entries_of cookies lists) ≡ cookies
cookies_back [] [] e = refl
cookies_back [] (l ∷ ls) e = absurd cc
cookies_back (c ∷ cs) [] e = absurd cc
cookies_back (c ∷ cs) (l ∷ ls) e =
    let head : length c ≡ length l = cc in
    let tail : map length cs ≡ map length ls = cc in
    rw (firsts c l head, cookies_back cs ls tail) refl

pub commands_back : (cookies : List (List ℕ)) (lists : List (List Command)) → map length cookies ≡ map length lists → commands_in (entries_of cookies lists) ≡ lists
commands_back [] [] e = refl
commands_back [] (l ∷ ls) e = absurd cc
commands_back (c ∷ cs) [] e = absurd cc
commands_back (c ∷ cs) (l ∷ ls) e =
    let head : length c ≡ length l = cc in
    let tail : map length cs ≡ map length ls = cc in
    rw (seconds c l head, commands_back cs ls tail) refl

pub entries_again : (es : List (List (ℕ × Command))) → entries_of (cookies_in es) (commands_in es) ≡ es
entries_again [] = refl
entries_again (e ∷ es) = rw (again e, entries_again es) refl

lengths : {A B : Type 0} (es : List (A × B)) → length (map (λ (p : A × B). p.0) es) ≡ length (map (λ (p : A × B). p.1) es)
lengths [] = refl
lengths (e ∷ es) = let ih = lengths es in omega (arith, ih)

pub same_lengths : (es : List (List (ℕ × Command))) → map length (cookies_in es) ≡ map length (commands_in es)
same_lengths [] = refl
same_lengths (e ∷ es) = rw (lengths e, same_lengths es) refl
