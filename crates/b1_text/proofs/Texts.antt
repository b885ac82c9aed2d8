-- A text grows by one item.
use Rattle.std.proofs.Common.{◌≡◌, arith, zero-add, Result, Ok, Err, OnOk, append_assoc, ℕ, zero, suc, ◌+◌, ◌<◌, ◌≤◌, List, [], ◌∷◌, ◌++◌, length, map, take, get_or, codes, refl, sym, ap, ◌∙◌}
use Rattle.std.specs.Prelude.{zip}
use Rattle.std.specs.Fmt.{decimal}
use Rattle.std.specs.List.{flat_map, enumerate_from}
use Rattle.std.proofs.lemmas.Grind.{flat_map-append}
use Rattle.std.proofs.lemmas.List.{flat_map_more, take_more, take_all, length-map, length-take-le, append-nil}
use Rattle.std.proofs.lemmas.List.Concat.{flat_map-cons}
use Rattle.std.proofs.lemmas.List.Folds.{flat_map-map}
use Rattle.b1_model.specs.declared.commands.Command.{Command}
use Rattle.b1_model.specs.declared.version.Version.{Version}
use Rattle.b1_model.specs.Versions.{version_of, version_number}
use Rattle.b1_script.specs.declared.script.Script.{Script}
use Rattle.b1_script.specs.Spelling.{entries_of}
use Rattle.b1_script.proofs.Entries.{take_zip, length_zip}
use Rattle.b1_text.specs.declared.statement.Statement.{Statement}
use Rattle.b1_text.specs.declared.statement.Statement.TheVariants as says
use Rattle.b1_text.specs.Texts.{name_text, plain, marked, plain_entries, marked_entries, entries_said, line_text, opening_statements, lists_statements, script_text}

-- what is written, with the text of the next item behind it
pub text_more : {A : Type 0} (text : A → List ℕ) (xs : List A) (i : ℕ) (x : A) (old out : List ℕ) →
    i < length xs → x ≡ get_or xs i x → out ≡ old ++ flat_map text (take i xs) → out ++ text x ≡ old ++ flat_map text (take (i + 1) xs)
text_more text xs i x old out within at so_far =
    rw (so_far, take_more xs i x within, ← at) (flat_map_more text old (take i xs) x)

-- what a call wrote, behind what was written before it
pub text_joined : {E : Type 0} (r : Result (Unit {0}) E) (old mid out a b : List ℕ) → mid ≡ old ++ a → OnOk r (out ≡ mid ++ b) → OnOk r (out ≡ old ++ (a ++ b))
text_joined (Ok x) old mid out a b before behind = behind ∙ ap (λ t. t ++ b) before ∙ append_assoc old a b
text_joined (Err e) old mid out a b before behind = tt

-- the same of three calls
pub texts_joined : {E : Type 0} (r : Result (Unit {0}) E) (old first second out a b c : List ℕ) →
    first ≡ old ++ a → second ≡ first ++ b → OnOk r (out ≡ second ++ c) → OnOk r (out ≡ old ++ ((a ++ b) ++ c))
texts_joined {E = E} r old first second out a b c one two three =
    text_joined {E = E} r old second out (a ++ b) c (two ∙ ap (λ t. t ++ b) one ∙ append_assoc old a b) three

-- numbered items, with one more behind them
pub enumerate_more : {A : Type 0} (n : ℕ) (xs : List A) (x : A) → enumerate_from n (xs ++ x ∷ []) ≡ enumerate_from n xs ++ (n + length xs, x) ∷ []
enumerate_more n [] x = ap (λ k. (k, x) ∷ []) (omega arith)
enumerate_more n (y ∷ ys) x =
    let place : (n + 1) + length ys ≡ n + length (y ∷ ys) = omega arith in
    ap (λ zs. (n, y) ∷ zs) (enumerate_more (n + 1) ys x ∙ ap (λ k. enumerate_from (n + 1) ys ++ (k, x) ∷ []) place)

-- what is written of numbered items, with the text of the next item behind it
pub numbered_more : {A : Type 0} (text : ℕ × A → List ℕ) (xs : List A) (i : ℕ) (x : A) (old out : List ℕ) →
    i < length xs → x ≡ get_or xs i x → out ≡ old ++ flat_map text (enumerate_from 0 (take i xs)) →
    out ++ text (i, x) ≡ old ++ flat_map text (enumerate_from 0 (take (i + 1) xs))
numbered_more text xs i x old out within at so_far =
    let size : 0 + length (take i xs) ≡ i = zero-add (length (take i xs)) ∙ length-take-le i xs (omega arith) in
    rw (so_far, take_more xs i x within, ← at, enumerate_more 0 (take i xs) x, size) (flat_map_more text old (enumerate_from 0 (take i xs)) (i, x))

get_or_map : {A B : Type 0} (f : A → B) (xs : List A) (i : ℕ) (x : A) → i < length xs → get_or (map f xs) i (f x) ≡ f (get_or xs i x)
get_or_map f [] i x lt = absurd (omega (arith, lt))
get_or_map f (y ∷ ys) zero x lt = refl
get_or_map f (y ∷ ys) (suc i) x lt = get_or_map f ys i x (omega (arith, lt))

-- the same of what is made of items
pub made_more : {A B : Type 0} (f : A → B) (text : ℕ × B → List ℕ) (xs : List A) (i : ℕ) (x : A) (old out : List ℕ) →
    i < length xs → x ≡ get_or xs i x → out ≡ old ++ flat_map text (enumerate_from 0 (take i (map f xs))) →
    out ++ text (i, f x) ≡ old ++ flat_map text (enumerate_from 0 (take (i + 1) (map f xs)))
made_more f text xs i x old out within at so_far =
    numbered_more text (map f xs) i (f x) old out (omega (arith, within, length-map xs f)) (ap f at ∙ sym (get_or_map f xs i x within)) so_far

pub made_all : {A B : Type 0} (f : A → B) (text : ℕ × B → List ℕ) (xs : List A) (i : ℕ) (old out : List ℕ) → length xs ≤ i →
    out ≡ old ++ flat_map text (enumerate_from 0 (take i (map f xs))) → out ≡ old ++ flat_map text (enumerate_from 0 (map f xs))
made_all {B = B} f text xs i old out all so_far = so_far ∙ ap (λ (ys : List B). old ++ flat_map text (enumerate_from 0 ys)) (take_all i (map f xs) (omega (arith, all, length-map xs f)))

-- the cookies and commands of one peer
pub entries_at : (cookies : List (List ℕ)) (lists : List (List Command)) (k : ℕ) (x : List ℕ) (y : List Command) (d : List (ℕ × Command)) → k < length cookies → k < length lists → zip (get_or cookies k x) (get_or lists k y) ≡ get_or (entries_of cookies lists) k d
entries_at [] lists k x y d l m = absurd (omega (arith, l))
entries_at (c ∷ cs) [] k x y d l m = absurd (omega (arith, m))
entries_at (c ∷ cs) (e ∷ es) zero x y d l m = refl
entries_at (c ∷ cs) (e ∷ es) (suc k) x y d l m = entries_at cs es k x y d (omega (arith, l)) (omega (arith, m))

-- a cookie and a command more
pub pairs_more : (text : ℕ × Command → List ℕ) (cookies : List ℕ) (commands : List Command) (k x : ℕ) (y : Command) (old out : List ℕ) → length cookies ≡ length commands → k < length commands →
    out ≡ old ++ flat_map text (take k (zip cookies commands)) → out ++ text (get_or cookies k x, get_or commands k y) ≡ old ++ flat_map text (take (k + 1) (zip cookies commands))
pairs_more text cookies commands k x y old out same lt so_far =
    let next = take_zip cookies commands k x y (omega (arith, same, lt)) lt in
    rw (so_far, next) (flat_map_more text old (take k (zip cookies commands)) (get_or cookies k x, get_or commands k y))

pub pairs_all : (text : ℕ × Command → List ℕ) (cookies : List ℕ) (commands : List Command) (k : ℕ) (old out : List ℕ) → length cookies ≡ length commands → length commands ≤ k →
    out ≡ old ++ flat_map text (take k (zip cookies commands)) → out ≡ old ++ flat_map text (zip cookies commands)
pairs_all text cookies commands k old out same le so_far =
    so_far ∙ ap (λ (ps : List (ℕ × Command)). old ++ flat_map text ps) (take_all k (zip cookies commands) (omega (arith, length_zip cookies commands same, le)))

-- the lines of statements made of items
pub lines_of : {A : Type 0} (says : A → Statement) (xs : List A) → flat_map line_text (map says xs) ≡ flat_map (λ x. line_text (says x)) xs
lines_of says xs = flat_map-map line_text says xs

-- the first two lines
pub first_lines : (number : ℕ) (version : Version) (clock : ℕ) → number ≡ version_number version → codes "bus1 script " ++ (decimal number ++ (codes "\nclock " ++ (decimal clock ++ codes "\n"))) ≡ line_text (says.Name version) ++ line_text (says.Clock clock)
first_lines number version clock e =
    ap (λ (n : ℕ). codes "bus1 script " ++ (decimal n ++ (codes "\nclock " ++ (decimal clock ++ codes "\n")))) e
    ∙ sym (append_assoc (codes "bus1 script ") (decimal (version_number version)) (codes "\nclock " ++ (decimal clock ++ codes "\n")))
    ∙ sym (append_assoc (name_text version) (codes "\n") (codes "clock " ++ (decimal clock ++ codes "\n")))

-- the lines before the commands
pub opening_lines : (s : Script) →
    ((line_text (says.Name (version_of s.cookies)) ++ line_text (says.Clock s.opening.first_clock)) ++ flat_map (λ p. line_text (says.Peer p)) s.opening.peers) ++ flat_map (λ w. line_text (says.Wire w)) s.opening.wires ≡ flat_map line_text (opening_statements s)
opening_lines s =
    let peers : List ℕ = flat_map (λ p. line_text (says.Peer p)) s.opening.peers in
    let wires : List ℕ = flat_map (λ w. line_text (says.Wire w)) s.opening.wires in
    let joined : flat_map line_text (map says.Peer s.opening.peers ++ map says.Wire s.opening.wires) ≡ peers ++ wires
    = flat_map-append line_text (map says.Peer s.opening.peers) (map says.Wire s.opening.wires) ∙ ap (λ x. x ++ flat_map line_text (map says.Wire s.opening.wires)) (lines_of says.Peer s.opening.peers) ∙ ap (λ x. peers ++ x) (lines_of says.Wire s.opening.wires) in
    append_assoc (line_text (says.Name (version_of s.cookies)) ++ line_text (says.Clock s.opening.first_clock)) peers wires
    ∙ append_assoc (line_text (says.Name (version_of s.cookies))) (line_text (says.Clock s.opening.first_clock)) (peers ++ wires)
    ∙ ap (λ x. line_text (says.Name (version_of s.cookies)) ++ (line_text (says.Clock s.opening.first_clock) ++ x)) (sym joined)

-- all lines
pub script_lines : (s : Script) →
    (flat_map line_text (opening_statements s) ++ flat_map line_text (lists_statements (entries_said s.cookies s.commands))) ++ line_text (says.Turns s.turns) ≡ script_text s
script_lines s =
    sym (flat_map-append line_text (opening_statements s ++ lists_statements (entries_said s.cookies s.commands)) (says.Turns s.turns ∷ [])
    ∙ ap (λ x. x ++ flat_map line_text (says.Turns s.turns ∷ [])) (flat_map-append line_text (opening_statements s) (lists_statements (entries_said s.cookies s.commands)))
    ∙ ap (λ x. (flat_map line_text (opening_statements s) ++ flat_map line_text (lists_statements (entries_said s.cookies s.commands))) ++ x) (append-nil (line_text (says.Turns s.turns))))

-- the lines of lists of statements
pub lines_of_lists : {A : Type 0} (says : A → List Statement) (xs : List A) → flat_map line_text (flat_map says xs) ≡ flat_map (λ x. flat_map line_text (says x)) xs
lines_of_lists says [] = refl
lines_of_lists says (x ∷ xs) =
    ap (flat_map line_text) (flat_map-cons says x xs) ∙ flat_map-append line_text (says x) (flat_map says xs) ∙ ap (λ t. flat_map line_text (says x) ++ t) (lines_of_lists says xs)

-- the lines of a peer's commands
pub plain_lines : (cs : List Command) → flat_map line_text (map says.Command (plain_entries cs)) ≡ flat_map (λ c. line_text (says.Command (plain c))) cs
plain_lines cs = lines_of says.Command (plain_entries cs) ∙ flat_map-map (λ e. line_text (says.Command e)) plain cs

pub marked_lines : (ps : List (ℕ × Command)) → flat_map line_text (map says.Command (marked_entries ps)) ≡ flat_map (λ p. line_text (says.Command (marked p))) ps
marked_lines ps = lines_of says.Command (marked_entries ps) ∙ flat_map-map (λ e. line_text (says.Command e)) marked ps
