-- Reading a text from left to right: the value whose text it is, or why there is none.
use Rattle.std.specs.Borrow.{Bor}
use Rattle.std.specs.Prelude.{◌≡◌, ℕ, zero, suc, ◌+◌, ◌*◌, ◌-◌, ◌%◌, ◌^◌, Bool, ◌&&◌, ◌||◌, not, ◌==◌, nat_lt, nat_le, if◌then◌else◌, List, [], ◌∷◌, ◌++◌, length, slice_index, codes, Option, Some, None, Result, Ok, Err}
use Rattle.std.specs.Str.{all_ascii_digits}
use Rattle.std.specs.Str.Parse.{digits_value}
use Rattle.b1_text_words.specs.Numbers.{invalid}
use Rattle.b1_report_lines.specs.declared.unread.Stop.{Stop}
use Rattle.b1_report_lines.specs.declared.unread.Stop.TheVariants.{Cut, Broken}
use Rattle.b1_report_lines.specs.declared.unread.Unread.{Unread}
use Rattle.b1_report_lines.specs.declared.unread.Unread.TheVariants.{Stopped, Memory}

-- the value of a text, or why the bytes are none
abbrev pub Read : Type 0 → Type 0
Read A = Result A Stop

infixl 10 ◌>>=◌
abbrev pub ◌>>=◌ : {A B : Type 0} → Read A → (A → Read B) → Read B
(Ok x) >>= f = f x
(Err e) >>= f = Err e

abbrev pub mapped : {A B : Type 0} → (A → B) → Read A → Read B
mapped f (Ok x) = Ok (f x)
mapped f (Err e) = Err e

-- what a function answered, seen by view, is what reading gives, unless memory ran out
abbrev pub Fails : {Y : Type 0} → Unread → Read Y → Type 0
Fails Memory read = Unit {0}
Fails (Stopped stop) read = read ≡ Err stop

abbrev pub Gives : {X Y : Type 0} → (X → Y) → Result X Unread → Read Y → Type 0
Gives view (Ok x) read = read ≡ Ok (view x)
Gives view (Err e) read = Fails e read

-- what stands before the first such byte, and what stands behind it
abbrev pub onto_front : ℕ → Option (List ℕ × List ℕ) → Option (List ℕ × List ℕ)
onto_front b None = None
onto_front b (Some parts) = Some (b ∷ parts.0, parts.1)

abbrev pub split_once : ℕ → List ℕ → Option (List ℕ × List ℕ)
split_once mark [] = None
split_once mark (b ∷ bs) = if b == mark then Some ([], bs) else onto_front b (split_once mark bs)

-- of a part that is not ended: the bytes end in it
abbrev pub within : {A B : Type 0} → Read A → Read B
within (Ok x) = Err Cut
within (Err e) = Err e

-- of a part that is ended: it can't go on
abbrev pub ended : {A : Type 0} → Read A → Read A
ended (Ok x) = Ok x
ended (Err e) = Err Broken

-- a value whose text ends at a mark, and the bytes behind the mark
abbrev pub part_before : {A : Type 0} → (List ℕ → Read A) → List ℕ → Option (List ℕ × List ℕ) → Read (A × List ℕ)
part_before read bytes None = within (read bytes)
part_before read bytes (Some parts) = mapped (λ x. (x, parts.1)) (ended (read parts.0))

abbrev pub before : {A : Type 0} → ℕ → (List ℕ → Read A) → List ℕ → Read (A × List ℕ)
before mark read bytes = part_before read bytes (split_once mark bytes)

-- two values with a mark between their texts
abbrev pub joined : {A B : Type 0} → ℕ → (List ℕ → Read A) → (List ℕ → Read B) → List ℕ → Read (A × B)
joined mark first second bytes = before mark first bytes >>= λ x. mapped (λ y. (x.0, y)) (second x.1)

-- the same, where the mark and the second value may be left out
abbrev pub optional_part : {A B : Type 0} → ℕ → (List ℕ → Read A) → (List ℕ → Read B) → List ℕ → Option (List ℕ × List ℕ) → Read (A × Option B)
optional_part mark first second bytes None = mapped (λ x. (x, None)) (first bytes)
optional_part mark first second bytes (Some parts) = mapped (λ x. (x.0, Some x.1)) (joined mark first second bytes)

abbrev pub optional : {A B : Type 0} → ℕ → (List ℕ → Read A) → (List ℕ → Read B) → List ℕ → Read (A × Option B)
optional mark first second bytes = optional_part mark first second bytes (split_once mark bytes)

-- the bytes behind a word
abbrev pub strip : List ℕ → List ℕ → Read (List ℕ)
strip [] bytes = Ok bytes
strip (w ∷ ws) [] = Err Cut
strip (w ∷ ws) (b ∷ bs) = if b == w then strip ws bs else Err Broken

abbrev pub behind : {A : Type 0} → List ℕ → (List ℕ → Read A) → List ℕ → Read A
behind word read bytes = strip word bytes >>= read

-- the first of two readings, or the second where no text of the first begins so
abbrev pub or_else : {A : Type 0} → Read A → Read A → Read A
or_else (Ok x) second = Ok x
or_else (Err Cut) second = Err Cut
or_else (Err Broken) second = second

-- one more word that may stand at the front, and what it tells
abbrev pub or_word : {K : Type 0} → Read (K × List ℕ) → K → List ℕ → List ℕ → Read (K × List ℕ)
or_word found kind word bytes = or_else found (mapped (λ rest. (kind, rest)) (strip word bytes))

-- nothing stands there, for a value that is known
abbrev pub only : {A : Type 0} → A → List ℕ → Read A
only x [] = Ok x
only x (b ∷ bs) = Err Broken

-- a dash for no value
abbrev pub dash : {A : Type 0} → (List ℕ → Read A) → List ℕ → Read (Option A)
dash read bytes = or_else (behind (45 ∷ []) (only None) bytes) (mapped (λ x. Some x) (read bytes))

-- values with commas between their texts, at least one, and at most so many after the first
abbrev pub with_more : {A : Type 0} → A × Option (List A) → List A
with_more (x, None) = x ∷ []
with_more (x, Some xs) = x ∷ xs

abbrev pub some_items : {A : Type 0} → ℕ → (List ℕ → Read A) → List ℕ → Read (List A)
some_items zero read bytes = mapped (λ x. x ∷ []) (read bytes)
some_items (suc n) read bytes = mapped with_more (optional 44 read (some_items n read) bytes)

abbrev pub items : {A : Type 0} → (List ℕ → Read A) → List ℕ → Read (List A)
items read bytes = some_items (length bytes) read bytes

-- a dash for none, or values with commas between their texts
abbrev pub list_of : {A : Type 0} → Option (List A) → List A
list_of None = []
list_of (Some xs) = xs

abbrev pub listed : {A : Type 0} → (List ℕ → Read A) → List ℕ → Read (List A)
listed read bytes = mapped list_of (dash (items read) bytes)

-- digits with no zero in front of others, of a number below the limit
abbrev pub is_number : ℕ → List ℕ → Bool
is_number limit bytes = (all_ascii_digits bytes && (not (slice_index bytes 0 == 48) || (length bytes == 1))) && nat_lt (digits_value 10 bytes) limit

abbrev pub number_at : ℕ → List ℕ → Read ℕ
number_at limit [] = Err Cut
number_at limit (b ∷ bs) = if is_number limit (b ∷ bs) then Ok (digits_value 10 (b ∷ bs)) else Err Broken

-- the last number behind which a digit may stand
abbrev pub last_to_go_on : ℕ
last_to_go_on = 1844674407370955161

-- a number with this rest when it is divided by four: another one can go on, until it is too large
abbrev pub rest_at : ℕ → Read ℕ → Read ℕ
rest_at rest (Ok n) = if n % 4 == rest then Ok n else (if (n == 0) || nat_lt last_to_go_on n then Err Broken else Err Cut)
rest_at rest (Err e) = Err e

abbrev pub quarter_at : ℕ → List ℕ → Read ℕ
quarter_at rest bytes = rest_at rest (number_at (2 ^ 64) bytes)

-- a number, or the word for the greatest
abbrev pub known_at : List ℕ → Read ℕ
known_at bytes = or_else (behind (codes "invalid") (only invalid) bytes) (number_at (2 ^ 64 - 1) bytes)

-- pairs of digits, at least one
abbrev pub is_hex : ℕ → Bool
is_hex c = (nat_le 48 c && nat_le c 57) || (nat_le 97 c && nat_le c 102)

abbrev pub hex_value : ℕ → ℕ
hex_value c = if nat_le c 57 then c - 48 else c - 87

abbrev pub pairs_at : List ℕ → Read (List ℕ)
pairs_at [] = Err Cut
pairs_at (h ∷ []) = if is_hex h then Err Cut else Err Broken
pairs_at (h ∷ (l ∷ [])) = if is_hex h && is_hex l then Ok ((16 * hex_value h + hex_value l) ∷ []) else Err Broken
pairs_at (h ∷ (l ∷ (b ∷ bs))) = if is_hex h && is_hex l then mapped (λ xs. (16 * hex_value h + hex_value l) ∷ xs) (pairs_at (b ∷ bs)) else Err Broken

abbrev pub hex_at : List ℕ → Read (List ℕ)
hex_at bytes = mapped list_of (dash pairs_at bytes)

-- what stands before a space at the end, where one stands there
abbrev pub IsSpaced : List ℕ → Option (Bor (List ℕ)) → Type 0
IsSpaced bytes None = (word : List ℕ) → ¬ (bytes ≡ word ++ 32 ∷ [])
IsSpaced bytes (Some word) = bytes ≡ word.now ++ 32 ∷ []
