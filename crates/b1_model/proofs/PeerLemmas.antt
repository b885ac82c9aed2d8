-- Sets of peers by the bits of their words.
use Rattle.std.proofs.Common.{◌≡◌, ◌≢◌, ◌⊎◌, ◌==◌, ℕ, zero, suc, ◌+◌, ◌*◌, ◌/◌, ◌%◌, ◌^◌, ◌<◌, ◌≤◌, Bool, true, false, not, ◌||◌, ◌&&◌, cond, List, [], ◌∷◌, ◌++◌, ◌-◌, map, Some, None, slice_get, append_assoc, get_or, set, drop, length, bit_or, bit_and, w64, refl, ap, sym, subst, ◌∙◌, arith, inl, inr}
use Rattle.std.specs.List.{list_any, filter, range_with_len}
use Rattle.std.specs.Int.{bit_at, bit_not}
use Rattle.std.proofs.lemmas.Bool.{cases_lt, cases_eq, le-ltb, lt-ltb, eq-eqb, ne_eqb}
use Rattle.std.proofs.lemmas.List.{append-nil, length-append, length-set, get_or_past, get_or-set_same, get_or-set_other}
use Rattle.std.proofs.lemmas.List.FromFn.{filter_of_map_range_with_len_more}
use Rattle.std.proofs.lemmas.Nat.Bits.{bit_at-zero, bit_at_set_same, bit_at_set_other, bit_at_clear_same, bit_at_clear_other}
use Rattle.b1_model.specs.declared.limits.TheConstants.{MOST_PEERS}
use Rattle.b1_model.specs.MachineTables.{with_peer}
use Rattle.b1_model.specs.Peers.{has_peer, peers_below}

-- a peer stands in a list
abbrev pub stands : ℕ → List ℕ → Bool
stands q xs = list_any (λ r. r == q) xs

-- ---- what rises

-- peers in rising order, none below the least, and each a peer that a bus can have
abbrev pub RisesFrom : ℕ → List ℕ → Type 0
RisesFrom least [] = Unit {0}
RisesFrom least (peer ∷ rest) = (least ≤ peer) × (peer < MOST_PEERS) × RisesFrom (peer + 1) rest

rises_lower : (least lower : ℕ) (xs : List ℕ) → lower ≤ least → RisesFrom least xs → RisesFrom lower xs
rises_lower least lower [] below rises = tt
rises_lower least lower (x ∷ xs) below rises = (omega (arith, below, rises.0), rises.1, rises.2)

absent : (least q : ℕ) (xs : List ℕ) → RisesFrom least xs → q < least → stands q xs ≡ false
absent least q [] rises below = refl
absent least q (x ∷ xs) rises below =
    let other : x ≢ q = omega (arith, rises.0, below) in
    let further : stands q xs ≡ false = absent (x + 1) q xs rises.2 (omega (arith, rises.0, below)) in
    rw (ne_eqb x q other) further

tail_same : (x q : ℕ) (xs ys : List ℕ) → RisesFrom (x + 1) xs → RisesFrom (x + 1) ys → stands q (x ∷ xs) ≡ stands q (x ∷ ys) → stands q xs ≡ stands q ys
tail_same x q xs ys left right same = elim (cases_eq x q) [
  | inl is ↦ absent (x + 1) q xs left (omega (arith, is)) ∙ sym (absent (x + 1) q ys right (omega (arith, is)))
  | inr other ↦ rw (ne_eqb x q other) at same
]

stands_first : (x : ℕ) (xs : List ℕ) → stands x (x ∷ xs) ≡ true
stands_first x xs = ap (λ b. b || stands x xs) (eq-eqb x x refl)

-- rising lists with the same peers are the same
pub same_peers : (least : ℕ) (xs ys : List ℕ) → RisesFrom least xs → RisesFrom least ys → ((q : ℕ) → stands q xs ≡ stands q ys) → xs ≡ ys
same_peers least [] [] left right same = refl
same_peers least [] (y ∷ ys) left right same = absurd (let is : false ≡ true = same y ∙ stands_first y ys in cc)
same_peers least (x ∷ xs) [] left right same = absurd (let is : false ≡ true = sym (same x) ∙ stands_first x xs in cc)
same_peers least (x ∷ xs) (y ∷ ys) left right same = elim (cases_eq x y) [
  | inl is ↦
      let mine : RisesFrom (y + 1) xs = subst (λ n. RisesFrom (n + 1) xs) is left.2 in
      ap (λ z. z ∷ xs) is ∙ ap (λ l. y ∷ l) (same_peers (y + 1) xs ys mine right.2 (λ q. tail_same y q xs ys mine right.2 (ap (λ z. stands q (z ∷ xs)) (sym is) ∙ same q)))
  | inr other ↦ absurd (elim (cases_lt x y) [
    | inl below ↦ let is : true ≡ false = sym (stands_first x xs) ∙ same x ∙ absent y x (y ∷ ys) (omega arith, right.1, right.2) below in cc
    | inr above ↦ let is : true ≡ false = sym (stands_first y ys) ∙ sym (same y) ∙ absent x y (x ∷ xs) (omega arith, left.1, left.2) (omega (arith, above, other)) in cc
  ])
]

-- ---- the list of the words

filter_rises : (f : ℕ → Bool) (a n : ℕ) → a + n ≤ MOST_PEERS → RisesFrom a (filter f (range_with_len a n))
filter_rises f a zero few = tt
filter_rises f a (suc n) few =
    let rest : RisesFrom (a + 1) (filter f (range_with_len (a + 1) n)) = filter_rises f (a + 1) n (omega (arith, few)) in
    elim (f a) as (λ b. RisesFrom a (cond b (a ∷ filter f (range_with_len (a + 1) n)) (filter f (range_with_len (a + 1) n)))) [
      | true ↦ (omega arith, omega (arith, few), rest)
      | false ↦ rises_lower (a + 1) a (filter f (range_with_len (a + 1) n)) (omega arith) rest
    ]

pub view_rises : (words : List ℕ) → RisesFrom 0 (peers_below MOST_PEERS words)
unfolding peers_below
view_rises words = filter_rises (has_peer words) 0 MOST_PEERS (omega arith)

and_false : (b : Bool) → (b && false) ≡ false
and_false true = refl
and_false false = refl

or_and : (f q rest : Bool) → (f && (q || rest)) ≡ ((f && q) || (f && rest))
or_and true q rest = refl
or_and false q rest = refl

filter_step : (f : ℕ → Bool) (q x : ℕ) (xs : List ℕ) → stands q (filter f xs) ≡ (f q && stands q xs) → (b : Bool) → f x ≡ b → (x ≡ q) ⊎ (x ≢ q) → stands q (cond b (x ∷ filter f xs) (filter f xs)) ≡ (f q && ((x == q) || stands q xs))
filter_step f q x xs further true holds (inl same) = rw (eq-eqb x q same) (sym (ap (λ b. b && true) (ap f (sym same) ∙ holds)))
filter_step f q x xs further true holds (inr other) = rw (ne_eqb x q other) further
filter_step f q x xs further false fails (inl same) = further ∙ ap (λ b. b && stands q xs) (ap f (sym same) ∙ fails) ∙ sym (ap (λ b. b && ((x == q) || stands q xs)) (ap f (sym same) ∙ fails))
filter_step f q x xs further false fails (inr other) = rw (ne_eqb x q other) further

stands_filter : (f : ℕ → Bool) (q : ℕ) (xs : List ℕ) → stands q (filter f xs) ≡ (f q && stands q xs)
stands_filter f q [] = sym (and_false (f q))
stands_filter f q (x ∷ xs) = filter_step f q x xs (stands_filter f q xs) (f x) refl (cases_eq x q)

stands_range : (a n q : ℕ) → a ≤ q → q < a + n → stands q (range_with_len a n) ≡ true
stands_range a zero q above below = absurd (omega (arith, above, below))
stands_range a (suc n) q above below = elim (cases_eq a q) [
  | inl same ↦ ap (λ b. b || stands q (range_with_len (a + 1) n)) (eq-eqb a q same)
  | inr other ↦ rw (ne_eqb a q other) (stands_range (a + 1) n q (omega (arith, above, other)) (omega (arith, below)))
]

past_range : (a n q : ℕ) → a + n ≤ q → stands q (range_with_len a n) ≡ false
past_range a zero q past = refl
past_range a (suc n) q past = rw (ne_eqb a q (omega (arith, past))) (past_range (a + 1) n q (omega (arith, past)))

and_true : (b : Bool) → (b && true) ≡ b
and_true true = refl
and_true false = refl

-- who stands in the list of the words
pub stands_below : (most q : ℕ) (words : List ℕ) → q < most → stands q (peers_below most words) ≡ has_peer words q
unfolding peers_below
stands_below most q words below = stands_filter (has_peer words) q (range_with_len 0 most) ∙ ap (λ b. has_peer words q && b) (stands_range 0 most q (omega arith) (omega (arith, below))) ∙ and_true (has_peer words q)

pub stands_past : (most q : ℕ) (words : List ℕ) → most ≤ q → stands q (peers_below most words) ≡ false
unfolding peers_below
stands_past most q words past = stands_filter (has_peer words) q (range_with_len 0 most) ∙ ap (λ b. has_peer words q && b) (past_range 0 most q (omega (arith, past))) ∙ and_false (has_peer words q)

pub no_peers : peers_below MOST_PEERS (0 ∷ 0 ∷ 0 ∷ 0 ∷ 0 ∷ 0 ∷ 0 ∷ 0 ∷ 0 ∷ 0 ∷ 0 ∷ 0 ∷ 0 ∷ 0 ∷ 0 ∷ 0 ∷ []) ≡ []
unfolding peers_below
no_peers = refl

-- who stands there is whose bit is set, where no word is behind the last
pub stands_in : (words : List ℕ) → length words ≡ 16 → (q : ℕ) → stands q (peers_below MOST_PEERS words) ≡ has_peer words q
stands_in words many q = elim (cases_lt q MOST_PEERS) [
  | inl below ↦ stands_below MOST_PEERS q words below
  | inr past ↦ stands_past MOST_PEERS q words past ∙ sym (outside words many q past)
]
  where
    outside : (words : List ℕ) → length words ≡ 16 → (q : ℕ) → MOST_PEERS ≤ q → has_peer words q ≡ false
    outside words many q past =
        let behind : length words ≤ q / 64 = omega (arith, many, past) in
        ap (λ w. bit_at w (q % 64) == 1) (get_or_past words (q / 64) 0 behind) ∙ ap (λ n. n == 1) (bit_at-zero (q % 64))

-- ---- a peer joins

same_place : (p q : ℕ) → p / 64 ≡ q / 64 → p % 64 ≡ q % 64 → p ≡ q
same_place p q word bit = omega (arith, word, bit)

pub joined : (words : List ℕ) (p q : ℕ) → p / 64 < length words → has_peer (set words (p / 64) (bit_or (get_or words (p / 64) 0) (1 * 2 ^ (p % 64) % 2 ^ 64))) q ≡ ((p == q) || has_peer words q)
joined words p q within = elim (cases_eq (q / 64) (p / 64)) [
  | inl word ↦ elim (cases_eq (q % 64) (p % 64)) [
    | inl bit ↦ ap (λ w. bit_at w (q % 64) == 1) (here word) ∙ ap (λ n. n == 1) (ap (bit_at new) bit ∙ bit_at_set_same w64 old (p % 64) (omega arith)) ∙ sym (ap (λ b. b || has_peer words q) (eq-eqb p q (same_place p q (sym word) (sym bit))))
    | inr other ↦ ap (λ w. bit_at w (q % 64) == 1) (here word) ∙ ap (λ n. n == 1) (bit_at_set_other w64 old (p % 64) (omega arith) (q % 64) other) ∙ ap (λ i. bit_at (get_or words i 0) (q % 64) == 1) (sym word) ∙ sym (ap (λ b. b || has_peer words q) (ne_eqb p q (λ same. other (ap (λ n. n % 64) (sym same)))))
  ]
  | inr other ↦ ap (λ w. bit_at w (q % 64) == 1) (get_or-set_other words (p / 64) (q / 64) new 0 other) ∙ sym (ap (λ b. b || has_peer words q) (ne_eqb p q (λ same. other (ap (λ n. n / 64) (sym same)))))
]
  where
    old : ℕ
    old = get_or words (p / 64) 0

    new : ℕ
    new = bit_or (get_or words (p / 64) 0) (1 * 2 ^ (p % 64) % 2 ^ 64)

    here : q / 64 ≡ p / 64 → get_or (set words (p / 64) new) (q / 64) 0 ≡ new
    here word = ap (λ i. get_or (set words (p / 64) new) i 0) word ∙ get_or-set_same words (p / 64) new 0 within

-- ---- one peer more

pub one_more : (n : ℕ) (words : List ℕ) → peers_below (n + 1) words ≡ peers_below n words ++ cond (has_peer words n) (n ∷ []) []
unfolding peers_below
one_more n words = grow (has_peer words) 0 n n (omega arith)
  where
    grow : (f : ℕ → Bool) (a n j : ℕ) → a + n ≡ j → filter f (range_with_len a (n + 1)) ≡ filter f (range_with_len a n) ++ cond (f j) (j ∷ []) []
    grow f a n j is = ap (filter f) (sym (map_id (range_with_len a (n + 1)))) ∙ filter_of_map_range_with_len_more f (λ i. i) a n j is ∙ ap (λ l. filter f l ++ cond (f j) (j ∷ []) []) (map_id (range_with_len a n))
      where
        map_id : (xs : List ℕ) → map (λ i. i) xs ≡ xs
        map_id [] = refl
        map_id (x ∷ xs) = ap (λ l. x ∷ l) (map_id xs)

pub none_below : (words : List ℕ) → peers_below 0 words ≡ []
unfolding peers_below
none_below words = refl

-- the list of fewer peers is the first part of the list of more
pub first_part : (n more : ℕ) (words : List ℕ) → (rest : List ℕ) × (peers_below (n + more) words ≡ peers_below n words ++ rest)
first_part n zero words = let same : n + 0 ≡ n = omega arith in ([], ap (λ m. peers_below m words) same ∙ sym (append-nil (peers_below n words)))
first_part n (suc more) words =
    let (rest, is) = first_part n more words in
    let next : n + suc more ≡ n + more + 1 = omega arith in
    (rest ++ cond (has_peer words (n + more)) ((n + more) ∷ []) [], ap (λ m. peers_below m words) next ∙ one_more (n + more) words ∙ ap (λ l. l ++ cond (has_peer words (n + more)) ((n + more) ∷ []) []) is ∙ append_assoc (peers_below n words) rest (cond (has_peer words (n + more)) ((n + more) ∷ []) []))

read_behind : (xs rest : List ℕ) (n : ℕ) → slice_get (xs ++ n ∷ rest) (length xs) ≡ Some n
read_behind [] rest n = refl
read_behind (x ∷ xs) rest n = read_behind xs rest n

-- the peer behind so many others
pub found_behind : (n : ℕ) (words : List ℕ) → n < MOST_PEERS → has_peer words n ≡ true → slice_get (peers_below MOST_PEERS words) (length (peers_below n words)) ≡ Some n
found_behind n words within has =
    let (rest, is) = first_part (n + 1) (MOST_PEERS - (n + 1)) words in
    let all : n + 1 + (MOST_PEERS - (n + 1)) ≡ MOST_PEERS = omega (arith, within) in
    let here : peers_below (n + 1) words ≡ peers_below n words ++ n ∷ [] = one_more n words ∙ ap (λ b. peers_below n words ++ cond b (n ∷ []) []) has in
    let whole : peers_below MOST_PEERS words ≡ peers_below n words ++ n ∷ rest = ap (λ m. peers_below m words) (sym all) ∙ is ∙ ap (λ l. l ++ rest) here ∙ append_assoc (peers_below n words) (n ∷ []) rest in
    ap (λ l. slice_get l (length (peers_below n words))) whole ∙ read_behind (peers_below n words) rest n

-- how many there are, with one peer more
pub count_more : (n : ℕ) (words : List ℕ) (b : Bool) → has_peer words n ≡ b → length (peers_below (n + 1) words) ≡ length (peers_below n words) + cond b 1 0
count_more n words true has = ap length (one_more n words ∙ ap (λ c. peers_below n words ++ cond c (n ∷ []) []) has) ∙ length-append (peers_below n words) (n ∷ [])
count_more n words false has =
    let same = ap length (one_more n words ∙ ap (λ c. peers_below n words ++ cond c (n ∷ []) []) has ∙ append-nil (peers_below n words)) in
    omega (arith, same)

-- below a number there are at most so many
pub count_few : (n : ℕ) (words : List ℕ) → length (peers_below n words) ≤ n
count_few zero words = let k = ap length (none_below words) in omega (arith, k)
count_few (suc n) words =
    let before = count_few n words in
    let next : n + 1 ≡ suc n = omega arith in
    subst (λ m. length (peers_below m words) ≤ m) next (by (has_peer words n) refl before)
  where
    by : (b : Bool) → has_peer words n ≡ b → length (peers_below n words) ≤ n → length (peers_below (n + 1) words) ≤ n + 1
    by true has before = let k = count_more n words true has in omega (arith, k, before)
    by false has before = let k = count_more n words false has in omega (arith, k, before)

-- ---- a peer leaves

pub left_out : (words : List ℕ) (p q : ℕ) → p / 64 < length words → has_peer (set words (p / 64) (bit_and (get_or words (p / 64) 0) (bit_not w64 (1 * 2 ^ (p % 64) % 2 ^ 64)))) q ≡ (not (p == q) && has_peer words q)
left_out words p q within = elim (cases_eq (q / 64) (p / 64)) [
  | inl word ↦ elim (cases_eq (q % 64) (p % 64)) [
    | inl bit ↦ ap (λ w. bit_at w (q % 64) == 1) (here word) ∙ ap (λ n. n == 1) (ap (bit_at new) bit ∙ bit_at_clear_same w64 old (p % 64) (omega arith)) ∙ sym (ap (λ b. not b && has_peer words q) (eq-eqb p q (same_place p q (sym word) (sym bit))))
    | inr other ↦ ap (λ w. bit_at w (q % 64) == 1) (here word) ∙ ap (λ n. n == 1) (bit_at_clear_other w64 old (p % 64) (omega arith) (q % 64) (omega arith) other) ∙ ap (λ i. bit_at (get_or words i 0) (q % 64) == 1) (sym word) ∙ sym (ap (λ b. not b && has_peer words q) (ne_eqb p q (λ same. other (ap (λ n. n % 64) (sym same)))))
  ]
  | inr other ↦ ap (λ w. bit_at w (q % 64) == 1) (get_or-set_other words (p / 64) (q / 64) new 0 other) ∙ sym (ap (λ b. not b && has_peer words q) (ne_eqb p q (λ same. other (ap (λ n. n / 64) (sym same)))))
]
  where
    old : ℕ
    old = get_or words (p / 64) 0

    new : ℕ
    new = bit_and (get_or words (p / 64) 0) (bit_not w64 (1 * 2 ^ (p % 64) % 2 ^ 64))

    here : q / 64 ≡ p / 64 → get_or (set words (p / 64) new) (q / 64) 0 ≡ new
    here word = ap (λ i. get_or (set words (p / 64) new) i 0) word ∙ get_or-set_same words (p / 64) new 0 within

-- ---- the sets as lists

rises_with : (least p : ℕ) (xs : List ℕ) → least ≤ p → p < MOST_PEERS → RisesFrom least xs → RisesFrom least (with_peer p xs)
rises_with least p [] above small rises = (above, small, tt)
rises_with least p (x ∷ xs) above small rises =
    elim (cases_lt p x) [
      | inl below ↦ rw (lt-ltb p x below) (above, small, (omega arith, rises.1, rises.2))
      | inr not_below ↦
          elim (cases_eq p x) [
            | inl same ↦ rw (le-ltb p x not_below, eq-eqb p x same) rises
            | inr other ↦ rw (le-ltb p x not_below, ne_eqb p x other) (rises.0, rises.1, rises_with (x + 1) p xs (omega arith) small rises.2)
          ]
    ]

or_swap : (a b c : Bool) → (a || (b || c)) ≡ (b || (a || c))
or_swap true true c = refl
or_swap true false c = refl
or_swap false b c = refl

or_twice : (a b c : Bool) → a ≡ b → (a || c) ≡ (b || (a || c))
or_twice true true c same = refl
or_twice true false c same = refl
or_twice false true c same = absurd cc
or_twice false false c same = refl

-- who is there once a peer joined
pub members : (p q : ℕ) (xs : List ℕ) → stands q (with_peer p xs) ≡ ((p == q) || stands q xs)
members p q [] = refl
members p q (x ∷ zs) =
    let further = members p q zs in
    elim (cases_lt p x) [
      | inl below ↦ rw (lt-ltb p x below) refl
      | inr not_below ↦
          elim (cases_eq p x) [
            | inl same ↦ rw (le-ltb p x not_below, eq-eqb p x same) (or_twice (x == q) (p == q) (stands q zs) (ap (λ y. y == q) (sym same)))
            | inr other ↦ rw (le-ltb p x not_below, ne_eqb p x other) (ap (λ b. (x == q) || b) further ∙ or_swap (x == q) (p == q) (stands q zs))
          ]
    ]

-- a set with one more bit is the set with one more peer
pub with_bit : (words : List ℕ) (p : ℕ) → length words ≡ 16 → p < MOST_PEERS → peers_below MOST_PEERS (set words (p / 64) (bit_or (get_or words (p / 64) 0) (1 * 2 ^ (p % 64) % 2 ^ 64))) ≡ with_peer p (peers_below MOST_PEERS words)
with_bit words p many small =
    let more : List ℕ = set words (p / 64) (bit_or (get_or words (p / 64) 0) (1 * 2 ^ (p % 64) % 2 ^ 64)) in
    let as_many : length more ≡ 16 = length-set words (p / 64) (bit_or (get_or words (p / 64) 0) (1 * 2 ^ (p % 64) % 2 ^ 64)) ∙ many in
    same_peers 0 (peers_below MOST_PEERS more) (with_peer p (peers_below MOST_PEERS words)) (view_rises more) (rises_with 0 p (peers_below MOST_PEERS words) (omega arith) small (view_rises words)) (λ q.
    stands_in more as_many q ∙ joined words p q (omega (arith, many, small)) ∙ ap (λ b. (p == q) || b) (sym (stands_in words many q)) ∙ sym (members p q (peers_below MOST_PEERS words)))

rest_rises : (xs : List ℕ) → RisesFrom 0 xs → RisesFrom 0 (drop 1 xs)
rest_rises [] rises = tt
rest_rises (x ∷ xs) rises = rises_lower (x + 1) 0 xs (omega arith) rises.2

rest_stands : (xs : List ℕ) (p q : ℕ) → RisesFrom 0 xs → Some p ≡ slice_get xs 0 → stands q (drop 1 xs) ≡ (not (p == q) && stands q xs)
rest_stands [] p q rises first = absurd (cc first)
rest_stands (x ∷ xs) p q rises first =
    let same : p ≡ x = cc first in
    elim (cases_eq x q) [
      | inl is ↦ absent (x + 1) q xs rises.2 (omega (arith, is)) ∙ sym (ap (λ b. not b && stands q (x ∷ xs)) (eq-eqb p q (same ∙ is)))
      | inr other ↦ sym (ap (λ b. not b && stands q (x ∷ xs)) (ne_eqb p q (λ is. other (sym same ∙ is))) ∙ ap (λ b. b || stands q xs) (ne_eqb x q other))
    ]

-- a set without the bit of its least peer is the rest
pub without_bit : (words : List ℕ) (p : ℕ) → length words ≡ 16 → p < MOST_PEERS → Some p ≡ slice_get (peers_below MOST_PEERS words) 0
    → peers_below MOST_PEERS (set words (p / 64) (bit_and (get_or words (p / 64) 0) (bit_not w64 (1 * 2 ^ (p % 64) % 2 ^ 64)))) ≡ drop 1 (peers_below MOST_PEERS words)
without_bit words p many small first =
    let less : List ℕ = set words (p / 64) (bit_and (get_or words (p / 64) 0) (bit_not w64 (1 * 2 ^ (p % 64) % 2 ^ 64))) in
    let as_many : length less ≡ 16 = length-set words (p / 64) (bit_and (get_or words (p / 64) 0) (bit_not w64 (1 * 2 ^ (p % 64) % 2 ^ 64))) ∙ many in
    same_peers 0 (peers_below MOST_PEERS less) (drop 1 (peers_below MOST_PEERS words)) (view_rises less) (rest_rises (peers_below MOST_PEERS words) (view_rises words)) (λ q.
    stands_in less as_many q ∙ left_out words p q (omega (arith, many, small)) ∙ ap (λ b. not (p == q) && b) (sym (stands_in words many q)) ∙ sym (rest_stands (peers_below MOST_PEERS words) p q (view_rises words) first))

-- nothing is read past the end
pub read_past : (xs : List ℕ) (i : ℕ) → length xs ≤ i → slice_get xs i ≡ None
read_past [] i past = refl
read_past (x ∷ xs) zero past = absurd (omega (arith, past))
read_past (x ∷ xs) (suc i) past = read_past xs i (omega (arith, past))

-- the least peer is one that a bus can have
pub first_few : (words : List ℕ) (p : ℕ) → Some p ≡ slice_get (peers_below MOST_PEERS words) 0 → p < MOST_PEERS
first_few words p first = least (peers_below MOST_PEERS words) (view_rises words) first
  where
    least : (xs : List ℕ) → RisesFrom 0 xs → Some p ≡ slice_get xs 0 → p < MOST_PEERS
    least [] rises first = absurd (cc first)
    least (x ∷ xs) rises first = let same : p ≡ x = cc first in omega (arith, same, rises.1)
