-- A text breaks in one place.
use Rattle.std.proofs.Common.{◌≡◌, ℕ, ◌+◌, ◌<◌, ◌≤◌, List, [], ◌∷◌, ◌++◌, length, ◌⊎◌, inl, inr, refl, sym, ap, subst, ◌∙◌, append_assoc, arith}
use Rattle.std.proofs.lemmas.Bool.{cases_lt}
use Rattle.std.proofs.lemmas.List.{append-nil, length-append}
use Rattle.b1_text_words.proofs.Languages.{stops_before, not_free}
use Rattle.b1_text.specs.Accepted.{CanGoOn, IsLine, AreLines, BreaksAt, line, last_line, cut}
use Rattle.b1_text.proofs.Follow.{shorter}

-- ---- lists

split_front : (a x b y : List ℕ) → a ++ x ≡ b ++ y → length a ≤ length b → (m : List ℕ) × (b ≡ a ++ m) × (x ≡ m ++ y)
split_front [] x b y e within = (b, refl, e)
split_front (c ∷ a) x [] y e within = absurd (omega (arith, within))
split_front (c ∷ a) x (d ∷ b) y e within =
    let first : d ≡ c = cc in
    let others : a ++ x ≡ b ++ y = cc in
    let i = split_front a x b y others (omega (arith, within)) in
    (i.0, ap (λ (z : ℕ). z ∷ b) first ∙ ap (λ (z : List ℕ). c ∷ z) i.1, i.2)

ends_in : (x : ℕ) (f a m : List ℕ) → f ++ x ∷ [] ≡ a ++ m → length a < length (f ++ x ∷ []) → (n : List ℕ) × (m ≡ n ++ x ∷ [])
ends_in x f [] m e within = (f, sym e)
ends_in x [] (c ∷ a) m e within = absurd (omega (arith, within))
ends_in x (d ∷ f) (c ∷ a) m e within =
    let others : f ++ x ∷ [] ≡ a ++ m = cc in
    ends_in x f a m others (omega (arith, within))

cancel : (a b c : List ℕ) → a ++ b ≡ a ++ c → b ≡ c
cancel [] b c e = e
cancel (x ∷ a) b c e = let others : a ++ b ≡ a ++ c = cc in cancel a b c others

-- a line and its line feed begin what goes on to a later line feed
first_feed_in : (word after n y t : List ℕ) → word ++ t ≡ n → 10 ∷ after ≡ t ++ 10 ∷ y → (u : List ℕ) × (n ++ 10 ∷ [] ≡ word ++ 10 ∷ [] ++ u)
first_feed_in word after n y [] same left =
    ([], ap (λ (z : List ℕ). z ++ 10 ∷ []) (sym same ∙ append-nil word) ∙ sym (append-nil (word ++ 10 ∷ [])))
first_feed_in word after n y (c ∷ t) same left =
    let first : c ≡ 10 = cc in
    (t ++ 10 ∷ [], ap (λ (z : List ℕ). z ++ 10 ∷ []) (sym same) ∙ append_assoc word (c ∷ t) (10 ∷ []) ∙ ap (λ (z : ℕ). word ++ z ∷ (t ++ 10 ∷ [])) first ∙ sym (append_assoc word (10 ∷ []) (t ++ 10 ∷ [])))

first_feed : (word after n y : List ℕ) → IsLine word → word ++ 10 ∷ after ≡ n ++ 10 ∷ y → (u : List ℕ) × (n ++ 10 ∷ [] ≡ word ++ 10 ∷ [] ++ u)
first_feed word after n y unbroken e =
    let s = stops_before 10 word (10 ∷ after) n y unbroken e in
    let left : 10 ∷ after ≡ s.0 ++ 10 ∷ y = cancel word (10 ∷ after) (s.0 ++ 10 ∷ y) (e ∙ ap (λ (z : List ℕ). z ++ 10 ∷ y) (sym s.1) ∙ append_assoc word s.0 (10 ∷ y)) in
    first_feed_in word after n y s.0 s.1 left

-- ---- places

-- the bytes before the place where a text breaks
record Place (bytes : List ℕ) (at : ℕ) : Type 0 where
  front : List ℕ
  rest : List ℕ
  split : bytes ≡ front ++ rest
  place : at ≡ length front
  good : CanGoOn front
  ends : AreLines front ⊎ (rest ≡ [])

place_of : (bytes : List ℕ) (at : ℕ) → BreaksAt bytes at → Place bytes at
place_of bytes at (line before word after w place) =
    record { front = before; rest = word ++ 10 ∷ after; split = w.split ∙ append_assoc before word (10 ∷ after); place = place; good = w.good; ends = inl w.lines }
place_of bytes at (last_line before word w place) = record { front = before; rest = word; split = w.split; place = place; good = w.good; ends = inl w.lines }
place_of bytes at (cut c place) = record { front = bytes; rest = []; split = sym (append-nil bytes); place = place; good = c.good; ends = inr refl }

whole_front : (bytes : List ℕ) (at : ℕ) (p : Place bytes at) → p.rest ≡ [] → CanGoOn bytes
whole_front bytes at p none = subst (λ (x : List ℕ). CanGoOn x) (sym (append-nil p.front) ∙ ap (λ (x : List ℕ). p.front ++ x) (sym none) ∙ sym p.split) p.good

-- lines that go on past a place end behind a line feed past that place
lines_past : (a x front rest : List ℕ) → a ++ x ≡ front ++ rest → AreLines front → length a < length front → (n : List ℕ) × (front ≡ a ++ (n ++ 10 ∷ [])) × (x ≡ n ++ 10 ∷ rest)
lines_past a x front rest e (inl none) within = let n : length front ≡ 0 = ap (λ (z : List ℕ). length z) none in absurd (omega (arith, n, within))
lines_past a x front rest e (inr last) within =
    let s = split_front a x front rest e (omega (arith, within)) in
    let len : length front ≡ length (last.0 ++ 10 ∷ []) = ap (λ (z : List ℕ). length z) last.1 in
    let d = ends_in 10 last.0 a s.0 (sym last.1 ∙ s.1) (omega (arith, within, len)) in
    (d.0, s.1 ∙ ap (λ (z : List ℕ). a ++ z) d.1, s.2 ∙ ap (λ (z : List ℕ). z ++ rest) d.1 ∙ append_assoc d.0 (10 ∷ []) rest)

later : (bytes : List ℕ) (at end : ℕ) → BreaksAt bytes at → Place bytes end → at < end → ⊥
later bytes at end (line before word after w place) p less =
    elim p.ends [
      | inl lines ↦
          let parts : before ++ (word ++ 10 ∷ after) ≡ p.front ++ p.rest = sym (append_assoc before word (10 ∷ after)) ∙ sym w.split ∙ p.split in
          let past = lines_past before (word ++ 10 ∷ after) p.front p.rest parts lines (omega (arith, place, p.place, less)) in
          let feed = first_feed word after past.0 p.rest w.unbroken past.2 in
          let front : p.front ≡ before ++ word ++ 10 ∷ [] ++ feed.0
          = past.1 ∙ ap (λ (z : List ℕ). before ++ z) (feed.1 ∙ append_assoc word (10 ∷ []) feed.0) ∙ sym (append_assoc before word (10 ∷ feed.0)) ∙ sym (append_assoc (before ++ word) (10 ∷ []) feed.0) in
          w.wrong (shorter (before ++ word ++ 10 ∷ []) feed.0 (subst (λ (x : List ℕ). CanGoOn x) front p.good))
      | inr none ↦
          let whole : bytes ≡ before ++ word ++ 10 ∷ [] ++ after = w.split ∙ sym (append_assoc (before ++ word) (10 ∷ []) after) in
          w.wrong (shorter (before ++ word ++ 10 ∷ []) after (subst (λ (x : List ℕ). CanGoOn x) whole (whole_front bytes end p none)))
    ]
later bytes at end (last_line before word w place) p less =
    elim p.ends [
      | inl lines ↦
          let parts : before ++ word ≡ p.front ++ p.rest = sym w.split ∙ p.split in
          let past = lines_past before word p.front p.rest parts lines (omega (arith, place, p.place, less)) in
          not_free 10 past.0 p.rest (subst (λ (x : List ℕ). IsLine x) past.2 w.unbroken)
      | inr none ↦ w.wrong (whole_front bytes end p none)
    ]
later bytes at end (cut c place) p less =
    let len : length bytes ≡ length p.front + length p.rest = ap (λ (x : List ℕ). length x) p.split ∙ length-append p.front p.rest in
    omega (arith, len, place, p.place, less)

pub one_place : (bytes : List ℕ) (at end : ℕ) → BreaksAt bytes at → BreaksAt bytes end → at ≡ end
one_place bytes at end b d =
    elim (cases_lt at end) [
      | inl less ↦ absurd (later bytes at end b (place_of bytes end d) less)
      | inr more ↦ elim (cases_lt end at) [ inl less ↦ absurd (later bytes end at d (place_of bytes at b) less) | inr most ↦ omega (arith, more, most) ]
    ]
