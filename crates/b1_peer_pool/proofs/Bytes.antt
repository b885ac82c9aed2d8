-- Bytes written over others from one place on.
use Rattle.std.proofs.Common.{◌≡◌, ℕ, ◌+◌, ◌-◌, ◌≤◌, List, [], ◌++◌, length, take, drop, refl, sym, ap, ◌∙◌, append_assoc, arith}
use Rattle.std.proofs.lemmas.List.{append-nil, length-append, length-take-le, length-drop, take-append-drop, take_at, drop_at, drop-drop, drop-take, take-take}
use Rattle.std.proofs.Math.Seq.{take-add}
use Rattle.b1_pool.specs.Bytes.{bytes_from, written}
use Rattle.b1_peer_pool.specs.Content.{Holds}

-- ---- what stands where after a write

front-length : (start : ℕ) (new bytes : List ℕ) → start ≤ length bytes → length (take start bytes ++ new) ≡ start + length new
front-length start new bytes within = length-append (take start bytes) new ∙ ap (λ n. n + length new) (length-take-le start bytes within)

-- a write within the bytes leaves as many
pub length-written : (start : ℕ) (new bytes : List ℕ) → start + length new ≤ length bytes → length (written start new bytes) ≡ length bytes
length-written start new bytes within =
    let front = front-length start new bytes (omega (arith, within)) in
    length-append (take start bytes ++ new) (drop (start + length new) bytes)
    ∙ omega (arith, front, length-drop (start + length new) bytes, within)

take-written : (start : ℕ) (new bytes : List ℕ) → start ≤ length bytes → take start (written start new bytes) ≡ take start bytes
take-written start new bytes within =
    ap (take start) (append_assoc (take start bytes) new (drop (start + length new) bytes))
    ∙ take_at (take start bytes) (new ++ drop (start + length new) bytes) start (length-take-le start bytes within)

drop-written : (start : ℕ) (new bytes : List ℕ) → start ≤ length bytes → drop (start + length new) (written start new bytes) ≡ drop (start + length new) bytes
drop-written start new bytes within = drop_at (take start bytes ++ new) (drop (start + length new) bytes) (start + length new) (front-length start new bytes within)

-- what was written stands there
pub Holds-written : (start : ℕ) (new bytes : List ℕ) → start ≤ length bytes → Holds start (written start new bytes) new
Holds-written start new bytes within =
    ap (λ r. take (length new) r)
    (ap (drop start) (append_assoc (take start bytes) new (drop (start + length new) bytes))
    ∙ drop_at (take start bytes) (new ++ drop (start + length new) bytes) start (length-take-le start bytes within))
    ∙ take_at new (drop (start + length new) bytes) (length new) refl

front-same : (offset n start : ℕ) (old new : List ℕ) → offset + n ≤ start → take start new ≡ take start old → bytes_from offset n new ≡ bytes_from offset n old
front-same offset n start old new below same =
    sym (drop-take offset n new)
    ∙ ap (drop offset) (sym (take-take (offset + n) start new below) ∙ ap (take (offset + n)) same ∙ take-take (offset + n) start old below)
    ∙ drop-take offset n old

-- bytes in front of it stay
pub bytes_from-below : (offset n start : ℕ) (new bytes : List ℕ) → offset + n ≤ start → start ≤ length bytes → bytes_from offset n (written start new bytes) ≡ bytes_from offset n bytes
bytes_from-below offset n start new bytes below within = front-same offset n start bytes (written start new bytes) below (take-written start new bytes within)

later-same : (k offset : ℕ) (old new : List ℕ) → k ≤ offset → drop k new ≡ drop k old → drop offset new ≡ drop offset old
later-same k offset old new most same =
    let is : k + (offset - k) ≡ offset = omega (arith, most) in
    ap (λ o. drop o new) (sym is)
    ∙ sym (drop-drop (offset - k) k new)
    ∙ ap (drop (offset - k)) same
    ∙ drop-drop (offset - k) k old
    ∙ ap (λ o. drop o old) is

-- bytes behind it stay
pub bytes_from-above : (offset n start : ℕ) (new bytes : List ℕ) → start + length new ≤ offset → start ≤ length bytes → bytes_from offset n (written start new bytes) ≡ bytes_from offset n bytes
bytes_from-above offset n start new bytes above within =
    ap (take n) (later-same (start + length new) offset bytes (written start new bytes) above (drop-written start new bytes within))

-- ---- writes one after another

pub written-nothing : (start : ℕ) (bytes : List ℕ) → written start [] bytes ≡ bytes
written-nothing start bytes =
    let none : start + 0 ≡ start = omega arith in
    ap (λ r. r ++ drop (start + 0) bytes) (append-nil (take start bytes))
    ∙ ap (λ n. take start bytes ++ drop n bytes) none
    ∙ take-append-drop start bytes

-- a write right behind another is one write
pub written-written : (start : ℕ) (first second bytes : List ℕ) → start ≤ length bytes → written (start + length first) second (written start first bytes) ≡ written start (first ++ second) bytes
written-written start first second bytes within =
    let middle = start + length first in
    let both : start + length (first ++ second) ≡ middle + length second = omega (arith, length-append first second) in
    ap (λ r. r ++ second ++ drop (middle + length second) (written start first bytes)) (take_at (take start bytes ++ first) (drop middle bytes) middle (front-length start first bytes within))
    ∙ ap (λ r. take start bytes ++ first ++ second ++ r) (later-same middle (middle + length second) bytes (written start first bytes) (omega arith) (drop-written start first bytes within))
    ∙ ap (λ r. r ++ drop (middle + length second) bytes) (append_assoc (take start bytes) first second)
    ∙ ap (λ n. take start bytes ++ (first ++ second) ++ drop n bytes) (sym both)

-- ---- what is held

-- two texts one behind the other
pub Holds-append : (offset : ℕ) (bytes first second : List ℕ) → Holds offset bytes first → Holds (offset + length first) bytes second → Holds offset bytes (first ++ second)
Holds-append offset bytes first second front back =
    ap (λ n. bytes_from offset n bytes) (length-append first second)
    ∙ take-add (length first) (length second) (drop offset bytes)
    ∙ ap (λ r. take (length first) (drop offset bytes) ++ take (length second) r) (drop-drop (length first) offset bytes)
    ∙ ap (λ r. r ++ bytes_from (offset + length first) (length second) bytes) front
    ∙ ap (λ r. first ++ r) back

-- what is held stays held where the bytes stay
pub Holds-same : (offset n : ℕ) (old new expected : List ℕ) → bytes_from offset n new ≡ bytes_from offset n old → length expected ≤ n → Holds offset old expected → Holds offset new expected
Holds-same offset n old new expected same most held =
    sym (take-take (length expected) n (drop offset new) most)
    ∙ ap (take (length expected)) same
    ∙ take-take (length expected) n (drop offset old) most
    ∙ held
