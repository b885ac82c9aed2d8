-- Reading values one after the other, as a loop does.
use Rattle.std.proofs.Common.{◌≡◌, ℕ, suc, ◌-◌, ◌+◌, ◌≤◌, ◌<◌, List, [], ◌∷◌, ◌++◌, Ok, Err, refl, sym, ap, ◌∙◌, append_assoc, arith}
use Rattle.std.proofs.lemmas.List.{append-nil}
use Rattle.b1_errs.specs.declared.NotRead.{NotRead}
use Rattle.b1_errs.specs.declared.NotRead.TheVariants.{Bad, Memory}
use Rattle.b1_records.specs.Reading.{◌>>=◌, Read, Fails, many}

-- what was read before, and what is still read
abbrev pub with_front : {A : Type 0} → List A → Read (List A) → Read (List A)
with_front front read = read >>= λ x. Ok (front ++ x.0, x.1)

pub regroup : {A : Type 0} (front : List A) (a : A) (read : Read (List A)) → with_front front (read >>= λ x. Ok (a ∷ x.0, x.1)) ≡ with_front (front ++ a ∷ []) read
regroup {A = A} front a (Ok x) = ap (λ (as' : List A). Ok (as', x.1)) (sym (append_assoc front (a ∷ []) x.0))
regroup front a (Err f) = refl

pub goes_on : {A : Type 0} (read : ℕ → Read A) (front : List A) (count i at : ℕ) (a : A) (end : ℕ) (total : Read (List A)) → i < count → read at ≡ Ok (a, end)
    → with_front front (many read (count - i) at) ≡ total → with_front (front ++ a ∷ []) (many read (count - (i + 1)) end) ≡ total
goes_on read front count i at a end total lt h so_far =
    let k : count - i ≡ suc (count - (i + 1)) = omega arith in
    let one : with_front front (many read (count - i) at) ≡ with_front (front ++ a ∷ []) (many read (count - (i + 1)) end) = rw (k, h) (regroup front a (many read (count - (i + 1)) end)) in
    sym one ∙ so_far

pub ends : {A : Type 0} (read : ℕ → Read A) (e : NotRead) (front : List A) (count i at : ℕ) (total : Read (List A)) → i < count → Fails e (read at)
    → with_front front (many read (count - i) at) ≡ total → Fails e total
ends read Memory front count i at total lt h so_far = tt
ends read (Bad place cause) front count i at total lt h so_far =
    let k : count - i ≡ suc (count - (i + 1)) = omega arith in
    let one : with_front front (many read (count - i) at) ≡ Err (place, cause) = rw (k, h) refl in
    sym so_far ∙ one

pub is_done : {A : Type 0} (read : ℕ → Read A) (front : List A) (count i at : ℕ) (total : Read (List A)) → count ≤ i → with_front front (many read (count - i) at) ≡ total → total ≡ Ok (front, at)
is_done {A = A} read front count i at total le so_far =
    let k : count - i ≡ 0 = omega arith in
    let one : with_front front (many read (count - i) at) ≡ Ok (front, at) = rw k (ap (λ (as' : List A). Ok (as', at)) (append-nil front)) in
    sym so_far ∙ one
