-- Reading wires one after the other, as a loop does.
use Rattle.std.proofs.Common.{◌≡◌, ℕ, suc, ◌-◌, ◌+◌, ◌≤◌, ◌<◌, List, [], ◌∷◌, ◌++◌, Ok, Err, refl, sym, ap, ◌∙◌, arith}
use Rattle.std.proofs.lemmas.List.{append-nil}
use Rattle.b1_errs.specs.declared.NotRead.{NotRead}
use Rattle.b1_errs.specs.declared.NotRead.TheVariants.{Bad, Memory}
use Rattle.b1_model.specs.declared.naming.Wire.{Wire}
use Rattle.b1_model.specs.Opening.{after_wire}
use Rattle.b1_records.specs.Reading.{Read, Fails}
use Rattle.b1_records.proofs.Loop.{with_front, regroup}
use Rattle.b1_script.specs.Reading.{wire_at, wires_at}

pub wires_go_on : (limit : ℕ) (bytes : List ℕ) (n : ℕ) (held : List Wire) (front : List Wire) (count i at : ℕ) (w : Wire) (end : ℕ) (total : Read (List Wire)) → i < count → wire_at limit bytes n held at ≡ Ok (w, end)
    → with_front front (wires_at limit bytes n held (count - i) at) ≡ total → with_front (front ++ w ∷ []) (wires_at limit bytes n (after_wire held w) (count - (i + 1)) end) ≡ total
wires_go_on limit bytes n held front count i at w end total lt h so_far =
    let k : count - i ≡ suc (count - (i + 1)) = omega arith in
    let one : with_front front (wires_at limit bytes n held (count - i) at) ≡ with_front (front ++ w ∷ []) (wires_at limit bytes n (after_wire held w) (count - (i + 1)) end) = rw (k, h) (regroup front w (wires_at limit bytes n (after_wire held w) (count - (i + 1)) end)) in
    sym one ∙ so_far

pub wires_fail : (limit : ℕ) (bytes : List ℕ) (n : ℕ) (held : List Wire) (e : NotRead) (front : List Wire) (count i at : ℕ) (total : Read (List Wire)) → i < count → Fails e (wire_at limit bytes n held at)
    → with_front front (wires_at limit bytes n held (count - i) at) ≡ total → Fails e total
wires_fail limit bytes n held Memory front count i at total lt h so_far = tt
wires_fail limit bytes n held (Bad place cause) front count i at total lt h so_far =
    let k : count - i ≡ suc (count - (i + 1)) = omega arith in
    let one : with_front front (wires_at limit bytes n held (count - i) at) ≡ Err (place, cause) = rw (k, h) refl in
    sym so_far ∙ one

pub wires_done : (limit : ℕ) (bytes : List ℕ) (n : ℕ) (held : List Wire) (front : List Wire) (count i at : ℕ) (total : Read (List Wire)) → count ≤ i → with_front front (wires_at limit bytes n held (count - i) at) ≡ total → total ≡ Ok (front, at)
wires_done limit bytes n held front count i at total le so_far =
    let k : count - i ≡ 0 = omega arith in
    let one : with_front front (wires_at limit bytes n held (count - i) at) ≡ Ok (front, at) = rw k (ap (λ (ws : List Wire). Ok (ws, at)) (append-nil front)) in
    sym so_far ∙ one
