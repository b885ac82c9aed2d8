-- A command leaves the drivers of a bus as they are, in their order.
use Rattle.std.proofs.Common.{◌≡◌, refl, sym, ap, ◌∙◌, ℕ, zero, suc, ◌<◌, List, [], ◌∷◌, length, get_or, set, slice_get, Some, Ok, Err, Result}
use Rattle.std.specs.Prelude.{OnOk, OnErr}
use native.Mathlib.Omega.{arith}
use Rattle.b1_model.specs.declared.answers.Tried.{Tried}
use Rattle.b1_model.specs.declared.answers.Tried.TheVariants.{Got, Shut, Waiting}
use Rattle.b1_locks.specs.Faces.{BusFace, DriverFace, IsOf, member, members, crew}
use Rattle.b1_locks.specs.Calls.{HasTried}
use Rattle.b1_bus.specs.Seated.{IsOn}
use Rattle.b1_bus.proofs.Crews.{at, is_crew}

read_at : {X : Type 0} (xs : List X) (i : ℕ) (x : X) → i < length xs → x ≡ get_or xs i x → slice_get xs i ≡ Some x
read_at [] i x within is = absurd (omega (arith, within))
read_at (z ∷ xs) zero x within is = ap (λ w. Some w) (sym is)
read_at (z ∷ xs) (suc i) x within is = read_at xs i x (omega (arith, within)) is

pub of_crew : (ds : List DriverFace) (b : BusFace) (p : ℕ) (d : DriverFace) → members ds ≡ crew b → p < length ds → d ≡ get_or ds p d → IsOf d b
of_crew ds b p d same within is =
    let on = at (IsOn b.table b.opening) ds (is_crew b ds b.opening.peers 0 same).each_of p d (read_at ds p d within is) in
    record { table = on.table_is; opening = on.opening_is }

set_member : (ds : List DriverFace) (p : ℕ) (d e : DriverFace) → slice_get ds p ≡ Some d → member e ≡ member d → members (set ds p e) ≡ members ds
set_member [] p d e is same = refl
set_member (x ∷ xs) zero d e is same = let here : x ≡ d = cc is in ap (λ m. m ∷ members xs) (same ∙ ap member (sym here))
set_member (x ∷ xs) (suc p) d e is same = ap (λ l. member x ∷ l) (set_member xs p d e is same)

pub still_crew : (ds : List DriverFace) (b : BusFace) (p : ℕ) (d e : DriverFace) → members ds ≡ crew b → p < length ds → d ≡ get_or ds p d → member e ≡ member d → members (set ds p e) ≡ crew b
still_crew ds b p d e same within is stays = set_member ds p d e (read_at ds p d within is) stays ∙ same

pub tried_member : (d : DriverFace) (t : Tried) (e : DriverFace) → HasTried d t e → member e ≡ member d
tried_member d Got e (receipt, calls, did) = did.member
tried_member d Shut e (calls, did) = did.member
tried_member d (Waiting front removed) e waits = waits.member

pub reserved_member : {T E : Type 0} (d e : DriverFace) (n : ℕ) (r : Result T E) → OnOk r (e ≡ record d { own = record d.own { spare = n } }) → OnErr r (e ≡ d) → member e ≡ member d
reserved_member d e n (Ok t) ok err = ap member ok
reserved_member d e n (Err t) ok err = ap member err
