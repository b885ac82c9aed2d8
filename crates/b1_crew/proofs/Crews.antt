-- Drivers of a bus: what each of them does leaves them all its drivers.
use Rattle.std.proofs.Common.{◌≡◌, ℕ, zero, suc, List, [], ◌∷◌, length, set, slice_get, Some, refl, ap, ◌∙◌, arith}
use Rattle.b1_locks.specs.Faces.{BusFace, DriverFace, Member, IsOf, member, members}
use Rattle.b1_bus.specs.Seated.{IsOn}
use Rattle.b1_bus.proofs.Crews.{at}
use Rattle.b1_bus.proofs.States.{all_on}
use Rattle.b1_crew.specs.Parts.{IsStill, AreAll}

on_of : (b : BusFace) (d : DriverFace) → IsOn b.table b.opening d → IsOf d b
on_of b d on = record { table = on.table_is; opening = on.opening_is }

-- each is one of the bus
pub one_of : (b : BusFace) (ds : List DriverFace) → AreAll b ds → (p : ℕ) (d : DriverFace) → slice_get ds p ≡ Some d → IsOf d b
one_of b ds all p d is = on_of b d (at (IsOn b.table b.opening) ds (all_on b ds all) p d is)

pub still_of : (b : BusFace) (d e : DriverFace) → IsOf d b → IsStill d e → IsOf e b
still_of b d e on same = record { table = ap (λ (m : Member). m.table) same ∙ on.table; opening = ap (λ (m : Member). m.opening) same ∙ on.opening }

-- one that stays what it was
members_set : (ds : List DriverFace) (p : ℕ) (e : DriverFace) → ((d : DriverFace) → slice_get ds p ≡ Some d → IsStill d e) → members (set ds p e) ≡ members ds
members_set [] p e same = refl
members_set (d ∷ ds) zero e same = ap (λ m. m ∷ members ds) (same d refl)
members_set (d ∷ ds) (suc p) e same = ap (λ l. member d ∷ l) (members_set ds p e same)

pub all_set : (b : BusFace) (ds : List DriverFace) (p : ℕ) (e : DriverFace) → AreAll b ds → ((d : DriverFace) → slice_get ds p ≡ Some d → IsStill d e) → AreAll b (set ds p e)
all_set b ds p e all same = members_set ds p e same ∙ all

-- all that stay what they were
pub members_still : (ds es : List DriverFace) → length es ≡ length ds → ((p : ℕ) (d e : DriverFace) → slice_get ds p ≡ Some d → slice_get es p ≡ Some e → IsStill d e) → members es ≡ members ds
members_still [] [] long same = refl
members_still [] (e ∷ es) long same = absurd (omega (arith, long))
members_still (d ∷ ds) [] long same = absurd (omega (arith, long))
members_still (d ∷ ds) (e ∷ es) long same =
    ap (λ m. m ∷ members es) (same 0 d e refl refl)
    ∙ ap (λ l. member d ∷ l) (members_still ds es (omega (arith, long)) (λ p f g is is'. same (suc p) f g is is'))

pub all_still : (b : BusFace) (ds es : List DriverFace) → AreAll b ds → length es ≡ length ds → ((p : ℕ) (d e : DriverFace) → slice_get ds p ≡ Some d → slice_get es p ≡ Some e → IsStill d e) → AreAll b es
all_still b ds es all long same = members_still ds es long same ∙ all
